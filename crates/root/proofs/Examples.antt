-- Closed examples of the definition, as patterns: antt computes each. Assumes nothing.
use mathlib.Core.Path.{◌≡◌, refl}
use Prim.Native.Nat.{ℕ}
use lib.Ieee.{binary64, of_bits, to_bits}
use Rattle.root.specs.Root.{sqrt_of}

abbrev root : ℕ → ℕ
root b = to_bits binary64 (sqrt_of (of_bits binary64 b))

-- √4 is 2
four : root 0x4010_0000_0000_0000 ≡ 0x4000_0000_0000_0000
unfolding of_bits to_bits sqrt_of
four = refl

-- √2
two : root 0x4000_0000_0000_0000 ≡ 0x3FF6_A09E_667F_3BCD
unfolding of_bits to_bits sqrt_of
two = refl

-- the smallest value, 2 ^ -1074: its root is 2 ^ -537
smallest : root 1 ≡ 0x1E60_0000_0000_0000
unfolding of_bits to_bits sqrt_of
smallest = refl

-- the largest
largest : root 0x7FEF_FFFF_FFFF_FFFF ≡ 0x5FEF_FFFF_FFFF_FFFF
unfolding of_bits to_bits sqrt_of
largest = refl

-- -0.0 is its own root
minus-zero : root 0x8000_0000_0000_0000 ≡ 0x8000_0000_0000_0000
unfolding of_bits to_bits sqrt_of
minus-zero = refl

-- -1.0, and the negative infinity, have none
minus_one : root 0xBFF0_0000_0000_0000 ≡ 0x7FF8_0000_0000_0000
unfolding of_bits to_bits sqrt_of
minus_one = refl

minus-infinity : root 0xFFF0_0000_0000_0000 ≡ 0x7FF8_0000_0000_0000
unfolding of_bits to_bits sqrt_of
minus-infinity = refl
