-- The definitions of specs/Value.antt at values by their patterns, each computed. Assumes nothing.
use Rattle.std.proofs.Common.{◌≡◌, true, false, refl}
use lib.Ieee.{binary64, of_bits}
use Rattle.ieee.specs.Value.{abs_of, floor_of, total_lt}

-- the absolute value of −0.0 is 0.0
abs-of-minus-zero : abs_of (of_bits binary64 0x8000000000000000) ≡ of_bits binary64 0
unfolding abs_of of_bits
abs-of-minus-zero = refl

-- the floor of 2.5 is 2.0, of −0.5 it is −1.0, and of −0.0 it is −0.0
floor-above : floor_of (of_bits binary64 0x4004000000000000) ≡ of_bits binary64 0x4000000000000000
unfolding floor_of of_bits
floor-above = refl

floor-below : floor_of (of_bits binary64 0xBFE0000000000000) ≡ of_bits binary64 0xBFF0000000000000
unfolding floor_of of_bits
floor-below = refl

floor-of-minus-zero : floor_of (of_bits binary64 0x8000000000000000) ≡ of_bits binary64 0x8000000000000000
unfolding floor_of of_bits
floor-of-minus-zero = refl

-- −0.0 stands before 0.0 and not behind it, and +∞ before NaN
zeros-in-order : total_lt (of_bits binary64 0x8000000000000000) (of_bits binary64 0) ≡ true
unfolding total_lt of_bits
zeros-in-order = refl

zeros-out-of-order : total_lt (of_bits binary64 0) (of_bits binary64 0x8000000000000000) ≡ false
unfolding total_lt of_bits
zeros-out-of-order = refl

nan-above-all : total_lt (of_bits binary64 0x7FF0000000000000) (of_bits binary64 0x7FF8000000000000) ≡ true
unfolding total_lt of_bits
nan-above-all = refl
