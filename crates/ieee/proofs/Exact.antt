-- Integers of at most 2 ^ 53 either way are floats exactly: the machine's cast of one is defined, and the float has the integer's value.
-- Assumes nothing.
use Rattle.std.proofs.Common.{◌≡◌, ℕ, suc, ◌^◌, ◌<◌, ◌≤◌, Bool, true, false, T, ℤ, pos, negsuc, refl, arith, le→leb, lt→ltb, leb-true}
use lib.Signed.{le_z}
use lib.Ieee.{Float, fin, binary64, fits, is_nan, of_int, in_float}
use lib.Ieee.Back.{round_whole}
use lib.Ieee.Exact.{HasValue}

pub count-exact : (n : ℕ) → n ≤ 2 ^ 53 → HasValue (of_int binary64 (pos n)) false n 1
unfolding of_int
count-exact n h = round_whole binary64 false n h

pub negative-exact : (n : ℕ) → n < 2 ^ 53 → HasValue (of_int binary64 (negsuc n)) true (suc n) 1
unfolding of_int
negative-exact n h = round_whole binary64 true (suc n) h

pub value_number : (x : Float) (s : Bool) (a c : ℕ) → HasValue x s a c → is_nan x ≡ false
unfolding is_nan
value_number lib.Ieee.nan s a c v = elim v [ ]
value_number (lib.Ieee.inf _) s a c v = elim v [ ]
value_number (fin t m e) s a c v = refl

-- ---- where the machine's cast is defined

pub castable : (z : ℤ) → le_z (negsuc 9007199254740991) z ≡ true → le_z z (pos 9007199254740992) ≡ true → T (in_float binary64 z)
unfolding in_float
castable (pos n) a b = le→leb n (2 ^ 53) (leb-true n _ b)
castable (negsuc n) a b = let h : n ≤ 9007199254740991 = leb-true n _ a in lt→ltb n (2 ^ 53) (omega arith)
