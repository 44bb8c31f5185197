-- The whole part of a value: its units over 2 ^ 1074, whatever m and e are. Assumes nothing.
use Rattle.std.proofs.Common.{◌≡◌, ℕ, ◌-◌, ◌*◌, ◌/◌, ◌^◌, min, Bool, cond, T, ℤ, refl, pow_pos}
use lib.Ieee.{Float, nan, inf, fin, binary64, up, down, fits, to_unsigned}
use lib.Ieee.Fits.{down_pos}
use lib.Ieee.Nearest.{div_same}
use Rattle.ieee.specs.Value.{negative}
use Rattle.ieee.proofs.Rank.{units_of}
use Rattle.ieee.proofs.Units.{held, units-fin}

pub part_of : (s : Bool) (m : ℕ) (e : ℤ) → T (fits binary64 (fin s m e)) → m * up e / down e ≡ units_of (fin s m e) / 2 ^ 1074
part_of s m e f = div_same (m * up e) (down e) (units_of (fin s m e)) (2 ^ 1074) (down_pos e) (pow_pos 1074) (units-fin s m e (held s m e f))

pub unsigned-part : (x : Float) → T (fits binary64 x) → to_unsigned 64 x ≡ cond (negative x) 0 (min (units_of x / 2 ^ 1074) (2 ^ 64 - 1))
unfolding to_unsigned units_of
unsigned-part nan f = refl
unsigned-part (inf s) f = refl
unsigned-part (fin s m e) f = rw (part_of s m e f)
