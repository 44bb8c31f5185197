-- Times in range: their sums and differences fit an i64.
-- Assumes nothing.
use Prim.Native.Nat.{◌+◌, ◌-◌, ◌≤◌, ◌<◌, ◌^◌}
use mathlib.Core.Path.{◌≡◌}
use native.Mathlib.Omega.{arith}
use lib.IntN.{ℤ, pos, negsuc, nat_abs, ◌+ℤ◌, ◌-ℤ◌}
use lib.Signed.{mag}
use mir.Syntax.{w64}
use mir.Val.{SFits, to_z, of_z}
use mathlib.Core.List.{List}
use lib.ListN.{length}
use Rattle.times.proofs.Milli.{nat_abs-add, nat_abs-sub, read_back}
use Rattle.window.specs.Window.{first_or, last_or}
use Rattle.window.specs.Types.{InRange, AllInRange, Ranged}
use Rattle.window.specs.declared.types.RollupFuncArg.{RollupFuncArg}
use Rattle.window.proofs.Window.{first-at, last-at}

mag-≤ : (z : ℤ) → mag z ≤ nat_abs z
mag-≤ (pos n) = omega arith
mag-≤ (negsuc n) = omega arith

pub sum_fits : (a b : ℤ) → nat_abs a + nat_abs b < 2 ^ 63 → SFits w64 (a +ℤ b)
sum_fits a b h = record { sfits = omega (arith, mag-≤ (a +ℤ b), nat_abs-add a b) }

pub difference-fits : (a b : ℤ) → nat_abs a + nat_abs b < 2 ^ 63 → SFits w64 (a -ℤ b)
difference-fits a b h = record { sfits = omega (arith, mag-≤ (a -ℤ b), nat_abs-sub a b) }

-- times in range are as they are read back, and may be subtracted
pub back : (t : ℤ) → InRange t → to_z w64 (of_z w64 t) ≡ t
back t h = read_back t (omega (arith, mag-≤ t))

pub apart : (a b : ℤ) → InRange a → InRange b → nat_abs (to_z w64 (of_z w64 a)) + nat_abs (to_z w64 (of_z w64 b)) < 2 ^ 63
apart a b ha hb = rw (back a ha, back b hb) (omega arith)

pub first-in : (ts : List ℤ) → AllInRange ts → InRange (first_or (pos 0) ts)
first-in ts h = rw (first-at (pos 0) ts) (h 0)

pub last-in : (ts : List ℤ) → AllInRange ts → InRange (last_or (pos 0) ts)
last-in ts h = rw (last-at (pos 0) ts) (h (length ts - 1))

module _ {r : RollupFuncArg} {ts : List ℤ} (ranged : Ranged r ts) where
  pub first-ranged : InRange (first_or (pos 0) ts)
  first-ranged = first-in ts ranged.times

  pub last-ranged : InRange (last_or (pos 0) ts)
  last-ranged = last-in ts ranged.times
