-- Accepted times lie in ±2^50, so each is in range.
-- Assumes nothing.
use mathlib.Core.Path.{◌≡◌}
use mathlib.Core.List.{List}
use native.Mathlib.Omega.{arith}
use borrow.Author.Tests.{ltb-true, ltb-false}
use lib.Dec.{ltb}
use lib.IntN.{ℤ, pos}
use lib.ListN.{length, get_or-eq_default}
use Rattle.std.specs.Prelude.{Ok}
use Rattle.window.specs.Types.{AllInRange}
use Rattle.series.specs.Rows.{times_checked}
use Rattle.series.proofs.Accepted.{accepted-times}
use Rattle.series.proofs.Times.{within_all}
use Rattle.ieee.proofs.Tests.{by-test}

pub all_in : (ts : List ℤ) → times_checked ts ≡ Ok tt → AllInRange ts
all_in ts e i =
    by-test (ltb i (length ts))
    (λ h. omega (arith, (within_all ts (accepted-times ts e).all_inside i (ltb-true i (length ts) h)).size))
    (λ h. rw (get_or-eq_default ts (pos 0) (ltb-false i (length ts) h)) (omega arith))
