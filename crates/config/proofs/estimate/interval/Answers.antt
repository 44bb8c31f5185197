-- `estimate::interval` meets its contract: two accepted times are near enough for their distance to fit.
-- Assumes nothing.
use Prim.Native.Nat.{ℕ, ◌+◌, ◌<◌}
use mathlib.Core.List.{List}
use mathlib.Core.Path.{◌≡◌, ◌∙◌, sym, ap}
use native.Mathlib.Omega.{arith}
use native.Mathlib.Numerals.{add-one}
use lib.IntN.{ℤ, pos, ◌-ℤ◌}
use lib.Ieee.{binary64, of_int}
use lib.ListN.{length, get_or}
use mir.Syntax.{w64}
use mir.Val.{SFits}
use mir.Facts.{to_z-of_z}
use Rattle.series.specs.Rows.{times_checked}
use Rattle.std.specs.Prelude.{Ok}
use Rattle.times.proofs.Milli.{within-sub, within-fits}
use Rattle.config.specs.Estimate.{distances}
use Rattle.config.proofs.Distances.{distance-at, within}
use Rattle.config.proofs.estimate.interval.Goals as goal

-- the time at i and the next, and their distance
module _ (ts : List ℤ) (i : ℕ) (ok : times_checked ts ≡ Ok tt) (h : i + 1 < length ts) where
  abbrev at : ℕ → ℤ
  at k = get_or ts k (pos 0)

  first : SFits w64 (at i)
  first = within-fits tt (within ts ok i (omega arith))

  second : SFits w64 (at (i + 1))
  second = within-fits tt (within ts ok (i + 1) h)

  distance : SFits w64 (at (i + 1) -ℤ at i)
  distance = within-fits tt (within-sub (within ts ok (i + 1) h) (within ts ok i (omega arith)))

pub overflow_sub-timestamps : goal.overflow_sub-timestamps
overflow_sub-timestamps c =
    let ts = c.args.times.now.slice.now in
    let i = c.args.i in
    let ok = c.args.times.now.accepted in
    let h = c.requires in
    rw (to_z-of_z (second ts i ok h), to_z-of_z (first ts i ok h)) (distance ts i ok h)

pub returns : goal.returns
returns c =
    let ts = c.args.times.now.slice.now in
    let i = c.args.i in
    let ok = c.args.times.now.accepted in
    let h = c.requires in
    let same : get_or ts (i + 1) (pos 0) -ℤ get_or ts i (pos 0) ≡ get_or (distances ts) i (pos 0) = rw (add-one i) (sym (distance-at ts i (omega arith))) in
    (rw (to_z-of_z (second ts i ok h), to_z-of_z (first ts i ok h), to_z-of_z (distance ts i ok h)) at c.of_difference.ensures) ∙ ap (of_int binary64) same
