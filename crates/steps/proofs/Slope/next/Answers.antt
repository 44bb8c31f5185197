-- `steps::Slope::next` meets its contract. Times within the limits are the numbers that the code reads back from their bits, and so is their difference.
-- Assumes nothing.
use mathlib.Core.Path.{◌≡◌}
use lib.IntN.{ℤ, ◌-ℤ◌}
use mir.Syntax.{w64}
use mir.Val.{SFits, to_z, of_z}
use mir.Facts.{to_z-of_z}
use Rattle.times.specs.Milli.{time_limit, Within}
use Rattle.times.proofs.Milli.{within-sub, within-fits}
use Rattle.steps.specs.Steps.{sloped}
use Rattle.steps.proofs.Slope.next.Goals as goal

module _ {t u : ℤ} (w : Within time_limit t × Within time_limit u) where
  back-t : to_z w64 (of_z w64 t) ≡ t
  back-t = to_z-of_z (within-fits tt w.0)

  back_u : to_z w64 (of_z w64 u) ≡ u
  back_u = to_z-of_z (within-fits tt w.1)

  difference : SFits w64 (u -ℤ t)
  difference = within-fits tt (within-sub w.1 w.0)

pub returns-then-self-ts : goal.returns-then-self-ts
unfolding sloped
returns-then-self-ts c =
    let w = c.requires in
    let later = rw (back-t w, back_u w) at c.if-self-ts.true in
    let taken = rw (back-t w, back_u w, to_z-of_z (difference w)) at c.seconds.ensures in
    rw (back_u w, later, taken)

pub returns-else-self-ts : goal.returns-else-self-ts
unfolding sloped
returns-else-self-ts c =
    let w = c.requires in
    rw (rw (back-t w, back_u w) at c.if-self-ts.false)
