-- `crossings::nearer::nearest` meets its contract: a refusal is the first row that refuses; an accepted series has times that do not fall, among which it seeks.
-- Assumes nothing.
use Prim.Native.Nat.{◌<◌}
use mathlib.Core.Path.{◌≡◌, sym, ap, ◌∙◌}
use native.Mathlib.Omega.{arith}
use borrow.Author.Tests.{eqb-false, ltb-false, ltb-true}
use lib.Dec.{ltb}
use lib.ListN.{length}
use Rattle.ieee.proofs.Tests.{by-test}
use mir.Facts.{to_z-of_z}
use Rattle.series.proofs.Accepted.{accepted-times}
use Rattle.series.proofs.Times.{inside-within, none-fall}
use Rattle.crossings.specs.Nearest.{asked_checked}
use Rattle.crossings.proofs.Asked.{asked-accepted}
use Rattle.crossings.proofs.nearer.nearest.Goals as goal

pub invariant_of-times : goal.invariant_of-times
invariant_of-times c =
    let checked-is : c.check_asked.result ≡ asked_checked c.args.timestamps.now c.args.time = c.check_asked.ensures ∙ ap (asked_checked c.args.timestamps.now) (to_z-of_z c.ranges.time) in
    let accepted = asked-accepted _ _ (sym checked-is ∙ c.in_ok-check_asked.was) in
    record { not_falling = none-fall c.args.timestamps.now (accepted-times _ accepted.0).none_falls }

pub seek_nearest-requires : goal.seek_nearest-requires
seek_nearest-requires c =
    let ts = c.args.timestamps.now in
    let t = c.args.time in
    -- the rows are of the time that was asked
    let checked-is : c.check_asked.result ≡ asked_checked ts t = c.check_asked.ensures ∙ ap (asked_checked ts) (to_z-of_z c.ranges.time) in
    let accepted = asked-accepted ts t (sym checked-is ∙ c.in_ok-check_asked.was) in
    let some : 0 < length ts =
    by-test (ltb 0 (length ts)) (λ e. ltb-true _ _ e)
    (λ e. absurd (eqb-false _ _ (sym c.is_empty.ensures ∙ c.if-is_empty.false) (omega (arith, ltb-false _ _ e)))) in
    let times = accepted-times ts accepted.0 in
    (times.all_inside, rw (to_z-of_z c.ranges.time) (inside-within t accepted.1), some)
