-- `time_rollups::rollup_fns::extreme_time` meets its contract: it folds `latest` over the readings.
-- Assumes nothing.
use mathlib.Core.Path.{ap, ◌∙◌}
use borrow.Author.Rules.{rules}
use lib.IntN.{ℤ}
use mir.Syntax.{w64}
use mir.ValLaws.{to_z-of_z}
use lib.Ieee.{Float}
use Rattle.std.proofs.lemmas.Slice.Zip.{Zip-more, either_empty_from_Zip}
use Rattle.ieee.specs.Value.{seconds_of}
use Rattle.window.proofs.Window.{no-values, some-values}
use Rattle.time_rollups.proofs.Pairs.{taken, over}
use Rattle.time_rollups.specs.RollupFns.{extreme_time}
use Rattle.time_rollups.proofs.rollup_fns.extreme_time.Goals as goal

pub returns-then-values-eq0 : goal.returns-then-values-eq0
unfolding extreme_time
returns-then-values-eq0 c = rw (no-values _ c.if-values-eq0.true) c.nan.ensures

pub loop-b-preserved-then-reaches : goal.loop-b-preserved-then-reaches
loop-b-preserved-then-reaches c =
    let more = Zip-more c.loop-b.b-iterator c.next.new.self c.next.result (c.in-Some.b, c.in-Some.t) c.in-Some.is c.next.ensures.steps in
    taken c.loop-b.invariant more.0 more.1 (rw (← c.value_of-v.ensures, ← c.reaches.ensures, c.if-reaches.true) (cc (to_z-of_z w64 c.in-Some.t.now (search rules))))

pub loop-b-preserved : goal.loop-b-preserved
loop-b-preserved c =
    let more = Zip-more c.loop-b.b-iterator c.next.new.self c.next.result (c.in-Some.b, c.in-Some.t) c.in-Some.is c.next.ensures.steps in
    taken c.loop-b.invariant more.0 more.1 (rw (← c.value_of-v.ensures, ← c.reaches.ensures, c.if-reaches.false) (cc))

pub returns : goal.returns
unfolding extreme_time
returns c =
    rw (some-values _ c.if-values-eq0.false)
    (c.seconds.ensures ∙ ap (λ (s : Float × ℤ). seconds_of s.1) (over c.loop-b.invariant (either_empty_from_Zip c.loop-b.b-iterator c.next.new.self c.next.result c.in-None.is c.next.ensures.steps)))
