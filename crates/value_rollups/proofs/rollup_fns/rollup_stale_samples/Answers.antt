-- `value_rollups::rollup_fns::rollup_stale_samples` meets its contract: after the loop the marks among all values are counted.
-- Assumes nothing.
use Rattle.std.proofs.Common.{◌≡◌, List, ℕ, length, refl, ap, ◌∙◌, arith}
use lib.IntN.{pos}
use lib.Ieee.{binary64, of_int}
use lib.Seq.{take_all}
use Rattle.std.proofs.lemmas.List.Recursion.{is_count_by}
use Rattle.std.specs.List.{count_by}
use Rattle.ieee.proofs.Tests.{by-test}
use Rattle.ieee.specs.Mark.{is_mark}
use Rattle.times.specs.Readings.{filter}
use Rattle.window.proofs.Window.{none, some}
use Rattle.value_rollups.specs.RollupFns.{stale_samples_of}
use Rattle.value_rollups.proofs.rollup_fns.rollup_stale_samples.Goals as goal

marks-are : (bs : List ℕ) → length (filter is_mark bs) ≡ count_by is_mark bs
unfolding filter
marks-are = is_count_by (λ bs. length (filter is_mark bs)) is_mark refl (λ b bs. by-test (is_mark b) (λ m. rw m (omega arith)) (λ m. rw m refl))

pub returns-then-values-eq0 : goal.returns-then-values-eq0
unfolding stale_samples_of
returns-then-values-eq0 c = rw (none c.args.values.now c.if-values-eq0.true) c.nan.ensures

pub returns : goal.returns
unfolding stale_samples_of
returns c =
    rw (some c.args.values.now c.if-values-eq0.false, marks-are)
    (c.of_count.ensures ∙ ap (λ n. of_int binary64 (pos n)) (c.loop-i.invariant ∙ ap (count_by is_mark) (take_all c.loop-i.i c.args.values.now c.loop-i-test.false)))
