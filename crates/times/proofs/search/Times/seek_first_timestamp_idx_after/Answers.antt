-- `search::Times::seek_first_timestamp_idx_after` meets its contract: the hint only narrows what is searched, and the answer stays within.
-- Assumes nothing.
use native.Mathlib.Omega.{arith}
use Rattle.std.proofs.Common.{ℕ, ◌≡◌, ◌≤◌, ◌+◌, ◌-◌, ◌∙◌, ap, List, take, drop}
use Rattle.std.proofs.lemmas.Grind.{common_steps}
use mir.Syntax.{w64}
use mir.Val.{SFits}
use lib.IntN.{ℤ}
use Rattle.times.specs.Later.{NotFalling, first_after}
use Rattle.times.proofs.After.{same}
use Rattle.times.proofs.Milli.{stored_and_read}
use Rattle.times.proofs.Later.{first-le, first-part, not-falling-drop, not-falling-take}
use Rattle.times.proofs.search.Times.seek_first_timestamp_idx_after.Goals as goal
use Rattle.times.proofs.search.Times.seek_first_timestamp_idx_after.Goals.{then-is_empty-via-then-is_empty, then-is_empty-via-else-is_empty+then-is_after}

-- the part from i to j has the answer
found : {ts : List ℤ} {t : ℤ} → NotFalling ts → SFits w64 t → (i j n : ℕ) → i ≤ first_after ts (stored_and_read t) → first_after ts (stored_and_read t) ≤ j
    → n ≡ first_after (take (j - i) (drop i ts)) (stored_and_read t) → i + n ≡ first_after ts t
found {ts} {t} o f i j n h k e = ap (λ m. i + m) e ∙ first-part o (stored_and_read t) i j h k ∙ same ts f

pub returns-then-is_empty : goal.returns-then-is_empty
returns-then-is_empty c =
    elim c.then-is_empty.branch [
      | then-is_empty-via-then-is_empty w ↦ grind (arith, common_steps, first-le c.args.self.now.slice.now c.args.seek_timestamp)
      | then-is_empty-via-else-is_empty+then-is_after w ↦ omega (arith, w.is_after.ensures.yes w.if-is_after.true, same c.args.self.now.slice.now c.ranges.seek_timestamp)
    ]

pub overflow_add-result : goal.overflow_add-result
overflow_add-result c =
    let is = found c.args.self.now.not_falling c.ranges.seek_timestamp _ _ _ c.hinted_start-start_idx.ensures c.hinted_end-end_idx.ensures.0 c.scan.ensures in
    omega (arith, is, first-le c.args.self.now.slice.now c.args.seek_timestamp)

pub invariant_of-between : goal.invariant_of-between
invariant_of-between c = record { not_falling = not-falling-take _ (not-falling-drop _ c.args.self.now.not_falling) }

pub overflow_add-result-else-between-lt16 : goal.overflow_add-result-else-between-lt16
overflow_add-result-else-between-lt16 c =
    let is = found c.args.self.now.not_falling c.ranges.seek_timestamp _ _ _ c.hinted_start-start_idx.ensures c.hinted_end-end_idx.ensures.0 c.binary_search.ensures in
    omega (arith, is, first-le c.args.self.now.slice.now c.args.seek_timestamp)

pub returns-then-between-lt16 : goal.returns-then-between-lt16
returns-then-between-lt16 c = found c.args.self.now.not_falling c.ranges.seek_timestamp _ _ _ c.hinted_start-start_idx.ensures c.hinted_end-end_idx.ensures.0 c.scan.ensures

pub returns-else-between-lt16 : goal.returns-else-between-lt16
returns-else-between-lt16 c = found c.args.self.now.not_falling c.ranges.seek_timestamp _ _ _ c.hinted_start-start_idx.ensures c.hinted_end-end_idx.ensures.0 c.binary_search.ensures
