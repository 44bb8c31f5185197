-- `crossings::nearer::seek_nearest` meets its contract: its three answers are the three places of the nearest time beside the first index after the asked one.
-- Assumes nothing.
use Prim.Native.Nat.{ℕ, ◌-◌, ◌≤◌, ◌<◌}
use mathlib.Core.Bool.{Bool}
use mathlib.Core.List.{List}
use mathlib.Core.Path.{◌≡◌, sym, ap, ◌∙◌}
use native.Mathlib.Omega.{arith}
use borrow.Author.Rules.{rules}
use borrow.Author.Tests.{ltb-true, ltb-false}
use lib.Dec.{ltb}
use lib.IntN.{ℤ, pos, ◌-ℤ◌}
use lib.ListN.{length, get_or}
use mir.Facts.{to_z-of_z}
use mir.Syntax.{w64}
use mir.Val.{SFits, to_z, of_z}
use Rattle.times.specs.Leading.{leading}
use Rattle.times.specs.Later.{first_after}
use Rattle.times.specs.Milli.{Within}
use Rattle.times.proofs.Later.{first_below, first-le}
use Rattle.times.proofs.Milli.{within-fits, within-sub}
use Rattle.series.specs.Rows.{time_inside}
use Rattle.series.proofs.Times.{within_all}
use Rattle.crossings.specs.Nearest.{distance}
use Rattle.crossings.proofs.Closest.{nearest-only}
use Rattle.crossings.proofs.Distances.{after, first-nearest, next-nearest, last-nearest}
use Rattle.crossings.proofs.nearer.seek_nearest.Goals as goal
use Rattle.crossings.proofs.nearer.seek_nearest.Goals.{then-after-timestamps+else-is_later_nearer, else-after-timestamps}

one : Within 1 (pos 1)
one = record { size = omega arith }

module _ (ts : List ℤ) where
  held : leading time_inside ts ≡ length ts → (i : ℕ) → i < length ts → SFits w64 (get_or ts i (pos 0))
  held inside i h = within-fits tt (within_all ts inside i h)

  -- one less than a time of the series
  held_less : leading time_inside ts ≡ length ts → (i : ℕ) → i < length ts → SFits w64 (get_or ts i (pos 0) -ℤ pos 1)
  held_less inside i h = within-fits tt (within-sub (within_all ts inside i h) one)

  -- the search is for the time that was asked
  found : (t : ℤ) (k : ℕ) → SFits w64 t → k ≡ first_after ts (to_z w64 (of_z w64 t)) → k ≡ first_after ts t
  found t k f e = e ∙ ap (first_after ts) (to_z-of_z f)

  k-le : (t : ℤ) (k : ℕ) → k ≡ first_after ts t → k ≤ length ts
  k-le t k e = omega (arith, e, first-le ts t)

  -- whether the time at i is nearer than the one before it
  abbrev test : ℤ → ℕ → Bool
  test t i = ltb (distance t (get_or ts i (pos 0))) (distance t (get_or ts (i - 1) (pos 0)))

pub returns-then-after-eq0 : goal.returns-then-after-eq0
returns-then-after-eq0 c =
    let ts = c.args.times.now.slice.now in
    let t = c.args.time in
    let found-at = found ts t _ c.ranges.time c.seek_first_timestamp_idx_after-after.ensures in
    nearest-only t ts 0 (first-nearest c.args.times.now.not_falling t (sym found-at ∙ c.if-after-eq0.true) c.requires.2)

pub offset_bounds-timestamps-after : goal.offset_bounds-timestamps-after
offset_bounds-timestamps-after c =
    let ts = c.args.times.now.slice.now in
    let t = c.args.time in
    let h = k-le ts t _ (found ts t _ c.ranges.time c.seek_first_timestamp_idx_after-after.ensures) in
    search rules

pub bounds-timestamps-after : goal.bounds-timestamps-after
bounds-timestamps-after c =
    let ts = c.args.times.now.slice.now in
    let t = c.args.time in
    omega (arith, k-le ts t _ (found ts t _ c.ranges.time c.seek_first_timestamp_idx_after-after.ensures), c.if-after-eq0.false)

pub is_later_nearer-requires : goal.is_later_nearer-requires
is_later_nearer-requires c =
    let ts = c.args.times.now.slice.now in
    let t = c.args.time in
    let k = c.seek_first_timestamp_idx_after-after.result in
    let inside = c.requires.0 in
    let found-at : k ≡ first_after ts t = found ts t k c.ranges.time c.seek_first_timestamp_idx_after-after.ensures in
    let some = c.if-after-eq0.false in
    let last : k - 1 < length ts = omega (arith, k-le ts t k found-at, some) in
    let next : k < length ts = c.if-after-timestamps.true in
    rw (to_z-of_z c.ranges.time, to_z-of_z (held ts inside (k - 1) last), to_z-of_z (held ts inside k next))
    (c.requires.1, within_all ts inside (k - 1) last, within_all ts inside k next, first_below ts t (k - 1) (omega (arith, found-at, some)), after c.args.times.now.not_falling t k (omega (arith, found-at)) next)

pub returns-then-is_later_nearer : goal.returns-then-is_later_nearer
returns-then-is_later_nearer c =
    let ts = c.args.times.now.slice.now in
    let t = c.args.time in
    let k = c.seek_first_timestamp_idx_after-after.result in
    let inside = c.requires.0 in
    let found-at : k ≡ first_after ts t = found ts t k c.ranges.time c.seek_first_timestamp_idx_after-after.ensures in
    let next : k < length ts = c.if-after-timestamps.true in
    let last : k - 1 < length ts = omega (arith, next) in
    let read : c.is_later_nearer.result ≡ test ts t k = rw (to_z-of_z c.ranges.time, to_z-of_z (held ts inside (k - 1) last), to_z-of_z (held ts inside k next)) at c.is_later_nearer.ensures in
    found-at
    ∙ nearest-only t ts (first_after ts t)
    (next-nearest c.args.times.now.not_falling t (omega (arith, found-at, c.if-after-eq0.false)) (omega (arith, found-at, next)) (ltb-true _ _ (sym (read ∙ ap (test ts t) found-at) ∙ c.if-is_later_nearer.true)))

pub overflow_sub-before-2 : goal.overflow_sub-before-2
overflow_sub-before-2 c =
    let ts = c.args.times.now.slice.now in
    let t = c.args.time in
    let k = c.seek_first_timestamp_idx_after-after.result in
    let inside = c.requires.0 in
    let last : k - 1 < length ts = omega (arith, k-le ts t k (found ts t k c.ranges.time c.seek_first_timestamp_idx_after-after.ensures), c.if-after-eq0.false) in
    rw (to_z-of_z (held ts inside (k - 1) last)) (held_less ts inside (k - 1) last)

pub returns : goal.returns
returns c =
    let ts = c.args.times.now.slice.now in
    let t = c.args.time in
    let k = c.seek_first_timestamp_idx_after-after.result in
    let inside = c.requires.0 in
    let found-at : k ≡ first_after ts t = found ts t k c.ranges.time c.seek_first_timestamp_idx_after-after.ensures in
    let some = c.if-after-eq0.false in
    let last : k - 1 < length ts = omega (arith, k-le ts t k found-at, some) in
    -- where no answer was given, the later time is not nearer, or there is none
    let far : ℕ → ℕ = λ i. distance t (get_or ts i (pos 0)) in
    let not-nearer : k < length ts → far (k - 1) ≤ far k =
    λ next. elim c.if-after-timestamps.branch [
      | then-after-timestamps+else-is_later_nearer w ↦
          ltb-false _ _ (sym (rw (to_z-of_z c.ranges.time, to_z-of_z (held ts inside (k - 1) last), to_z-of_z (held ts inside k next)) at w.is_later_nearer.ensures) ∙ w.if-is_later_nearer.false)
      | else-after-timestamps w ↦ absurd (omega (arith, next, w.if-after-timestamps.false))
    ] in
    let before = ap (λ (i : ℕ). first_after ts (get_or ts (i - 1) (pos 0) -ℤ pos 1)) found-at in
    let seen : c.seek_first_timestamp_idx_after.result ≡ first_after ts (get_or ts (k - 1) (pos 0) -ℤ pos 1) =
    rw (to_z-of_z (held ts inside (k - 1) last), to_z-of_z (held_less ts inside (k - 1) last)) at c.seek_first_timestamp_idx_after.ensures in
    seen ∙ before ∙ nearest-only t ts _ (last-nearest c.args.times.now.not_falling t (omega (arith, found-at, some)) (rw found-at at not-nearer))
