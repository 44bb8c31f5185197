-- A merged series passes rows 1 to 5, and every other row of a call has a higher number.
-- Assumes nothing.
use mathlib.Core.Bool.{Bool, true, false, not, ◌&&◌, ◌||◌}
use mathlib.Core.List.{List, [], ◌∷◌}
use mathlib.Core.Logic.{inl, inr}
use mathlib.Core.Path.{◌≡◌, refl}
use Prim.Native.Nat.{ℕ, ◌*◌, ◌<◌}
use native.Mathlib.Omega.{arith}
use borrow.Author.Tests.{le-ltb}
use lib.Dec.{ltb}
use lib.IntN.{ℤ, pos}
use lib.Ieee.{Float}
use lib.Ieee.Scale.{finite}
use lib.ListN.{length}
use Rattle.config.specs.Settle.{settle_of}
use Rattle.crossings.specs.Crossings.{crossing_indexes, crossings_checked, row15, row16}
use Rattle.crossings.specs.Nearest.{asked_checked, row3_asked}
use Rattle.merge_series.specs.Call.{distinct_row2, merge_checked, row17, row18, strict_checked}
use Rattle.merge_series.specs.Merge.{Series, differ, series_of, together}
use Rattle.merge_series.proofs.Calls.{merge-series, merge-strict}
use Rattle.prepare.specs.Prepare.{prepare_checked}
use Rattle.marks.proofs.Rows.{accepted-unmarked}
use Rattle.marks.specs.Marks.{marked_checked}
use Rattle.rollup.specs.Eval.{sees_marks}
use Rattle.rollup.specs.declared.handler.RollupHandler.{RollupHandler}
use Rattle.steps.specs.declared.PreFunction.{PreFunction}
use Rattle.run.specs.Run.{Lent, call_checked, is_none, lent_checked, room_checked, row12, row14, row19, run_checked, settled_checked}
use Rattle.series.specs.Answers.{outcome_of, reply_of}
use Rattle.series.specs.Refusals.{first_refusal, number_and_index, refused_if}
use Rattle.series.specs.Rows.{max_readings, row1, row13, row2, row3, row4, row5, series_checked, time_inside, times_checked}
use Rattle.series.specs.Refusals.{Checked}
use Rattle.std.specs.Prelude.{Ok, Err}
use Rattle.series.specs.declared.refusal.Refusal.{Refusal}
use Rattle.series.specs.declared.refusal.Refusal.TheVariants.{StepOutside, SpanOutside, WindowOutside, SettingOutside, OverPointLimit, TooManyPoints, OutputShort, PreparedShort, WorkShort, LimitNotFinite, IndexesShort, ValuesDiffer, ResultShort, StepOfMarks}
use Rattle.series.proofs.Accepted.{all-accept}
use Rattle.series.proofs.All.{All}
use Rattle.settings.specs.Rows.{max_grid_points, outside, over_point_limit, per_call_over, ranges_checked, row6, row7, row8, row9, row10, row11, setting_outside, settings_checked, settled_outside, settled_row8, settled_row9, settled_settings, span_outside}
use Rattle.settings.specs.declared.RollupConfig.{RollupConfig}
use Rattle.settings.specs.declared.SettledConfig.{SettledConfig}
use Rattle.times.specs.Grid.{grid_size}
use Rattle.times.specs.Milli.{time_limit}
use Rattle.claims.specs.Merged.{NoneOf1To5, PastFive}

-- it accepts, or its number is above 5
abbrev Late : Checked → Type 0
Late (Ok _) = Unit
Late (Err r) = 5 < (number_and_index r).0

late-if : (condition : Bool) (r : Refusal) → 5 < (number_and_index r).0 → Late (refused_if condition r)
late-if true r h = h
late-if false r h = tt

late-accepted : {c : Checked} → c ≡ Ok tt → Late c
late-accepted e = rw e tt

late-first : (rows : List Checked) → All Late rows → Late (first_refusal rows)
late-first [] a = tt
late-first (Ok _ ∷ rows) a = late-first rows a.1
late-first (Err r ∷ rows) a = a.0

past-reply : {A : Type 0} (c : Checked) (x : A) → Late c → PastFive (reply_of c x)
past-reply (Ok _) x l = inl refl
past-reply (Err r) x l = inr l

past-outcome : {A L : Type 0} (c : Checked) (x : A) (new old : L) → Late c → PastFive (outcome_of c x new old).answer
past-outcome (Ok _) x new old l = inl refl
past-outcome (Err r) x new old l = inr l

-- ---- the rows after 5

late-settings : (rc : RollupConfig) → Late (settings_checked rc)
unfolding settings_checked
late-settings rc =
    late-first (ranges_checked rc ∷ row10 rc.start rc.end rc.step rc.max_points_per_series ∷ row11 rc.start rc.end rc.step ∷ []) (
      late-first (row6 rc.step ∷ row7 rc.start rc.end ∷ row8 rc.window ∷ row9 rc.lookback_delta rc.min_staleness_interval rc.max_points_per_series rc.samples_scanned_per_call ∷ []) (
        late-if (outside (pos 1) (pos time_limit) rc.step) StepOutside (omega arith),
        (
          late-if (span_outside rc.start rc.end) SpanOutside (omega arith),
          (
            late-if (outside (pos 0) (pos time_limit) rc.window) WindowOutside (omega arith),
            (late-if (setting_outside rc.lookback_delta rc.min_staleness_interval rc.max_points_per_series rc.samples_scanned_per_call) SettingOutside (omega arith), tt),
          ),
        ),
      ),
      (
        late-if (over_point_limit rc.start rc.end rc.step rc.max_points_per_series) OverPointLimit (omega arith),
        (late-if (ltb max_grid_points (grid_size rc.start rc.end rc.step)) TooManyPoints (omega arith), tt),
      ),
    )

late-settled : (sc : SettledConfig) → Late (settled_settings sc)
unfolding settled_settings
late-settled sc =
    late-first (row6 sc.step ∷ row7 sc.start sc.end ∷ settled_row8 sc.window sc.reach ∷ settled_row9 sc.samples_scanned_per_call ∷ row11 sc.start sc.end sc.step ∷ []) (
      late-if (outside (pos 1) (pos time_limit) sc.step) StepOutside (omega arith),
      (
        late-if (span_outside sc.start sc.end) SpanOutside (omega arith),
        (
          late-if (settled_outside sc.window sc.reach) WindowOutside (omega arith),
          (
            late-if (per_call_over sc.samples_scanned_per_call) SettingOutside (omega arith),
            (late-if (ltb max_grid_points (grid_size sc.start sc.end sc.step)) TooManyPoints (omega arith), tt),
          ),
        ),
      ),
    )

late-lent : (n m : ℕ) (l : Lent) → Late (lent_checked n m l)
unfolding room_checked
late-lent n m l =
    late-first (row12 m (length l.dst) ∷ row13 n (length l.prepared) ∷ row13 n (length l.remaining) ∷ row14 n (length l.work) ∷ []) (
      late-if (ltb (length l.dst) m) OutputShort (omega arith),
      (
        late-if (ltb (length l.prepared) n) PreparedShort (omega arith),
        (late-if (ltb (length l.remaining) n) PreparedShort (omega arith), (late-if (ltb (length l.work) (2 * n)) WorkShort (omega arith), tt)),
      ),
    )

late-step : (h : RollupHandler) (pre : PreFunction) → Late (row19 h pre)
late-step h pre = late-if (sees_marks h && not (is_none pre)) StepOfMarks (omega arith)

-- ---- a series that rows 1 to 5 accept

module _ (s : Series) (ok : series_checked s.times s.values ≡ Ok tt) where
  times-ok : times_checked s.times ≡ Ok tt
  unfolding series_checked
  times-ok = (all-accept (row1 s.times s.values ∷ times_checked s.times ∷ row5 s.values ∷ []) ok).1.0

  late_asked : (t : ℤ) → time_inside t ≡ true → Late (asked_checked s.times t)
  unfolding times_checked asked_checked
  late_asked t e =
      let rows = all-accept (row2 s.times ∷ row3 s.times ∷ row4 s.times ∷ []) times-ok in
      let asked : row3_asked t ≡ Ok tt = rw e in
      late-first (row2 s.times ∷ row3 s.times ∷ row3_asked t ∷ row4 s.times ∷ [])
      (late-accepted rows.0, (late-accepted rows.1.0, (late-accepted asked, (late-accepted rows.1.1.0, tt))))

  late-prepare : (room : ℕ) → Late (prepare_checked s.times s.values room)
  unfolding prepare_checked
  late-prepare room =
      late-first (series_checked s.times s.values ∷ row13 (length s.values) room ∷ []) (late-accepted ok, (late-if (ltb room (length s.values)) PreparedShort (omega arith), tt))

  -- of run and of settled run alike
  late-call : (pre : PreFunction) (h : RollupHandler) (settings : Checked) (m : ℕ) (l : Lent) → Late settings → Late (call_checked s.times s.values pre h settings m l)
  unfolding call_checked
  late-call pre h settings m l late =
      late-first (marked_checked s.times s.values ∷ settings ∷ lent_checked (length s.values) m l ∷ row19 h pre ∷ [])
      (late-accepted (accepted-unmarked s.times s.values ok), (late, (late-lent (length s.values) m l, (late-step h pre, tt))))

  late-crossings : (limit : Float) (room : ℕ) → Late (crossings_checked s.times s.values limit room)
  unfolding crossings_checked
  late-crossings limit room =
      late-first (series_checked s.times s.values ∷ row15 limit ∷ row16 (length (crossing_indexes limit s.values)) room ∷ [])
      (late-accepted ok, (late-if (not (finite limit)) LimitNotFinite (omega arith), (late-if (ltb room (length (crossing_indexes limit s.values))) IndexesShort (omega arith), tt)))

late-merge : (a b old : Series) → strict_checked a.times a.values ≡ Ok tt → strict_checked b.times b.values ≡ Ok tt → ltb max_readings (length (together a b)) ≡ false → Late (merge_checked a b old)
unfolding merge_checked
late-merge a b old e f few =
    let n = length (together a b) in
    let within : distinct_row2 n ≡ Ok tt = rw few in
    late-first (strict_checked a.times a.values ∷ strict_checked b.times b.values ∷ distinct_row2 n ∷ row17 (differ a b) ∷ row18 n (length old.times) (length old.values) ∷ [])
    (late-accepted e, (late-accepted f, (late-accepted within, (late-if (differ a b) ValuesDiffer (omega arith), (late-if (ltb (length old.times) n || ltb (length old.values) n) ResultShort (omega arith), tt)))))

none-of-1-to-5 : (s : Series) → series_checked s.times s.values ≡ Ok tt → strict_checked s.times s.values ≡ Ok tt → NoneOf1To5 s
unfolding settle_of
none-of-1-to-5 s ok strict = record {
  by_prepare = λ pre prepared. past-outcome (prepare_checked s.times s.values (length prepared)) _ _ _ (late-prepare s ok (length prepared));
  by_settle = λ rc.
      past-reply (first_refusal (times_checked s.times ∷ settings_checked rc ∷ [])) _ (late-first (times_checked s.times ∷ settings_checked rc ∷ []) (late-accepted (times-ok s ok), (late-settings rc, tt)));
  by_run = λ pre h rc l. past-outcome (run_checked s.times s.values pre h rc l) _ _ _ (late-call s ok pre h (settings_checked rc) (grid_size rc.start rc.end rc.step) l (late-settings rc));
  by_settled_run = λ pre h sc l. past-outcome (settled_checked s.times s.values pre h sc l) _ _ _ (late-call s ok pre h (settled_settings sc) (grid_size sc.start sc.end sc.step) l (late-settled sc));
  by_crossings = λ limit indexes. past-outcome (crossings_checked s.times s.values limit (length indexes)) _ _ _ (late-crossings s ok limit (length indexes));
  by_nearest = λ t e. past-reply (asked_checked s.times t) _ (late_asked s ok t e);
  by_merge = λ other old m. past-outcome (merge_checked s other old) _ _ _ (late-merge s other old strict m.accepted (le-ltb _ _ m.few));
  by_merge_second = λ other old m. past-outcome (merge_checked other s old) _ _ _ (late-merge other s old m.accepted strict (le-ltb _ _ m.few_other));
}

-- No call gives what an accepted merge writes any of 1 to 5.
pub merge-none-of-1-to-5 : (a b old : Series) → merge_checked a b old ≡ Ok tt → NoneOf1To5 (series_of (together a b))
merge-none-of-1-to-5 a b old ok = none-of-1-to-5 (series_of (together a b)) (merge-series a b old ok) (merge-strict a b old ok)
