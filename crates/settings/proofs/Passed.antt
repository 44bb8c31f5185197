-- What settings that rows 6 to 11 let pass are known to be.
-- Assumes nothing.
use Prim.Native.Nat.{ℕ, zero, suc, ◌≤◌}
use native.Mathlib.Omega.{arith}
use mathlib.Core.Path.{◌≡◌, refl, sym, subst, ◌∙◌}
use mathlib.Core.Bool.{Bool, true, false, ◌||◌, false≢true}
use mathlib.Core.List.{List, [], ◌∷◌}
use borrow.Author.Tests.{leb-true}
use lib.IntN.{ℤ, pos, negsuc, neg_ℤ, nat_abs}
use lib.Dec.{T}
use lib.Signed.{lt_z, le_z, non_neg}
use mir.Syntax.{w64}
use mir.Val.{Fits, SFits, to_z, of_z}
use mir.Facts.{to_z-of_z}
use Rattle.times.specs.Milli.{time_limit, Within}
use Rattle.times.specs.Grid.{Spans}
use Rattle.times.proofs.Milli.{within-fits}
use Rattle.times.proofs.Order.{not_below}
use Rattle.series.specs.Refusals.{first_refusal}
use Rattle.series.specs.declared.refusal.Refusal.TheVariants.{StepOutside, SpanOutside, WindowOutside, SettingOutside}
use Rattle.series.specs.Refusals.{Checked}
use Rattle.std.specs.Prelude.{Ok, Err}
use Rattle.series.proofs.Accepted.{all-accept, fails}
use Rattle.settings.specs.declared.RollupConfig.{RollupConfig}
use Rattle.settings.specs.declared.SettledConfig.{SettledConfig}
use Rattle.settings.specs.Rows.{outside, span_outside, setting_outside, per_call_over, row6, row7, row8, row9, row10, row11, span_checked, ranges_checked, settings_checked, settled_settings}

-- x is a number of ℕ, at most k
pub record UpTo (k : ℕ) (x : ℤ) : Type 0 where
  pub whole : pos (nat_abs x) ≡ x
  pub small : nat_abs x ≤ k

-- what rows 6 to 9 let pass
pub record Passed (rc : RollupConfig) : Type 0 where
  pub spans : Spans rc.start rc.end rc.step
  pub step : UpTo time_limit rc.step
  pub window : UpTo time_limit rc.window
  pub lookback : UpTo time_limit rc.lookback_delta
  pub staleness : UpTo time_limit rc.min_staleness_interval
  pub limit : UpTo time_limit rc.max_points_per_series

-- ---- rows that accept

pub last_row : (row : Checked) → first_refusal (row ∷ []) ≡ row
last_row (Ok _) = refl
last_row (Err _) = refl

-- the first two of a call's rows, taken together
pub two-rows : (a b : Checked) (rows : List Checked) → first_refusal (a ∷ b ∷ rows) ≡ first_refusal (first_refusal (a ∷ b ∷ []) ∷ rows)
two-rows (Ok _) (Ok _) rows = refl
two-rows (Ok _) (Err _) rows = refl
two-rows (Err _) b rows = refl

-- a call's first two rows accept where all do
first-two : (a b : Checked) (rows : List Checked) → first_refusal (a ∷ b ∷ rows) ≡ Ok tt → (a ≡ Ok tt) × (b ≡ Ok tt)
first-two a b rows e = let each = all-accept (a ∷ b ∷ rows) e in (each.0, each.1.0)

pub or-false : (a b : Bool) → (a || b) ≡ false → (a ≡ false) × (b ≡ false)
or-false true b e = absurd (let z : ◌≡◌ {A = ℕ} 0 1 = cc in omega arith)
or-false false b e = (refl, e)

-- ---- ranges

pub not-outside : (lo hi x : ℤ) → outside lo hi x ≡ false → (le_z lo x ≡ true) × (le_z x hi ≡ true)
unfolding outside
not-outside lo hi x e =
    let both = or-false (lt_z x lo) (lt_z hi x) e in
    (not_below x lo both.0, not_below hi x both.1)

pub up_to : (lo k : ℕ) (x : ℤ) → outside (pos lo) (pos k) x ≡ false → UpTo k x
up_to lo k (pos n) e = record { whole = refl; small = leb-true n k (not-outside (pos lo) (pos k) (pos n) e).1 }
up_to lo k (negsuc n) e = absurd (false≢true (not-outside (pos lo) (pos k) (negsuc n) e).0)

either : (k : ℕ) (x : ℤ) → outside (neg_ℤ (pos k)) (pos k) x ≡ false → Within k x
either k (pos n) e = record { size = leb-true n k (not-outside (neg_ℤ (pos k)) (pos k) (pos n) e).1 }
either zero (negsuc n) e = absurd (false≢true (not-outside (pos 0) (pos 0) (negsuc n) e).0)
either (suc k) (negsuc n) e = record { size = omega (arith, leb-true n k (not-outside (negsuc k) (pos (suc k)) (negsuc n) e).0) }

-- such a number is an `i64`, and a `u64` too
pub up_to_fits : {x : ℤ} → UpTo time_limit x → SFits w64 x
up_to_fits h = within-fits tt (record { size = h.small })

pub castable : {x : ℤ} → UpTo time_limit x → T (non_neg (to_z w64 (of_z w64 x))) × Fits w64 (nat_abs (to_z w64 (of_z w64 x)))
castable {x} h = rw (to_z-of_z (up_to_fits h)) (subst (λ (z : ℤ). T (non_neg z)) h.whole tt, record { fits = omega (arith, h.small) })

-- what `is_outside` told of the bits of an `i64` is told of the number
pub told : (lo hi x : ℤ) {r b : Bool} → SFits w64 x → r ≡ outside lo hi (to_z w64 (of_z w64 x)) → r ≡ b → outside lo hi x ≡ b
told lo hi x f e t = sym (rw (to_z-of_z f) at e) ∙ t

-- ---- settings

pub spans : (start end step : ℤ) → outside (pos 1) (pos time_limit) step ≡ false → span_outside start end ≡ false → Spans start end step
unfolding span_outside
spans start end step six seven =
    let ends = or-false (outside (neg_ℤ (pos time_limit)) (pos time_limit) start || outside (neg_ℤ (pos time_limit)) (pos time_limit) end) (lt_z end start) seven in
    let each = or-false (outside (neg_ℤ (pos time_limit)) (pos time_limit) start) (outside (neg_ℤ (pos time_limit)) (pos time_limit) end) ends.0 in
    record {
      start_within = either time_limit start each.0;
      end_within = either time_limit end each.1;
      ordered = not_below end start ends.1;
      step_positive = (not-outside (pos 1) (pos time_limit) step six).0;
      step_within = record { size = (up_to 1 time_limit step six).small };
    }

pub span-passed : (start end step : ℤ) → span_checked start end step ≡ Ok tt → Spans start end step
span-passed start end step e =
    let each = all-accept (row6 step ∷ row7 start end ∷ []) e in
    spans start end step (fails _ StepOutside each.0) (fails _ SpanOutside each.1.0)

module _ (rc : RollupConfig) where
  pub ranges-passed : ranges_checked rc ≡ Ok tt → Passed rc
  unfolding setting_outside
  ranges-passed e =
      let nine = row9 rc.lookback_delta rc.min_staleness_interval rc.max_points_per_series rc.samples_scanned_per_call in
      let each = all-accept (row6 rc.step ∷ row7 rc.start rc.end ∷ row8 rc.window ∷ nine ∷ []) e in
      let lookback = outside (pos 0) (pos time_limit) rc.lookback_delta in
      let staleness = outside (pos 0) (pos time_limit) rc.min_staleness_interval in
      let limit = outside (pos 0) (pos time_limit) rc.max_points_per_series in
      let but_last = or-false (lookback || staleness || limit) (per_call_over rc.samples_scanned_per_call) (fails _ SettingOutside each.1.1.1.0) in
      let three = or-false (lookback || staleness) limit but_last.0 in
      let two = or-false lookback staleness three.0 in
      record {
        spans = spans rc.start rc.end rc.step (fails _ StepOutside each.0) (fails _ SpanOutside each.1.0);
        step = up_to 1 time_limit rc.step (fails _ StepOutside each.0);
        window = up_to 0 time_limit rc.window (fails _ WindowOutside each.1.1.0);
        lookback = up_to 0 time_limit rc.lookback_delta two.0;
        staleness = up_to 0 time_limit rc.min_staleness_interval two.1;
        limit = up_to 0 time_limit rc.max_points_per_series three.1;
      }

  pub settings-passed : settings_checked rc ≡ Ok tt → Passed rc
  unfolding settings_checked
  settings-passed e =
      ranges-passed
      (all-accept (ranges_checked rc ∷ row10 rc.start rc.end rc.step rc.max_points_per_series ∷ row11 rc.start rc.end rc.step ∷ []) e).0

pub settled-spans : (sc : SettledConfig) → settled_settings sc ≡ Ok tt → Spans sc.start sc.end sc.step
unfolding settled_settings
settled-spans sc e =
    let rows = first-two (row6 sc.step) (row7 sc.start sc.end) _ e in
    spans sc.start sc.end sc.step (fails _ StepOutside rows.0) (fails _ SpanOutside rows.1)
