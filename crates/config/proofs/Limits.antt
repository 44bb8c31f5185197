-- Window and reach of an accepted settle lie in 1..2^52, so a settled run that is given them passes its row 8.
-- Assumes nothing.
use Prim.Native.Nat.{ℕ, ◌^◌, ◌≤◌, ◌<◌}
use native.Mathlib.Omega.{arith}
use mathlib.Core.Path.{◌≡◌, refl, ap}
use mathlib.Core.Bool.{Bool, true, false, cond}
use mathlib.Core.List.{List, [], ◌∷◌}
use borrow.Author.Tests.{leb-true, ltb-true, le-ltb}
use lib.Dec.{leb, ltb}
use lib.IntN.{ℤ, pos, nat_abs}
use Rattle.times.specs.Milli.{time_limit}
use Rattle.times.proofs.GridLaws.{step-some}
use Rattle.ieee.proofs.Tests.{by-test}
use Rattle.series.specs.Answers.{Reply, gives, reply_of}
use Rattle.series.specs.Refusals.{first_refusal}
use Rattle.series.specs.Rows.{times_checked}
use Rattle.series.specs.Refusals.{Checked}
use Rattle.std.specs.Prelude.{Ok, Err}
use Rattle.series.proofs.Accepted.{all-accept}
use Rattle.settings.specs.declared.RollupConfig.{RollupConfig}
use Rattle.config.specs.Estimate.{estimate_of}
use Rattle.config.specs.Reach.{reach_of, capped_by, bounded_reach, raised_step, window_of}
use Rattle.settings.specs.Rows.{outside, settled_limit, settled_row8, settings_checked, settled_outside}
use Rattle.config.specs.declared.settle.Settlement.{Settlement}
use Rattle.config.specs.Settle.{settled_reach_of, settled_window_of, settlement, settle_of}
use Rattle.config.proofs.Distances.{not-falling, within}
use Rattle.config.proofs.Estimates.{estimate-small, estimate-some}
use Rattle.settings.proofs.Passed.{settings-passed}

-- from 1 to 2^52
pub record Settleable (n : ℕ) : Type 0 where
  pub some : 0 < n
  pub small : n ≤ settled_limit

-- ---- numbers

reach-settleable : (e : ℕ) → 0 < e → e ≤ 2 ^ 51 → Settleable (reach_of e)
unfolding reach_of
reach-settleable e some small =
    by-test (leb e 2000) (λ a. rw a (record { some = omega arith; small = omega (arith, leb-true e 2000 a) }))
    (λ a. by-test (leb e 4000) (λ b. rw (a, b) (record { some = omega arith; small = omega (arith, leb-true e 4000 b) }))
    (λ b. by-test (leb e 8000) (λ c. rw (a, b, c) (record { some = omega arith; small = omega (arith, leb-true e 8000 c) }))
    (λ c. by-test (leb e 16000) (λ d. rw (a, b, c, d) (record { some = omega arith; small = omega arith }))
    (λ d. by-test (leb e 32000) (λ f. rw (a, b, c, d, f) (record { some = omega arith; small = omega arith }))
    (λ f. rw (a, b, c, d, f) (record { some = omega arith; small = omega arith }))))))

capped-settleable : (limit n : ℕ) → Settleable n → Settleable (capped_by limit n)
capped-settleable limit n h =
    by-test (ltb 0 limit) (λ e. rw e (record { some = omega (arith, ltb-true 0 limit e, h.some); small = omega (arith, h.small) })) (λ e. rw e h)

bounded-settleable : (lookback staleness r : ℕ) → staleness ≤ time_limit → Settleable r → Settleable (bounded_reach lookback staleness r)
unfolding bounded_reach
bounded-settleable lookback staleness r s h =
    let k = capped-settleable lookback r h in
    record { some = omega (arith, k.some); small = omega (arith, k.small) }

raised-settleable : (step : ℕ) (adjust : Bool) (reach : ℕ) → Settleable step → Settleable reach → Settleable (raised_step step adjust reach)
raised-settleable step true reach s h = record { some = omega (arith, s.some); small = omega (arith, s.small, h.small) }
raised-settleable step false reach s h = s

window-settleable : (window step : ℕ) (adjust default : Bool) (lookback reach : ℕ) → window ≤ time_limit → Settleable step → Settleable reach → Settleable (window_of window step adjust default lookback reach)
unfolding window_of
window-settleable window step adjust default lookback reach w s h =
    let r = raised-settleable step adjust reach s h in
    by-test (ltb 0 window) (λ e. rw e (record { some = ltb-true 0 window e; small = omega arith }))
    (λ e. rw e (implied default (raised_step step adjust reach) r))
  where
    implied : (flag : Bool) (n : ℕ) → Settleable n → Settleable (cond flag (capped_by lookback n) n)
    implied true n k = capped-settleable lookback n k
    implied false n k = k

-- ---- accepted times and settings

module _ (ts : List ℤ) (rc : RollupConfig) (times : times_checked ts ≡ Ok tt) (settings : settings_checked rc ≡ Ok tt) where
  pub reach-in : Settleable (settled_reach_of ts rc)
  unfolding settled_reach_of
  reach-in =
      bounded-settleable _ _ _ (settings-passed rc settings).staleness.small
      (reach-settleable (estimate_of ts) (estimate-some ts) (estimate-small ts (not-falling ts times) (within ts times)))

  pub window-in : Settleable (settled_window_of ts rc)
  unfolding settled_window_of
  window-in =
      let p = settings-passed rc settings in
      window-settleable (nat_abs rc.window) (nat_abs rc.step) _ _ _ _ p.window.small (record { some = step-some rc.step p.spans.step_positive; small = omega (arith, p.step.small) }) reach-in

-- ---- the law

settleable-passes : (n : ℕ) → Settleable n → outside (pos 1) (pos settled_limit) (pos n) ≡ false
unfolding outside
settleable-passes n h = rw (le-ltb n 1 h.some, le-ltb settled_limit n h.small)

given : {A : Type 0} (c : Checked) (x y : A) → reply_of c x ≡ gives y → (c ≡ Ok tt) × (x ≡ y)
given {A} (Ok _) x y e = (refl, cc (ap (λ (a : Reply A). a.values) e))
given {A} (Err r) x y e = absurd (let clash : ◌≡◌ {A = ℕ} 0 1 = cc (ap (λ (a : Reply A). a.values) e) in omega arith)

-- What an accepted settle gives passes row 8 of a settled run.
pub settled-in-range : (ts : List ℤ) (rc : RollupConfig) (s : Settlement) → settle_of ts rc ≡ gives s → settled_row8 s.window s.reach ≡ Ok tt
unfolding settle_of settled_outside
settled-in-range ts rc s e =
    let both = given (first_refusal (times_checked ts ∷ settings_checked rc ∷ [])) (settlement ts rc) s e in
    let rows = all-accept (times_checked ts ∷ settings_checked rc ∷ []) both.0 in
    let window : s.window ≡ pos (settled_window_of ts rc) = cc both.1 in
    let reach : s.reach ≡ pos (settled_reach_of ts rc) = cc both.1 in
    rw (window, reach, settleable-passes (settled_window_of ts rc) (window-in ts rc rows.0 rows.1.0), settleable-passes (settled_reach_of ts rc) (reach-in ts rc rows.0 rows.1.0))
