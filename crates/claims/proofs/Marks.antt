-- Marks are taken out before anything else: an accepted call answers as on what remains, settle on that gives a run's window and reach, and where there are no
-- marks nothing is taken out.
-- Assumes nothing.
use Prim.Native.Nat.{ℕ, zero, suc, ◌*◌, ◌^◌, ◌≤◌, ◌<◌}
use mathlib.Core.Bool.{Bool, true, false, not, ◌&&◌, true≢false}
use mathlib.Core.List.{List, [], ◌∷◌}
use mathlib.Core.Path.{◌≡◌, refl, sym, ap, ◌∙◌, subst}
use native.Mathlib.Omega.{arith}
use borrow.Author.Tests.{le-ltb}
use lib.IntN.{ℤ}
use lib.ListN.{get_or, length}
use Rattle.config.specs.Settle.{settle_of, settlement}
use Rattle.ieee.specs.Patterns.{floats, patterns}
use Rattle.marks.proofs.Remaining.{accepted-remains, remaining-accepted}
use Rattle.marks.proofs.Rows.{accepted-unmarked}
use Rattle.marks.specs.Marks.{marked_checked, remaining_of}
use Rattle.outputs.specs.Figures.{count_of}
use Rattle.outputs.specs.Place.{outputs_of}
use Rattle.record.specs.Record.{readings}
use Rattle.rollup.specs.Eval.{sees_marks}
use Rattle.rollup.specs.declared.handler.RollupHandler.{RollupHandler}
use Rattle.run.proofs.Filled.{remaining-few, remaining-length}
use Rattle.run.proofs.Kept.{kept-times-accepted}
use Rattle.run.proofs.Passed.{rooms}
use Rattle.run.specs.Run.{Lent, Plan, bits_if, call_checked, is_none, kept, kept_bits, kept_if, kept_times, lent_checked, plan_of, planned, prepared_bits, room_checked, room_of, row12, row14, row19, run_checked, run_course, run_of, run_plan, settled_run_of}
use Rattle.series.proofs.Accepted.{AllAccept, accepted-series, all-accept, fails}
use Rattle.series.proofs.Patterns.{patterns-floats}
use Rattle.series.specs.Answers.{outcome_of}
use Rattle.series.specs.Refusals.{Checked, first_refusal, refused_if}
use Rattle.series.specs.Rows.{row13, series_checked}
use Rattle.series.specs.Series.{Series, series}
use Rattle.series.specs.declared.refusal.Refusal.TheVariants.{StepOfMarks}
use Rattle.settings.specs.Course.{settled_course}
use Rattle.settings.specs.Rows.{settings_checked, settled_settings}
use Rattle.settings.specs.declared.RollupConfig.{RollupConfig}
use Rattle.settings.specs.declared.SettledConfig.{SettledConfig}
use Rattle.settings.specs.declared.course.Course.{Course}
use Rattle.std.specs.Prelude.{Ok, Err}
use Rattle.steps.specs.Steps.{prepared_of}
use Rattle.steps.specs.declared.PreFunction.{PreFunction}
use Rattle.steps.specs.declared.PreFunction.TheVariants.{None, Resets, Delta, Deriv, Intervals, ResetsOnce}
use Rattle.times.specs.Grid.{grid_size}
use Rattle.claims.specs.Agree.{Unmarked, Words}
use Rattle.claims.specs.Calls.{Call, Settings, run, settled, checked, plan_by, returned}
use Rattle.claims.specs.Marks.{SettlesTo, plain_bits, plain_call, plain_checked, plain_written, without_marks}
use Rattle.claims.proofs.Calls.{checked-is, points, returned-is, rows-accept, rows_by}
use Rattle.claims.proofs.Piece.{all-accepted}
use Rattle.claims.proofs.Unmarked.{rows-are}

-- ---- settle

-- Settle, handed the times of the readings that an accepted run goes by, gives the run's window and reach.
pub settle-gives-run : (ts : List ℤ) (vs : List ℕ) (pre : PreFunction) (h : RollupHandler) (rc : RollupConfig) (l : Lent) → run_checked ts vs pre h rc l ≡ Ok tt
    → SettlesTo (kept h ts vs).times rc (run_plan ts vs pre h rc)
unfolding settle_of
settle-gives-run ts vs pre h rc l ok =
    let c : Call = record { times = ts; values = vs; pre = pre; handler = h; settings = run rc; lent = l } in
    let rows = rows-accept c ok in
    record {
      settled = settlement (kept h ts vs).times rc;
      given = rw (kept-times-accepted ts vs rows.0 h, rows.1.0) refl;
      window = refl;
      reach = refl;
    }

-- For a rollup that does not see marks these are the remaining times,
pub settle-remaining-gives-run : (ts : List ℤ) (vs : List ℕ) (pre : PreFunction) (h : RollupHandler) (rc : RollupConfig) (l : Lent) → sees_marks h ≡ false → run_checked ts vs pre h rc l ≡ Ok tt
    → SettlesTo (remaining_of ts vs).times rc (run_plan ts vs pre h rc)
settle-remaining-gives-run ts vs pre h rc l blind ok =
    let left : (kept h ts vs).times ≡ (remaining_of ts vs).times = ap (λ (b : Bool). (kept_if b ts vs).times) blind in
    subst (λ us. SettlesTo us rc (run_plan ts vs pre h rc)) left (settle-gives-run ts vs pre h rc l ok)

-- and for one that sees them all times.
pub settle-all-gives-run : (ts : List ℤ) (vs : List ℕ) (pre : PreFunction) (h : RollupHandler) (rc : RollupConfig) (l : Lent) → sees_marks h ≡ true → run_checked ts vs pre h rc l ≡ Ok tt
    → SettlesTo ts rc (run_plan ts vs pre h rc)
settle-all-gives-run ts vs pre h rc l sees ok =
    let all : (kept h ts vs).times ≡ ts = ap (λ (b : Bool). (kept_if b ts vs).times) sees in
    subst (λ us. SettlesTo us rc (run_plan ts vs pre h rc)) all (settle-gives-run ts vs pre h rc l ok)

-- ---- a call beside the one that is handed what remains

-- nothing more is taken out of it
left-remains : (ts : List ℤ) (vs : List ℕ) → marked_checked ts vs ≡ Ok tt → remaining_of (remaining_of ts vs).times (remaining_of ts vs).values ≡ remaining_of ts vs
left-remains ts vs ok = accepted-remains (remaining_of ts vs).times (remaining_of ts vs).values (remaining-accepted ts vs ok)

-- the slices have the room for what remains where they have it for the series
rooms-left : (n k m : ℕ) (l : Lent) → k ≤ n → lent_checked n m l ≡ Ok tt → lent_checked k m l ≡ Ok tt
unfolding room_checked
rooms-left n k m l h e =
    let r = rooms n m (room_of l) e in
    let dst : row12 m (length l.dst) ≡ Ok tt = rw (le-ltb (length l.dst) m r.0) in
    let prepared : row13 k (length l.prepared) ≡ Ok tt = rw (le-ltb (length l.prepared) k (omega (arith, r.1))) in
    let remaining : row13 k (length l.remaining) ≡ Ok tt = rw (le-ltb (length l.remaining) k (omega (arith, r.2))) in
    let work : row14 k (length l.work) ≡ Ok tt = rw (le-ltb (length l.work) (2 * k) (omega (arith, r.3))) in
    all-accepted (row12 m (length l.dst) ∷ row13 k (length l.prepared) ∷ row13 k (length l.remaining) ∷ row14 k (length l.work) ∷ []) (dst, (prepared, (remaining, (work, tt))))

-- what an accepted call leaves is settled by its course and the readings that it goes by
same-planned : (p q : Plan) (l : Lent) → kept_times p ≡ kept_times q → prepared_bits p ≡ prepared_bits q → p.handler ≡ q.handler → p.outputs ≡ q.outputs → p.window ≡ q.window → p.reach ≡ q.reach
    → p.per_call ≡ q.per_call → planned (Ok tt) p l ≡ planned (Ok tt) q l
same-planned p q l times bits handler outputs window reach per_call = cc

-- An accepted call of a rollup that does not see marks answers, counts and leaves in every slice what the call that is handed what remains does.
pub marks-taken-out : (c : Call) → sees_marks c.handler ≡ false → checked c ≡ Ok tt → (checked (without_marks c) ≡ Ok tt) × (returned c ≡ returned (without_marks c))
marks-taken-out c blind ok = (accepted-left, returned-is c ∙ rw (ok, accepted-left) (go c.settings) ∙ sym (returned-is d))
  where
    d : Call
    d = without_marks c

    rows : AllAccept (rows_by c c.settings)
    rows = rows-accept c ok

    again : remaining_of d.times d.values ≡ remaining_of c.times c.values
    again = left-remains c.times c.values rows.0

    fewer : length d.values ≤ length c.values
    fewer = omega (arith, remaining-length c.times c.values, remaining-few c.times c.values rows.0)

    accepted-left : checked d ≡ Ok tt
    accepted-left =
        checked-is d
        ∙ all-accepted (rows_by d d.settings)
        (accepted-unmarked d.times d.values (remaining-accepted c.times c.values rows.0), (rows.1.0, (rooms-left (length c.values) (length d.values) (points c.settings) c.lent fewer rows.1.1.0, (rows.1.1.1.0, tt))))

    same : kept c.handler d.times d.values ≡ kept c.handler c.times c.values
    same =
        ap (λ (b : Bool). kept_if b d.times d.values) blind ∙ again ∙ sym (ap (λ (b : Bool). kept_if b c.times c.values) blind)

    bits : kept_bits c.pre c.handler d.times d.values ≡ kept_bits c.pre c.handler c.times c.values
    bits = ap (λ (s : Series). bits_if (sees_marks c.handler) c.pre s) same

    times : (kept c.handler d.times d.values).times ≡ (kept c.handler c.times c.values).times
    times = ap (λ (s : Series). s.times) same

    go : (s : Settings) → planned (Ok tt) (plan_by c s) c.lent ≡ planned (Ok tt) (plan_by d s) c.lent
    go (run rc) = same-planned (plan_by c (run rc)) (plan_by d (run rc)) c.lent (sym times) (sym bits) refl refl (ap (λ (us : List ℤ). (run_course us rc).window) (sym times)) (ap (λ (us : List ℤ). (run_course us rc).reach) (sym times)) refl
    go (settled sc) = same-planned (plan_by c (settled sc)) (plan_by d (settled sc)) c.lent (sym times) (sym bits) refl refl refl refl refl

-- ---- a call on a series without marks

three-rows : (a b c : Checked) → first_refusal (a ∷ b ∷ c ∷ Ok tt ∷ []) ≡ first_refusal (a ∷ b ∷ c ∷ [])
three-rows (Err r) b c = refl
three-rows (Ok _) (Err r) c = refl
three-rows (Ok _) (Ok _) (Err r) = refl
three-rows (Ok _) (Ok _) (Ok _) = refl

words-fit : (vs : List ℕ) → Words vs → (i : ℕ) → get_or vs i 0 < 2 ^ 64
words-fit [] w i = omega arith
words-fit (v ∷ vs) w zero = w.0
words-fit (v ∷ vs) w (suc i) = words-fit vs w.1 i

-- row 19 leaves a rollup that sees marks without a step
no-step : (pre : PreFunction) → refused_if (not (is_none pre)) StepOfMarks ≡ Ok tt → pre ≡ None
no-step None e = refl
no-step Resets e = absurd (true≢false (fails true StepOfMarks e))
no-step Delta e = absurd (true≢false (fails true StepOfMarks e))
no-step Deriv e = absurd (true≢false (fails true StepOfMarks e))
no-step Intervals e = absurd (true≢false (fails true StepOfMarks e))
no-step ResetsOnce e = absurd (true≢false (fails true StepOfMarks e))

module _ (ts : List ℤ) (vs : List ℕ) (pre : PreFunction) (h : RollupHandler) (unmarked : Unmarked vs) (words : Words vs) (step : row19 h pre ≡ Ok tt) where
  module _ (ok : series_checked ts vs ≡ Ok tt) where
    whole : (b : Bool) → kept_if b ts vs ≡ series ts vs
    whole true = refl
    whole false = accepted-remains ts vs ok

    bits-if : (b : Bool) → refused_if (b && not (is_none pre)) StepOfMarks ≡ Ok tt → bits_if b pre (kept_if b ts vs) ≡ plain_bits ts vs pre
    unfolding prepared_of
    bits-if true e = rw (no-step pre e) (sym (patterns-floats vs (accepted-series ts vs ok).all_finite (words-fit vs words)))
    bits-if false e = ap (λ (s : Series). patterns (prepared_of pre s.times (floats s.values))) (whole false)

    bits : kept_bits pre h ts vs ≡ plain_bits ts vs pre
    bits = bits-if (sees_marks h) step

    times : (kept h ts vs).times ≡ ts
    times = ap (λ (s : Series). s.times) (whole (sees_marks h))

  call-rows : (settings : Checked) (m : ℕ) (l : Lent) → call_checked ts vs pre h settings m l ≡ plain_checked ts vs settings m l
  unfolding call_checked
  call-rows settings m l = rw (rows-are ts vs unmarked, step) (three-rows (series_checked ts vs) settings (lent_checked (length vs) m l))

  -- what the rows say of the series comes first
  series-first : (settings : Checked) (m : ℕ) (l : Lent) → plain_checked ts vs settings m l ≡ Ok tt → series_checked ts vs ≡ Ok tt
  series-first settings m l e = (all-accept (series_checked ts vs ∷ settings ∷ lent_checked (length vs) m l ∷ []) e).0

  -- Without marks a call is that of a series that can have none, whatever it is handed, refused calls included; row 19 aside,
  unmarked-call : (settings : Checked) (m : ℕ) (c : List ℤ → Course) (l : Lent)
      → planned (call_checked ts vs pre h settings m l) (plan_of ts vs pre h (c (kept h ts vs).times)) l ≡ plain_call ts vs pre h settings m (c ts) l
  unmarked-call settings m c l = rw (call-rows settings m l) (go (plain_checked ts vs settings m l) refl)
    where
      go : (k : Checked) → plain_checked ts vs settings m l ≡ k
          → planned k (plan_of ts vs pre h (c (kept h ts vs).times)) l ≡ outcome_of k (count_of (c ts).samples_scanned_per_call (readings ts (plain_bits ts vs pre)) (c ts).window (outputs_of (c ts))) (plain_written ts vs pre h (c ts) l) l
      go (Err r) e = refl
      go (Ok _) e = let ok = series-first settings m l e in cc (times ok, bits ok)

  -- a run,
  pub run-unmarked : (rc : RollupConfig) (l : Lent)
      → run_of ts vs pre h rc l ≡ plain_call ts vs pre h (settings_checked rc) (grid_size rc.start rc.end rc.step) (run_course ts rc) l
  run-unmarked rc l = unmarked-call (settings_checked rc) (grid_size rc.start rc.end rc.step) (λ us. run_course us rc) l

  -- and a settled run.
  pub settled-run-unmarked : (sc : SettledConfig) (l : Lent)
      → settled_run_of ts vs pre h sc l ≡ plain_call ts vs pre h (settled_settings sc) (grid_size sc.start sc.end sc.step) (settled_course sc) l
  settled-run-unmarked sc l = unmarked-call (settled_settings sc) (grid_size sc.start sc.end sc.step) (λ us. settled_course sc) l
