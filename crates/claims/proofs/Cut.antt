-- An accepted call's answers are a map over its output times, and its count is its samples plus a sum over them. So joined output times give joined answers,
-- and a sum of counts that has the samples once for each accepted call.
-- Assumes nothing.
use mathlib.Core.Path.{◌≡◌, refl, sym, ap, ap₂, ◌∙◌, subst}
use mathlib.Core.List.{List, [], ◌∷◌, ◌++◌, map-append}
use mathlib.Core.Option.{Option, none, some, get_or}
use Prim.Native.Nat.{ℕ, zero, suc, ◌+◌, ◌-◌, ◌*◌, ◌<◌}
use native.Mathlib.Nat.{add-mul, mul_comm, suc-mul}
use native.Mathlib.Omega.{arith}
use lib.IntN.{ℤ}
use lib.ListN.{length, length-map, take}
use lib.Seq.{take_at}
use Rattle.series.specs.Answers.{Outcome}
use Rattle.series.specs.Refusals.{Checked}
use Rattle.std.specs.Prelude.{Ok, Err}
use Rattle.outputs.specs.Figures.{figures, scans}
use Rattle.outputs.proofs.Loop.{scans-append}
use Rattle.run.specs.Run.{Lent, Plan, counted_of, planned, prepared_series}
use Rattle.claims.specs.Calls.{Call, accepted, answers, checked, counted, if_given, output_times, plan, returned, samples}
use Rattle.claims.specs.Cut.{AcceptedAlike, Alike, Cut, Rejoined, joined, total}
use Rattle.claims.proofs.Calls.{accepted-call, prepared-samples, returned-is, some-outputs}

-- ---- figures and scans by a plan, at any output times

abbrev figures_by : Plan → List ℤ → List ℕ
figures_by p ts = figures p.handler (prepared_series p) p.window p.reach ts

abbrev scans_by : Plan → List ℤ → ℕ
scans_by p ts = scans p.per_call (prepared_series p) p.window ts

figures-append : (p : Plan) (ts us : List ℤ) → figures_by p (ts ++ us) ≡ figures_by p ts ++ figures_by p us
unfolding figures
figures-append p ts us = map-append _ ts us

figures-length : (p : Plan) (ts : List ℤ) → length (figures_by p ts) ≡ length ts
unfolding figures
figures-length p ts = length-map ts _

-- ---- what a call leaves that goes by q, alike to p

abbrev times_in : Outcome ℕ Lent → Plan → List ℤ
times_in o q = if_given o.answer.values q.outputs []

module _ (p : Plan) where
  answers-in : (k : Checked) (q : Plan) (l : Lent) → (k ≡ Ok tt → Alike q p)
      → let o = planned k q l in take (length (times_in o q)) o.slices.dst ≡ figures_by p (times_in o q)
  unfolding figures
  answers-in (Err r) q l alike = refl
  answers-in (Ok _) q l alike =
      let a = alike refl in
      take_at (figures_by q q.outputs) _ (length q.outputs) (figures-length q q.outputs) ∙ cc

  count-in : (k : Checked) (q : Plan) (l : Lent) → (k ≡ Ok tt → Alike q p)
      → let o = planned k q l in get_or o.answer.values 0 ≡ if_given o.answer.values 1 0 * length (prepared_series p) + scans_by p (times_in o q)
  unfolding scans
  count-in (Err r) q l alike = omega arith
  count-in (Ok _) q l alike =
      let a = alike refl in
      let e : counted_of q ≡ length (prepared_series p) + scans_by p q.outputs = cc in
      e ∙ omega arith

  call-answers : (c : Call) → (checked c ≡ Ok tt → Alike (plan c) p) → answers c ≡ figures_by p (output_times c)
  call-answers c alike =
      subst (λ (o : Outcome ℕ Lent). take (length (times_in o (plan c))) o.slices.dst ≡ figures_by p (times_in o (plan c))) (sym (returned-is c))
      (answers-in (checked c) (plan c) c.lent alike)

  call-count : (c : Call) → (checked c ≡ Ok tt → Alike (plan c) p) → counted c ≡ accepted c * length (prepared_series p) + scans_by p (output_times c)
  call-count c alike =
      subst (λ (o : Outcome ℕ Lent). get_or o.answer.values 0 ≡ if_given o.answer.values 1 0 * length (prepared_series p) + scans_by p (times_in o (plan c))) (sym (returned-is c))
      (count-in (checked c) (plan c) c.lent alike)

  -- ---- the list

  joined-answers : (cs : List Call) → AcceptedAlike p cs → joined answers cs ≡ figures_by p (joined output_times cs)
  unfolding joined figures
  joined-answers [] a = refl
  joined-answers (c ∷ cs) a =
      ap₂ (λ (x y : List ℕ). x ++ y) (call-answers c a.0) (joined-answers cs a.1) ∙ sym (figures-append p (output_times c) (joined output_times cs))

  total-counts : (cs : List Call) → AcceptedAlike p cs → total counted cs ≡ total accepted cs * length (prepared_series p) + scans_by p (joined output_times cs)
  unfolding joined total scans
  total-counts [] a = omega arith
  total-counts (c ∷ cs) a =
      rw (add-mul (accepted c) (total accepted cs) (length (prepared_series p)))
      (omega (arith, call-count c a.0, total-counts cs a.1, scans-append p.per_call (prepared_series p) p.window (output_times c) (joined output_times cs)))

no-times : (c : Call) → accepted c ≡ 0 → output_times c ≡ []
no-times c e = go (returned c).answer.values e
  where
    go : (x : Option ℕ) → if_given {B = ℕ} x 1 0 ≡ 0 → if_given x (plan c).outputs [] ≡ []
    go (some n) e = absurd (omega arith)
    go none e = refl

none-joined : (cs : List Call) → total accepted cs ≡ 0 → joined output_times cs ≡ []
unfolding joined total
none-joined [] e = refl
none-joined (c ∷ cs) e = ap₂ (λ (x y : List ℤ). x ++ y) (no-times c (omega arith)) (none-joined cs (omega arith))

after_first : (k n : ℕ) → 0 < k → k * n ≡ n + n * (k - 1)
after_first zero n h = absurd (omega arith)
after_first (suc k) n h = let e : suc k - 1 ≡ k = omega arith in rw (e, suc-mul k n, mul_comm k n) (omega arith)

alike-itself : (p : Plan) → Alike p p
alike-itself p = record { times = refl; values = refl; pre = refl; handler = refl; per_call = refl; window = refl; reach = refl }

-- ---- the claim about the whole list

-- For an accepted run or settled run and any list of calls whose accepted ones have its series, choices, window and reach and, joined in order, its output times:
-- their answers joined are its answers, and their counts add up to its count plus its samples once for each accepted one after the first.
pub cut-rejoins : (whole : Call) (pieces : List Call) → checked whole ≡ Ok tt → Cut whole pieces → Rejoined whole pieces
cut-rejoins whole pieces ok cut =
    let p = plan whole in
    let own : checked whole ≡ Ok tt → Alike p p = λ e. alike-itself p in
    let some : 0 < total accepted pieces = at_least_one (total accepted pieces) refl in
    record {
      answers = joined-answers p pieces cut.alike ∙ ap (figures_by p) cut.times ∙ sym (call-answers p whole own);
      some = some;
      counts =
          let all = rw (cut.times, prepared-samples whole ok) at (total-counts p pieces cut.alike) in
          let one = rw (accepted-call whole ok, prepared-samples whole ok) at (call-count p whole own) in
          omega (arith, all, one, after_first (total accepted pieces) (samples whole) some);
    }
  where
    at_least_one : (k : ℕ) → total accepted pieces ≡ k → 0 < k
    at_least_one zero e = absurd (omega (arith, some-outputs whole ok, ap length cut.times, ap length (none-joined pieces e)))
    at_least_one (suc k) e = omega arith
