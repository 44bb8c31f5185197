-- A call through numbers replies what the call that it makes returns, and one that makes none gives no answer and counts nothing. So the cut of the calls that
-- are made is the cut of the replies.
-- Assumes nothing.
use mathlib.Core.Path.{◌≡◌, refl, sym, ap, ap₂, ◌∙◌}
use mathlib.Core.List.{List, [], ◌∷◌, ◌++◌, append_assoc, append-nil}
use mathlib.Core.Logic.{◌⊎◌, inl, inr, ⊎_elim}
use mathlib.Core.Option.{none}
use Prim.Native.Nat.{ℕ, ◌+◌}
use native.Mathlib.Omega.{arith}
use Rattle.std.specs.Prelude.{Some, None}
use Rattle.harzoulin.specs.Runs.{Choice}
use Rattle.rollup.specs.declared.handler.RollupHandler.{RollupHandler}
use Rattle.std.specs.Prelude.{Ok}
use Rattle.steps.specs.declared.PreFunction.{PreFunction}
use Rattle.claims.specs.Calls.{Call, Settings, run, settled, accepted, answers, checked, counted, plan, returned, samples}
use Rattle.claims.specs.Cut.{Cut, joined, total}
use Rattle.claims.specs.Numbered.{NumberedCall, NumberedRejoined, choice, grid_of, made, replied, replied_accepted, replied_answers, replied_count, replied_samples}
use Rattle.claims.proofs.Cut.{cut-rejoins}

-- ---- joining and adding up over lists of lists

joined-append : {A C : Type 0} (f : C → List A) (xs ys : List C) → joined f (xs ++ ys) ≡ joined f xs ++ joined f ys
unfolding joined
joined-append f [] ys = refl
joined-append f (x ∷ xs) ys = ap (λ zs. f x ++ zs) (joined-append f xs ys) ∙ sym (append_assoc (f x) (joined f xs) (joined f ys))

total-append : {C : Type 0} (f : C → ℕ) (xs ys : List C) → total f (xs ++ ys) ≡ total f xs + total f ys
unfolding total
total-append f [] ys = omega arith
total-append f (x ∷ xs) ys = omega (arith, total-append f xs ys)

module _ {B C : Type 0} (g : B → List C) where
  joined-through : {A : Type 0} (h : B → List A) (f : C → List A) → ((b : B) → h b ≡ joined f (g b)) → (bs : List B) → joined h bs ≡ joined f (joined g bs)
  unfolding joined
  joined-through h f e [] = refl
  joined-through h f e (b ∷ bs) = ap₂ (λ xs ys. xs ++ ys) (e b) (joined-through h f e bs) ∙ sym (joined-append f (g b) (joined g bs))

  total-through : (h : B → ℕ) (f : C → ℕ) → ((b : B) → h b ≡ total f (g b)) → (bs : List B) → total h bs ≡ total f (joined g bs)
  unfolding joined total
  total-through h f e [] = refl
  total-through h f e (b ∷ bs) = omega (arith, e b, total-through h f e bs, total-append f (g b) (joined g bs))

-- ---- one call

-- it makes the call c, and replies what that returns
record Makes (e : NumberedCall) (c : Call) : Type 0 where
  made_is : made e ≡ c ∷ []
  replied_is : replied e ≡ returned c
  outputs_are : grid_of e.settings ≡ (plan c).outputs

-- it makes none, and is refused
record MakesNone (e : NumberedCall) : Type 0 where
  made_is : made e ≡ []
  refused : (replied e).answer.values ≡ none

abbrev with_choice : NumberedCall → PreFunction → RollupHandler → Call
with_choice e pre h = record { times = e.times; values = e.values; pre = pre; handler = h; settings = e.settings; lent = e.lent }

makes : (e : NumberedCall) → ((c : Call) × Makes e c) ⊎ MakesNone e
makes e = go (choice e) e.settings refl refl
  where
    go : (k : Choice) (s : Settings) → choice e ≡ k → e.settings ≡ s → ((c : Call) × Makes e c) ⊎ MakesNone e
    go (Some (pre, h)) (run rc) p q = inl (with_choice e pre h, record { made_is = rw p; replied_is = rw (p, q); outputs_are = rw q })
    go (Some (pre, h)) (settled sc) p q = inl (with_choice e pre h, record { made_is = rw p; replied_is = rw (p, q); outputs_are = rw q })
    go None (run rc) p q = inr (record { made_is = rw p; refused = rw (p, q) })
    go None (settled sc) p q = inr (record { made_is = rw p; refused = rw (p, q) })

module _ (e : NumberedCall) where
  answers_by : replied_answers e ≡ joined answers (made e)
  unfolding joined
  answers_by =
      ⊎_elim (λ m. rw (m.1.made_is, m.1.replied_is, m.1.outputs_are) (sym (append-nil _))) (λ m. rw (m.made_is, m.refused)) (makes e)

  count_by : replied_count e ≡ total counted (made e)
  unfolding total
  count_by = ⊎_elim (λ m. rw (m.1.made_is, m.1.replied_is) (omega arith)) (λ m. rw (m.made_is, m.refused)) (makes e)

  accepted-by : replied_accepted e ≡ total accepted (made e)
  unfolding total
  accepted-by = ⊎_elim (λ m. rw (m.1.made_is, m.1.replied_is) (omega arith)) (λ m. rw (m.made_is, m.refused)) (makes e)

-- ---- the cut over what the exported functions reply

-- For an accepted call of an exported run and any list of such calls, some perhaps refused, 28 among the refusals: where the calls that the list makes are a cut
-- of the call that it makes, the replies rejoin as the calls do.
pub numbered-cut-rejoins : (whole : NumberedCall) (pieces : List NumberedCall) (c : Call) → made whole ≡ c ∷ [] → checked c ≡ Ok tt → Cut c (joined made pieces)
    → NumberedRejoined whole pieces
unfolding joined total
numbered-cut-rejoins whole pieces c one ok cut =
    let r = cut-rejoins c (joined made pieces) ok cut in
    let n : total replied_accepted pieces ≡ total accepted (joined made pieces) = total-through made replied_accepted accepted accepted-by pieces in
    let all : replied_answers whole ≡ answers c = answers_by whole ∙ rw one (append-nil (answers c)) in
    let count : replied_count whole ≡ counted c = count_by whole ∙ rw one (omega arith) in
    let same : replied_samples whole ≡ samples c = rw one (omega arith) in
    record {
      answers = joined-through made replied_answers answers answers_by pieces ∙ r.answers ∙ sym all;
      some = rw n r.some;
      counts = rw (n, total-through made replied_count counted count_by pieces, count, same) r.counts;
    }
