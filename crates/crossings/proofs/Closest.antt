-- The nearest reading as a reader expects it: no index has a smaller distance, and no lower one an equal distance. One index is so, and it is the definition's.
-- Assumes nothing.
use Prim.Native.Nat.{ℕ, zero, suc, ◌≤◌, ◌<◌}
use mathlib.Core.Bool.{true, false, false≢true}
use mathlib.Core.List.{List, [], ◌∷◌}
use mathlib.Core.Path.{◌≡◌, refl, sym, ap, subst, ◌∙◌}
use native.Mathlib.Omega.{arith}
use borrow.Author.Tests.{lt-ltb, le-ltb, ltb-true, ltb-false}
use Rattle.std.specs.Prelude.{Some, None}
use lib.Dec.{ltb}
use lib.IntN.{ℤ, pos}
use lib.ListN.{length, get_or}
use Rattle.ieee.proofs.Tests.{by-test}
use Rattle.times.proofs.Leading.{leading-passes, leading-fails, leading-only}
use Rattle.crossings.specs.Nearest.{Nearest, distance, has_closer, nearest_index, nearest_reading}

module _ (t : ℤ) where
  abbrev far : List ℤ → ℕ → ℕ
  far ts i = distance t (get_or ts i (pos 0))

  some-closer : (ts : List ℤ) (u : ℤ) (j : ℕ) → j < length ts → far ts j < distance t u → has_closer t ts u ≡ true
  unfolding has_closer
  some-closer [] u j h k = absurd (omega arith)
  some-closer (v ∷ vs) u zero h k = rw (lt-ltb (distance t v) (distance t u) k)
  some-closer (v ∷ vs) u (suc j) h k =
      by-test (ltb (distance t v) (distance t u)) (λ e. rw e) (λ e. rw e (some-closer vs u j (omega arith) k))

  none-closer : (ts : List ℤ) (u : ℤ) → ((j : ℕ) → j < length ts → distance t u ≤ far ts j) → has_closer t ts u ≡ false
  unfolding has_closer
  none-closer [] u least = refl
  none-closer (v ∷ vs) u least =
      rw (le-ltb (distance t v) (distance t u) (least zero (omega arith))) (none-closer vs u (λ j h. least (suc j) (omega arith)))

  -- one index is so at most
  pub nearest-only : (ts : List ℤ) (i : ℕ) → Nearest t ts i → i ≡ nearest_index t ts
  unfolding nearest_index
  nearest-only ts i n =
      leading-only (has_closer t ts) (pos 0) ts i (omega (arith, n.within))
      (λ j h. some-closer ts (get_or ts j (pos 0)) i n.within (n.lowest j h)) (λ h. none-closer ts (get_or ts i (pos 0)) n.closest)

  -- ---- and one is

  record Least (ts : List ℤ) : Type 0 where
    at : ℕ
    within : at < length ts
    closest : (j : ℕ) → j < length ts → far ts at ≤ far ts j

  -- of the first time and the closest of the others
  head-closest : (u v : ℤ) (vs : List ℤ) (l : Least (v ∷ vs)) → distance t u ≤ far (v ∷ vs) l.at → (j : ℕ) → j < length (u ∷ v ∷ vs) → distance t u ≤ far (u ∷ v ∷ vs) j
  head-closest u v vs l k zero h = omega arith
  head-closest u v vs l k (suc j) h = omega (arith, k, l.closest j (omega arith))

  tail-closest : (u v : ℤ) (vs : List ℤ) (l : Least (v ∷ vs)) → far (v ∷ vs) l.at < distance t u → (j : ℕ) → j < length (u ∷ v ∷ vs) → far (v ∷ vs) l.at ≤ far (u ∷ v ∷ vs) j
  tail-closest u v vs l k zero h = omega (arith, k)
  tail-closest u v vs l k (suc j) h = l.closest j (omega arith)

  least : (u : ℤ) (us : List ℤ) → Least (u ∷ us)
  least u [] = record { at = zero; within = omega arith; closest = λ j h. let e : j ≡ zero = omega arith in rw e (omega arith) }
  least u (v ∷ vs) =
      let l = least v vs in
      by-test (ltb (far (v ∷ vs) l.at) (distance t u))
      (λ e. record { at = suc l.at; within = omega (arith, l.within); closest = tail-closest u v vs l (ltb-true _ _ e) })
      (λ e. record { at = zero; within = omega arith; closest = head-closest u v vs l (ltb-false _ _ e) })

  -- the first index without a closer one is an index
  nearest-within : (u : ℤ) (us : List ℤ) → nearest_index t (u ∷ us) < length (u ∷ us)
  unfolding nearest_index
  nearest-within u us =
      let ts = u ∷ us in
      let l = least u us in
      by-test (ltb (nearest_index t ts) (length ts)) (λ e. ltb-true (nearest_index t ts) (length ts) e)
      (λ e.
      let passes = leading-passes (has_closer t ts) (pos 0) ts l.at (omega (arith, l.within, ltb-false (nearest_index t ts) (length ts) e)) in
      absurd (false≢true (sym (none-closer ts (get_or ts l.at (pos 0)) l.closest) ∙ passes)))

  -- what has no closer one has the least distance
  all-farther : (ts : List ℤ) (u : ℤ) → has_closer t ts u ≡ false → (j : ℕ) → j < length ts → distance t u ≤ far ts j
  all-farther ts u e j h =
      by-test (ltb (far ts j) (distance t u)) (λ k. absurd (false≢true (sym e ∙ some-closer ts u j h (ltb-true (far ts j) (distance t u) k)))) (λ k. ltb-false (far ts j) (distance t u) k)

  pub nearest-is : (u : ℤ) (us : List ℤ) → Nearest t (u ∷ us) (nearest_index t (u ∷ us))
  unfolding nearest_index
  nearest-is u us =
      let ts = u ∷ us in
      let i = nearest_index t ts in
      let closest = all-farther ts (get_or ts i (pos 0)) (leading-fails (has_closer t ts) (pos 0) ts (nearest-within u us)) in
      record {
        within = nearest-within u us;
        closest = closest;
        lowest = λ j h.
            by-test (ltb (far ts i) (far ts j)) (λ e. ltb-true (far ts i) (far ts j) e)
            (λ e.
            let least = none-closer ts (get_or ts j (pos 0)) (λ k l. omega (arith, ltb-false (far ts i) (far ts j) e, closest k l)) in
            absurd (false≢true (sym least ∙ leading-passes (has_closer t ts) (pos 0) ts j h)));
      }

  -- ---- the reading, and none

  pub reading-none : (ts : List ℤ) → length ts ≡ 0 → None ≡ nearest_reading t ts
  reading-none [] e = refl
  reading-none (u ∷ us) e = absurd (omega arith)

  pub reading-some : (ts : List ℤ) → 0 < length ts → Some (nearest_index t ts) ≡ nearest_reading t ts
  reading-some [] h = absurd (omega arith)
  reading-some (u ∷ us) h = refl

  pub reading-nearest : (ts : List ℤ) (i : ℕ) → nearest_reading t ts ≡ Some i → Nearest t ts i
  reading-nearest [] i e = absurd (let clash : ◌≡◌ {A = ℕ} 0 1 = cc in omega arith)
  reading-nearest (u ∷ us) i e = let same : nearest_index t (u ∷ us) ≡ i = cc in subst (Nearest t (u ∷ us)) same (nearest-is u us)

  pub nearest-reading : (ts : List ℤ) (i : ℕ) → Nearest t ts i → nearest_reading t ts ≡ Some i
  nearest-reading [] i n = absurd (omega (arith, n.within))
  nearest-reading (u ∷ us) i n = ap Some (sym (nearest-only (u ∷ us) i n))

  -- none if the series is empty, and only then
  pub empty-none : nearest_reading t [] ≡ None
  empty-none = refl

  pub none-empty : (ts : List ℤ) → nearest_reading t ts ≡ None → ts ≡ []
  none-empty [] e = refl
  none-empty (u ∷ us) e = absurd (let clash : ◌≡◌ {A = ℕ} 0 1 = cc in omega arith)
