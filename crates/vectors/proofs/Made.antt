-- An array that is made by calls of a closure, which the calls leave as it is.
-- Assumes nothing.
use Rattle.std.proofs.Common.{List, ◌≡◌, ◌∙◌, subst, ℕ, zero, suc, ◌+◌, ◌<◌, get_or, arith}
use Rattle.std.specs.Array.{IsFromFnResultFrom}
use denote.Param.Members.{Called, Mut}

module _ {F B : Type 0} (g : Mut F (ℕ × Unit {0}) B) (f : F) (P : ℕ → B → Type 0) (stays : (p q : F) (i : ℕ) (y : B) → Called g p (i, tt) y q → q ≡ p) (gives : (q : F) (i : ℕ) (y : B) → Called g f (i, tt) y q → P i y) where
  -- each element is as its call gives it
  pub each_given : (n i : ℕ) (p : F) (ys : List B) → p ≡ f → IsFromFnResultFrom g p ys i n → (k j : ℕ) (d : B) → k < n → i + k ≡ j → P j (get_or ys j d)
  each_given zero i p ys e m k j d below place = absurd (omega arith)
  each_given (suc n) i p ys e m zero j d below place =
      let here : i ≡ j = omega arith in
      rw (← here, m.2.1 d) (gives m.0 i m.1 (subst (λ r. Called g r (i, tt) m.1 m.0) e m.3))
  each_given (suc n) i p ys e m (suc k) j d below place =
      each_given n (i + 1) m.0 ys (stays p m.0 i m.1 m.3 ∙ e) m.4 k j d (omega arith) (omega arith)
