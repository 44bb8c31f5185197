-- A loop over values and times at once, as a fold over the readings: what is folded and what is left make the whole.
-- Assumes nothing.
use Prim.Native.Nat.{ℕ, min, ◌≤◌}
use native.Mathlib.Omega.{arith}
use borrow.Author.Tests.{leb-true, leb-false}
use lib.Dec.{leb}
use lib.ListN.{length, drop, drop_of_length-le}
use Rattle.ieee.proofs.Tests.{by-test}
use mathlib.Core.Path.{◌≡◌, refl}
use mathlib.Core.Logic.{◌⊎◌, inl, inr}
use mathlib.Core.List.{List, [], ◌∷◌, foldl}
use lib.IntN.{ℤ}
use lib.Ieee.{Float, binary64, of_bits}
use Rattle.ieee.specs.Patterns.{floats}
use Rattle.window.specs.Window.{readings}

-- the fold from s over the readings of these values and times is the whole
pub record Left {S : Type 0} (step : S → Float × ℤ → S) (whole s : S) (vs : List ℕ) (ts : List ℤ) : Type 0 where
  pub left : foldl step s (readings (floats vs) ts) ≡ whole

pub begun : {S : Type 0} {step : S → Float × ℤ → S} {s : S} {vs : List ℕ} {ts : List ℤ} → Left step (foldl step s (readings (floats vs) ts)) s vs ts
begun = record { left = refl }

-- one reading further
pub taken : {S : Type 0} {step : S → Float × ℤ → S} {whole s s' : S} {vs ws : List ℕ} {ts us : List ℤ} {b : ℕ} {u : ℤ} → Left step whole s vs ts → vs ≡ b ∷ ws → ts ≡ u ∷ us
    → s' ≡ step s (of_bits binary64 b, u) → Left step whole s' ws us
unfolding floats readings
taken h v t e = record { left = rw e (rw (v, t) at h.left) }

-- none left
pub over : {S : Type 0} {step : S → Float × ℤ → S} {whole s : S} {vs : List ℕ} {ts : List ℤ} → Left step whole s vs ts → (vs ≡ []) ⊎ (ts ≡ []) → s ≡ whole
unfolding floats readings
over h (inl e) = rw e at h.left
over {vs = []} h (inr e) = h.left
over {vs = b ∷ vs} h (inr e) = rw e at h.left

-- past the shorter of two lists, by an index
pub none_left : {A B : Type 0} (l : List A) (m : List B) (i : ℕ) → min (length l) (length m) ≤ i → (drop i l ≡ []) ⊎ (drop i m ≡ [])
none_left l m i h =
    by-test (leb (length l) i) (λ e. inl (drop_of_length-le l (leb-true (length l) i e)))
    (λ e. let k : length m ≤ i = omega (arith, leb-false (length l) i e) in inr (drop_of_length-le m k))
