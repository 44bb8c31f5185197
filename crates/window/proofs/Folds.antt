-- A loop over a window, as a fold over the list of its items: what the turns so far made and what is left make the whole.
-- Assumes nothing.
use Prim.Native.Nat.{ℕ, ◌+◌, ◌≤◌, ◌<◌}
use mathlib.Core.Path.{◌≡◌, refl}
use mathlib.Core.List.{List, [], ◌∷◌, foldl}
use native.Mathlib.Omega.{arith}
use native.Mathlib.Numerals.{add-one}
use lib.ListN.{length, drop, get_or, drop_of_length-le}
use lib.Seq.{drop-cons}
use lib.Ieee.{Float, nan, binary64, of_bits}
use Rattle.std.specs.List.{fold}
use Rattle.ieee.specs.Patterns.{floats}
use Rattle.ieee.proofs.Floats.{length-floats, get_or-floats}

-- a fold over the patterns, at the value of each, is the fold over the values
pub fold-values : {S : Type 0} (step : S → Float → S) (z : S) (l : List ℕ) → fold (λ s b. step s (of_bits binary64 b)) z l ≡ foldl step z (floats l)
unfolding floats
fold-values step z [] = refl
fold-values step z (b ∷ l) = fold-values step (step z (of_bits binary64 b)) l

-- two folds in one, a pair of their states
pub fold-both : {S T : Type 0} (f : S → Float → S) (g : T → Float → T) (a : S) (z : T) (l : List ℕ) → fold {B = S × T} (λ s b. (f s.0 (of_bits binary64 b), g s.1 (of_bits binary64 b))) (a, z) l ≡ (foldl f a (floats l), foldl g z (floats l))
unfolding floats
fold-both f g a z [] = refl
fold-both f g a z (b ∷ l) = fold-both f g (f a (of_bits binary64 b)) (g z (of_bits binary64 b)) l

-- the fold from s over the items from i on is the whole
pub record Folded {A S : Type 0} (step : S → A → S) (xs : List A) (whole s : S) (i : ℕ) : Type 0 where
  pub left : foldl step s (drop i xs) ≡ whole

-- the item at i is x
pub record At {A : Type 0} (xs : List A) (i : ℕ) (x : A) : Type 0 where
  pub here : drop i xs ≡ x ∷ drop (i + 1) xs

pub start : {A S : Type 0} {step : S → A → S} {xs : List A} {s : S} {i : ℕ} → Folded step xs (foldl step s (drop i xs)) s i
start = record { left = refl }

pub turn : {A S : Type 0} {step : S → A → S} {xs : List A} {whole s s' : S} {i : ℕ} {x : A} → Folded step xs whole s i → At xs i x → s' ≡ step s x → Folded step xs whole s' (i + 1)
turn h at e = record { left = rw e (rw at.here at h.left) }

pub done : {A S : Type 0} {step : S → A → S} {xs : List A} {whole s : S} {i : ℕ} → length xs ≤ i → Folded step xs whole s i → s ≡ whole
done {xs = xs} e h = rw (drop_of_length-le xs e) at h.left

-- the item at i, whatever stands past the end
pub item : {A : Type 0} (xs : List A) (i : ℕ) (d : A) → i < length xs → At xs i (get_or xs i d)
item xs i d h = record { here = rw (add-one i, drop-cons xs i d h) }

-- the value at i, by its pattern
pub value : (l : List ℕ) (i : ℕ) → i < length l → At (floats l) i (of_bits binary64 (get_or l i 0))
value l i h =
    let h' : i < length (floats l) = omega (arith, length-floats l) in
    record { here = rw (add-one i, drop-cons (floats l) i nan h', get_or-floats l i nan h) }

pub done-values : {S : Type 0} {step : S → Float → S} {whole s : S} (l : List ℕ) {i : ℕ} → length l ≤ i → Folded step (floats l) whole s i → s ≡ whole
done-values l e h = done (omega (arith, length-floats l)) h
