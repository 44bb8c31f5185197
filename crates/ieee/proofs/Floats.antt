-- The values that a slice of patterns stands for: as many as the patterns, each at its pattern's index, a part of them those of the part.
-- Assumes nothing.
use Rattle.std.proofs.Common.{◌≡◌, ℕ, zero, suc, ◌+◌, ◌<◌, ◌≤◌, List, [], ◌∷◌, length, get_or, take, drop, refl, ap, le_of_suc-le-suc, not-suc-le-zero, add-one, drop_of_length-le, drop-cons}
use lib.Ieee.{Float, binary64, of_bits}
use Rattle.ieee.specs.Patterns.{floats}

pub length-floats : (l : List ℕ) → length (floats l) ≡ length l
unfolding floats
length-floats [] = refl
length-floats (b ∷ l) = ap suc (length-floats l)

pub get_or-floats : (l : List ℕ) (i : ℕ) (d : Float) → i < length l → get_or (floats l) i d ≡ of_bits binary64 (get_or l i 0)
unfolding floats
get_or-floats [] i d h = absurd (not-suc-le-zero h)
get_or-floats (b ∷ l) zero d h = refl
get_or-floats (b ∷ l) (suc i) d h = get_or-floats l i d (le_of_suc-le-suc h)

pub rest-values : (n : ℕ) (l : List ℕ) → drop n (floats l) ≡ floats (drop n l)
unfolding floats
rest-values zero l = refl
rest-values (suc n) [] = refl
rest-values (suc n) (b ∷ l) = rest-values n l

pub take-values : (n : ℕ) (l : List ℕ) → take n (floats l) ≡ floats (take n l)
unfolding floats
take-values zero l = refl
take-values (suc n) [] = refl
take-values (suc n) (b ∷ l) = ap (λ (r : List Float). of_bits binary64 b ∷ r) (take-values n l)

-- the values from index i on
pub floats-cons : (vs : List ℕ) (i : ℕ) → i < length vs → floats (drop i vs) ≡ of_bits binary64 (get_or vs i 0) ∷ floats (drop (i + 1) vs)
unfolding floats
floats-cons vs i h = rw (add-one i, drop-cons vs i 0 h)

pub floats-none : (vs : List ℕ) (i : ℕ) → length vs ≤ i → floats (drop i vs) ≡ []
unfolding floats
floats-none vs i h = rw (drop_of_length-le vs h)
