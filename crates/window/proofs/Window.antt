-- What a rollup's tests and reads of its window say of the lists in its definition.
-- Assumes nothing.
use Prim.Native.Nat.{ℕ, zero, suc, ◌-◌, ◌≤◌, ◌<◌}
use mathlib.Core.Bool.{Bool, true, false, cond, true≢false, ◌&&◌}
use mathlib.Core.Logic.{◌⊎◌, ⊎_elim}
use mathlib.Core.Path.{◌≡◌, refl, sym, ap, ◌∙◌}
use mathlib.Core.List.{List, [], ◌∷◌}
use native.Mathlib.Omega.{arith}
use native.Mathlib.Nat.{le_of_suc-le-suc, not-suc-le-zero}
use lib.ListN.{length, drop, get_or}
use lib.Dec.{eqb}
use borrow.Author.Tests.{eq-eqb, ne_eqb}
use lib.Ieee.{Float, nan, binary64, is_nan, of_bits}
use Rattle.std.proofs.Common.{Option, Some, None}
use Rattle.std.specs.List.{slice_get, fold}
use Rattle.std.specs.Option.{is_some, unwrap_or}
use Rattle.std.proofs.lemmas.Bool.{and_parts}
use Rattle.std.proofs.lemmas.Option.{slice_get_within, slice_get-get_or}
use Rattle.ieee.specs.Patterns.{floats}
use Rattle.ieee.proofs.Floats.{length-floats, get_or-floats}
use Rattle.window.specs.Window.{is_empty, first_or, last_or, first_of, last_of, seeded}

-- a test of the length tells whether the window is empty
pub none : {A : Type 0} (l : List A) → length l ≡ 0 → is_empty l ≡ true
unfolding is_empty
none [] h = refl
none (x ∷ l) h = absurd (omega arith)

pub some : {A : Type 0} (l : List A) → (length l ≡ 0 → ⊥) → is_empty l ≡ false
unfolding is_empty
some [] h = absurd (h refl)
some (x ∷ l) h = refl

pub no-values : (l : List ℕ) → length l ≡ 0 → is_empty (floats l) ≡ true
no-values l h = none (floats l) (length-floats l ∙ h)

pub some-values : (l : List ℕ) → (length l ≡ 0 → ⊥) → is_empty (floats l) ≡ false
some-values l h = some (floats l) (λ e. h (sym (length-floats l) ∙ e))

-- a count that is 0, and one that is not
pub zero-eqb : (n : ℕ) → n ≤ 0 → eqb n 0 ≡ true
zero-eqb n h = eq-eqb n 0 (omega arith)

pub pos-eqb : (n : ℕ) → 0 < n → eqb n 0 ≡ false
pos-eqb n h = ne_eqb n 0 (λ e. omega arith)

pub last_none : {A : Type 0} (d : A) (l : List A) → length l ≡ 0 → last_or d l ≡ d
unfolding last_or
last_none d [] h = refl
last_none d (x ∷ l) h = absurd (omega arith)

pub first-at : {A : Type 0} (d : A) (l : List A) → first_or d l ≡ get_or l 0 d
unfolding first_or
first-at d [] = refl
first-at d (x ∷ l) = refl

last_cons : {A : Type 0} (d e x : A) (l : List A) → last_or d (x ∷ l) ≡ get_or (x ∷ l) (length l) e
unfolding last_or
last_cons d e x [] = refl
last_cons d e x (y ∷ l) = last_cons x e y l

one_less : (n : ℕ) → suc n - 1 ≡ n
one_less n = omega arith

pub last-at : {A : Type 0} (d : A) (l : List A) → last_or d l ≡ get_or l (length l - 1) d
unfolding last_or
last-at d [] = refl
last-at d (x ∷ l) = rw (one_less (length l)) (last_cons d d x l)

-- the last of some items, whatever stands for the last of none
pub last-any : {A : Type 0} (d e : A) (l : List A) → (length l ≡ 0 → ⊥) → last_or d l ≡ last_or e l
unfolding last_or
last-any d e [] h = absurd (h refl)
last-any d e (x ∷ l) h = refl

pub last-value : (l : List ℕ) → (length l ≡ 0 → ⊥) → last_of (floats l) ≡ of_bits binary64 (get_or l (length l - 1) 0)
last-value l h = rw (last-at nan (floats l), length-floats l) (get_or-floats l (length l - 1) nan (omega arith))

-- the same, as `first` and `last` of a slice give them
pub first-given : {A : Type 0} (d : A) (l : List A) → unwrap_or (slice_get l 0) d ≡ first_or d l
unfolding first_or
first-given d [] = refl
first-given d (x ∷ l) = refl

pub last-given : {A : Type 0} (d : A) (l : List A) → unwrap_or (slice_get l (length l - 1)) d ≡ last_or d l
unfolding last_or
last-given d [] = refl
last-given d (x ∷ l) = rw (slice_get-get_or (x ∷ l) (length (x ∷ l) - 1) d (omega arith), last-at d (x ∷ l))

pub first-pattern : (l : List ℕ) (b : ℕ) → Some b ≡ slice_get l 0 → of_bits binary64 b ≡ first_of (floats l)
unfolding first_or floats
first-pattern [] b e = absurd (true≢false (ap is_some e))
first-pattern (x ∷ l) b e = ap (λ (o : Option ℕ). of_bits binary64 (unwrap_or o 0)) e

pub last-pattern : (l : List ℕ) (b : ℕ) → Some b ≡ slice_get l (length l - 1) → of_bits binary64 b ≡ last_of (floats l)
last-pattern l b e =
    let h : length l - 1 < length l = slice_get_within l (length l - 1) b (sym e) in
    let same : b ≡ get_or l (length l - 1) 0 = ap (λ (o : Option ℕ). unwrap_or o 0) (e ∙ slice_get-get_or l (length l - 1) 0 h) in
    rw (last-value l (λ z. omega (arith, h, z)), ← same)

pub no-first : (l : List ℕ) → None ≡ slice_get l 0 → first_of (floats l) ≡ nan
unfolding first_or floats
no-first [] e = refl
no-first (x ∷ l) e = absurd (true≢false (ap is_some (sym e)))

pub no-last : (l : List ℕ) → None ≡ slice_get l (length l - 1) → last_of (floats l) ≡ nan
no-last [] e = last_none nan (floats []) (length-floats [])
no-last (x ∷ l) e = absurd (true≢false (ap is_some (sym (e ∙ slice_get-get_or (x ∷ l) (length (x ∷ l) - 1) 0 (omega arith)))))

-- a loop from the seed over the values after it; where there is neither a predecessor nor a value, it has to give NaN
at_first : (f : Float → List Float → Float) (l : List ℕ) → (length l ≡ 0 → f nan [] ≡ nan) → f (first_of (floats l)) (floats (drop 1 l)) ≡ cond (is_empty (floats l)) nan (f (first_of (floats l)) (drop 1 (floats l)))
unfolding floats is_empty first_or
at_first f [] h = h refl
at_first f (b ∷ l) h = refl

pub from-seed : (f : Float → List Float → Float) (p : Float) (l : List ℕ) {s : Float} {r : List ℕ} → (is_nan p ≡ true → length l ≡ 0 → f nan [] ≡ nan) → s ≡ cond (is_nan p) (first_of (floats l)) p → r ≡ cond (is_nan p) (drop 1 l) l
    → f s (floats r) ≡ seeded f p (floats l)
from-seed f p l {s} {r} h e d = go (is_nan p) refl
  where
    go : (b : Bool) → is_nan p ≡ b → f s (floats r) ≡ seeded f p (floats l)
    go true n = rw (e, d, n) (at_first f l (h n))
    go false n = rw (e, d, n)

-- a fold that ends at true came past no item that fails
all-known-from : {A : Type 0} (passes : A → Bool) (b : Bool) (l : List A) → fold (λ known x. known && passes x) b l ≡ true → (b ≡ true) × ((i : ℕ) (d : A) → i < length l → passes (get_or l i d) ≡ true)
all-known-from passes b [] e = (e, λ i d h. absurd (not-suc-le-zero h))
all-known-from passes b (x ∷ l) e =
    let more = all-known-from passes (b && passes x) l e in
    ((and_parts b (passes x) more.0).0, elim [ zero ↦ λ d h. (and_parts b (passes x) more.0).1 | (suc i) ↦ λ d h. more.1 i d (le_of_suc-le-suc h) ])

pub all-known : {A : Type 0} (passes : A → Bool) (d : A) (l : List A) → fold (λ known x. known && passes x) true l ≡ true → (i : ℕ) → i < length l → passes (get_or l i d) ≡ true
all-known passes d l e i h = (all-known-from passes true l e).1 i d h

-- one of the two is there, where the tests for neither did not both hold
pub not-neither : (p : Float) {n : ℕ} {nan? : Bool} → nan? ≡ is_nan p → ((nan? ≡ true) × (n ≡ 0 → ⊥)) ⊎ (nan? ≡ false) → is_nan p ≡ true → n ≡ 0 → ⊥
not-neither p e = ⊎_elim (λ w q. w.1) (λ w q. absurd (true≢false (sym q ∙ sym e ∙ w)))
