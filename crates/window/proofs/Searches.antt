-- A search from a window's end for the last item that passes a test: each item after it fails, and where none passes, all do.
-- Assumes nothing.
use Prim.Native.Nat.{ℕ, zero, suc, ◌+◌, ◌≤◌, ◌<◌, zero-le, suc-le-suc}
use mathlib.Core.Bool.{Bool, true, false}
use mathlib.Core.Path.{◌≡◌, refl, ap}
use mathlib.Core.List.{List, [], ◌∷◌}
use native.Mathlib.Omega.{arith}
use native.Mathlib.Numerals.{add-one}
use native.Mathlib.Nat.{le_of_suc-le-suc, not-suc-le-zero}
use lib.ListN.{length, get_or}
use lib.Ieee.{Float, binary64, of_bits}
use Rattle.ieee.specs.Patterns.{floats}
use Rattle.window.specs.Window.{counted, up_to_last}

counted-within : (b : Bool) {m n : ℕ} → m ≤ n → counted b m ≤ suc n
counted-within true h = suc-le-suc h
counted-within false {m = zero} h = zero-le
counted-within false {m = suc m} h = suc-le-suc h

counted-suc : (b : Bool) (n : ℕ) → counted b (suc n) ≡ suc (suc n)
counted-suc true n = refl
counted-suc false n = refl

-- never more than there are
pub up-to-within : {A : Type 0} (passes : A → Bool) (l : List A) → up_to_last passes l ≤ length l
unfolding up_to_last
up-to-within passes [] = zero-le
up-to-within passes (x ∷ l) = counted-within (passes x) (up-to-within passes l)

-- where each item fails
up-to-none : {A : Type 0} (passes : A → Bool) (l : List A) (d : A) → ((k : ℕ) → k < length l → passes (get_or l k d) ≡ false) → 0 ≡ up_to_last passes l
unfolding up_to_last
up-to-none passes [] d h = refl
up-to-none passes (x ∷ l) d h = rw (h zero (suc-le-suc zero-le), ← up-to-none passes l d (λ k q. h (suc k) (suc-le-suc q)))

-- where the item at i passes, and each one after it fails
up-to-found : {A : Type 0} (passes : A → Bool) (l : List A) (i : ℕ) (d : A) → i < length l → passes (get_or l i d) ≡ true
    → ((k : ℕ) → i + 1 ≤ k → k < length l → passes (get_or l k d) ≡ false) → i + 1 ≡ up_to_last passes l
unfolding up_to_last
up-to-found passes [] i d h e fails = absurd (not-suc-le-zero h)
up-to-found passes (x ∷ l) zero d h e fails = rw (e, ← up-to-none passes l d (λ k q. fails (suc k) (suc-le-suc zero-le) (suc-le-suc q)))
up-to-found passes (x ∷ l) (suc i) d h e fails =
    let found : i + 1 ≡ up_to_last passes l = up-to-found passes l i d (le_of_suc-le-suc h) e (λ k q r. fails (suc k) (omega arith) (suc-le-suc r)) in
    rw (← found, add-one i, counted-suc, add-one (suc i))

-- the same, whatever stands for no item
pub none-passes : {A : Type 0} (passes : A → Bool) (l : List A) → ((d : A) (k : ℕ) → k < length l → passes (get_or l k d) ≡ false) → 0 ≡ up_to_last passes l
unfolding up_to_last
none-passes passes [] h = refl
none-passes passes (x ∷ l) h = up-to-none passes (x ∷ l) x (h x)

pub last-passes : {A : Type 0} (passes : A → Bool) (l : List A) (i : ℕ) → i < length l → ((d : A) → passes (get_or l i d) ≡ true)
    → ((d : A) (k : ℕ) → i + 1 ≤ k → k < length l → passes (get_or l k d) ≡ false) → i + 1 ≡ up_to_last passes l
last-passes passes [] i h e fails = absurd (not-suc-le-zero h)
last-passes passes (x ∷ l) i h e fails = up-to-found passes (x ∷ l) i x h (e x) (fails x)

-- a search in patterns, by what their values pass
pub up-to-values : (passes : Float → Bool) (l : List ℕ) → up_to_last (λ b. passes (of_bits binary64 b)) l ≡ up_to_last passes (floats l)
unfolding up_to_last floats
up-to-values passes [] = refl
up-to-values passes (b ∷ l) = ap (counted (passes (of_bits binary64 b))) (up-to-values passes l)
