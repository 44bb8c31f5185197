-- Lists of readings: filters, and a list of times joined with a list of values.
-- Assumes nothing.
use Prim.Native.Nat.{ℕ, zero, suc}
use native.Mathlib.Omega.{arith}
use mathlib.Core.Path.{◌≡◌, refl, sym, ap, ap₂}
use mathlib.Core.Bool.{Bool, ◌&&◌}
use mathlib.Core.List.{List, [], ◌∷◌, map, zip_with}
use lib.ListN.{length, get_or, take, drop}
use Rattle.times.specs.Readings.{filter}
use Rattle.ieee.proofs.Tests.{by-test}

module _ {A : Type 0} where
  -- two tests at once are one after the other
  pub filter-and : (p q : A → Bool) (xs : List A) → filter (λ x. p x && q x) xs ≡ filter q (filter p xs)
  unfolding filter
  filter-and p q [] = refl
  filter-and p q (x ∷ xs) = by-test (p x) (λ e. rw (e, filter-and p q xs)) (λ e. rw (e, filter-and p q xs))

module _ {A B : Type 0} (f : A → B) where
  pub map-drop : (n : ℕ) (xs : List A) → map f (drop n xs) ≡ drop n (map f xs)
  map-drop zero xs = refl
  map-drop (suc n) [] = refl
  map-drop (suc n) (x ∷ xs) = map-drop n xs

module _ {A B C : Type 0} (g : A → B → C) where
  pub zip_length : (xs : List A) (ys : List B) → length xs ≡ length ys → length (zip_with g xs ys) ≡ length xs
  unfolding zip_with
  zip_length [] ys h = refl
  zip_length (x ∷ xs) [] h = sym h
  zip_length (x ∷ xs) (y ∷ ys) h = ap suc (zip_length xs ys (omega arith))

  pub zip-take : (n : ℕ) (xs : List A) (ys : List B) → take n (zip_with g xs ys) ≡ zip_with g (take n xs) (take n ys)
  unfolding zip_with
  zip-take zero xs ys = refl
  zip-take (suc n) [] ys = refl
  zip-take (suc n) (x ∷ xs) [] = refl
  zip-take (suc n) (x ∷ xs) (y ∷ ys) = ap (λ (l : List C). g x y ∷ l) (zip-take n xs ys)

  zip-nil : (xs : List A) → zip_with g xs [] ≡ []
  unfolding zip_with
  zip-nil [] = refl
  zip-nil (x ∷ xs) = refl

  pub zip-drop : (n : ℕ) (xs : List A) (ys : List B) → drop n (zip_with g xs ys) ≡ zip_with g (drop n xs) (drop n ys)
  unfolding zip_with
  zip-drop zero xs ys = refl
  zip-drop (suc n) [] ys = refl
  zip-drop (suc n) (x ∷ xs) [] = sym (zip-nil (drop n xs))
  zip-drop (suc n) (x ∷ xs) (y ∷ ys) = zip-drop n xs ys

  pub zip-at : (n : ℕ) (a : A) (b : B) (xs : List A) (ys : List B) → length xs ≡ length ys → get_or (zip_with g xs ys) n (g a b) ≡ g (get_or xs n a) (get_or ys n b)
  unfolding zip_with
  zip-at n a b [] [] h = refl
  zip-at n a b [] (y ∷ ys) h = absurd (omega arith)
  zip-at n a b (x ∷ xs) [] h = absurd (omega arith)
  zip-at zero a b (x ∷ xs) (y ∷ ys) h = refl
  zip-at (suc n) a b (x ∷ xs) (y ∷ ys) h = zip-at n a b xs ys (omega arith)

  -- the times of the readings are the times
  pub zip-left : (f : C → A) → ((x : A) (y : B) → f (g x y) ≡ x) → (xs : List A) (ys : List B) → length xs ≡ length ys → map f (zip_with g xs ys) ≡ xs
  unfolding zip_with
  zip-left f e [] ys h = refl
  zip-left f e (x ∷ xs) [] h = absurd (omega arith)
  zip-left f e (x ∷ xs) (y ∷ ys) h = ap₂ ◌∷◌ (e x y) (zip-left f e xs ys (omega arith))

  -- and their values the values
  pub zip-right : (f : C → B) → ((x : A) (y : B) → f (g x y) ≡ y) → (xs : List A) (ys : List B) → length xs ≡ length ys → map f (zip_with g xs ys) ≡ ys
  unfolding zip_with
  zip-right f e [] [] h = refl
  zip-right f e [] (y ∷ ys) h = absurd (omega arith)
  zip-right f e (x ∷ xs) [] h = absurd (omega arith)
  zip-right f e (x ∷ xs) (y ∷ ys) h = ap₂ ◌∷◌ (e x y) (zip-right f e xs ys (omega arith))
