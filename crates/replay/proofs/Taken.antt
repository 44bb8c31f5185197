-- What is read of a limited reader.
-- Assumes nothing.
use native.Mathlib.Omega.{arith}
use Rattle.std.proofs.Common.{List, [], ◌++◌, ◌≡◌, ◌∙◌, ℕ, take, IfSome, Option, Some, None}
use Rattle.std.specs.Option.{option_map}
use Rattle.std.proofs.lemmas.List.{take_all, length-take}

-- where the bytes of the whole are known, those that were read are the first of them, as many as the limit is
pub first_of : (o : Option (List ℕ)) (limit n : ℕ) (read : List ℕ) → limit ≡ n → IfSome (option_map (take limit) o) (λ xs. read ≡ [] ++ xs) → IfSome o (λ xs. read ≡ take n xs)
first_of None limit n read e h = tt
first_of (Some xs) limit n read e h = rw e at h

-- and the first of those, as many, are all of them
pub kept_of : (o : Option (List ℕ)) (n : ℕ) (read kept : List ℕ) → IfSome o (λ xs. read ≡ take n xs) → kept ≡ take n read → IfSome o (λ xs. kept ≡ take n xs)
kept_of None n read kept h k = tt
kept_of (Some xs) n read kept h k = k ∙ rw h (take_all n (take n xs) (omega (arith, length-take n xs)))
