-- What a test of items, handed to a function as a closure, answers.
-- Assumes nothing.
use Rattle.std.specs.Prelude.{Bool, ◌≡◌}
use Rattle.std.specs.Borrow.{Bor}

-- each call at an item answers whether p holds of it
abbrev pub Tests : {A : Type 0} → (Bor A → Bool → Type 0) → (A → Bool) → Type 0
Tests {A = A} post p = (x : Bor A) (b : Bool) → post x b → b ≡ p x.now
