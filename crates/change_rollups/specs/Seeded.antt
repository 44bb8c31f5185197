-- What a fold over a window, handed to a function as a closure, gives.
-- Assumes nothing.
use Rattle.std.specs.Prelude.{List, ℕ, ◌≡◌, Float}
use Rattle.std.specs.Borrow.{Bor}
use Rattle.ieee.specs.Patterns.{floats}

-- each call from s over the values of l gives g from s over them
abbrev pub Computes : (Float → Bor (List ℕ) → Float → Type 0) → (Float → List Float → Float) → Type 0
Computes post g = (s : Float) (l : Bor (List ℕ)) (r : Float) → post s l r → r ≡ g s (floats l.now)
