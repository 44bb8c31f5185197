-- What is found of a value: a number, or nothing where it is NaN.
use Rattle.std.specs.Prelude.{◌≡◌, ℕ, ◌<◌, ◌^◌, cond, Option, Some, None, is_nan, from_bits, Float}
use Rattle.std.specs.Float.{binary64}

-- x, where it is no NaN
abbrev pub if_number : Float → Option Float
if_number x = cond (is_nan x) None (Some x)

-- each call at a pattern returns what `of` makes of its value, where that is no NaN
abbrev pub Finds : (ℕ → Option Float → Type 0) → (Float → Float) → Type 0
Finds returns of = (b : ℕ) (r : Option Float) → b < 2 ^ 64 → returns b r → r ≡ if_number (of (from_bits binary64 b))
