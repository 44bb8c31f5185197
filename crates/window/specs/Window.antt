-- The readings of a window as lists, and what the definitions of several rollups say of them: the first and the last of
-- them, a loop over them as a fold, the last that passes a test, a start at the predecessor.
-- Assumes nothing.
use Rattle.std.specs.Prelude.{List, [], ◌∷◌, Bool, true, false, cond, ℕ, zero, suc, drop, ℤ, pos, Float}
use Rattle.std.specs.Float.{nan, binary64}
use Rattle.std.specs.Float.Ieee.{is_nan, lt, of_bits, of_int}

-- each value with its time
unfoldable pub readings : List Float → List ℤ → List (Float × ℤ)
readings (x ∷ xs) (t ∷ ts) = (x, t) ∷ readings xs ts
readings (x ∷ xs) [] = []
readings [] ts = []

-- whether there is none
unfoldable pub is_empty : {A : Type 0} → List A → Bool
is_empty [] = true
is_empty (x ∷ xs) = false

-- the first item, or d where there is none
unfoldable pub first_or : {A : Type 0} → A → List A → A
first_or d [] = d
first_or d (x ∷ xs) = x

-- the last item, or d where there is none
unfoldable pub last_or : {A : Type 0} → A → List A → A
last_or d [] = d
last_or d (x ∷ xs) = last_or x xs

-- the first value of a window, NaN for an empty one
abbrev pub first_of : List Float → Float
first_of xs = first_or nan xs

-- the last value, NaN for an empty window
abbrev pub last_of : List Float → Float
last_of xs = last_or nan xs

-- the count with one more item in front: it counts if it passes, or if one behind it does
abbrev pub counted : Bool → ℕ → ℕ
counted true n = suc n
counted false zero = zero
counted false (suc n) = suc (suc n)

-- how many items stand up to the last one that passes, that one included: 0 where none passes
unfoldable pub up_to_last : {A : Type 0} → (A → Bool) → List A → ℕ
up_to_last passes [] = 0
up_to_last passes (x ∷ xs) = counted (passes x) (up_to_last passes xs)

-- f from the predecessor p over the window; where there is none, from the window's first value over the others; NaN where there is neither
abbrev pub seeded : (Float → List Float → Float) → Float → List Float → Float
seeded f p xs = cond (is_nan p) (cond (is_empty xs) nan (f (first_of xs) (drop 1 xs))) (f p xs)

-- whether v lies beyond m: below it where the way is down, else above it
abbrev pub beyond : Bool → Float → Float → Bool
beyond down m v = cond down (lt v m) (lt m v)

-- m, replaced by v only where v lies beyond it
abbrev pub further : Bool → Float → Float → Float
further down m v = cond (beyond down m v) v m

-- +0.0
abbrev pub zero_f : Float
zero_f = of_bits binary64 0

-- 1.0
abbrev pub one_f : Float
one_f = of_bits binary64 0x3FF0000000000000

-- a number of items as a float
abbrev pub count_f : ℕ → Float
count_f n = of_int binary64 (pos n)
