-- The rollups of rollup_fns.rs that go from value to value, each as the Rust's operations in source order. `p` is the
-- predecessor's value, NaN where there is none, and `xs` the window's values.
-- Assumes nothing.
use mathlib.Core.List.{List, foldl}
use Rattle.std.specs.Prelude.{Bool, true, false, cond, not, ◌&&◌, ℕ, ◌+◌, drop, Float}
use Rattle.std.specs.Float.{nan, binary64}
use Rattle.std.specs.Float.Ieee.{add, sub, mul, lt, ne, is_nan, of_bits}
use Rattle.ieee.specs.Value.{abs_of}
use Rattle.window.specs.Window.{is_empty, first_of, last_of, seeded, beyond, zero_f, count_f}

-- the last value less the predecessor, which is 0.0 where there is none
unfoldable pub increase_pure_of : Float → List Float → Float
increase_pure_of p xs = cond (is_empty xs) (cond (is_nan p) nan zero_f) (sub binary64 (last_of xs) (cond (is_nan p) zero_f p))

-- |v − p| < 1e-12 × |v|, strictly
abbrev pub below_tolerance : Float → Float → Bool
below_tolerance v p = lt (abs_of (sub binary64 v p)) (mul binary64 (of_bits binary64 0x3D719799812DEA11) (abs_of v))

-- whether the step from p to v counts: the two differ, and by no tolerated step
abbrev pub is_change : Float → Float → Bool
is_change p v = ne v p && not (below_tolerance v p)

-- the compared value and the count, after one more value: one that counts is compared with from then on, any other leaves both unmoved
abbrev pub change : Float × ℕ → Float → Float × ℕ
change s v = cond (is_change s.0 v) (v, s.1 + 1) s

-- the changes from p on
unfoldable pub changes_from : Float → List Float → ℕ
changes_from p xs = (foldl change (p, 0) xs).1

-- a window's changes, without regard to the predecessor
unfoldable pub changes_prometheus_of : List Float → Float
changes_prometheus_of xs = cond (is_empty xs) nan (count_f (changes_from (first_of xs) (drop 1 xs)))

-- a window without predecessor counts its first value as a change
unfoldable pub changes_of : Float → List Float → Float
changes_of p xs = cond (is_nan p) (cond (is_empty xs) nan (count_f (changes_from (first_of xs) (drop 1 xs) + 1))) (count_f (changes_from p xs))

-- a step the given way counts; only a tolerated one leaves the compared value unmoved
abbrev pub tally : Bool → Float × ℕ → Float → Float × ℕ
tally down s v = cond (beyond down s.0 v) (cond (below_tolerance v s.0) s (v, s.1 + 1)) (v, s.1)

-- the steps from p on
unfoldable pub steps_from : Bool → Float → List Float → Float
steps_from down p xs = count_f (foldl (tally down) (p, 0) xs).1

-- from the predecessor, or else from the first value
unfoldable pub steps_of : Bool → Float → List Float → Float
steps_of down p xs = seeded (steps_from down) p xs

-- steps up
abbrev pub increases_of : Float → List Float → Float
increases_of p xs = steps_of false p xs

-- steps down
abbrev pub resets_of : Float → List Float → Float
resets_of p xs = steps_of true p xs

-- by how much v lies beyond the value before it, the given way
abbrev pub gap : Bool → Float → Float → Float
gap down p v = cond down (sub binary64 p v) (sub binary64 v p)

-- the value before, and the sum of the gaps above 0.0 so far
abbrev pub slide : Bool → Float × Float → Float → Float × Float
slide down s v = (v, cond (lt zero_f (gap down s.0 v)) (add binary64 s.1 (gap down s.0 v)) s.1)

-- the sum from p on
unfoldable pub slide_from : Bool → Float → List Float → Float
slide_from down p xs = (foldl (slide down) (p, zero_f) xs).1

-- from the predecessor, or else from the first value
unfoldable pub slide_of : Bool → Float → List Float → Float
slide_of down p xs = seeded (slide_from down) p xs

-- steps up
abbrev pub ascent_over_time_of : Float → List Float → Float
ascent_over_time_of p xs = slide_of false p xs

-- steps down
abbrev pub descent_over_time_of : Float → List Float → Float
descent_over_time_of p xs = slide_of true p xs
