-- What Rust's f64 has as methods, on the values of `lib.Ieee`: `abs`, `floor` and the order of `total_cmp`; and milliseconds as seconds.
-- A value is NaN, an infinity, or `fin s m e`: m * 2 ^ e, negative where s is true.
use Rattle.std.specs.Prelude.{ℕ, ◌*◌, ◌/◌, ◌%◌, Bool, true, false, cond, not, ◌&&◌, ◌||◌, ℤ, pos, negsuc, ◌==◌, from_bits, Float}
use Rattle.std.specs.Float.{nan, inf, fin, binary64}
use Rattle.std.specs.Float.Ieee.{up, down, of_int, div, lt, eq, is_nan}

-- the sign taken off, of −0.0 too; NaN stays NaN
unfoldable pub abs_of : Float → Float
abs_of nan = nan
abs_of (inf s) = inf false
abs_of (fin s m e) = fin false m e

-- of a number with a fraction, its sign and its whole part: the greatest integer below it
unfoldable pub whole_below : Bool → ℕ → Float
unfolding of_int
whole_below false n = of_int binary64 (pos n)
whole_below true n = of_int binary64 (negsuc n)

-- x itself where it is NaN, infinite or whole, as −0.0 is; else the greatest integer below x
unfoldable pub floor_of : Float → Float
unfolding whole_below
floor_of nan = nan
floor_of (inf s) = inf s
floor_of (fin s m e) = cond (m * up e % down e == 0) (fin s m e) (whole_below s (m * up e / down e))

-- whether the sign is set, as it is of −0.0 too
abbrev pub negative : Float → Bool
negative nan = false
negative (inf s) = s
negative (fin s m e) = s

-- Rust's `total_cmp`, with NaN above all: x is less than y; or the two are equal and only x is negative, as −0.0 and +0.0; or only y is NaN
unfoldable pub total_lt : Float → Float → Bool
unfolding lt eq is_nan
total_lt x y = lt x y || eq x y && (negative x && not (negative y)) || not (is_nan x) && is_nan y

-- milliseconds as seconds: ms / 1000.0
abbrev pub seconds_of : ℤ → Float
seconds_of ms = div binary64 (of_int binary64 ms) (from_bits binary64 0x408F_4000_0000_0000)
