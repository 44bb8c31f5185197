-- Values and the patterns of 64 bits that stand for them in a slice.
-- Assumes nothing.
use Rattle.std.specs.Prelude.{ℕ, List, map, from_bits, to_bits, Float}
use Rattle.std.specs.Float.{binary64}

-- the values that a list of patterns stands for
unfoldable pub floats : List ℕ → List Float
floats bs = map (from_bits binary64) bs

-- the patterns of a list of values; NaN's is 0x7FF8000000000000
abbrev pub patterns : List Float → List ℕ
patterns xs = map (to_bits binary64) xs
