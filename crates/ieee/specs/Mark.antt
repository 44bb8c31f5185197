-- The staleness mark, which Prometheus writes as the value of a series that went away. It is one pattern among those of NaN, so no value tells it: its bits do.
-- Assumes nothing.
use Rattle.std.specs.Prelude.{ℕ, Bool, eqb}

-- `STALE_NAN_BITS` of common/math.rs
abbrev pub mark : ℕ
mark = 0x7FF0_0000_0000_0002

-- the same with another sign or with the quiet bit is no mark
unfoldable pub is_mark : ℕ → Bool
is_mark b = eqb b mark
