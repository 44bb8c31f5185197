-- How far back a predecessor may lie, and how long a window is. All are milliseconds and none is negative, so they are numbers of ℕ.
-- Assumes nothing.
use Rattle.std.specs.Prelude.{Bool, cond, ℕ, ◌+◌, ◌*◌, ◌/◌, min, max, leb, ltb}

-- the reach of an estimate: up to 2000 five times it, to 4000 three, to 8000 twice, to 16000 a half more, to 32000 a quarter, above an eighth, rounded down
unfoldable pub reach_of : ℕ → ℕ
reach_of e =
    cond (leb e 2000) (e * 5)
    (cond (leb e 4000) (e * 3)
    (cond (leb e 8000) (e * 2)
    (cond (leb e 16000) (e + e / 2)
    (cond (leb e 32000) (e + e / 4)
    (e + e / 8)))))

-- n, at most a limit that is above 0
abbrev pub capped_by : ℕ → ℕ → ℕ
capped_by limit n = cond (ltb 0 limit) (min n limit) n

-- the reach r, capped by a positive lookback delta and then raised to a staleness interval, even past that cap
unfoldable pub bounded_reach : ℕ → ℕ → ℕ → ℕ
bounded_reach lookback staleness r = max (capped_by lookback r) staleness

-- the step, raised to the reach if adjusting is on
abbrev pub raised_step : ℕ → Bool → ℕ → ℕ
raised_step step adjust reach = cond adjust (max step reach) step

-- Window 0 means the step, raised if adjusting is on, then capped by a positive lookback delta if the default-rollup flag is on.
-- A window above 0 is kept as given.
unfoldable pub window_of : ℕ → ℕ → Bool → Bool → ℕ → ℕ → ℕ
window_of window step adjust default lookback reach =
    cond (ltb 0 window) window
    (cond default (capped_by lookback (raised_step step adjust reach)) (raised_step step adjust reach))
