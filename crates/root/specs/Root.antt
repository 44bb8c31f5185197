-- The correctly rounded square root of a binary64, by whole numbers. A unit is the smallest binary64, 2 ^ -1074, and every finite value is a whole number of units.
-- The root of N units is √n units, for n = N * 2 ^ 1074: √(N * 2 ^ -1074) = √(N * 2 ^ 1074) * 2 ^ -1074.
-- That the result is the nearest binary64 is proved in proofs/Enclosed.antt, and proofs/Examples.antt has examples.
use Rattle.std.specs.Prelude.{ℕ, zero, suc, ◌+◌, ◌*◌, ◌/◌, ◌^◌, true, false, cond, leb, ltb, Float}
use Rattle.std.specs.Float.{nan, inf, fin, binary64}
use Rattle.std.specs.Float.Ieee.{up, down, size, round}

-- r + 1 if its square is at most n, else r
unfoldable pub last_digit : ℕ → ℕ → ℕ
last_digit r n = cond (leb (suc r * suc r) n) (suc r) r

-- the whole part of the root of an n below 4 ^ k, by binary digits: all but the last are the root of n / 4
unfoldable pub root_by : ℕ → ℕ → ℕ
unfolding last_digit
root_by zero n = 0
root_by (suc k) n = last_digit (2 * root_by k (n / 4)) n

-- the whole part of the root of n
unfoldable pub isqrt : ℕ → ℕ
unfolding root_by size
isqrt n = root_by (size n) n

-- Twice the root of n, if that is whole. If not, 2 * q + 1 for its whole part q: from 2 ^ 53 units on, the binary64 values and the points half way
-- between them are whole numbers of units, so all that lies between q and q + 1 rounds alike, and q + 1/2 stands for it.
unfoldable pub halves : ℕ → ℕ
unfolding isqrt
halves n = let q = isqrt n in 2 * q + cond (ltb (q * q) n) 1 0

-- the binary64 nearest to √n units
unfoldable pub root_of : ℕ → Float
unfolding halves round
root_of n = round binary64 false (halves n) (2 ^ 1075)

-- A zero is its own root, with its sign. Below zero there is none.
unfoldable pub sqrt_of : Float → Float
unfolding root_of
sqrt_of nan = nan
sqrt_of (inf true) = nan
sqrt_of (inf false) = inf false
sqrt_of (fin s zero e) = fin s zero e
sqrt_of (fin true (suc m) e) = nan
sqrt_of (fin false (suc m) e) = root_of (suc m * up e * 2 ^ 1074 / down e * 2 ^ 1074)
