-- The order of binary64 as an order of ℕ. `units_of` is a value's size in units of 2 ^ -1074, the smallest value above zero: a whole number for
-- each value of the format. `rank` puts the values on a line by their units, with the zeros in the middle. `total_rank` parts the zeros, and puts NaN on top.
-- Assumes nothing.
use Rattle.std.proofs.Common.{ℕ, suc, ◌+◌, ◌-◌, ◌*◌, ◌/◌, ◌^◌, Bool, true, false}
use lib.Ieee.{Float, nan, inf, fin, up, down}
use Rattle.ieee.specs.Value.{negative}

-- an infinity's units: more than any finite value has
abbrev pub most : ℕ
most = 2 ^ 2098

-- how many units the value is away from zero; NaN counts as none
unfoldable pub units_of : Float → ℕ
units_of nan = 0
units_of (inf s) = most
units_of (fin s m e) = m * up e * 2 ^ 1074 / down e

-- u above b, or below a where the sign is set
abbrev pub placed : ℕ → ℕ → Bool → ℕ → ℕ
placed a b true u = a - u
placed a b false u = b + u

-- for values that are not NaN: less, equal and at most are those of the ranks
unfoldable pub rank : Float → ℕ
unfolding units_of
rank x = placed most most (negative x) (units_of x)

-- for all values: −0.0 is one below +0.0, and NaN is above +∞
unfoldable pub total_rank : Float → ℕ
unfolding units_of
total_rank nan = 2 * most + 2
total_rank (inf s) = placed most (suc most) s most
total_rank (fin s m e) = placed most (suc most) s (units_of (fin s m e))
