-- What the quantile is where its rank is a whole number: a value of the window, as nothing is left to round. Assumes nothing.
use Rattle.std.specs.Prelude.{◌≡◌, Bool, true, false, not, ◌&&◌, cond, List, ℕ, ◌+◌, ◌-◌, ◌*◌, min, pos, length, get_or, T, Float}
use Rattle.std.specs.Float.{nan, fin, binary64}
use Rattle.std.specs.Float.Ieee.{eq, is_nan, lt, of_bits, of_int}
use Rattle.std.specs.Float.Ieee.Scale.{finite}
use Rattle.ieee.specs.Value.{negative}
use Rattle.order.specs.Order.{sorted}
use Rattle.quantile.specs.Quantile.{rank_of}
use Rattle.order.specs.Sort.{All}
use Rattle.sort.specs.Values.{kept}
use Rattle.order.specs.declared.Order.TheVariants.{Partial}

-- 0.0 and −0.0
abbrev pub zero_of : Bool → Float
zero_of minus = fin minus 0 (pos 0)

abbrev pub one : Float
one = of_bits binary64 0x3FF0_0000_0000_0000

-- the values that are no NaN, from the least to the greatest
abbrev pub ordered : List Float → List Float
ordered xs = sorted Partial (kept xs)

-- how many they are
abbrev pub size : List Float → ℕ
size xs = length (ordered xs)

-- the one at index k, counted from 0; past the last index, the last
abbrev pub nth : List Float → ℕ → Float
nth xs k = get_or (ordered xs) (min k (size xs - 1)) nan

-- phi is from 0 to 1, and its rank among n values is k
pub record WholeRank (phi : Float) (n k : ℕ) : Type 0 where
  pub number : is_nan phi ≡ false
  pub not_below : lt phi (of_bits binary64 0) ≡ false
  pub not_above : lt one phi ≡ false
  pub rank : eq (rank_of phi n) (of_int binary64 (pos k)) ≡ true

-- x, to which the next value is added at weight 0: x itself, but 0.0 for a −0.0 before a value that is not negative
abbrev pub before : Float → Float → Float
before next x = cond (eq x (zero_of false) && (negative x && not (negative next))) (zero_of false) x

-- there are j values on either side of the one at j
abbrev pub Middle : List Float → ℕ → Type 0
Middle xs j = size xs ≡ 2 * j + 1

-- no value is infinite
abbrev pub Finite : List Float → Type 0
Finite xs = All (λ x. T (finite x)) (kept xs)

-- q is the least value: the first in order, and none is below it
pub record Least (xs : List Float) (q : Float) : Type 0 where
  pub first : q ≡ before (nth xs 1) (nth xs 0)
  pub none_below : All (λ x. lt x q ≡ false) (kept xs)

-- q is the greatest value: the last in order, and none is above it
pub record Greatest (xs : List Float) (q : Float) : Type 0 where
  pub last : q ≡ nth xs (size xs - 1)
  pub none_above : All (λ x. lt q x ≡ false) (kept xs)
