-- How cases are counted.
-- Assumes nothing.
use Rattle.std.specs.Prelude.{◌≡◌, cond, ℕ, ◌+◌, ◌-◌, ◌≤◌, ◌<◌, ltb, eqb, Option, Some, None}
use Rattle.std.specs.Option.{option_or}
use Rattle.replay.specs.declared.Case.{Case}
use Rattle.replay.specs.declared.Tally.{Tally}

-- no more differences than cases, and no more cases than bytes
pub record Counted (t : Tally) : Type 0 where
  pub among : t.differences ≤ t.cases
  pub bytes : t.cases ≤ t.at

-- no case yet; the first begins at a byte
abbrev pub begun : ℕ → Tally
begun at = record { at = at; cases = 0; differences = 0; first = None }

-- one case more, up to a byte, with the stored answer
abbrev pub passed : Tally → ℕ → Tally
passed t end = record { at = end; cases = t.cases + 1; differences = t.differences; first = t.first }

-- one case more, up to a byte, with another answer; the first such case is remembered
abbrev pub differed : Tally → ℕ → Tally
differed t end =
    record { at = end; cases = t.cases + 1; differences = t.differences + 1; first = option_or t.first (Some (record { number = t.cases + 1; from = t.at; to = end })) }

-- after a case of a text of n bytes: one that cannot be read, or does not stand whole in it, is cut short
abbrev pub next_of : Tally → ℕ → Option Case → Tally
next_of t n None = differed t n
next_of t n (Some c) =
    cond (eqb c.len 0) (differed t n)
    (cond (ltb (n - t.at) c.len) (differed t n) (cond c.same (passed t (t.at + c.len)) (differed t (t.at + c.len))))

-- what a program goes by: the tally is that of the rule, is well counted, and has moved on
pub record After (t : Tally) (n : ℕ) (c : Option Case) (r : Tally) : Type 0 where
  pub exact : r ≡ next_of t n c
  pub counted : Counted r
  pub later : t.at < r.at
