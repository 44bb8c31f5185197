-- A piece of a call's cut, the rows that alone can refuse it, and a cut into consecutive stretches of the grid.
-- Assumes nothing.
use Rattle.std.specs.Prelude.{◌⊎◌, ◌≡◌, List, [], ◌∷◌, ℕ, ◌+◌, ◌*◌, ◌≤◌, ℤ, pos, length, get_or}
use Rattle.series.specs.Answers.{Reply}
use Rattle.run.specs.Run.{Lent}
use Rattle.claims.specs.Calls.{Call, Settings, run, settled, plan}

abbrev pub step_of : Settings → ℤ
step_of (run rc) = rc.step
step_of (settled sc) = sc.step

-- the settled run with a call's series, choices, window, reach and step, from its output time at index a to that at index b; its slices are any
abbrev pub piece : Call → ℕ → ℕ → Lent → Call
piece c a b l = record {
  times = c.times;
  values = c.values;
  pre = c.pre;
  handler = c.handler;
  settings = settled
      (record {
        start = get_or (plan c).outputs a (pos 0);
        end = get_or (plan c).outputs b (pos 0);
        step = step_of c.settings;
        window = (plan c).window;
        reach = (plan c).reach;
        samples_scanned_per_call = (plan c).per_call;
      });
  lent = l;
}

-- accepted, or refused by one of the rows 12 to 14
abbrev pub OnlySlices : Reply ℕ → Type 0
OnlySlices a = (a.number ≡ 0) ⊎ ((12 ≤ a.number) × (a.number ≤ 14))

-- slices with room for so many readings and output times
pub record Room (readings outputs : ℕ) (l : Lent) : Type 0 where
  pub dst : outputs ≤ length l.dst
  pub prepared : readings ≤ length l.prepared
  pub remaining : readings ≤ length l.remaining
  pub work : 2 * readings ≤ length l.work

-- a stretch of a grid: one output time and so many more, with the slices that its piece is lent
pub record Stretch : Type 0 where
  pub more : ℕ
  pub lent : Lent

module _ (c : Call) where
  -- a piece for each stretch, one after the other, from the output time at index a on
  unfoldable pub stretched : ℕ → List Stretch → List Call
  stretched a [] = []
  stretched a (p ∷ ps) = piece c a (a + p.more) p.lent ∷ stretched (a + p.more + 1) ps

  -- each stretch's slices have the room for it
  abbrev pub Roomy : List Stretch → Type 0
  Roomy [] = Unit {0}
  Roomy (p ∷ ps) = Room (length c.values) (p.more + 1) p.lent × Roomy ps

-- how many output times stretches have together
unfoldable pub spanned : List Stretch → ℕ
spanned [] = 0
spanned (p ∷ ps) = p.more + 1 + spanned ps
