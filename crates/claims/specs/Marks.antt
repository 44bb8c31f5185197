-- What staleness marks are to the calls (docs/CLAIMS.md): what a run settles to, an accepted call beside one that is handed what remains, and a call on a series
-- that has none.
-- Assumes nothing.
use Rattle.std.specs.Prelude.{List, [], ◌∷◌, ◌≡◌, ℕ, ℤ, length}
use Rattle.config.specs.Settle.{settle_of}
use Rattle.config.specs.declared.settle.Settlement.{Settlement}
use Rattle.ieee.specs.Patterns.{floats, patterns}
use Rattle.marks.specs.Marks.{remaining_of}
use Rattle.outputs.specs.Figures.{count_of, figures}
use Rattle.outputs.specs.Place.{outputs_of}
use Rattle.record.specs.Record.{Reading, readings}
use Rattle.rollup.specs.declared.handler.RollupHandler.{RollupHandler}
use Rattle.run.specs.Run.{Lent, Plan, cleared, lent, lent_checked}
use Rattle.series.specs.Answers.{Outcome, gives, outcome_of, over}
use Rattle.series.specs.Refusals.{Checked, first_refusal}
use Rattle.series.specs.Rows.{series_checked}
use Rattle.settings.specs.declared.RollupConfig.{RollupConfig}
use Rattle.settings.specs.declared.course.Course.{Course}
use Rattle.steps.specs.Steps.{prepared_of}
use Rattle.steps.specs.declared.PreFunction.{PreFunction}
use Rattle.claims.specs.Calls.{Call}

-- settle, handed these times, gives the window and the reach that a plan goes by
pub record SettlesTo (times : List ℤ) (rc : RollupConfig) (p : Plan) : Type 0 where
  pub settled : Settlement
  pub given : settle_of times rc ≡ gives settled
  pub window : settled.window ≡ p.window
  pub reach : settled.reach ≡ p.reach

-- the call that is handed what remains of another's series
abbrev pub without_marks : Call → Call
without_marks c = let left = remaining_of c.times c.values in
    record { times = left.times; values = left.values; pre = c.pre; handler = c.handler; settings = c.settings; lent = c.lent }

-- ---- a call on a series that has no marks: rows 1 to 14, with row 5 for finite values alone, and the figures of the series as it is

abbrev pub plain_checked : List ℤ → List ℕ → Checked → ℕ → Lent → Checked
plain_checked ts vs settings m l = first_refusal (series_checked ts vs ∷ settings ∷ lent_checked (length vs) m l ∷ [])

abbrev pub plain_bits : List ℤ → List ℕ → PreFunction → List ℕ
plain_bits ts vs pre = patterns (prepared_of pre ts (floats vs))

module _ (ts : List ℤ) (vs : List ℕ) (pre : PreFunction) (h : RollupHandler) where
  abbrev plain_series : List Reading
  plain_series = readings ts (plain_bits ts vs pre)

  abbrev pub plain_written : Course → Lent → Lent
  plain_written c l =
      lent (over (figures h plain_series c.window c.reach (outputs_of c)) l.dst) (over (plain_bits ts vs pre) l.prepared) (over ts l.remaining) (over (cleared ts) l.work)

  abbrev pub plain_call : Checked → ℕ → Course → Lent → Outcome ℕ Lent
  plain_call settings m c l =
      outcome_of (plain_checked ts vs settings m l) (count_of c.samples_scanned_per_call plain_series c.window (outputs_of c)) (plain_written c l) l
