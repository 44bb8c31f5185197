-- A call of one of the two exported runs, whose step and rollup are numbers, and what is read off its reply. One that is refused 28 makes no call of the core,
-- and is among the refused.
-- Assumes nothing.
use Rattle.std.specs.Prelude.{List, [], ◌∷◌, ◌≡◌, ℕ, ◌+◌, ◌-◌, ◌*◌, ◌<◌, ℤ, Float, length, take, Some, None}
use Rattle.std.proofs.Math.Option.{get_or}
use Rattle.times.specs.Grid.{grid}
use Rattle.series.specs.Answers.{Outcome}
use Rattle.steps.specs.Choice.{step_of}
use Rattle.rollup.specs.Choice.{rollup_of}
use Rattle.run.specs.Run.{Lent}
use Rattle.harzoulin.specs.Runs.{Choice, choice_of, numbered_run, numbered_settled_run}
use Rattle.claims.specs.Calls.{Call, Settings, run, settled, if_given, samples}
use Rattle.claims.specs.Cut.{joined, total}

pub record NumberedCall : Type 0 where
  pub times : List ℤ
  pub values : List ℕ
  pub pre : ℕ
  pub rollup : ℕ
  pub first : Float
  pub second : Float
  pub settings : Settings
  pub lent : Lent

module _ (e : NumberedCall) where
  abbrev pub choice : Choice
  choice = choice_of (step_of e.pre) (rollup_of e.rollup e.first e.second)

  -- what `harzoulin_run` and `harzoulin_settled_run` promise to reply
  abbrev pub replied_by : Choice → Settings → Outcome ℕ Lent
  replied_by k (run rc) = numbered_run k e.times e.values rc e.lent
  replied_by k (settled sc) = numbered_settled_run k e.times e.values sc e.lent

  abbrev pub replied : Outcome ℕ Lent
  replied = replied_by choice e.settings

  -- the calls of run or settled run that it makes: one, or none where a number names nothing
  abbrev pub made_by : Choice → List Call
  made_by (Some (pre, h)) = record { times = e.times; values = e.values; pre = pre; handler = h; settings = e.settings; lent = e.lent } ∷ []
  made_by None = []

  abbrev pub made : List Call
  made = made_by choice

-- ---- read off the reply

abbrev pub grid_of : Settings → List ℤ
grid_of (run rc) = grid rc.start rc.end rc.step
grid_of (settled sc) = grid sc.start sc.end sc.step

-- the count, and 1 for an accepted call
abbrev pub count_in : Outcome ℕ Lent → ℕ
count_in o = get_or o.answer.values 0

abbrev pub accepted_in : Outcome ℕ Lent → ℕ
accepted_in o = if_given o.answer.values 1 0

-- the output's first entries as the call returns, one for each output time
abbrev pub answers_in : Settings → Outcome ℕ Lent → List ℕ
answers_in s o = take (length (if_given o.answer.values (grid_of s) [])) o.slices.dst

module _ (e : NumberedCall) where
  abbrev pub replied_count : ℕ
  replied_count = count_in (replied e)

  abbrev pub replied_accepted : ℕ
  replied_accepted = accepted_in (replied e)

  abbrev pub replied_answers : List ℕ
  replied_answers = answers_in e.settings (replied e)

  -- the readings that the call which it makes goes by
  abbrev pub replied_samples : ℕ
  replied_samples = total samples (made e)

-- the answers joined are the whole call's, and the counts add up to its count plus its samples once for each accepted one after the first
pub record NumberedRejoined (whole : NumberedCall) (pieces : List NumberedCall) : Type 0 where
  pub answers : joined replied_answers pieces ≡ replied_answers whole
  pub some : 0 < total replied_accepted pieces
  pub counts : total replied_count pieces ≡ replied_count whole + replied_samples whole * (total replied_accepted pieces - 1)
