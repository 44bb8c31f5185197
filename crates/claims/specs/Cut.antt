-- A call cut into a list of calls, and what holds of the list (docs/CLAIMS.md).
-- Assumes nothing.
use Rattle.std.specs.Prelude.{List, [], ◌∷◌, ◌++◌, ◌≡◌, ℕ, ◌+◌, ◌-◌, ◌*◌, ◌<◌}
use Rattle.run.specs.Run.{Plan}
use Rattle.std.specs.Prelude.{Ok}
use Rattle.claims.specs.Calls.{Call, accepted, answers, checked, counted, output_times, plan, samples}

-- two calls go by the same series, choices (step, rollup and per-call number), window and reach
pub record Alike (p q : Plan) : Type 0 where
  pub times : p.times ≡ q.times
  pub values : p.values ≡ q.values
  pub pre : p.pre ≡ q.pre
  pub handler : p.handler ≡ q.handler
  pub per_call : p.per_call ≡ q.per_call
  pub window : p.window ≡ q.window
  pub reach : p.reach ≡ q.reach

-- joined in order, and added up
unfoldable pub joined : {A C : Type 0} → (C → List A) → List C → List A
joined f [] = []
joined f (c ∷ cs) = f c ++ joined f cs

unfoldable pub total : {C : Type 0} → (C → ℕ) → List C → ℕ
total f [] = 0
total f (c ∷ cs) = f c + total f cs

-- the accepted ones of a list are alike to a plan; refused ones may be given anything
abbrev pub AcceptedAlike : Plan → List Call → Type 0
AcceptedAlike p [] = Unit {0}
AcceptedAlike p (c ∷ cs) = (checked c ≡ Ok tt → Alike (plan c) p) × AcceptedAlike p cs

-- the accepted ones of a list have the whole call's series, choices, window and reach and, joined in order, its output times
pub record Cut (whole : Call) (pieces : List Call) : Type 0 where
  pub alike : AcceptedAlike (plan whole) pieces
  pub times : joined output_times pieces ≡ output_times whole

-- the answers joined are the whole call's, and the counts add up to its count plus its samples once for each accepted one after the first
pub record Rejoined (whole : Call) (pieces : List Call) : Type 0 where
  pub answers : joined answers pieces ≡ answers whole
  pub some : 0 < total accepted pieces
  pub counts : total counted pieces ≡ counted whole + samples whole * (total accepted pieces - 1)
