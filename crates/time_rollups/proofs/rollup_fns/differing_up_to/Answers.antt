-- `time_rollups::rollup_fns::differing_up_to` meets its contract: the last pattern whose value differs is the last value that does.
-- Assumes nothing.
use mathlib.Core.Path.{◌∙◌}
use borrow.Author.Rules.{rules}
use Prim.Native.Nat.{ℕ}
use lib.Ieee.{Float, ne, binary64, of_bits}
use Rattle.window.proofs.Searches.{up-to-values}
use Rattle.time_rollups.proofs.rollup_fns.differing_up_to.Goals as goal

pub returns : goal.returns
returns c = c.up_to_last.ensures (λ (b : ℕ). ne (of_bits binary64 b) c.args.x) (λ b r h. search rules) ∙ up-to-values (λ (v : Float). ne v c.args.x) c.args.values.now
