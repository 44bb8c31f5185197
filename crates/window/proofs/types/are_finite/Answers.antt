-- `window::types::are_finite` meets its contract: where one value is not known to be finite, the fold gives false.
-- Assumes nothing.
use mathlib.Core.Path.{◌≡◌}
use mathlib.Core.Bool.{Bool, true, ◌&&◌}
use Prim.Native.Nat.{ℕ}
use borrow.Author.Rules.{rules}
use lib.Ieee.{binary64, of_bits}
use lib.Ieee.Scale.{finite}
use Rattle.std.specs.List.{fold}
use Rattle.std.proofs.lemmas.Grind.{common_steps}
use Rattle.window.proofs.Window.{all-known}
use Rattle.window.proofs.types.are_finite.Goals as goal

pub returns : goal.returns
returns c =
    let e : c.fold.result ≡ fold (λ (known : Bool) (b : ℕ). known && finite (of_bits binary64 b)) true c.args.values.now = search (rules, common_steps) in
    λ t. all-known (λ (b : ℕ). finite (of_bits binary64 b)) 0 c.args.values.now (rw e at t)
