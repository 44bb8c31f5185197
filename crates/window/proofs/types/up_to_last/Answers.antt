-- `window::types::up_to_last` meets its contract: the search from the end finds the last item that passes.
-- Assumes nothing.
use borrow.Author.Rules.{rules}
use Rattle.window.proofs.Searches.{none-passes, last-passes}
use Rattle.window.proofs.types.up_to_last.Goals as goal

pub returns-in-Some : goal.returns-in-Some
returns-in-Some g c = λ p h. last-passes p c.args.xs.now c.in-Some.i (search rules) (λ d. search (rules, h)) (λ d k a b. search (rules, h))

pub returns : goal.returns
returns g c = λ p h. none-passes p c.args.xs.now (λ d k a. search (rules, h))
