-- `steps::Counter::corrected` meets its contract: the output is the greater one of the value and the output before.
-- Assumes nothing.
use lib.Ieee.{binary64, add, lt}
use Rattle.ieee.proofs.Tests.{by-test}
use Rattle.steps.specs.Steps.{corrected, lifted}
use Rattle.steps.proofs.Counter.corrected.Goals as goal

pub returns : goal.returns
unfolding corrected lifted
returns c =
    rw c.greater.ensures
    (by-test (lt (add binary64 c.args.v c.args.correction) c.args.self.output) (λ e. rw e) (λ e. rw e))
