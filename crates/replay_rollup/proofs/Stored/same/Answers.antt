-- `Stored::same` is safe: accepted times lie in ±2^50, and the record's were tested, so all are in range.
-- Assumes nothing.
use native.Mathlib.Omega.{arith}
use borrow.Author.Rules.{rules}
use Rattle.window.specs.Types.{AllInRange}
use Rattle.replay_rollup.proofs.Accepted.{all_in}
use Rattle.replay_rollup.proofs.Stored.same.Goals as goal

pub same_answers-requires : goal.same_answers-requires
same_answers-requires c =
    let times : AllInRange c.args.self.now.timestamps.items = all_in _ (search rules) in
    record {
      ranged = record {
        curr = search rules;
        prev = search rules;
        next = search rules;
        window = search rules;
        times = times;
      };
      same = c.args.self.now.paired;
      space = omega (arith, c.args.self.now.few);
    }
