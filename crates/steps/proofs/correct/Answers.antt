-- `steps::correct` meets its contract: each state is sound, so that its output is a number, and leads to the next.
-- Assumes nothing.
use native.Mathlib.Omega.{arith}
use Rattle.steps.proofs.Counting.{counting-begins, counting-number, counting-turn, counting-done}
use Rattle.steps.proofs.correct.Goals as goal

pub loop-i-init : goal.loop-i-init
loop-i-init g c = counting-begins g.S.CounterStep.again _ c.new-counter.ensures c.requires

pub number_bits-requires : goal.number_bits-requires
number_bits-requires g c = counting-number g.S.CounterStep.again _ c.at.result c.loop-i.invariant c.at.ensures.1 c.next-counter.ensures

pub loop-i-preserved : goal.loop-i-preserved
loop-i-preserved g c =
    let read = c.at in
    counting-turn g.S.CounterStep.again _ read.result c.loop-i.invariant read.ensures.1 c.next-counter.ensures (omega arith) read.ensures.0 c.number_bits.ensures

pub returns : goal.returns
returns g c = counting-done g.S.CounterStep.again _ (omega arith) c.loop-i.invariant
