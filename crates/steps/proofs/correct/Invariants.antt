use Rattle.steps.proofs.Counting.{Counting}
use Rattle.steps.proofs.correct.Given as goal

abbrev pub invariant-loop-i : goal.invariant-loop-i
invariant-loop-i g l = Counting g.S.CounterStep.again (g.N.Numbers.numbers l.values) l.i l.prepared l.counter
