-- `rollup::handler::eval` meets its contract: it is the mark that default answers, or else the bits of what `figure` gives, and `figure` is lent no more than
-- the first 2 × n entries.
-- Assumes nothing.
use mathlib.Core.Path.{◌∙◌, ap}
use lib.Ieee.{binary64, to_bits}
use Rattle.rollup.specs.Eval.{eval_of}
use Rattle.rollup.proofs.handler.eval.Goals as goal

pub returns-then-answers_mark-clause-value : goal.returns-then-answers_mark-clause-value
unfolding eval_of
returns-then-answers_mark-clause-value c = rw (← c.answers_mark.ensures, c.if-answers_mark.true)

pub returns-clause-value : goal.returns-clause-value
unfolding eval_of
returns-clause-value c = rw (← c.answers_mark.ensures, c.if-answers_mark.false) (c.bits_of.ensures ∙ ap (to_bits binary64) c.figure.ensures)
