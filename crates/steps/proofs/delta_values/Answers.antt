-- `steps::delta_values` meets its contract. What is written and the steps still to write make the whole list of steps.
-- Assumes nothing.
use Prim.Native.Nat.{◌+◌, ◌-◌}
use mathlib.Core.Path.{◌≡◌, refl}
use mathlib.Core.Bool.{true, false}
use native.Mathlib.Omega.{arith}
use borrow.Author.Rules.{rules}
use lib.ListN.{drop_of_length-le}
use lib.Ieee.{Float, binary64, is_nan, nan, of_bits, sub}
use lib.Ieee.Scale.{finite}
use Rattle.steps.specs.Steps.{deltas, deltas_from}
use Rattle.ieee.proofs.Numbers.{finite_number, sub_number}
use Rattle.times.proofs.Written.{turn, last, left_at}
use Rattle.steps.proofs.delta_values.Goals as goal

-- a difference of finite values is no NaN
difference : (v p : Float) → finite v ≡ true → finite p ≡ true → is_nan (sub binary64 v p) ≡ false
difference v p h k = sub_number binary64 v p (finite_number v h) k

pub returns-then-count-eq0 : goal.returns-then-count-eq0
unfolding deltas
returns-then-count-eq0 g c =
    let args = c.args in
    rw (drop_of_length-le (g.N.Numbers.numbers c.args.values.now) {i = 0} (omega arith), drop_of_length-le args.prepared.now {i = 0} (omega arith))

pub loop-j-init : goal.loop-j-init
unfolding deltas of_bits is_nan
loop-j-init g c =
    (search rules, c.at-prev_value.ensures.1, refl, record { size = c.requires; parts = rw (c.at-prev_value.ensures.0, left_at (g.N.Numbers.numbers c.args.values.now) 0 nan (omega arith)) })

pub number_bits-requires : goal.number_bits-requires
number_bits-requires g c = difference _ _ c.at-v.ensures.1 c.loop-j.invariant.1

pub loop-j-preserved : goal.loop-j-preserved
unfolding deltas_from
loop-j-preserved g c =
    let left = left_at (g.N.Numbers.numbers c.args.values.now) (c.loop-j.j + 1) nan (omega arith) in
    (search rules, c.at-v.ensures.1, difference _ _ c.at-v.ensures.1 c.loop-j.invariant.1, turn (omega arith) (rw (left, ← c.at-v.ensures.0) at c.loop-j.invariant.3) c.number_bits.ensures)

pub returns : goal.returns
unfolding deltas_from
returns g c =
    let none = drop_of_length-le (g.N.Numbers.numbers c.args.values.now) {i = c.loop-j.j + 1} (omega arith) in
    let end : c.count-last.result - 1 ≡ c.loop-j.j = omega arith in
    rw end (last (omega arith) (omega arith) (rw none at c.loop-j.invariant.3) c.number_bits-2.ensures)
