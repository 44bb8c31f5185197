-- `steps::deriv_values` meets its contract. What is written and the slopes still to write make the whole list of slopes.
-- Assumes nothing.
use mathlib.Core.Path.{◌≡◌}
use Prim.Native.Nat.{◌+◌, ◌-◌}
use native.Mathlib.Omega.{arith}
use borrow.Author.Rules.{rules}
use lib.ListN.{drop_of_length-le}
use lib.IntN.{ℤ, pos}
use lib.Signed.{lt_z}
use mir.Facts.{to_z-of_z}
use lib.Ieee.{Float, nan}
use Rattle.times.specs.Milli.{time_limit, Within}
use Rattle.times.proofs.Milli.{within-fits}
use Rattle.ieee.proofs.Tests.{by-test}
use Rattle.steps.specs.declared.Slope.{Slope}
use Rattle.steps.specs.Steps.{derivs, derivs_from, sloped}
use Rattle.series.proofs.Times.{within_all}
use Rattle.times.proofs.Written.{turn, last, left_at}
use Rattle.steps.proofs.deriv_values.Goals as goal

-- a slope's time is one of the two that it was taken from
sloped-within : (s : Slope) (v : Float) (u : ℤ) → Within time_limit s.ts → Within time_limit u → Within time_limit (sloped s v u).ts
unfolding sloped
sloped-within s v u f g = by-test (lt_z s.ts u) (λ e. rw e g) (λ e. rw e f)

pub returns-then-count-eq0 : goal.returns-then-count-eq0
unfolding derivs
returns-then-count-eq0 g c =
    let args = c.args in
    rw (drop_of_length-le args.timestamps.now {i = 0} (omega arith), drop_of_length-le args.prepared.now {i = 0} (omega arith))

pub loop-j-init : goal.loop-j-init
unfolding derivs
loop-j-init g c =
    let ts = c.args.timestamps.now in
    let first = within_all ts c.requires.2 0 (omega arith) in
    let back = to_z-of_z (within-fits tt first) in (
      search rules,
      rw back first,
      record { size = c.requires.1; parts = rw (back, c.at.ensures.0, left_at ts 0 (pos 0) (omega arith), left_at (g.N.Numbers.numbers c.args.values.now) 0 nan (omega arith)) },
    )

pub next-slope-requires : goal.next-slope-requires
next-slope-requires g c =
    let u = within_all c.args.timestamps.now c.requires.2 (c.loop-j.j + 1) (omega arith) in
    (c.loop-j.invariant.1, rw (to_z-of_z (within-fits tt u)) u)

pub loop-j-preserved : goal.loop-j-preserved
unfolding derivs_from
loop-j-preserved g c =
    let ts = c.args.timestamps.now in
    let j = c.loop-j.j in
    let u = within_all ts c.requires.2 (j + 1) (omega arith) in
    let taken = rw (to_z-of_z (within-fits tt u), c.at-in-loop-j.ensures.0) at c.next-slope.ensures in (
      search rules,
      rw taken (sloped-within _ _ _ c.loop-j.invariant.1 u),
      turn (omega arith) (rw (left_at ts (j + 1) (pos 0) (omega arith), left_at (g.N.Numbers.numbers c.args.values.now) (j + 1) nan (omega arith), ← taken) at c.loop-j.invariant.2) c.bits_of.ensures,
    )

pub returns : goal.returns
unfolding derivs_from
returns g c =
    let none = drop_of_length-le c.args.timestamps.now {i = c.loop-j.j + 1} (omega arith) in
    let end : c.count-last.result - 1 ≡ c.loop-j.j = omega arith in
    rw end (last (omega arith) (omega arith) (rw none at c.loop-j.invariant.2) c.bits_of-2.ensures)
