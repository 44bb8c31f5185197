-- `estimate::first_intervals` meets its contract: the first n entries are the first n intervals.
-- Assumes nothing.
use Prim.Native.Nat.{◌<◌, min}
use mathlib.Core.Path.{◌≡◌, ap, ◌∙◌}
use mathlib.Core.List.{map, map-append}
use native.Mathlib.Omega.{arith}
use native.Mathlib.Numerals.{add-one}
use lib.IntN.{pos}
use lib.Ieee.{binary64, of_int}
use lib.ListN.{length, length-map, length-take}
use lib.Seq.{take-suc, take-suc-set}
use Rattle.std.proofs.lemmas.List.{take_min}
use Rattle.config.specs.Estimate.{distances}
use Rattle.config.proofs.Distances.{length-distances}
use Rattle.config.proofs.estimate.first_intervals.Goals as goal

pub loop-i-preserved : goal.loop-i-preserved
loop-i-preserved c =
    let ds = distances c.args.times.now.slice.now in
    let i = c.loop-i.i in
    let more : i < length ds = omega (arith, length-distances c.args.times.now.slice.now) in
    rw (add-one i, take-suc-set c.loop-i.work i c.interval.result (omega arith), take-suc ds i (pos 0) more, map-append, c.loop-i.invariant, c.interval.ensures)

pub returns-clause-count : goal.returns-clause-count
returns-clause-count c = simp (length-map, length-take) (omega (arith, length-distances c.args.times.now.slice.now))

pub returns-clause-front : goal.returns-clause-front
returns-clause-front c =
    let ds = distances c.args.times.now.slice.now in
    let end : c.loop-i.i ≡ c.min-n.result = omega arith in
    let n : c.loop-i.i ≡ min 20 (length ds) = omega (arith, length-distances c.args.times.now.slice.now) in
    rw (← end) (c.loop-i.invariant ∙ ap (map (of_int binary64)) (rw n (take_min 20 ds)))
