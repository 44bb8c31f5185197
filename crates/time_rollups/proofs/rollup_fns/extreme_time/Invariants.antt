use mathlib.Core.List.{foldl}
use lib.IntN.{pos}
use Rattle.ieee.specs.Patterns.{floats}
use Rattle.window.specs.Window.{readings, first_of, first_or}
use Rattle.time_rollups.specs.RollupFns.{latest}
use Rattle.time_rollups.proofs.Pairs.{Left}
use Rattle.time_rollups.proofs.rollup_fns.extreme_time.Given as goal

abbrev pub invariant-loop-b : goal.invariant-loop-b
invariant-loop-b l =
    Left (latest l.down) (foldl (latest l.down) (first_of (floats l.values), first_or (pos 0) l.timestamps) (readings (floats l.values) l.timestamps)) (l.furthest, l.time)
    l.b-iterator.a.rest.now l.b-iterator.b.rest.now
