use mathlib.Core.Path.{◌≡◌}
use mathlib.Core.List.{foldl}
use Prim.Native.Nat.{◌≤◌, ◌+◌}
use lib.ListN.{length, drop}
use lib.Ieee.{Float}
use Rattle.math.specs.Mode.{Runs, run_step}
use Rattle.math.proofs.mode.mode_sorted.Given as goal

-- no sample yet
abbrev pub before : Float → Runs
before prev = record { prev = prev; run = 1; most = 0; mode = prev }

abbrev pub invariant-loop-x : goal.invariant-loop-x
invariant-loop-x l = (l.x-index ≤ length l.a) × (l.run ≤ l.x-index + 1) × (foldl run_step (record { prev = l.prev; run = l.run; most = l.d_max; mode = l.mode }) (drop l.x-index l.a) ≡ foldl run_step (before l.prev_value) l.a)
