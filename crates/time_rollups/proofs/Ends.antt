-- The first and the last time of a slice, as the slice gives them, in seconds.
-- Assumes nothing.
use Prim.Native.Nat.{◌-◌}
use mathlib.Core.Path.{◌≡◌, refl}
use mathlib.Core.List.{List, [], ◌∷◌}
use native.Mathlib.Omega.{arith}
use lib.ListN.{length}
use lib.IntN.{ℤ, pos}
use Rattle.std.specs.List.{slice_get}
use Rattle.std.proofs.lemmas.Option.{slice_get-get_or}
use Rattle.window.specs.Window.{is_empty, first_or}
use Rattle.window.proofs.Window.{last-at}
use Rattle.time_rollups.specs.RollupFns.{seconds_or_nan, tfirst_of, tlast_of}

pub first-time : (ts : List ℤ) → seconds_or_nan (slice_get ts 0) ≡ tfirst_of ts
unfolding tfirst_of is_empty first_or
first-time [] = refl
first-time (t ∷ ts) = refl

pub last-time : (ts : List ℤ) → seconds_or_nan (slice_get ts (length ts - 1)) ≡ tlast_of ts
unfolding tlast_of is_empty
last-time [] = refl
last-time (t ∷ ts) = rw (slice_get-get_or (t ∷ ts) (length (t ∷ ts) - 1) (pos 0) (omega arith), last-at (pos 0) (t ∷ ts))
