-- What an accepted call goes by: the output times, the window, the reach and the per-call number.
-- Assumes nothing.
use Rattle.std.specs.Prelude.{◌≡◌, true, ℕ, ◌≤◌, ℤ, pos}
use Rattle.std.specs.Int.Signed.{le_z}
use Rattle.times.specs.Grid.{grid_size}
use Rattle.times.specs.Milli.{time_limit, Within}
use Rattle.settings.specs.Rows.{max_per_call, settled_limit}
use Rattle.settings.specs.declared.course.Course.{Course}
use Rattle.settings.specs.declared.SettledConfig.{SettledConfig}

abbrev pub course : ℤ → ℤ → ℕ → ℤ → ℤ → ℕ → Course
course start step points window reach perCall =
    record { start = start; step = step; points = points; window = window; reach = reach; samples_scanned_per_call = perCall }

-- a settled run goes by the window and the reach that it is given
abbrev pub settled_course : SettledConfig → Course
settled_course sc =
    course sc.start sc.step (grid_size sc.start sc.end sc.step) sc.window sc.reach sc.samples_scanned_per_call

-- a window, a reach and a per-call number as the table lets them pass
pub record Lengths (c : Course) : Type 0 where
  pub window : Within settled_limit c.window
  pub reach : Within settled_limit c.reach
  pub positive : le_z (pos 0) c.window ≡ true
  pub per_call : c.samples_scanned_per_call ≤ max_per_call

-- an output time, too
pub record Timed (t : ℤ) (c : Course) : Type 0 where
  pub time : Within time_limit t
  pub lengths : Lengths c
