-- `replay_search::same_grid` is safe: accepted settings have a grid, and the indexes below its size are on it.
-- Assumes nothing.
use Prim.Native.Nat.{ℕ, ◌<◌}
use mathlib.Core.Path.{◌≡◌, sym}
use native.Mathlib.Omega.{arith}
use mir.Facts.{to_z-of_z}
use Rattle.settings.proofs.Passed.{settings-passed}
use Rattle.settings.specs.Rows.{settings_checked}
use Rattle.settings.specs.declared.RollupConfig.{RollupConfig}
use Rattle.std.specs.Prelude.{Ok}
use Rattle.times.specs.Grid.{OnGrid, Spans, grid_size}
use Rattle.times.proofs.Milli.{stored_and_read, within-fits}
use Rattle.replay_search.proofs.same_grid.Goals as goal

module _ (rc : RollupConfig) (e : Ok tt ≡ settings_checked rc) where
  spans : Spans (stored_and_read rc.start) (stored_and_read rc.end) (stored_and_read rc.step)
  spans =
      let p = (settings-passed rc (sym e)).spans in
      rw (to_z-of_z (within-fits tt p.start_within), to_z-of_z (within-fits tt p.end_within), to_z-of_z (within-fits tt p.step_within)) p

  on : (n : ℕ) → n ≡ grid_size (stored_and_read rc.start) (stored_and_read rc.end) (stored_and_read rc.step) → (k : ℕ) → k < n → OnGrid (stored_and_read rc.start) (stored_and_read rc.step) k
  on n size k h = record { end = stored_and_read rc.end; spans = spans; below = omega (arith, size) }

pub points-n-requires : goal.points-n-requires
points-n-requires c = spans c.args.rc c.in_ok-check_settings.ensures

pub same_times-requires-clause-on_grid : goal.same_times-requires-clause-on_grid
same_times-requires-clause-on_grid c = on c.args.rc c.in_ok-check_settings.ensures _ c.points-n.ensures

pub same_ends-requires-clause-on_grid : goal.same_ends-requires-clause-on_grid
same_ends-requires-clause-on_grid c = on c.args.rc c.in_ok-check_settings.ensures _ c.points-n.ensures
