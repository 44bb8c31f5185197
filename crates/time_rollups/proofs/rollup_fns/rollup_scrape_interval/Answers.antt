-- `time_rollups::rollup_fns::rollup_scrape_interval` meets its contract: it divides the lifetime by the intervals; where there is none the lifetime is NaN.
-- Assumes nothing.
use borrow.Author.Tests.{lt-ltb}
use lib.Ieee.{div}
use Rattle.time_rollups.specs.RollupFns.{lifetime_of, scrape_interval_of}
use Rattle.time_rollups.proofs.rollup_fns.rollup_scrape_interval.Goals as goal

pub returns-then-timestamps-lt2 : goal.returns-then-timestamps-lt2
unfolding scrape_interval_of lifetime_of div
returns-then-timestamps-lt2 c = rw (← c.is_nan.ensures, c.if-is_nan.true, lt-ltb _ _ c.if-timestamps-lt2.true) c.nan.ensures

pub returns-then-is_nan : goal.returns-then-is_nan
unfolding scrape_interval_of
returns-then-is_nan c = rw (← c.rollup_lifetime.ensures, ← c.is_nan.ensures, c.if-is_nan.true, ← c.of_count.ensures)

pub returns : goal.returns
unfolding scrape_interval_of
returns c = rw (← c.rollup_lifetime-2.ensures, ← c.is_nan.ensures, c.if-is_nan.false, ← c.of_count-2.ensures)
