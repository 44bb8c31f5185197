-- `reach::get_max_prev_interval` meets its contract: the tests on the way to a return say which range the estimate lies in.
-- Assumes nothing.
use native.Mathlib.Omega.{arith}
use Rattle.config.proofs.Reaches.{shifted, five-times, three-times, twice, half-more, quarter-more, eighth-more}
use Rattle.config.proofs.reach.get_max_prev_interval.Goals as goal

pub returns-then-scrape_interval-le2000 : goal.returns-then-scrape_interval-le2000
returns-then-scrape_interval-le2000 c = five-times _ (omega arith)

pub returns-then-scrape_interval-le4000 : goal.returns-then-scrape_interval-le4000
returns-then-scrape_interval-le4000 c = three-times _ (omega arith) (omega arith)

pub returns-then-scrape_interval-le8000 : goal.returns-then-scrape_interval-le8000
returns-then-scrape_interval-le8000 c = twice _ (omega arith) (omega arith)

pub returns-then-scrape_interval-le16000 : goal.returns-then-scrape_interval-le16000
unfolding shifted
returns-then-scrape_interval-le16000 c = half-more _ (omega arith) (omega arith)

pub returns-then-scrape_interval-le32000 : goal.returns-then-scrape_interval-le32000
unfolding shifted
returns-then-scrape_interval-le32000 c = quarter-more _ (omega arith) (omega arith)

pub returns : goal.returns
unfolding shifted
returns c = eighth-more _ (omega arith)
