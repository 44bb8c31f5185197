-- `search::scan` meets its contract: the first time after t is where the times that are not after it end.
-- Assumes nothing.
use Rattle.std.proofs.Common.{rules, tests, ◌≡◌, ◌∙◌, ap, length}
use lib.Signed.{lt_z}
use Rattle.std.specs.List.{position}
use Rattle.std.specs.Option.{unwrap_or}
use Rattle.std.proofs.lemmas.Iterator.{YieldsList-from_slice}
use Rattle.std.proofs.lemmas.Iterator.Search.{position_from_yields_List}
use Rattle.times.proofs.Later.{first-position}
use Rattle.times.proofs.search.scan.Goals as goal

pub returns : goal.returns
returns c =
    let ts = c.args.timestamps.now in
    let t = c.args.t in
    let found : c.position.result ≡ position (λ u. lt_z t u) ts =
    position_from_yields_List (λ u. lt_z t u) _ _ _ c.position.ensures.ran (YieldsList-from_slice ts cc) (λ x b q k. search (rules, tests)) in
    c.unwrap_or.ensures ∙ ap (λ o. unwrap_or o (length ts)) found ∙ first-position ts t
