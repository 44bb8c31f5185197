use Rattle.std.proofs.Common.{rules, ◌≡◌, ◌∙◌}
use Rattle.std.specs.Prelude.{position}
use Rattle.std.proofs.lemmas.Iterator.Search.{position_from_yields_List}
use Rattle.std.proofs.lemmas.Iterator.{YieldsList-from_slice}
use borrow.Author.Tests.{tests}
use lib.Dec.{eqb}
use Rattle.vectors.proofs.Words.{ended, line_ends}
use Rattle.vectors.proofs.body.Goals as goal

pub returns : goal.returns
returns c =
    let p : c.position.result ≡ position (λ b. eqb b 10) c.args.text.now = position_from_yields_List (λ b. eqb b 10) _ _ c.position.result c.position.ensures.ran (YieldsList-from_slice _ c.iter.ensures.rest) (λ x b q k. search (rules, tests)) in
    let e : c.map_or.result ≡ ended c.args.text.now = search rules in
    e ∙ line_ends _
