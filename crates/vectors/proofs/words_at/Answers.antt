use Rattle.std.proofs.Common.{rules, arith, refl, ◌≡◌, ◌+◌, ◌*◌}
use Rattle.vectors.specs.Words.{word_at}
use Rattle.vectors.proofs.Made.{each_given}
use Rattle.vectors.proofs.words_at.Goals as goal

pub returns : goal.returns
returns g c k h =
    each_given _ _ (λ k w. w ≡ word_at c.args.text.now (c.args.at + 17 * k)) (λ p q i y m. search rules) (λ q i y m. search rules) g.row.N 0 _ _ refl c.from_fn.ensures.items.each k k 0 h (omega arith)
