use Rattle.std.proofs.Common.{rules, ◌≡◌, ◌∙◌, ◌+◌, ◌*◌, ◌%◌, ◌^◌}
use Rattle.std.specs.Prelude.{fold}
use Rattle.vectors.specs.Words.{digit_of}
use Rattle.vectors.proofs.Words.{hex_folds}
use Rattle.vectors.proofs.hex.Goals as goal

pub returns : goal.returns
returns c =
    let e : c.fold.result ≡ fold (λ w b. w % 2 ^ 60 * 16 + digit_of b) 0 c.args.digits.now = search rules in
    e ∙ hex_folds _ 0
