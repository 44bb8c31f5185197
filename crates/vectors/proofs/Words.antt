-- The first line's end, and what digits spell, as a position and a fold.
-- Assumes nothing.
use Rattle.std.proofs.Common.{List, [], ◌∷◌, ◌≡◌, refl, ℕ, suc, ◌+◌, ◌*◌, ◌%◌, ◌^◌, cond, length, true, false, Bool, not, arith}
use Rattle.std.specs.Prelude.{fold}
use Rattle.std.specs.List.{position_or_len}
use Rattle.std.proofs.lemmas.Bool.Decides.{nat_tests}
use lib.Dec.{eqb, ltb}
use Rattle.vectors.specs.Words.{body_of, digit_of, hex_from}

-- the bytes before the first byte 10, and that byte
abbrev pub ended : List ℕ → ℕ
ended s = let i = position_or_len (λ b. eqb b 10) s in cond (ltb i (length s)) (i + 1) (length s)

next : (p : Bool) (i n k : ℕ) → cond (ltb i n) (i + 1) n ≡ k → cond (ltb (cond (not p) (1 + i) 0) (suc n)) (cond (not p) (1 + i) 0 + 1) (suc n) ≡ cond p 1 (suc k)
next true i n k e = grind (arith, nat_tests)
next false i n k e = grind (arith, nat_tests)

-- the first line ends at the first byte 10
pub line_ends : (s : List ℕ) → ended s ≡ body_of s
unfolding body_of
line_ends [] = refl
line_ends (b ∷ bs) = next (eqb b 10) (position_or_len (λ b. eqb b 10) bs) (length bs) (body_of bs) (line_ends bs)

pub hex_folds : (bs : List ℕ) (w : ℕ) → fold (λ w b. w % 2 ^ 60 * 16 + digit_of b) w bs ≡ hex_from w bs
unfolding hex_from
hex_folds [] w = refl
hex_folds (b ∷ bs) w = hex_folds bs (w % 2 ^ 60 * 16 + digit_of b)
