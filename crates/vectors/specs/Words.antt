-- The words of a list of stored answers.
-- Assumes nothing.
use Rattle.std.specs.Prelude.{List, [], ◌∷◌, cond, ℕ, suc, ◌+◌, ◌*◌, ◌%◌, ◌^◌, leb, eqb, length, take, drop}

-- the first line's length, its end (a byte 10) counted
unfoldable pub body_of : List ℕ → ℕ
body_of [] = 0
body_of (b ∷ bs) = cond (eqb b 10) 1 (suc (body_of bs))

-- the digits 0 to 9 are the bytes 48 to 57, and a to f are 97 to 102
abbrev pub digit_of : ℕ → ℕ
digit_of b = cond (leb b 57) (b % 16) ((b + 9) % 16)

-- the digits after those that spell w; of more than sixteen, the last sixteen count
unfoldable pub hex_from : ℕ → List ℕ → ℕ
hex_from w [] = w
hex_from w (b ∷ bs) = hex_from (w % 2 ^ 60 * 16 + digit_of b) bs

abbrev pub hex_of : List ℕ → ℕ
hex_of bs = hex_from 0 bs

-- the word whose digits begin at byte `at`, and 0 where it is not whole
abbrev pub word_at : List ℕ → ℕ → ℕ
word_at s at = cond (leb (at + 16) (length s)) (hex_of (take 16 (drop at s))) 0
