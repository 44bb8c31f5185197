-- The cases of a list, each as a function replays it.
-- Assumes nothing.
use Rattle.std.specs.Prelude.{List, ◌≡◌, ℕ, Bool, drop, length, Option, Some, None, Result, Ok, Err}
use Rattle.std.specs.Fn.{Shared}
use Rattle.std.specs.List.{FoldsTo}
use denote.Ref.{MutBor}
use Rattle.replay.specs.Tally.{next_of}
use Rattle.replay.specs.declared.Case.{Case}
use Rattle.replay.specs.declared.Tally.{Tally}
use Rattle.vectors.specs.declared.Cursor.{Cursor}
use Rattle.vectors.specs.declared.Unread.{Unread}
use Rattle.vectors.specs.declared.Unread.TheVariants.{Malformed, OutOfMemory}

-- the case that an answer after n bytes gives: none where the text is malformed there; where memory runs out the answer gives no case of either kind
abbrev pub IsCase : Result Bool Unread → ℕ → Option Case → Type 0
IsCase (Ok same) n c = c ≡ Some (record { len = n; same = same })
IsCase (Err Malformed) n c = c ≡ None
IsCase (Err (OutOfMemory e)) n c = ⊥

module _ {F : Type 0} (g : Shared F (MutBor Cursor × Unit {0}) (Result Bool Unread × (MutBor Cursor × Unit {0}))) (f : F) (text : List ℕ) where
  -- f, handed the text from a byte on, answers the case
  pub record Judged (at : ℕ) (c : Option Case) : Type 0 where
    pub shown : MutBor Cursor
    pub rest : shown.now.text.now ≡ drop at text
    pub first : shown.now.at ≡ 0
    pub answer : Result Bool Unread
    pub left : MutBor Cursor
    pub met : g.post f (shown, tt) (answer, (left, tt))
    pub read : IsCase answer left.now.at c

  -- each case is as f answers it, and the tally after them is that of the rule
  abbrev pub Replayed : Tally → List (Option Case) → Tally → Type 0
  Replayed from cases to = FoldsTo (λ t c u. Judged t.at c × (u ≡ next_of t (length text) c)) from cases to
