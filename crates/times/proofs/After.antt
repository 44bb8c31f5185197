-- What one comparison tells a search.
-- Assumes nothing.
use Prim.Native.Nat.{ℕ, ◌<◌}
use mathlib.Core.Path.{◌≡◌, sym, ◌∙◌}
use mathlib.Core.List.{List}
use borrow.Author.Tests.{not-true, not-false}
use lib.IntN.{ℤ, pos}
use lib.ListN.{length, get_or}
use lib.Signed.{lt_z}
use mir.Syntax.{w64}
use mir.Val.{SFits, to_z, of_z}
use mir.Facts.{to_z-of_z}
use Rattle.times.specs.Later.{NotFalling, first_after}
use Rattle.times.specs.Search.{Tells}
use Rattle.times.proofs.Order.{lt_not_le}
use Rattle.times.proofs.Later.{first-left, first_taken}

-- the test is whether the time at i is after t
pub tells : {ts : List ℤ} → NotFalling ts → (t : ℤ) (i : ℕ) → i < length ts → Tells ts t i (lt_z t (get_or ts i (pos 0)))
tells {ts} n t i h =
    let is = lt_not_le t (get_or ts i (pos 0)) in
    record { yes = λ e. first-left n t i h (not-true _ (sym is ∙ e)); no = λ e. first_taken n t i h (not-false _ (sym is ∙ e)) }

-- a loop knows t by its bits
pub same : (ts : List ℤ) {t : ℤ} → SFits w64 t → first_after ts (to_z w64 (of_z w64 t)) ≡ first_after ts t
same ts f = rw (to_z-of_z f)
