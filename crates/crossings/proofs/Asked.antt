-- The rows of a call that asks for a time: rows 2 to 4 of the readings decide, but for an asked time outside the limits, which comes before row 4.
-- Assumes nothing.
use Prim.Native.Nat.{ℕ}
use mathlib.Core.Bool.{true, false, not}
use mathlib.Core.List.{List, [], ◌∷◌}
use mathlib.Core.Path.{◌≡◌, refl, ◌∙◌}
use native.Mathlib.Omega.{arith}
use borrow.Author.Tests.{not-false}
use lib.IntN.{ℤ}
use Rattle.series.specs.Refusals.{first_refusal}
use Rattle.series.specs.Rows.{row2, row3, row4, inside_checked, time_inside, times_checked}
use Rattle.series.specs.declared.refusal.Refusal.{Refusal}
use Rattle.series.specs.declared.refusal.Refusal.TheVariants.{TimeOutside}
use Rattle.series.specs.Refusals.{Checked}
use Rattle.std.specs.Prelude.{Ok, Err}
use Rattle.series.proofs.Accepted.{all-accept, fails}
use Rattle.crossings.specs.Nearest.{asked_checked, row3_asked}

passed_over : (a b d : Checked) → first_refusal (a ∷ b ∷ d ∷ []) ≡ first_refusal (a ∷ b ∷ (Ok tt) ∷ d ∷ [])
passed_over (Ok s) (Ok t) d = refl
passed_over (Ok s) (Err r) d = refl
passed_over (Err r) b d = refl

-- an asked time inside the limits
pub asked-inside : (ts : List ℤ) (t : ℤ) → time_inside t ≡ true → times_checked ts ≡ asked_checked ts t
unfolding times_checked asked_checked
asked-inside ts t e = rw e (passed_over (row2 ts) (row3 ts) (row4 ts))

-- an asked time outside the limits: rows 2 and 3 of the readings come before it, and row 4 after it
module _ (ts : List ℤ) (t : ℤ) (outside : time_inside t ≡ false) where
  before : (a b d : Checked) (r : Refusal) → first_refusal (a ∷ b ∷ []) ≡ Err r → first_refusal (a ∷ b ∷ Err (TimeOutside 0) ∷ d ∷ []) ≡ Err r
  before (Ok s) (Ok u) d r e = absurd (let clash : ◌≡◌ {A = ℕ} 0 1 = cc in omega arith)
  before (Ok s) (Err q) d r e = e
  before (Err q) b d r e = e

  after : (a b d : Checked) → first_refusal (a ∷ b ∷ []) ≡ Ok tt → first_refusal (a ∷ b ∷ Err (TimeOutside 0) ∷ d ∷ []) ≡ Err (TimeOutside 0)
  after (Ok s) (Ok u) d e = refl
  after (Ok s) (Err q) d e = absurd (let clash : ◌≡◌ {A = ℕ} 0 1 = cc in omega arith)
  after (Err q) b d e = absurd (let clash : ◌≡◌ {A = ℕ} 0 1 = cc in omega arith)

  pub asked-before : (r : Refusal) → inside_checked ts ≡ Err r → asked_checked ts t ≡ Err r
  unfolding inside_checked asked_checked
  asked-before r e = rw outside (before (row2 ts) (row3 ts) (row4 ts) r e)

  pub asked-after : inside_checked ts ≡ Ok tt → asked_checked ts t ≡ Err (TimeOutside 0)
  unfolding inside_checked asked_checked
  asked-after e = rw outside (after (row2 ts) (row3 ts) (row4 ts) e)

-- what the rows leave
pub asked-accepted : (ts : List ℤ) (t : ℤ) → asked_checked ts t ≡ Ok tt → (times_checked ts ≡ Ok tt) × (time_inside t ≡ true)
unfolding asked_checked
asked-accepted ts t e =
    let rows = all-accept (row2 ts ∷ row3 ts ∷ row3_asked t ∷ row4 ts ∷ []) e in
    let inside = not-false (time_inside t) (fails (not (time_inside t)) (TimeOutside 0) rows.1.1.0) in
    (asked-inside ts t inside ∙ e, inside)
