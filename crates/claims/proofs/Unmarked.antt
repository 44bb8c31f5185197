-- On a series without marks rows 1 to 5 of the runs are those of every other call: a value that is taken and no mark is a finite number.
-- Assumes nothing.
use Prim.Native.Nat.{ℕ}
use mathlib.Core.Bool.{false}
use mathlib.Core.List.{List, [], ◌∷◌}
use mathlib.Core.Path.{◌≡◌, refl}
use lib.IntN.{ℤ}
use Rattle.ieee.proofs.Tests.{by-test}
use Rattle.ieee.specs.Mark.{is_mark}
use Rattle.marks.specs.Marks.{marked_checked, marked_row5, readable}
use Rattle.series.specs.Rows.{finite_bits, series_checked}
use Rattle.times.specs.Leading.{leading}
use Rattle.claims.specs.Agree.{Unmarked}

readable-is : (b : ℕ) → is_mark b ≡ false → readable b ≡ finite_bits b
unfolding readable
readable-is b m = by-test (finite_bits b) (λ f. rw f) (λ f. rw (f, m))

leading-is : (vs : List ℕ) → Unmarked vs → leading readable vs ≡ leading finite_bits vs
unfolding leading
leading-is [] u = refl
leading-is (v ∷ vs) u = rw (readable-is v u.0, leading-is vs u.1) refl

-- rows 1 to 5 are those of every other call
pub rows-are : (ts : List ℤ) (vs : List ℕ) → Unmarked vs → marked_checked ts vs ≡ series_checked ts vs
unfolding marked_checked marked_row5 series_checked
rows-are ts vs u = rw (leading-is vs u) refl
