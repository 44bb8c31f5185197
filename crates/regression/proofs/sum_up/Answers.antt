-- `regression::sum_up` meets its contract. At each turn, what is summed and what is left make the whole.
-- Assumes nothing.
use Rattle.std.proofs.Common.{rules, ◌≡◌, ℕ, ◌≤◌, ◌<◌, List, [], ◌∷◌, arith, leb-true, drop_of_length-le}
use Rattle.std.proofs.lemmas.List.{drop_more}
use Prim.Native.Nat.{min}
use mathlib.Core.Logic.{◌⊎◌, inl, inr}
use borrow.Author.Tests.{leb-false}
use lib.Dec.{leb}
use lib.IntN.{ℤ, pos, ◌-ℤ◌}
use lib.ListN.{length, drop, get_or}
use mir.Syntax.{w64}
use mir.Val.{SFits, of_z, to_z}
use mir.ValLaws.{to_z-of_z}
use lib.Ieee.{binary64, of_bits}
use Rattle.ieee.specs.Patterns.{floats}
use Rattle.ieee.proofs.Tests.{by-test}
use Rattle.regression.specs.declared.Sums.{Sums}
use Rattle.regression.specs.Regression.{seconds_from, sums_from, sums_with}
use Rattle.regression.proofs.sum_up.Goals as goal

none_left : {A B : Type 0} (l : List A) (m : List B) (i : ℕ) → min (length l) (length m) ≤ i → (drop i l ≡ []) ⊎ (drop i m ≡ [])
none_left l m i h =
    by-test (leb (length l) i) (λ e. inl (drop_of_length-le l (leb-true (length l) i e)))
    (λ e. let k : length m ≤ i = omega (arith, leb-false (length l) i e) in inr (drop_of_length-le m k))

one_more : (t : ℤ) (s all : Sums) (ts us : List ℤ) (vs ws : List ℕ) (u : ℤ) (b : ℕ) → vs ≡ b ∷ ws → ts ≡ u ∷ us → sums_from t s ts (floats vs) ≡ all
    → sums_from t (sums_with s (seconds_from t u) (of_bits binary64 b)) us (floats ws) ≡ all
unfolding sums_from floats
one_more t s all ts us vs ws u b v w e = rw (v, w) at e

ended : (t : ℤ) (s all : Sums) (ts : List ℤ) (vs : List ℕ) → (vs ≡ []) ⊎ (ts ≡ []) → sums_from t s ts (floats vs) ≡ all → s ≡ all
unfolding sums_from floats
ended t s all [] vs (inl v) e = e
ended t s all (u ∷ us) vs (inl v) e = rw v at e
ended t s all ts vs (inr w) e = rw w at e

pub loop-i-preserved : goal.loop-i-preserved
loop-i-preserved c =
    let vs = c.args.values.now in
    let ts : List ℤ = c.args.timestamps.now in
    let i = c.loop-i.i in
    let in_values : i < length vs = omega arith in
    let in_times : i < length ts = omega arith in
    let known = to_z-of_z w64 (get_or ts i (pos 0)) (search rules) in
    let ic = to_z-of_z w64 c.args.intercept_time c.ranges.intercept_time in
    let less : SFits w64 (to_z w64 (of_z w64 (get_or ts i (pos 0))) -ℤ to_z w64 (of_z w64 c.args.intercept_time)) = rw (known, ic) (c.requires.by_index i in_times) in
    rw (c.with-sums.ensures, c.seconds.ensures, c.value_of.ensures, to_z-of_z w64 _ less, known)
    (one_more _ _ _ _ _ _ _ _ _ (drop_more vs i 0 in_values) (drop_more ts i (pos 0) in_times) c.loop-i.invariant)

pub returns : goal.returns
returns c =
    let past : min (length c.args.values.now) (length c.args.timestamps.now) ≤ c.loop-i.i = omega arith in
    rw (to_z-of_z w64 c.args.intercept_time c.ranges.intercept_time)
    at (ended _ _ _ _ _ (none_left c.args.values.now c.args.timestamps.now c.loop-i.i past) c.loop-i.invariant)
