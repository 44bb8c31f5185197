-- `estimate::get_scrape_interval` meets its contract: the quantile is taken of the first intervals, none of which is NaN.
-- Assumes nothing.
use Prim.Native.Nat.{ℕ, suc, ◌≤◌}
use mathlib.Core.Path.{◌≡◌, sym, ap, ◌∙◌}
use mathlib.Core.Bool.{true, false, false≢true}
use mathlib.Core.List.{List, [], ◌∷◌, map}
use native.Mathlib.Omega.{arith}
use borrow.Author.Tests.{lt-ltb, le-ltb}
use lib.Dec.{T}
use lib.IntN.{ℤ, pos, negsuc, nat_abs}
use lib.Ieee.{Float, binary64, is_nan, of_bits, of_int, to_signed}
use lib.Ieee.Casts.{to_signed_in}
use lib.ListN.{length, take, length-map, length-take}
use lib.Signed.{le_z, non_neg}
use mir.Syntax.{w64}
use mir.Val.{Fits, SFits}
use mir.Facts.{to_z-of_z}
use Rattle.ieee.proofs.Numbers.{round_number}
use Rattle.order.specs.Order.{sorted}
use Rattle.order.specs.Sort.{All}
use Rattle.order.specs.declared.Order.TheVariants.{Partial}
use Rattle.quantile.specs.Quantile.{quantile_sorted, quantile_of}
use Rattle.sort.proofs.Kept.{numbers-kept}
use Rattle.config.specs.Estimate.{distances, first_intervals, estimate_of}
use Rattle.config.proofs.estimate.get_scrape_interval.Goals as goal

-- a whole number's float is no NaN
whole_numbers : (ds : List ℤ) → All (λ x. is_nan x ≡ false) (map (of_int binary64) ds)
unfolding of_int
whole_numbers [] = tt
whole_numbers (pos n ∷ ds) = (round_number binary64 false n 1, whole_numbers ds)
whole_numbers (negsuc n ∷ ds) = (round_number binary64 true (suc n) 1, whole_numbers ds)

-- 0.6
abbrev phi : Float
phi = of_bits binary64 0x3FE3333333333333

-- at most 20, in a slice of 40
few : (ts : List ℤ) (n : ℕ) → n ≡ length (first_intervals ts) → n ≤ 20
few ts n e = omega (arith, simp (length-map, length-take) at e)

truncated : (ts : List ℤ) {xs : List Float} {q : Float} {z : ℤ} → xs ≡ first_intervals ts → q ≡ quantile_sorted phi (sorted Partial xs) → z ≡ to_signed 63 q → z ≡ to_signed 63 (quantile_of phi (first_intervals ts))
unfolding quantile_of
truncated ts e f g =
    g
    ∙ ap (to_signed 63)
    (f
    ∙ ap (λ (xs : List Float). quantile_sorted phi (sorted Partial xs))
    (e ∙ sym (numbers-kept (first_intervals ts) (whole_numbers (take 20 (distances ts))))))

signed : {z : ℤ} (q : Float) → z ≡ to_signed 63 q → SFits w64 z
signed q e = rw e (record { sfits = to_signed_in 63 q })

above : (z : ℤ) → SFits w64 z → le_z z (pos 0) ≡ false → T (non_neg z) × Fits w64 (nat_abs z)
above (pos n) f e = (tt, record { fits = omega (arith, f.sfits) })
above (negsuc n) f e = absurd (false≢true (sym e))

pub returns-then-timestamps-lt2 : goal.returns-then-timestamps-lt2
unfolding estimate_of
returns-then-timestamps-lt2 c = rw (lt-ltb (length c.args.times.now.slice.now) 2 (omega arith))

pub quantile_first-requires : goal.quantile_first-requires
quantile_first-requires c =
    let n = c.first_intervals-n in
    let ts = c.args.times.now.slice.now in
    record { n_in_bounds = omega (arith, few ts n.result n.ensures.count); sortable = rw n.ensures.front (whole_numbers (take 20 (distances ts))) }

pub returns-then-scrape_interval-le0 : goal.returns-then-scrape_interval-le0
unfolding estimate_of
returns-then-scrape_interval-le0 c =
    let ts = c.args.times.now.slice.now in
    let z = c.to_i64-scrape_interval in
    let q = c.quantile_first in
    rw
    (le-ltb (length ts) 2 (omega arith), ← truncated ts c.first_intervals-n.ensures.front q.ensures.value z.ensures, rw (to_z-of_z (signed q.result z.ensures)) at c.if-scrape_interval-le0.true)

pub returns : goal.returns
unfolding estimate_of
returns c =
    let ts = c.args.times.now.slice.now in
    let z = c.to_i64-scrape_interval in
    let q = c.quantile_first in
    let fits = signed q.result z.ensures in
    rw
    (le-ltb (length ts) 2 (omega arith), ← truncated ts c.first_intervals-n.ensures.front q.ensures.value z.ensures, rw (to_z-of_z fits) at c.if-scrape_interval-le0.false, to_z-of_z fits)
