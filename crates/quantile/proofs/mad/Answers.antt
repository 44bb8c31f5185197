-- `quantile::mad` meets its contract, as `quantile` does: the first n entries are the kept distances from the median.
-- Assumes nothing.
use mathlib.Core.Path.{◌≡◌, ap, ◌∙◌}
use mathlib.Core.List.{List}
use Prim.Native.Nat.{ℕ, ◌*◌, ◌≤◌}
use native.Mathlib.Omega.{arith}
use lib.ListN.{length, length-map}
use lib.Ieee.{Float, binary64, of_bits}
use Rattle.ieee.specs.Patterns.{floats}
use Rattle.quantile.specs.Quantile.{deviations, median_of}
use Rattle.quantile.proofs.Kept.{kept-ready, kept-quantile}
use Rattle.quantile.proofs.mad.Goals as goal

deviations-length : (m : Float) (vs : List ℕ) → length (deviations m (floats vs)) ≡ length vs
unfolding floats
deviations-length m vs = length-map (floats vs) _ ∙ length-map vs _

pub quantile_first-requires : goal.quantile_first-requires
quantile_first-requires c =
    let med = c.median-middle in
    let k = c.keep_deviations-n in
    let vs = c.args.values.now in
    let room : 2 * length vs ≤ length med.new.work = omega (arith, med.auto.work, c.requires) in
    let ready = kept-ready (deviations med.result (floats vs)) med.new.work k.new.work k.result (length vs) (deviations-length med.result vs) k.ensures.value k.ensures.work_after room k.auto.work in
    record { n_in_bounds = ready.0; sortable = ready.1 }

pub returns : goal.returns
returns c =
    let med = c.median-middle in
    let k = c.keep_deviations-n in
    let vs = c.args.values.now in
    let first = c.quantile_first in
    let of_first =
    kept-quantile (deviations med.result (floats vs)) med.new.work k.new.work k.result (length vs) (deviations-length med.result vs) k.ensures.value k.ensures.work_after
    (of_bits binary64 0x3FE0000000000000) first.result first.new.work (first.ensures.value, first.ensures.work_unchanged) in
    record {
      value = of_first.0 ∙ ap (λ (m : Float). median_of (deviations m (floats vs))) med.ensures.value;
      work_unchanged = of_first.1 ∙ med.ensures.work_unchanged;
    }
