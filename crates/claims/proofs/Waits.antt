-- The rollup until_next is the wait from an output time to the first reading after it, whatever the window, the reach and the values: the record
-- has that reading's time, and says so where there is none.
-- Assumes nothing.
use mathlib.Core.Path.{◌≡◌, sym, ◌∙◌}
use mathlib.Core.List.{List}
use Prim.Native.Nat.{ℕ}
use native.Mathlib.Omega.{arith}
use borrow.Author.Tests.{not-true}
use lib.IntN.{ℤ, pos, ◌-ℤ◌}
use lib.ListN.{length, get_or}
use lib.Ieee.{binary64, to_bits}
use Rattle.ieee.specs.Value.{seconds_of}
use Rattle.times.specs.Later.{NotFalling, first_after}
use Rattle.times.proofs.Order.{lt_not_le}
use Rattle.times.proofs.Later.{first-unique}
use Rattle.rollup.specs.Eval.{eval_of}
use Rattle.rollup.specs.declared.handler.RollupHandler.TheVariants.{UntilNext}
use Rattle.time_rollups.specs.UntilNext.{until_next_of}
use Rattle.outputs.specs.Figures.{answer}
use Rattle.record.specs.Record.{readings, record_at}
use Rattle.record.proofs.Index.{first-after, none_after}
use Rattle.claims.specs.Waits.{FirstAfter, NoneAfter}

module _ (us : List ℤ) (vs : List ℕ) (same : length us ≡ length vs) (n : NotFalling us) (w r t : ℤ) where
  -- The wait is the seconds from t to the first time after t.
  pub wait-is : (k : ℕ) → FirstAfter us t k → answer UntilNext (record_at (readings us vs) w r t) ≡ to_bits binary64 (seconds_of (get_or us k (pos 0) -ℤ t))
  unfolding eval_of until_next_of
  wait-is k f =
      let is : k ≡ first_after us t = first-unique us t k (omega (arith, f.inside)) f.others (λ _. not-true _ (sym (lt_not_le t (get_or us k (pos 0))) ∙ f.after)) in
      rw (is, first-after us vs same n t (rw is at f.inside))

  -- It is NaN, with the one pattern, where no time is after t.
  pub no-wait : NoneAfter us t → answer UntilNext (record_at (readings us vs) w r t) ≡ 0x7FF8_0000_0000_0000
  unfolding eval_of until_next_of to_bits
  no-wait f =
      let is : length us ≡ first_after us t = first-unique us t (length us) (omega arith) f (λ h. absurd (omega (arith, h))) in
      rw (none_after us vs same n t (sym is))
