-- The whole part of a rank among n values is an index of them: for phi from 0 to 1 and n up to 2 ^ 53, phi × (n − 1) rounds to at most n − 1, which is exact.
-- Assumes nothing.
use mathlib.Core.Path.{◌≡◌, refl, sym, ap, ◌∙◌}
use mathlib.Core.Logic.{⊎_elim}
use mathlib.Core.Bool.{true, false, true≢false}
use Prim.Native.Nat.{ℕ, zero, suc, ◌+◌, ◌-◌, ◌*◌, ◌/◌, ◌%◌, ◌^◌, ◌≤◌, ◌<◌}
use native.Mathlib.Nat.{mul-one, one-mul, zero-mul, mul_assoc, mul_comm, mul_left_comm, mul-pos, mul-le-mul_right, le_of_mul-le-mul_right, div-one, le_of_eq, le_of_lt, le_trans}
use native.Mathlib.Omega.{arith}
use borrow.Author.Tests.{ltb-false}
use lib.Dec.{T, ltb, eqb, ltb→lt, eqb→eq, le→leb, lit<}
use lib.IntN.{ℤ, pos}
use lib.Ieee.{Float, nan, inf, fin, binary64, up, down, round, mul, lt, eq, le, is_nan, in_float, of_bits, of_int, to_unsigned}
use lib.Ieee.Exact.{HasValue}
use lib.Ieee.Fits.{up_pos, down_pos, and_l}
use lib.Ieee.Nearest.{div_mono}
use lib.Ieee.Order.{round_mono}
use lib.Ieee.Scale.{finite, grid, round_same, round_val, round_under}
use lib.Ieee.Back.{unsigned_back}
use mir.Facts.{or_yes}
use Rattle.ieee.specs.Value.{floor_of, whole_below}
use Rattle.ieee.proofs.Exact.{count-exact}
use Rattle.quantile.specs.Quantile.{rank_of}
use Rattle.ieee.proofs.Tests.{by-test}

module _ (k : ℕ) (small : k ≤ 2 ^ 53) where
  -- the whole part of a number m * 2 ^ e that is at most k, taken down to it or as it stands
  floor-within : (m : ℕ) (e : ℤ) → m * up e ≤ k * down e → to_unsigned 64 (floor_of (fin false m e)) ≤ k
  unfolding floor_of to_unsigned whole_below in_float
  floor-within m e h =
      let part : m * up e / down e ≤ k = rw (div-one k) at (div_mono (m * up e) (down e) k 1 (down_pos e) (lit< tt) (rw (mul-one (m * up e)) h)) in
      by-test (eqb (m * up e % down e) 0) (λ t. rw t (omega arith))
      (λ t. rw (t, (unsigned_back binary64 64 (m * up e / down e) (le→leb (m * up e / down e) (2 ^ 53) (omega arith)) (omega arith)).1) part)

  part-within : (K r : Float) (g : ℕ) → HasValue K false k 1 → (T (finite r) → HasValue r false g (2 ^ 1074)) → T (le r K) → to_unsigned 64 (floor_of r) ≤ k
  unfolding le lt eq floor_of to_unsigned
  part-within nan r g p v l = absurd p
  part-within (inf s) r g p v l = absurd p
  part-within (fin true n d) r g p v l = absurd (true≢false p.0)
  part-within (fin false n d) nan g p v l = omega arith
  part-within (fin false n d) (inf true) g p v l = omega arith
  part-within (fin false n d) (inf false) g p v l = absurd l
  part-within (fin false n d) (fin true m e) g p v l = absurd (true≢false (v tt).0)
  part-within (fin false n d) (fin false m e) g p v l =
      let cross : m * up e * down d ≤ n * up d * down e =
      ⊎_elim (λ t. le_of_lt (ltb→lt (m * up e * down d) (n * up d * down e) t)) (λ t. le_of_eq (eqb→eq (m * up e * down d) (n * up d * down e) (and_l (eqb (m * up e * down d) (n * up d * down e)) _ t))) (or_yes (ltb (m * up e * down d) (n * up d * down e)) _ l) in
      let same : n * up d * down e ≡ k * down e * down d = ap (λ (z : ℕ). z * down e) (sym (mul-one (n * up d)) ∙ p.1) ∙ simp (mul_assoc, mul_comm) in
      floor-within m e (le_of_mul-le-mul_right (rw same at cross) (down_pos d))

  -- phi at most 1
  product-within : (K : Float) (m : ℕ) (e : ℤ) → K ≡ of_int binary64 (pos k) → HasValue K false k 1 → m * up e ≤ down e → to_unsigned 64 (floor_of (mul binary64 (fin false m e) K)) ≤ k
  unfolding mul of_int
  product-within nan m e is p h = absurd p
  product-within (inf s) m e is p h = absurd p
  product-within (fin true n d) m e is p h = absurd (true≢false p.0)
  product-within (fin false n d) m e is p h =
      let a = m * up e * (n * up d) in
      let c = down e * down d in
      let fraction : a * 1 ≤ k * c =
      rw (mul-one a, sym (mul-one (n * up d)) ∙ p.1) (le_trans (mul-le-mul_right (k * down d) h) (le_of_eq (mul_left_comm (down e) k (down d)))) in
      part-within (fin false n d) (round binary64 false a c) (grid binary64 a c) p (λ t. round_val binary64 a c (round_under binary64 a c t))
      (rw is (round_mono binary64 a c k 1 (mul-pos (down_pos e) (down_pos d)) (lit< tt) fraction))

  -- phi −0.0
  zero-within : (K : Float) (e : ℤ) → HasValue K false k 1 → to_unsigned 64 (floor_of (mul binary64 (fin true 0 e) K)) ≤ k
  unfolding mul round floor_of to_unsigned
  zero-within nan e p = absurd p
  zero-within (inf s) e p = absurd p
  zero-within (fin true n d) e p = absurd (true≢false p.0)
  zero-within (fin false n d) e p =
      rw (round_same binary64 true (0 * up e * (n * up d)) (down e * down d) 0 1 (mul-pos (down_pos e) (down_pos d)) (lit< tt) (simp zero-mul)) (omega arith)

  pub rank-within : (phi : Float) → lt phi (of_bits binary64 0) ≡ false → lt (of_bits binary64 0x3FF0000000000000) phi ≡ false → is_nan phi ≡ false → to_unsigned 64 (floor_of (mul binary64 phi (of_int binary64 (pos k)))) ≤ k
  unfolding lt is_nan of_bits
  rank-within nan p q r = absurd (true≢false r)
  rank-within (inf true) p q r = absurd (true≢false p)
  rank-within (inf false) p q r = absurd (true≢false q)
  rank-within (fin true zero e) p q r = zero-within (of_int binary64 (pos k)) e (count-exact k small)
  rank-within (fin true (suc m) e) p q r =
      let none : suc m * up e * 1 + 0 * 1 * down e ≤ 0 = ltb-false _ _ p in
      let some : 0 < suc m * up e = mul-pos (omega arith) (up_pos e) in
      absurd (omega (arith, mul-one (suc m * up e)))
  rank-within (fin false m e) p q r =
      let one : m * up e * 1 ≤ 1 * 1 * down e = ltb-false _ _ q in
      product-within (of_int binary64 (pos k)) m e refl (count-exact k small) (rw (mul-one (m * up e), one-mul (down e)) at one)

-- the index is one of the n values'
pub index-within : (phi : Float) (n : ℕ) → 0 < n → n ≤ 2 ^ 53 → lt phi (of_bits binary64 0) ≡ false → lt (of_bits binary64 0x3FF0000000000000) phi ≡ false → is_nan phi ≡ false → to_unsigned 64 (floor_of (rank_of phi n)) < n
unfolding rank_of
index-within phi n some few p q r = let h = rank-within (n - 1) (omega arith) phi p q r in omega arith
