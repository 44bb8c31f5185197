-- The reach of an estimate, range by range. What is added to a long estimate is what a shift leaves of it.
-- Assumes nothing.
use Prim.Native.Nat.{ℕ, ◌+◌, ◌*◌, ◌/◌, ◌^◌, ◌≤◌, ◌<◌}
use mathlib.Core.Path.{◌≡◌, refl, ap}
use native.Mathlib.Omega.{arith}
use borrow.Author.Tests.{le-leb, lt-leb}
use Rattle.config.specs.Reach.{reach_of}

-- `n >> k` of an unsigned n, as the language has it
unfoldable pub shifted : ℕ → ℕ → ℕ
shifted n k = n / 2 ^ k

-- What a shift by k leaves of n is n divided by d, rounded down, where d is 2 ^ k.
shift-divides : (n k d : ℕ) → 2 ^ k ≡ d → shifted n k ≡ n / d
unfolding shifted
shift-divides n k d power = ap (λ (x : ℕ). n / x) power

module _ (e : ℕ) where
  pub five-times : e ≤ 2000 → e * 5 ≡ reach_of e
  unfolding reach_of
  five-times h = rw (le-leb e 2000 h)

  pub three-times : 2000 < e → e ≤ 4000 → e * 3 ≡ reach_of e
  unfolding reach_of
  three-times l h = rw (lt-leb e 2000 l, le-leb e 4000 h)

  pub twice : 4000 < e → e ≤ 8000 → e * 2 ≡ reach_of e
  unfolding reach_of
  twice l h = rw (lt-leb e 2000 (omega arith), lt-leb e 4000 l, le-leb e 8000 h)

  pub half-more : 8000 < e → e ≤ 16000 → e + shifted e 1 ≡ reach_of e
  unfolding reach_of
  half-more l h = rw (lt-leb e 2000 (omega arith), lt-leb e 4000 (omega arith), lt-leb e 8000 l, le-leb e 16000 h, shift-divides e 1 2 refl)

  pub quarter-more : 16000 < e → e ≤ 32000 → e + shifted e 2 ≡ reach_of e
  unfolding reach_of
  quarter-more l h = rw (lt-leb e 2000 (omega arith), lt-leb e 4000 (omega arith), lt-leb e 8000 (omega arith), lt-leb e 16000 l, le-leb e 32000 h, shift-divides e 2 4 refl)

  pub eighth-more : 32000 < e → e + shifted e 3 ≡ reach_of e
  unfolding reach_of
  eighth-more l = rw (lt-leb e 2000 (omega arith), lt-leb e 4000 (omega arith), lt-leb e 8000 (omega arith), lt-leb e 16000 (omega arith), lt-leb e 32000 l, shift-divides e 3 8 refl)
