-- The order of binary64 is an order of ℕ. Of two values that are not NaN, `<`, `==` and `<=` are those of their ranks; `total_lt` is that of the total
-- ranks, for all values, and two values with one total rank are the same. Assumes nothing.
use Rattle.std.proofs.Common.{◌≡◌, ℕ, zero, suc, ◌+◌, ◌-◌, ◌*◌, ◌^◌, ◌<◌, ◌≤◌, Bool, true, false, not, ◌&&◌, ◌||◌, T, eqb, ltb, leb, ◌⊎◌, ℤ, sym, refl, ap, ◌∙◌, subst, inl, inr, true≢false, le_refl, lt_of_lt_of_le, le-add_right, le_of_lt, lt_irrefl, zero-lt-suc, mul_assoc, mul_comm, add-mul, lt_of_mul-lt-mul_right, mul-lt-mul_of_pos_right, mul-pos, zero-mul, mul_right_comm, le-add_left, arith, le→leb, eqb→eq, ltb→lt, lt→ltb, leb→le, pow_pos, ltb-false, ltb-true, le-ltb, lt-ltb, ne_eqb, le-leb, leb-true}
use mathlib.Core.Bool.{beq, and-true, and-false, or-false}
use native.Mathlib.Nat.{eq_of_mul-eq-mul_right}
use lib.Ieee.{Float, nan, inf, fin, binary64, up, down, below, level, lt, eq, le, fits, is_nan, to_bits}
use lib.Ieee.Fits.{down_pos, eq→eqb, and_l, and_r}
use Rattle.ieee.specs.Value.{negative, total_lt}
use Rattle.ieee.proofs.Rank.{most, units_of, placed, rank, total_rank}
use Rattle.ieee.proofs.Patterns.{not-nan, nan-or-number}
use Rattle.ieee.proofs.Units.{held, units-fin, units_lt, units-le, pattern_at, pattern-of, same_units}

-- two tests that pass together are equal
same_test : (a b : Bool) → (T a → T b) → (T b → T a) → a ≡ b
same_test true true p q = refl
same_test true false p q = absurd (p tt)
same_test false true p q = absurd (q tt)
same_test false false p q = refl

same-ltb : (a b u v : ℕ) → (a < b → u < v) → (u < v → a < b) → ltb a b ≡ ltb u v
same-ltb a b u v p q = same_test (ltb a b) (ltb u v) (λ t. lt→ltb u v (p (ltb→lt a b t))) (λ t. lt→ltb a b (q (ltb→lt u v t)))

pub same-eqb : (a b u v : ℕ) → (a ≡ b → u ≡ v) → (u ≡ v → a ≡ b) → eqb a b ≡ eqb u v
same-eqb a b u v p q = same_test (eqb a b) (eqb u v) (λ t. eq→eqb (p (eqb→eq a b t))) (λ t. eq→eqb (q (eqb→eq u v t)))

-- ---- numbers in a fixed ratio are ordered alike: a * k is u * l and b * k is v * l

carry : (a b u v k l : ℕ) → 0 < k → a * k ≡ u * l → b * k ≡ v * l → a < b → u < v
carry a b u v k l K p q h = lt_of_mul-lt-mul_right l (subst (λ (n : ℕ). n < v * l) p (subst (λ (n : ℕ). a * k < n) q (mul-lt-mul_of_pos_right h K)))

carry-eq : (a b u v k l : ℕ) → 0 < l → a * k ≡ u * l → b * k ≡ v * l → a ≡ b → u ≡ v
carry-eq a b u v k l L p q h = eq_of_mul-eq-mul_right l L u v (sym p ∙ ap (λ (n : ℕ). n * k) h ∙ q)

module _ (k l : ℕ) (K : 0 < k) (L : 0 < l) where
  ratio-ltb : (a b u v : ℕ) → a * k ≡ u * l → b * k ≡ v * l → ltb a b ≡ ltb u v
  ratio-ltb a b u v p q = same-ltb a b u v (carry a b u v k l K p q) (carry u v a b l k L (sym p) (sym q))

  ratio-eqb : (a b u v : ℕ) → a * k ≡ u * l → b * k ≡ v * l → eqb a b ≡ eqb u v
  ratio-eqb a b u v p q = same-eqb a b u v (carry-eq a b u v k l L p q) (carry-eq u v a b l k K (sym p) (sym q))

  ratio-zero : 0 * k ≡ 0 * l
  ratio-zero = zero-mul k ∙ sym (zero-mul l)

  ratio-below : (s t : Bool) (a b u v : ℕ) → a * k ≡ u * l → b * k ≡ v * l → below s a t b ≡ below s u t v
  ratio-below false false a b u v p q = ratio-ltb a b u v p q
  ratio-below false true a b u v p q = refl
  ratio-below true false a b u v p q = ratio-ltb 0 (a + b) 0 (u + v) ratio-zero (add-mul a b k ∙ rw (p, q) (sym (add-mul u v l)))
  ratio-below true true a b u v p q = ratio-ltb b a v u q p

  ratio-level : (s t : Bool) (a b u v : ℕ) → a * k ≡ u * l → b * k ≡ v * l → level s a t b ≡ level s u t v
  ratio-level s t a b u v p q = rw (ratio-eqb a b u v p q, ratio-eqb a 0 u 0 p ratio-zero)

-- ---- less and equal, by signs and units

-- the numbers that `lt` compares of two finite values are in one ratio with the units
crossed : (n u e d : ℕ) → n * 2 ^ 1074 ≡ u * e → n * d * 2 ^ 1074 ≡ u * (e * d)
crossed n u e d h = mul_right_comm n d (2 ^ 1074) ∙ ap (λ (x : ℕ). x * d) h ∙ mul_assoc u e d

module _ (s : Bool) (m : ℕ) (e : ℤ) (f : T (fits binary64 (fin s m e))) (t : Bool) (n : ℕ) (d : ℤ) (g : T (fits binary64 (fin t n d))) where
  left : m * up e * down d * 2 ^ 1074 ≡ units_of (fin s m e) * (down e * down d)
  left = crossed (m * up e) (units_of (fin s m e)) (down e) (down d) (units-fin s m e (held s m e f))

  right : n * up d * down e * 2 ^ 1074 ≡ units_of (fin t n d) * (down e * down d)
  right = crossed (n * up d) (units_of (fin t n d)) (down d) (down e) (units-fin t n d (held t n d g)) ∙ ap (λ (x : ℕ). units_of (fin t n d) * x) (mul_comm (down d) (down e))

  finite-lt : lt (fin s m e) (fin t n d) ≡ below s (units_of (fin s m e)) t (units_of (fin t n d))
  unfolding lt
  finite-lt = ratio-below (2 ^ 1074) (down e * down d) (pow_pos 1074) (mul-pos (down_pos e) (down_pos d)) s t _ _ _ _ left right

  finite-eq : eq (fin s m e) (fin t n d) ≡ level s (units_of (fin s m e)) t (units_of (fin t n d))
  unfolding eq
  finite-eq = ratio-level (2 ^ 1074) (down e * down d) (pow_pos 1074) (mul-pos (down_pos e) (down_pos d)) s t _ _ _ _ left right

-- an infinity beside a v that is below its units
inf_left : (s t : Bool) (v : ℕ) → v < most → s ≡ below s most t v
inf_left false false v h = sym (le-ltb most v (le_of_lt h))
inf_left false true v h = refl
inf_left true false v h = sym (lt-ltb 0 (most + v) (lt_of_lt_of_le (pow_pos 2098) (le-add_right most v)))
inf_left true true v h = sym (lt-ltb v most h)

inf_right : (s t : Bool) (u : ℕ) → u < most → not t ≡ below s u t most
inf_right false false u h = sym (lt-ltb u most h)
inf_right false true u h = refl
inf_right true false u h = sym (lt-ltb 0 (u + most) (lt_of_lt_of_le (pow_pos 2098) (le-add_left most u)))
inf_right true true u h = sym (le-ltb most u (le_of_lt h))

never-level : (s t : Bool) (u v : ℕ) → (u ≡ v → ⊥) → false ≡ level s u t v
never-level s t u v h = rw (ne_eqb u v h)

pub lt-units : (x y : Float) → T (fits binary64 x) → T (fits binary64 y) → is_nan x ≡ false → is_nan y ≡ false → lt x y ≡ below (negative x) (units_of x) (negative y) (units_of y)
unfolding lt is_nan units_of
lt-units nan y f g p q = cc
lt-units (inf s) nan f g p q = cc
lt-units (inf true) (inf true) f g p q = refl
lt-units (inf true) (inf false) f g p q = refl
lt-units (inf false) (inf true) f g p q = refl
lt-units (inf false) (inf false) f g p q = refl
lt-units (inf s) (fin t n d) f g p q = inf_left s t _ (units_lt (fin t n d) g tt)
lt-units (fin s m e) nan f g p q = cc
lt-units (fin s m e) (inf t) f g p q = inf_right s t _ (units_lt (fin s m e) f tt)
lt-units (fin s m e) (fin t n d) f g p q = finite-lt s m e f t n d g

pub eq-units : (x y : Float) → T (fits binary64 x) → T (fits binary64 y) → is_nan x ≡ false → is_nan y ≡ false → eq x y ≡ level (negative x) (units_of x) (negative y) (units_of y)
unfolding eq is_nan units_of
eq-units nan y f g p q = cc
eq-units (inf s) nan f g p q = cc
eq-units (inf true) (inf true) f g p q = refl
eq-units (inf true) (inf false) f g p q = refl
eq-units (inf false) (inf true) f g p q = refl
eq-units (inf false) (inf false) f g p q = refl
eq-units (inf s) (fin t n d) f g p q = never-level s t most _ (λ h. lt_irrefl most (subst (λ (k : ℕ). k < most) (sym h) (units_lt (fin t n d) g tt)))
eq-units (fin s m e) nan f g p q = cc
eq-units (fin s m e) (inf t) f g p q = never-level s t _ most (λ h. lt_irrefl most (subst (λ (k : ℕ). k < most) h (units_lt (fin s m e) f tt)))
eq-units (fin s m e) (fin t n d) f g p q = finite-eq s m e f t n d g

either : (a b : ℕ) → (ltb a b || eqb a b) ≡ leb a b
either a b = split (ltb a b) refl
  where
    split : (t : Bool) → ltb a b ≡ t → (t || eqb a b) ≡ leb a b
    split true e = sym (le-leb a b (le_of_lt (ltb-true a b e)))
    split false e =
        let h : b ≤ a = ltb-false a b e in
        same_test (eqb a b) (leb a b) (λ t. le→leb a b (omega (arith, eqb→eq a b t))) (λ t. eq→eqb {a = a} {b = b} (omega (arith, leb→le a b t)))

zeros : (u v : ℕ) → (eqb u v && eqb u 0) ≡ eqb (u + v) 0
zeros zero v = and-true (eqb 0 v) ∙ same-eqb 0 v (0 + v) 0 (λ h. omega arith) (λ h. omega arith)
zeros (suc u) v = rw (ne_eqb (suc u) 0 (λ h. omega arith), ne_eqb (suc u + v) 0 (λ h. omega arith)) (and-false (eqb (suc u) v))

some_or_none : (n : ℕ) → (ltb 0 n || eqb n 0) ≡ true
some_or_none zero = refl
some_or_none (suc n) = rw (lt-ltb 0 (suc n) (zero-lt-suc n))

-- ---- by rank: c stands for `most`, so that `omega` sees a plain number

module _ (c u v : ℕ) (U : u ≤ c) (W : v ≤ c) where
  below-placed : (s t : Bool) → below s u t v ≡ ltb (placed c c s u) (placed c c t v)
  below-placed false false = same-ltb u v (c + u) (c + v) (λ h. omega arith) (λ h. omega arith)
  below-placed false true = sym (le-ltb (c + u) (c - v) (omega arith))
  below-placed true false = same-ltb 0 (u + v) (c - u) (c + v) (λ h. omega arith) (λ h. omega arith)
  below-placed true true = same-ltb v u (c - u) (c - v) (λ h. omega arith) (λ h. omega arith)

  level-placed : (s t : Bool) → level s u t v ≡ eqb (placed c c s u) (placed c c t v)
  level-placed false false = and-true (eqb u v) ∙ same-eqb u v (c + u) (c + v) (λ h. omega arith) (λ h. omega arith)
  level-placed false true = zeros u v ∙ same-eqb (u + v) 0 (c + u) (c - v) (λ h. omega arith) (λ h. omega arith)
  level-placed true false = zeros u v ∙ same-eqb (u + v) 0 (c - u) (c + v) (λ h. omega arith) (λ h. omega arith)
  level-placed true true = and-true (eqb u v) ∙ same-eqb u v (c - u) (c - v) (λ h. omega arith) (λ h. omega arith)

  -- with the zeros parted
  parted : (s t : Bool) → (below s u t v || level s u t v && (s && not t)) ≡ ltb (placed c (suc c) s u) (placed c (suc c) t v)
  parted false false = simp (and-false, or-false) (same-ltb u v (suc c + u) (suc c + v) (λ h. omega arith) (λ h. omega arith))
  parted false true = simp and-false (sym (le-ltb (suc c + u) (c - v) (omega arith)))
  parted true false = rw (and-true (level true u false v), zeros u v, lt-ltb (c - u) (suc c + v) (omega arith)) (some_or_none (u + v))
  parted true true = simp (and-false, or-false) (same-ltb v u (c - u) (c - v) (λ h. omega arith) (λ h. omega arith))

module _ (x y : Float) (f : T (fits binary64 x)) (g : T (fits binary64 y)) (p : is_nan x ≡ false) (q : is_nan y ≡ false) where
  pub lt-rank : lt x y ≡ ltb (rank x) (rank y)
  unfolding rank
  lt-rank = lt-units x y f g p q ∙ below-placed most (units_of x) (units_of y) (units-le x f) (units-le y g) (negative x) (negative y)

  pub eq-rank : eq x y ≡ eqb (rank x) (rank y)
  unfolding rank
  eq-rank = eq-units x y f g p q ∙ level-placed most (units_of x) (units_of y) (units-le x f) (units-le y g) (negative x) (negative y)

  pub le-rank : le x y ≡ leb (rank x) (rank y)
  unfolding le
  le-rank = rw (lt-rank, eq-rank) (either (rank x) (rank y))

-- ---- what compares is a number

only-numbers : (r : Float → Float → Bool) → ((y : Float) → r nan y ≡ false) → ((x : Float) → r x nan ≡ false) → (x y : Float) → r x y ≡ true → (is_nan x ≡ false) × (is_nan y ≡ false)
only-numbers r left right x y h = (
  not-nan x (λ e. true≢false (sym h ∙ ap (λ (z : Float). r z y) e ∙ left y)),
  not-nan y (λ e. true≢false (sym h ∙ ap (r x) e ∙ right x)),
)

pub lt-numbers : (x y : Float) → lt x y ≡ true → (is_nan x ≡ false) × (is_nan y ≡ false)
unfolding lt
lt-numbers = only-numbers lt (λ y. refl) right
  where
    right : (x : Float) → lt x nan ≡ false
    right nan = refl
    right (inf s) = refl
    right (fin s m e) = refl

pub eq-numbers : (x y : Float) → eq x y ≡ true → (is_nan x ≡ false) × (is_nan y ≡ false)
unfolding eq
eq-numbers = only-numbers eq (λ y. refl) right
  where
    right : (x : Float) → eq x nan ≡ false
    right nan = refl
    right (inf s) = refl
    right (fin s m e) = refl

pub le-numbers : (x y : Float) → le x y ≡ true → (is_nan x ≡ false) × (is_nan y ≡ false)
unfolding le
le-numbers = only-numbers le (λ y. refl) right
  where
    right : (x : Float) → le x nan ≡ false
    right nan = refl
    right (inf s) = refl
    right (fin s m e) = refl

-- ---- chains of comparisons

pub lt-is-le : (x y : Float) → lt x y ≡ true → le x y ≡ true
unfolding le
lt-is-le x y h = rw h

pub le_not_lt : (x y : Float) → T (fits binary64 x) → T (fits binary64 y) → le x y ≡ true → lt y x ≡ false
le_not_lt x y f g h =
    let n = le-numbers x y h in
    lt-rank y x g f n.1 n.0 ∙ le-ltb (rank y) (rank x) (leb-true (rank x) (rank y) (sym (le-rank x y f g n.0 n.1) ∙ h))

pub lt-le-trans : (x y z : Float) → T (fits binary64 x) → T (fits binary64 y) → T (fits binary64 z) → lt x y ≡ true → le y z ≡ true → lt x z ≡ true
lt-le-trans x y z f g k a b =
    let n = lt-numbers x y a in
    let m = le-numbers y z b in
    let first : rank x < rank y = ltb-true (rank x) (rank y) (sym (lt-rank x y f g n.0 n.1) ∙ a) in
    let then : rank y ≤ rank z = leb-true (rank y) (rank z) (sym (le-rank y z g k m.0 m.1) ∙ b) in
    lt-rank x z f k n.0 m.1 ∙ lt-ltb (rank x) (rank z) (omega arith)

pub lt_trans : (x y z : Float) → T (fits binary64 x) → T (fits binary64 y) → T (fits binary64 z) → lt x y ≡ true → lt y z ≡ true → lt x z ≡ true
lt_trans x y z f g k a b = lt-le-trans x y z f g k a (lt-is-le y z b)

-- ---- two equal values can differ in sign alone

by_sign : (u : ℕ) (s t : Bool) → ltb (pattern_at t u) (pattern_at s u) ≡ (s && not t)
by_sign u true true = le-ltb (pattern_at true u) (pattern_at true u) (le_refl (pattern_at true u))
by_sign u true false = lt-ltb (pattern_at false u) (pattern_at true u) (omega arith)
by_sign u false true = le-ltb (pattern_at true u) (pattern_at false u) (omega arith)
by_sign u false false = le-ltb (pattern_at false u) (pattern_at false u) (le_refl (pattern_at false u))

module _ (x y : Float) (f : T (fits binary64 x)) (g : T (fits binary64 y)) (h : eq x y ≡ true) where
  equal-units : units_of x ≡ units_of y
  equal-units =
      let l : level (negative x) (units_of x) (negative y) (units_of y) ≡ true = sym (eq-units x y f g (eq-numbers x y h).0 (eq-numbers x y h).1) ∙ h in
      eqb→eq (units_of x) (units_of y) (and_l (eqb (units_of x) (units_of y)) _ (subst T (sym l) tt))

  pub equal-patterns : ltb (to_bits binary64 y) (to_bits binary64 x) ≡ (negative x && not (negative y))
  equal-patterns = rw (pattern-of x (eq-numbers x y h).0, pattern-of y (eq-numbers x y h).1, equal-units) (by_sign (units_of y) (negative x) (negative y))

-- ---- by total rank

number-rank : (x : Float) → is_nan x ≡ false → total_rank x ≡ placed most (suc most) (negative x) (units_of x)
unfolding is_nan total_rank
number-rank nan p = cc
number-rank (inf s) p = refl
number-rank (fin s m e) p = refl

below_nan : (x : Float) → T (fits binary64 x) → is_nan x ≡ false → total_rank x < total_rank nan
unfolding total_rank
below_nan x f p = rw (number-rank x p) (under most (units_of x) (units-le x f) (negative x))
  where
    under : (c u : ℕ) → u ≤ c → (s : Bool) → placed c (suc c) s u < 2 * c + 2
    under c u h true = omega arith
    under c u h false = omega arith

numbers : (x y : Float) → T (fits binary64 x) → T (fits binary64 y) → is_nan x ≡ false → is_nan y ≡ false → total_lt x y ≡ ltb (total_rank x) (total_rank y)
unfolding total_lt
numbers x y f g p q =
    rw (p, q, lt-units x y f g p q, eq-units x y f g p q, number-rank x p, number-rank y q)
    (or-false _ ∙ parted most (units_of x) (units_of y) (units-le x f) (units-le y g) (negative x) (negative y))

before-nan : (x : Float) → is_nan x ≡ false → total_lt x nan ≡ true
unfolding total_lt
before-nan nan p = cc
before-nan (inf s) p = refl
before-nan (fin s m e) p = refl

nan_last : (y : Float) → total_lt nan y ≡ false
unfolding total_lt
nan_last y = refl

pub total-lt-rank : (x y : Float) → T (fits binary64 x) → T (fits binary64 y) → total_lt x y ≡ ltb (total_rank x) (total_rank y)
total-lt-rank x y f g = go (nan-or-number x) (nan-or-number y)
  where
    go : (x ≡ nan) ⊎ (is_nan x ≡ false) → (y ≡ nan) ⊎ (is_nan y ≡ false) → total_lt x y ≡ ltb (total_rank x) (total_rank y)
    go (inl d) (inl e) = rw (d, e) (nan_last nan ∙ sym (le-ltb (total_rank nan) (total_rank nan) (le_refl (total_rank nan))))
    go (inl d) (inr q) = rw d (nan_last y ∙ sym (le-ltb (total_rank nan) (total_rank y) (le_of_lt (below_nan y g q))))
    go (inr p) (inl e) = rw e (before-nan x p ∙ sym (lt-ltb (total_rank x) (total_rank nan) (below_nan x f p)))
    go (inr p) (inr q) = numbers x y f g p q

one_place : (c u v : ℕ) → u ≤ c → v ≤ c → (s t : Bool) → placed c (suc c) s u ≡ placed c (suc c) t v → (s ≡ t) × (u ≡ v)
one_place c u v a b false false h = (refl, omega arith)
one_place c u v a b false true h = absurd (omega arith)
one_place c u v a b true false h = absurd (omega arith)
one_place c u v a b true true h = (refl, omega arith)

one_number : (x y : Float) → T (fits binary64 x) → T (fits binary64 y) → is_nan x ≡ false → is_nan y ≡ false → total_rank x ≡ total_rank y → x ≡ y
one_number x y f g p q h =
    let same = one_place most (units_of x) (units_of y) (units-le x f) (units-le y g) (negative x) (negative y) (sym (number-rank x p) ∙ h ∙ number-rank y q) in
    same_units x y f g p q same.0 same.1

pub total-rank-injective : (x y : Float) → T (fits binary64 x) → T (fits binary64 y) → total_rank x ≡ total_rank y → x ≡ y
total-rank-injective x y f g h = go (nan-or-number x) (nan-or-number y)
  where
    apart : (a b : ℕ) → a < b → a ≡ b → ⊥
    apart a b l e = omega arith

    go : (x ≡ nan) ⊎ (is_nan x ≡ false) → (y ≡ nan) ⊎ (is_nan y ≡ false) → x ≡ y
    go (inl d) (inl e) = d ∙ sym e
    go (inl d) (inr q) = absurd (apart (total_rank y) (total_rank nan) (below_nan y g q) (sym h ∙ ap total_rank d))
    go (inr p) (inl e) = absurd (apart (total_rank x) (total_rank nan) (below_nan x f p) (h ∙ ap total_rank e))
    go (inr p) (inr q) = one_number x y f g p q h

-- what a comparison of sizes with no sign says
pub level-says : (s : Bool) (a b : ℕ) → level s a false b ≡ true → (a ≡ b) × (s ≡ true → b ≡ 0)
level-says s a b h =
    let t : T (eqb a b && (beq s false || eqb a 0)) = subst T (sym h) tt in
    let same : a ≡ b = eqb→eq a b (and_l (eqb a b) _ t) in
    (same, λ n. sym same ∙ eqb→eq a 0 (rw n at (and_r (eqb a b) _ t)))
