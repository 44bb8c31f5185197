-- What is rounded grows with what is rounded: for values without a minus sign, a product and a sum are at most those of greater values.
-- Assumes nothing.
use Prim.Native.Nat.{ℕ, suc, ◌+◌, ◌*◌, ◌^◌, ◌≤◌, ◌<◌}
use native.Mathlib.Omega.{arith}
use native.Mathlib.Nat.{mul-pos, add-le-add, add-mul, mul-le-mul_right, mul_assoc, mul_comm, mul_left_comm}
use mathlib.Core.Path.{◌≡◌, refl, sym, subst}
use mathlib.Core.Bool.{Bool, true, false, ◌&&◌, ◌||◌, cond, true≢false}
use lib.Dec.{T, ltb, eqb, ltb→lt, eqb→eq}
use lib.Ieee.{Float, nan, inf, fin, binary64, prec, emax, low, up, down, odd, units, round, sum, add, mul, le}
use lib.Ieee.Exact.{HasValue, odd_sign}
use lib.Ieee.Fits.{round_is}
use lib.Ieee.Order.{kept, drop, round_mono}
use lib.Ieee.Positive.{num, den, den_pos}

-- finite, and without a minus sign
abbrev pub plain : Float → Bool
plain nan = false
plain (inf s) = false
plain (fin true m e) = false
plain (fin false m e) = true

-- x is at most y, and both are plain
pub record Below (x y : Float) : Type 0 where
  pub left : T (plain x)
  pub right : T (plain y)
  pub order : num x * den y ≤ num y * den x

-- ---- what is rounded

valued : (x : Float) (a c : ℕ) → HasValue x false a c → T (plain x)
valued nan a c h = absurd h
valued (inf s) a c h = absurd h
valued (fin true m e) a c h = absurd (true≢false h.0)
valued (fin false m e) a c h = tt

units-plain : (q k : ℕ) (y : Float) → T (plain y) → T (le (units binary64 false q k) y) → T (plain (units binary64 false q k))
unfolding units le
units-plain q k nan p = absurd p
units-plain q k (inf s) p = absurd p
units-plain q k (fin true n d) p = absurd p
units-plain q k (fin false n d) p = go (ltb (q * 2 ^ k) (2 ^ (low binary64 + suc (emax binary64))))
  where
    go : (b : Bool) → T (le (cond b (odd (suc (prec binary64)) false q k (low binary64)) (inf false)) (fin false n d)) → T (plain (cond b (odd (suc (prec binary64)) false q k (low binary64)) (inf false)))
    go true h = valued (odd (suc (prec binary64)) false q k (low binary64)) (q * 2 ^ k) (2 ^ low binary64) (odd_sign (suc (prec binary64)) false q k (low binary64))
    go false h = absurd h

round-plain : (a b : ℕ) (y : Float) → T (plain y) → T (le (round binary64 false a b) y) → T (plain (round binary64 false a b))
round-plain a b y p h =
    subst (λ (z : Float). T (plain z)) (sym (round_is binary64 false a b))
    (units-plain (kept (prec binary64) (a * 2 ^ low binary64) b) (drop (prec binary64) (a * 2 ^ low binary64) b) y p
    (subst (λ (z : Float). T (le z y)) (round_is binary64 false a b) h))

at_most : (a b : ℕ) → T (ltb a b || eqb a b && true) → a ≤ b
at_most a b h = by (ltb a b) (ltb→lt a b) (eqb a b) (eqb→eq a b) h
  where
    by : (t : Bool) → (T t → a < b) → (u : Bool) → (T u → a ≡ b) → T (t || u && true) → a ≤ b
    by true f u g h = let l : a < b = f tt in omega arith
    by false f true g h = let l : a ≡ b = g tt in omega arith
    by false f false g h = absurd h

le_order : (x y : Float) → T (plain x) → T (plain y) → T (le x y) → num x * den y ≤ num y * den x
unfolding le
le_order nan y p q h = absurd p
le_order (inf s) y p q h = absurd p
le_order (fin true m e) y p q h = absurd p
le_order (fin false m e) nan p q h = absurd q
le_order (fin false m e) (inf s) p q h = absurd q
le_order (fin false m e) (fin true n d) p q h = absurd q
le_order (fin false m e) (fin false n d) p q h = at_most (m * up e * down d) (n * up d * down e) h

pub round-below : (a b c d : ℕ) → 0 < b → 0 < d → a * d ≤ c * b → T (plain (round binary64 false c d)) → Below (round binary64 false a b) (round binary64 false c d)
round-below a b c d B D h p =
    let up_to_lem = round_mono binary64 a b c d B D h in
    let q = round-plain a b (round binary64 false c d) p up_to_lem in
    record { left = q; right = p; order = le_order (round binary64 false a b) (round binary64 false c d) q p up_to_lem }

-- ---- products and sums

mul_is : (x y : Float) → T (plain x) → T (plain y) → mul binary64 x y ≡ round binary64 false (num x * num y) (den x * den y)
unfolding mul
mul_is nan y p q = absurd p
mul_is (inf s) y p q = absurd p
mul_is (fin true m e) y p q = absurd p
mul_is (fin false m e) nan p q = absurd q
mul_is (fin false m e) (inf s) p q = absurd q
mul_is (fin false m e) (fin true n d) p q = absurd q
mul_is (fin false m e) (fin false n d) p q = refl

add_is : (x y : Float) → T (plain x) → T (plain y) → add binary64 x y ≡ round binary64 false (num x * den y + num y * den x) (den x * den y)
unfolding add sum
add_is nan y p q = absurd p
add_is (inf s) y p q = absurd p
add_is (fin true m e) y p q = absurd p
add_is (fin false m e) nan p q = absurd q
add_is (fin false m e) (inf s) p q = absurd q
add_is (fin false m e) (fin true n d) p q = absurd q
add_is (fin false m e) (fin false n d) p q = refl

-- a / b ≤ c / d, times n / m
scaled : (a b c d n m : ℕ) → a * d ≤ c * b → a * n * (d * m) ≤ c * n * (b * m)
scaled a b c d n m h = simp (mul_assoc, mul_comm, mul_left_comm) (simp (mul_assoc, mul_comm, mul_left_comm) at (mul-le-mul_right (n * m) h))

-- a / b ≤ c / d, plus e / f ≤ g / k
summed : (a b c d e f g k : ℕ) → a * d ≤ c * b → e * k ≤ g * f → (a * f + e * b) * (d * k) ≤ (c * k + g * d) * (b * f)
summed a b c d e f g k h l =
    rw (add-mul (a * f) (e * b) (d * k), add-mul (c * k) (g * d) (b * f))
    (add-le-add
    (simp (mul_assoc, mul_comm, mul_left_comm) (simp (mul_assoc, mul_comm, mul_left_comm) at (mul-le-mul_right (f * k) h)))
    (simp (mul_assoc, mul_comm, mul_left_comm) (simp (mul_assoc, mul_comm, mul_left_comm) at (mul-le-mul_right (b * d) l))))

-- x v ≤ y v
pub mul-below : (x y v : Float) → Below x y → T (plain v) → T (plain (mul binary64 y v)) → Below (mul binary64 x v) (mul binary64 y v)
mul-below x y v h p q =
    rw (mul_is x v h.left p, mul_is y v h.right p)
    (round-below (num x * num v) (den x * den v) (num y * num v) (den y * den v) (mul-pos (den_pos x) (den_pos v)) (mul-pos (den_pos y) (den_pos v)) (scaled (num x) (den x) (num y) (den y) (num v) (den v) h.order) (rw (mul_is y v h.right p) at q))

-- x + u ≤ y + v
pub add-below : (x y u v : Float) → Below x y → Below u v → T (plain (add binary64 y v)) → Below (add binary64 x u) (add binary64 y v)
add-below x y u v h k q =
    rw (add_is x u h.left k.left, add_is y v h.right k.right)
    (round-below (num x * den u + num u * den x) (den x * den u) (num y * den v + num v * den y) (den y * den v) (mul-pos (den_pos x) (den_pos u)) (mul-pos (den_pos y) (den_pos v)) (summed (num x) (den x) (num y) (den y) (num u) (den u) (num v) (den v) h.order k.order) (rw (add_is y v h.right k.right) at q))
