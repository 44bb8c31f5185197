-- Two series hand a rollup equal records at an output time exactly when they agree on what `Agree` lists: a record's fields are read off what they agree on,
-- and a value that is no NaN is told from the NaN that stands for none, as a time later than the limit is from the limit;
-- the next reading's time is held as it is found. Equal records give equal answers.
-- Assumes nothing.
use mathlib.Core.Path.{◌≡◌, refl, sym, ap, ◌∙◌, subst}
use Prim.Native.Nat.{ℕ}
use native.Mathlib.Omega.{arith}
use mathlib.Core.Logic.{◌↔◌}
use mathlib.Core.List.{List, [], ◌∷◌, head?}
use mathlib.Core.Option.{Option, none, some, IsSome, get_or}
use mathlib.Core.Bool.{Bool, true, false, not, ◌&&◌, ◌||◌, true≢false}
use lib.Dec.{T}
use lib.IntN.{ℤ, pos, negsuc, ◌-ℤ◌}
use lib.Signed.{lt_z, le_z, <ℤ_irrefl}
use lib.Ieee.{Float, binary64, fits, is_nan, of_bits, to_bits}
use lib.Ieee.Bits.{of_bits-fits, of_bits-to_bits, to_bits-of_bits}
use lib.Ieee.Fits.{nan-fits}
use borrow.Author.Tests.{le-leb, not-false}
use Rattle.settings.specs.Rows.{outside, settled_outside, settled_row8}
use Rattle.rollup.specs.declared.handler.RollupHandler.{RollupHandler}
use Rattle.std.specs.Prelude.{Ok, is_some}
use Rattle.series.specs.declared.refusal.Refusal.TheVariants.{WindowOutside}
use Rattle.series.proofs.Accepted.{fails}
use Rattle.times.specs.Readings.{filter, cons_if}
use Rattle.times.proofs.Order.{le_trans, lt_not_le, sub-le}
use Rattle.outputs.specs.Figures.{answer}
use Rattle.record.specs.Record.{Reading, inside, before, after, last_if_any, window, earlier, later, next, time_of, bits_of, value_of, only_if, or_nan, later_than, reached, where_any, predecessor, as_field, Record, record_at}
use Rattle.claims.specs.Agree.{Agree, Bits, NoNan, Prepared, Seen, Unmarked, has_next, next_time, record_bits, time_or_0}
use Rattle.claims.proofs.Prepared.{Number, Numbers, prepared-numbers, seen-numbers}

abbrev NumberIn : Option Reading → Type 0
NumberIn none = Unit {0}
NumberIn (some x) = Number x.value

cons_if-numbers : (b : Bool) (x : Reading) (xs : List Reading) → Number x.value → Numbers xs → Numbers (cons_if b x xs)
cons_if-numbers true x xs n ns = (n, ns)
cons_if-numbers false x xs n ns = ns

filter-numbers : (p : Reading → Bool) (xs : List Reading) → Numbers xs → Numbers (filter p xs)
unfolding filter
filter-numbers p [] n = tt
filter-numbers p (x ∷ xs) n = cons_if-numbers (p x) x (filter p xs) n.0 (filter-numbers p xs n.1)

head-number : (xs : List Reading) → Numbers xs → NumberIn (head? xs)
head-number [] n = tt
head-number (x ∷ xs) n = n.0

last-number : (xs : List Reading) → Numbers xs → NumberIn (last_if_any xs)
unfolding last_if_any
last-number [] n = tt
last-number (x ∷ []) n = n.0
last-number (x ∷ y ∷ xs) n = last-number (y ∷ xs) n.1

module _ (s : List Reading) (w t : ℤ) (n : Numbers s) where
  next-number : NumberIn (next s w t)
  next-number = head-number (filter (after t) s) (filter-numbers (after t) s n)

  earlier-number : NumberIn (earlier s w t)
  earlier-number = last-number (filter (before w t) s) (filter-numbers (before w t) s n)

-- a pattern that is no NaN's is told by its value, and from the NaN that stands for none
told : (x y : Option Reading) → NumberIn x → NumberIn y → value_of (bits_of x) ≡ value_of (bits_of y) → bits_of x ≡ bits_of y
unfolding is_nan
told none none m n e = refl
told none (some y) m n e = absurd (subst (λ (f : Float). T (not (is_nan f))) (sym e) n.number)
told (some x) none m n e = absurd (subst (λ (f : Float). T (not (is_nan f))) e m.number)
told (some x) (some y) m n e =
    ap some
    (sym (to_bits-of_bits binary64 x.value m.bits m.number) ∙ ap (to_bits binary64) e ∙ to_bits-of_bits binary64 y.value n.bits n.number)

-- ---- a time later than a limit is told from the limit that stands for none

module _ (limit : ℤ) where
  told-one : (v : ℤ) (b : Bool) → lt_z limit v ≡ b → limit ≡ get_or (only_if b v) limit → none ≡ only_if b v
  told-one v true e h = absurd (<ℤ_irrefl {a = v} (record { lt = subst T (sym (rw h at e)) tt }))
  told-one v false e h = refl

  told-both : (u v : ℤ) (a b : Bool) → lt_z limit u ≡ a → lt_z limit v ≡ b
      → get_or (only_if a u) limit ≡ get_or (only_if b v) limit → only_if a u ≡ only_if b v
  told-both u v true true e f h = ap some h
  told-both u v true false e f h = sym (told-one u true e (sym h))
  told-both u v false true e f h = told-one v true f h
  told-both u v false false e f h = refl

  told-time : (x y : Option ℤ) → get_or (later_than limit x) limit ≡ get_or (later_than limit y) limit → later_than limit x ≡ later_than limit y
  told-time none none h = refl
  told-time none (some v) h = told-one v (lt_z limit v) refl h
  told-time (some u) none h = sym (told-one u (lt_z limit u) refl (sym h))
  told-time (some u) (some v) h = told-both u v (lt_z limit u) (lt_z limit v) refl refl h

-- a field tells what it holds
told-field : {A : Type 0} (x y : Option A) → as_field x ≡ as_field y → x ≡ y
told-field none none e = refl
told-field none (some y) e = cc
told-field (some x) none e = cc
told-field (some x) (some y) e = cc

-- whether there is one
abbrev some? : {A : Type 0} → Option A → Bool
some? none = false
some? (some x) = true

-- what the record at t tells of the first reading after t
pub next-told : (s : List Reading) (w r t : ℤ) → (has_next (record_at s w r t) ≡ some? (next s w t)) × (next_time (record_at s w r t) ≡ get_or (time_of (next s w t)) (pos 0))
next-told s w r t = told (next s w t)
  where
    told : (x : Option Reading) → (is_some (as_field (time_of x)) ≡ some? x) × (time_or_0 (as_field (time_of x)) ≡ get_or (time_of x) (pos 0))
    told none = (refl, refl)
    told (some x) = (refl, refl)

-- a time is told from the 0 that stands for none by whether there is a reading
told-next : (x y : Option Reading) → some? x ≡ some? y → get_or (time_of x) (pos 0) ≡ get_or (time_of y) (pos 0) → time_of x ≡ time_of y
told-next none none e h = refl
told-next none (some y) e h = cc
told-next (some x) none e h = cc
told-next (some x) (some y) e h = ap some h

-- ---- a reading is later than t − w exactly when it is in the window or after t

later-is : (w t : ℤ) (x : Reading) → le_z (pos 0) w ≡ true → after (t -ℤ w) x ≡ inside w t x || after t x
later-is w t x h = go (lt_z (t -ℤ w) x.time) (le_z x.time t) refl refl
  where
    go : (a b : Bool) → lt_z (t -ℤ w) x.time ≡ a → le_z x.time t ≡ b → a ≡ (a && b) || after t x
    go true true e f = refl
    go true false e f = rw (lt_not_le, f)
    go false true e f = rw (lt_not_le, f)
    go false false e f = cc (f, le_trans x.time (t -ℤ w) t (not-false (le_z x.time (t -ℤ w)) (sym (lt_not_le (t -ℤ w) x.time) ∙ e)) (sub-le t w h))

some_bits : (x : Option Reading) → some? (bits_of x) ≡ some? x
some_bits none = refl
some_bits (some x) = refl

abbrev any : {A : Type 0} → List A → Bool
any [] = false
any (x ∷ xs) = true

any_head : {A : Type 0} (xs : List A) → some? (head? xs) ≡ any xs
any_head [] = refl
any_head (x ∷ xs) = refl

any-cons_if : {A : Type 0} (b : Bool) (x : A) (xs : List A) → any (cons_if b x xs) ≡ b || any xs
any-cons_if true x xs = refl
any-cons_if false x xs = refl

mix : (a b c d : Bool) → (a || b) || (c || d) ≡ (a || c) || (b || d)
mix true b c d = refl
mix false true true d = refl
mix false true false d = refl
mix false false c d = refl

module _ (w t : ℤ) (h : le_z (pos 0) w ≡ true) where
  any-later : (s : List Reading) → any (filter (after (t -ℤ w)) s) ≡ any (filter (inside w t) s) || any (filter (after t) s)
  unfolding filter
  any-later [] = refl
  any-later (x ∷ s) =
      any-cons_if (after (t -ℤ w) x) x (filter (after (t -ℤ w)) s)
      ∙ cc (later-is w t x h, any-later s)
      ∙ mix (inside w t x) (after t x) (any (filter (inside w t) s)) (any (filter (after t) s))
      ∙ simp any-cons_if

  some-later : (s : List Reading) → some? (later s w t) ≡ any (window s w t) || some? (bits_of (next s w t))
  some-later s = simp (some_bits, any_head) (any-later s)

-- ---- the claim

where-same : (x y : Option Reading) (u v : Option ℤ) → some? x ≡ some? y → (IsSome x → u ≡ v) → where_any x u ≡ where_any y v
where-same none none u v e h = refl
where-same none (some y) u v e h = cc
where-same (some x) none u v e h = cc
where-same (some x) (some y) u v e h = h tt

-- where some reading is later, the predecessors' times tell the earlier readings' times within the reach
where-told : (limit : ℤ) (x y : Option Reading) (u v : Option ℤ) → some? x ≡ some? y → IsSome x
    → get_or (where_any x (later_than limit u)) limit ≡ get_or (where_any y (later_than limit v)) limit → later_than limit u ≡ later_than limit v
where-told limit none y u v e i h = absurd i
where-told limit (some x) none u v e i h = cc
where-told limit (some x) (some y) u v e i h = told-time limit u v h

module _ (a b : List Reading) (w r t : ℤ) (h : le_z (pos 0) w ≡ true) where
  same-later : window a w t ≡ window b w t → bits_of (next a w t) ≡ bits_of (next b w t) → some? (later a w t) ≡ some? (later b w t)
  same-later x y = some-later w t h a ∙ (cc) ∙ sym (some-later w t h b)

  agreement-gives-records : Agree a b w r t → record_at a w r t ≡ record_at b w r t
  agreement-gives-records g =
      let p : predecessor a w r t ≡ predecessor b w r t =
      where-same (later a w t) (later b w t) (reached a w r t) (reached b w r t) (same-later g.same_window g.same_next) g.same_reached in
      cc (g.same_window, g.same_earlier, g.same_next, g.same_next_time)

  records-give-agreement : Numbers a → Numbers b → record_at a w r t ≡ record_at b w r t → Agree a b w r t
  records-give-agreement na nb e =
      let ws : window a w t ≡ window b w t = ap (λ (x : Record). x.window) e in
      let ns : bits_of (next a w t) ≡ bits_of (next b w t) =
      told (next a w t) (next b w t) (next-number a w t na) (next-number b w t nb) (ap (λ (x : Record). x.arg.real_next_value) e) in
      record {
        same_window = ws;
        same_earlier =
            told (earlier a w t) (earlier b w t) (earlier-number a w t na) (earlier-number b w t nb) (ap (λ (x : Record). x.arg.real_prev_value) e);
        same_next = ns;
        same_next_time =
            told-field (time_of (next a w t)) (time_of (next b w t)) (ap (λ (x : Record). x.arg.next_timestamp) e);
        same_reached = λ i.
            where-told (t -ℤ w -ℤ r) (later a w t) (later b w t) (time_of (earlier a w t)) (time_of (earlier b w t)) (same-later ws ns) i
            (ap (λ (x : Record). x.arg.prev_timestamp) e);
      }

-- a window that row 8 passes is not negative
window-positive : (w r : ℤ) → settled_row8 w r ≡ Ok tt → le_z (pos 0) w ≡ true
unfolding settled_outside outside
window-positive (pos n) r e = le-leb 0 n (omega arith)
window-positive (negsuc n) r e = absurd (true≢false (fails (settled_outside (negsuc n) r) WindowOutside e))

-- ---- records are told by their bits

-- the record that holds all this
abbrev from_record_bits : Bits → Record
from_record_bits x = record {
  arg = record {
    prev_value = of_bits binary64 x.prev_value;
    prev_timestamp = x.prev_timestamp;
    real_prev_value = of_bits binary64 x.real_prev_value;
    real_next_value = of_bits binary64 x.real_next_value;
    next_timestamp = x.next_timestamp;
    curr_timestamp = x.curr_timestamp;
    window = x.window;
  };
  window = x.readings;
}

value-fits : (x : Option ℕ) → T (fits binary64 (value_of x))
value-fits none = nan-fits binary64
value-fits (some b) = of_bits-fits binary64 b

or-nan-fits : {A : Type 0} (u : Option A) (x : Float) → T (fits binary64 x) → T (fits binary64 (or_nan u x))
or-nan-fits none x f = nan-fits binary64
or-nan-fits (some u) x f = f

back : (s : List Reading) (w r t : ℤ) → from_record_bits (record_bits (record_at s w r t)) ≡ record_at s w r t
back s w r t =
    let f = value-fits (bits_of (earlier s w t)) in
    cc (
      of_bits-to_bits binary64 (value_of (bits_of (earlier s w t))) f,
      of_bits-to_bits binary64 (or_nan (predecessor s w r t) (value_of (bits_of (earlier s w t)))) (or-nan-fits (predecessor s w r t) _ f),
      of_bits-to_bits binary64 (value_of (bits_of (next s w t))) (value-fits (bits_of (next s w t))),
    )

same_bits : (a b : List Reading) (w r t w' r' t' : ℤ) → record_bits (record_at a w r t) ≡ record_bits (record_at b w' r' t') → record_at a w r t ≡ record_at b w' r' t'
same_bits a b w r t w' r' t' e = sym (back a w r t) ∙ ap from_record_bits e ∙ back b w' r' t'

-- ---- equal records and agreement

-- Run and settled run hand the rollup equal records for both at t exactly when the two series agree.
pub records-agree : (a b : List Reading) → Prepared a → Prepared b → NoNan a → NoNan b → (w r t : ℤ) → settled_row8 w r ≡ Ok tt
    → record_bits (record_at a w r t) ≡ record_bits (record_at b w r t) ↔ Agree a b w r t
records-agree a b pa pb na nb w r t row8 =
    let h = window-positive w r row8 in (
      λ e. records-give-agreement a b w r t h (prepared-numbers a pa na) (prepared-numbers b pb nb) (same_bits a b w r t w r t e),
      λ g. ap record_bits (agreement-gives-records a b w r t h g),
    )

-- For the rollups that see marks, which are handed a series as it is, agreement gives equal records, whatever marks it has.
pub seen-agreement-gives-records : (a b : List Reading) → Seen a → Seen b → (w r t : ℤ) → settled_row8 w r ≡ Ok tt → Agree a b w r t
    → record_bits (record_at a w r t) ≡ record_bits (record_at b w r t)
seen-agreement-gives-records a b sa sb w r t row8 g = ap record_bits (agreement-gives-records a b w r t (window-positive w r row8) g)

-- And without marks equal records show agreement there, too.
pub seen-records-agree : (a b : List Reading) → (sa : Seen a) → (sb : Seen b) → Unmarked sa.values → Unmarked sb.values → (w r t : ℤ) → settled_row8 w r ≡ Ok tt
    → record_bits (record_at a w r t) ≡ record_bits (record_at b w r t) ↔ Agree a b w r t
seen-records-agree a b sa sb ua ub w r t row8 =
    let h = window-positive w r row8 in (
      λ e. records-give-agreement a b w r t h (seen-numbers a sa ua) (seen-numbers b sb ub) (same_bits a b w r t w r t e),
      λ g. ap record_bits (agreement-gives-records a b w r t h g),
    )

-- Equal records give the same rollup answers of the same bits, whichever the rollup.
pub equal-records-equal-answers : (h : RollupHandler) (a b : List Reading) (w r t w' r' t' : ℤ) → record_bits (record_at a w r t) ≡ record_bits (record_at b w' r' t')
    → answer h (record_at a w r t) ≡ answer h (record_at b w' r' t')
equal-records-equal-answers h a b w r t w' r' t' e = ap (answer h) (same_bits a b w r t w' r' t' e)
