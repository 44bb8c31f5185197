-- A piece passes the rows of the series as its call does; its times lie in the call's span, its grid is a stretch of the call's, and what a call goes by
-- lies in the ranges of a settled run. So only the rows on slices are left to refuse it.
-- Assumes nothing.
use mathlib.Core.Logic.{inl, inr}
use mathlib.Core.Path.{◌≡◌, refl, sym, ap, ◌∙◌}
use mathlib.Core.Bool.{Bool, true, false, ◌||◌, ◌&&◌, not, true≢false}
use mathlib.Core.List.{List, [], ◌∷◌}
use Prim.Native.Nat.{ℕ, ◌+◌, ◌-◌, ◌*◌, ◌≤◌, ◌<◌}
use native.Mathlib.Omega.{arith}
use borrow.Author.Tests.{le-leb, le-ltb}
use lib.Dec.{ltb}
use lib.IntN.{ℤ, pos, negsuc, neg_ℤ, nat_abs}
use lib.ListN.{length, take, drop, get_or, length-take, length-drop}
use lib.Signed.{le_z}
use Rattle.settings.specs.Rows.{max_grid_points, outside, row6, row7, row11, settled_row8, settled_row9, settled_settings, span_outside}
use Rattle.run.proofs.Passed.{run_sound, settled-sound}
use Rattle.marks.specs.Marks.{marked_checked}
use Rattle.run.proofs.Kept.{kept-times-accepted}
use Rattle.run.specs.Run.{Lent, Plan, call_checked, kept, lent_checked, planned, room_checked, row12, row14, row19}
use Rattle.settings.specs.declared.SettledConfig.{SettledConfig}
use Rattle.series.specs.Refusals.{first_refusal, refused_if}
use Rattle.series.specs.Rows.{row13}
use Rattle.series.specs.Refusals.{Checked}
use Rattle.std.specs.Prelude.{Ok, Err}
use Rattle.series.specs.declared.refusal.Refusal.{Refusal}
use Rattle.series.specs.declared.refusal.Refusal.TheVariants.{OutputShort, PreparedShort, WorkShort}
use Rattle.series.proofs.Accepted.{AllAccept}
use Rattle.times.specs.Grid.{Spans, grid_from, grid_size, time_at}
use Rattle.times.specs.Milli.{time_limit, Within}
use Rattle.times.proofs.GridLaws.{grid-at, grid-cut, grid-length, spans-cut}
use Rattle.times.proofs.Milli.{within-test}
use Rattle.times.proofs.Order.{lt_not_le}
use Rattle.claims.specs.Calls.{Call, Settings, run, settled, checked, plan, plan_by, returned}
use Rattle.claims.specs.Piece.{OnlySlices, Room, piece, step_of}
use Rattle.claims.proofs.Calls.{rows-accept, settings_rows}

abbrev start_of : Settings → ℤ
start_of (run rc) = rc.start
start_of (settled sc) = sc.start

abbrev end_of : Settings → ℤ
end_of (run rc) = rc.end
end_of (settled sc) = sc.end

-- what the rows on settings leave of an accepted call
record SoundCall (s : Settings) (p : Plan) : Type 0 where
  span : Spans (start_of s) (end_of s) (step_of s)
  grid : p.outputs ≡ grid_from (start_of s) (step_of s) (grid_size (start_of s) (end_of s) (step_of s))
  eight : settled_row8 p.window p.reach ≡ Ok tt
  nine : settled_row9 p.per_call ≡ Ok tt
  few : grid_size (start_of s) (end_of s) (step_of s) ≤ max_grid_points

sound : (c : Call) → checked c ≡ Ok tt → SoundCall c.settings (plan c)
sound c ok = go c.settings (rows-accept c ok).1.0
  where
    go : (s : Settings) → settings_rows s ≡ Ok tt → SoundCall s (plan_by c s)
    go (run rc) e =
        let times = kept-times-accepted c.times c.values (rows-accept c ok).0 c.handler in
        let r = run_sound (kept c.handler c.times c.values).times rc times e in record { span = r.span; grid = refl; eight = r.eight; nine = r.nine; few = r.few }
    go (settled sc) e = let r = settled-sound sc e in record { span = r.span; grid = refl; eight = r.eight; nine = r.nine; few = r.few }

-- ---- rows 6 and 7 let pass what they are known to

within-outside : (t : ℤ) → Within time_limit t → outside (neg_ℤ (pos time_limit)) (pos time_limit) t ≡ false
unfolding outside
within-outside t w = rw (lt_not_le t (neg_ℤ (pos time_limit)), lt_not_le (pos time_limit) t) (go (le_z (neg_ℤ (pos time_limit)) t) (le_z t (pos time_limit)) (sym (within-test time_limit t) ∙ le-leb (nat_abs t) time_limit w.size))
  where
    go : (a b : Bool) → (a && b) ≡ true → not a || not b ≡ false
    go true true e = refl
    go true false e = absurd (true≢false (sym e))
    go false b e = absurd (true≢false (sym e))

span-passes : {start end step : ℤ} → Spans start end step → row7 start end ≡ Ok tt
unfolding span_outside
span-passes {start} {end} s =
    rw (within-outside start s.start_within, within-outside end s.end_within, lt_not_le end start, s.ordered)

step-passes : (step : ℤ) → le_z (pos 1) step ≡ true → Within time_limit step → row6 step ≡ Ok tt
unfolding outside
step-passes (pos n) h w = rw (lt_not_le (pos n) (pos 1), h, le-ltb time_limit n w.size)
step-passes (negsuc n) h w = absurd (true≢false (sym h))

-- ---- the rows on slices

refused-not : {r : Refusal} → ◌≡◌ {A = Checked} (Err r) (Ok tt) → ⊥
refused-not e = let clash : ◌≡◌ {A = ℕ} 0 1 = cc in omega arith

-- where the others accept
slices-only : (x y z : Checked) (d p r w : Bool) (q : Plan) (l : Lent) → x ≡ Ok tt → y ≡ Ok tt → z ≡ Ok tt
    → OnlySlices (planned (first_refusal (x ∷ y ∷ first_refusal (refused_if d OutputShort ∷ refused_if p PreparedShort ∷ refused_if r PreparedShort ∷ refused_if w WorkShort ∷ []) ∷ z ∷ [])) q l).answer
slices-only (Err o) y z d p r w q l e f g = absurd (refused-not e)
slices-only (Ok _) (Err o) z d p r w q l e f g = absurd (refused-not f)
slices-only (Ok _) (Ok _) z true p r w q l e f g = inr (omega arith, omega arith)
slices-only (Ok _) (Ok _) z false true r w q l e f g = inr (omega arith, omega arith)
slices-only (Ok _) (Ok _) z false false true w q l e f g = inr (omega arith, omega arith)
slices-only (Ok _) (Ok _) z false false false true q l e f g = inr (omega arith, omega arith)
slices-only (Ok _) (Ok _) (Err o) false false false false q l e f g = absurd (refused-not g)
slices-only (Ok _) (Ok _) (Ok _) false false false false q l e f g = inl refl

pub all-accepted : (rows : List Checked) → AllAccept rows → first_refusal rows ≡ Ok tt
all-accepted [] a = refl
all-accepted (r ∷ rows) a = rw a.0 (all-accepted rows a.1)

module _ (c : Call) (ok : checked c ≡ Ok tt) (a b : ℕ) (order : a ≤ b) (inside : b < length (plan c).outputs) where
  abbrev step : ℤ
  step = step_of c.settings

  abbrev from : ℤ
  from = get_or (plan c).outputs a (pos 0)

  abbrev to : ℤ
  to = get_or (plan c).outputs b (pos 0)

  abbrev start : ℤ
  start = start_of c.settings

  below : b < grid_size start (end_of c.settings) step
  below = let s = sound c ok in rw (s.grid, grid-length start step (grid_size start (end_of c.settings) step)) at inside

  at-index : (k : ℕ) → k ≤ b → get_or (plan c).outputs k (pos 0) ≡ time_at start step k
  at-index k h =
      ap (λ (ts : List ℤ). get_or ts k (pos 0)) (sound c ok).grid ∙ grid-at start step (grid_size start (end_of c.settings) step) k (omega (arith, below))

  -- a piece's output times are the call's from index a to index b
  pub piece-times : (l : Lent) → (plan (piece c a b l)).outputs ≡ take (b - a + 1) (drop a (plan c).outputs)
  piece-times l = let s = sound c ok in rw (at-index a order, at-index b (omega arith), s.grid) (grid-cut s.span a b order below)

  piece-size : grid_size from to step ≡ b - a + 1
  piece-size =
      sym (grid-length from step (grid_size from to step))
      ∙ ap length (piece-times c.lent)
      ∙ simp (length-take, length-drop) (omega (arith, inside))

  abbrev stretch : SettledConfig
  stretch = record { start = from; end = to; step = step; window = (plan c).window; reach = (plan c).reach; samples_scanned_per_call = (plan c).per_call }

  piece-settings : settled_settings stretch ≡ Ok tt
  unfolding settled_settings
  piece-settings =
      let s = sound c ok in
      all-accepted
      (row6 step ∷ row7 from to ∷ settled_row8 (plan c).window (plan c).reach ∷ settled_row9 (plan c).per_call ∷ row11 from to step ∷ []) (
        step-passes step s.span.step_positive s.span.step_within,
        (
          rw (at-index a order, at-index b (omega arith)) (span-passes (spans-cut s.span a b order below)),
          (s.eight, (s.nine, (rw (piece-size, le-ltb max_grid_points (b - a + 1) (omega (arith, s.few, below))), tt))),
        ),
      )

  -- A settled run with the series, choices, window, reach and step of an accepted run or settled run, from one time of the grid to the same or a later one,
  -- is refused by no row but 12 to 14.
  pub piece-accepted : (l : Lent) → OnlySlices (returned (piece c a b l)).answer
  unfolding call_checked room_checked
  piece-accepted l =
      slices-only (marked_checked c.times c.values) (settled_settings stretch) (row19 c.handler c.pre)
      (ltb (length l.dst) (grid_size from to step)) (ltb (length l.prepared) (length c.values)) (ltb (length l.remaining) (length c.values)) (ltb (length l.work) (2 * length c.values))
      (plan (piece c a b l)) l (rows-accept c ok).0 piece-settings (rows-accept c ok).1.1.1.0

  -- with slices that have the room, it is accepted
  pub piece-with-room : (l : Lent) → Room (length c.values) (b - a + 1) l → checked (piece c a b l) ≡ Ok tt
  unfolding call_checked room_checked
  piece-with-room l r =
      let n = length c.values in
      let m = grid_size from to step in
      let dst : row12 m (length l.dst) ≡ Ok tt = rw (le-ltb (length l.dst) m (omega (arith, piece-size, r.dst))) in
      let prepared : row13 n (length l.prepared) ≡ Ok tt = rw (le-ltb (length l.prepared) n r.prepared) in
      let remaining : row13 n (length l.remaining) ≡ Ok tt = rw (le-ltb (length l.remaining) n r.remaining) in
      let work : row14 n (length l.work) ≡ Ok tt = rw (le-ltb (length l.work) (2 * n) r.work) in
      let slices : lent_checked n m l ≡ Ok tt =
      all-accepted (row12 m (length l.dst) ∷ row13 n (length l.prepared) ∷ row13 n (length l.remaining) ∷ row14 n (length l.work) ∷ []) (dst, (prepared, (remaining, (work, tt)))) in
      all-accepted
      (marked_checked c.times c.values ∷ settled_settings stretch ∷ lent_checked n m l ∷ row19 c.handler c.pre ∷ [])
      ((rows-accept c ok).0, (piece-settings, (slices, ((rows-accept c ok).1.1.1.0, tt))))
