-- Consecutive stretches of a grid, however it is split, are a cut: their output times joined are what is left of the grid from the first one on.
-- Assumes nothing.
use mathlib.Core.Path.{◌≡◌, refl, sym, ap, ◌∙◌}
use mathlib.Core.List.{List, [], ◌∷◌}
use Prim.Native.Nat.{ℕ, ◌+◌, ◌-◌, ◌≤◌, ◌<◌}
use native.Mathlib.Omega.{arith}
use lib.IntN.{ℤ}
use lib.ListN.{length, take, drop, take-append-drop}
use lib.Seq.{drop-drop, drop-length}
use Rattle.run.specs.Run.{Lent}
use Rattle.std.specs.Prelude.{Ok}
use Rattle.claims.specs.Calls.{Call, Settings, run, settled, checked, output_times, plan, plan_by}
use Rattle.claims.specs.Cut.{AcceptedAlike, Alike, Cut, joined}
use Rattle.claims.specs.Piece.{Roomy, Stretch, piece, spanned, stretched}
use Rattle.claims.proofs.Calls.{accepted-times}
use Rattle.claims.proofs.Piece.{piece-times, piece-with-room}

-- a piece goes by its call's series, choices, window and reach
piece-alike : (c : Call) (a b : ℕ) (l : Lent) → Alike (plan (piece c a b l)) (plan c)
piece-alike c a b l = go c.settings
  where
    go : (s : Settings) → Alike (plan (piece (record { times = c.times; values = c.values; pre = c.pre; handler = c.handler; settings = s; lent = c.lent }) a b l)) (plan_by c s)
    go (run rc) = record { times = refl; values = refl; pre = refl; handler = refl; per_call = refl; window = refl; reach = refl }
    go (settled sc) = record { times = refl; values = refl; pre = refl; handler = refl; per_call = refl; window = refl; reach = refl }

module _ (c : Call) (ok : checked c ≡ Ok tt) where
  abbrev outputs : List ℤ
  outputs = (plan c).outputs

  all_alike : (a : ℕ) (ps : List Stretch) → AcceptedAlike (plan c) (stretched c a ps)
  unfolding stretched
  all_alike a [] = tt
  all_alike a (p ∷ ps) = (λ e. piece-alike c a (a + p.more) p.lent, all_alike (a + p.more + 1) ps)

  -- from index a on
  times-left : (a : ℕ) (ps : List Stretch) → a + spanned ps ≡ length outputs → Roomy c ps → joined output_times (stretched c a ps) ≡ drop a outputs
  unfolding joined stretched spanned
  times-left a [] e r = let all : a ≡ length outputs = omega arith in rw all (sym (drop-length outputs))
  times-left a (p ∷ ps) e r =
      let b = a + p.more in
      let order : a ≤ b = omega arith in
      let inside : b < length outputs = omega arith in
      let size : b - a + 1 ≡ p.more + 1 = omega arith in
      let room = rw (← size) at r.0 in
      let first : output_times (piece c a b p.lent) ≡ take (b - a + 1) (drop a outputs) =
      accepted-times (piece c a b p.lent) (piece-with-room c ok a b order inside p.lent room) ∙ piece-times c ok a b order inside p.lent in
      let rest : joined output_times (stretched c (b + 1) ps) ≡ drop (b - a + 1) (drop a outputs) =
      let past : a + (b - a + 1) ≡ b + 1 = omega arith in
      times-left (b + 1) ps (omega arith) r.1 ∙ sym (drop-drop (b - a + 1) a outputs ∙ ap (λ (k : ℕ). drop k outputs) past) in
      rw (first, rest) (take-append-drop (b - a + 1) (drop a outputs))

  -- However the grid of an accepted call is split into consecutive stretches, their pieces are a cut of the call, if their slices have the room.
  pub stretches-cut : (ps : List Stretch) → spanned ps ≡ length outputs → Roomy c ps → Cut c (stretched c 0 ps)
  stretches-cut ps e r = record { alike = all_alike 0 ps; times = times-left 0 ps (omega arith) r ∙ sym (accepted-times c ok) }
