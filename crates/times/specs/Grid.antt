-- The grid of output times: start, start + step, and so on, not past end.
-- proofs/GridLaws.antt shows that each lies in start..end, that they rise by step, and that the one after the last is past end.
-- Assumes nothing.
use Rattle.std.specs.Prelude.{true, List, [], ◌∷◌, ◌≡◌, refl, ℕ, zero, suc, ◌+◌, ◌/◌, ◌<◌, ℤ, pos, negsuc, nat_abs, ◌+ℤ◌, ◌-ℤ◌, ◌*ℤ◌}
use Rattle.std.specs.Int.Signed.{le_z}
use Rattle.times.specs.Milli.{time_limit, Within}

-- what rows 6 and 7 let pass
pub record Spans (start end step : ℤ) : Type 0 where
  pub start_within : Within time_limit start
  pub end_within : Within time_limit end
  pub ordered : le_z start end ≡ true
  pub step_positive : le_z (pos 1) step ≡ true
  pub step_within : Within time_limit step

-- how many output times there are
unfoldable pub grid_size : ℤ → ℤ → ℤ → ℕ
grid_size start end step = nat_abs (end -ℤ start) / nat_abs step + 1

-- the output time at index k
unfoldable pub time_at : ℤ → ℤ → ℕ → ℤ
time_at start step k = start +ℤ pos k *ℤ step

-- n times from start on, a step apart
unfoldable pub grid_from : ℤ → ℤ → ℕ → List ℤ
grid_from start step zero = []
grid_from start step (suc n) = start ∷ grid_from (start +ℤ step) step n

-- the output times
abbrev pub grid : ℤ → ℤ → ℤ → List ℤ
grid start end step = grid_from start step (grid_size start end step)

-- k is an index of the grid from start to some end
pub record OnGrid (start step : ℤ) (k : ℕ) : Type 0 where
  pub end : ℤ
  pub spans : Spans start end step
  pub below : k < grid_size start end step

-- start 0, end 10, step 1 has 11 times
eleven : grid_size (pos 0) (pos 10) (pos 1) ≡ 11
unfolding grid_size
eleven = refl

-- −5 to 5 by 3: the last time is 4
not-past-end : grid (negsuc 4) (pos 5) (pos 3) ≡ negsuc 4 ∷ negsuc 1 ∷ pos 1 ∷ pos 4 ∷ []
unfolding grid_size grid_from
not-past-end = refl
