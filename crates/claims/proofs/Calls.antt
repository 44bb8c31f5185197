-- What holds of a call of run and of settled run alike, by its settings' two cases.
-- Assumes nothing.
use mathlib.Core.Path.{◌≡◌, refl, sym, ◌∙◌}
use mathlib.Core.List.{List, [], ◌∷◌}
use Prim.Native.Nat.{ℕ, ◌<◌}
use native.Mathlib.Omega.{arith}
use lib.ListN.{length}
use Rattle.settings.specs.Rows.{settings_checked, settled_settings}
use Rattle.series.specs.Refusals.{first_refusal}
use Rattle.series.specs.Refusals.{Checked}
use Rattle.std.specs.Prelude.{Ok}
use Rattle.series.proofs.Accepted.{AllAccept, all-accept}
use Rattle.times.specs.Grid.{grid_size}
use Rattle.times.proofs.GridLaws.{grid-length}
use Rattle.times.proofs.Readings.{zip_length}
use Rattle.record.specs.Record.{reading}
use Rattle.marks.specs.Marks.{marked_checked}
use Rattle.run.proofs.Kept.{kept-size}
use Rattle.run.specs.Run.{call_checked, kept, kept_bits, lent_checked, planned, prepared_series, row19}
use Rattle.claims.specs.Calls.{Call, Settings, run, settled, accepted, checked, checked_by, output_times, plan, plan_by, returned, returned_by, samples}

-- rows 6 to 11 of each call
abbrev pub settings_rows : Settings → Checked
settings_rows (run rc) = settings_checked rc
settings_rows (settled sc) = settled_settings sc

abbrev pub points : Settings → ℕ
points (run rc) = grid_size rc.start rc.end rc.step
points (settled sc) = grid_size sc.start sc.end sc.step

abbrev pub rows_by : Call → Settings → List Checked
rows_by c s = marked_checked c.times c.values ∷ settings_rows s ∷ lent_checked (length c.values) (points s) c.lent ∷ row19 c.handler c.pre ∷ []

module _ (c : Call) where
  pub checked-is : checked c ≡ first_refusal (rows_by c c.settings)
  unfolding call_checked
  checked-is = go c.settings
    where
      go : (s : Settings) → checked_by c s ≡ first_refusal (rows_by c s)
      go (run rc) = refl
      go (settled sc) = refl

  pub returned-is : returned c ≡ planned (checked c) (plan c) c.lent
  returned-is = go c.settings
    where
      go : (s : Settings) → returned_by c s ≡ planned (checked_by c s) (plan_by c s) c.lent
      go (run rc) = refl
      go (settled sc) = refl

  module _ (ok : checked c ≡ Ok tt) where
    pub accepted-call : accepted c ≡ 1
    accepted-call = rw (returned-is, ok)

    pub accepted-times : output_times c ≡ (plan c).outputs
    accepted-times = rw (returned-is, ok)

    -- the rows on the series, on the settings and on the slices accept
    pub rows-accept : AllAccept (rows_by c c.settings)
    rows-accept = all-accept (rows_by c c.settings) (sym checked-is ∙ ok)

    pub prepared-samples : length (prepared_series (plan c)) ≡ samples c
    prepared-samples = go c.settings
      where
        same : length (kept c.handler c.times c.values).times ≡ length (kept_bits c.pre c.handler c.times c.values)
        same = sym (kept-size c.times c.values rows-accept.0 c.handler c.pre)

        go : (s : Settings) → length (prepared_series (plan_by c s)) ≡ samples c
        go (run rc) = zip_length reading (kept c.handler c.times c.values).times _ same
        go (settled sc) = zip_length reading (kept c.handler c.times c.values).times _ same

    -- a grid has an output time
    pub some-outputs : 0 < length (output_times c)
    unfolding grid_size
    some-outputs = rw (returned-is, ok) (go c.settings)
      where
        go : (s : Settings) → 0 < length (plan_by c s).outputs
        go (run rc) = rw grid-length (omega arith)
        go (settled sc) = rw grid-length (omega arith)
