-- A test, either way. Assumes nothing.
use Rattle.std.proofs.Common.{◌≡◌, Bool, true, false, refl}

pub by-test {ℓ} : {P : Type ℓ} (b : Bool) → (b ≡ true → P) → (b ≡ false → P) → P
by-test true y n = y refl
by-test false y n = n refl
