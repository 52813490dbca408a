-- A reader stops where a reader inside it does.
use Rattle.std.proofs.Common.{◌≡◌, ℕ, Result, Err}
use Rattle.sfv_read.specs.declared.error.PartError.{PartError}
use Rattle.sfv_read.specs.declared.error.PartError.TheVariants.{Memory, At}
use Rattle.sfv_read.specs.tools.Gives.{Stops}

pub stops_more : {A B : Type 0} (e : PartError) (r : Result A ℕ) (s : Result B ℕ) → ((n : ℕ) → r ≡ Err n → s ≡ Err n) → Stops e r → Stops e s
stops_more Memory r s more h = tt
stops_more (At n) r s more h = more n h
