-- Whether there is room for a second reading.
use Rattle.std.specs.Prelude.{ℕ, Bool, true, false, leb, Result, Ok, Err}
use Rattle.gate.specs.declared.Refusal.{Refusal}
use Rattle.gate.specs.declared.Refusal.TheVariants as refusals

-- Of what the checks 1 to 3 say of the second buffers: whether there is room for a second reading and its list, or 1 or 2 comes first.
unfoldable pub fits_too : Result (Unit {0}) Refusal → ℕ → ℕ → Bool
fits_too (Ok _) list list₂ = leb list list₂
fits_too (Err refusals.Shape) list list₂ = true
fits_too (Err refusals.List) list list₂ = true
fits_too (Err refusals.Room) list list₂ = false
