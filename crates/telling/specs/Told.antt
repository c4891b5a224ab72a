-- Number and place of an answer of laying, side by side.
use Rattle.std.specs.Prelude.{ℕ, Result}
use Rattle.laying.specs.declared.Refusal.{Refusal}
use Rattle.laying.specs.Laying.{number_of, place_of}
use Rattle.telling.specs.declared.Told.{Told}

abbrev pub told : ℕ → ℕ → Told
told number place = record { number = number; place = place }

abbrev pub told_by : Result Unit Refusal → Told
told_by a = told (number_of a) (place_of a)
