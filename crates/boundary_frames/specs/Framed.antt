-- What crosses the boundary of a frame: numbers, one by one.
use Rattle.std.specs.Prelude.{ℕ}
use Rattle.frame.specs.declared.Numbers as frame

-- The numbers of a reading of a frame, by their parts.
abbrev pub framed : ℕ → ℕ → ℕ → ℕ → ℕ → ℕ → ℕ → frame.Numbers
framed number place page n l seed offset =
    record { number = number; place = place; page = page; n = n; l = l; seed = seed; offset = offset }
