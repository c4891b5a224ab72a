-- What the private steps ask for and give: rows of w bytes, at the front of vectors of 80 bytes.
use Rattle.std.specs.Prelude.{◌≡◌, ℕ, ◌-◌, ◌^◌, ◌≤◌, List, ◌++◌, length, replicate}
use Rattle.octets.specs.Octets.{bytes}
use Rattle.entering.specs.Enter.{slot_bytes}

-- A row has 8 to 40 bytes; there is work for one vector, and there are the slots.
pub record Ready (w : ℕ) (work slots : List ℕ) : Type 0 where
  pub least : 8 ≤ w
  pub most : w ≤ 40
  pub one : length work ≡ 80
  pub all : length slots ≡ slot_bytes

-- The bytes of the row (2^k, 0) in a vector of w bytes.
abbrev pub unit_of : ℕ → ℕ → List ℕ
unit_of w k = bytes 8 (2 ^ k) ++ replicate (w - 8) 0
