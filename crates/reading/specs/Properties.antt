-- What document 01 says of the pick and of the page, as properties of any choice of rows and of any page. That the pick and the page of
-- `Reading` have them, and no others do, is proved.
use Rattle.std.specs.Prelude.{ℕ, ◌*◌, ◌^◌, ◌<◌, ◌≡◌, Bool, not, length}
use mathlib.Core.List.{List, map, Memᴰ}
use Rattle.space.specs.Lists.{select, marked, All, Below}
use Rattle.rows.specs.Rows.{agrees}

-- A choice of n kept rows, of whose uses "the smallest use inside the pick is greater than the largest outside."
pub record Most (n : ℕ) (us : List ℕ) (pick : List Bool) : Type 0 where
  pub size : length pick ≡ length us
  pub number : marked pick ≡ n
  pub above : (x y : ℕ) → Memᴰ x (select pick us) → Memᴰ y (select (map not pick) us) → y < x

-- A page of n symbols of l bytes "that every picked row agrees with."
pub record Agreed (n l : ℕ) (rows page : List ℕ) : Type 0 where
  pub size : length page ≡ n
  pub symbols : Below (2 ^ (8 * l)) page
  pub all : All (agrees l page) rows
