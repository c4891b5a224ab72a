-- What a camera catches while a page is shown: frames of the page, and any others before, between and behind them.
use Rattle.std.specs.Prelude.{ℕ, ◌^◌, ◌<◌, ◌≡◌, Bool, false, ◌&&◌, List, [], ◌∷◌, map}
use Rattle.rows.specs.Rows.{symbols, made, entered}
use Rattle.draw.specs.Draw as draw
use Rattle.frame.specs.Reading.{reading}
use Rattle.frame.specs.Numbers.{is_good}
use Rattle.laying.specs.Laying.{same_page}

-- A frame of the page, told by what makes it (a seed, say), or another one, told by its bytes.
pub data Caught (A : Type 0) : Type 0 where
  own : A → Caught A
  other : List ℕ → Caught A

-- The frames as they came, with what makes each of the page's own.
unfoldable pub frames_of : {A : Type 0} → (A → List ℕ) → List (Caught A) → List (List ℕ)
frames_of make [] = []
frames_of make (own a ∷ caught) = make a ∷ frames_of make caught
frames_of make (other frame ∷ caught) = frame ∷ frames_of make caught

-- The page's own, in order.
unfoldable pub own_of : {A : Type 0} → List (Caught A) → List A
own_of [] = []
own_of (own a ∷ caught) = a ∷ own_of caught
own_of (other frame ∷ caught) = own_of caught

-- Whether a frame reads as a good one of a page: of its number, n and L.
unfoldable pub of_page : ℕ → ℕ → ℕ → List ℕ → Bool
of_page number n l frame = is_good (reading frame) && same_page (reading frame) number n l

-- Of the page's own frames something is asked; each of the others breaks the layout, or is a good frame of another page number or shape.
abbrev pub Mixed : {A : Type 0} → ℕ → ℕ → ℕ → (A → Type 0) → List (Caught A) → Type 0
Mixed number n l Right [] = Unit {0}
Mixed number n l Right (own a ∷ caught) = Right a × Mixed number n l Right caught
Mixed number n l Right (other frame ∷ caught) = (of_page number n l frame ≡ false) × Mixed number n l Right caught

-- A seed has four bytes.
abbrev pub IsSeed : ℕ → Type 0
IsSeed seed = seed < 2 ^ 32

-- The rows that a page gives for seeds, and the entries that these are in a list.
abbrev pub row_for : ℕ → ℕ → List ℕ → ℕ → ℕ
row_for n l page seed = made l (symbols n l page) (draw.constraint n seed)

unfoldable pub rows_for : ℕ → ℕ → List ℕ → List ℕ → List ℕ
rows_for n l page seeds = map (row_for n l page) seeds

unfoldable pub entries_for : ℕ → ℕ → List ℕ → List ℕ → List ℕ
entries_for n l page seeds = map (λ seed. entered l seed (row_for n l page seed)) seeds
