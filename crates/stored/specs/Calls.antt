-- Calls on a store, one after the other; and beside them an account of what was opened last, and of the rows accepted since. Document 02, wish 5: "After
-- any frames, its answer equals a fresh reading of the rows accepted so far, and a refused frame leaves the store unchanged. Opening again forgets
-- everything."
use Rattle.std.specs.Prelude.{ℕ, ◌^◌, ◌<◌, cond, List, [], ◌∷◌, map, replicate}
use Rattle.space.specs.Lists.{Below}
use Rattle.rows.specs.Rows.{shape}
use Rattle.reading.specs.Outcome.{Lent}
use Rattle.crossing.specs.Held.{Held, blank, offered, list_held}
use Rattle.crossing.specs.Caught.{Caught, own, other}
use Rattle.store.specs.Store.{list_room}
use Rattle.opening.specs.Opening.{opened_store}
use Rattle.offering.specs.Offering.{offered_store}

-- Opening for a page number, n and L; offering a frame; asking, with what is lent for it.
pub data Call : Type 0 where
  opening : ℕ → ℕ → ℕ → Call
  offering : List ℕ → Call
  asking : Lent → Call

-- Frames offered one after the other.
abbrev pub offerings : List (List ℕ) → List Call
offerings frames = map offering frames

-- A page number has four bytes, and a frame is bytes.
abbrev pub IsCall : Call → Type 0
IsCall (opening page n l) = page < 2 ^ 32
IsCall (offering frame) = Below 256 frame
IsCall (asking lent) = Unit {0}

abbrev pub AreCalls : List Call → Type 0
AreCalls [] = Unit {0}
AreCalls (call ∷ calls) = IsCall call × AreCalls calls

-- Of frames that a camera catches while a page is shown, those that are not the page's own are bytes.
abbrev pub OthersBytes : {A : Type 0} → List (Caught A) → Type 0
OthersBytes [] = Unit {0}
OthersBytes (own a ∷ caught) = OthersBytes caught
OthersBytes (other frame ∷ caught) = Below 256 frame × OthersBytes caught

-- ---- the store afterwards

-- "Asking .. leaves the store."
unfoldable pub after : Call → List ℕ → List ℕ
after (opening page n l) store = opened_store page n l store
after (offering frame) store = offered_store frame store
after (asking lent) store = store

unfoldable pub after_all : List Call → List ℕ → List ℕ
after_all [] store = store
after_all (call ∷ calls) store = after_all calls (after call store)

-- ---- the account

-- The page that was opened last, and what a phone holds that takes its frames.
pub record Account : Type 0 where
  pub page : ℕ
  pub n : ℕ
  pub l : ℕ
  pub held : Held

abbrev pub opened : ℕ → ℕ → ℕ → Account
opened page n l = record { page = page; n = n; l = l; held = blank (replicate list_room 0) }

-- An opening that is refused forgets nothing; a frame is laid behind the rows held, or refused, as in laying.
unfoldable pub next : Call → Account → Account
next (opening page n l) s = cond (shape n l) (opened page n l) s
next (offering frame) s = record { page = s.page; n = s.n; l = s.l; held = offered s.page s.n s.l frame s.held }
next (asking lent) s = s

unfoldable pub next_all : List Call → Account → Account
next_all [] s = s
next_all (call ∷ calls) s = next_all calls (next call s)

-- "the rows accepted so far", as a list.
unfoldable pub accepted : Account → List ℕ
accepted s = list_held s.l s.held
