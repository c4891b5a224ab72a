-- Offering a frame to a store. Document 02, wish 5: "an offer, with places as in laying, gives 3, 10 .., 11 to 16, then 2 at the 513th row"; "a refused
-- frame leaves the store unchanged".
use Rattle.std.specs.Prelude.{ℕ, ◌*◌, Result, Ok, Err, List}
use Rattle.rows.specs.Rows.{list_row_bytes}
use Rattle.laying.specs.declared.Refusal as laid
use Rattle.laying.specs.Laying as laying
use Rattle.store.specs.declared.Head.{Head}
use Rattle.store.specs.declared.Refusal as header
use Rattle.store.specs.Store.{list_in, with_list}
use Rattle.store.specs.Header as store-header
use Rattle.store.specs.Header.{header_of}
use Rattle.newest.specs.Newest.{newest_taken}
use Rattle.offering.specs.declared.Refusal.{Refusal}
use Rattle.offering.specs.declared.Refusal.TheVariants.{Store, Laying}

-- Document 02's number and place for each answer.
unfoldable pub number_of : Result Unit Refusal → ℕ
number_of (Ok done) = 0
number_of (Err (Store e)) = store-header.number_of e
number_of (Err (Laying e)) = laying.number_of (Err e)

unfoldable pub place_of : Result Unit Refusal → ℕ
place_of (Ok done) = 0
place_of (Err (Store e)) = 0
place_of (Err (Laying e)) = laying.place_of (Err e)

-- ---- the frame is laid into the store's list, behind the rows that are there

unfoldable pub laid_in : List ℕ → Head → List ℕ → Result Unit laid.Refusal
laid_in frame h store = laying.laid frame h.page h.n h.l h.rows (list_in store)

unfoldable pub laid_store : List ℕ → Head → List ℕ → List ℕ
laid_store frame h store = with_list (laying.list_after (laid_in frame h store) (list_row_bytes h.l * h.rows) (laying.frame_entry frame) (list_in store)) store

-- ---- the answer, and the store afterwards

-- What laying answers, as the answer of an offer.
unfoldable pub of_laying : Result Unit laid.Refusal → Result Unit Refusal
of_laying (Ok done) = Ok done
of_laying (Err e) = Err (Laying e)

unfoldable pub answer_by : Result Head header.Refusal → List ℕ → List ℕ → Result Unit Refusal
answer_by (Err e) frame store = Err (Store e)
answer_by (Ok h) frame store = of_laying (laid_in frame h store)

unfoldable pub offer_answer : List ℕ → List ℕ → Result Unit Refusal
offer_answer frame store = answer_by (header_of store) frame store

-- A row that was laid is taken in.
unfoldable pub taken_after : Result Unit laid.Refusal → List ℕ → List ℕ
taken_after (Ok done) store = newest_taken store
taken_after (Err e) store = store

unfoldable pub after_by : Result Head header.Refusal → List ℕ → List ℕ → List ℕ
after_by (Err e) frame store = store
after_by (Ok h) frame store = taken_after (laid_in frame h store) (laid_store frame h store)

unfoldable pub offered_store : List ℕ → List ℕ → List ℕ
offered_store frame store = after_by (header_of store) frame store
