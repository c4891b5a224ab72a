-- Where everything lies in a store. Document 02, wish 5: "a store in one lent buffer of 65,536 bytes .. that holds the rows, kept rows, their eliminated
-- forms, uses and rank". From byte 0 on stands the header; from byte 16 on the rows, as a list; from byte 32,768 on the working, which is the state of an
-- elimination of these rows.
use Rattle.std.specs.Prelude.{ℕ, Bool, cond, List, leb, length, take, drop, get_or}
use Rattle.octets.specs.Octets.{lay}
use Rattle.doubles.specs.Doubles.{pair_at}
use Rattle.words.specs.Words.{four_of}
use Rattle.state.specs.Layout.{state_bytes}

unfoldable pub store_bytes : ℕ
store_bytes = 65536

-- Where the list and the working begin, and how many bytes the list has.
unfoldable pub list_at : ℕ
list_at = 16

unfoldable pub working_at : ℕ
working_at = 32768

unfoldable pub list_room : ℕ
list_room = 32752

-- ---- the header

-- "opened for a page number, n and L": the page number in four bytes, n and L in one each.
unfoldable pub page_in : List ℕ → ℕ
page_in store = four_of store

unfoldable pub n_in : List ℕ → ℕ
n_in store = get_or store 4 0

unfoldable pub l_in : List ℕ → ℕ
l_in store = get_or store 5 0

-- How many rows there are, how many of them are taken, since they count, and how many are kept: two bytes each, from byte 6 on.
abbrev pub rows_place : ℕ
rows_place = 3

abbrev pub taken_place : ℕ
taken_place = 4

abbrev pub rank_place : ℕ
rank_place = 5

unfoldable pub rows_in : List ℕ → ℕ
rows_in store = pair_at rows_place store

unfoldable pub taken_in : List ℕ → ℕ
taken_in store = pair_at taken_place store

unfoldable pub rank_in : List ℕ → ℕ
rank_in store = pair_at rank_place store

-- ---- the two parts; of a buffer that is too short each is empty

unfoldable pub is_store : List ℕ → Bool
is_store store = leb store_bytes (length store)

-- Some bytes of a store from one place on.
unfoldable pub part_start : ℕ → List ℕ → ℕ
part_start at store = cond (is_store store) at 0

unfoldable pub part_in : ℕ → ℕ → List ℕ → List ℕ
part_in at size store = take (cond (is_store store) size 0) (drop (part_start at store) store)

unfoldable pub list_start : List ℕ → ℕ
list_start store = part_start list_at store

unfoldable pub list_in : List ℕ → List ℕ
list_in store = part_in list_at list_room store

unfoldable pub working_start : List ℕ → ℕ
working_start store = part_start working_at store

unfoldable pub working_in : List ℕ → List ℕ
working_in store = part_in working_at state_bytes store

-- A store with its list, or its working, written anew.
unfoldable pub with_list : List ℕ → List ℕ → List ℕ
with_list list store = lay list_at list store

unfoldable pub with_working : List ℕ → List ℕ → List ℕ
with_working working store = lay working_at working store
