-- The check of a header. Document 02, wish 5: 3 where the buffer is too short for a store; "10 (header's n, L or row count out of range)".
use Rattle.std.specs.Prelude.{ℕ, cond, not, List, Result, Ok, Err, ltb}
use Rattle.places.specs.Places.{most_rows}
use Rattle.rows.specs.Rows.{shape}
use Rattle.store.specs.declared.Head.{Head}
use Rattle.store.specs.declared.Refusal.{Refusal}
use Rattle.store.specs.declared.Refusal.TheVariants.{Short, OutOfRange}
use Rattle.store.specs.Store.{page_in, n_in, l_in, rows_in, taken_in, rank_in, is_store}

-- Document 02's number for each refusal.
unfoldable pub number_of : Refusal → ℕ
number_of Short = 3
number_of OutOfRange = 10

unfoldable pub head_in : List ℕ → Head
head_in store = record { page = page_in store; n = n_in store; l = l_in store; rows = rows_in store; taken = taken_in store; rank = rank_in store }

unfoldable pub header_of : List ℕ → Result Head Refusal
header_of store =
    cond (not (is_store store)) (Err Short)
    (cond (not (shape (n_in store) (l_in store))) (Err OutOfRange)
    (cond (ltb most_rows (rows_in store)) (Err OutOfRange)
    (Ok (head_in store))))
