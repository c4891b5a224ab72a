-- When a store is whole: it was opened for a page, has the rows accepted since, and its working is current.
use Rattle.std.specs.Prelude.{ℕ, ◌^◌, ◌≤◌, ◌≡◌, true, List, map, length}
use Rattle.space.specs.Lists.{Below}
use Rattle.rows.specs.Rows.{shape, vector, constraint}
use Rattle.crossing.specs.Held.{Held}
use Rattle.store.specs.Store.{store_bytes, page_in, n_in, l_in, rows_in, taken_in, rank_in, list_in, working_in}
use Rattle.current.specs.Current.{first_entries, Current}

-- The header says the page and how many rows are held; the list is the one in which they were laid, none with a stray bit; and the working is current.
pub record Whole (page n l : ℕ) (held : Held) (store : List ℕ) : Type 0 where
  pub long : store_bytes ≤ length store
  pub shaped : shape n l ≡ true
  pub page_is : page_in store ≡ page
  pub n_is : n_in store ≡ n
  pub l_is : l_in store ≡ l
  pub rows_are : rows_in store ≡ held.rows
  pub list_is : list_in store ≡ held.list
  pub inside : Below (2 ^ n) (map (constraint l) (map (vector l) (first_entries l held.rows held.list)))
  pub current : Current l held.list held.rows (taken_in store) (rank_in store) (working_in store)
