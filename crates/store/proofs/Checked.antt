-- What the check of a header says, by the tests that the code makes, in its order.
-- Assumes nothing.
use mathlib.Core.Path.{◌≡◌, refl, ap, ◌∙◌}
use mathlib.Core.Bool.{Bool, true, false, cond, not}
use mathlib.Core.List.{List}
use Prim.Native.Nat.{ℕ, ◌≤◌}
use lib.Dec.{ltb}
use lib.ListN.{length}
use borrow.Author.Tests.{le-leb, le-ltb, leb-true, ltb-false}
use Rattle.std.proofs.Common.{Result, Ok, Err}
use Rattle.places.specs.Places.{most_rows}
use Rattle.rows.specs.Rows.{shape}
use Rattle.store.specs.declared.Head.{Head}
use Rattle.store.specs.declared.Refusal.{Refusal}
use Rattle.store.specs.declared.Refusal.TheVariants.{Short, OutOfRange}
use Rattle.store.specs.Store.{store_bytes, n_in, l_in, rows_in, is_store}
use Rattle.store.specs.Header.{head_in, header_of}

-- ---- what a good header tells

-- The buffer is long enough, n, L and the number of rows are in range, and it says what stands there.
pub record GoodHead (store : List ℕ) (h : Head) : Type 0 where
  pub long : store_bytes ≤ length store
  pub shaped : shape h.n h.l ≡ true
  pub few : h.rows ≤ most_rows
  pub is : head_in store ≡ h

pub good_means : (store : List ℕ) (h : Head) → header_of store ≡ Ok h → GoodHead store h
unfolding header_of is_store head_in
good_means store h e = go (is_store store) refl (shape (n_in store) (l_in store)) refl (ltb most_rows (rows_in store)) refl e
  where
    no : Refusal → Result Head Refusal
    no = Err

    go : (a : Bool) → is_store store ≡ a → (b : Bool) → shape (n_in store) (l_in store) ≡ b → (c : Bool) → ltb most_rows (rows_in store) ≡ c
        → cond (not a) (no Short) (cond (not b) (no OutOfRange) (cond c (no OutOfRange) (Ok (head_in store)))) ≡ Ok h → GoodHead store h
    go true p true q false r e =
        let same : head_in store ≡ h = cc e in
        rw (← same) (record { long = leb-true store_bytes (length store) p; shaped = q; few = ltb-false most_rows (rows_in store) r; is = refl })
    go true p true q true r e = cc
    go true p false q c r e = cc
    go false p b q c r e = cc

-- and the other way round
pub header_good : (store : List ℕ) → store_bytes ≤ length store → (h : Head) → head_in store ≡ h → shape h.n h.l ≡ true → h.rows ≤ most_rows → header_of store ≡ Ok h
unfolding header_of is_store head_in
header_good store long h e s few =
    rw (← e) (rw (le-leb store_bytes (length store) long, ap (λ (x : Head). shape x.n x.l) e ∙ s, le-ltb most_rows (rows_in store) (rw (ap (λ (x : Head). x.rows) e) few)))
