-- Where the entry of an arrival stands, and the row in it, by the tests that the code makes.
-- Assumes nothing.
use mathlib.Core.Path.{◌≡◌, refl, ap, ◌∙◌}
use mathlib.Core.Bool.{Bool, true, false}
use mathlib.Core.List.{List, []}
use Prim.Native.Nat.{ℕ, ◌+◌, ◌*◌, ◌≤◌, ◌<◌}
use native.Mathlib.Nat.{mul-le-mul}
use native.Mathlib.Omega.{arith}
use lib.Dec.{leb, ltb}
use lib.ListN.{length, take, drop}
use borrow.Author.Tests.{le-leb, lt-leb, lt-ltb, le-ltb, leb-true}
use Rattle.space.proofs.Both.{both}
use Rattle.octets.proofs.Views.{length_part}
use Rattle.rows.specs.Rows.{list_row_bytes}
use Rattle.lists.specs.Lists.{is_entry, start_of, size_of, entry_at, row_start, row_at}

-- no entry lies further than this
pub entry_end : (l m size : ℕ) → size ≡ list_row_bytes l → l ≤ 255 → m < 512 → m * size + size ≤ 140000
entry_end l m size e a b =
    let wide : size ≤ 267 = omega (arith, e) in
    let most : m ≤ 511 = omega arith in
    omega (arith, mul-le-mul most wide)

module _ (l m : ℕ) (list : List ℕ) where
  pub too_late : 512 ≤ m → is_entry l m list ≡ false
  unfolding is_entry
  too_late h = rw (le-ltb m 512 h)

  pub too_short : m < 512 → length list < m * list_row_bytes l + list_row_bytes l → is_entry l m list ≡ false
  unfolding is_entry
  too_short a h = rw (lt-ltb m 512 a, lt-leb _ _ h)

  pub is_entry_lem : m < 512 → m * list_row_bytes l + list_row_bytes l ≤ length list → is_entry l m list ≡ true
  unfolding is_entry
  is_entry_lem a h = rw (lt-ltb m 512 a, le-leb _ _ h)

  pub no_part : is_entry l m list ≡ false → (start_of l m list ≡ 0) × (size_of l m list ≡ 0)
  unfolding start_of size_of
  no_part e = rw e (refl, refl)

  pub some-part : is_entry l m list ≡ true → (start_of l m list ≡ m * list_row_bytes l) × (size_of l m list ≡ list_row_bytes l)
  unfolding start_of size_of
  some-part e = rw e (refl, refl)

  pub entry_shows : is_entry l m list ≡ true → entry_at l m list ≡ take (list_row_bytes l) (drop (m * list_row_bytes l) list)
  unfolding entry_at
  entry_shows e = let some = some-part e in rw (some.0, some.1)

  -- ---- the row behind the seed

  entry_whole : is_entry l m list ≡ true → length (entry_at l m list) ≡ list_row_bytes l
  unfolding is_entry
  entry_whole e =
      let ends : m * list_row_bytes l + list_row_bytes l ≤ length list = leb-true _ _ (both (ltb m 512) (leb (m * list_row_bytes l + list_row_bytes l) (length list)) e).1 in
      ap length (entry_shows (unfold is_entry in e)) ∙ length_part (list_row_bytes l) (m * list_row_bytes l) list ends

  entry_none : is_entry l m list ≡ false → entry_at l m list ≡ []
  unfolding entry_at
  entry_none e = rw (no_part e).1

  by_entry : {A : Type 0} → (is_entry l m list ≡ true → A) → (is_entry l m list ≡ false → A) → A
  by_entry {A} with-one without = go (is_entry l m list) refl
    where
      go : (b : Bool) → is_entry l m list ≡ b → A
      go true e = with-one e
      go false e = without e

  pub row_none : length (entry_at l m list) < 4 → (entry_at l m list ≡ row_at l m list) × (start_of l m list ≡ row_start l m list)
  unfolding row_at row_start
  row_none h = by_entry (λ e. absurd (omega (arith, entry_whole e))) (λ e. (rw (entry_none e), (no_part e).0 ∙ rw e))

  pub row-some : 4 ≤ length (entry_at l m list) → start_of l m list + 4 ≡ row_start l m list
  unfolding row_start
  row-some h = by_entry (λ e. ap (λ (k : ℕ). k + 4) (some-part e).0 ∙ rw e) (λ e. absurd (omega (arith, ap length (entry_none e))))
