-- What `is_repeat` tells, by whether the list has the entry: one that it has is as long as an entry, and it has none of no bytes.
-- Assumes nothing.
use mathlib.Core.Path.{◌≡◌, refl, sym, ap, ap₂, ◌∙◌}
use mathlib.Core.Bool.{Bool, true, false}
use mathlib.Core.List.{List}
use Prim.Native.Nat.{ℕ, ◌+◌, ◌*◌, ◌≤◌, ◌<◌}
use native.Mathlib.Nat.{le-div_iff_mul-le, suc-mul}
use native.Mathlib.Omega.{arith}
use lib.Dec.{leb, ltb}
use lib.ListN.{length, take, drop}
use borrow.Author.Tests.{leb-true, ltb-true}
use Rattle.space.proofs.Both.{both}
use Rattle.octets.specs.Octets.{number, numbers}
use Rattle.octets.proofs.Views.{take-numbers}
use Rattle.rows.specs.Rows.{list_row_bytes, row_count, entries_of}
use Rattle.lists.specs.Lists.{is_entry, start_of, entry_at}
use Rattle.lists.proofs.AtArrival.{no_part}
use Rattle.lists.proofs.Rows.{entry_length, entry-number}
use Rattle.reading.specs.Orders.{among}
use Rattle.repeats.specs.Repeats.{repeated}

module _ (l m : ℕ) (list : List ℕ) where
  -- the entry is there
  pub record Has : Type 0 where
    pub most : m < 512
    pub room : m * list_row_bytes l + list_row_bytes l ≤ length list

  has_when : is_entry l m list ≡ true → Has
  unfolding is_entry
  has_when e =
      let a : (ltb m 512 ≡ true) × (leb (m * list_row_bytes l + list_row_bytes l) (length list) ≡ true) = both _ _ e in
      record { most = ltb-true m 512 a.0; room = leb-true (m * list_row_bytes l + list_row_bytes l) (length list) a.1 }

  pub before_end : m * list_row_bytes l + list_row_bytes l ≤ length list → m < row_count l list
  unfolding row_count
  before_end h =
      let wide : 0 < list_row_bytes l = omega arith in
      (le-div_iff_mul-le wide).1 (omega (arith, suc-mul m (list_row_bytes l)))

  long : Has → length (entry_at l m list) ≡ list_row_bytes l
  long H = entry_length l m list H.most (before_end H.room)

  none : is_entry l m list ≡ false → length (entry_at l m list) ≡ 0
  unfolding entry_at
  none e = ap (λ (k : ℕ). length (take k (drop (start_of l m list) list))) (no_part l m list e).1

  pub no_repeat : length (entry_at l m list) ≡ 0 → false ≡ repeated l m list
  unfolding repeated
  no_repeat h = go (is_entry l m list) refl
    where
      go : (b : Bool) → is_entry l m list ≡ b → false ≡ repeated l m list
      go true e = absurd (omega (arith, h, long (has_when e)))
      go false e = rw e

  pub record Found : Type 0 where
    pub wide : 8 ≤ length (entry_at l m list)
    pub room : m * length (entry_at l m list) ≤ length list
    pub tells : among (numbers (length (entry_at l m list)) m list) (number (entry_at l m list)) ≡ repeated l m list

  tell : is_entry l m list ≡ true → Has → among (numbers (length (entry_at l m list)) m list) (number (entry_at l m list)) ≡ repeated l m list
  unfolding repeated entries_of
  tell e H =
      rw e (ap₂ (λ (ds : List ℕ) (x : ℕ). among ds x)
      (ap (λ (w : ℕ). numbers w m list) (long H) ∙ sym (take-numbers (list_row_bytes l) m (row_count l list) list (omega (arith, before_end H.room))))
      (entry-number l m list H.most (before_end H.room)))

  pub some_repeat : (length (entry_at l m list) ≡ 0 → ⊥) → Found
  some_repeat h = go (is_entry l m list) refl
    where
      go : (b : Bool) → is_entry l m list ≡ b → Found
      go true e =
          let H : Has = has_when e in
          record { wide = omega (arith, long H); room = rw (long H) (omega (arith, H.room)); tells = tell e H }
      go false e = absurd (h (none e))
