-- With rank n the agreement says nothing of the picked rows: every row agrees with the page that is given, since it is a sum of them.
-- Assumes nothing.
use mathlib.Core.Path.{◌≡◌}
use Prim.Native.Nat.{ℕ, ◌^◌}
use mathlib.Core.Bool.{true, false}
use mathlib.Core.List.{List, map}
use lib.ListN.{length}
use borrow.Author.Tests.{not-false}
use Rattle.space.specs.Lists.{All, Below}
use Rattle.space.specs.Space.{spans, independent}
use Rattle.space.proofs.Lists.{all_mono, count-all}
use Rattle.rows.specs.Rows.{constraint, agrees}
use Rattle.reading.specs.Reading.{kept_rows, rank, picked_rows, agreement, singular}
use Rattle.reading.proofs.Kept.{kept_span}
use Rattle.reading.proofs.Pick.{all-picked, no_tie, picked-inside, picked-size}
use Rattle.reading.proofs.Page.{page-agrees}
use Rattle.confirmed.specs.Confirmed.{given}
use Rattle.same_page.proofs.Agreeing.{agrees_span}

module _ (n l : ℕ) (rows : List ℕ) (inside : Below (2 ^ n) (map (constraint l) rows)) (full : rank rows ≡ n) (sound : singular n l rows ≡ false) where
  picked_free : independent (map (constraint l) (picked_rows n rows)) ≡ true
  picked_free = not-false (independent (map (constraint l) (picked_rows n rows))) (unfold singular in sound)

  -- the kept rows are the picked ones
  pub full_free : independent (map (constraint l) (kept_rows rows)) ≡ true
  full_free = rw (all-picked n rows full) at picked_free

  pub full_inside : Below (2 ^ n) (map (constraint l) (kept_rows rows))
  full_inside = rw (all-picked n rows full) at (picked-inside n l (2 ^ n) rows inside)

  pub rank-agrees : All (agrees l (given n l rows)) rows
  rank-agrees = all_mono (spans (kept_rows rows)) (agrees l (given n l rows)) (agrees_span l (given n l rows) (kept_rows rows) own) rows (kept_span rows)
    where
      all-kept : (page : List ℕ) → All (agrees l page) (picked_rows n rows) → All (agrees l page) (kept_rows rows)
      all-kept page a = rw (all-picked n rows full) at a

      own : All (agrees l (given n l rows)) (kept_rows rows)
      own = all-kept (given n l rows) (page-agrees n l (picked_rows n rows) (picked-inside n l (2 ^ n) rows inside) picked_free (picked-size n rows (no_tie n rows full)))

  -- so the agreement is the number of rows
  pub rank-agreement : agreement l (given n l rows) rows ≡ length rows
  unfolding agreement
  rank-agreement = count-all (agrees l (given n l rows)) rows rank-agrees
