-- A second page added to each of some rows. Adding a page is a one-to-one map of rows that respects sums and keeps constraints, so nothing but the
-- payloads of the sums can change: the verdict is the old one, with the second page added to a page that was answered.
-- Assumes nothing.
use mathlib.Core.Path.{◌≡◌, refl, sym, ap, ◌∙◌}
use Prim.Native.Nat.{ℕ, ◌*◌, ◌^◌, ◌<◌}
use mathlib.Core.Bool.{Bool, true, false, cond, not}
use mathlib.Core.List.{List, map}
use lib.ListN.{length, get_or}
use Rattle.space.specs.Lists.{Below, tabulate}
use Rattle.space.specs.Space.{◌⊕◌, sum_of, set_of, independent}
use Rattle.space.proofs.Lists.{map_both, count_map, tabulate_ext}
use Rattle.space.proofs.Linear.{sum-plus}
use Rattle.rows.specs.Rows.{constraint, payload, named, agrees}
use Rattle.rows.specs.Shift.{shifted, plus}
use Rattle.rows.proofs.Shifts.{shifted-⊕, shifted_inj, shifted-constraints, shifted-payloads, shifted-agrees, tabulate-plus}
use Rattle.reading.specs.Reading.{rank, picked, picked_rows, symbol, page_of, agreement, few, tie, singular}
use Rattle.reading.specs.Verdict.{Verdict, too_few, tied, dependent, answered, verdict}
use Rattle.reading.specs.Added.{added_verdict}
use Rattle.reading.proofs.Linear.{map-rank, map-picked, map-picked_rows}
use Rattle.reading.proofs.Pick.{picked-size, picked-inside}
use Rattle.reading.proofs.Page.{unit_named}

module _ (n l : ℕ) (q : List ℕ) (size : length q ≡ n) (b : Below (2 ^ (8 * l)) q) (rows : List ℕ) (within : Below (2 ^ n) (map (constraint l) rows)) where
  pub same_rank : rank (map (shifted l q) rows) ≡ rank rows
  same_rank = map-rank (shifted l q) (shifted-⊕ l q) (shifted_inj l q b) rows

  same_picked : picked n (map (shifted l q) rows) ≡ picked n rows
  same_picked = map-picked (shifted l q) (shifted-⊕ l q) (shifted_inj l q b) n rows

  picked-moved : picked_rows n (map (shifted l q) rows) ≡ map (shifted l q) (picked_rows n rows)
  picked-moved = map-picked_rows (shifted l q) (shifted-⊕ l q) (shifted_inj l q b) n rows

  same_free : independent (map (constraint l) (picked_rows n (map (shifted l q) rows))) ≡ independent (map (constraint l) (picked_rows n rows))
  same_free = rw picked-moved (ap independent (shifted-constraints l q b (picked_rows n rows)))

  -- the payloads of a sum get what the second page gives for it
  module _ (none : tie n rows ≡ false) (free : independent (map (constraint l) (picked_rows n rows)) ≡ true) where
    symbol-moved : (k : ℕ) → k < n → symbol l (map (shifted l q) (picked_rows n rows)) k ≡ symbol l (picked_rows n rows) k ⊕ get_or q k 0
    unfolding symbol
    symbol-moved k h =
        rw (shifted-constraints l q b (picked_rows n rows)) (rw (shifted-payloads l q b (picked_rows n rows))
        (sum-plus (payload l) (λ r. named q (constraint l r)) (picked_rows n rows) set ∙ ap (λ (x : ℕ). sum_of (map (payload l) (picked_rows n rows)) set ⊕ x) second))
      where
        set : List Bool
        set = set_of (map (constraint l) (picked_rows n rows)) (2 ^ k)

        second : sum_of (map (λ r. named q (constraint l r)) (picked_rows n rows)) set ≡ get_or q k 0
        second =
            ap (λ (s : List ℕ). sum_of s set) (sym (map_both (named q) (constraint l) (λ r. named q (constraint l r)) (λ r. refl) (picked_rows n rows)))
            ∙ unit_named n l (picked_rows n rows) (picked-inside n l (2 ^ n) rows within) free (picked-size n rows none) q size k h

    pub page_moved : page_of n l (picked_rows n (map (shifted l q) rows)) ≡ plus (page_of n l (picked_rows n rows)) q
    unfolding page_of
    page_moved =
        rw picked-moved (tabulate_ext n _ _ symbol-moved ∙ ap (λ (m : ℕ). tabulate m (λ k. symbol l (picked_rows n rows) k ⊕ get_or q k 0)) (sym size)
        ∙ tabulate-plus (symbol l (picked_rows n rows)) q ∙ ap (λ (m : ℕ). plus (tabulate m (symbol l (picked_rows n rows))) q) size)

  pub verdict-moved : verdict n l (map (shifted l q) rows) ≡ added_verdict q (verdict n l rows)
  unfolding verdict few tie singular
  verdict-moved = rw (same_rank, same_picked, same_free) (go (few n rows) (tie n rows) refl (independent (map (constraint l) (picked_rows n rows))) refl)
    where
      whole : List ℕ → Bool → Bool → Bool → Verdict
      whole rs f t i = cond f too_few (cond t tied (cond (not i) dependent (answered (page_of n l (picked_rows n rs)))))

      go : (f t : Bool) → tie n rows ≡ t → (i : Bool) → independent (map (constraint l) (picked_rows n rows)) ≡ i
          → whole (map (shifted l q) rows) f t i ≡ added_verdict q (whole rows f t i)
      go true t e i h = unfold added_verdict in refl
      go false true e i h = unfold added_verdict in refl
      go false false e false h = unfold added_verdict in refl
      go false false e true h = unfold added_verdict in ap answered (page_moved e h)

  pub agreement-moved : (page : List ℕ) → length page ≡ n → agreement l (plus page q) (map (shifted l q) rows) ≡ agreement l page rows
  unfolding agreement
  agreement-moved page e = count_map (agrees l (plus page q)) (agrees l page) (shifted l q) (shifted-agrees l q b page (e ∙ sym size)) rows
