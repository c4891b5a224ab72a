-- Of lists of bytes: two in which the same arrivals count, and whose rows that count differ in the payload of one, kept and without a use where the rank is n,
-- have outcomes that only the page tells apart, and the pages differ.
-- Assumes nothing.
use mathlib.Core.Path.{◌≡◌, refl, sym, ap, ◌∙◌}
use Prim.Native.Nat.{ℕ, ◌*◌, ◌^◌, ◌<◌}
use mathlib.Core.Bool.{true}
use mathlib.Core.List.{List, [], ◌∷◌, ◌++◌, map, Memᴰ}
use lib.Dec.{eqb}
use lib.ListN.{length, take}
use Rattle.space.specs.Lists.{Below}
use Rattle.space.proofs.Lists.{below_map_at}
use Rattle.octets.specs.Octets.{flat}
use Rattle.rows.specs.Rows.{symbols, row_count, entries_of, rows_of, constraint}
use Rattle.reading.specs.Answer.{answer_numbers}
use Rattle.reading.specs.Reading.{rank}
use Rattle.reading.specs.Orders.{counts, taken, in_list_order}
use Rattle.reading.specs.Outcome.{Lent, passes, stray_from, checks, outcome, gave, whole_length}
use Rattle.reading.proofs.Checks.{Passed, passed, none_stray}
use Rattle.reading.proofs.Counted.{length-counts}
use Rattle.reading.proofs.Given.{outcome-read, given-passes}
use Rattle.demands.proofs.Any.{listed-takes, taken-each}
use Rattle.held.specs.Listed.{counted_rows}
use Rattle.held.proofs.Listed.{counted-taken, counted-rank}
use Rattle.confirmed.specs.Confirmed.{GivesPage, given, Unused, Untold}
use Rattle.confirmed.proofs.Unconfirmed.{swapped_inside, unconfirmed, other-page}
use Rattle.confirmed.proofs.Means.{given-page}
use Rattle.confirmed.proofs.Lists.{cut-back, list_inside, list_gives, list-page}

checks_alike : (n l : ℕ) (list new : List ℕ) (lent : Lent) → length new ≡ length list → stray_from n l 0 (rows_of l new) ≡ stray_from n l 0 (rows_of l list)
    → checks n l new lent ≡ checks n l list lent
unfolding checks whole_length row_count
checks_alike n l list new lent size e = rw (size, e)

-- each row is equal to one that counts, so that none has a stray bit if none of these has
counted-inside : (n l : ℕ) (list : List ℕ) → Below (2 ^ n) (map (constraint l) (counted_rows l list)) → Below (2 ^ n) (map (constraint l) (rows_of l list))
unfolding rows_of
counted-inside n l list b =
    each (rows_of l list) (λ r m. below_map_at (2 ^ n) (constraint l) (counted_rows l list) b r (rw (counted-taken l list) at
    (taken-each l (entries_of l list) (in_list_order (entries_of l list)) (listed-takes (entries_of l list)) r (unfold rows_of in m))))
  where
    each : (rows : List ℕ) → ((r : ℕ) → Memᴰ r rows → constraint l r < 2 ^ n) → Below (2 ^ n) (map (constraint l) rows)
    each [] h = tt
    each (r ∷ rows) h = (h r (Memᴰ.head refl), each rows (λ x m. h x (Memᴰ.tail m)))

module _ (n l : ℕ) (list : List ℕ) (lent : Lent) (e : gave (outcome n l list lent) ≡ true) (full : rank (rows_of l list) ≡ n)
    (before : List ℕ) (r : ℕ) (after : List ℕ) (rows : counted_rows l list ≡ before ++ r ∷ after) (u : Unused before r after)
    (other : ℕ) (same : constraint l other ≡ constraint l r) (new : List ℕ) (size : length new ≡ length list)
    (alike : counts (entries_of l new) ≡ counts (entries_of l list)) (rows' : counted_rows l new ≡ before ++ other ∷ after) where
  P : Passed n l list lent
  P = passed n l list lent (given-passes in_list_order n l list lent e)

  old-inside : Below (2 ^ n) (map (constraint l) (before ++ r ∷ after))
  old-inside = rw rows at (list_inside n l list lent e)

  old_gives : GivesPage n l (before ++ r ∷ after)
  old_gives = rw rows at (list_gives n l list lent e)

  old_full : rank (before ++ r ∷ after) ≡ n
  old_full = ap rank (sym rows) ∙ counted-rank l list ∙ full

  new-passes : checks n l new lent ≡ passes
  new-passes = checks_alike n l list new lent size (clean ∙ sym P.clean) ∙ given-passes in_list_order n l list lent e
    where
      clean : stray_from n l 0 (rows_of l new) ≡ passes
      clean = none_stray n l 0 (rows_of l new) (counted-inside n l new (rw rows' (swapped_inside n l before r after old-inside old_gives old_full u other same)))

  many : length (entries_of l new) ≡ length (entries_of l list)
  many = sym (length-counts (entries_of l new)) ∙ ap length alike ∙ length-counts (entries_of l list)

  ordered : in_list_order (entries_of l new) ≡ in_list_order (entries_of l list)
  unfolding in_list_order
  ordered = rw (alike, many)

  pub list_unconfirmed : Untold (outcome n l list lent) (outcome n l new lent)
  list_unconfirmed =
      rw (outcome-read in_list_order n l list lent (given-passes in_list_order n l list lent e), outcome-read in_list_order n l new lent new-passes, ordered)
      (unconfirmed n l before r after old-inside old_gives old_full u other same (entries_of l list) (entries_of l new) (in_list_order (entries_of l list)) many
      (counted-taken l list ∙ rows) (ap (taken l (entries_of l new)) (sym ordered) ∙ counted-taken l new ∙ rows') lent)

  -- only the same row gives the same page
  pub list-other-page : take (n * l) (outcome n l new lent).lent.page ≡ take (n * l) (outcome n l list lent).lent.page → other ≡ r
  list-other-page d = other-page n l before r after old-inside old_gives old_full u other same pages
    where
      gave_too : gave (outcome n l new lent) ≡ true
      gave_too = unfold gave in ap (λ a. eqb (answer_numbers a).number 0) list_unconfirmed.answer ∙ unfold gave in e

      bytes : flat l (given n l (before ++ other ∷ after)) ≡ flat l (given n l (before ++ r ∷ after))
      bytes = rw rows' at (rw rows at (sym (list-page n l new lent gave_too) ∙ d ∙ list-page n l list lent e))

      pages : given n l (before ++ other ∷ after) ≡ given n l (before ++ r ∷ after)
      pages = sym (cut-back n l _ (given-page n l (before ++ other ∷ after))) ∙ ap (symbols n l) bytes ∙ cut-back n l _ (given-page n l (before ++ r ∷ after))
