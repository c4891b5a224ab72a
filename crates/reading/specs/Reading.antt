-- How rows are read. Document 01, "How a list is read"; n is the number of symbols and l the bytes of one. Which rows of a list are taken stands in
-- Orders.
use Rattle.std.specs.Prelude.{ℕ, ◌^◌, Bool, true, false, cond, not, List, [], ◌∷◌, ◌++◌, map, eqb, leb, ltb, length, get_or}
use Rattle.space.specs.Lists.{select, marked, count, tabulate}
use Rattle.space.specs.Space.{sum_of, spans, set_of, independent}
use Rattle.rows.specs.Rows.{constraint, payload, agrees}

-- "Rows are taken in list order. A row is kept exactly when it is no exclusive-or of rows kept before it, as a whole row".
unfoldable pub kept_after : List ℕ → List ℕ → List Bool
kept_after before [] = []
kept_after before (r ∷ rows) = cond (spans before r) (false ∷ kept_after before rows) (true ∷ kept_after (before ++ (r ∷ [])) rows)

unfoldable pub kept : List ℕ → List Bool
kept rows = kept_after [] rows

unfoldable pub kept_rows : List ℕ → List ℕ
kept_rows rows = select (kept rows) rows

unfoldable pub other_rows : List ℕ → List ℕ
other_rows rows = select (map not (kept rows)) rows

-- "The rank r is their number."
unfoldable pub rank : List ℕ → ℕ
rank rows = length (kept_rows rows)

-- "The uses of a kept row are the rows not kept whose set contains it."
unfoldable pub uses_of : List ℕ → List ℕ → List ℕ
uses_of ks others = tabulate (length ks) (λ j. count (λ r. get_or (set_of ks r) j false) others)

unfoldable pub uses : List ℕ → List ℕ
uses rows = uses_of (kept_rows rows) (other_rows rows)

-- "If r is n, all kept rows are picked. If r is more than n, the n rows with most uses are picked, provided the smallest use inside
-- the pick is greater than the largest outside." So a kept row is picked when at most n, itself among them, have as many uses or more.
unfoldable pub picks : ℕ → List ℕ → List Bool
picks n us = map (λ u. leb (count (leb u) us) n) us

unfoldable pub picked : ℕ → List ℕ → List Bool
picked n rows = picks n (uses rows)

unfoldable pub picked_rows : ℕ → List ℕ → List ℕ
picked_rows n rows = select (picked n rows) (kept_rows rows)

-- "The page is the one that every picked row agrees with." Its symbol k is the payload of the sum of those picked rows whose
-- constraints sum to the bit worth 2^k.
unfoldable pub symbol : ℕ → List ℕ → ℕ → ℕ
symbol l ps k = sum_of (map (payload l) ps) (set_of (map (constraint l) ps) (2 ^ k))

unfoldable pub page_of : ℕ → ℕ → List ℕ → List ℕ
page_of n l ps = tabulate n (symbol l ps)

-- "Agreement is the number of .. rows, kept or not, that agree with the page."
unfoldable pub agreement : ℕ → List ℕ → List ℕ → ℕ
agreement l page rows = count (agrees l page) rows

-- The refusals after elimination: 5 few, "r below n"; 6 tie, "r over n, pick not unique"; 7 singular, "picked constraints dependent".
unfoldable pub few : ℕ → List ℕ → Bool
few n rows = ltb (rank rows) n

unfoldable pub tie : ℕ → List ℕ → Bool
tie n rows = not (eqb (marked (picked n rows)) n)

unfoldable pub singular : ℕ → ℕ → List ℕ → Bool
singular n l rows = not (independent (map (constraint l) (picked_rows n rows)))
