-- Which rows of a list count, and in which order they are taken. An order is a list of arrival numbers, and goes by the entries of the list that it
-- is for. Document 01, "How a list is read", and document 02, wish 3.
use Rattle.std.specs.Prelude.{ℕ, ◌≡◌, Bool, false, cond, not, ◌||◌, List, [], ◌∷◌, ◌++◌, map, eqb, length, get_or}
use Rattle.space.specs.Lists.{select, count, tabulate}
use Rattle.rows.specs.Rows.{vector, constraint}

-- The arrival numbers of m rows.
unfoldable pub arrivals : ℕ → List ℕ
arrivals m = tabulate m (λ arrival. arrival)

-- Whether a number is among others.
unfoldable pub among : List ℕ → ℕ → Bool
among [] a = false
among (b ∷ bs) a = eqb a b || among bs a

-- Document 02, wish 3: "A row equal to an earlier list row in seed, constraint and payload adds to no uses and no agreement." For each entry, whether it
-- counts: no earlier one is equal to it.
unfoldable pub counts_after : List ℕ → List ℕ → List Bool
counts_after before [] = []
counts_after before (entry ∷ entries) = not (among before entry) ∷ counts_after (before ++ (entry ∷ [])) entries

unfoldable pub counts : List ℕ → List Bool
counts entries = counts_after [] entries

-- The rows that an order takes.
unfoldable pub taken : ℕ → List ℕ → List ℕ → List ℕ
taken l entries order = map (λ arrival. vector l (get_or entries arrival 0)) order

-- "Rows are taken in list order": those that count.
unfoldable pub in_list_order : List ℕ → List ℕ
in_list_order entries = select (counts entries) (arrivals (length entries))

-- ---- what the demands ask of an order

-- How often a row is taken that counts, and one that does not.
abbrev pub once : Bool → ℕ
once b = cond b 1 0

-- It takes each row that counts once, and no other.
abbrev pub Takes : List ℕ → List ℕ → Type 0
Takes entries order = (arrival : ℕ) → count (eqb arrival) order ≡ once (get_or (counts entries) arrival false)

-- It goes by constraints, and by which rows count: where these are the same, so is the order. Adding a page to a list changes neither.
abbrev pub ByConstraints : ℕ → (List ℕ → List ℕ) → Type 0
ByConstraints l order =
    (ds es : List ℕ) → counts ds ≡ counts es → map (λ e. constraint l (vector l e)) ds ≡ map (λ e. constraint l (vector l e)) es → order ds ≡ order es
