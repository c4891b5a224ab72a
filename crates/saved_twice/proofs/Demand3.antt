-- Demand 3 for the pair: with one page added to every row, both readings are the same, each page has that page added, and so have the rows
-- of the second list. Adding a page keeps which rows agree.
-- Assumes nothing.
use mathlib.Core.Path.{◌≡◌, refl, sym, ap, ◌∙◌}
use Prim.Native.Nat.{ℕ, ◌*◌, ◌^◌}
use mathlib.Core.Bool.{Bool, true, false, cond, not}
use mathlib.Core.List.{List, [], ◌∷◌, map}
use lib.ListN.{length, take, length-map}
use borrow.Author.Tests.{not-false}
use Rattle.space.specs.Lists.{Below, select}
use Rattle.space.specs.Space.{independent}
use Rattle.octets.specs.Octets.{flat, over}
use Rattle.octets.proofs.Runs.{length-flat, take-over, over-over}
use Rattle.rows.specs.Rows.{symbols, list_row_bytes, entries_of, vector, rows_of, constraint, agrees}
use Rattle.rows.specs.Shift.{shifted_entry, shifted_list, plus}
use Rattle.rows.proofs.Lists.{entries-flat, entries_below}
use Rattle.rows.proofs.Pages.{length_symbols, symbols_below, flat-symbols}
use Rattle.rows.proofs.Shifts.{shifted-agrees, shifted-entry, length-shifted_list, entries-shifted_list}
use Rattle.reading.specs.Reading.{singular, picked_rows}
use Rattle.reading.specs.Orders.{taken, in_list_order}
use Rattle.reading.specs.Outcome.{Lent, Outcome, passes, checks, after, read, gave}
use Rattle.reading.specs.Added.{added}
use Rattle.reading.proofs.Page.{length-page_of}
use Rattle.reading.proofs.Checks.{Passed, passed, inside, whole, checks-shifted}
use Rattle.reading.proofs.Given.{page-given}
use Rattle.demands.proofs.Taken.{taken-inside}
use Rattle.demands.proofs.Moved.{page_moved}
use Rattle.demands.proofs.Shifted.{listed_by_constraints, shifted-order, shifted-taken}
use Rattle.demands.proofs.Demand3.{read-moved}
use Rattle.apart.specs.Apart.{apart}
use Rattle.both.specs.Both as spec
use Rattle.both.specs.Both.{Second, Pair, lent_too, given_by, rest, checks_both, alone, followed, with_second}
use Rattle.saved_twice.specs.Added.{first_of, added_second, added_both}
use Rattle.apart.proofs.Apart.{apart_below, apart-inside}
use Rattle.both.proofs.Pairing.{checks-both, asked-fits, plain_check}

-- ---- the entries of the second list

module _ (l : ℕ) (q : List ℕ) (b : Below (2 ^ (8 * l)) q) where
  apart-shifted : (page : List ℕ) → length page ≡ length q → (entries : List ℕ) → apart l (plus page q) (map (shifted_entry l q) entries) ≡ map (shifted_entry l q) (apart l page entries)
  unfolding apart select
  apart-shifted page e [] = refl
  apart-shifted page e (x ∷ entries) = rw (shifted-entry l q b x, shifted-agrees l q b page e (vector l x)) (go (agrees l page (vector l x)) (apart-shifted page e entries))
    where
      moved : List ℕ
      moved = map (shifted_entry l q) entries

      new : List Bool
      new = map (λ y. not (agrees l (plus page q) (vector l y))) moved

      old : List Bool
      old = map (λ y. not (agrees l page (vector l y))) entries

      go : (agree : Bool) → select new moved ≡ map (shifted_entry l q) (select old entries)
          → select (not agree ∷ new) (shifted_entry l q x ∷ moved) ≡ map (shifted_entry l q) (select (not agree ∷ old) (x ∷ entries))
      go true ih = ih
      go false ih = ap (λ t. shifted_entry l q x ∷ t) ih

  -- copied, and then moved
  list-shifted : (rest old : List ℕ) → Below (2 ^ (8 * list_row_bytes l)) rest
      → over (flat (list_row_bytes l) (map (shifted_entry l q) rest)) old
      ≡ over (shifted_list l q (take (length rest * list_row_bytes l) (over (flat (list_row_bytes l) rest) old))) (over (flat (list_row_bytes l) rest) old)
  unfolding shifted_list
  list-shifted rest old c =
      rw (take-over (flat (list_row_bytes l) rest) old (length rest * list_row_bytes l) (length-flat (list_row_bytes l) rest), entries-flat l rest c)
      (sym (over-over (flat (list_row_bytes l) (map (shifted_entry l q) rest)) (flat (list_row_bytes l) rest) old
      (length-flat (list_row_bytes l) (map (shifted_entry l q) rest) ∙ ap (λ (m : ℕ). m * list_row_bytes l) (length-map rest (shifted_entry l q)) ∙ sym (length-flat (list_row_bytes l) rest))))

-- ---- both readings

module _ (n l : ℕ) (page : List ℕ) (size : length page ≡ n * l) (bytes : Below 256 page) where
  abbrev q : List ℕ
  q = symbols n l page

  q_below : Below (2 ^ (8 * l)) q
  q_below = symbols_below n l page size bytes

  abbrev moved : List ℕ → List ℕ
  moved entries = map (shifted_entry l q) entries

  order-stays : (entries : List ℕ) → in_list_order (moved entries) ≡ in_list_order entries
  order-stays entries = shifted-order l q q_below entries in_list_order (listed_by_constraints l)

  plain_moved : (entries : List ℕ) (lent : Lent) → Below (2 ^ n) (map (constraint l) (map (vector l) entries))
      → read n l (moved entries) (in_list_order (moved entries)) lent ≡ added page (read n l entries (in_list_order entries) lent)
  plain_moved entries lent within =
      rw (order-stays entries) (read-moved n l q (length_symbols n l page) q_below entries (in_list_order entries) within page (flat-symbols n l page size bytes) lent)

  alone-moved : (o : Outcome) (s : Second) → gave o ≡ false → alone (added page o) s ≡ added_both n l page (alone o s)
  unfolding alone added_both added gave
  alone-moved o s e = rw e

  followed-moved : (o : Outcome) (s : Second) → gave o ≡ true → (entries : List ℕ) → Below (2 ^ n) (map (constraint l) (map (vector l) entries)) → Below (2 ^ (8 * list_row_bytes l)) entries
      → followed n l (moved entries) (added page o) s ≡ added_both n l page (followed n l entries o s)
  unfolding followed added_both added_second added gave
  followed-moved o s e entries within low =
      ap (λ (x : Outcome). build x (length (moved entries)) (over (flat (list_row_bytes l) (moved entries)) s.list)) (plain_moved entries lent₂ within)
      ∙ ap (λ (m : ℕ). build (added page reads) m (over (flat (list_row_bytes l) (moved entries)) s.list)) (length-map entries (shifted_entry l q))
      ∙ ap (build (added page reads) (length entries)) (list-shifted l q q_below entries s.list low)
      ∙ ap joined (sym picks)
    where
      P : Pair
      P = followed n l entries o s

      joined : Second → Pair
      joined z = record { answers = P.answers; lent = (added page (first_of P)).lent; second = z }

      picks : cond (gave (first_of P)) (added_second n l page P) P.second ≡ added_second n l page P
      picks = rw e

      lent₂ : Lent
      lent₂ = lent_too o.lent.scratch s

      reads : Outcome
      reads = read n l entries (in_list_order entries) lent₂

      build : Outcome → ℕ → List ℕ → Pair
      build x m t =
          record {
            answers = record { first = o.answer; second = x.answer; rows = m };
            lent = record { page = (added page o).lent.page; uses = o.lent.uses; roles = o.lent.roles; scratch = x.lent.scratch };
            second = record { list = t; page = x.lent.page; uses = x.lent.uses; roles = x.lent.roles };
          }

  -- of entries whose rows pass
  module _ (entries : List ℕ) (within : Below (2 ^ n) (map (constraint l) (map (vector l) entries))) (wide : Below (2 ^ (8 * list_row_bytes l)) entries) (lent : Lent) (s : Second) where
    abbrev o : Outcome
    o = read n l entries (in_list_order entries) lent

    abbrev rows : List ℕ
    rows = taken l entries (in_list_order entries)

    -- adding a page keeps which rows agree
    rest-moved : gave o ≡ true → rest n l (moved entries) ≡ moved (rest n l entries)
    rest-moved e =
        let G = page-given n l entries (in_list_order entries) lent e in
        let free = not-false (independent (map (constraint l) (picked_rows n rows))) (unfold singular in G.sound) in
        rw (
          order-stays entries,
          shifted-taken l q q_below entries (in_list_order entries),
          page_moved n l q (length_symbols n l page) q_below rows (taken-inside n l entries within (in_list_order entries)) G.chosen free,
        )
        (apart-shifted l q q_below (given_by n l entries) (length-page_of n l (picked_rows n rows) ∙ sym (length_symbols n l page)) entries)

    second-moved : with_second n l (moved entries) (added page o) s ≡ added_both n l page (with_second n l entries o s)
    unfolding with_second
    second-moved = go (gave o) refl
      where
        same_gave : gave (added page o) ≡ gave o
        same_gave = unfold gave added in refl

        go : (b : Bool) → gave o ≡ b → cond (gave (added page o)) (followed n l (rest n l (moved entries)) (added page o) s) (alone (added page o) s)
            ≡ added_both n l page (cond (gave o) (followed n l (rest n l entries) o s) (alone o s))
        go true e =
            rw (same_gave, e, rest-moved e)
            (followed-moved o s e (rest n l entries) (apart-inside l (given_by n l entries) entries (2 ^ n) within) (apart_below l (given_by n l entries) entries (2 ^ (8 * list_row_bytes l)) wide))
        go false e = rw (same_gave, e) (alone-moved o s e)

    entries-moved : with_second n l (moved entries) (read n l (moved entries) (in_list_order (moved entries)) lent) s ≡ added_both n l page (with_second n l entries o s)
    entries-moved = rw (plain_moved entries lent within) second-moved

-- ---- of lists of bytes

pub both_demand_3 : (n l : ℕ) (list : List ℕ) (lent : Lent) (s : Second) → Below 256 list → checks_both n l list lent s ≡ passes
    → (page : List ℕ) → length page ≡ n * l → Below 256 page
    → spec.both n l (shifted_list l (symbols n l page) list) lent s ≡ added_both n l page (spec.both n l list lent s)
unfolding spec.both after
both_demand_3 n l list lent s b p page size bytes =
    rw (checks-moved, p, entries-shifted_list l (symbols n l page) (symbols_below n l page size bytes) list b)
    (entries-moved n l page size bytes (entries_of l list) (unfold rows_of in inside n l list lent P) (entries_below l list b) lent s)
  where
    plain_passes : checks n l list lent ≡ passes
    plain_passes = plain_check n l list lent s p

    P : Passed n l list lent
    P = passed n l list lent plain_passes

    checks-moved : checks_both n l (shifted_list l (symbols n l page) list) lent s ≡ passes
    checks-moved =
        checks-both n l (shifted_list l (symbols n l page) list) lent s
        ∙ rw (length-shifted_list l (symbols n l page) (symbols_below n l page size bytes) list (whole n l list lent P))
        (rw (checks-shifted n l (symbols n l page) (symbols_below n l page size bytes) list lent P b) (rw (asked-fits n l list lent s p) plain_passes))
