-- Demand 3, from written frames to a page: take any seeds, any pattern of flipped payload bits, and two pages of the same shape. The frames of
-- either page, with the same flips, and the same others in between that laying refuses, laid and read, give the same but for the page, and the
-- two pages given differ by the sum of the two pages written. So what is written on a page never decides if it gets through. A misread seed
-- names another sum, and of that nothing is claimed here: a frame that reads as a good one of the page is then a row like any other.
-- Assumes nothing.
use mathlib.Core.Path.{◌≡◌, refl, sym, ap, ap₂, ◌∙◌}
use Prim.Native.Nat.{ℕ, ◌*◌, ◌^◌, ◌≤◌, ◌<◌}
use native.Mathlib.Omega.{arith}
use mathlib.Core.Bool.{true}
use mathlib.Core.List.{List, [], ◌∷◌, map}
use lib.ListN.{length, length-map}
use Rattle.space.specs.Lists.{Below}
use Rattle.octets.specs.Octets.{number, flat, xor_bytes}
use Rattle.octets.proofs.Xors.{length-xor_bytes, xor_bytes_below}
use Rattle.octets.proofs.Numbers.{number_lt}
use Rattle.octets.proofs.Runs.{flat_below}
use Rattle.rows.specs.Rows.{shape, symbols, row_bytes, list_row_bytes, vector, entered, constraint}
use Rattle.rows.specs.Shift.{shifted, shifted_entry, shifted_list}
use Rattle.rows.proofs.Shifts.{shifted-entered}
use Rattle.rows.proofs.Entries.{vector-entered, entered_lt}
use Rattle.rows.proofs.Lists.{entries-flat}
use Rattle.rows.proofs.Pages.{symbols_below}
use Rattle.rows.proofs.Shape.{shape_range}
use Rattle.draw.specs.Draw as draw
use Rattle.draw.proofs.Laws.{drawn_below}
use Rattle.reading.specs.Outcome.{Lent, roomy, checks, passes, outcome}
use Rattle.reading.specs.Added.{added}
use Rattle.demands.proofs.Plain.{plain_demand_3}
use Rattle.crossing.specs.Held.{list_laid}
use Rattle.crossing.specs.Caught.{Caught, frames_of, own_of, Mixed}
use Rattle.crossing.specs.Taken.{Take, IsTake, taken}
use Rattle.crossing.proofs.Added.{same_symbols, symbols-plus}
use Rattle.crossing.proofs.Moved.{flipped-constraint, moved_row}
use Rattle.crossing.proofs.Laid.{Each, own-each, caught_list}
use Rattle.crossing.proofs.Flipped.{row_taken, entry_taken, taken_lt, taken_own}
use Rattle.crossing.proofs.Demand2.{flat-passes}

-- one page's frames, taken and laid
module _ (page-number n l : ℕ) (small : page-number < 2 ^ 32) (s : shape n l ≡ true) where
  module _ (page : List ℕ) (size : length page ≡ n * l) (b : Below 256 page) where
    low : Below (2 ^ (8 * l)) (symbols n l page)
    low = symbols_below n l page size b

    row_lt : (t : Take) → IsTake l t → row_taken n l page t < 2 ^ (8 * row_bytes l)
    row_lt t right = taken_lt page-number n l page small s b t right

    flips_lt : (t : Take) → IsTake l t → number t.flips < 2 ^ (8 * l)
    flips_lt t a = rw a.size at (number_lt t.flips a.bytes)

    taken-inside : (ts : List Take) → Each (IsTake l) ts → Below (2 ^ n) (map (constraint l) (map (vector l) (map (entry_taken n l page) ts)))
    taken-inside [] a = tt
    taken-inside (t ∷ ts) a =
        (rw (vector-entered l t.seed (row_taken n l page t) (row_lt t a.0)) inside, taken-inside ts a.1)
      where
        inside : constraint l (row_taken n l page t) < 2 ^ n
        inside = unfold row_taken in rw (flipped-constraint l (symbols n l page) low (draw.constraint n t.seed) (number t.flips) (flips_lt t a.0)) (drawn_below n t.seed (shape_range n l s).n_low)

    taken_low : (ts : List Take) → Each (IsTake l) ts → Below (2 ^ (8 * list_row_bytes l)) (map (entry_taken n l page) ts)
    taken_low [] a = tt
    taken_low (t ∷ ts) a = (entered_lt l t.seed (row_taken n l page t) (row_lt t a.0) a.0.seeded, taken_low ts a.1)

    crossed-entries : (caught : List (Caught Take)) → Mixed page-number n l (IsTake l) caught → length (own_of caught) ≤ 512 → (list : List ℕ) → list_row_bytes l * length (own_of caught) ≤ length list
        → list_laid page-number n l (frames_of (taken page-number n l page) caught) list ≡ flat (list_row_bytes l) (map (entry_taken n l page) (own_of caught))
    crossed-entries caught m most list room =
        caught_list page-number n l (taken page-number n l page) (entry_taken n l page) (IsTake l) (λ t a. taken_own page-number n l page small s b t a) s caught m most list room

  module _ (p q : List ℕ) (sp : length p ≡ n * l) (sq : length q ≡ n * l) (bp : Below 256 p) (bq : Below 256 q) where
    both : Below (2 ^ (8 * l)) (symbols n l (xor_bytes p q))
    both = symbols_below n l (xor_bytes p q) (length-xor_bytes p q (sp ∙ sym sq) ∙ sp) (xor_bytes_below p q bp bq)

    moved-taken : (t : Take) → IsTake l t → shifted l (symbols n l (xor_bytes p q)) (row_taken n l p t) ≡ row_taken n l q t
    unfolding row_taken
    moved-taken t a =
        rw (symbols-plus n l p q sp sq bp bq) (moved_row l (symbols n l p) (symbols n l q) (low p sp bp) (low q sq bq) (same_symbols n l p q sp sq bp bq) (draw.constraint n t.seed) (number t.flips) (flips_lt p sp bp t a))

    -- the sum of the two pages added to each entry, whose seed stays
    moved-entries : (ts : List Take) → Each (IsTake l) ts → map (shifted_entry l (symbols n l (xor_bytes p q))) (map (entry_taken n l p) ts) ≡ map (entry_taken n l q) ts
    moved-entries [] a = refl
    moved-entries (t ∷ ts) a =
        ap₂ (λ x xs. x ∷ xs)
        (shifted-entered l (symbols n l (xor_bytes p q)) both t.seed (row_taken n l p t) (row_lt p sp bp t a.0) ∙ ap (entered l t.seed) (moved-taken t a.0))
        (moved-entries ts a.1)

    pub crossing-3 : (caught : List (Caught Take)) → Mixed page-number n l (IsTake l) caught → length (own_of caught) ≤ 512
        → (list : List ℕ) → list_row_bytes l * length (own_of caught) ≤ length list → (lent : Lent) → roomy n l (length (own_of caught)) lent ≡ true
        → outcome n l (list_laid page-number n l (frames_of (taken page-number n l q) caught) list) lent
        ≡ added (xor_bytes p q) (outcome n l (list_laid page-number n l (frames_of (taken page-number n l p) caught) list) lent)
    crossing-3 caught m most list room lent roomed =
        rw (crossed-entries q sq bq caught m most list room) (rw (crossed-entries p sp bp caught m most list room)
        (ap (λ (bytes : List ℕ). outcome n l bytes lent) moved
        ∙ plain_demand_3 n l (flat (list_row_bytes l) entries) lent (flat_below (list_row_bytes l) entries) passing (xor_bytes p q) (length-xor_bytes p q (sp ∙ sym sq) ∙ sp) (xor_bytes_below p q bp bq)))
      where
        takes : List Take
        takes = own_of caught

        a : Each (IsTake l) takes
        a = own-each page-number n l (IsTake l) caught m

        entries : List ℕ
        entries = map (entry_taken n l p) takes

        moved : flat (list_row_bytes l) (map (entry_taken n l q) takes) ≡ shifted_list l (symbols n l (xor_bytes p q)) (flat (list_row_bytes l) entries)
        moved = unfold shifted_list in rw (entries-flat l entries (taken_low p sp bp takes a)) (rw (moved-entries takes a))

        passing : checks n l (flat (list_row_bytes l) entries) lent ≡ passes
        passing =
            flat-passes n l entries s (omega (arith, length-map takes (entry_taken n l p))) (taken_low p sp bp takes a) (taken-inside p sp bp takes a) lent
            (rw (length-map takes (entry_taken n l p)) roomed)
