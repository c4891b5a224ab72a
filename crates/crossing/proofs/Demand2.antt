-- Demand 2, from written frames to a page: frames written from one page with any seeds, in any order, with frames of other pages or shapes and
-- frames that break the layout in between, laid one after the other and read, give that page whenever their rank reaches the number of symbols.
-- Assumes nothing.
use mathlib.Core.Path.{◌≡◌, sym, ap, ◌∙◌}
use Prim.Native.Nat.{ℕ, ◌*◌, ◌^◌, ◌≤◌, ◌<◌}
use native.Mathlib.Omega.{arith}
use mathlib.Core.Bool.{true}
use mathlib.Core.List.{List, [], ◌∷◌, map}
use lib.ListN.{length, length-map}
use Rattle.space.specs.Lists.{marked, All, Below}
use Rattle.space.proofs.Lists.{map_both}
use Rattle.octets.specs.Octets.{flat}
use Rattle.rows.specs.Rows.{shape, symbols, row_bytes, list_row_bytes, seed, vector, entered, rows_of, constraint, agrees}
use Rattle.rows.proofs.Entries.{seed-entered, vector-entered, entered_lt}
use Rattle.rows.proofs.Lists.{row_count-flat, entries-flat, rows-flat}
use Rattle.rows.proofs.Pages.{symbols_below, made-constraint, made-agrees}
use Rattle.rows.proofs.Shape.{shape_range}
use Rattle.rows.proofs.Written.{made_lt, entry_of-entered}
use Rattle.draw.specs.Draw as draw
use Rattle.draw.proofs.Laws.{drawn_below}
use Rattle.draw.proofs.Inside.{draws_below}
use Rattle.reading.specs.declared.Answer.TheVariants as answer
use Rattle.reading.specs.Reading.{rank}
use Rattle.reading.specs.Orders.{counts, in_list_order}
use Rattle.reading.specs.Marks.{telling}
use Rattle.reading.specs.Outcome.{Lent, passes, roomy, checks, outcome, ended}
use Rattle.reading.proofs.Counted.{counts-map}
use Rattle.reading.proofs.Checks.{none_stray, flat-whole}
use Rattle.demands.proofs.Plain.{plain_demand_2}
use Rattle.writing.specs.Writing.{frame_of}
use Rattle.crossing.proofs.Sent.{frame-reads, frame-entry}
use Rattle.crossing.specs.Held.{list_laid}
use Rattle.crossing.specs.Caught.{Caught, frames_of, own_of, Mixed, IsSeed, row_for, rows_for, entries_for}
use Rattle.crossing.proofs.Laid.{Each, own-each, Own, caught_list}

-- ---- a list of entries passes the checks

pub flat-passes : (n l : ℕ) (entries : List ℕ) → shape n l ≡ true → length entries ≤ 512 → Below (2 ^ (8 * list_row_bytes l)) entries
    → Below (2 ^ n) (map (constraint l) (map (vector l) entries)) → (lent : Lent) → roomy n l (length entries) lent ≡ true → checks n l (flat (list_row_bytes l) entries) lent ≡ passes
unfolding checks
flat-passes n l entries s most b inside lent room =
    rw (s, flat-whole l entries most, row_count-flat l entries, room, rows-flat l entries b) (none_stray n l 0 (map (vector l) entries) inside)

-- ---- frames of one page, and others

module _ (number n l : ℕ) (page : List ℕ) (small : number < 2 ^ 32) (s : shape n l ≡ true) (size : length page ≡ n * l) (b : Below 256 page) where
  symbols_low : Below (2 ^ (8 * l)) (symbols n l page)
  symbols_low = symbols_below n l page size b

  drawn_word : (seed : ℕ) → draw.constraint n seed < 2 ^ 64
  drawn_word seed = draws_below n seed (shape_range n l s).n_low (shape_range n l s).n_high

  row_low : (seed : ℕ) → row_for n l page seed < 2 ^ (8 * row_bytes l)
  row_low seed = made_lt n l page b (draw.constraint n seed) (drawn_word seed)

  pub frame-own : (seed : ℕ) → IsSeed seed → Own number n l (frame_of number n l seed page) (entered l seed (row_for n l page seed))
  frame-own seed h = record {
    seed = seed;
    reads = frame-reads number n l seed page small h s;
    entry = frame-entry number n l seed page small h s ∙ entry_of-entered n l page b (draw.constraint n seed) (drawn_word seed) seed;
  }

  -- ---- their rows

  rows_inside : (seeds : List ℕ) → Below (2 ^ n) (map (constraint l) (rows_for n l page seeds))
  unfolding rows_for
  rows_inside [] = tt
  rows_inside (seed ∷ seeds) =
      (rw (made-constraint l (symbols n l page) symbols_low (draw.constraint n seed)) (drawn_below n seed (shape_range n l s).n_low), rows_inside seeds)

  rows_agree : (seeds : List ℕ) → All (agrees l (symbols n l page)) (rows_for n l page seeds)
  unfolding rows_for
  rows_agree [] = tt
  rows_agree (seed ∷ seeds) = (made-agrees l (symbols n l page) symbols_low (draw.constraint n seed), rows_agree seeds)

  -- ---- their entries

  entries_low : (seeds : List ℕ) → Each IsSeed seeds → Below (2 ^ (8 * list_row_bytes l)) (entries_for n l page seeds)
  unfolding entries_for
  entries_low [] each = tt
  entries_low (seed ∷ seeds) each = (entered_lt l seed (row_for n l page seed) (row_low seed) each.0, entries_low seeds each.1)

  entries-rows : (seeds : List ℕ) → map (vector l) (entries_for n l page seeds) ≡ rows_for n l page seeds
  unfolding entries_for rows_for
  entries-rows seeds = map_both (vector l) (λ seed. entered l seed (row_for n l page seed)) (row_for n l page) (λ seed. vector-entered l seed (row_for n l page seed) (row_low seed)) seeds

  -- of one page, two frames with one seed are one frame held
  entries-count : (seeds : List ℕ) → counts (entries_for n l page seeds) ≡ counts seeds
  unfolding entries_for
  entries-count seeds =
      counts-map (λ seed. entered l seed (row_for n l page seed))
      (λ d e h. sym (seed-entered l d (row_for n l page d) (row_low d)) ∙ ap (seed l) h ∙ seed-entered l e (row_for n l page e) (row_low e)) seeds

  module _ (caught : List (Caught ℕ)) (m : Mixed number n l IsSeed caught) (most : length (own_of caught) ≤ 512) where
    abbrev entries : List ℕ
    entries = entries_for n l page (own_of caught)

    many : length entries ≡ length (own_of caught)
    unfolding entries_for
    many = length-map (own_of caught) _

    low : Below (2 ^ (8 * list_row_bytes l)) entries
    low = entries_low (own_of caught) (own-each number n l IsSeed caught m)

    pub crossed-list : (list : List ℕ) → list_row_bytes l * length (own_of caught) ≤ length list
        → list_laid number n l (frames_of (λ seed. frame_of number n l seed page) caught) list ≡ flat (list_row_bytes l) entries
    unfolding entries_for
    crossed-list list room = caught_list number n l (λ seed. frame_of number n l seed page) _ IsSeed frame-own s caught m most list room

    -- whatever was caught besides: "gives that page whenever its rank reaches the number of symbols". The agreement is the number of seeds, each
    -- counted once.
    pub crossing-2 : (list : List ℕ) → list_row_bytes l * length (own_of caught) ≤ length list → (lent : Lent) → roomy n l (length (own_of caught)) lent ≡ true
        → n ≤ rank (rows_for n l page (own_of caught))
        → outcome n l (list_laid number n l (frames_of (λ seed. frame_of number n l seed page) caught) list) lent
        ≡ ended n l (entries_for n l page (own_of caught)) (in_list_order (entries_for n l page (own_of caught))) lent (answer.Page n (marked (counts (own_of caught)))) telling page
    crossing-2 list room lent roomed enough =
        rw (crossed-list list room)
        (plain_demand_2 n l (flat (list_row_bytes l) entries) lent passing page size b (rw same (rows_agree (own_of caught))) (rw same enough)
        ∙ rw (entries-flat l entries low, entries-count (own_of caught)))
      where
        same : rows_of l (flat (list_row_bytes l) entries) ≡ rows_for n l page (own_of caught)
        same = rows-flat l entries low ∙ entries-rows (own_of caught)

        passing : checks n l (flat (list_row_bytes l) entries) lent ≡ passes
        passing = flat-passes n l entries s (omega (arith, many)) low (rw (entries-rows (own_of caught)) (rows_inside (own_of caught))) lent (rw many roomed)
