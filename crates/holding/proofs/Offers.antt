-- One arrival more, offered to a state that holds what an order takes: the pass of its row in bytes is Algorithm 2's, and what fits.
-- Assumes nothing.
use mathlib.Core.Path.{◌≡◌, sym, ap, ap₂, ◌∙◌}
use mathlib.Core.Bool.{not}
use mathlib.Core.List.{List, [], ◌∷◌, ◌++◌}
use Prim.Native.Nat.{ℕ, suc, ◌+◌, ◌*◌, ◌^◌, ◌≤◌, ◌<◌}
use native.Mathlib.Numerals.{add-one}
use native.Mathlib.Omega.{arith}
use lib.Dec.{ltb}
use lib.ListN.{length, get_or, length-append}
use Rattle.space.specs.Space.{spans}
use Rattle.space.specs.Lists.{Below}
use Rattle.space.proofs.Lists.{below_map, below_append}
use Rattle.rows.specs.Rows.{row_bytes, vector}
use Rattle.rows.proofs.Entries.{vector_lt}
use Rattle.reading.specs.Reading.{kept_rows, rank}
use Rattle.reading.specs.Orders.{taken}
use Rattle.reading.proofs.Pick.{length-uses}
use Rattle.basis.specs.Algorithm2.{Pass, pass, Working, step, algorithm2}
use Rattle.absorb.specs.Absorbing as absorbing
use Rattle.absorb.specs.Absorbing.{tail_digits, pass_in, absorption}
use Rattle.holding.specs.Holds.{Offer}
use Rattle.basis.proofs.Model.{Right, step_right, algorithm2_right, algorithm2-snoc, rank_most, rank_room, step_test}
use Rattle.basis.proofs.Elimination.{rows_lt}
use Rattle.state.proofs.Sizes.{sizes}
use Rattle.absorb.proofs.Passing.{tail-size}
use Rattle.absorb.proofs.Absorbing.{Takes, takes_when, absorbed_so}

pub taken_below : (l : ℕ) (entries order : List ℕ) → Below (2 ^ (8 * row_bytes l)) (taken l entries order)
unfolding taken
taken_below l entries order = below_map (2 ^ (8 * row_bytes l)) (λ a. vector l (get_or entries a 0)) (λ a. vector_lt l (get_or entries a 0)) order

module _ {l : ℕ} {entries order : List ℕ} {arrival : ℕ} {state : List ℕ} (O : Offer l entries order arrival state) where
  abbrev pub key : ℕ
  key = row_bytes l

  abbrev pub rows : List ℕ
  rows = taken l entries order

  abbrev pub row : ℕ
  row = vector l (get_or entries arrival 0)

  abbrev pub before : Working
  before = algorithm2 (tail_digits key) (8 * key) rows

  abbrev pub p : Pass
  p = pass_in key row state

  pub narrow : key ≤ 40
  narrow = omega (arith, O.holds.most)

  -- the tail has a digit for each that the row has
  pub wide : 8 * key ≤ tail_digits key
  wide = omega (arith, sizes, narrow, tail-size key narrow)

  pub below : Below (2 ^ (8 * key)) rows
  below = taken_below l entries order

  pub right : Right (tail_digits key) (8 * key) rows before
  right = algorithm2_right (tail_digits key) (8 * key) wide rows below

  pub all_below : Below (2 ^ (8 * key)) (rows ++ (row ∷ []))
  all_below = below_append (2 ^ (8 * key)) rows (row ∷ []) below (vector_lt l (get_or entries arrival 0), tt)

  pub next : Right (tail_digits key) (8 * key) (rows ++ (row ∷ [])) (step (tail_digits key) row before)
  next = step_right (tail_digits key) (8 * key) wide rows row all_below before right

  -- the pass in bytes is the algorithm's
  pub pass_is : pass (tail_digits key) before.slots (row * 2 ^ tail_digits key) ≡ p
  pass_is = unfold pass_in in ap (λ (ss : List ℕ). pass (tail_digits key) ss (row * 2 ^ tail_digits key)) (sym O.holds.slots)

  pub ranked : length before.uses ≡ rank rows
  ranked = ap length right.uses ∙ length-uses rows

  pub fits : Takes key arrival (rank rows) (length state)
  fits = record {
    low = omega (arith, O.holds.some);
    high = narrow;
    arrival = omega (arith, O.inside, O.holds.many);
    rank = omega (arith, sizes, O.holds.most, rank_most (8 * key) rows below);
    whole = O.holds.room;
  }

  pub outcome : absorbing.taken key p arrival (rank rows) state ≡ absorption key row arrival (rank rows) state
  outcome = absorbed_so key row arrival (rank rows) state (takes_when key arrival (rank rows) (length state) fits)

  pub longer : length (order ++ (arrival ∷ [])) ≡ suc (length order)
  longer = length-append order (arrival ∷ []) ∙ add-one (length order)

  pub slots_next : (algorithm2 (tail_digits key) (8 * key) (rows ++ (row ∷ []))).slots ≡ (step (tail_digits key) row before).slots
  slots_next = ap (λ (s : Working). s.slots) (algorithm2-snoc (tail_digits key) (8 * key) rows row)

  pub test : ltb p.stop (8 * key) ≡ not (spans (kept_rows rows) row)
  test =
      ap₂ (λ (q : Pass) (n : ℕ). ltb q.stop n) (sym pass_is) (sym right.size)
      ∙ step_test (tail_digits key) (8 * key) wide rows row all_below before right

  -- where it stops, what is left has no more digits than a row and a tail
  pub left_lt : p.stop < 8 * key → p.vector < 2 ^ (tail_digits key + 8 * key)
  left_lt h =
      let size : length before.slots ≡ 8 * key = right.size in
      let stop : (pass (tail_digits key) before.slots (row * 2 ^ tail_digits key)).stop < length before.slots = omega (arith, ap (λ (q : Pass). q.stop) pass_is, size, h) in
      let kept-room : length (kept_rows rows) ≤ tail_digits key = omega (arith, wide, rank_room (8 * key) rows below) in
      omega (
        arith,
        rows_lt (tail_digits key) (kept_rows rows) before.slots kept-room right.slots row (rw size (vector_lt l (get_or entries arrival 0))) stop,
        ap (λ (q : Pass). q.vector) pass_is,
        ap (λ (n : ℕ). 2 ^ (tail_digits key + n)) size,
      )
