-- `eliminate` leaves a state that holds what the order in it takes, and gives the rank: by one arrival more for each.
-- Assumes nothing.
use mathlib.Core.Path.{◌≡◌, refl, sym, ap, ap₂, ◌∙◌}
use mathlib.Core.Bool.{Bool, true, false, cond}
use mathlib.Core.List.{List, [], ◌∷◌, ◌++◌, map, append-nil}
use Prim.Native.Nat.{ℕ, ◌≤◌, ◌<◌}
use native.Mathlib.Omega.{arith}
use lib.ListN.{length, get_or, length-append, get_or-map}
use lib.Pow.{pow_pos}
use lib.Seq.{append_snoc}
use Rattle.space.specs.Space.{spans}
use Rattle.space.specs.Lists.{Below, select}
use Rattle.octets.specs.Octets.{number}
use Rattle.rows.specs.Rows.{row_bytes, vector, row_count, entries_of, rows_of}
use Rattle.rows.proofs.Entries.{vector-whole}
use Rattle.rows.proofs.Lists.{length-entries_of}
use Rattle.lists.specs.Lists.{row_at}
use Rattle.lists.proofs.Rows.{row-length, row_number}
use Rattle.reading.specs.Reading.{kept, kept_after, kept_rows, rank}
use Rattle.reading.specs.Orders.{taken}
use Rattle.reading.proofs.KeptPlaces.{taken-snoc}
use Rattle.reading.proofs.Ranks.{rank-other, rank-kept}
use Rattle.state.specs.Layout.{order_in}
use Rattle.state.specs.Written.{emptied}
use Rattle.views.proofs.Emptied.{emptied-length, emptied-order}
use Rattle.absorb.specs.declared.Absorbed.TheVariants.{Kept, Other}
use Rattle.std.specs.Prelude.{Some}
use Rattle.absorb.specs.Absorbing.{absorption}
use Rattle.echelon.specs.Eliminating.{Elimination, rank_after, one_more, absorb_in, Eliminates}
use Rattle.echelon.proofs.Turning.{length-order_in}
use Rattle.echelon.proofs.Outcomes.{eliminates_when, eliminated_so}
use Rattle.holding.specs.Holds.{Holds, Offer, Distinct, Held}
use Rattle.holding.proofs.Once.{distinct-new}
use Rattle.holding.proofs.EmptyHolds.{empty_holds}
use Rattle.holding.proofs.Stays.{in_order, in_length}
use Rattle.holding.proofs.Holding.{absorbed_answer, absorbed_holds}

-- the rank that the answer gives
pub rank-after : (rows : List ℕ) (row : ℕ) → rank_after (cond (spans (kept_rows rows) row) Other Kept) (rank rows) ≡ rank (rows ++ (row ∷ []))
unfolding rank_after
rank-after rows row = go (spans (kept_rows rows) row) refl
  where
    go : (b : Bool) → spans (kept_rows rows) row ≡ b → rank_after (cond b Other Kept) (rank rows) ≡ rank (rows ++ (row ∷ []))
    go true e = sym (rank-other rows row e)
    go false e = sym (rank-kept rows row e)

-- the row of an entry of nothing
vector_none : (l : ℕ) → vector l 0 ≡ 0
vector_none l = vector-whole l 0 (pow_pos _)

-- ---- arrival after arrival, from a state that holds some already

module _ (l : ℕ) (list : List ℕ) (bytes : Below 256 list) where
  abbrev entries : List ℕ
  entries = entries_of l list

  abbrev ranked : List ℕ → ℕ
  ranked order = rank (taken l entries order)

  -- the row in the list is the entry's
  pub row_is : (a : ℕ) → a < 512 → a < row_count l list → number (row_at l a list) ≡ vector l (get_or entries a 0)
  unfolding rows_of
  row_is a most h = row_number l a list most h bytes ∙ ap (get_or (map (vector l) entries) a) (sym (vector_none l)) ∙ get_or-map (vector l) entries a 0

  one_more_lem : (before : List ℕ) (a : ℕ) (state : List ℕ) (O : Offer l entries before a state)
      → one_more l list a (record { state = state; rank = ranked before })
      ≡ record { state = (absorption (row_bytes l) (vector l (get_or entries a 0)) a (ranked before) state).state; rank = ranked (before ++ (a ∷ [])) }
  unfolding one_more
  one_more_lem before a state O =
      rw (row-length l a list most inside, row_is a most inside)
      (ap (λ (r : ℕ). record { state = (absorption (row_bytes l) (vector l (get_or entries a 0)) a (ranked before) state).state; rank = r })
      (ap (λ o. rank_after o (ranked before)) (absorbed_answer O) ∙ rank-after (taken l entries before) (vector l (get_or entries a 0)) ∙ ap rank (sym (taken-snoc l entries before a))))
    where
      most : a < 512
      most = omega (arith, O.inside, O.holds.many)

      inside : a < row_count l list
      inside = omega (arith, O.inside, length-entries_of l list)

  from_one : (before : List ℕ) (a : ℕ) (order state : List ℕ) (O : Offer l entries before a state)
      → absorb_in l list (a ∷ order) (record { state = state; rank = ranked before })
      ≡ absorb_in l list order (record { state = (absorption (row_bytes l) (vector l (get_or entries a 0)) a (ranked before) state).state; rank = ranked (before ++ (a ∷ [])) })
  unfolding absorb_in
  from_one before a order state O = ap (absorb_in l list order) (one_more_lem before a state O)

  pub each_holds : (order before state : List ℕ) → length (before ++ order) ≤ 512 → Below (row_count l list) order → Distinct (before ++ order) → Holds l entries before state
      → Holds l entries (before ++ order) (absorb_in l list order (record { state = state; rank = ranked before })).state
      × ((absorb_in l list order (record { state = state; rank = ranked before })).rank ≡ ranked (before ++ order))
  each_holds [] before state few b d H = rw (append-nil before) (unfold absorb_in in (H, refl))
  each_holds (a ∷ order) before state few b d H =
      rw (from_one before a order state O) (rw (← append_snoc before a order)
      (each_holds order (before ++ (a ∷ [])) _ (rw (append_snoc before a order) few) b.1 (rw (append_snoc before a order) d) (absorbed_holds O)))
    where
      O : Offer l entries before a state
      O = record { holds = H; more = omega (arith, length-append before (a ∷ order)); inside = omega (arith, b.0, length-entries_of l list); new = distinct-new before order a d }

-- ---- all of an order

pub eliminated_holds : (l : ℕ) (list : List ℕ) (n : ℕ) (state order : List ℕ) → Eliminates l n (length state) → Below 256 list → row_count l list ≤ 512
    → order_in n state ≡ order → Below (row_count l list) order → Distinct order → Held l list n state order
eliminated_holds l list n state order E b many stands inside distinct =
    let is = eliminated_so l list n state (eliminates_when l n (length state) E) in
    let all = each_holds l list b order [] (emptied state) (omega (arith, length-order_in n state, ap length stands, E.many)) inside distinct
    (empty_holds l (entries_of l list) state E.some E.most (omega (arith, length-entries_of l list)) E.whole) in
    record {
      answer = sym is.0 ∙ ap Some (ap (λ (w : Elimination). w.rank) from ∙ all.1);
      holds = rw (← is.1) (rw from all.0);
      stays = ap (order_in n) (sym is.1) ∙ in_order l list n (order_in n state) _ ∙ emptied-order state n ∙ stands;
      long = ap length (sym is.1) ∙ in_length l list (order_in n state) _ ∙ emptied-length state;
    }
  where
    none : rank (taken l (entries_of l list) []) ≡ 0
    none = unfold taken rank kept_rows kept kept_after select in refl

    from : absorb_in l list (order_in n state) (record { state = emptied state; rank = 0 })
        ≡ absorb_in l list order (record { state = emptied state; rank = rank (taken l (entries_of l list) []) })
    from = ap₂ (λ (o : List ℕ) (r : ℕ). absorb_in l list o (record { state = emptied state; rank = r })) stands (sym none)
