-- The loop of `take_each`: before turn i the order has what is taken of the first i entries, the filter has their seeds, and all else is as it was.
-- Assumes nothing.
use mathlib.Core.Path.{◌≡◌, refl, sym, ap, ap₂, ◌∙◌}
use mathlib.Core.Bool.{Bool, true, false, cond}
use mathlib.Core.List.{List, [], ◌∷◌, ◌++◌, append-nil, append_assoc}
use Prim.Native.Nat.{ℕ, ◌+◌, ◌-◌, ◌*◌, ◌≤◌, ◌<◌}
use native.Mathlib.Nat.{le_refl, add-zero}
use native.Mathlib.Numerals.{add-one}
use native.Mathlib.Omega.{arith}
use lib.ListN.{length, take, drop, get_or, replicate, take-append-drop, length-append, length-replicate}
use lib.Seq.{take-suc, take_at, take-length, drop-drop, length-take-le}
use Rattle.space.specs.Lists.{select}
use Rattle.octets.specs.Octets.{bytes, flat, over, lay}
use Rattle.octets.proofs.Numbers.{length-bytes}
use Rattle.octets.proofs.Runs.{length-flat, flat-snoc}
use Rattle.octets.proofs.Lay.{take-before, drop-after, lay_zero, lay-over, lay-drop, lay-lay, length-lay, part-lay}
use Rattle.octets.proofs.Laid.{drop-lay}
use Rattle.filter.specs.Filter.{filter_bytes, note, noting}
use Rattle.filter.proofs.Noted.{length-note}
use Rattle.rows.specs.Rows.{row_count, entries_of}
use Rattle.rows.proofs.Lists.{length-entries_of}
use Rattle.reading.specs.Orders.{counts_after, counts, in_list_order}
use Rattle.reading.proofs.Listed.{listed-snoc}
use Rattle.state.specs.Layout.{order_at, filter_at, state_bytes, filter_in}
use Rattle.noting.specs.Noting.{ordered_state, forgotten, noted_state}
use Rattle.state.proofs.Sizes.{sizes}
use Rattle.noting.proofs.Fits.{ordered_is, forgotten_is, noted_is}
use Rattle.repeats.specs.Repeats.{repeated}
use Rattle.order.specs.Listed.{listed, seeds_noted, written, Next, seed_at, taken_next, taken_state}
use Rattle.order.proofs.Listed.{length-order}
use Rattle.order.proofs.Seeds.{length-seeds, seeds-more, repeated_is}

-- ---- parts laid beside each other

-- one part more behind a part that was laid
lay-more : (at n : ℕ) (a b old : List ℕ) → length a ≡ n → at ≤ length old → lay (at + n) b (lay at a old) ≡ lay at (a ++ b) old
lay-more at n a b old e h =
    lay-drop at n b (lay at a old) ∙ ap₂ (λ (f t : List ℕ). f ++ lay n b t) (take-before at at a old (le_refl at) h) behind
    ∙ ap (λ (t : List ℕ). take at old ++ t) (lay-over n a b (drop at old) e) ∙ unfold lay over in refl
  where
    behind : drop at (lay at a old) ≡ over a (drop at old)
    behind = ap (λ (k : ℕ). drop at (lay k a old)) (sym (add-zero at)) ∙ drop-lay at 0 a old h ∙ lay_zero a (drop at old)

lay_none : (at : ℕ) (old : List ℕ) → old ≡ lay at [] old
unfolding lay
lay_none at old = sym (take-append-drop at old)

-- two parts that do not meet, in either order
module _ (at j : ℕ) (a b old : List ℕ) (room : at + length a + j ≤ length old) where
  before : take (at + length a) (lay at a old) ≡ take at old ++ a
  unfolding lay
  before =
      ap (take (at + length a)) (sym (append_assoc (take at old) a (drop (length a) (drop at old))))
      ∙ take_at (take at old ++ a) (drop (length a) (drop at old)) (at + length a) (length-append (take at old) a ∙ ap (λ (n : ℕ). n + length a) (length-take-le at old (omega arith)))

  lay-apart : lay at a (lay (at + length a + j) b old) ≡ lay (at + length a + j) b (lay at a old)
  lay-apart = first ∙ sym second
    where
      rest : List ℕ
      rest = lay j b (drop (at + length a) old)

      first : lay at a (lay (at + length a + j) b old) ≡ take at old ++ (a ++ rest)
      first =
          unfold lay in ap₂ (λ (f t : List ℕ). f ++ (a ++ t)) (take-before at (at + length a + j) b old (omega arith) room)
          (drop-drop (length a) at (lay (at + length a + j) b old) ∙ drop-lay (at + length a) j b old (omega arith))

      second : lay (at + length a + j) b (lay at a old) ≡ take at old ++ (a ++ rest)
      second =
          lay-drop (at + length a) j b (lay at a old)
          ∙ ap₂ (λ (f t : List ℕ). f ++ lay j b t) before (drop-after (at + length a) at a old (le_refl (at + length a)) (omega arith))
          ∙ append_assoc (take at old) a rest

lay-before : (at c : ℕ) (a b old : List ℕ) → at + length a ≤ c → c ≤ length old → lay at a (lay c b old) ≡ lay c b (lay at a old)
lay-before at c a b old h room =
    let e : at + length a + (c - (at + length a)) ≡ c = omega arith in
    rw e at (lay-apart at (c - (at + length a)) a b old (omega arith))

-- ---- the loop

-- a state whose filter was emptied: it is where the loop begins, and what is written in it is written in the state before
module _ (l : ℕ) (old : List ℕ) (whole : state_bytes ≤ length old) where
  empty-long : length {A = ℕ} (replicate filter_bytes 0) ≡ filter_bytes
  empty-long = length-replicate filter_bytes 0

  written_none : forgotten old ≡ written l [] (forgotten old)
  unfolding written seeds_noted noting in_list_order counts counts_after select flat
  written_none = rw (forgotten_is old whole) (sym (ap (lay filter_at (replicate filter_bytes 0)) (sym (lay_none order_at (lay filter_at (replicate filter_bytes 0) old)))
      ∙ lay-lay filter_at (replicate filter_bytes 0) (replicate filter_bytes 0) old refl (omega (arith, sizes))))

  written-forgotten : (entries : List ℕ) → length entries ≤ 512 → written l entries (forgotten old) ≡ written l entries old
  unfolding written
  written-forgotten entries few =
      let order : List ℕ = flat 2 (in_list_order entries) in
      let size : length (flat 2 (in_list_order entries)) ≤ 1024 = omega (arith, length-flat 2 (in_list_order entries), length-order entries) in
      let base : length (lay order_at (flat 2 (in_list_order entries)) old) ≡ length old = length-lay order_at (flat 2 (in_list_order entries)) old (omega (arith, sizes, size)) in
      ap (λ (s : List ℕ). lay filter_at (seeds_noted l entries) (lay order_at order s)) (forgotten_is old whole)
      ∙ ap (lay filter_at (seeds_noted l entries)) (lay-before order_at filter_at order (replicate filter_bytes 0) old (omega (arith, sizes, size)) (omega (arith, sizes)))
      ∙ lay-lay filter_at (seeds_noted l entries) (replicate filter_bytes 0) (lay order_at order old) (length-seeds l entries ∙ sym empty-long) (omega (arith, sizes, base))

module _ (l : ℕ) (list old : List ℕ) where
  abbrev entries : List ℕ
  entries = entries_of l list

  pub record Writing (now : List ℕ) (m i taken : ℕ) : Type 0 where
    pub within : i ≤ m
    pub long : length now ≡ length old
    pub some : taken ≡ length (in_list_order (take i entries))
    pub holds : now ≡ written l (take i entries) old

  pub writing_start : (state : List ℕ) (m : ℕ) → state_bytes ≤ length state → old ≡ forgotten state → Writing old m 0 0
  unfolding in_list_order counts counts_after select
  writing_start state m whole e = record {
    within = omega arith;
    long = refl;
    some = refl;
    holds = e ∙ written_none l state whole ∙ ap (written l []) (sym e);
  }

  module _ (m : ℕ) (size : m ≡ row_count l list) (many : m ≤ 512) (whole : state_bytes ≤ length old) where
    module _ (now : List ℕ) (i taken : ℕ) (W : Writing now m i taken) where
      -- the arrivals written so far, and the state with them
      front : List ℕ
      front = flat 2 (in_list_order (take i entries))

      base : List ℕ
      base = lay order_at front old

      first : i ≤ length entries → length (take i entries) ≡ i
      first h = length-take-le i entries h

      module _ (h : i < m) where
        inside : i < length entries
        inside = omega (arith, size, length-entries_of l list)

        few : taken ≤ i
        few = omega (arith, W.some, length-order (take i entries), first (omega (arith, inside)))

        front-size : length front ≡ taken * 2
        unfolding front
        front-size = length-flat 2 (in_list_order (take i entries)) ∙ ap (λ (n : ℕ). n * 2) (sym W.some)

        base-size : length base ≡ length old
        unfolding base
        base-size = length-lay order_at front old (omega (arith, sizes, front-size, few))

        is : now ≡ lay filter_at (seeds_noted l (take i entries)) base
        unfolding front base
        is = W.holds ∙ unfold written in refl

        filter_is : filter_in now ≡ seeds_noted l (take i entries)
        unfolding filter_in
        filter_is = rw is (part-lay filter_at filter_bytes (seeds_noted l (take i entries)) base (length-seeds l (take i entries)) (omega (arith, sizes, base-size)))

        pub writing_next : (Next l list i now) × (taken ≤ i)
        writing_next = (record { has = omega arith; many = omega arith; whole = omega (arith, W.long); noted = filter_is }, few)

        grown : take (i + 1) entries ≡ take i entries ++ (get_or entries i 0 ∷ [])
        grown = ap (λ (n : ℕ). take n entries) (add-one i) ∙ take-suc entries i 0 inside

        noted-now : noted_state (seed_at l list i) now ≡ lay filter_at (seeds_noted l (take (i + 1) entries)) base
        unfolding seed_at
        noted-now =
            (noted_is (seed_at l list i) now (omega (arith, W.long))).1
            ∙ ap₂ (λ (f s : List ℕ). lay filter_at (note (seed_at l list i) f) s) filter_is is
            ∙ lay-lay filter_at (note (seed_at l list i) (seeds_noted l (take i entries))) (seeds_noted l (take i entries)) base (length-note (seed_at l list i) (seeds_noted l (take i entries))) (omega (arith, sizes, base-size))
            ∙ ap (λ (f : List ℕ). lay filter_at f base) (sym (ap (seeds_noted l) grown ∙ seeds-more l (take i entries) (get_or entries i 0)))

        -- the order of one entry more
        more : (b : Bool) → repeated l i list ≡ b → in_list_order (take (i + 1) entries) ≡ in_list_order (take i entries) ++ cond b [] (i ∷ [])
        more b e =
            ap in_list_order grown ∙ listed-snoc (take i entries) (get_or entries i 0)
            ∙ ap₂ (λ (c : Bool) (n : ℕ). in_list_order (take i entries) ++ cond c [] (n ∷ [])) (sym (repeated_is l i list (omega arith) (omega arith)) ∙ e) (first (omega (arith, inside)))

        same_when : repeated l i list ≡ true → in_list_order (take (i + 1) entries) ≡ in_list_order (take i entries)
        same_when e = more true e ∙ append-nil (in_list_order (take i entries))

        -- a row that is not taken, and one that is
        left_out : repeated l i list ≡ true → lay filter_at (seeds_noted l (take (i + 1) entries)) base ≡ written l (take (i + 1) entries) old
        unfolding written front base
        left_out e = ap (λ (o : List ℕ). lay filter_at (seeds_noted l (take (i + 1) entries)) (lay order_at (flat 2 o) old)) (sym (same_when e))

        taken_in_lem : repeated l i list ≡ false → ordered_state taken i (lay filter_at (seeds_noted l (take (i + 1) entries)) base) ≡ written l (take (i + 1) entries) old
        taken_in_lem e =
            let seeds : List ℕ = seeds_noted l (take (i + 1) entries) in
            let wide : length (lay filter_at (seeds_noted l (take (i + 1) entries)) base) ≡ length base =
            length-lay filter_at (seeds_noted l (take (i + 1) entries)) base (omega (arith, sizes, length-seeds l (take (i + 1) entries), base-size)) in
            ordered_is taken i (lay filter_at seeds base) (omega (arith, few)) (omega arith) (omega (arith, wide, base-size))
            ∙ lay-before (order_at + 2 * taken) filter_at (bytes 2 i) seeds base (omega (arith, sizes, length-bytes 2 i, few)) (omega (arith, sizes, base-size))
            ∙ ap (lay filter_at seeds) behind ∙ unfold written in refl
          where
            behind : lay (order_at + 2 * taken) (bytes 2 i) base ≡ lay order_at (flat 2 (in_list_order (take (i + 1) entries))) old
            behind = unfold front base in
                lay-more order_at (2 * taken) (flat 2 (in_list_order (take i entries))) (bytes 2 i) old (unfold front in front-size ∙ omega arith) (omega (arith, sizes))
                ∙ ap (λ (bs : List ℕ). lay order_at bs old) (sym (flat-snoc 2 (in_list_order (take i entries)) i) ∙ ap (flat 2) (sym (more false e)))

        pub writing_more : (next : List ℕ) (r : ℕ) → r ≡ taken_next l list i taken → next ≡ taken_state l list i taken now → length next ≡ length now → Writing next m (i + 1) r
        unfolding taken_next taken_state
        writing_more next r a e k = go (repeated l i list) refl
          where
            go : (b : Bool) → repeated l i list ≡ b → Writing next m (i + 1) r
            go true q = record {
              within = omega arith;
              long = k ∙ W.long;
              some = a ∙ rw q (W.some ∙ ap length (sym (same_when q)));
              holds = e ∙ rw q (noted-now ∙ left_out q);
            }
            go false q = record {
              within = omega arith;
              long = k ∙ W.long;
              some = a ∙ rw q (omega (arith, W.some, ap length (more false q), length-append (in_list_order (take i entries)) (i ∷ [])));
              holds = e ∙ rw q (ap (ordered_state taken i) noted-now ∙ taken_in_lem q);
            }

      -- in the state before its filter was emptied
      pub writing_end : m ≤ i → (state : List ℕ) → state_bytes ≤ length state → old ≡ forgotten state → (taken ≡ length (listed l list)) × (now ≡ written l (entries_of l list) state)
      writing_end h state long e =
          let last : i ≡ length entries = omega (arith, W.within, size, length-entries_of l list) in
          let all : take i entries ≡ entries = ap (λ (n : ℕ). take n entries) last ∙ take-length entries in (
            W.some ∙ ap (λ (es : List ℕ). length (in_list_order es)) all,
            W.holds ∙ ap₂ (λ (es s : List ℕ). written l es s) all e ∙ written-forgotten l state long entries (omega (arith, size, length-entries_of l list)),
          )
