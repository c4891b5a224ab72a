-- The entries of the rows that don't agree with a page, gathered one after the other: what the loop of `gather` holds at an arrival, and how it goes on.
-- Assumes nothing.
use mathlib.Core.Path.{◌≡◌, refl, sym, ap, ◌∙◌}
use Prim.Native.Nat.{ℕ, suc, ◌+◌, ◌*◌, ◌≤◌, ◌<◌}
use native.Mathlib.Nat.{suc-mul, mul-le-mul_right, div-mul-le_self}
use native.Mathlib.Numerals.{add-one}
use native.Mathlib.Omega.{arith}
use mathlib.Core.Bool.{Bool, true, false, cond}
use mathlib.Core.List.{List, [], ◌∷◌, ◌++◌, append-nil}
use lib.ListN.{length, take, length-append}
use lib.Seq.{take-suc, take_all}
use Rattle.space.specs.Lists.{Below, select}
use Rattle.octets.specs.Octets.{number, bytes, flat, over, lay}
use Rattle.octets.proofs.Numbers.{bytes-number}
use Rattle.octets.proofs.Runs.{flat-snoc, length-flat, over_none}
use Rattle.octets.proofs.Lay.{lay-over}
use Rattle.rows.specs.Rows.{list_row_bytes, row_count, entries_of, vector, rows_of, agrees}
use Rattle.rows.specs.Bytes.{cut, bytes_agree}
use Rattle.rows.proofs.Lists.{length-entries_of}
use Rattle.rows.proofs.Written.{bytes_agree-row}
use Rattle.lists.specs.Lists.{entry_at, row_at}
use Rattle.lists.proofs.Rows.{entry_below, entry_length, entry-number, row-length, row_number}
use Rattle.reading.proofs.Spread.{get_or_mapped}
use Rattle.apart.specs.Apart.{apart, Gathered, gathers, appended, gathered}
use Rattle.apart.proofs.Apart.{apart_snoc}

module _ (l : ℕ) (list page into₀ : List ℕ) where
  -- the entries gathered from the first i
  abbrev pub front : ℕ → List ℕ
  front i = apart l (cut l page) (take i (entries_of l list))

  pub record Gathering (into : List ℕ) (k i : ℕ) : Type 0 where
    pub most : k ≤ i
    pub long : length into ≡ length into₀
    pub holds : gathers k into ≡ gathered l (front i) into₀

  pub gathering_start : Gathering into₀ 0 0
  unfolding gathered apart select flat
  gathering_start = record { most = omega arith; long = refl; holds = ap (gathers 0) (sym (over_none into₀)) }

  module _ (into : List ℕ) (k i : ℕ) (G : Gathering into k i) where
    pub gathering_end : row_count l list ≤ i → gathers k into ≡ gathered l (apart l (cut l page) (entries_of l list)) into₀
    gathering_end h = G.holds ∙ ap (λ t. gathered l (apart l (cut l page) t) into₀) (take_all i (entries_of l list) (omega (arith, length-entries_of l list)))

    counted : k ≡ length (front i)
    unfolding gathered
    counted = ap (λ (g : Gathered). g.rows) G.holds

    written : into ≡ over (flat (list_row_bytes l) (front i)) into₀
    unfolding gathered
    written = ap (λ (g : Gathered). g.list) G.holds

    abbrev row : List ℕ
    row = row_at l i list

    abbrev entry : List ℕ
    entry = entry_at l i list

    module _ (h : i < row_count l list) (few : row_count l list ≤ 512) where
      entry-long : length entry ≡ list_row_bytes l
      entry-long = entry_length l i list (omega arith) h

      -- there is room for one more
      pub gathering_room : length list ≤ length into₀ → (k * length entry + length entry ≤ length into) × (k < length into)
      gathering_room fits =
          let whole : row_count l list * list_row_bytes l ≤ length list = unfold row_count in div-mul-le_self (length list) (list_row_bytes l) in
          let room : k * list_row_bytes l + list_row_bytes l ≤ length into =
          omega (arith, suc-mul k (list_row_bytes l), mul-le-mul_right {m = suc k} {n = row_count l list} (list_row_bytes l) (omega (arith, G.most)), whole, G.long) in
          (rw entry-long room, omega (arith, room, mul-le-mul_right {m = 1} {n = list_row_bytes l} k (omega arith)))

      module _ (low : 1 ≤ l) (high : l ≤ 32) (b : Below 256 list) where
        -- the next row is the one in the next entry
        row_is : number row ≡ vector l (number entry)
        unfolding rows_of
        row_is =
            row_number l i list (omega arith) h b ∙ get_or_mapped (vector l) (entries_of l list) i (omega (arith, length-entries_of l list))
            ∙ ap (vector l) (sym (entry-number l i list (omega arith) h))

        agreeing : bytes_agree page row ≡ agrees l (cut l page) (vector l (number entry))
        agreeing = bytes_agree-row l page row (row-length l i list (omega arith) h) low high ∙ ap (agrees l (cut l page)) row_is

        front-more : front (i + 1) ≡ front i ++ cond (agrees l (cut l page) (vector l (number entry))) [] (number entry ∷ [])
        front-more =
            ap (λ (j : ℕ). front j) (add-one i)
            ∙ ap (apart l (cut l page)) (take-suc (entries_of l list) i 0 (omega (arith, length-entries_of l list)) ∙ ap (λ (x : ℕ). take i (entries_of l list) ++ (x ∷ [])) (sym (entry-number l i list (omega arith) h)))
            ∙ apart_snoc l (cut l page) (take i (entries_of l list)) (number entry)

        appended-more : appended page row entry k into ≡ gathered l (front (i + 1)) into₀
        unfolding appended gathered
        appended-more = rw (agreeing, front-more) (go (agrees l (cut l page) (vector l (number entry))))
          where
            one : bytes (list_row_bytes l) (number entry) ≡ entry
            one = ap (λ (w : ℕ). bytes w (number entry)) (sym entry-long) ∙ bytes-number entry (entry_below l i list b)

            size : length (flat (list_row_bytes l) (front i)) ≡ k * length entry
            size = length-flat (list_row_bytes l) (front i) ∙ rw (entry-long, ← counted)

            go : (agree : Bool) → cond agree (gathers k into) (gathers (suc k) (lay (k * length entry) entry into))
                ≡ gathers (length (front i ++ cond agree [] (number entry ∷ []))) (over (flat (list_row_bytes l) (front i ++ cond agree [] (number entry ∷ []))) into₀)
            go true = rw (append-nil (front i)) (unfold gathered in G.holds)
            go false =
                let more : length (front i ++ (number entry ∷ [])) ≡ suc k = length-append (front i) (number entry ∷ []) ∙ omega (arith, counted) in
                rw (more, flat-snoc (list_row_bytes l) (front i) (number entry), one)
                (ap (gathers (suc k)) (ap (lay (k * length entry) entry) written ∙ lay-over (k * length entry) (flat (list_row_bytes l) (front i)) entry into₀ size))

        -- one entry more
        pub gathering_more : (r : ℕ) (now : List ℕ) → gathers r now ≡ appended page row entry k into → length now ≡ length into → Gathering now r (i + 1)
        gathering_more r now e same = record {
          most = most-more (bytes_agree page row) (unfold appended in e);
          long = same ∙ G.long;
          holds = e ∙ appended-more;
        }
          where
            most-more : (agree : Bool) → gathers r now ≡ cond agree (gathers k into) (gathers (suc k) (lay (k * length entry) entry into)) → r ≤ i + 1
            most-more true q = omega (arith, ap (λ (g : Gathered). g.rows) q, G.most)
            most-more false q = omega (arith, ap (λ (g : Gathered). g.rows) q, G.most)
