-- Enough uses: n kept rows that agree with a page, each with as many uses as there are misread rows, are picked and give the page. For they span
-- every row that agrees; so a kept row beside them is misread, and only misread rows that are not kept can use it.
-- Assumes nothing.
use mathlib.Core.Path.{◌≡◌, refl, sym, ◌∙◌}
use Prim.Native.Nat.{ℕ, ◌^◌, ◌≤◌, ◌<◌}
use native.Mathlib.Omega.{arith}
use mathlib.Core.Bool.{Bool, true, false, not, true≢false}
use mathlib.Core.List.{List, [], ◌∷◌, map}
use lib.Dec.{leb, ltb}
use lib.ListN.{length, get_or, length-map}
use borrow.Author.Tests.{leb-true, le-leb, le-ltb, lt-ltb, ltb-true}
use Rattle.space.specs.Lists.{select, count, All, Below}
use Rattle.space.specs.Space.{spans, set_of, independent}
use Rattle.space.proofs.Lists.{all_at, all_mono, select-map, select_below, length-select, marked_le, select-all}
use Rattle.space.proofs.Sets.{select-independent}
use Rattle.space.proofs.Dimension.{spans_all}
use Rattle.space.proofs.Linear.{map-spans}
use Rattle.rows.specs.Rows.{constraint, agrees, made}
use Rattle.rows.proofs.Pages.{made-⊕, made_inj, agrees-made, all_made, agree-independent}
use Rattle.reading.specs.Reading.{kept, kept_rows, other_rows, rank, uses, picked, picked_rows, few, singular}
use Rattle.reading.proofs.Kept.{kept-independent}
use Rattle.reading.specs.Properties.{Most}
use Rattle.reading.proofs.Pick.{length-uses, pick_only, pick_exactly, picked-independent}
use Rattle.confirmed.specs.Confirmed.{confirmed, misread, IsPage, GivesPage, Enough, given}
use Rattle.confirmed.proofs.Counts.{count_at, count-more}
use Rattle.confirmed.proofs.Masks.{select-outside, all_place}
use Rattle.confirmed.proofs.Agreeing.{misread_is}
use Rattle.confirmed.proofs.More.{confirmed_exactly}
use Rattle.confirmed.proofs.Misread.{uses_at_lem, shares, agreed_page}
use Rattle.confirmed.proofs.Within.{set-within, left_free}

-- n independent rows that agree with a page span every row that does
agreed_span : (n l : ℕ) (page : List ℕ) → IsPage n l page → (ps : List ℕ) → Below (2 ^ n) (map (constraint l) ps) → All (agrees l page) ps
    → independent ps ≡ true → length ps ≡ n → (r : ℕ) → constraint l r < 2 ^ n → agrees l page r ≡ true → spans ps r ≡ true
agreed_span n l page p ps inside a free size r h g =
    rw (agrees-made l page r g) at (rw (all_made l page ps a) at (map-spans (made l page) (made-⊕ l page p.symbols) (made_inj l page p.symbols) (map (constraint l) ps) (constraint l r)
    ∙ spans_all n (map (constraint l) ps) inside (agree-independent l page p.symbols ps a ∙ free) (length-map ps (constraint l) ∙ size) (constraint l r) h))

module _ (n l : ℕ) (rows page : List ℕ) (inside : Below (2 ^ n) (map (constraint l) rows)) (p : IsPage n l page)
    (b : ℕ) (most : count (misread l page) rows ≤ b) (e : Enough n l rows page b) where
  each-kept : length e.these ≡ length (kept_rows rows)
  unfolding rank
  each-kept = e.size

  each_use : length e.these ≡ length (uses rows)
  each_use = e.size ∙ sym (length-uses rows)

  abbrev low : ℕ → Bool
  low r = ltb (constraint l r) (2 ^ n)

  all_low : (rs : List ℕ) → Below (2 ^ n) (map (constraint l) rs) → All low rs
  all_low [] h = tt
  all_low (r ∷ rs) h = (lt-ltb (constraint l r) (2 ^ n) h.0, all_low rs h.1)

  others_low : All low (other_rows rows)
  unfolding other_rows
  others_low = select-all low (map not (kept rows)) rows (all_low rows inside)

  kept_low : All low (kept_rows rows)
  unfolding kept_rows
  kept_low = select-all low (kept rows) rows (all_low rows inside)

  these-inside : Below (2 ^ n) (map (constraint l) (select e.these (kept_rows rows)))
  unfolding kept_rows
  these-inside =
      rw (← select-map (constraint l) e.these (select (kept rows) rows)) (rw (← select-map (constraint l) (kept rows) rows)
      (select_below (2 ^ n) e.these (select (kept rows) (map (constraint l) rows)) (select_below (2 ^ n) (kept rows) (map (constraint l) rows) inside)))

  -- every row that agrees is a sum of them
  good_spanned : (r : ℕ) → low r ≡ true → agrees l page r ≡ true → spans (select e.these (kept_rows rows)) r ≡ true
  good_spanned r h = agreed_span n l page p (select e.these (kept_rows rows)) these-inside e.agree (select-independent e.these (kept_rows rows) (kept-independent rows))
      (length-select e.these (kept_rows rows) each-kept ∙ e.number) r (ltb-true (constraint l r) (2 ^ n) h)

  -- so what is not is misread
  bad : (r : ℕ) → low r ≡ true → (spans (select e.these (kept_rows rows)) r ≡ true → ⊥) → misread l page r ≡ true
  bad r h none = go (agrees l page r) refl
    where
      go : (c : Bool) → agrees l page r ≡ c → misread l page r ≡ true
      go true d = absurd (none (good_spanned r h d))
      go false d = misread_is l page r d

  -- a kept row beside them has fewer uses than there are misread rows
  fewer : (j : ℕ) → j < rank rows → get_or e.these j false ≡ false → get_or (uses rows) j 0 < b
  fewer j h out = omega (arith, uses_at_lem rows j h, used, own, shares l page rows, most)
    where
      place : j < length (kept_rows rows)
      place = unfold rank in h

      used : count (λ r. get_or (set_of (kept_rows rows) r) j false) (other_rows rows) ≤ count (misread l page) (other_rows rows)
      used = count-more low (λ r. get_or (set_of (kept_rows rows) r) j false) (misread l page)
          (λ r h s. bad r h (λ t. true≢false (sym s ∙ set-within e.these (kept_rows rows) each-kept (kept-independent rows) r t j out))) (other_rows rows) others_low

      own : 1 ≤ count (misread l page) (kept_rows rows)
      own = count_at (misread l page) (kept_rows rows) j place
          (bad (get_or (kept_rows rows) j 0) (all_place low (kept_rows rows) kept_low j place) (left_free e.these (kept_rows rows) each-kept (kept-independent rows) j place out))

  chosen : Most n (uses rows) e.these
  chosen = record {
    size = each_use;
    number = e.number;
    above = λ x y m k. omega (arith, leb-true b x (all_at (leb b) (select e.these (uses rows)) e.used x m), ltb-true y b (all_at (λ u. ltb u b) (select (map not e.these) (uses rows)) outside y k));
  }
    where
      outside : All (λ u. ltb u b) (select (map not e.these) (uses rows))
      outside = select-outside (λ u. ltb u b) e.these (uses rows) each_use (λ j h out. lt-ltb (get_or (uses rows) j 0) b (fewer j (omega (arith, h, length-uses rows)) out))

  -- they are picked
  suffices_picked : e.these ≡ picked n rows
  suffices_picked = pick_only n rows e.these chosen

  picked-agree : All (agrees l page) (picked_rows n rows)
  unfolding picked_rows
  picked-agree = rw suffices_picked at e.agree

  -- a page is given
  pub suffices_gives : GivesPage n l rows
  suffices_gives = record {
    enough = unfold few in le-ltb (rank rows) n (omega (arith, marked_le e.these, e.size, e.number));
    chosen = (pick_exactly n rows).1 (e.these, chosen);
    sound = unfold singular in rw (agree-independent l page p.symbols (picked_rows n rows) picked-agree ∙ picked-independent n rows);
  }

  -- it is that page
  pub suffices : given n l rows ≡ page
  suffices = agreed_page n l rows page inside suffices_gives p picked-agree

  -- and confirmed, where b is not 0
  pub suffices_confirmed : 1 ≤ b → confirmed n rows ≡ true
  suffices_confirmed h = (confirmed_exactly n rows).1 (all_mono (leb b) (leb 1) (λ u t. le-leb 1 u (omega (arith, h, leb-true b u t))) (select (picked n rows) (uses rows)) used)
    where
      used : All (leb b) (select (picked n rows) (uses rows))
      used = rw suffices_picked at e.used
