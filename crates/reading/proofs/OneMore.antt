-- One row more at the end of the list: how the kept rows, the others and the uses grow. These are the turns of any loop over a list.
-- Assumes nothing.
use mathlib.Core.Path.{◌≡◌, refl, ap, ap₂, ◌∙◌}
use Prim.Native.Nat.{ℕ, suc, ◌<◌}
use native.Mathlib.Numerals.{add-one}
use mathlib.Core.Bool.{Bool, true, false, cond, not}
use mathlib.Core.List.{List, [], ◌∷◌, ◌++◌, map, append-nil}
use lib.ListN.{length, get_or, length-map, length-append, get_or-append}
use lib.Seq.{get_or-append_seam}
use Rattle.space.specs.Lists.{select, count, tabulate, All}
use Rattle.space.specs.Space.{spans, set_of, independent}
use Rattle.space.proofs.Lists.{map-append, select-append, count_same, count_none, count-snoc, tabulate_ext, tabulate-snoc}
use Rattle.space.proofs.Sets.{independent-snoc, length-set_of, set_of-append}
use Rattle.reading.specs.Reading.{kept_after, kept, kept_rows, other_rows, uses_of, uses}
use Rattle.reading.specs.Raised.{raised}
use Rattle.reading.proofs.Kept.{kept_append, length-kept, kept-independent, others_span}

-- ---- the rows

module _ (rows : List ℕ) (r : ℕ) where
  pub kept-snoc : kept (rows ++ (r ∷ [])) ≡ kept rows ++ (not (spans (kept_rows rows) r) ∷ [])
  kept-snoc = kept_append rows (r ∷ []) ∙ ap (λ t. kept rows ++ t) (unfold kept_after in last (spans (kept_rows rows) r))
    where
      last : (b : Bool) → cond b (false ∷ []) (true ∷ []) ≡ not b ∷ []
      last true = refl
      last false = refl

  pub kept_rows-snoc : kept_rows (rows ++ (r ∷ [])) ≡ kept_rows rows ++ cond (spans (kept_rows rows) r) [] (r ∷ [])
  unfolding kept_rows
  kept_rows-snoc =
      rw kept-snoc (select-append (kept rows) _ rows (r ∷ []) (length-kept rows)
      ∙ ap (λ t. select (kept rows) rows ++ t) (go (spans (select (kept rows) rows) r)))
    where
      go : (b : Bool) → select (not b ∷ []) (r ∷ []) ≡ cond b [] (r ∷ [])
      go true = unfold select in refl
      go false = unfold select in refl

  pub other_rows-snoc : other_rows (rows ++ (r ∷ [])) ≡ other_rows rows ++ cond (spans (kept_rows rows) r) (r ∷ []) []
  unfolding other_rows
  other_rows-snoc =
      rw kept-snoc (rw (map-append not (kept rows) (not (spans (kept_rows rows) r) ∷ []))
      (select-append (map not (kept rows)) _ rows (r ∷ []) (length-map (kept rows) not ∙ length-kept rows)
      ∙ ap (λ t. select (map not (kept rows)) rows ++ t) (go (spans (kept_rows rows) r))))
    where
      go : (b : Bool) → select (not (not b) ∷ []) (r ∷ []) ≡ cond b (r ∷ []) []
      go true = unfold select in refl
      go false = unfold select in refl

-- ---- the uses

-- a kept row: no set has it so far
uses_of_keep : (ks : List ℕ) (k : ℕ) (others : List ℕ) → independent (ks ++ (k ∷ [])) ≡ true → All (spans ks) others
    → uses_of (ks ++ (k ∷ [])) others ≡ uses_of ks others ++ (0 ∷ [])
unfolding uses_of
uses_of_keep ks k others i a =
    rw (length-append ks (k ∷ [])) (rw (add-one (length ks)) (tabulate-snoc (length ks) _
    ∙ ap₂ (λ s t. s ++ (t ∷ [])) (tabulate_ext (length ks) _ _ before) (new ∙ count_none others)))
  where
    before : (j : ℕ) → j < length ks → count (λ r. get_or (set_of (ks ++ (k ∷ [])) r) j false) others ≡ count (λ r. get_or (set_of ks r) j false) others
    before j h = count_same (spans ks) _ _ (λ r s. rw (set_of-append ks (k ∷ []) i r s) (get_or-append (set_of ks r) (false ∷ []) false j (rw (length-set_of ks r) h))) others a

    new : count (λ r. get_or (set_of (ks ++ (k ∷ [])) r) (length ks) false) others ≡ count (λ r. false) others
    new = count_same (spans ks) _ _ (λ r s. rw (set_of-append ks (k ∷ []) i r s) (rw (← length-set_of ks r) (get_or-append_seam (set_of ks r) false [] false))) others a

-- another row: one use more for each of its set
tabulate-raised : (set : List Bool) (f : ℕ → ℕ) → tabulate (length set) (λ j. cond (get_or set j false) (suc (f j)) (f j)) ≡ raised set (tabulate (length set) f)
unfolding tabulate raised
tabulate-raised [] f = refl
tabulate-raised (b ∷ set) f = ap (λ t. cond b (suc (f 0)) (f 0) ∷ t) (tabulate-raised set (λ j. f (suc j)))

uses_of-other : (ks others : List ℕ) (r : ℕ) → uses_of ks (others ++ (r ∷ [])) ≡ raised (set_of ks r) (uses_of ks others)
unfolding uses_of
uses_of-other ks others r =
    tabulate_ext (length ks) _ _ (λ j h. count-snoc (λ x. get_or (set_of ks x) j false) others r)
    ∙ rw (← length-set_of ks r) (tabulate-raised (set_of ks r) (λ j. count (λ x. get_or (set_of ks x) j false) others))

module _ (rows : List ℕ) (r : ℕ) where
  pub uses-other : spans (kept_rows rows) r ≡ true → uses (rows ++ (r ∷ [])) ≡ raised (set_of (kept_rows rows) r) (uses rows)
  unfolding uses
  uses-other e =
      rw (kept_rows-snoc rows r) (rw (other_rows-snoc rows r) (rw e (rw (append-nil (kept_rows rows)) (uses_of-other (kept_rows rows) (other_rows rows) r))))

  pub uses_keep : spans (kept_rows rows) r ≡ false → uses (rows ++ (r ∷ [])) ≡ uses rows ++ (0 ∷ [])
  unfolding uses
  uses_keep e =
      rw (kept_rows-snoc rows r) (rw (other_rows-snoc rows r) (rw e (rw (append-nil (other_rows rows))
      (uses_of_keep (kept_rows rows) r (other_rows rows) (independent-snoc (kept_rows rows) r ∙ rw (kept-independent rows) (rw e)) (others_span rows)))))
