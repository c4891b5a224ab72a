-- Both readings with uses as pairs of bytes: what the code did, from the readings with the numbers that the pairs stand for.
-- Assumes nothing.
use mathlib.Core.Path.{◌≡◌, sym, ap, ap₂, ◌∙◌}
use Prim.Native.Nat.{ℕ, ◌*◌, ◌/◌, ◌≤◌}
use native.Mathlib.Omega.{arith}
use mathlib.Core.Bool.{Bool, true, false}
use mathlib.Core.List.{List}
use lib.ListN.{length, take}
use Rattle.space.specs.Lists.{Below}
use Rattle.octets.specs.Octets.{flat, over}
use Rattle.octets.proofs.Runs.{length-numbers}
use Rattle.octets.proofs.Back.{over_same}
use Rattle.rows.specs.Rows.{entries_of}
use Rattle.rows.specs.Bytes.{cut}
use Rattle.reading.specs.declared.Answer.{Answer}
use Rattle.reading.specs.declared.Answer.TheVariants as answer
use Rattle.reading.specs.Outcome.{Lent, Outcome, passes, checks, outcome, gave}
use Rattle.gate.specs.Gate.{gate}
use Rattle.reader.specs.Reader.{buffers, outcome_of}
use Rattle.reader.specs.Pairs.{pair_counts, counted, paired, in_pairs}
use Rattle.apart.specs.Apart.{apart}
use Rattle.both.specs.Both.{Second, Pair, alone, followed}
use Rattle.both.specs.Pairs.{counted_too, paired_too, both_in_pairs}
use Rattle.second_room.specs.Fits.{fits_too}
use Rattle.both.specs.Parts.{second, pair, Passing, SecondEnding, secondly}
use Rattle.both.proofs.Pairing.{given, asked, room-refused, both_by, both-alone, both_follow, page-passes, page-cut, page-room, passing}

-- the numbers of the pairs, as pairs again
pub same_pairs : (bytes : List ℕ) → Below 256 bytes → over (flat 2 (pair_counts bytes)) bytes ≡ bytes
unfolding pair_counts
same_pairs bytes low = over_same 2 (length bytes / 2) bytes (omega arith) low

module _ (n l : ℕ) (list : List ℕ) (lent : Lent) (s : Second) where
  abbrev own : Lent
  own = counted lent

  abbrev own₂ : Second
  own₂ = counted_too s

  abbrev pairs : Pair → Pair
  pairs p = pair p.answers (paired lent.uses p.lent) (paired_too s.uses p.second)

  -- the room, as the code asks for it
  abbrev pub room : Bool
  room = fits_too (gate n l (length list) (length s.page) (length s.uses / 2) (length s.roles) (length lent.scratch)) (length list) (length s.list)

  room-asked : asked n l list own own₂ ≡ room
  unfolding pair_counts
  room-asked =
      ap (λ (k : ℕ). fits_too (gate n l (length list) (length s.page) k (length s.roles) (length lent.scratch)) (length list) (length s.list)) (length-numbers 2 (length s.uses / 2) s.uses)

  pub pairs-refused : Below 256 lent.uses → Below 256 s.uses → room ≡ false → pair (record { first = answer.Room; second = answer.Few 0; rows = 0 }) lent s ≡ both_in_pairs n l list lent s
  unfolding both_in_pairs
  pairs-refused low low₂ e =
      ap₂ (λ (us vs : List ℕ). pair (record { first = answer.Room; second = answer.Few 0; rows = 0 }) (buffers lent.page us lent.roles lent.scratch) (second s.list s.page vs s.roles))
      (sym (same_pairs lent.uses low)) (sym (same_pairs s.uses low₂)) ∙ ap pairs (room-refused n l list own own₂ (room-asked ∙ e))

  -- there is room, and the first reading left this
  module _ (e : room ≡ true) (a : Answer) (left : Lent) (is : outcome_of a left ≡ in_pairs n l list lent) where
    abbrev o : Outcome
    o = outcome n l list own

    told : outcome_of a o.lent ≡ o
    unfolding in_pairs
    told = ap (λ (x : Outcome). outcome_of x.answer o.lent) is

    left_is : left ≡ paired lent.uses o.lent
    unfolding in_pairs
    left_is = ap (λ (x : Outcome). x.lent) is

    pub pairs-alone : Below 256 s.uses → gave (outcome_of a o.lent) ≡ false → pair (record { first = a; second = answer.Few 0; rows = 0 }) left s ≡ both_in_pairs n l list lent s
    unfolding both_in_pairs alone
    pairs-alone low₂ none =
        ap₂ (λ (x : Lent) (vs : List ℕ). pair (record { first = a; second = answer.Few 0; rows = 0 }) x (second s.list s.page vs s.roles)) left_is (sym (same_pairs s.uses low₂))
        ∙ ap pairs (sym (both-alone n l list own own₂ (room-asked ∙ e) (outcome_of a o.lent) told none))

  -- and it gave a page
  module _ (e : room ≡ true) (r g : ℕ) (left : Lent) (is : outcome_of (answer.Page r g) left ≡ in_pairs n l list lent) where
    abbrev page-o : Outcome
    page-o = outcome n l list own

    page-told : outcome_of (answer.Page r g) page-o.lent ≡ page-o
    page-told = told e (answer.Page r g) left is

    page-left : left ≡ paired lent.uses page-o.lent
    page-left = left_is e (answer.Page r g) left is

    pub pairs-passes : checks n l list own ≡ passes
    pairs-passes = page-passes n l list own r g page-o.lent page-told

    pub pairs-room : n * l ≤ length lent.page
    pairs-room = page-room n l list own own₂ (room-asked ∙ e) pairs-passes

    pub pairs-passing : (scratch : List ℕ) → length scratch ≡ length lent.scratch → Passing n l list own₂ scratch
    pairs-passing = passing n l list own own₂ (room-asked ∙ e) pairs-passes

    -- its rest was read too
    pub pairs-followed : 1 ≤ l → (k : ℕ) → k ≡ n * l → (first : Answer) → first ≡ answer.Page r g
        → (x : SecondEnding) → x ≡ secondly first n l (apart l (cut l (take k left.page)) (entries_of l list)) s left.scratch
        → pair x.answers (buffers left.page left.uses left.roles x.scratch) x.second ≡ both_in_pairs n l list lent s
    unfolding both_in_pairs secondly followed
    pairs-followed low k sized first q x ends =
        let own-told = outcome_of (answer.Page r g) page-o.lent in
        ap₂ whole page-left so ∙ ap pairs (sym (both_by n l list own own₂ (room-asked ∙ e) own-told page-told ∙ both_follow n l list own r g page-o.lent page-told own₂))
      where
        whole : Lent → SecondEnding → Pair
        whole left x = pair x.answers (buffers left.page left.uses left.roles x.scratch) x.second

        so : x ≡ secondly (answer.Page r g) n l (apart l (given n l list) (entries_of l list)) s page-o.lent.scratch
        so = ends ∙ rw (q, page-left, page-cut n l list own r g page-o.lent page-told low k sized)
