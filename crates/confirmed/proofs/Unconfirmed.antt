-- Where the rank is n and a kept row has no use, nothing tells whether it was misread: with any other payload in it the outcome is the same but
-- for the page, and the page is another one.
-- Assumes nothing.
use mathlib.Core.Path.{◌≡◌, refl, sym, ap, ap₂, ◌∙◌}
use Prim.Native.Nat.{ℕ, ◌^◌}
use mathlib.Core.Bool.{true}
use mathlib.Core.List.{List, ◌∷◌, ◌++◌, map}
use mathlib.Core.Logic.{◌↔◌}
use lib.ListN.{length, length-append}
use Rattle.space.specs.Lists.{select, All, Below}
use Rattle.octets.specs.Octets.{flat, over}
use Rattle.rows.specs.Rows.{constraint, agrees, made}
use Rattle.rows.proofs.Pages.{agrees-made}
use Rattle.reading.specs.declared.Answer.TheVariants as answer
use Rattle.reading.specs.Answer.{answer_numbers}
use Rattle.reading.specs.Reading.{kept, rank, uses, picked}
use Rattle.reading.specs.Orders.{taken}
use Rattle.reading.specs.Marks.{by_arrival, kept_arrivals, uses_marks, roles_marks, telling}
use Rattle.reading.specs.Verdict.{answered, verdict}
use Rattle.reading.specs.Outcome.{Lent, Outcome, zeros, ended, told, read, gave}
use Rattle.reading.proofs.Pick.{not_few, no_tie}
use Rattle.reading.proofs.Given.{Given, page-given}
use Rattle.confirmed.specs.Confirmed.{GivesPage, given, Unused, Untold}
use Rattle.confirmed.proofs.Masks.{all_split}
use Rattle.confirmed.proofs.Full.{rank-agrees, rank-agreement}
use Rattle.confirmed.proofs.Moves.{Moves, same_kept, same_rank, same_uses, same_constraints, same_picked, same_singular}
use Rattle.confirmed.proofs.Swapped.{swapped}

-- ---- a page is given

-- exactly where the outcome gave one, in any order
pub gives_exactly : (n l : ℕ) (entries order : List ℕ) (lent : Lent) → (gave (read n l entries order lent) ≡ true) ↔ GivesPage n l (taken l entries order)
gives_exactly n l entries order lent = (λ e. these (page-given n l entries order lent e), solves)
  where
    these : Given n l entries order lent → GivesPage n l (taken l entries order)
    these g = record { enough = g.enough; chosen = g.chosen; sound = g.sound }

    solves : GivesPage n l (taken l entries order) → gave (read n l entries order lent) ≡ true
    solves g = unfold gave read told ended verdict answer_numbers in rw (g.enough, g.chosen, g.sound)

-- what is left of rows of rank n, taken in an order of m arrivals: all of them agree
unfoldable shown : ℕ → ℕ → ℕ → List ℕ → List ℕ → Lent → Outcome
shown n l m order rows lent =
    record {
      answer = answer.Page n (length rows);
      lent =
          record {
            page = over (flat l (given n l rows)) lent.page;
            uses = over (by_arrival 65535 m (select (kept rows) order) (uses rows)) lent.uses;
            roles = over (by_arrival 0 m (select (kept rows) order) (map telling (picked n rows))) lent.roles;
            scratch = over zeros lent.scratch;
          };
    }

module _ (n l : ℕ) (entries order rows : List ℕ) (are : taken l entries order ≡ rows) (inside : Below (2 ^ n) (map (constraint l) rows)) (full : rank rows ≡ n)
    (g : GivesPage n l rows) (lent : Lent) where
  full_answer : verdict n l (taken l entries order) ≡ answered (given n l rows)
  unfolding verdict
  full_answer = rw are (rw (g.enough, g.chosen, g.sound))

  full_read : read n l entries order lent ≡ shown n l (length entries) order rows lent
  unfolding read told ended shown uses_marks roles_marks kept_arrivals
  full_read = rw full_answer (rw (are, rank-agreement n l rows inside full g.sound, full))

-- ---- another payload

module _ (n l : ℕ) (before : List ℕ) (r : ℕ) (after : List ℕ) (inside : Below (2 ^ n) (map (constraint l) (before ++ r ∷ after)))
    (g : GivesPage n l (before ++ r ∷ after)) (full : rank (before ++ r ∷ after) ≡ n) (u : Unused before r after)
    (other : ℕ) (same : constraint l other ≡ constraint l r) where
  abbrev old : List ℕ
  old = before ++ r ∷ after

  abbrev new : List ℕ
  new = before ++ other ∷ after

  moves : Moves l old new
  moves = swapped n l before r after inside full g.sound u other same

  new_full : rank new ≡ n
  new_full = same_rank l old new moves ∙ full

  pub swapped_inside : Below (2 ^ n) (map (constraint l) new)
  swapped_inside = rw (same_constraints l old new moves) inside

  -- a page is given again
  swapped_gives : GivesPage n l new
  swapped_gives = record {
    enough = not_few n new new_full;
    chosen = no_tie n new new_full;
    sound = same_singular l old new moves n ∙ g.sound;
  }

  -- two lists of entries of which an order takes these rows
  pub unconfirmed : (one two order : List ℕ) → length two ≡ length one → taken l one order ≡ before ++ r ∷ after → taken l two order ≡ before ++ other ∷ after → (lent : Lent)
      → Untold (read n l one order lent) (read n l two order lent)
  unfolding shown
  unconfirmed one two order size first second lent =
      rw (full_read n l one order old first inside full g lent, full_read n l two order new second swapped_inside new_full swapped_gives lent)
      (unfold shown in record {
        answer = ap (answer.Page n) (length-append before (other ∷ after) ∙ sym (length-append before (r ∷ after)));
        uses = rw (size, same_kept l old new moves, same_uses l old new moves);
        roles = rw (size, same_kept l old new moves, same_picked l old new moves n);
        scratch = refl;
      })

  -- all rows agree with the new page
  pub other-agree : All (agrees l (given n l new)) new
  other-agree = rank-agrees n l new swapped_inside new_full swapped_gives.sound

  -- and it is another: only the same row gives the same page
  pub other-page : given n l new ≡ given n l old → other ≡ r
  other-page e =
      sym (agrees-made l (given n l new) other (all_split _ before (other ∷ after) other-agree).1.0) ∙ ap₂ (made l) e same
      ∙ agrees-made l (given n l old) r (all_split _ before (r ∷ after) (rank-agrees n l old inside full g.sound)).1.0
