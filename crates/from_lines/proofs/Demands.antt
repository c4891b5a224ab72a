-- Demands 2 and 3 of the page reader's list: lines whose frames are some of one page and others that laying refuses, where no good frame of
-- another page comes first. The list that is read is then that of the frames laid one after the other. Assumes nothing.
use mathlib.Core.Path.{◌≡◌, refl, ap, ◌∙◌}
use Prim.Native.Nat.{ℕ, ◌*◌, ◌^◌, ◌≤◌, ◌<◌}
use mathlib.Core.Bool.{true}
use mathlib.Core.List.{List, [], ◌∷◌}
use lib.ListN.{length}
use borrow.Author.Tests.{eq-eqb}
use Rattle.space.specs.Lists.{marked, Below}
use Rattle.octets.specs.Octets.{xor_bytes}
use Rattle.rows.specs.Rows.{shape, list_row_bytes}
use Rattle.frame.specs.Numbers.{frame_numbers}
use Rattle.laying.specs.Laying.{same_page}
use Rattle.writing.specs.Writing.{frame_of}
use Rattle.reading.specs.declared.Answer.TheVariants as answer
use Rattle.reading.specs.Reading.{rank}
use Rattle.reading.specs.Orders.{counts, in_list_order}
use Rattle.reading.specs.Marks.{telling}
use Rattle.reading.specs.Outcome.{Lent, roomy, outcome, ended}
use Rattle.reading.specs.Added.{added}
use Rattle.crossing.specs.Held.{blank, offered_all, list_held, list_laid}
use Rattle.crossing.specs.Caught.{Caught, own, other, frames_of, own_of, Mixed, IsSeed, rows_for, entries_for}
use Rattle.crossing.specs.Taken.{Take, IsTake, taken}
use Rattle.crossing.proofs.Laid.{Own}
use Rattle.crossing.proofs.Flipped.{entry_taken, taken_own}
use Rattle.crossing.proofs.Demand2.{frame-own, crossing-2}
use Rattle.crossing.proofs.Demand3.{crossing-3}
use Rattle.std.proofs.Common.{Some}
use Rattle.from_lines.specs.Lines.{Left, started, taken_all, frames_in, first_of_page, OwnFirst}
use Rattle.from_lines.proofs.Joined.{lines_lay}

module _ (number n l : ℕ) where
  -- a frame of the page that comes first is the first good one
  own_first : {A : Type 0} (make : A → List ℕ) (entry : A → ℕ) (Right : A → Type 0) → ((a : A) → Right a → Own number n l (make a) (entry a))
      → (caught : List (Caught A)) → Mixed number n l Right caught → OwnFirst caught → first_of_page number n l (frames_of make caught) ≡ true
  unfolding first_of_page frames_of
  own_first make entry Right owns [] m f = absurd f
  own_first make entry Right owns (own a ∷ caught) m f = rw (owns a m.0).reads (unfold frame_numbers same_page in rw (eq-eqb number number refl, eq-eqb n n refl, eq-eqb l l refl))
  own_first make entry Right owns (other frame ∷ caught) m f = rw f.0 (own_first make entry Right owns caught m.1 f.1)

  -- what lines have left, whose frames those are: the page, and the list of the frames laid one after the other
  module _ (lines frames : List (List ℕ)) (are : frames_in lines ≡ frames) (first : first_of_page number n l frames ≡ true) (list : List ℕ) where
    left_is : taken_all lines (started list) ≡ record { expected = Some (record { number = number; n = n; l = l }); held = offered_all number n l frames (blank list) }
    left_is = lines_lay number n l lines (rw are first) list ∙ rw are

    page-expected : (taken_all lines (started list)).expected ≡ Some (record { number = number; n = n; l = l })
    page-expected = ap (λ (left : Left). left.expected) left_is

    list_read : list_held l (taken_all lines (started list)).held ≡ list_laid number n l frames list
    unfolding list_laid
    list_read = ap (λ (left : Left). list_held l left.held) left_is

-- ---- demand 2

module _ (number n l : ℕ) (page : List ℕ) (small : number < 2 ^ 32) (s : shape n l ≡ true) (size : length page ≡ n * l) (b : Below 256 page)
    (caught : List (Caught ℕ)) (m : Mixed number n l IsSeed caught) (first : OwnFirst caught) (most : length (own_of caught) ≤ 512)
    (lines : List (List ℕ)) (are : frames_in lines ≡ frames_of (λ seed. frame_of number n l seed page) caught)
    (list : List ℕ) (room : list_row_bytes l * length (own_of caught) ≤ length list) (lent : Lent) (roomed : roomy n l (length (own_of caught)) lent ≡ true) where
  pub lines_2 : n ≤ rank (rows_for n l page (own_of caught))
      → ((taken_all lines (started list)).expected ≡ Some (record { number = number; n = n; l = l }))
      × (outcome n l (list_held l (taken_all lines (started list)).held) lent
      ≡ ended n l (entries_for n l page (own_of caught)) (in_list_order (entries_for n l page (own_of caught))) lent (answer.Page n (marked (counts (own_of caught)))) telling page)
  lines_2 enough = (
    page-expected number n l lines _ are good list,
    ap (λ (bytes : List ℕ). outcome n l bytes lent) (list_read number n l lines _ are good list) ∙ crossing-2 number n l page small s size b caught m most list room lent roomed enough,
  )
    where
      good : first_of_page number n l (frames_of (λ seed. frame_of number n l seed page) caught) ≡ true
      good = own_first number n l (λ seed. frame_of number n l seed page) _ IsSeed (frame-own number n l page small s size b) caught m first

-- ---- demand 3

module _ (number n l : ℕ) (small : number < 2 ^ 32) (s : shape n l ≡ true)
    (p q : List ℕ) (sp : length p ≡ n * l) (sq : length q ≡ n * l) (bp : Below 256 p) (bq : Below 256 q)
    (caught : List (Caught Take)) (m : Mixed number n l (IsTake l) caught) (first : OwnFirst caught) (most : length (own_of caught) ≤ 512)
    (lines-p lines-q : List (List ℕ)) (are-p : frames_in lines-p ≡ frames_of (taken number n l p) caught) (are-q : frames_in lines-q ≡ frames_of (taken number n l q) caught)
    (list : List ℕ) (room : list_row_bytes l * length (own_of caught) ≤ length list) (lent : Lent) (roomed : roomy n l (length (own_of caught)) lent ≡ true) where
  pub lines_3 : ((taken_all lines-p (started list)).expected ≡ Some (record { number = number; n = n; l = l }))
      × ((taken_all lines-q (started list)).expected ≡ Some (record { number = number; n = n; l = l }))
      × (outcome n l (list_held l (taken_all lines-q (started list)).held) lent ≡ added (xor_bytes p q) (outcome n l (list_held l (taken_all lines-p (started list)).held) lent))
  lines_3 = (
    page-expected number n l lines-p _ are-p (good p bp) list,
    page-expected number n l lines-q _ are-q (good q bq) list,
    rw (list_read number n l lines-q _ are-q (good q bq) list, list_read number n l lines-p _ are-p (good p bp) list)
        (crossing-3 number n l small s p q sp sq bp bq caught m most list room lent roomed),
  )
    where
      good : (page : List ℕ) → Below 256 page → first_of_page number n l (frames_of (taken number n l page) caught) ≡ true
      good page b = own_first number n l (taken number n l page) (entry_taken n l page) (IsTake l) (λ t a. taken_own number n l page small s b t a) caught m first
