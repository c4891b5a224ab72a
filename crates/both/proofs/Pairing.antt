-- Both readings from what the code did: the second room is asked for where 3 stands, and then the first reading is the plain one.
-- Assumes nothing.
use mathlib.Core.Path.{◌≡◌, refl, sym, ap, ◌∙◌}
use Prim.Native.Nat.{ℕ, ◌*◌, ◌/◌, ◌≤◌}
use native.Mathlib.Nat.{mul-div_cancel}
use native.Mathlib.Omega.{arith}
use mathlib.Core.Bool.{Bool, true, false, cond, not, ◌&&◌, true≢false}
use mathlib.Core.List.{List}
use lib.Dec.{leb}
use Rattle.std.specs.Prelude.{Ok, Err}
use lib.ListN.{length, take}
use borrow.Author.Tests.{leb-true}
use Rattle.space.proofs.Both.{both}
use Rattle.octets.specs.Octets.{numbers, flat, over}
use Rattle.octets.proofs.Runs.{length-flat, numbers-flat, take-over}
use Rattle.rows.specs.Rows.{shape, symbols, list_row_bytes, row_count, entries_of, rows_of}
use Rattle.rows.specs.Bytes.{cut}
use Rattle.reading.specs.declared.Answer.{Answer}
use Rattle.reading.specs.declared.Answer.TheVariants as answer
use Rattle.reading.specs.Answer.{answer_numbers}
use Rattle.reading.specs.Orders.{in_list_order}
use Rattle.reading.specs.Outcome.{Lent, Outcome, Check, passes, refuses, roomy, stray_from, checks, ended, told, after, outcome_in, outcome, gave, whole_length, room_for}
use Rattle.reading.proofs.Checks.{Passed, passed, roomy-fits}
use Rattle.reading.proofs.Writes.{EarlyCheck, checks_early}
use Rattle.reading.proofs.Given.{outcome-read, given-passes, given-read}
use Rattle.reading.proofs.Page.{length-page_of, page_of_below}
use Rattle.gate.specs.declared.Refusal.TheVariants as refusals
use Rattle.gate.specs.Gate.{gate}
use Rattle.reader.specs.Reader.{outcome_of}
use Rattle.apart.specs.Apart.{apart}
use Rattle.both.specs.Both as spec
use Rattle.both.specs.Both.{Second, lent_too, given_by, roomy_too, checks_both, alone, followed, with_second}
use Rattle.second_room.specs.Fits.{fits_too}
use Rattle.both.specs.Parts.{pair, Passing}

module _ (n l : ℕ) (list : List ℕ) (lent : Lent) (s : Second) where
  abbrev pub asked : Bool
  asked = fits_too (gate n l (length list) (length s.page) (length s.uses) (length s.roles) (length lent.scratch)) (length list) (length s.list)

  pub checks-both : checks_both n l list lent s ≡ cond asked (checks n l list lent) (refuses answer.Room)
  unfolding checks_both checks fits_too gate whole_length roomy_too room_for row_count
  checks-both =
      go (shape n l) (whole_length l (length list)) (leb (length list) (length s.list))
      (room_for (n * l) (length list / list_row_bytes l) (length s.page) (length s.uses) (length s.roles) (length lent.scratch))
      (room_for (n * l) (length list / list_row_bytes l) (length lent.page) (length lent.uses) (length lent.roles) (length lent.scratch))
      (stray_from n l 0 (rows_of l list)) refl
    where
      go : (sh wh li two one : Bool) (x : Check) → leb (length list) (length s.list) ≡ li
          → cond (not sh) (refuses answer.Shape) (cond (not wh) (refuses answer.List) (cond (not ((li && two) && one)) (refuses answer.Room) x))
          ≡ cond (fits_too (cond (not sh) (Err refusals.Shape) (cond (not wh) (Err refusals.List) (cond (not two) (Err refusals.Room) (Ok tt)))) (length list) (length s.list))
          (cond (not sh) (refuses answer.Shape) (cond (not wh) (refuses answer.List) (cond (not one) (refuses answer.Room) x))) (refuses answer.Room)
      go false wh li two one x e = refl
      go true false li two one x e = refl
      go true true true true one x e = rw e
      go true true true false one x e = refl
      go true true false true one x e = rw e
      go true true false false one x e = refl

  -- a refusal is one of 1 to 4
  pub both_early : EarlyCheck (checks_both n l list lent s)
  both_early = rw checks-both (go asked (checks_early n l list lent))
    where
      go : (b : Bool) → EarlyCheck (checks n l list lent) → EarlyCheck (cond b (checks n l list lent) (refuses answer.Room))
      go true e = e
      go false e = unfold answer_numbers in (omega arith, omega arith)

  -- a list that passes has room for both, and passes the plain checks
  module _ (p : checks_both n l list lent s ≡ passes) where
    pub asked-fits : asked ≡ true
    asked-fits = go asked (sym checks-both ∙ p)
      where
        go : (b : Bool) → cond b (checks n l list lent) (refuses answer.Room) ≡ passes → b ≡ true
        go true e = refl
        go false e = let z : ◌≡◌ {A = ℕ} 0 1 = cc in absurd (omega arith)

    pub plain_check : checks n l list lent ≡ passes
    plain_check = rw asked-fits at (sym checks-both ∙ p)

  pub room-refused : asked ≡ false → pair (record { first = answer.Room; second = answer.Few 0; rows = 0 }) lent s ≡ spec.both n l list lent s
  unfolding spec.both after with_second gave answer_numbers alone
  room-refused e = let refused : checks_both n l list lent s ≡ refuses answer.Room = checks-both ∙ rw e in rw refused

  -- the room is there: the first reading is the plain one
  module _ (e : asked ≡ true) (o : Outcome) (is : o ≡ outcome n l list lent) where
    pub both_by : spec.both n l list lent s ≡ with_second n l (entries_of l list) o s
    unfolding spec.both outcome_in
    both_by =
        let same : checks_both n l list lent s ≡ checks n l list lent = checks-both ∙ rw e in
        rw same (ap (λ (x : Outcome). with_second n l (entries_of l list) x s) (sym is))

    pub both-alone : gave o ≡ false → spec.both n l list lent s ≡ alone o s
    both-alone g = both_by ∙ (unfold with_second in rw g)

  -- and the second reading has what it asks for
  module _ (e : asked ≡ true) (p : checks n l list lent ≡ passes) where
    abbrev P : Passed n l list lent
    P = passed n l list lent p

    pub page-room : n * l ≤ length lent.page
    page-room = (roomy-fits n l (row_count l list) lent P.roomed).page

    too : roomy_too n l list lent.scratch s ≡ true
    unfolding fits_too gate whole_length roomy_too room_for row_count
    too =
        let whole : whole_length l (length list) ≡ true = P.rows_whole in
        go (leb (length list) (length s.list))
        (room_for (n * l) (length list / list_row_bytes l) (length s.page) (length s.uses) (length s.roles) (length lent.scratch)) refl (rw (P.shaped, whole) at e)
      where
        go : (li two : Bool) → leb (length list) (length s.list) ≡ li → fits_too (cond (not two) (Err refusals.Room) (Ok tt)) (length list) (length s.list) ≡ true → (li && two) ≡ true
        go li true q h = rw (sym q ∙ h)
        go li false q h = absurd (let z : ◌≡◌ {A = Bool} false true = h in true≢false (sym z))

    pub passing : (scratch : List ℕ) → length scratch ≡ length lent.scratch → Passing n l list s scratch
    unfolding roomy_too
    passing scratch same =
        let halves = both (leb (length list) (length s.list)) (roomy n l (row_count l list) (lent_too lent.scratch s)) too in
        record { passing = passes_too halves.1; list_room = leb-true (length list) (length s.list) halves.0 }
      where
        passes_too : roomy n l (row_count l list) (lent_too lent.scratch s) ≡ true → checks n l list (lent_too scratch s) ≡ passes
        passes_too room = unfold checks room_for in rw (P.shaped, P.rows_whole, same, room) P.clean

-- ---- the answers that code takes for no page

pub no_page : (a : Answer) → ((r g : ℕ) → a ≡ answer.Page r g → ⊥) → (lent : Lent) → gave (outcome_of a lent) ≡ false
unfolding gave answer_numbers
no_page (answer.Page r g) k lent = absurd (k r g refl)
no_page answer.Shape k lent = refl
no_page answer.List k lent = refl
no_page answer.Room k lent = refl
no_page (answer.Stray i) k lent = refl
no_page (answer.Few r) k lent = refl
no_page (answer.Tie r) k lent = refl
no_page (answer.Singular r) k lent = refl

-- ---- a page was given

-- its symbols
abbrev pub given : ℕ → ℕ → List ℕ → List ℕ
given n l list = given_by n l (entries_of l list)

module _ (n l : ℕ) (list : List ℕ) (lent : Lent) (r g : ℕ) (lent₁ : Lent) (is : outcome_of (answer.Page r g) lent₁ ≡ outcome n l list lent) where
  gave-page : gave (outcome n l list lent) ≡ true
  gave-page = sym (ap gave is) ∙ (unfold gave answer_numbers in refl)

  pub page-passes : checks n l list lent ≡ passes
  page-passes = given-passes in_list_order n l list lent gave-page

  page-written : lent₁.page ≡ over (flat l (given n l list)) lent.page
  unfolding told ended
  page-written = ap (λ (o : Outcome). o.lent.page) (is ∙ outcome-read in_list_order n l list lent page-passes ∙ (given-read in_list_order n l list lent gave-page).solves)

  -- cut into symbols again
  pub page-cut : 1 ≤ l → (k : ℕ) → k ≡ n * l → cut l (take k lent₁.page) ≡ given n l list
  page-cut low k e =
      let sized : length (flat l (given n l list)) ≡ n * l = length-flat l (given n l list) ∙ ap (λ (m : ℕ). m * l) (length-page_of n l _) in
      rw page-written (rw (take-over (flat l (given n l list)) lent.page k (sized ∙ sym e)) (rw sized (rw (mul-div_cancel n low) back)))
    where
      back : symbols n l (flat l (given n l list)) ≡ given n l list
      back = unfold symbols in ap (λ (m : ℕ). numbers l m (flat l (given n l list))) (sym (length-page_of n l _)) ∙ numbers-flat l (given n l list) (page_of_below n l _)

  -- and the rows that do not agree with it are read
  pub both_follow : (s : Second) → with_second n l (entries_of l list) (outcome_of (answer.Page r g) lent₁) s ≡ followed n l (apart l (given n l list) (entries_of l list)) (outcome_of (answer.Page r g) lent₁) s
  unfolding with_second gave answer_numbers
  both_follow s = refl
