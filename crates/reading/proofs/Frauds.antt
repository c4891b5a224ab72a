-- Each fraud differs from the reading at a worked case, whatever is lent; and refusing everything keeps demand 3's law, which is why demand 3
-- is read over demand 2's definition.
-- Assumes nothing.
use mathlib.Core.Path.{◌≡◌, refl, sym, ap, ◌∙◌}
use Prim.Native.Nat.{ℕ, ◌≤◌, ◌<◌}
use native.Mathlib.Omega.{arith}
use mathlib.Core.Bool.{true, false}
use mathlib.Core.List.{List, [], ◌∷◌, Memᴰ}
use lib.ListN.{length, get_or, take, drop, length-append, length-drop}
use Rattle.space.specs.Space.{◌⊕◌}
use Rattle.space.proofs.Xor.{⊕_cancel, ⊕_self}
use Rattle.octets.specs.Octets.{bytes, flat, xor_bytes, over}
use Rattle.rows.specs.Rows.{row_count, symbols}
use Rattle.rows.specs.Shift.{shifted_list}
use Rattle.reading.specs.declared.Answer.{Answer}
use Rattle.reading.specs.declared.Answer.TheVariants as answer
use Rattle.reading.specs.Answer.{answer_numbers}
use Rattle.reading.specs.Outcome.{Lent, Outcome, outcome, roomy, gave}
use Rattle.reading.specs.Added.{added}
use Rattle.reading.specs.Worked.{Case, k2, k4, k7, cases, list_of, Seen, seen, expected}
use Rattle.reading.specs.Frauds.{Reader, Differs, KeepsShift, with_answer, with_page, with_uses, ranked, agreeing, refuses_all, does_nothing, fixed_page, first_row, invents_uses, invents_rank, invents_agreement}
use Rattle.reading.proofs.Checks.{Fits, roomy-fits, fits-roomy}
use Rattle.reading.proofs.Worked.{worked}

in_k2 : Memᴰ k2 cases
in_k2 = Memᴰ.tail (Memᴰ.head refl)

in_k4 : Memᴰ k4 cases
in_k4 = Memᴰ.tail (Memᴰ.tail (Memᴰ.tail (Memᴰ.head refl)))

in_k7 : Memᴰ k7 cases
in_k7 = Memᴰ.tail (Memᴰ.tail (Memᴰ.tail (Memᴰ.tail (Memᴰ.tail (Memᴰ.tail (Memᴰ.head refl))))))

-- a number that a reader shows at a case, and the table has otherwise
differs_by : (f : Seen → ℕ) (reader : Reader) (c : Case) → Memᴰ c cases
    → ((lent : Lent) → roomy c.n 1 (length c.rows) lent ≡ true → f (seen (reader c.n 1 (list_of c) lent)) ≡ f (expected lent c) → ⊥) → Differs reader c
differs_by f reader c m apart lent room e = apart lent room (ap f (ap seen e ∙ worked c m lent room))

abbrev number_of : Seen → ℕ
number_of s = s.numbers.number

abbrev rank_of : Seen → ℕ
rank_of s = s.numbers.rank

abbrev agreement_of : Seen → ℕ
agreement_of s = s.numbers.agreement

abbrev first : List ℕ → ℕ
first bytes = get_or bytes 0 0

-- ---- the frauds

pub refuses-all_differs : Differs refuses_all k2
unfolding refuses_all seen expected answer_numbers
refuses-all_differs = differs_by number_of refuses_all k2 in_k2 (λ lent room e. omega arith)

pub does_nothing_differs : Differs does_nothing k2
unfolding does_nothing seen expected answer_numbers
does_nothing_differs = differs_by number_of does_nothing k2 in_k2 (λ lent room e. omega arith)

-- whatever the fixed page is, it is wrong at K2 or at K4, whose pages differ
pub fixed_page_differs : (fixed : List ℕ) → (lent : Lent) → roomy 1 1 1 lent ≡ true → roomy 1 1 3 lent ≡ true
    → fixed_page fixed 1 1 (list_of k2) lent ≡ outcome 1 1 (list_of k2) lent → fixed_page fixed 1 1 (list_of k4) lent ≡ outcome 1 1 (list_of k4) lent → ⊥
fixed_page_differs fixed lent two four e f = seven_is_nine (ap first (sym (shown k2 in_k2 two e) ∙ shown k4 in_k4 four f))
  where
    shown : (c : Case) → Memᴰ c cases → roomy c.n 1 (length c.rows) lent ≡ true → fixed_page fixed c.n 1 (list_of c) lent ≡ outcome c.n 1 (list_of c) lent
        → over fixed lent.page ≡ over c.page lent.page
    shown c m room e = unfold fixed_page with_page seen expected in ap (λ (s : Seen). s.lent.page) (ap seen e ∙ worked c m lent room)

    seven_is_nine : get_or (over (7 ∷ []) lent.page) 0 0 ≡ get_or (over (9 ∷ []) lent.page) 0 0 → ⊥
    seven_is_nine e = unfold over in omega arith

-- room for some rows is room for fewer
fewer_fit : (n l m k : ℕ) (lent : Lent) → k ≤ m → roomy n l m lent ≡ true → roomy n l k lent ≡ true
fewer_fit n l m k lent h e =
    let f : Fits n l m lent = roomy-fits n l m lent e in
    fits-roomy n l k lent (record { page = f.page; uses = omega arith; roles = omega arith; scratch = f.scratch })

-- the first row of K4 is the list of K2, whose page is another
pub first-row_differs : Differs first_row k4
first-row_differs = differs_by (λ s. first s.lent.page) first_row k4 in_k4 (λ lent room e. seven_is_nine lent (right lent room) e)
  where
    start : take 13 (list_of k4) ≡ list_of k2
    start = unfold list_of flat bytes in refl

    right : (lent : Lent) → roomy 1 1 3 lent ≡ true → first (seen (first_row 1 1 (list_of k4) lent)).lent.page ≡ 7
    right lent room = unfold first_row with_answer seen in
        rw start (unfold seen expected over in ap (λ (s : Seen). first s.lent.page) (worked k2 in_k2 lent (fewer_fit 1 1 3 1 lent (omega arith) room)))

    seven_is_nine : (lent : Lent) → first (seen (first_row 1 1 (list_of k4) lent)).lent.page ≡ 7 → first (seen (first_row 1 1 (list_of k4) lent)).lent.page ≡ first (expected lent k4).lent.page → ⊥
    seven_is_nine lent p e = unfold expected over in omega arith

pub invents_uses_differs : Differs invents_uses k4
unfolding invents_uses with_uses seen expected over list_of row_count flat bytes
invents_uses_differs = differs_by (λ s. get_or s.lent.uses 2 0) invents_uses k4 in_k4 (λ lent room e. omega arith)

ranked-most : (n : ℕ) (a : Answer) → (answer_numbers (ranked n a)).rank ≤ n
unfolding ranked answer_numbers
ranked-most n (answer.Page r g) = omega arith
ranked-most n answer.Shape = omega arith
ranked-most n answer.List = omega arith
ranked-most n answer.Room = omega arith
ranked-most n (answer.Stray place) = omega arith
ranked-most n (answer.Few r) = omega arith
ranked-most n (answer.Tie r) = omega arith
ranked-most n (answer.Singular r) = omega arith

pub invents_rank_differs : Differs invents_rank k4
unfolding invents_rank with_answer seen expected
invents_rank_differs = differs_by rank_of invents_rank k4 in_k4 (λ lent room e. omega (arith, ranked-most 1 (outcome 1 1 (list_of k4) lent).answer))

agreeing-all : (m : ℕ) (a : Answer) → (answer_numbers (agreeing m a)).agreement ≡ 2 → m ≡ 2
unfolding agreeing answer_numbers
agreeing-all m (answer.Page r g) e = e
agreeing-all m answer.Shape e = absurd (omega arith)
agreeing-all m answer.List e = absurd (omega arith)
agreeing-all m answer.Room e = absurd (omega arith)
agreeing-all m (answer.Stray place) e = absurd (omega arith)
agreeing-all m (answer.Few r) e = absurd (omega arith)
agreeing-all m (answer.Tie r) e = absurd (omega arith)
agreeing-all m (answer.Singular r) e = absurd (omega arith)

pub invents_agreement_differs : Differs invents_agreement k4
unfolding invents_agreement with_answer seen expected list_of row_count flat bytes
invents_agreement_differs = differs_by agreement_of invents_agreement k4 in_k4 (λ lent room e. omega (arith, agreeing-all 3 (outcome 1 1 (list_of k4) lent).answer e))

-- ---- demand 3's law alone

added-refused : (second : List ℕ) (o : Outcome) → gave o ≡ false → added second o ≡ o
unfolding added
added-refused second o e = rw e

pub refuses-all-keeps_shift : KeepsShift refuses_all
unfolding refuses_all
refuses-all-keeps_shift n l list lent second = sym (added-refused second (record { answer = answer.Shape; lent = lent }) (unfold gave answer_numbers in refl))

pub does_nothing-keeps_shift : KeepsShift does_nothing
unfolding does_nothing
does_nothing-keeps_shift n l list lent second = sym (added-refused second (record { answer = answer.Few 0; lent = lent }) (unfold gave answer_numbers in refl))

-- and a fixed page keeps not even that: K9 is K7 with the page 5 9 added
never_moved : (x : ℕ) (page : List ℕ) → x ∷ page ≡ over (xor_bytes (take 2 (x ∷ page)) (5 ∷ 9 ∷ [])) (x ∷ page) → ⊥
unfolding over xor_bytes
never_moved x page e = omega (arith, sym (⊕_cancel x 5) ∙ ap (λ (y : ℕ). x ⊕ y) (sym (ap first e)) ∙ ⊕_self x)

pub fixed_page_breaks_shift : (fixed : List ℕ) (lent : Lent) → roomy 2 1 5 lent ≡ true
    → fixed_page fixed 2 1 (shifted_list 1 (symbols 2 1 (5 ∷ 9 ∷ [])) (list_of k7)) lent ≡ added (5 ∷ 9 ∷ []) (fixed_page fixed 2 1 (list_of k7) lent) → ⊥
fixed_page_breaks_shift fixed lent room e = go (over fixed lent.page) refl
  where
    answered : (answer_numbers (outcome 2 1 (list_of k7) lent).answer).number ≡ 0
    answered = unfold seen expected in ap number_of (worked k7 in_k7 lent room)

    given : gave (fixed_page fixed 2 1 (list_of k7) lent) ≡ true
    given = unfold gave fixed_page with_page in rw answered

    moved : over fixed lent.page ≡ over (xor_bytes (take 2 (over fixed lent.page)) (5 ∷ 9 ∷ [])) (over fixed lent.page)
    moved = unfold fixed_page with_page added in ap (λ (o : Outcome). o.lent.page) e ∙ rw given

    wide : 0 < length (over fixed lent.page)
    wide = unfold over in omega (arith, length-append fixed (drop (length fixed) lent.page), length-drop (length fixed) lent.page, (roomy-fits 2 1 5 lent room).page)

    go : (bytes : List ℕ) → over fixed lent.page ≡ bytes → ⊥
    go [] p = omega (arith, wide, ap length p)
    go (x ∷ bytes) p = never_moved x bytes (rw p at moved)
