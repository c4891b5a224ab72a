-- Asking any bytes: what it answers and what it writes, by the header and by how the tail ends, whatever stands in the list and the working.
-- Assumes nothing.
use mathlib.Core.Path.{◌≡◌, refl, sym, ap, ◌∙◌}
use Prim.Native.Nat.{ℕ, suc, ◌*◌, ◌/◌, ◌≤◌, ◌<◌}
use native.Mathlib.Nat.{div-lt_iff_lt-mul}
use native.Mathlib.Omega.{arith}
use mathlib.Core.Bool.{Bool, true, false, ◌&&◌, false≢true}
use mathlib.Core.List.{List, [], ◌∷◌}
use lib.Dec.{leb}
use lib.ListN.{length, take, length-take, length-replicate}
use borrow.Author.Tests.{leb-true}
use Rattle.space.proofs.Both.{both}
use Rattle.std.proofs.Common.{Result, Ok, Err}
use Rattle.rows.specs.Rows.{list_row_bytes, row_count}
use Rattle.reading.specs.Answer.{answer_numbers}
use Rattle.reading.specs.Orders.{among}
use Rattle.reading.specs.Outcome.{Lent, Outcome, room_for, zeros, scratch_bytes}
use Rattle.state.specs.Layout.{uses_part}
use Rattle.tail.specs.Tail.{choice_in, roles_in, finished}
use Rattle.store.specs.declared.Head.{Head}
use Rattle.store.specs.declared.Refusal.{Refusal}
use Rattle.store.specs.declared.Refusal.TheVariants.{Short, OutOfRange}
use Rattle.store.specs.Store.{n_in, l_in, rows_in, list_in, working_in}
use Rattle.store.specs.Header as store-header
use Rattle.store.specs.Header.{head_in, header_of}
use Rattle.asking.specs.Asking.{numbers_of, lending, list_of, ended, answered, asked_by, asked}
use Rattle.store.proofs.Checked.{good_means}
use Rattle.stored.specs.Others.{Within, WithinLent}
use Rattle.stored.proofs.Within.{same_within, within_more, over-within}
use Rattle.stored.proofs.Ending.{answer_number, pairs-within, roles-within, finished-ends}

-- ---- with the header's numbers

module _ (h : Head) (store page uses roles scratch : List ℕ) where
  -- there are no more rows than the header says
  rows-most : row_count h.l (list_of h store) ≤ h.rows
  unfolding row_count list_of
  rows-most =
      let wide : 0 < list_row_bytes h.l = omega arith in
      let most : length (take (list_row_bytes h.l * h.rows) (list_in store)) < suc h.rows * list_row_bytes h.l =
      omega (arith, length-take (list_row_bytes h.l * h.rows) (list_in store)) in
      omega (arith, (div-lt_iff_lt-mul wide).1 most)

  abbrev room : Bool
  room = room_for (h.n * h.l) h.rows (length page) (length uses / 2) (length roles) (length scratch)

  -- what asking answers and leaves past the check of the header
  record Answers (o : Outcome) : Type 0 where
    any : among (3 ∷ 10 ∷ 5 ∷ 6 ∷ 7 ∷ 0 ∷ []) (answer_number o.answer) ≡ true
    late : room ≡ true → among (5 ∷ 6 ∷ 7 ∷ 0 ∷ []) (answer_number o.answer) ≡ true
    refused : among (3 ∷ 10 ∷ []) (answer_number o.answer) ≡ true → o.lent ≡ lending page uses roles scratch
    page-stays : (answer_number o.answer ≡ 0 → ⊥) → o.lent.page ≡ page
    page-within : Within (h.n * h.l) page o.lent.page
    uses-within : Within (2 * h.rows) uses o.lent.uses
    roles-within : Within h.rows roles o.lent.roles
    scratch-within : Within scratch_bytes scratch o.lent.scratch

  roles_in-within : Within h.rows roles (roles_in h.n h.l (list_of h store) h.rank (working_in store) roles)
  unfolding roles_in
  roles_in-within =
      within_more (row_count h.l (list_of h store)) h.rows roles _ rows-most
      (roles-within (choice_in h.n h.rank (working_in store)) (row_count h.l (list_of h store)) (working_in store) (uses_part h.rank (working_in store)) roles)

  zeros-long : length zeros ≡ scratch_bytes
  unfolding zeros
  zeros-long = length-replicate {A = ℕ} scratch_bytes 0

  scratch-room : room ≡ true → scratch_bytes ≤ length scratch
  unfolding room_for
  scratch-room e =
      leb-true scratch_bytes (length scratch)
      (both (leb h.rows (length roles)) (leb scratch_bytes (length scratch)) (both (leb (h.n * h.l) (length page) && leb h.rows (length uses / 2)) _ e).1).1

  answers : (b : Bool) → room ≡ b → Answers (answered h store page uses roles scratch)
  unfolding answered ended
  answers true r =
      let E = finished-ends h.n h.l (list_of h store) h.taken h.rank (working_in store) roles page in
      let now = finished h.n h.l (list_of h store) h.taken h.rank (working_in store) roles page in
      rw r (record {
        any = E.any;
        late = λ e. E.late;
        refused = λ e. absurd (false≢true (sym E.no_refusal ∙ e));
        page-stays = E.page-stays;
        page-within = E.page-within;
        uses-within = pairs-within h.rows now.state (uses_part (answer_numbers now.answer).rank now.state) uses;
        roles-within = roles_in-within;
        scratch-within = over-within scratch_bytes zeros scratch (omega (arith, zeros-long)) (omega (arith, zeros-long, scratch-room r));
      })
  answers false r = rw r (record {
    any = unfold among answer_numbers in refl;
    late = λ e. absurd (false≢true (sym r ∙ e));
    refused = λ e. refl;
    page-stays = λ z. refl;
    page-within = same_within (h.n * h.l) page;
    uses-within = same_within (2 * h.rows) uses;
    roles-within = same_within h.rows roles;
    scratch-within = same_within scratch_bytes scratch;
  })

-- ---- any bytes

module _ (store page uses roles scratch : List ℕ) where
  abbrev lent : Lent
  lent = lending page uses roles scratch

  abbrev number : ℕ
  number = (numbers_of (asked store page uses roles scratch).answer).number

  -- past the header check a call answers and writes as one of a reading does
  past : (h : Head) → header_of store ≡ Ok h → Answers h store page uses roles scratch (answered h store page uses roles scratch)
  past h e = answers h store page uses roles scratch (room h store page uses roles scratch) refl

  -- ---- the numbers

  -- "asking gives 3 for the store, 10, 3 for the rest, then 5 to 7": or 0
  pub asked-any : among (3 ∷ 10 ∷ 5 ∷ 6 ∷ 7 ∷ 0 ∷ []) number ≡ true
  unfolding asked asked_by numbers_of store-header.number_of among
  asked-any = go (header_of store) refl
    where
      go : (h : Result Head Refusal) → header_of store ≡ h → among (3 ∷ 10 ∷ 5 ∷ 6 ∷ 7 ∷ 0 ∷ []) (numbers_of (asked_by h store page uses roles scratch).answer).number ≡ true
      go (Err Short) e = refl
      go (Err OutOfRange) e = refl
      go (Ok h) e = (past h e).any

  -- past the header check and with room, 5, 6, 7 or 0
  pub asked-late : (h : Head) → header_of store ≡ Ok h → room_for (h.n * h.l) h.rows (length page) (length uses / 2) (length roles) (length scratch) ≡ true
      → among (5 ∷ 6 ∷ 7 ∷ 0 ∷ []) number ≡ true
  unfolding asked asked_by numbers_of
  asked-late h e r = go (header_of store) e
    where
      go : (x : Result Head Refusal) → x ≡ Ok h → among (5 ∷ 6 ∷ 7 ∷ 0 ∷ []) (numbers_of (asked_by x store page uses roles scratch).answer).number ≡ true
      go x q = rw q ((past h e).late r)

  -- ---- the buffers

  -- 3 and 10 write nothing
  pub asked-refused : among (3 ∷ 10 ∷ []) number ≡ true → (asked store page uses roles scratch).lent ≡ lending page uses roles scratch
  unfolding asked asked_by numbers_of
  asked-refused = go (header_of store) refl
    where
      go : (h : Result Head Refusal) → header_of store ≡ h → among (3 ∷ 10 ∷ []) (numbers_of (asked_by h store page uses roles scratch).answer).number ≡ true
          → (asked_by h store page uses roles scratch).lent ≡ lending page uses roles scratch
      go (Err Short) e z = refl
      go (Err OutOfRange) e z = refl
      go (Ok h) e z = (past h e).refused z

  -- "Only 0 writes the page"
  pub asked-page : (number ≡ 0 → ⊥) → (asked store page uses roles scratch).lent.page ≡ page
  unfolding asked asked_by numbers_of
  asked-page = go (header_of store) refl
    where
      go : (h : Result Head Refusal) → header_of store ≡ h → ((numbers_of (asked_by h store page uses roles scratch).answer).number ≡ 0 → ⊥) → (asked_by h store page uses roles scratch).lent.page ≡ page
      go (Err Short) e z = refl
      go (Err OutOfRange) e z = refl
      go (Ok h) e z = (past h e).page-stays z

  -- whatever is written stays within what a reading of that many rows writes
  pub asked-within : WithinLent store (lending page uses roles scratch) (asked store page uses roles scratch).lent
  unfolding asked asked_by head_in
  asked-within = go (header_of store) refl
    where
      nothing : WithinLent store (lending page uses roles scratch) (lending page uses roles scratch)
      nothing = record {
        page = same_within (n_in store * l_in store) page;
        uses = same_within (2 * rows_in store) uses;
        roles = same_within (rows_in store) roles;
        scratch = same_within scratch_bytes scratch;
      }

      go : (h : Result Head Refusal) → header_of store ≡ h → WithinLent store (lending page uses roles scratch) (asked_by h store page uses roles scratch).lent
      go (Err refusal) e = nothing
      go (Ok h) e =
          let same = (good_means store h e).is in
          let A = past h e in
          record {
            page = rw (ap (λ (x : Head). x.n) same, ap (λ (x : Head). x.l) same) A.page-within;
            uses = rw (ap (λ (x : Head). x.rows) same) A.uses-within;
            roles = rw (ap (λ (x : Head). x.rows) same) A.roles-within;
            scratch = A.scratch-within;
          }
