-- `is_repeat` meets its contract: a row whose seed was not noted is taken for new, and any other is compared with the earlier ones.
-- Assumes nothing.
use mathlib.Core.Path.{◌≡◌, sym, ap, ◌∙◌}
use mathlib.Core.Bool.{true, false}
use mathlib.Core.List.{List}
use Prim.Native.Nat.{ℕ, ◌≤◌}
use lib.ListN.{length}
use Rattle.words.specs.Words.{four_of}
use Rattle.lists.specs.Lists.{entry_at}
use Rattle.noting.specs.Noting.{noted_in, noted_state}
use Rattle.repeats.specs.Repeats.{repeated}
use Rattle.store.specs.Store.{store_bytes, list_in, working_in, with_working}
use Rattle.noticing.specs.Noticing.{seed_in}
use Rattle.noticing.proofs.Noticed.{too_short, noticed_is, repeat_is, noted-list}
use Rattle.noticing.proofs.is_repeat.Goals as goal
use Rattle.noticing.proofs.is_repeat.Goals.{After-note}

pub returns-then-store-lt-BYTES : goal.returns-then-store-lt-BYTES
unfolding store_bytes
returns-then-store-lt-BYTES c =
    let A = c.args in let both = too_short A.l A.arrival.0 A.store.now c.if-store-lt-BYTES.true in record { answer = both.0; store = both.1 }

pub note-requires : goal.note-requires
unfolding store_bytes
note-requires c = c.if-store-lt-BYTES.false

-- the store is long enough, and what noting the seed told and left
long : (c : After-note) → store_bytes ≤ length c.args.store.now
unfolding store_bytes
long c = c.if-store-lt-BYTES.false

told : (c : After-note) → let A = c.args in c.note.result ≡ noted_in (seed_in A.l A.arrival.0 A.store.now) (working_in A.store.now)
unfolding seed_in
told c = let A = c.args in c.note.ensures.answer ∙ ap (λ (s : ℕ). noted_in s (working_in A.store.now)) (c.seed-seed.ensures ∙ ap (λ (list : List ℕ). four_of (entry_at c.args.l c.args.arrival.0 list)) c.list.ensures.shows)

left : (c : After-note)
    → let A = c.args in c.note.new.store ≡ with_working (noted_state (seed_in A.l A.arrival.0 A.store.now) (working_in A.store.now)) A.store.now
unfolding seed_in
left c = let A = c.args in c.note.ensures.store ∙ ap (λ (s : ℕ). with_working (noted_state s (working_in A.store.now)) A.store.now) (c.seed-seed.ensures ∙ ap (λ (list : List ℕ). four_of (entry_at c.args.l c.args.arrival.0 list)) c.list.ensures.shows)

pub returns-then-note : goal.returns-then-note
returns-then-note c =
    let k = (goal.at.returns-then-note c).After-note in
    let A = c.args in
    let rest = ap list_in (left k) ∙ noted-list A.l A.arrival.0 A.store.now (long k) in record {
      answer = c.is_repeat.ensures ∙ ap (λ (list : List ℕ). repeated A.l A.arrival.0 list) (c.list-then-note.ensures.shows ∙ rest)
          ∙ sym (repeat_is A.l A.arrival.0 A.store.now (long k) true (sym (told k) ∙ c.if-note.true));
      store = left k ∙ sym (noticed_is A.l A.arrival.0 A.store.now (long k));
    }

pub returns-else-note : goal.returns-else-note
returns-else-note c =
    let k = (goal.at.returns-else-note c).After-note in
    let A = c.args in
    record { answer = c.if-note.false ∙ sym (repeat_is A.l A.arrival.0 A.store.now (long k) false (sym (told k) ∙ c.if-note.false)); store = left k ∙ sym (noticed_is A.l A.arrival.0 A.store.now (long k)) }
