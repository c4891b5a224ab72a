-- Demands 2 and 3 through the store: what the frames of a page, offered one after the other with any others in between, leave in a store is what laying
-- them leaves in a list; so asking gives what crossing says of reading that list.
-- Assumes nothing.
use mathlib.Core.Path.{◌≡◌, refl, sym, ap, ◌∙◌}
use Prim.Native.Nat.{ℕ, ◌*◌, ◌^◌, ◌≤◌, ◌<◌}
use native.Mathlib.Nat.{mul-le-mul_left}
use native.Mathlib.Omega.{arith}
use mathlib.Core.Bool.{true}
use mathlib.Core.List.{List, [], ◌∷◌, map}
use lib.ListN.{length, replicate, length-replicate, length-map}
use Rattle.space.specs.Lists.{marked, Below}
use Rattle.octets.specs.Octets.{flat, xor_bytes}
use Rattle.rows.specs.Rows.{shape, list_row_bytes, row_count, entered}
use Rattle.rows.proofs.Lists.{row_count-flat}
use Rattle.rows.proofs.Shape.{shape_range}
use Rattle.reading.specs.declared.Answer.TheVariants as answer
use Rattle.reading.specs.Reading.{rank}
use Rattle.reading.specs.Orders.{counts, in_list_order}
use Rattle.reading.specs.Marks.{telling}
use Rattle.reading.specs.Outcome.{Outcome, roomy, outcome, ended, gave}
use Rattle.reading.specs.Added.{added}
use Rattle.reader.specs.Pairs.{counted, paired, in_pairs}
use Rattle.writing.specs.Writing.{frame_of}
use Rattle.crossing.specs.Held.{Held, blank, offered, offered_all, list_laid}
use Rattle.crossing.specs.Caught.{Caught, frames_of, own_of, Mixed, IsSeed, row_for, rows_for, entries_for}
use Rattle.crossing.specs.Taken.{Take, IsTake, taken}
use Rattle.crossing.proofs.Demand2.{crossed-list, crossing-2}
use Rattle.crossing.proofs.Laid.{caught_list}
use Rattle.crossing.proofs.Flipped.{entry_taken, taken_own}
use Rattle.crossing.proofs.Demand3.{crossing-3}
use Rattle.store.specs.Store.{store_bytes, list_room}
use Rattle.opening.specs.Opening.{opened_store}
use Rattle.asking.specs.Asking.{said, Asking, numbers_of, lending, asked}
use Rattle.store.proofs.Sizes.{sizes}
use Rattle.stored.specs.Calls.{offerings, AreCalls, OthersBytes, after_all, Account, opened, next, next_all, accepted}
use Rattle.stored.specs.Added.{added_asking}
use Rattle.stored.proofs.Stored.{stored-asked, stored-count}
use Rattle.stored.proofs.Frames.{frame_low, taken_low, caught_calls}

-- ---- offered one after the other, frames are laid one after the other

offered_account : (frames : List (List ℕ)) (number n l : ℕ) (held : Held)
    → next_all (offerings frames) (record { page = number; n = n; l = l; held = held }) ≡ record { page = number; n = n; l = l; held = offered_all number n l frames held }
unfolding next_all next offered_all
offered_account [] number n l held = refl
offered_account (frame ∷ frames) number n l held = offered_account frames number n l (offered number n l frame held)

module _ (store : List ℕ) (long : store_bytes ≤ length store) (number n l : ℕ) (small : number < 2 ^ 32) (s : shape n l ≡ true) where
  -- the list of a new store has room for 512 rows
  abbrev room : List ℕ
  room = replicate list_room 0

  room-512 : (m : ℕ) → m ≤ 512 → list_row_bytes l * m ≤ length room
  room-512 m h = omega (arith, mul-le-mul_left (list_row_bytes l) h, (shape_range n l s).l_high, sizes, length-replicate {A = ℕ} list_room 0)

  -- asking, after frames that laid make a list of so many entries
  module _ (frames : List (List ℕ)) (are : AreCalls (offerings frames)) (entries : List ℕ) (is : list_laid number n l frames room ≡ flat (list_row_bytes l) entries)
      (page₀ uses₀ roles₀ scratch₀ : List ℕ) (low : Below 256 uses₀) where
    abbrev held : Held
    held = offered_all number n l frames (blank room)

    account : next_all (offerings frames) (opened number n l) ≡ record { page = number; n = n; l = l; held = held }
    account = offered_account frames number n l (blank room)

    rows_are : held.rows ≡ length entries
    unfolding accepted list_laid
    rows_are = sym (rw account at (stored-count store long number n l small s (offerings frames) are)) ∙ ap (row_count l) is ∙ row_count-flat l entries

    -- what is said of an account when it is asked
    abbrev said_of : Account → Asking
    said_of a =
        let o = in_pairs a.n a.l (accepted a) (lending page₀ uses₀ roles₀ scratch₀) in
        record { answer = said o.answer a.held.rows; lent = o.lent }

    offered-asked : let o = outcome n l (list_laid number n l frames room) (counted (lending page₀ uses₀ roles₀ scratch₀)) in
        asked (after_all (offerings frames) (opened_store number n l store)) page₀ uses₀ roles₀ scratch₀
        ≡ record { answer = said o.answer (length entries); lent = paired uses₀ o.lent }
    unfolding accepted list_laid in_pairs
    offered-asked =
        let o = outcome n l (list_laid number n l frames room) (counted (lending page₀ uses₀ roles₀ scratch₀)) in
        stored-asked store long number n l small s (offerings frames) are page₀ uses₀ roles₀ scratch₀ low ∙ ap said_of account
        ∙ ap (λ (rows : ℕ). record { answer = said o.answer rows; lent = paired uses₀ o.lent }) rows_are

  -- ---- demand 2

  -- "gives that page whenever its rank reaches the number of symbols": the frames of one page, with any others in between that laying refuses, offered one
  -- after the other. The agreement is the number of seeds, each counted once.
  pub stored-2 : (page : List ℕ) → length page ≡ n * l → Below 256 page → (caught : List (Caught ℕ)) → Mixed number n l IsSeed caught → length (own_of caught) ≤ 512
      → OthersBytes caught → (page₀ uses₀ roles₀ scratch₀ : List ℕ) → Below 256 uses₀ → roomy n l (length (own_of caught)) (counted (lending page₀ uses₀ roles₀ scratch₀)) ≡ true
      → n ≤ rank (rows_for n l page (own_of caught))
      → let entries = entries_for n l page (own_of caught) in
      let given = answer.Page n (marked (counts (own_of caught))) in
      asked (after_all (offerings (frames_of (λ seed. frame_of number n l seed page) caught)) (opened_store number n l store)) page₀ uses₀ roles₀ scratch₀
      ≡ record {
        answer = said given (length (own_of caught));
        lent = paired uses₀ (ended n l entries (in_list_order entries) (counted (lending page₀ uses₀ roles₀ scratch₀)) given telling page).lent;
      }
  unfolding entries_for ended
  stored-2 page size b caught m most others page₀ uses₀ roles₀ scratch₀ low roomed enough =
      let lent = counted (lending page₀ uses₀ roles₀ scratch₀) in
      let entries = entries_for n l page (own_of caught) in
      offered-asked (frames_of (λ seed. frame_of number n l seed page) caught)
      (caught_calls number n l (λ seed. frame_of number n l seed page) IsSeed (λ seed h. frame_low number n l page s seed) caught m others) entries
      (crossed-list number n l page small s size b caught m most room (room-512 (length (own_of caught)) most))
      page₀ uses₀ roles₀ scratch₀ low
      ∙ ap (λ (o : Outcome). record { answer = said o.answer (length entries); lent = paired uses₀ o.lent })
      (crossing-2 number n l page small s size b caught m most room (room-512 (length (own_of caught)) most) lent roomed enough)
      ∙ rw (length-map (own_of caught) (λ seed. entered l seed (row_for n l page seed)))

  -- ---- demand 3

  -- "With the same rows drawn, their seeds and constraints read right, and the same payload bits flipped, what is written on a page never decides if it gets
  -- through": of two pages of the same shape, with the same others in between, asking gives the same, but for the page, to which both are added.
  pub stored-3 : (p q : List ℕ) → length p ≡ n * l → length q ≡ n * l → Below 256 p → Below 256 q
      → (caught : List (Caught Take)) → Mixed number n l (IsTake l) caught → length (own_of caught) ≤ 512
      → OthersBytes caught → (page₀ uses₀ roles₀ scratch₀ : List ℕ) → Below 256 uses₀ → roomy n l (length (own_of caught)) (counted (lending page₀ uses₀ roles₀ scratch₀)) ≡ true
      → asked (after_all (offerings (frames_of (taken number n l q) caught)) (opened_store number n l store)) page₀ uses₀ roles₀ scratch₀
      ≡ added_asking (xor_bytes p q) (asked (after_all (offerings (frames_of (taken number n l p) caught)) (opened_store number n l store)) page₀ uses₀ roles₀ scratch₀)
  unfolding added_asking added gave numbers_of
  stored-3 p q sp sq bp bq caught m most others page₀ uses₀ roles₀ scratch₀ low roomed =
      after q bq
      ∙ ap (λ (o : Outcome). record { answer = said o.answer (length (own_of caught)); lent = paired uses₀ o.lent })
      (crossing-3 number n l small s p q sp sq bp bq caught m most room (room-512 (length (own_of caught)) most) (counted (lending page₀ uses₀ roles₀ scratch₀)) roomed)
      ∙ ap (added_asking (xor_bytes p q)) (sym (after p bp))
    where
      after : (w : List ℕ) → Below 256 w
          → let o = outcome n l (list_laid number n l (frames_of (taken number n l w) caught) room) (counted (lending page₀ uses₀ roles₀ scratch₀)) in
          asked (after_all (offerings (frames_of (taken number n l w) caught)) (opened_store number n l store)) page₀ uses₀ roles₀ scratch₀
          ≡ record { answer = said o.answer (length (own_of caught)); lent = paired uses₀ o.lent }
      after w bw =
          offered-asked (frames_of (taken number n l w) caught) (caught_calls number n l (taken number n l w) (IsTake l) (taken_low number n l w s) caught m others) (map (entry_taken n l w) (own_of caught))
          (caught_list number n l (taken number n l w) (entry_taken n l w) (IsTake l) (λ t right. taken_own number n l w small s bw t right) s caught m most room (room-512 (length (own_of caught)) most))
          page₀ uses₀ roles₀ scratch₀ low
          ∙ rw (length-map (own_of caught) (entry_taken n l w))
