-- Opening makes a store whole that has no rows, whatever bytes it had: every byte is written, and of zeros the working is that of no rows. A refused
-- opening writes nothing.
-- Assumes nothing.
use mathlib.Core.Path.{◌≡◌, refl, sym, ap, ◌∙◌}
use Prim.Native.Nat.{ℕ, zero, suc, ◌+◌, ◌*◌, ◌/◌, ◌^◌, ◌≤◌, ◌<◌}
use native.Mathlib.Omega.{arith}
use mathlib.Core.Bool.{Bool, true, false, cond, not}
use mathlib.Core.List.{List, [], ◌∷◌, ◌++◌, append_assoc}
use lib.ListN.{length, take, drop, get_or, replicate, length-replicate, length-append, length-drop}
use lib.Seq.{take_at, drop-append-le, get_or-take, take-take}
use Rattle.std.proofs.Common.{Result, Ok, Err}
use Rattle.octets.specs.Octets.{number, bytes, numbers, over}
use Rattle.octets.proofs.Numbers.{length-bytes, number-bytes}
use Rattle.octets.proofs.Loaded.{number-zeros}
use Rattle.octets.proofs.Runs.{length_over, take-over, get_or-numbers}
use Rattle.octets.proofs.Lay.{drop-over}
use Rattle.doubles.specs.Doubles.{pair_at}
use Rattle.rows.specs.Rows.{shape}
use Rattle.rows.proofs.Shape.{shape_range}
use Rattle.concluding.proofs.Bytes.{zeros_low}
use Rattle.crossing.specs.Held as crossing
use Rattle.state.specs.Layout.{state_bytes}
use Rattle.store.specs.Store.{store_bytes, list_at, working_at, list_room, is_store, page_in, n_in, l_in, rows_in, taken_in, rank_in}
use Rattle.opening.specs.declared.Refusal.{Refusal}
use Rattle.opening.specs.declared.Refusal.TheVariants.{Shape, Room}
use Rattle.opening.specs.Opening.{number_of, open_answer, blank, after, opened_store}
use Rattle.current.specs.Current.{first_entries}
use Rattle.current.proofs.Empty.{current-empty}
use Rattle.whole.specs.Whole.{Whole}
use Rattle.store.proofs.Sizes.{sizes}
use Rattle.store.proofs.Parts.{is_store_lem, list_in_lem, working_in_lem}
use Rattle.whole.proofs.Parts.{page-front}

-- ---- a refusal

after-refused : (a : Result Unit Refusal) (page n l : ℕ) (store : List ℕ) → (number_of a ≡ 0 → ⊥) → after a page n l store ≡ store
unfolding after number_of
after-refused (Ok _) page n l store refused = absurd (refused refl)
after-refused (Err e) page n l store refused = refl

-- "opening gives 1 then 3": a refused opening leaves an older store as it was
pub open_refused : (page n l : ℕ) (store : List ℕ) → (number_of (open_answer n l store) ≡ 0 → ⊥) → opened_store page n l store ≡ store
unfolding opened_store
open_refused page n l store refused = after-refused (open_answer n l store) page n l store refused

-- so does one whose n or L is out of range
pub open_shapeless : (page n l : ℕ) (store : List ℕ) → shape n l ≡ false → opened_store page n l store ≡ store
unfolding opened_store open_answer after
open_shapeless page n l store s = rw s

-- and one of a buffer that is too short
pub open_short : (page n l : ℕ) (store : List ℕ) → is_store store ≡ false → opened_store page n l store ≡ store
unfolding opened_store open_answer after
open_short page n l store e = go (shape n l)
  where
    go : (s : Bool) → after (cond (not s) (Err Shape) (cond (not (is_store store)) (Err Room) (Ok tt))) page n l store ≡ store
    go true = rw e
    go false = refl

-- ---- zeros

zeros-inside : (k a all : ℕ) (rest : List ℕ) → a + k ≤ all → take k (drop a (replicate all 0 ++ rest)) ≡ replicate k 0
zeros-inside zero a all rest h = refl
zeros-inside (suc k) zero zero rest h = absurd (omega arith)
zeros-inside (suc k) zero (suc all) rest h = ap (λ (t : List ℕ). 0 ∷ t) (zeros-inside k zero all rest (omega arith))
zeros-inside (suc k) (suc a) zero rest h = absurd (omega arith)
zeros-inside (suc k) (suc a) (suc all) rest h = zeros-inside (suc k) a all rest (omega arith)

-- ---- a store that was opened

module _ (page n l : ℕ) (store : List ℕ) (s : shape n l ≡ true) (long : store_bytes ≤ length store) where
  abbrev head : List ℕ
  head = bytes 4 page ++ (n ∷ l ∷ [])

  abbrev new : List ℕ
  new = over head (over blank store)

  opened_is : opened_store page n l store ≡ new
  unfolding opened_store open_answer after
  opened_is = rw (s, is_store_lem store long)

  head-long : length head ≡ 6
  head-long = length-append (bytes 4 page) (n ∷ l ∷ []) ∙ omega (arith, length-bytes 4 page)

  blank-long : length (over blank store) ≡ length store
  unfolding blank
  blank-long = length_over blank store (omega (arith, length-replicate {A = ℕ} store_bytes 0))

  new-long : length new ≡ length store
  new-long = length_over head (over blank store) (omega (arith, head-long, blank-long, sizes)) ∙ blank-long

  has_store : store_bytes ≤ length new
  has_store = omega (arith, new-long)

  front : take 6 new ≡ head
  front = take-over head (over blank store) 6 head-long

  -- behind the first six bytes there are zeros
  zeros-behind : (k a : ℕ) → 6 ≤ a → a + k ≤ store_bytes → take k (drop a new) ≡ replicate k 0
  unfolding blank
  zeros-behind k a h fit =
      ap (take k) (drop-over a head (over blank store) (omega (arith, head-long))) ∙ unfold over in zeros-inside k a store_bytes (drop (length {A = ℕ} (replicate store_bytes 0)) store) fit

  pair_zero : (i : ℕ) → 3 ≤ i → i < 6 → pair_at i new ≡ 0
  pair_zero i low high =
      get_or-numbers 2 (length new / 2) new i (omega (arith, has_store, sizes)) ∙ ap number (zeros-behind 2 (i * 2) (omega arith) (omega (arith, sizes))) ∙ number-zeros 2

  -- what stands behind a store stays
  pub opened-long : length (opened_store page n l store) ≡ length store
  opened-long = ap length opened_is ∙ new-long

  pub opened-behind : drop store_bytes (opened_store page n l store) ≡ drop store_bytes store
  unfolding blank
  opened-behind =
      ap (drop store_bytes) opened_is ∙ drop-over store_bytes head (over blank store) (omega (arith, head-long, sizes))
      ∙ drop-over store_bytes blank store (omega (arith, length-replicate {A = ℕ} store_bytes 0))

  -- and all that stands in front of that is written, so that the bytes that were there before never matter
  pub opened-front : take store_bytes (opened_store page n l store) ≡ over (bytes 4 page ++ (n ∷ l ∷ [])) blank
  unfolding over blank
  opened-front =
      let size : length {A = ℕ} (replicate store_bytes 0) ≡ store_bytes = length-replicate store_bytes 0 in
      ap (take store_bytes) (opened_is ∙ ap (λ (t : List ℕ). head ++ t) (drop-append-le (length head) (replicate store_bytes 0) _ (omega (arith, head-long, sizes))) ∙ sym (append_assoc head _ _))
      ∙ take_at (head ++ drop (length head) (replicate store_bytes 0)) _ store_bytes
      (length-append head (drop (length head) (replicate store_bytes 0)) ∙ omega (arith, head-long, sizes, length-drop {A = ℕ} (length head) (replicate store_bytes 0)))

  page-new : page < 2 ^ 32 → page_in new ≡ page
  page-new small =
      page-front new (omega (arith, has_store, sizes))
      ∙ ap number (sym (take-take 4 6 new (omega arith)) ∙ ap (take 4) front ∙ take_at (bytes 4 page) (n ∷ l ∷ []) 4 (length-bytes 4 page))
      ∙ number-bytes 4 page small

  n-new : n_in new ≡ n
  unfolding n_in bytes
  n-new = sym (get_or-take 6 new 4 0 (omega arith)) ∙ ap (λ (t : List ℕ). get_or t 4 0) front

  l-new : l_in new ≡ l
  unfolding l_in bytes
  l-new = sym (get_or-take 6 new 5 0 (omega arith)) ∙ ap (λ (t : List ℕ). get_or t 5 0) front

  new-whole : page < 2 ^ 32 → Whole page n l (crossing.blank (replicate list_room 0)) new
  unfolding first_entries numbers rows_in taken_in rank_in
  new-whole small = record {
    long = has_store;
    shaped = s;
    page_is = page-new small;
    n_is = n-new;
    l_is = l-new;
    rows_are = pair_zero 3 (omega arith) (omega arith);
    list_is = list_in_lem new has_store ∙ zeros-behind list_room list_at (omega (arith, sizes)) (omega (arith, sizes));
    inside = tt;
    current =
        rw (
          pair_zero 4 (omega arith) (omega arith),
          pair_zero 5 (omega arith) (omega arith),
          working_in_lem new has_store ∙ zeros-behind state_bytes working_at (omega (arith, sizes)) (omega (arith, sizes)),
        )
        (current-empty l (replicate list_room 0) (shape_range n l s).l_low (shape_range n l s).l_high
        (omega (arith, sizes, length-replicate {A = ℕ} list_room 0, (shape_range n l s).l_high)) (zeros_low list_room));
  }

  -- "Opening again forgets everything."
  pub opened-whole : page < 2 ^ 32 → Whole page n l (crossing.blank (replicate list_room 0)) (opened_store page n l store)
  opened-whole small = rw opened_is (new-whole small)
