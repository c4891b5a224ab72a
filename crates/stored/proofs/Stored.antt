-- The promise of the store. After any calls on a buffer that was opened, it is whole for the account of them, by each call's own law; so asking it is a
-- fresh reading of the rows accepted so far.
-- Assumes nothing.
use mathlib.Core.Path.{◌≡◌, refl}
use Prim.Native.Nat.{ℕ, ◌^◌, ◌≤◌, ◌<◌}
use mathlib.Core.Bool.{Bool, true, false, cond}
use mathlib.Core.List.{List, [], ◌∷◌}
use lib.ListN.{length}
use Rattle.space.specs.Lists.{Below}
use Rattle.rows.specs.Rows.{shape, row_count}
use Rattle.reader.specs.Pairs.{in_pairs}
use Rattle.crossing.specs.Held.{list_held}
use Rattle.store.specs.Store.{store_bytes, taken_in, rank_in, working_in}
use Rattle.opening.specs.Opening.{opened_store}
use Rattle.asking.specs.Asking.{said, lending, asked}
use Rattle.current.proofs.Held.{held-count}
use Rattle.whole.specs.Whole.{Whole}
use Rattle.whole.proofs.Opened.{opened-whole, open_shapeless}
use Rattle.whole.proofs.Offered.{offered-whole}
use Rattle.whole.proofs.Asked.{asked-whole}
use Rattle.stored.specs.Calls.{Call, opening, offering, asking, IsCall, AreCalls, after, after_all, Account, opened, next, next_all, accepted}

-- A store that is whole for an account.
abbrev IsStored : Account → List ℕ → Type 0
IsStored s store = Whole s.page s.n s.l s.held store

-- ---- each call keeps it so

opening-keeps : (page n l : ℕ) → page < 2 ^ 32 → (s : Account) (store : List ℕ) → IsStored s store → IsStored (next (opening page n l) s) (after (opening page n l) store)
unfolding next after
opening-keeps page n l small s store W = go (shape n l) refl
  where
    go : (b : Bool) → shape n l ≡ b → IsStored (cond (shape n l) (opened page n l) s) (opened_store page n l store)
    go true e = rw e (opened-whole page n l store e W.long small)
    go false e = rw (e, open_shapeless page n l store e) W

call_keeps : (call : Call) → IsCall call → (s : Account) (store : List ℕ) → IsStored s store → IsStored (next call s) (after call store)
unfolding next after
call_keeps (opening page n l) small s store W = unfold next after in opening-keeps page n l small s store W
call_keeps (offering frame) b s store W = offered-whole s.page s.n s.l s.held store W frame b
call_keeps (asking lent) c s store W = W

calls_keep : (calls : List Call) → AreCalls calls → (s : Account) (store : List ℕ) → IsStored s store → IsStored (next_all calls s) (after_all calls store)
unfolding next_all after_all
calls_keep [] are s store W = W
calls_keep (call ∷ calls) are s store W = calls_keep calls are.1 (next call s) (after call store) (call_keeps call are.0 s store W)

-- "Opening again forgets everything."
pub opening_forgets : (page n l : ℕ) → shape n l ≡ true → (calls : List Call) (s : Account) → next_all (opening page n l ∷ calls) s ≡ next_all calls (opened page n l)
unfolding next_all next
opening_forgets page n l shaped calls s = rw shaped

-- ---- so a store that was opened, whatever bytes were there, is whole after any calls

module _ (store : List ℕ) (long : store_bytes ≤ length store) (page n l : ℕ) (small : page < 2 ^ 32) (s : shape n l ≡ true) (calls : List Call) (are : AreCalls calls) where
  pub stored-whole : let s = next_all calls (opened page n l) in Whole s.page s.n s.l s.held (after_all calls (opened_store page n l store))
  stored-whole = calls_keep calls are (opened page n l) (opened_store page n l store) (opened-whole page n l store s long small)

  -- it has as many rows as it says
  pub stored-count : let s = next_all calls (opened page n l) in row_count s.l (accepted s) ≡ s.held.rows
  unfolding accepted list_held
  stored-count =
      let s = next_all calls (opened page n l) in
      let now = after_all calls (opened_store page n l store) in
      held-count s.l s.held.list s.held.rows (taken_in now) (rank_in now) (working_in now) stored-whole.current

  -- "After any frames, its answer equals a fresh reading of the rows accepted so far": number, rank, place and agreement, and every lent byte
  pub stored-asked : (page₀ uses₀ roles₀ scratch₀ : List ℕ) → Below 256 uses₀
      → let s = next_all calls (opened page n l) in
      let o = in_pairs s.n s.l (accepted s) (lending page₀ uses₀ roles₀ scratch₀) in
      asked (after_all calls (opened_store page n l store)) page₀ uses₀ roles₀ scratch₀ ≡ record { answer = said o.answer s.held.rows; lent = o.lent }
  unfolding accepted
  stored-asked page₀ uses₀ roles₀ scratch₀ low =
      let s = next_all calls (opened page n l) in
      asked-whole s.page s.n s.l s.held (after_all calls (opened_store page n l store)) stored-whole page₀ uses₀ roles₀ scratch₀ low
