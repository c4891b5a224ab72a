-- What opening writes: zeros over the whole of a store, then the page number, n and L over its first bytes.
-- Assumes nothing.
use mathlib.Core.Path.{◌≡◌, sym, ap, ◌∙◌}
use mathlib.Core.Bool.{true}
use mathlib.Core.List.{List, [], ◌∷◌, ◌++◌, append_assoc}
use Prim.Native.Nat.{ℕ, ◌+◌, ◌≤◌}
use native.Mathlib.Omega.{arith}
use lib.ListN.{length, take, drop, set, replicate, length-append, length-drop, length-replicate}
use lib.Seq.{set_at, append_snoc, drop-drop, drop-append-le, length-take-le}
use borrow.Author.Tests.{le-leb}
use Rattle.octets.specs.Octets.{bytes, over}
use Rattle.octets.proofs.Numbers.{length-bytes}
use Rattle.rows.specs.Rows.{shape}
use Rattle.store.specs.Store.{store_bytes, is_store}
use Rattle.store.proofs.Sizes.{sizes}
use Rattle.opening.specs.Opening.{open_answer, blank, after, opened_store}

-- what was written over zeros, in front of the rest of a store
pub in_front : (k : ℕ) (head store : List ℕ) → length head ≤ k → over head (replicate k 0) ++ drop k store ≡ over head (over (replicate k 0) store)
unfolding over
in_front k head store h =
    append_assoc head (drop (length head) (replicate k 0)) (drop k store)
    ∙ ap (λ (t : List ℕ). head ++ t) (sym (drop-append-le (length head) (replicate k 0) (drop k store) (omega (arith, size))) ∙ ap (λ (n : ℕ). drop (length head) (replicate k 0 ++ drop n store)) (sym size))
  where
    size : length {A = ℕ} (replicate k 0) ≡ k
    size = length-replicate k 0

-- two bytes behind a front of k
two-set : (k : ℕ) (front rest : List ℕ) (n l : ℕ) → length front ≡ k → 2 ≤ length rest → set (set (front ++ rest) k n) (k + 1) l ≡ (front ++ (n ∷ l ∷ [])) ++ drop 2 rest
two-set k front [] n l e h = absurd (omega arith)
two-set k front (x ∷ []) n l e h = absurd (omega arith)
two-set k front (x ∷ y ∷ rest) n l e h =
    ap (λ (bs : List ℕ). set bs (k + 1) l) (set_at front x (y ∷ rest) n k e ∙ sym (append_snoc front n (y ∷ rest)))
    ∙ set_at (front ++ (n ∷ [])) y rest l (k + 1) (omega (arith, length-append front (n ∷ []))) ∙ append_snoc front n (l ∷ rest) ∙ sym (append_assoc front (n ∷ l ∷ []) rest)

pub page_put : (store part : List ℕ) (page n l : ℕ) → part ≡ bytes (length (take 4 store)) page → 6 ≤ length store → set (set (part ++ drop 4 store) 4 n) 5 l ≡ over (bytes 4 page ++ (n ∷ l ∷ [])) store
unfolding over
page_put store part page n l e long =
    rw (e, length-take-le 4 store (omega (arith, long)))
    (two-set 4 front (drop 4 store) n l (length-bytes 4 page) (omega (arith, length-drop 4 store))
    ∙ ap (λ (bs : List ℕ). (front ++ (n ∷ l ∷ [])) ++ bs) (drop-drop 2 4 store ∙ ap (λ (k : ℕ). drop k store) six))
  where
    front : List ℕ
    front = bytes 4 page

    six : 4 + 2 ≡ length (front ++ (n ∷ l ∷ []))
    six = omega (arith, length-append front (n ∷ l ∷ []), length-bytes 4 page)

-- the first 65,536 bytes were lent and came back with zeros, and the page written over them
pub open_opens : (page n l : ℕ) (store part zeros whole : List ℕ) → shape n l ≡ true → store_bytes ≤ length store → whole ≡ take store_bytes store
    → zeros ≡ replicate (length whole) 0 → part ≡ over (bytes 4 page ++ (n ∷ l ∷ [])) zeros → part ++ drop store_bytes store ≡ opened_store page n l store
unfolding opened_store open_answer after is_store blank
open_opens page n l store part zeros whole s long w z p =
    rw (s, le-leb store_bytes (length store) long) (rw (p, z, ap length w ∙ length-take-le store_bytes store long) (in_front store_bytes (bytes 4 page ++ (n ∷ l ∷ [])) store (omega (arith, sizes, small))))
  where
    small : length (bytes 4 page ++ (n ∷ l ∷ [])) ≡ 6
    small = length-append (bytes 4 page) (n ∷ l ∷ []) ∙ omega (arith, length-bytes 4 page)
