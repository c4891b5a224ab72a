-- What no order changes, as long as it takes each row that counts once: the rank, which is that of the whole list, how many rows are taken, and
-- the agreement. The rank goes by which rows there are and not by how often or in which order, since independent vectors are no more than vectors
-- that span them; and each row is equal to one that counts.
-- Assumes nothing.
use mathlib.Core.Path.{◌≡◌, refl, sym, ap, ◌∙◌}
use Prim.Native.Nat.{ℕ, zero, suc, ◌≤◌, ◌<◌}
use native.Mathlib.Nat.{le_antisymm}
use native.Mathlib.Omega.{arith}
use mathlib.Core.Bool.{Bool, true, false, false≢true}
use mathlib.Core.List.Memᴰ
use mathlib.Core.List.{List, [], ◌∷◌, map, Memᴰ}
use lib.Dec.{eqb}
use lib.ListN.{length, get_or}
use Rattle.space.specs.Lists.{marked, count, All}
use Rattle.space.specs.Space.{spans}
use Rattle.space.proofs.Lists.{all_in, all_at, select-all, count_map, length-select, length-tabulate}
use Rattle.space.proofs.Exchange.{no_more}
use Rattle.rows.specs.Rows.{vector, agrees}
use Rattle.reading.specs.Reading.{kept, kept_rows, rank, agreement, few}
use Rattle.reading.specs.Orders.{arrivals, counts, taken, in_list_order, Takes}
use Rattle.reading.proofs.Kept.{kept-independent, kept_span}
use Rattle.reading.proofs.Counted.{length-counts, counts_cover}
use Rattle.demands.proofs.Words.{mem_at, counted_mem, mem_counted, count-any, marked-once}

-- "Rows are taken in list order": each that counts once
pub listed-takes : (entries : List ℕ) → Takes entries (in_list_order entries)
unfolding in_list_order
listed-takes entries a = rw (← length-counts entries) (marked-once (counts entries) a)

-- rows that all stand among others have no higher rank
rank_fewer : (xs ys : List ℕ) → ((r : ℕ) → Memᴰ r xs → Memᴰ r ys) → rank xs ≤ rank ys
unfolding rank kept_rows
rank_fewer xs ys f = no_more (kept_rows ys) (kept_rows xs) (select-all (spans (kept_rows ys)) (kept xs) xs spanned) (kept-independent xs)
  where
    spanned : All (spans (kept_rows ys)) xs
    spanned = all_in (spans (kept_rows ys)) xs (λ r m. all_at (spans (kept_rows ys)) ys (kept_span ys) r (f r m))

module _ (l : ℕ) (entries order : List ℕ) (takes : Takes entries order) where
  abbrev row : ℕ → ℕ
  row a = vector l (get_or entries a 0)

  arrives : (a : ℕ) → Memᴰ a order → a < length entries
  arrives a m = rw (length-counts entries) at (go (get_or (counts entries) a false) refl)
    where
      inside : (bs : List Bool) (a : ℕ) → get_or bs a false ≡ true → a < length bs
      inside [] a e = absurd (false≢true e)
      inside (b ∷ bs) zero e = omega arith
      inside (b ∷ bs) (suc a) e = omega (arith, inside bs a e)

      go : (b : Bool) → get_or (counts entries) a false ≡ b → a < length (counts entries)
      go true e = inside (counts entries) a e
      go false e = absurd (mem_counted m (takes a ∙ rw e))

  stands-there : (a : ℕ) → get_or (counts entries) a false ≡ true → Memᴰ a order
  stands-there a e = counted_mem a order (λ z. let one : count (eqb a) order ≡ 1 = takes a ∙ rw e in omega arith)

  -- the rows taken are the rows of the list, and none is missing
  taken-some : (r : ℕ) → Memᴰ r (taken l entries order) → Memᴰ r (map (vector l) entries)
  unfolding taken
  taken-some r m =
      let k = Memᴰ.of_map row order m in
      Memᴰ.cast (sym k.2) (Memᴰ.map (vector l) (mem_at entries k.0 (arrives k.0 k.1)))

  pub taken-each : (r : ℕ) → Memᴰ r (map (vector l) entries) → Memᴰ r (taken l entries order)
  unfolding taken
  taken-each r m =
      let k = Memᴰ.of_map (vector l) entries m in
      let c = counts_cover k.1 in
      Memᴰ.cast (sym (ap (vector l) c.2 ∙ k.2)) (Memᴰ.map row (stands-there c.0 c.1))

  -- the rank is that of the whole list
  pub rank-any : rank (taken l entries order) ≡ rank (map (vector l) entries)
  rank-any = le_antisymm (rank_fewer (taken l entries order) (map (vector l) entries) taken-some) (rank_fewer (map (vector l) entries) (taken l entries order) taken-each)

  -- so "5 few" comes in every order or in none
  pub few-any : (n : ℕ) → few n (taken l entries order) ≡ few n (map (vector l) entries)
  unfolding few
  few-any n = rw rank-any

  same : (a : ℕ) → count (eqb a) order ≡ count (eqb a) (in_list_order entries)
  same a = takes a ∙ sym (listed-takes entries a)

  -- the agreement is that of the list order
  pub agreement-any : (page : List ℕ) → agreement l page (taken l entries order) ≡ agreement l page (taken l entries (in_list_order entries))
  unfolding agreement taken
  agreement-any page = in_order order ∙ count-any order (in_list_order entries) same (λ a. agrees l page (row a)) ∙ sym (in_order (in_list_order entries))
    where
      in_order : (xs : List ℕ) → count (agrees l page) (map row xs) ≡ count (λ a. agrees l page (row a)) xs
      in_order xs = count_map (agrees l page) (λ a. agrees l page (row a)) row (λ a. refl) xs

all_true : (xs : List ℕ) → count (λ x. true) xs ≡ length xs
unfolding count
all_true [] = refl
all_true (x ∷ xs) = ap suc (all_true xs)

-- an order takes as many rows as count
pub order-length : (entries order : List ℕ) → Takes entries order → length order ≡ marked (counts entries)
order-length entries order takes =
    sym (all_true order) ∙ count-any order (in_list_order entries) (same 0 entries order takes) (λ x. true) ∙ all_true (in_list_order entries)
    ∙ unfold in_list_order arrivals in length-select (counts entries) (arrivals (length entries)) (length-counts entries ∙ sym (length-tabulate (length entries) (λ a. a)))
