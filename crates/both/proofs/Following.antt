-- The second list, once it is gathered, and its reading: what `follow` leaves.
-- Assumes nothing.
use mathlib.Core.Path.{◌≡◌, ap, ap₂, ◌∙◌}
use Prim.Native.Nat.{ℕ, ◌*◌, ◌≤◌}
use native.Mathlib.Nat.{mul-le-mul_right}
use native.Mathlib.Omega.{arith}
use mathlib.Core.List.{List}
use lib.ListN.{length, take}
use Rattle.space.specs.Lists.{Below}
use Rattle.octets.specs.Octets.{flat, over}
use Rattle.octets.proofs.Runs.{length-flat, take-over}
use Rattle.rows.specs.Rows.{list_row_bytes, row_count, entries_of}
use Rattle.reading.specs.declared.Answer.{Answer}
use Rattle.reading.specs.Orders.{in_list_order}
use Rattle.reading.specs.Outcome.{Outcome, read}
use Rattle.reader.specs.Reader.{buffers, outcome_of}
use Rattle.reader.specs.Pairs.{paired, in_pairs}
use Rattle.apart.specs.Apart.{apart, Gathered, gathers, gathered}
use Rattle.both.specs.Both.{Second, lent_too}
use Rattle.both.specs.Pairs.{counted_too}
use Rattle.both.specs.Parts.{second, Passing, SecondEnding, second_ending, secondly}
use Rattle.both.proofs.Rests.{list-long, rest-most, rest_read}

module _ (n l : ℕ) (list : List ℕ) (s : Second) (scratch : List ℕ) (P : Passing n l list (counted_too s) scratch) (b : Below 256 list) (page : List ℕ)
    (k : ℕ) (list₁ : List ℕ) (g : gathers k list₁ ≡ gathered l (apart l page (entries_of l list)) s.list) where
  abbrev entries : List ℕ
  entries = apart l page (entries_of l list)

  many : k ≡ length entries
  unfolding gathered
  many = ap (λ (x : Gathered). x.rows) g

  laid : list₁ ≡ over (flat (list_row_bytes l) entries) s.list
  unfolding gathered
  laid = ap (λ (x : Gathered). x.list) g

  pub within : k * (list_row_bytes l) ≤ length s.list
  within =
      let few : k ≤ row_count l list = omega (arith, many, rest-most n l list (counted_too s) scratch P b page) in
      omega (arith, mul-le-mul_right (list_row_bytes l) few, list-long n l list (counted_too s) scratch P b page, P.list_room)

  front_is : take (k * (list_row_bytes l)) list₁ ≡ flat (list_row_bytes l) entries
  front_is = rw laid (take-over (flat (list_row_bytes l) entries) s.list (k * (list_row_bytes l)) (length-flat (list_row_bytes l) entries ∙ rw (← many)))

  pub follow_ends : (first a : Answer) (page₁ uses₁ roles₁ scratch₁ : List ℕ)
      → outcome_of a (buffers page₁ uses₁ roles₁ scratch₁) ≡ in_pairs n l (take (k * list_row_bytes l) list₁) (lent_too scratch s)
      → second_ending (record { first = first; second = a; rows = k }) (second list₁ page₁ uses₁ roles₁) scratch₁ ≡ secondly first n l entries s scratch
  unfolding secondly in_pairs
  follow_ends first a page₁ uses₁ roles₁ scratch₁ e =
      ap (ends k list₁) (e ∙ ap (λ t. in_pairs n l t (lent_too scratch s)) front_is ∙ ap pairs (rest_read n l list (counted_too s) scratch P b page))
      ∙ ap₂ (λ (m : ℕ) (t : List ℕ). ends m t (pairs (read n l entries (in_list_order entries) (lent_too scratch (counted_too s))))) many laid
    where
      pairs : Outcome → Outcome
      pairs o = outcome_of o.answer (paired s.uses o.lent)

      ends : ℕ → List ℕ → Outcome → SecondEnding
      ends m t o = second_ending (record { first = first; second = o.answer; rows = m }) (second t o.lent.page o.lent.uses o.lent.roles) o.lent.scratch
