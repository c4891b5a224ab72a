-- The marks are those that a reading leaves, where bytes tell the kept places of its arrivals and the uses of its kept rows.
-- Assumes nothing.
use mathlib.Core.Path.{◌≡◌, refl, sym, ap, ap₂, ◌∙◌}
use Prim.Native.Nat.{ℕ, ◌/◌, ◌≤◌}
use native.Mathlib.Omega.{arith}
use mathlib.Core.Bool.{Bool, cond}
use mathlib.Core.List.{List, [], ◌∷◌, map}
use lib.Dec.{leb}
use lib.ListN.{length, length-map}
use borrow.Author.Tests.{le-leb, lt-leb}
use Rattle.space.specs.Lists.{Below}
use Rattle.space.proofs.Lists.{map_both}
use Rattle.octets.specs.Octets.{over}
use Rattle.doubles.specs.Doubles.{pairs_in}
use Rattle.doubles.proofs.Doubles.{length_pairs, pairs_lt}
use Rattle.places.specs.Places.{given_by}
use Rattle.reading.specs.Reading.{uses, picks, picked}
use Rattle.reading.specs.Orders.{taken}
use Rattle.reading.specs.Marks.{by_arrival, kept_arrivals, places_given, uses_marks, roles_marks, plain, telling}
use Rattle.reading.proofs.Pick.{length-uses}
use Rattle.reading.proofs.Spread.{get_or_mapped}
use Rattle.reading.proofs.KeptPlaces.{length-places_given}
use Rattle.std.specs.Prelude.{Result, Ok, Err}
use Rattle.choose.specs.declared.Unpicked.{Unpicked}
use Rattle.choose.specs.declared.Unpicked.TheVariants.{Few, Tie}
use Rattle.choose.specs.Pick.{none_picked, choice_of}
use Rattle.choose.proofs.Chosen.{choice_says}
use Rattle.marks.specs.Mark.{not_kept, uses_of, uses_marked, uses_after_in}
use Rattle.roles.specs.Role.{least_marked, role_by, role, role_of, roles_marked, roles_after}
use Rattle.concluding.proofs.Looked.{looked_up}

-- no row has that many uses
none_picked_lem : (f : ℕ → Bool) (us : List ℕ) → Below none_picked us → map (role none_picked) us ≡ map plain (map f us)
unfolding role
none_picked_lem f [] b = refl
none_picked_lem f (u ∷ us) b = ap₂ (λ x t. x ∷ t) (rw (lt-leb none_picked u b.0)) (none_picked_lem f us b.1)

module _ (l : ℕ) (entries order places counts : List ℕ) (told : pairs_in places ≡ places_given l entries order) (counted : pairs_in counts ≡ uses (taken l entries order)) where
  abbrev rows : List ℕ
  rows = taken l entries order

  pub uses-marked : uses_marked places counts ≡ uses_marks l entries order
  unfolding uses_marked uses_marks uses_of given_by
  uses-marked =
      rw told (looked_up l entries order not_kept _ (pairs_in counts) (ap length counted ∙ length-uses rows) refl (λ k h. refl)
      ∙ ap (by_arrival not_kept (length entries) (kept_arrivals l entries order)) counted)

  roles_looked : (least : ℕ) → roles_marked least places counts ≡ by_arrival 0 (length entries) (kept_arrivals l entries order) (map (role least) (uses rows))
  unfolding roles_marked role_of given_by
  roles_looked least =
      rw told (looked_up l entries order 0 _ (map (role least) (pairs_in counts)) (length-map (pairs_in counts) (role least) ∙ ap length counted ∙ length-uses rows) refl
      (λ k h. sym (get_or_mapped (role least) (pairs_in counts) k (omega (arith, length-map (pairs_in counts) (role least)))))
      ∙ ap (λ (us : List ℕ). by_arrival 0 (length entries) (kept_arrivals l entries order) (map (role least) us)) counted)

  -- "no 2 under 5 and 6"
  roles-plain : (n : ℕ) → Below 256 counts → roles_marked none_picked places counts ≡ roles_marks plain n l entries order
  unfolding roles_marks picked picks
  roles-plain n b = roles_looked none_picked ∙ ap (by_arrival 0 (length entries) (kept_arrivals l entries order)) (none_picked_lem _ (uses rows) (rw counted at (pairs_lt counts b)))

  -- "2 picked"
  roles-telling : (n t : ℕ) → Ok t ≡ choice_of n (uses rows) → roles_marked t places counts ≡ roles_marks telling n l entries order
  unfolding roles_marks role
  roles-telling n t e =
      roles_looked t ∙ rw (choice_says n rows (Ok t) e).2 (rw (map_both telling (leb t) (λ u. cond (leb t u) 2 1) (λ u. refl) (uses rows)))

  roles-marked : (n : ℕ) (choice : Result ℕ Unpicked) → choice ≡ choice_of n (uses rows) → Below 256 counts
      → roles_marked (least_marked choice) places counts ≡ roles_marks (role_by choice) n l entries order
  unfolding least_marked
  roles-marked n (Err Few) e b = roles-plain n b
  roles-marked n (Err Tie) e b = roles-plain n b
  roles-marked n (Ok least) e b = roles-telling n least e

  -- ---- what the functions leave, where there is room for each row

  each_row : length places / 2 ≡ length entries
  each_row = sym (length_pairs places) ∙ ap length told ∙ length-places_given l entries order

  pub uses-after-in : {T : Type 0} (room_in : ℕ → ℕ) (written : List ℕ → List T → List T) (lent : List T) → length entries ≤ room_in (length lent)
      → uses_after_in room_in written places counts lent ≡ written (uses_marks l entries order) lent
  uses-after-in room_in written lent h = rw (le-leb (length places / 2) (room_in (length lent)) (omega (arith, each_row)), uses-marked)

  pub roles-after : (n : ℕ) (choice : Result ℕ Unpicked) → choice ≡ choice_of n (uses rows) → Below 256 counts → (roles₀ : List ℕ) → length entries ≤ length roles₀
      → roles_after choice places counts roles₀ ≡ over (roles_marks (role_by choice) n l entries order) roles₀
  unfolding roles_after
  roles-after n choice e b roles₀ h = rw (le-leb (length places / 2) (length roles₀) (omega (arith, each_row)), roles-marked n choice e b)
