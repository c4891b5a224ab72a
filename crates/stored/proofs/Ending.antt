-- How the tail of a reading ends, of any bytes: it gives one of four numbers, and writes only as many marks as there are rows, and a page only under 0.
-- Assumes nothing.
use mathlib.Core.Path.{◌≡◌, refl, ap, ◌∙◌}
use Prim.Native.Nat.{ℕ, ◌*◌, ◌/◌, ◌≤◌}
use native.Mathlib.Omega.{arith}
use mathlib.Core.Bool.{Bool, true, false, cond}
use mathlib.Core.List.{List, [], ◌∷◌}
use lib.Dec.{leb}
use lib.ListN.{length, take, drop, length-take, length-map}
use borrow.Author.Tests.{leb-true}
use Rattle.std.proofs.Common.{Result, Ok, Err}
use Rattle.space.proofs.Lists.{length-tabulate}
use Rattle.octets.specs.Octets.{flat, over}
use Rattle.octets.proofs.Runs.{length-flat}
use Rattle.doubles.specs.Doubles.{pairs_in}
use Rattle.doubles.proofs.Doubles.{length_pairs}
use Rattle.places.specs.Places.{most_rows, given_by}
use Rattle.rows.specs.Rows.{rows_of}
use Rattle.reading.specs.declared.Answer.{Answer}
use Rattle.reading.specs.Answer.{answer_numbers}
use Rattle.reading.specs.Reading.{page_of}
use Rattle.reading.specs.Orders.{among}
use Rattle.state.specs.Layout.{part, has_part, part_at, places_at, places_part}
use Rattle.choose.specs.declared.Unpicked.{Unpicked}
use Rattle.choose.specs.declared.Unpicked.TheVariants.{Few, Tie}
use Rattle.marks.specs.Mark.{uses_of, uses_marked, pairs_after}
use Rattle.roles.specs.Role.{role_of, roles_marked, roles_after, least_marked}
use Rattle.chosen.specs.Chosen.{chosen}
use Rattle.solve.specs.declared.Unsolved.{Unsolved}
use Rattle.solve.specs.declared.Unsolved.TheVariants.{Singular, Misfit}
use Rattle.solve.specs.Solve.{solve_answer, solve_page, solve_slots}
use Rattle.tail.specs.Tail.{Ending, choice_in, roles_in, settled_by, settled, concluded, finished}
use Rattle.tail.proofs.Endings.{page-fits}
use Rattle.stored.specs.Others.{Within}
use Rattle.stored.proofs.Within.{same_within, over-within}

-- ---- the marks

-- where a test says that there is room
marked-within : (k m room : ℕ) (new old : List ℕ) → length new ≤ k → (m ≤ room → length new ≤ length old) → Within k old (cond (leb m room) (over new old) old)
marked-within k m room new old h fits = go (leb m room) refl
  where
    go : (b : Bool) → leb m room ≡ b → Within k old (cond b (over new old) old)
    go true e = over-within k new old h (fits (leb-true m room e))
    go false e = same_within k old

places-long : (rows : ℕ) (state : List ℕ) → length (places_part rows state) ≤ 2 * rows
unfolding part
places-long rows state = go (has_part most_rows rows state)
  where
    go : (b : Bool) → length (take (cond b (2 * rows) 0) (drop (part_at places_at most_rows rows state) state)) ≤ 2 * rows
    go true = omega (arith, length-take (2 * rows) (drop (part_at places_at most_rows rows state) state))
    go false = omega arith

pub pairs-within : (rows : ℕ) (state counts uses : List ℕ) → Within (2 * rows) uses (pairs_after (places_part rows state) counts uses)
unfolding pairs_after
pairs-within rows state counts uses =
    marked-within (2 * rows) (length places / 2) (length uses / 2) (flat 2 (uses_marked places counts)) uses (omega (arith, long, places-long rows state)) (λ h. omega (arith, long))
  where
    places : List ℕ
    places = places_part rows state

    long : length (flat 2 (uses_marked places counts)) ≡ length places / 2 * 2
    long =
        let each : length (uses_marked places counts) ≡ length (pairs_in places) = unfold uses_marked in length-map (pairs_in places) (λ x. uses_of counts (given_by x)) in
        length-flat 2 (uses_marked places counts) ∙ ap (λ (m : ℕ). m * 2) (each ∙ length_pairs places)

pub roles-within : (choice : Result ℕ Unpicked) (rows : ℕ) (state counts roles : List ℕ) → Within rows roles (roles_after choice (places_part rows state) counts roles)
unfolding roles_after
roles-within choice rows state counts roles =
    marked-within rows (length places / 2) (length roles) (roles_marked (least_marked choice) places counts) roles (omega (arith, long, places-long rows state)) (λ h. omega (arith, long))
  where
    places : List ℕ
    places = places_part rows state

    long : length (roles_marked (least_marked choice) places counts) ≡ length places / 2
    long =
        let each : length (roles_marked (least_marked choice) places counts) ≡ length (pairs_in places) =
        unfold roles_marked in length-map (pairs_in places) (λ x. role_of (least_marked choice) counts (given_by x)) in
        each ∙ length_pairs places

-- ---- the tail

abbrev pub answer_number : Answer → ℕ
answer_number a = (answer_numbers a).number

-- What an ending has, whatever bytes it comes from: one of four numbers, and a page only under 0, in the first nL bytes.
pub record Ends (n l : ℕ) (page : List ℕ) (e : Ending) : Type 0 where
  pub any : among (3 ∷ 10 ∷ 5 ∷ 6 ∷ 7 ∷ 0 ∷ []) (answer_number e.answer) ≡ true
  pub late : among (5 ∷ 6 ∷ 7 ∷ 0 ∷ []) (answer_number e.answer) ≡ true
  pub no_refusal : among (3 ∷ 10 ∷ []) (answer_number e.answer) ≡ false
  pub page-stays : (answer_number e.answer ≡ 0 → ⊥) → e.page ≡ page
  pub page-within : Within (n * l) page e.page

module _ (n l : ℕ) (list : List ℕ) (taken rank : ℕ) where
  settled-ends : (s : Result Unit Unsolved) (roles state page : List ℕ) → s ≡ solve_answer n l list roles state page
      → Ends n l page (settled_by s rank n l list taken (solve_slots s state) (solve_page s n l list roles page))
  unfolding settled_by solve_page answer_numbers among page_of
  settled-ends (Ok done) roles state page e =
      let rows = chosen roles (rows_of l list) in
      let long : length (flat l (page_of n l rows)) ≡ n * l = length-flat l (page_of n l rows) ∙ ap (λ (m : ℕ). m * l) (length-tabulate n _) in
      record {
        any = refl;
        late = refl;
        no_refusal = refl;
        page-stays = λ z. absurd (z refl);
        page-within = over-within (n * l) (flat l (page_of n l rows)) page (omega (arith, long)) (omega (arith, long, page-fits n l list roles state page e));
      }
  settled-ends (Err Singular) roles state page e = record { any = refl; late = refl; no_refusal = refl; page-stays = λ z. refl; page-within = same_within (n * l) page }
  settled-ends (Err Misfit) roles state page e = record { any = refl; late = refl; no_refusal = refl; page-stays = λ z. refl; page-within = same_within (n * l) page }

  concluded-ends : (choice : Result ℕ Unpicked) (roles state page : List ℕ) → Ends n l page (concluded choice rank n l list taken roles state page)
  unfolding concluded settled answer_numbers among
  concluded-ends (Err Few) roles state page = record { any = refl; late = refl; no_refusal = refl; page-stays = λ z. refl; page-within = same_within (n * l) page }
  concluded-ends (Err Tie) roles state page = record { any = refl; late = refl; no_refusal = refl; page-stays = λ z. refl; page-within = same_within (n * l) page }
  concluded-ends (Ok least) roles state page = settled-ends (solve_answer n l list roles state page) roles state page refl

  pub finished-ends : (state roles page : List ℕ) → Ends n l page (finished n l list taken rank state roles page)
  unfolding finished
  finished-ends state roles page = concluded-ends (choice_in n rank state) (roles_in n l list rank state roles) state page
