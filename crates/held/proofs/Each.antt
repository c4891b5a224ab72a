-- A list with repeats is read as the list that has each of its rows once: the same rows are taken, so that outcomes differ in marks at most.
-- Assumes nothing.
use mathlib.Core.Path.{◌≡◌, refl, sym, ◌∙◌}
use Prim.Native.Nat.{ℕ}
use mathlib.Core.Bool.{Bool, true, false, not}
use mathlib.Core.List.{List, [], ◌∷◌, ◌++◌}
use Rattle.space.specs.Lists.{select, All}
use Rattle.space.proofs.Lists.{select-map}
use Rattle.rows.specs.Rows.{vector}
use Rattle.reading.specs.Orders.{among, counts_after, counts, taken, in_list_order}
use Rattle.reading.specs.Outcome.{Lent, read}
use Rattle.reading.proofs.Listed.{taken-listed}
use Rattle.held.specs.Held.{Alike}
use Rattle.held.proofs.Seen.{more_same, again_among}
use Rattle.held.proofs.Once.{once-taken}
use Rattle.held.proofs.Held.{alike_read}

-- of the entries that count none repeats another
each_after : (entries before some : List ℕ) → ((x : ℕ) → among some x ≡ among before x) → All (λ c. c) (counts_after some (select (counts_after before entries) entries))
unfolding counts_after select
each_after [] before some h = tt
each_after (e ∷ entries) before some h =
    go (among before e) refl (each_after entries (before ++ (e ∷ [])))
  where
    go : (b : Bool) → among before e ≡ b
        → ((some : List ℕ) → ((x : ℕ) → among some x ≡ among (before ++ (e ∷ [])) x) → All (λ c. c) (counts_after some (select (counts_after (before ++ (e ∷ [])) entries) entries)))
        → All (λ c. c) (counts_after some (select (not b ∷ counts_after (before ++ (e ∷ [])) entries) (e ∷ entries)))
    go true p ih = ih some (λ x. h x ∙ sym (again_among before e p x))
    go false p ih = (rw (h e, p), ih (some ++ (e ∷ [])) (more_same some before e h))

pub each_counts : (entries : List ℕ) → All (λ c. c) (counts (select (counts entries) entries))
unfolding counts
each_counts entries = each_after entries [] [] (λ x. refl)

module _ (l : ℕ) (entries : List ℕ) where
  pub each-taken : taken l (select (counts entries) entries) (in_list_order (select (counts entries) entries)) ≡ taken l entries (in_list_order entries)
  each-taken =
      once-taken l (select (counts entries) entries) (each_counts entries)
      ∙ sym (select-map (vector l) (counts entries) entries) ∙ sym (taken-listed l entries)

  pub each_read : (n : ℕ) (lent : Lent)
      → Alike (read n l (select (counts entries) entries) (in_list_order (select (counts entries) entries)) lent) (read n l entries (in_list_order entries) lent)
  each_read n lent = alike_read n l (select (counts entries) entries) (in_list_order (select (counts entries) entries)) entries (in_list_order entries) (sym each-taken) lent
