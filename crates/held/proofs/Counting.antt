-- Which rows count: exactly those that no earlier list row is equal to, in seed, constraint and payload.
-- Assumes nothing.
use mathlib.Core.Path.{◌≡◌, refl, sym, ap₂, ◌∙◌}
use Prim.Native.Nat.{ℕ, ◌+◌, ◌*◌, ◌%◌, ◌^◌}
use mathlib.Core.Bool.{Bool, true, false, not, true≢false}
use mathlib.Core.List.Memᴰ
use mathlib.Core.List.{List, [], ◌∷◌, ◌++◌, Memᴰ}
use mathlib.Core.Logic.{◌↔◌, ⊎_elim}
use lib.Pow.{split}
use lib.ListN.{length, get_or}
use Rattle.space.specs.Lists.{All}
use Rattle.rows.specs.Rows.{row_bytes, seed, vector, constraint, payload}
use Rattle.reading.specs.Orders.{among, counts_after, counts}
use Rattle.reading.proofs.Among.{among_mem, mem_among}
use Rattle.reading.proofs.Counted.{counts_at}
use Rattle.held.specs.Held.{SameParts, SeedsDiffer}

-- a row counts exactly when no earlier list row is equal to it
pub counts_exactly : (before : List ℕ) (entry : ℕ) (after : List ℕ)
    → (get_or (counts (before ++ entry ∷ after)) (length before) false ≡ true) ↔ (Memᴰ entry before → ⊥)
counts_exactly before entry after =
    rw (counts_at before entry after) (λ h m. true≢false (sym h ∙ rw (mem_among m)), λ none. go (among before entry) refl none)
  where
    go : (b : Bool) → among before entry ≡ b → (Memᴰ entry before → ⊥) → not b ≡ true
    go true p none = absurd (none (among_mem before entry p))
    go false p none = refl

-- equal entries are those "equal .. in seed, constraint and payload"
pub equal_exactly : (l d e : ℕ) → (d ≡ e) ↔ SameParts l d e
unfolding seed vector constraint payload
equal_exactly l d e = (
  λ p. record { seeds = rw p; constraints = rw p; payloads = rw p },
  λ s.
      let row : d % 2 ^ (8 * row_bytes l) ≡ e % 2 ^ (8 * row_bytes l) =
      sym (split (d % 2 ^ (8 * row_bytes l)) (8 * l)) ∙ ap₂ (λ (x y : ℕ). x * 2 ^ (8 * l) + y) s.constraints s.payloads ∙ split (e % 2 ^ (8 * row_bytes l)) (8 * l) in
      sym (split d (8 * row_bytes l)) ∙ ap₂ (λ (x y : ℕ). x * 2 ^ (8 * row_bytes l) + y) s.seeds row ∙ split e (8 * row_bytes l),
)

-- ---- different seeds

after-count : (l : ℕ) (entries before : List ℕ) → ((d e : ℕ) → Memᴰ d before → Memᴰ e entries → seed l d ≡ seed l e → ⊥) → SeedsDiffer l entries
    → All (λ c. c) (counts_after before entries)
unfolding counts_after
after-count l [] before h o = tt
after-count l (e ∷ entries) before h o = (
  go (among before e) refl,
  after-count l entries (before ++ (e ∷ []))
      (λ d x m k. ⊎_elim (λ j. h d x j (Memᴰ.tail k)) (λ j. let same : d ≡ e = Memᴰ.eq_of_singleton j in rw same (o.0 x k)) (Memᴰ.append_cases before m)) o.1,
)
  where
    go : (b : Bool) → among before e ≡ b → not b ≡ true
    go true p = absurd (h e e (among_mem before e p) (Memᴰ.head refl) refl)
    go false p = refl

-- rows whose seeds all differ all count, whatever is in them
pub seeds-count : (l : ℕ) (entries : List ℕ) → SeedsDiffer l entries → All (λ c. c) (counts entries)
unfolding counts
seeds-count l entries o = after-count l entries [] (λ d e m k. absurd (Memᴰ.not-nil m)) o
