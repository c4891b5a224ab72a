-- "A frame held on the screen is one frame": when two entries are equal, when no two of a list are, and what a repeat changes. Document 02, wish 3.
use Rattle.std.specs.Prelude.{ℕ, ◌≡◌, cond, eqb, take, drop}
use mathlib.Core.List.{List, [], ◌∷◌, ◌++◌, Memᴰ}
use Rattle.rows.specs.Rows.{seed, vector, constraint, payload, entered}
use Rattle.reading.specs.Outcome.{Outcome}

-- "equal .. in seed, constraint and payload"
pub record SameParts (l d e : ℕ) : Type 0 where
  pub seeds : seed l d ≡ seed l e
  pub constraints : constraint l (vector l d) ≡ constraint l (vector l e)
  pub payloads : payload l (vector l d) ≡ payload l (vector l e)

-- No two entries of a list have one seed.
abbrev pub SeedsDiffer : ℕ → List ℕ → Type 0
SeedsDiffer l [] = Unit {0}
SeedsDiffer l (d ∷ entries) = ((e : ℕ) → Memᴰ e entries → seed l d ≡ seed l e → ⊥) × SeedsDiffer l entries

-- An entry e put for d, wherever d stands: how a held frame is misread, each copy alike.
unfoldable pub replaced : ℕ → ℕ → ℕ → ℕ
replaced d e x = cond (eqb x d) e x

-- Marks with one more at some place.
unfoldable pub inserted : ℕ → ℕ → List ℕ → List ℕ
inserted place mark marks = take place marks ++ mark ∷ drop place marks

-- Two outcomes alike in all but the marks, which are by arrival number: the answer with its rank and agreement, the page and the scratch.
pub record Alike (o p : Outcome) : Type 0 where
  pub answer : p.answer ≡ o.answer
  pub page : p.lent.page ≡ o.lent.page
  pub scratch : p.lent.scratch ≡ o.lent.scratch

-- "one misread can outvote a good page": with L 1, the row (1, 9) of a frame that is held, seed 0, three times, and (1, 5) with seeds 1 and 2.
unfoldable pub held_misread : List ℕ
held_misread = entered 1 0 265 ∷ entered 1 0 265 ∷ entered 1 0 265 ∷ entered 1 1 261 ∷ entered 1 2 261 ∷ []
