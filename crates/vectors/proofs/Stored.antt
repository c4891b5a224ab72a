-- A buffer over which a vector is written word by word: what the loop of `vectors::store` holds; each word is laid right behind those before it.
-- Assumes nothing.
use mathlib.Core.Path.{◌≡◌, refl, ap, ◌∙◌}
use mathlib.Core.List.{List, ◌++◌}
use Prim.Native.Nat.{ℕ, ◌+◌, ◌-◌, ◌*◌, ◌≤◌, ◌<◌}
use native.Mathlib.Numerals.{add-one}
use native.Mathlib.Omega.{arith}
use lib.ListN.{length, take, get_or}
use lib.Seq.{take-suc, take_all, length-take-le}
use borrow.Author.Tests.{le-leb}
use borrow.Rule.Slice.PartMut.{put_mid}
use Rattle.octets.specs.Octets.{over, lay}
use Rattle.octets.proofs.Runs.{length_over}
use Rattle.octets.proofs.Lay.{lay-over}
use Rattle.octets.proofs.Parts.{back}
use Rattle.vectors.specs.declared.Vector.{Vector}
use Rattle.vectors.specs.Vectors.{flat_little, words_in, bytes_of, store_in}
use Rattle.littles.specs.Littles.{little_bytes}
use Rattle.littles.proofs.Littles.{length-little_bytes}
use Rattle.vectors.proofs.Flats.{length-flat_little, flat_little-snoc}

-- The bytes of the first i words.
abbrev bytes_to : ℕ → Vector → List ℕ
bytes_to i v = flat_little (take i (words_in v))

-- At turn i the first i words stand over old, and now is what the buffer holds.
pub record Stored (v : Vector) (old now : List ℕ) (i : ℕ) : Type 0 where
  pub within : i ≤ 10
  pub long : length now ≡ length old
  pub holds : now ≡ over (bytes_to i v) old

module _ (v : Vector) where
  ten : length (words_in v) ≡ 10
  unfolding words_in
  ten = refl

  length-bytes_to : (i : ℕ) → i ≤ 10 → length (bytes_to i v) ≡ 8 * i
  length-bytes_to i h = length-flat_little (take i (words_in v)) ∙ ap (λ (n : ℕ). 8 * n) (length-take-le i (words_in v) (omega (arith, ten)))

  bytes_to-more : (i : ℕ) → i < 10 → bytes_to (i + 1) v ≡ bytes_to i v ++ little_bytes 8 (get_or (words_in v) i 0)
  bytes_to-more i h = rw (add-one, take-suc (words_in v) i 0 (omega (arith, ten))) (flat_little-snoc (take i (words_in v)) (get_or (words_in v) i 0))

  pub stored-start : (old : List ℕ) → Stored v old old 0
  unfolding over flat_little
  stored-start old = record { within = omega arith; long = refl; holds = refl }

  module _ (old : List ℕ) (room : 80 ≤ length old) (now : List ℕ) (i : ℕ) (s : Stored v old now i) where
    -- one word more: what comes back of the part that was lent for it
    pub stored_more : i < 10 → (last : List ℕ) → last ≡ little_bytes 8 (get_or (words_in v) i 0) → Stored v old (put_mid (8 * i) (8 * i + 8 - 8 * i) now last) (i + 1)
    stored_more h last e =
        record {
          within = omega arith;
          long = ap length holds ∙ length_over (bytes_to (i + 1) v) old (omega (arith, length-bytes_to (i + 1) (omega arith)));
          holds = holds;
        }
      where
        eight : 8 * i + 8 - 8 * i ≡ 8
        eight = omega arith

        holds : put_mid (8 * i) (8 * i + 8 - 8 * i) now last ≡ over (bytes_to (i + 1) v) old
        holds =
            rw (eight, bytes_to-more i h) (back (8 * i) 8 last now (ap length e ∙ length-little_bytes 8 (get_or (words_in v) i 0)) ∙ ap (lay (8 * i) last) s.holds
            ∙ lay-over (8 * i) (bytes_to i v) last old (length-bytes_to i s.within) ∙ ap (λ bs. over (bytes_to i v ++ bs) old) e)

    pub stored_end : 10 ≤ i → now ≡ store_in v old
    unfolding store_in bytes_of
    stored_end h = rw (le-leb 80 (length old) room) (s.holds ∙ ap (λ ws. over (flat_little ws) old) (take_all i (words_in v) (omega (arith, ten))))
