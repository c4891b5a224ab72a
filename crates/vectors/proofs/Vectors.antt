-- The bytes of a vector: there are 80, a loaded vector has those that it was loaded from, and those of a sum are the sums; each by the law of its words.
-- Assumes nothing.
use mathlib.Core.Path.{◌≡◌, refl, sym, ap, ap₂, ◌∙◌}
use mathlib.Core.List.{List, [], ◌∷◌, ◌++◌}
use Prim.Native.Nat.{ℕ, zero, suc, ◌+◌, ◌*◌}
use native.Mathlib.Omega.{arith}
use lib.ListN.{length, take, drop, take-append-drop}
use lib.Seq.{drop-drop, drop-length}
use Rattle.space.specs.Lists.{Below}
use Rattle.octets.specs.Octets.{xor_bytes}
use Rattle.octets.proofs.Runs.{below_parts}
use Rattle.octets.proofs.Views.{length_part}
use Rattle.octets.proofs.Lay.{over-all}
use Rattle.littles.specs.Littles.{little_of, little_at, little_bytes}
use Rattle.littles.proofs.Littles.{little_inside, little_bytes-little_of}
use Rattle.vectors.specs.declared.Vector.{Vector}
use Rattle.vectors.specs.Vectors.{flat_little, vector_of, words_in, bytes_of, plus_of, store_in}
use Rattle.vectors.proofs.Flats.{length-flat_little, flat_little_below, flat_little-⊕}

pub length-bytes_of : (v : Vector) → length (bytes_of v) ≡ 80
unfolding bytes_of words_in
length-bytes_of v = length-flat_little (words_in v)

pub bytes_of_below : (v : Vector) → Below 256 (bytes_of v)
unfolding bytes_of
bytes_of_below v = flat_little_below (words_in v)

pub bytes_of-plus : (p q : Vector) → bytes_of (plus_of p q) ≡ xor_bytes (bytes_of p) (bytes_of q)
unfolding bytes_of words_in plus_of xor_bytes
bytes_of-plus p q = flat_little-⊕ (words_in p) (words_in q) refl

pub store_whole : (v : Vector) (old : List ℕ) → length old ≡ 80 → store_in v old ≡ bytes_of v
unfolding store_in
store_whole v old e = rw e (over-all (bytes_of v) old (length-bytes_of v ∙ sym e))

-- ---- loaded

-- The words of a run from an index on, n of them.
words_from : ℕ → ℕ → List ℕ → List ℕ
words_from zero at bs = []
words_from (suc n) at bs = little_at at bs ∷ words_from n (at + 8) bs

words_from_back : (n at : ℕ) (bs : List ℕ) → length bs ≡ at + 8 * n → Below 256 bs → flat_little (words_from n at bs) ≡ drop at bs
unfolding words_from flat_little
words_from_back zero at bs e b = let all : at ≡ length bs = omega arith in rw all (sym (drop-length bs))
words_from_back (suc n) at bs e b =
    let size : length (take 8 (drop at bs)) ≡ 8 = length_part 8 at bs (omega arith) in
    let below : Below 256 (take 8 (drop at bs)) = (below_parts 256 8 (drop at bs) (below_parts 256 at bs b).1).0 in
    ap₂ (λ s t. s ++ t)
    (ap (little_bytes 8) (little_inside at bs (omega arith)) ∙ ap (λ (w : ℕ). little_bytes w (little_of (take 8 (drop at bs)))) (sym size)
    ∙ little_bytes-little_of (take 8 (drop at bs)) below)
    (words_from_back n (at + 8) bs (omega arith) b ∙ sym (drop-drop 8 at bs)) ∙ take-append-drop 8 (drop at bs)

pub bytes_of_load : (bs : List ℕ) → length bs ≡ 80 → Below 256 bs → bytes_of (vector_of bs) ≡ bs
unfolding bytes_of words_in vector_of words_from
bytes_of_load bs e b = words_from_back 10 0 bs e b
