-- Two bytes of a run as one number, read and written.
-- Assumes nothing.
use mathlib.Core.Path.{◌≡◌, refl, sym, ap, ◌∙◌}
use Prim.Native.Nat.{ℕ, zero, suc, ◌+◌, ◌*◌, ◌/◌, ◌≤◌, ◌<◌}
use native.Mathlib.Omega.{arith}
use mathlib.Core.List.{List, [], ◌∷◌}
use lib.ListN.{length, take, drop, get_or, length-drop}
use lib.Seq.{get_or-drop, drop-drop}
use Rattle.std.specs.Simd.{first_chunks}
use Rattle.std.proofs.Common.{w16}
use Rattle.std.specs.Int.{to_be_bytes, from_be_bytes}
use borrow.Author.Tests.{lt-ltb}
use borrow.Rule.Slice.PartMut.{put_mid}
use Rattle.space.specs.Lists.{Below}
use Rattle.octets.specs.Octets.{number, bytes, flat, lay}
use Rattle.octets.proofs.Runs.{length-numbers, length-flat, numbers-small, numbers-flat, get_or-numbers}
use Rattle.octets.proofs.Numbers.{length-bytes}
use Rattle.octets.proofs.Lay.{length-lay, lay-within}
use Rattle.octets.proofs.Parts.{back}
use Rattle.octets.proofs.Views.{length_part}
use Rattle.doubles.specs.Doubles.{pairs_in, pair_at, put_pair}

pub length_pairs : (bs : List ℕ) → length (pairs_in bs) ≡ length bs / 2
length_pairs bs = length-numbers 2 (length bs / 2) bs

pub pairs_lt : (bs : List ℕ) → Below 256 bs → Below 65536 (pairs_in bs)
pairs_lt bs b = numbers-small 2 (length bs / 2) bs b

-- there and back
pub pairs-flat : (xs : List ℕ) → Below 65536 xs → pairs_in (flat 2 xs) ≡ xs
pairs-flat xs b =
    let half : length (flat 2 xs) / 2 ≡ length xs = omega (arith, length-flat 2 xs) in
    rw half (numbers-flat 2 xs b)

first-pair : (bs : List ℕ) → 2 ≤ length bs → number (take 2 bs) ≡ get_or bs 0 0 * 256 + get_or bs 1 0
unfolding number
first-pair [] h = absurd (omega arith)
first-pair (x ∷ []) h = absurd (omega arith)
first-pair (x ∷ y ∷ bs) h = omega arith

pub pair_at_lem : (bs : List ℕ) (i : ℕ) → i < length bs / 2 → pair_at i bs ≡ get_or bs (2 * i) 0 * 256 + get_or bs (2 * i + 1) 0
pair_at_lem bs i h =
    let first : 2 * i + 0 ≡ 2 * i = omega arith in
    let same : i * 2 ≡ 2 * i = omega arith in
    get_or-numbers 2 (length bs / 2) bs i h ∙ rw same (first-pair (drop (2 * i) bs) (omega (arith, length-drop (2 * i) bs))
    ∙ rw (get_or-drop (2 * i) bs 0 0, first, get_or-drop (2 * i) bs 1 0))

-- a number is that of its two bytes, as std reads and writes it
pub pair_number : (v : List ℕ) → length v ≡ 2 → from_be_bytes w16 v ≡ number v
unfolding number
pair_number [] h = absurd (omega arith)
pair_number (x ∷ []) h = absurd (omega arith)
pair_number (x ∷ y ∷ []) h = omega arith
pair_number (x ∷ y ∷ z ∷ v) h = absurd (omega arith)

pub pair-bytes : (x : ℕ) → to_be_bytes w16 x ≡ bytes 2 x
unfolding bytes
pair-bytes x = let low : x / 1 ≡ x = omega arith in rw low

-- the bytes at place i
get_or-chunks : (m : ℕ) (bs : List ℕ) (i : ℕ) (d : List ℕ) → i < m → get_or (first_chunks 2 m bs) i d ≡ take 2 (drop (i * 2) bs)
get_or-chunks zero bs i d h = absurd (omega arith)
get_or-chunks (suc m) bs zero d h = refl
get_or-chunks (suc m) bs (suc i) d h =
    get_or-chunks m (drop 2 bs) i d (omega arith) ∙ ap (take 2) (drop-drop (i * 2) 2 bs ∙ ap (λ (k : ℕ). drop k bs) (omega arith))

pub pair_chunk : (bs : List ℕ) (i : ℕ) (v : List ℕ) → i < length bs / 2 → v ≡ get_or (first_chunks 2 (length bs / 2) bs) i v → from_be_bytes w16 v ≡ pair_at i bs
pair_chunk bs i v h e =
    let part : v ≡ take 2 (drop (i * 2) bs) = e ∙ get_or-chunks (length bs / 2) bs i v h in
    let size : length v ≡ 2 = ap length part ∙ length_part 2 (i * 2) bs (omega arith) in
    pair_number v size ∙ ap number part ∙ sym (get_or-numbers 2 (length bs / 2) bs i h)

-- past the end
pub pair_past : (bs : List ℕ) (i : ℕ) → length bs / 2 ≤ i → pair_at i bs ≡ 0
pair_past bs i h = get_d_past (pairs_in bs) i 0 (omega (arith, length_pairs bs))
  where
    get_d_past : (xs : List ℕ) (j d : ℕ) → length xs ≤ j → get_or xs j d ≡ d
    get_d_past [] j d l = refl
    get_d_past (x ∷ xs) zero d l = absurd (omega arith)
    get_d_past (x ∷ xs) (suc j) d l = get_d_past xs j d (omega arith)

-- a number of two bytes written in a part that is then back
pub pair-part : (a k i x : ℕ) (old new : List ℕ) → i < k / 2 → a + k ≤ length old → new ≡ put_pair i x (take k (drop a old)) → put_mid a k old new ≡ lay (a + 2 * i) (bytes 2 x) old
unfolding put_pair
pair-part a k i x old new h l e =
    let size : length (take k (drop a old)) ≡ k = length_part k a old l in
    let two : 2 * i + length (bytes 2 x) ≤ k = omega (arith, length-bytes 2 x) in
    let is : new ≡ lay (2 * i) (bytes 2 x) (take k (drop a old)) = e ∙ rw (lt-ltb i (length (take k (drop a old)) / 2) (omega (arith, size))) in
    let long : length new ≡ k = ap length is ∙ length-lay (2 * i) (bytes 2 x) (take k (drop a old)) (omega (arith, two, size)) ∙ size in
    back a k new old long ∙ ap (λ (v : List ℕ). lay a v old) is ∙ lay-within a k (2 * i) (bytes 2 x) old two l
