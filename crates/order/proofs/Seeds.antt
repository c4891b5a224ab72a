-- The seed of a row, and what the filter tells of it: a row whose seed is not noted repeats no earlier one, since equal rows have equal seeds.
-- Assumes nothing.
use mathlib.Core.Path.{◌≡◌, refl, sym, ap, ◌∙◌}
use mathlib.Core.Bool.{Bool, true, false, true≢false}
use mathlib.Core.List.Memᴰ
use mathlib.Core.List.{List, [], ◌∷◌, ◌++◌, map}
use Prim.Native.Nat.{ℕ, ◌<◌}
use native.Mathlib.Omega.{arith}
use lib.ListN.{length, take, get_or, replicate, length-replicate}
use borrow.Author.Tests.{le-leb}
use Rattle.space.specs.Lists.{Below}
use Rattle.space.proofs.Lists.{map-append}
use Rattle.octets.proofs.Digits.{number-front}
use Rattle.words.specs.Words.{four_of}
use Rattle.filter.specs.Filter.{filter_bytes, noted, note}
use Rattle.filter.proofs.Noted.{length-noting, noting-snoc, noted_mem}
use Rattle.rows.specs.Rows.{seed_bytes, row_bytes, row_count, entries_of, seed}
use Rattle.lists.specs.Lists.{entry_at}
use Rattle.lists.proofs.AtArrival.{is_entry_lem}
use Rattle.lists.proofs.Rows.{entry_below, entry-room, entry_length, entry-number}
use Rattle.reading.specs.Orders.{among}
use Rattle.reading.proofs.Among.{among_mem}
use Rattle.repeats.specs.Repeats.{repeated}
use Rattle.noting.specs.Noting.{noted_in}
use Rattle.noting.proofs.Fits.{noted_is}
use Rattle.order.specs.Listed.{seeds_noted, Next, seed_at}

-- ---- the filter

pub length-seeds : (l : ℕ) (entries : List ℕ) → length (seeds_noted l entries) ≡ filter_bytes
unfolding seeds_noted
length-seeds l entries = length-noting (map (seed l) entries) (replicate filter_bytes 0) ∙ length-replicate {A = ℕ} filter_bytes 0

-- one seed more
pub seeds-more : (l : ℕ) (entries : List ℕ) (entry : ℕ) → seeds_noted l (entries ++ (entry ∷ [])) ≡ note (seed l entry) (seeds_noted l entries)
unfolding seeds_noted
seeds-more l entries entry = rw (map-append (seed l) entries (entry ∷ [])) (noting-snoc (map (seed l) entries) (seed l entry) (replicate filter_bytes 0))

-- ---- one row

module _ (l m : ℕ) (list : List ℕ) (most : m < 512) (h : m < row_count l list) where
  pub seed_at_lem : Below 256 list → four_of (entry_at l m list) ≡ seed_at l list m
  unfolding four_of seed_at seed
  seed_at_lem b =
      let size = entry_length l m list most h in
      rw (le-leb 4 (length (entry_at l m list)) (omega (arith, size)))
      (sym (number-front seed_bytes (row_bytes l) (entry_at l m list) (entry_below l m list b) size) ∙ ap (seed l) (entry-number l m list most h))

  pub repeated_is : repeated l m list ≡ among (take m (entries_of l list)) (get_or (entries_of l list) m 0)
  unfolding repeated
  repeated_is = rw (is_entry_lem l m list most (entry-room l m list most h))

  pub not_noted_new : noted (seed_at l list m) (seeds_noted l (take m (entries_of l list))) ≡ false → false ≡ repeated l m list
  unfolding seed_at seeds_noted
  not_noted_new e = sym (repeated_is ∙ go (among (take m (entries_of l list)) (get_or (entries_of l list) m 0)) refl)
    where
      go : (b : Bool) → among (take m (entries_of l list)) (get_or (entries_of l list) m 0) ≡ b → b ≡ false
      go true is =
          absurd (true≢false (sym (noted_mem (map (seed l) (take m (entries_of l list))) (replicate filter_bytes 0) (seed l (get_or (entries_of l list) m 0))
          (omega (arith, length-replicate {A = ℕ} filter_bytes 0)) (Memᴰ.map (seed l) (among_mem (take m (entries_of l list)) (get_or (entries_of l list) m 0) is))) ∙ e))
      go false is = refl

-- a state whose filter has the seeds of all earlier rows
pub told-new : (l m : ℕ) (list state : List ℕ) → Next l list m state → noted_in (seed_at l list m) state ≡ false → false ≡ repeated l m list
told-new l m list state N e =
    not_noted_new l m list (omega (arith, N.has, N.many)) N.has (ap (noted (seed_at l list m)) (sym N.noted) ∙ sym (noted_is (seed_at l list m) state N.whole).0 ∙ e)
