-- `agrees` meets its contract: a row of 9 to 40 bytes agrees where its payload is the sum that its first word names, and no other row does.
-- Assumes nothing.
use mathlib.Core.Path.{◌≡◌, sym, ap, ◌∙◌}
use mathlib.Core.Logic.{inl, inr}
use mathlib.Core.List.{List}
use Prim.Native.Nat.{ℕ, ◌-◌, ◌/◌, ◌%◌, ◌^◌, ◌≤◌}
use native.Mathlib.Nat.{mod-lt}
use native.Mathlib.Omega.{arith}
use lib.Dec.{eqb}
use lib.Pow.{pow_pos}
use lib.ListN.{length, take, drop, length-drop}
use borrow.Author.Tests.{le-leb, lt-leb}
use borrow.Author.Rules.{part_to_end}
use Rattle.space.specs.Lists.{Below}
use Rattle.octets.specs.Octets.{number}
use Rattle.octets.proofs.Runs.{known_below}
use Rattle.octets.proofs.Digits.{number-front, number-back}
use Rattle.words.specs.Words.{word_at}
use Rattle.words.proofs.Words.{word_inside}
use Rattle.rows.specs.Rows.{row_bytes, constraint, payload, named, agrees}
use Rattle.rows.specs.Bytes.{cut, bytes_agree}
use Rattle.rows.proofs.Bits.{named-cut}
use Rattle.rows.proofs.Written.{bytes_agree-row}
use Rattle.agree.proofs.agrees.Goals as goal

pub returns-then-size-lt9 : goal.returns-then-size-lt9
unfolding bytes_agree
returns-then-size-lt9 c =
    let size = length c.args.row.now in
    elim c.then-size-lt9.either [ inl h ↦ simp (lt-leb 9 size h) | inr h ↦ simp (le-leb 9 size h.0, lt-leb size 40 h.1) ]

pub of_page-names-requires : goal.of_page-names-requires
of_page-names-requires c = record { some = omega arith; most = omega arith }

-- by the row's two parts: its last bytes are the sum that its first eight name
agrees-parts : (l : ℕ) (page row : List ℕ) → Below 256 row → length row ≡ row_bytes l
    → eqb (number (drop 8 row)) (named (cut l page) (word_at 0 row)) ≡ agrees l (cut l page) (number row)
unfolding agrees constraint payload
agrees-parts l page row b e =
    rw (number-back 8 l row b e, number-front 8 l row b e) (ap (λ (c : ℕ). eqb (number (drop 8 row)) (named (cut l page) c)) (sym (word_inside 0 row (omega arith))))

-- the row agrees where its payload is the sum that its first word names
module _ (page row : List ℕ) (b : Below 256 row) (low : 9 ≤ length row) (high : length row ≤ 40) where
  sum_agrees : eqb (number (drop 8 row)) (named (cut (length row - 8) page) (word_at 0 row % 2 ^ (length page / (length row - 8)))) ≡ bytes_agree page row
  sum_agrees =
      let l : ℕ = length row - 8 in
      ap (eqb (number (drop 8 row))) (named-cut l page (word_at 0 row)) ∙ agrees-parts l page row b (omega arith)
      ∙ sym (bytes_agree-row l page row (omega arith) (omega arith) (omega arith))

  -- and so in the row's bytes behind its first word, as they are lent
  abbrev part : List ℕ
  part = take (length row - 8) (drop 8 row)

  summed : (first names : ℕ) → first ≡ word_at 0 row → names ≡ first % 2 ^ (length page / (length row - 8))
      → eqb (number part) (named (cut (length part) page) names) ≡ bytes_agree page row
  summed first names f e = rw (part_to_end row 8, length-drop 8 row, e, f) sum_agrees

pub is_long_sum-requires : goal.is_long_sum-requires
is_long_sum-requires c =
    let row = c.args.row.now in
    rw (part_to_end row 8, length-drop 8 row, c.of_page-names.ensures) (record { least = omega arith; most = omega arith; inside = mod-lt _ (pow_pos _) })

pub returns-then-size-ge16 : goal.returns-then-size-ge16
returns-then-size-ge16 c =
    let row = c.args.row.now in
    c.is_long_sum.ensures
    ∙ summed c.args.page.now row (known_below row c.type_inv.row) (omega arith) (omega arith) c.word.result c.of_page-names.result c.word.ensures c.of_page-names.ensures

pub is_short_sum-requires : goal.is_short_sum-requires
is_short_sum-requires c =
    let row = c.args.row.now in
    rw (part_to_end row 8, length-drop 8 row, c.of_page-names.ensures) (record { some = omega arith; few = omega arith; inside = mod-lt _ (pow_pos _) })

pub returns : goal.returns
returns c =
    let row = c.args.row.now in
    c.is_short_sum.ensures
    ∙ summed c.args.page.now row (known_below row c.type_inv.row) (omega arith) (omega arith) c.word.result c.of_page-names.result c.word.ensures c.of_page-names.ensures
