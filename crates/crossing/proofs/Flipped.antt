-- A frame with payload bits flipped still reads, and its row is the page's row with those bits flipped, behind the same seed.
-- Assumes nothing.
use mathlib.Core.Path.{◌≡◌, sym, ap, ap₂, ◌∙◌}
use Prim.Native.Nat.{ℕ, ◌+◌, ◌*◌, ◌^◌, ◌<◌}
use native.Mathlib.Nat.{div-eq_of_lt, lt_of_lt_of_le}
use native.Mathlib.Omega.{arith}
use mathlib.Core.Bool.{true}
use mathlib.Core.List.{List, ◌++◌, append_assoc}
use lib.ListN.{length, take, drop, replicate, length-append}
use lib.Pow.{pow_mono}
use lib.Seq.{take_at, drop_at}
use Rattle.space.specs.Space.{◌⊕◌}
use Rattle.space.specs.Lists.{Below}
use Rattle.space.proofs.Xor.{⊕_lt}
use Rattle.octets.specs.Octets.{number, bytes, xor_bytes}
use Rattle.octets.proofs.Xors.{length-xor_bytes, xor_bytes-append, xor_bytes_zero}
use Rattle.octets.proofs.Numbers.{length-bytes, number_lt, bytes-⊕, bytes-number}
use Rattle.octets.proofs.Digits.{bytes-append, bytes_zero}
use Rattle.rows.specs.Rows.{shape, symbols, row_bytes, named, made, entered}
use Rattle.rows.specs.Bytes.{row_of}
use Rattle.rows.proofs.Entries.{bytes-entered}
use Rattle.rows.proofs.Shape.{shape_range}
use Rattle.rows.proofs.Written.{row_of-made, made_lt}
use Rattle.draw.specs.Draw as draw
use Rattle.draw.proofs.Inside.{draws_below}
use Rattle.frame.specs.Layout.{mark, field_bytes, head_bytes, frame_bytes, payload_at}
use Rattle.frame.specs.declared.Frame.TheVariants as frames
use Rattle.frame.specs.Reading.{reading}
use Rattle.frame.specs.Numbers.{payload_of}
use Rattle.writing.specs.Writing.{sum_bytes, frame_of}
use Rattle.frame.proofs.Lengths.{length-head, length-mark}
use Rattle.frame.proofs.ReadBack.{laid_out_reads, laid_out_payload}
use Rattle.laying.proofs.Laying.{entry_is}
use Rattle.crossing.specs.Taken.{Take, IsTake, flipped, taken}
use Rattle.crossing.proofs.Laid.{Own}

-- the payload is what stands behind the first 22 bytes
flipped-frame : (page n l seed : ℕ) (payload flips : List ℕ) → length payload ≡ length flips
    → flipped flips (frame_bytes page n l seed payload) ≡ frame_bytes page n l seed (xor_bytes payload flips)
unfolding flipped frame_bytes field_bytes
flipped-frame page n l seed payload flips e =
    rw (length-xor_bytes payload flips e) (ap₂ (λ (h t : List ℕ). h ++ xor_bytes t flips) front back ∙ append_assoc (head_bytes page n l seed) (mark 4 (length payload)) (xor_bytes payload flips))
  where
    head : List ℕ
    head = head_bytes page n l seed ++ mark 4 (length payload)

    size : length head ≡ payload_at + 3
    size = length-append (head_bytes page n l seed) (mark 4 (length payload)) ∙ ap₂ (λ (x y : ℕ). x + y) (length-head page n l seed) (length-mark 4 (length payload))

    front : take (payload_at + 3) (head_bytes page n l seed ++ (mark 4 (length payload) ++ payload)) ≡ head
    front = ap (take (payload_at + 3)) (sym (append_assoc (head_bytes page n l seed) (mark 4 (length payload)) payload)) ∙ take_at head payload (payload_at + 3) size

    back : drop (payload_at + 3) (head_bytes page n l seed ++ (mark 4 (length payload) ++ payload)) ≡ payload
    back = ap (drop (payload_at + 3)) (sym (append_assoc (head_bytes page n l seed) (mark 4 (length payload)) payload)) ∙ drop_at head payload (payload_at + 3) size

-- the row of a page with bits flipped, and its entry
unfoldable pub row_taken : ℕ → ℕ → List ℕ → Take → ℕ
row_taken n l page t = made l (symbols n l page) (draw.constraint n t.seed) ⊕ number t.flips

abbrev pub entry_taken : ℕ → ℕ → List ℕ → Take → ℕ
entry_taken n l page t = entered l t.seed (row_taken n l page t)

row-bytes : (n l : ℕ) (page : List ℕ) → Below 256 page → (c : ℕ) (flips : List ℕ) → length flips ≡ l → Below 256 flips
    → bytes 8 c ++ xor_bytes (bytes l (named (symbols n l page) c)) flips ≡ bytes (row_bytes l) (made l (symbols n l page) c ⊕ number flips)
unfolding row_of
row-bytes n l page b c flips size bf =
    sym (bytes-⊕ (row_bytes l) (made l (symbols n l page) c) (number flips)
    ∙ ap₂ xor_bytes (sym (row_of-made n l page b c)) low
    ∙ xor_bytes-append (bytes 8 c) (replicate 8 0) (bytes l (named (symbols n l page) c)) flips (length-bytes 8 c)
    ∙ ap (λ (h : List ℕ). h ++ xor_bytes (bytes l (named (symbols n l page) c)) flips) (xor_bytes_zero 8 (bytes 8 c) (omega (arith, length-bytes 8 c))))
  where
    low : bytes (row_bytes l) (number flips) ≡ replicate 8 0 ++ flips
    low = bytes-append 8 l (number flips)
        ∙ ap₂ (λ (h t : List ℕ). h ++ t) (ap (bytes 8) (div-eq_of_lt (rw size at (number_lt flips bf))) ∙ bytes_zero 8) (ap (λ (k : ℕ). bytes k (number flips)) (sym size) ∙ bytes-number flips bf)

module _ (page-number n l : ℕ) (page : List ℕ) (small : page-number < 2 ^ 32) (s : shape n l ≡ true) (b : Below 256 page) (t : Take) (right : IsTake l t) where
  payload : List ℕ
  payload = xor_bytes (sum_bytes n l page (draw.constraint n t.seed)) t.flips

  sized : length (sum_bytes n l page (draw.constraint n t.seed)) ≡ length t.flips
  unfolding sum_bytes
  sized = length-bytes l _ ∙ sym right.size

  long : length payload ≡ l
  unfolding payload
  long = length-xor_bytes (sum_bytes n l page (draw.constraint n t.seed)) t.flips sized ∙ sized ∙ right.size

  taken_is : taken page-number n l page t ≡ frame_bytes page-number n l t.seed payload
  unfolding taken payload frame_of
  taken_is = flipped-frame page-number n l t.seed (sum_bytes n l page (draw.constraint n t.seed)) t.flips sized

  pub taken_lt : row_taken n l page t < 2 ^ (8 * row_bytes l)
  unfolding row_taken
  taken_lt =
      ⊕_lt (8 * row_bytes l) _ (number t.flips) (made_lt n l page b (draw.constraint n t.seed) (draws_below n t.seed (shape_range n l s).n_low (shape_range n l s).n_high))
      (lt_of_lt_of_le (rw right.size at (number_lt t.flips right.bytes)) (pow_mono (omega arith)))

  pub taken_own : Own page-number n l (taken page-number n l page t) (entry_taken n l page t)
  taken_own =
      rw taken_is (record {
        seed = t.seed;
        reads = reads;
        entry =
            entry_is (frame_bytes page-number n l t.seed payload) page-number n l t.seed reads ∙ ap (λ (row : List ℕ). bytes 4 t.seed ++ row) row
            ∙ sym (bytes-entered l t.seed (row_taken n l page t) taken_lt);
      })
    where
      reads : reading (frame_bytes page-number n l t.seed payload) ≡ frames.Good page-number n l t.seed
      reads = laid_out_reads page-number n l t.seed payload small right.seeded s long

      row : bytes 8 (draw.constraint n t.seed) ++ payload_of (frame_bytes page-number n l t.seed payload) ≡ bytes (row_bytes l) (row_taken n l page t)
      row = ap (λ (p : List ℕ). bytes 8 (draw.constraint n t.seed) ++ p) (laid_out_payload page-number n l t.seed payload small right.seeded s long)
          ∙ unfold payload sum_bytes row_taken in row-bytes n l page b (draw.constraint n t.seed) t.flips right.size right.bytes
