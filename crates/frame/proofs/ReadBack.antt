-- Read-back of a frame: laid out from its values, it reads as those values, and its payload is the one laid out.
-- Assumes nothing.
use mathlib.Core.Path.{◌≡◌, refl, ap₂, ◌∙◌}
use Prim.Native.Nat.{ℕ, ◌^◌, ◌<◌}
use native.Mathlib.Nat.{le_of_eq}
use native.Mathlib.Omega.{arith}
use mathlib.Core.Bool.{true}
use mathlib.Core.List.{List, [], ◌∷◌, ◌++◌, append-nil}
use lib.ListN.{length, length-append}
use lib.Seq.{take_all}
use Rattle.octets.specs.Octets.{bytes}
use Rattle.octets.proofs.Numbers.{number-bytes}
use Rattle.rows.specs.Rows.{shape}
use Rattle.rows.proofs.Shape.{shape_range}
use Rattle.frame.specs.declared.Frame.TheVariants as frames
use Rattle.frame.specs.Layout.{mark, field_bytes, head_bytes, frame_bytes, value}
use Rattle.frame.specs.Reading.{n_of, l_of, good, reading}
use Rattle.frame.specs.Numbers.{frame_numbers, payload_of}
use Rattle.frame.proofs.Whole.{Whole}
use Rattle.frame.proofs.Good.{Fields, fields_good}
use Rattle.frame.proofs.Lengths.{length_field, length-frame}

-- a field that is laid out stands whole, whatever follows it
field_whole : (tag : ℕ) (value rest : List ℕ) → length value < 2 ^ 16 → Whole (field_bytes tag value ++ rest) tag (length value)
unfolding field_bytes mark bytes
field_whole tag value rest h =
    record {
      tagged = refl;
      sized = number-bytes 2 (length value) h;
      ends = omega (arith, length-append (field_bytes tag value) rest, length_field tag value);
    }

module _ (page n l seed : ℕ) (payload : List ℕ) (small : page < 2 ^ 32) (seeded : seed < 2 ^ 32) (s : shape n l ≡ true) (long : length payload ≡ l) where
  abbrev frame : List ℕ
  frame = frame_bytes page n l seed payload

  last_field : Whole (field_bytes 4 payload) 4 l
  last_field = rw (append-nil, long) at (field_whole 4 payload [] (omega (arith, (shape_range n l s).l_high)))

  frame_fields : Fields frame
  unfolding frame_bytes head_bytes field_bytes mark bytes n_of l_of value
  frame_fields =
      record {
        one = field_whole 1 (bytes 4 page) _ (omega arith);
        two = field_whole 2 (n ∷ l ∷ []) _ (omega arith);
        shaped = s;
        three = field_whole 3 (bytes 4 seed) _ (omega arith);
        four = last_field;
        long = length-frame page n l seed payload long;
      }

  pub laid_out_reads : reading frame ≡ frames.Good page n l seed
  unfolding frame_bytes head_bytes field_bytes mark bytes n_of l_of value good
  laid_out_reads = fields_good frame frame_fields ∙ ap₂ (λ p z. frames.Good p n l z) (number-bytes 4 page small) (number-bytes 4 seed seeded)

  pub laid_out_payload : payload_of frame ≡ payload
  unfolding payload_of frame_numbers frame_bytes head_bytes field_bytes mark bytes
  laid_out_payload = rw laid_out_reads (take_all l payload (le_of_eq long))
