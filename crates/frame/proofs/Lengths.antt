-- How long the parts of a frame are.
-- Assumes nothing.
use mathlib.Core.Path.{◌≡◌, refl, ap, ap₂, ◌∙◌}
use Prim.Native.Nat.{ℕ, ◌+◌, ◌*◌, ◌<◌}
use native.Mathlib.Omega.{arith}
use mathlib.Core.List.{List, [], ◌∷◌}
use lib.ListN.{length, length-append}
use Rattle.octets.specs.Octets.{bytes}
use Rattle.octets.proofs.Numbers.{length-bytes}
use Rattle.frame.specs.Layout.{payload_at, frame_length, mark, field_bytes, head_bytes, frame_bytes}

pub length-mark : (tag size : ℕ) → length (mark tag size) ≡ 3
unfolding mark bytes
length-mark tag size = refl

pub length_field : (tag : ℕ) (value : List ℕ) → length (field_bytes tag value) ≡ 3 + length value
unfolding field_bytes
length_field tag value = length-append (mark tag (length value)) value ∙ ap (λ (k : ℕ). k + length value) (length-mark tag (length value))

pub number_field : (tag size x : ℕ) → length (field_bytes tag (bytes size x)) ≡ 3 + size
number_field tag size x = length_field tag (bytes size x) ∙ ap (λ (k : ℕ). 3 + k) (length-bytes size x)

-- n and l are the two bytes of one number
pub shape-bytes : (n l : ℕ) → n < 256 → l < 256 → bytes 2 (n * 256 + l) ≡ n ∷ l ∷ []
unfolding bytes
shape-bytes n l hn hl = ap₂ (λ x y. x ∷ y ∷ []) (omega arith) (omega arith)

pub length-head : (page n l seed : ℕ) → length (head_bytes page n l seed) ≡ payload_at
unfolding head_bytes
length-head page n l seed =
    length-append (field_bytes 1 (bytes 4 page)) _ ∙ omega (
      arith,
      number_field 1 4 page,
      length-append (field_bytes 2 (n ∷ l ∷ [])) (field_bytes 3 (bytes 4 seed)),
      length_field 2 (n ∷ l ∷ []),
      number_field 3 4 seed,
    )

pub length-frame : (page n l seed : ℕ) (payload : List ℕ) → length payload ≡ l → length (frame_bytes page n l seed payload) ≡ frame_length l
unfolding frame_bytes
length-frame page n l seed payload e =
    length-append (head_bytes page n l seed) (field_bytes 4 payload) ∙ omega (arith, length-head page n l seed, length_field 4 payload)
