-- The layout of a frame: where its fields start, and the bytes that they hold. Document 01, "The frame".
use Rattle.std.specs.Prelude.{ℕ, ◌+◌, List, [], ◌∷◌, ◌++◌, length, take, drop}
use Rattle.octets.specs.Octets.{bytes}

-- "Fields follow with no gap: tag (1 byte), length (2 bytes, big-endian), value."
unfoldable pub mark : ℕ → ℕ → List ℕ
mark tag size = tag ∷ bytes 2 size

unfoldable pub field_bytes : ℕ → List ℕ → List ℕ
field_bytes tag value = mark tag (length value) ++ value

-- "Each once, in this order: tag 1, page number, 4 bytes; tag 2, n and L, 2 bytes; tag 3, seed, 4 bytes; tag 4, payload, L bytes.
-- Numbers are big-endian."
unfoldable pub head_bytes : ℕ → ℕ → ℕ → ℕ → List ℕ
head_bytes page n l seed = field_bytes 1 (bytes 4 page) ++ (field_bytes 2 (n ∷ l ∷ []) ++ field_bytes 3 (bytes 4 seed))

unfoldable pub frame_bytes : ℕ → ℕ → ℕ → ℕ → List ℕ → List ℕ
frame_bytes page n l seed payload = head_bytes page n l seed ++ field_bytes 4 payload

-- Where the fields start.
abbrev pub page_at : ℕ
page_at = 0

abbrev pub shape_at : ℕ
shape_at = page_at + (3 + 4)

abbrev pub seed_at : ℕ
seed_at = shape_at + (3 + 2)

abbrev pub payload_at : ℕ
payload_at = seed_at + (3 + 4)

-- "A frame has 22+L bytes".
abbrev pub frame_length : ℕ → ℕ
frame_length l = payload_at + 3 + l

-- The value of the field that starts at `at`.
unfoldable pub value : List ℕ → ℕ → ℕ → List ℕ
value frame at size = take size (drop (at + 3) frame)
