-- Frames as a camera took them: "With the same rows drawn, their seeds and constraints read right, and the same payload bits flipped". Demand 3.
use Rattle.std.specs.Prelude.{ℕ, ◌+◌, ◌≡◌, List, ◌++◌, length, take, drop}
use Rattle.space.specs.Lists.{Below}
use Rattle.octets.specs.Octets.{xor_bytes}
use Rattle.frame.specs.Layout.{payload_at}
use Rattle.writing.specs.Writing.{frame_of}
use Rattle.crossing.specs.Caught.{IsSeed}

-- The seed of a frame, and the payload bits that were flipped, zero where the payload was read right.
pub record Take : Type 0 where
  pub seed : ℕ
  pub flips : List ℕ

-- The seed has four bytes, and the flipped bits are given by L bytes.
pub record IsTake (l : ℕ) (t : Take) : Type 0 where
  pub seeded : IsSeed t.seed
  pub size : length t.flips ≡ l
  pub bytes : Below 256 t.flips

-- A frame with those bits of its payload flipped.
unfoldable pub flipped : List ℕ → List ℕ → List ℕ
flipped flips frame = take (payload_at + 3) frame ++ xor_bytes (drop (payload_at + 3) frame) flips

-- The frame that is written from a page for a seed, as it was taken.
unfoldable pub taken : ℕ → ℕ → ℕ → List ℕ → Take → List ℕ
taken number n l page t = flipped t.flips (frame_of number n l t.seed page)
