-- The frames of a page are bytes, also with payload bits flipped; so of frames that were caught only the others have to be.
-- Assumes nothing.
use mathlib.Core.Path.{◌≡◌}
use Prim.Native.Nat.{ℕ, ◌+◌, ◌<◌}
use native.Mathlib.Omega.{arith}
use mathlib.Core.Bool.{true}
use mathlib.Core.List.{List, [], ◌∷◌, ◌++◌}
use lib.ListN.{length, take, drop}
use Rattle.space.specs.Lists.{Below}
use Rattle.space.proofs.Lists.{below_append}
use Rattle.octets.specs.Octets.{bytes, xor_bytes}
use Rattle.octets.proofs.Numbers.{bytes_below}
use Rattle.octets.proofs.Runs.{below_parts}
use Rattle.octets.proofs.Xors.{xor_bytes_below}
use Rattle.rows.specs.Rows.{shape}
use Rattle.rows.proofs.Shape.{shape_range}
use Rattle.frame.specs.Layout.{mark, field_bytes, head_bytes, frame_bytes, payload_at}
use Rattle.writing.specs.Writing.{sum_bytes, frame_of}
use Rattle.crossing.specs.Caught.{Caught, own, other, frames_of, Mixed}
use Rattle.crossing.specs.Taken.{Take, IsTake, flipped, taken}
use Rattle.stored.specs.Calls.{offerings, AreCalls, OthersBytes}

field_low : (tag : ℕ) (value : List ℕ) → tag < 256 → Below 256 value → Below 256 (field_bytes tag value)
unfolding field_bytes mark
field_low tag value h b = (h, below_append 256 (bytes 2 (length value)) value (bytes_below 2 (length value)) b)

module _ (number n l : ℕ) (page : List ℕ) (s : shape n l ≡ true) where
  pub frame_low : (seed : ℕ) → Below 256 (frame_of number n l seed page)
  unfolding frame_of frame_bytes head_bytes sum_bytes
  frame_low seed =
      below_append 256 (field_bytes 1 (bytes 4 number) ++ (field_bytes 2 (n ∷ l ∷ []) ++ field_bytes 3 (bytes 4 seed))) _
      (below_append 256 (field_bytes 1 (bytes 4 number)) _ (field_low 1 (bytes 4 number) (omega arith) (bytes_below 4 number))
      (below_append 256 (field_bytes 2 (n ∷ l ∷ [])) (field_bytes 3 (bytes 4 seed))
      (field_low 2 (n ∷ l ∷ []) (omega arith) (omega (arith, (shape_range n l s).n_high), (omega (arith, (shape_range n l s).l_high), tt)))
      (field_low 3 (bytes 4 seed) (omega arith) (bytes_below 4 seed))))
      (field_low 4 (bytes l _) (omega arith) (bytes_below l _))

  pub taken_low : (t : Take) → IsTake l t → Below 256 (taken number n l page t)
  unfolding taken flipped
  taken_low t right =
      let frame = frame_of number n l t.seed page in
      let parts = below_parts 256 (payload_at + 3) frame (frame_low t.seed) in
      below_append 256 (take (payload_at + 3) frame) (xor_bytes (drop (payload_at + 3) frame) t.flips) parts.0 (xor_bytes_below (drop (payload_at + 3) frame) t.flips parts.1 right.bytes)

pub caught_calls : {A : Type 0} (number n l : ℕ) (make : A → List ℕ) (Right : A → Type 0) → ((a : A) → Right a → Below 256 (make a))
    → (caught : List (Caught A)) → Mixed number n l Right caught → OthersBytes caught → AreCalls (offerings (frames_of make caught))
unfolding frames_of
caught_calls number n l make Right low [] m b = tt
caught_calls number n l make Right low (own a ∷ caught) m b = (low a m.0, caught_calls number n l make Right low caught m.1 b)
caught_calls number n l make Right low (other frame ∷ caught) m b = (b.0, caught_calls number n l make Right low caught m.1 b.1)
