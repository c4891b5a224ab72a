-- The layout is exact: a frame that reads as good is the one laid out from what it reads as.
-- Assumes nothing.
use mathlib.Core.Path.{◌≡◌, refl, sym, ap, ap₂, ◌∙◌}
use Prim.Native.Nat.{ℕ, suc, ◌+◌, ◌≤◌}
use native.Mathlib.Omega.{arith}
use mathlib.Core.List.{List, [], ◌∷◌, ◌++◌, append_assoc}
use lib.ListN.{length, get_or, take, drop, take-append-drop, length-drop}
use lib.Seq.{take_all, drop-drop}
use Rattle.space.specs.Lists.{Below}
use Rattle.octets.specs.Octets.{number, bytes}
use Rattle.octets.proofs.Numbers.{bytes-number}
use Rattle.octets.proofs.Runs.{below_parts}
use Rattle.frame.specs.declared.Frame.TheVariants as frames
use Rattle.frame.specs.Layout.{mark, field_bytes, head_bytes, frame_bytes, value}
use Rattle.frame.specs.Reading.{n_of, l_of, reading}
use Rattle.frame.specs.Numbers.{frame_numbers, payload_of}
use Rattle.frame.proofs.Whole.{Whole}
use Rattle.frame.proofs.Good.{Fields, fields, values_are}
use Rattle.octets.proofs.Parts.{part-long}

-- a whole field is the field of its value
whole-bytes : (rest : List ℕ) (tag size : ℕ) → Below 256 rest → Whole rest tag size → take (3 + size) rest ≡ field_bytes tag (take size (drop 3 rest))
unfolding field_bytes mark
whole-bytes [] tag size b w = absurd (omega (arith, w.ends))
whole-bytes (x ∷ []) tag size b w = absurd (omega (arith, w.ends))
whole-bytes (x ∷ y ∷ []) tag size b w = absurd (omega (arith, w.ends))
whole-bytes (x ∷ y ∷ z ∷ rest) tag size b w =
    let three : 3 + size ≡ suc (suc (suc size)) = omega arith in
    let long : length (take size rest) ≡ size = part-long 0 size rest (omega (arith, w.ends)) in
    let stated : bytes 2 size ≡ y ∷ z ∷ [] = rw w.sized at (bytes-number (y ∷ z ∷ []) (b.1.0, (b.1.1.0, tt))) in
    rw (three, long, stated) (ap (λ (t : ℕ). t ∷ y ∷ z ∷ take size rest) w.tagged)

two_bytes : (v : List ℕ) → length v ≡ 2 → v ≡ get_or v 0 0 ∷ get_or v 1 0 ∷ []
two_bytes [] e = absurd (omega arith)
two_bytes (x ∷ []) e = absurd (omega arith)
two_bytes (x ∷ y ∷ []) e = refl
two_bytes (x ∷ y ∷ z ∷ v) e = absurd (omega arith)

module _ (frame : List ℕ) (b : Below 256 frame) where
  -- the field that starts at a place, by its value
  field_at : (at tag size : ℕ) → Whole (drop at frame) tag size → take (3 + size) (drop at frame) ≡ field_bytes tag (value frame at size)
  unfolding value
  field_at at tag size w = whole-bytes (drop at frame) tag size (below_parts 256 at frame b).1 w ∙ ap (λ v. field_bytes tag (take size v)) (drop-drop 3 at frame)

  value-long : (at tag size : ℕ) → Whole (drop at frame) tag size → length (value frame at size) ≡ size
  unfolding value
  value-long at tag size w = part-long (at + 3) size frame (omega (arith, w.ends, length-drop at frame))

  -- a value as the bytes of its number
  number_at : (at tag size : ℕ) → Whole (drop at frame) tag size → value frame at size ≡ bytes size (number (value frame at size))
  number_at at tag size w =
      sym (rw (value-long at tag size w) at (bytes-number (value frame at size) value_below))
    where
      value_below : Below 256 (value frame at size)
      value_below = unfold value in (below_parts 256 size (drop (at + 3) frame) (below_parts 256 (at + 3) frame b).1).0

  module _ (page n l seed : ℕ) (e : reading frame ≡ frames.Good page n l seed) where
    f : Fields frame
    f = fields frame page n l seed e

    its : (number (value frame 0 4) ≡ page) × (n_of frame ≡ n) × (l_of frame ≡ l) × (number (value frame 12 4) ≡ seed)
    its = values_are frame page n l seed e

    one : take 7 frame ≡ field_bytes 1 (bytes 4 page)
    one = field_at 0 1 4 f.one ∙ ap (field_bytes 1) (number_at 0 1 4 f.one ∙ ap (bytes 4) its.0)

    two : take 5 (drop 7 frame) ≡ field_bytes 2 (n ∷ l ∷ [])
    unfolding n_of l_of
    two =
        field_at 7 2 2 f.two ∙ ap (field_bytes 2) (two_bytes (value frame 7 2) (value-long 7 2 2 f.two)
        ∙ ap₂ (λ x y. x ∷ y ∷ []) its.1 its.2)

    three : take 7 (drop 12 frame) ≡ field_bytes 3 (bytes 4 seed)
    three = field_at 12 3 4 f.three ∙ ap (field_bytes 3) (number_at 12 3 4 f.three ∙ ap (bytes 4) its.3)

    four : drop 19 frame ≡ field_bytes 4 (payload_of frame)
    unfolding payload_of frame_numbers value
    four =
        let last : length (drop 19 frame) ≤ 3 + l_of frame = omega (arith, f.long, length-drop 19 frame) in
        sym (take_all (3 + l_of frame) (drop 19 frame) last) ∙ field_at 19 4 (l_of frame) f.four ∙ rw (e, its.2)

    -- in front of each part stands the one before it
    next : (at k : ℕ) → take k (drop at frame) ++ drop (at + k) frame ≡ drop at frame
    next at k = ap (λ t. take k (drop at frame) ++ t) (sym (drop-drop k at frame)) ∙ take-append-drop k (drop at frame)

    pub good_exact : frame ≡ frame_bytes page n l seed (payload_of frame)
    unfolding frame_bytes head_bytes
    good_exact =
        sym (append_assoc (field_bytes 1 (bytes 4 page)) _ _ ∙ ap (λ t. field_bytes 1 (bytes 4 page) ++ t) (append_assoc (field_bytes 2 (n ∷ l ∷ [])) _ _)
        ∙ rw (← one, ← two, ← three, ← four) (ap (λ t. take 7 frame ++ t) (ap (λ t. take 5 (drop 7 frame) ++ t) (next 12 7) ∙ next 7 5) ∙ next 0 7))

-- so two frames that read alike and show one payload are one
pub good_same : (a b : List ℕ) → Below 256 a → Below 256 b → (page n l seed : ℕ) → reading a ≡ frames.Good page n l seed → reading b ≡ frames.Good page n l seed
    → payload_of a ≡ payload_of b → a ≡ b
good_same a b ha hb page n l seed ea eb e =
    good_exact a ha page n l seed ea ∙ ap (frame_bytes page n l seed) e ∙ sym (good_exact b hb page n l seed eb)
