-- Laying, answer by answer.
-- Assumes nothing.
use mathlib.Core.Path.{◌≡◌}
use Prim.Native.Nat.{ℕ, ◌+◌, ◌*◌, ◌≤◌, ◌<◌}
use mathlib.Core.Bool.{true, false}
use mathlib.Core.List.{List, ◌++◌}
use lib.ListN.{length, take, drop}
use borrow.Author.Tests.{lt-ltb, le-ltb, eq-eqb}
use Rattle.octets.specs.Octets.{bytes}
use Rattle.octets.proofs.Lay.{part-lay}
use Rattle.rows.specs.Rows.{shape, seed_bytes, list_row_bytes}
use Rattle.draw.specs.Draw.{constraint}
use Rattle.std.proofs.Common.{Ok, Err, arith}
use Rattle.std.proofs.lemmas.Grind.{common_steps}
use Rattle.laying.specs.declared.Refusal.TheVariants as refusal
use Rattle.frame.specs.declared.Frame.TheVariants as good
use Rattle.frame.specs.Reading.{reading}
use Rattle.frame.specs.Numbers.{frame_numbers, is_good, payload_of}
use Rattle.laying.specs.Laying.{number_of, same_page, placing, laid, frame_row, frame_entry, list_after}

-- ---- the place

module _ (l arrival : ℕ) (list : List ℕ) where
  pub placing_full : 511 < arrival → placing l arrival list ≡ Err refusal.Full
  unfolding placing
  placing_full h = rw (lt-ltb 511 arrival h)

  module _ (few : arrival ≤ 511) where
    pub placing-room : length list < list_row_bytes l * arrival + list_row_bytes l → placing l arrival list ≡ Err refusal.Room
    unfolding placing
    placing-room h = rw (le-ltb 511 arrival few, lt-ltb _ _ h)

    pub placing-row : list_row_bytes l * arrival + list_row_bytes l ≤ length list → placing l arrival list ≡ Ok tt
    unfolding placing
    placing-row h = rw (le-ltb 511 arrival few, le-ltb _ _ h)

-- ---- the order

module _ (frame : List ℕ) (page n l arrival : ℕ) (list : List ℕ) where
  pub laid-shape : shape n l ≡ false → laid frame page n l arrival list ≡ Err refusal.Shape
  unfolding laid
  laid-shape s = rw s

  module _ (s : shape n l ≡ true) where
    pub laid-refused : is_good (reading frame) ≡ false → laid frame page n l arrival list ≡ Err (refusal.Frame (reading frame))
    unfolding laid
    laid-refused g = rw (s, g)

    module _ (p m k seed : ℕ) (g : reading frame ≡ good.Good p m k seed) where
      pub laid-other : same_page (good.Good p m k seed) page n l ≡ false → laid frame page n l arrival list ≡ Err refusal.OtherPage
      unfolding laid frame_numbers
      laid-other o = rw (s, g, o)

      pub laid-placing : p ≡ page → m ≡ n → k ≡ l → laid frame page n l arrival list ≡ placing l arrival list
      unfolding laid same_page frame_numbers
      laid-placing e f h = rw (s, g, eq-eqb p page e, eq-eqb m n f, eq-eqb k l h)

-- ---- number 0

-- "0 when done": only a row that is laid has it
pub laid_zero : (frame : List ℕ) (page n l arrival : ℕ) (list : List ℕ) → number_of (laid frame page n l arrival list) ≡ 0 → laid frame page n l arrival list ≡ Ok tt
unfolding laid placing number_of
laid_zero frame page n l arrival list z = grind (arith, common_steps)

-- ---- the row

pub row_is : (frame : List ℕ) (p n l seed : ℕ) → reading frame ≡ good.Good p n l seed → frame_row frame ≡ bytes 8 (constraint n seed) ++ payload_of frame
unfolding frame_row frame_numbers
row_is frame p n l seed g = rw g

pub entry_is : (frame : List ℕ) (p n l seed : ℕ) → reading frame ≡ good.Good p n l seed → frame_entry frame ≡ bytes seed_bytes seed ++ (bytes 8 (constraint n seed) ++ payload_of frame)
unfolding frame_entry frame_numbers
entry_is frame p n l seed g = rw (row_is frame p n l seed g) (rw g)

-- an entry that was laid is there
pub laid-there : (l arrival : ℕ) (entry list : List ℕ) → length entry ≡ list_row_bytes l → list_row_bytes l * arrival ≤ length list
    → take (list_row_bytes l) (drop (list_row_bytes l * arrival) (list_after (Ok tt) (list_row_bytes l * arrival) entry list)) ≡ entry
unfolding list_after
laid-there l arrival entry list e h = part-lay (list_row_bytes l * arrival) (list_row_bytes l) entry list e h
