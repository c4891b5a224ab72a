-- Frames that break the layout, and good frames of another page number or shape, are refused by laying and change nothing.
-- Assumes nothing.
use mathlib.Core.Path.{◌≡◌, refl}
use Prim.Native.Nat.{ℕ}
use mathlib.Core.Bool.{Bool, true, false, cond, not, ◌&&◌, true≢false}
use mathlib.Core.List.{List}
use lib.Dec.{eqb}
use Rattle.rows.specs.Rows.{shape}
use Rattle.std.proofs.Common.{Result, Ok, Err}
use Rattle.laying.specs.declared.Refusal.{Refusal}
use Rattle.laying.specs.declared.Refusal.TheVariants as refusal
use Rattle.frame.specs.Reading.{reading}
use Rattle.frame.specs.Numbers.{is_good}
use Rattle.laying.specs.Laying.{same_page, placing, laid, number_of, list_after}
use Rattle.crossing.specs.Held.{Held, offered}
use Rattle.crossing.specs.Caught.{of_page}

module _ (number n l : ℕ) where
  -- a frame that breaks the layout, or is a good one of another page number or shape, is refused wherever it is to go
  pub refused-laid : (frame : List ℕ) → of_page number n l frame ≡ false → (arrival : ℕ) (list : List ℕ) → eqb (number_of (laid frame number n l arrival list)) 0 ≡ false
  unfolding of_page laid number_of
  refused-laid frame e arrival list = go (shape n l) (is_good (reading frame)) refl (same_page (reading frame) number n l) e
    where
      go : (s g : Bool) → is_good (reading frame) ≡ g → (o : Bool) → (g && o) ≡ false
          → eqb (number_of (cond (not s) (Err refusal.Shape) (cond (not g) (Err (refusal.Frame (reading frame))) (cond (not o) (Err refusal.OtherPage) (placing l arrival list))))) 0 ≡ false
      go false g p o e = refl
      go true false p o e = p
      go true true p false e = refl
      go true true p true e = absurd (true≢false e)

  same_list : (a : Result Unit Refusal) (at : ℕ) (row list : List ℕ) → eqb (number_of a) 0 ≡ false → list_after a at row list ≡ list
  unfolding list_after number_of
  same_list (Ok _) at row list e = absurd (true≢false e)
  same_list (Err why) at row list e = refl

  -- and changes nothing
  pub refused-offered : (frame : List ℕ) → of_page number n l frame ≡ false → (s : Held) → offered number n l frame s ≡ s
  unfolding offered
  refused-offered frame e s =
      let refused = refused-laid frame e s.rows s.list in
      rw (refused, same_list)
