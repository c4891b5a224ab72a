-- Writing, answer by answer; and the sum of a page's symbols, as bytes.
-- Assumes nothing.
use mathlib.Core.Path.{◌≡◌}
use Prim.Native.Nat.{ℕ, ◌*◌, ◌≤◌, ◌<◌}
use mathlib.Core.Bool.{true, false}
use mathlib.Core.List.{List}
use lib.ListN.{length}
use borrow.Author.Tests.{lt-ltb, le-ltb, eq-eqb, ne_eqb}
use Rattle.std.proofs.Common.{Ok, Err}
use Rattle.octets.specs.Octets.{bytes}
use Rattle.rows.specs.Rows.{shape, named}
use Rattle.rows.specs.Bytes.{cut}
use Rattle.rows.proofs.Pages.{cut-symbols}
use Rattle.writing.specs.declared.Refusal.TheVariants.{Shape, Length, Room}
use Rattle.frame.specs.Layout.{frame_length}
use Rattle.writing.specs.Writing.{write_answer, sum_bytes}

module _ (n l : ℕ) (page room : List ℕ) where
  pub written-shape : shape n l ≡ false → write_answer n l page room ≡ Err Shape
  unfolding write_answer
  written-shape s = rw s

  module _ (s : shape n l ≡ true) where
    pub written-length : (length page ≡ n * l → ⊥) → write_answer n l page room ≡ Err Length
    unfolding write_answer
    written-length h = rw (s, ne_eqb (length page) (n * l) h)

    pub written-room : length page ≡ n * l → length room < frame_length l → write_answer n l page room ≡ Err Room
    unfolding write_answer
    written-room e h = rw (s, eq-eqb (length page) (n * l) e, lt-ltb (length room) (frame_length l) h)

    pub written_done : length page ≡ n * l → frame_length l ≤ length room → write_answer n l page room ≡ Ok tt
    unfolding write_answer
    written_done e h = rw (s, eq-eqb (length page) (n * l) e, le-ltb (length room) (frame_length l) h)

-- a page of nL bytes has n symbols of L
pub sum_is : (n l k : ℕ) (page : List ℕ) (c : ℕ) → 1 ≤ l → k ≡ l → length page ≡ n * l → bytes k (named (cut k page) c) ≡ sum_bytes n l page c
unfolding sum_bytes
sum_is n l k page c low e long = rw (e, cut-symbols n l page low long)
