-- The rows of a list taken in, one after the other, in an order of arrivals: `eliminate` of the code.
use Rattle.std.specs.Prelude.{ℕ, suc, ◌≤◌, Bool, cond, ◌&&◌, List, [], ◌∷◌, leb, length, Option, Some, None}
use Rattle.places.specs.Places.{most_rows}
use Rattle.octets.specs.Octets.{number}
use Rattle.lists.specs.Lists.{row_at}
use Rattle.state.specs.Layout.{state_bytes, order_in}
use Rattle.state.specs.Written.{emptied}
use Rattle.absorb.specs.declared.Absorbed.{Absorbed}
use Rattle.absorb.specs.declared.Absorbed.TheVariants as absorbed
use Rattle.absorb.specs.Absorbing.{absorption}

-- The state, and the number of rows kept.
pub record Elimination : Type 0 where
  pub state : List ℕ
  pub rank : ℕ

unfoldable pub rank_after : Absorbed → ℕ → ℕ
rank_after absorbed.Kept r = suc r
rank_after absorbed.Other r = r
rank_after absorbed.Misfit r = r

-- The row of one arrival more.
unfoldable pub one_more : ℕ → List ℕ → ℕ → Elimination → Elimination
one_more l list arrival e =
    let row = row_at l arrival list in
    let a = absorption (length row) (number row) arrival e.rank e.state in
    record { state = a.state; rank = rank_after a.answer e.rank }

-- The rows of the arrivals of an order, as they stand there.
unfoldable pub absorb_in : ℕ → List ℕ → List ℕ → Elimination → Elimination
absorb_in l list [] e = e
absorb_in l list (arrival ∷ order) e = absorb_in l list order (one_more l list arrival e)

-- What eliminating asks: a payload of 1 to 32 bytes, at most 512 rows, and a state of so many bytes.
pub record Eliminates (l taken room : ℕ) : Type 0 where
  pub some : 1 ≤ l
  pub most : l ≤ 32
  pub many : taken ≤ most_rows
  pub whole : state_bytes ≤ room

unfoldable pub eliminates : ℕ → ℕ → ℕ → Bool
eliminates l taken room = (leb 1 l && leb l 32) && (leb taken most_rows && leb state_bytes room)

-- The answer, how many rows were kept, and the state afterwards.
pub record Eliminating : Type 0 where
  pub answer : Option ℕ
  pub state : List ℕ

-- Of the first so many arrivals in the state's order; nothing is written where they do not fit.
unfoldable pub elimination : ℕ → List ℕ → ℕ → List ℕ → Eliminating
elimination l list taken state =
    let all = absorb_in l list (order_in taken state) (record { state = emptied state; rank = 0 }) in
    cond (eliminates l taken (length state)) (record { answer = Some all.rank; state = all.state }) (record { answer = None; state = state })
