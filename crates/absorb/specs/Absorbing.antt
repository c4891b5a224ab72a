-- What a row makes of the state of an elimination: `absorb` of the code.
use Rattle.std.specs.Prelude.{ℕ, ◌-◌, ◌*◌, ◌^◌, Bool, cond, ◌&&◌, List, leb, ltb, length}
use Rattle.octets.specs.Octets.{bytes}
use Rattle.places.specs.Places.{most_rows}
use Rattle.basis.specs.Algorithm2.{Pass, pass}
use Rattle.tally.specs.Tally.{most_kept, tail_bytes}
use Rattle.state.specs.Layout.{vector_bytes, state_bytes, slots_in}
use Rattle.keeping.specs.Keeping.{kept_state}
use Rattle.counting.specs.Counting.{counted_state}
use Rattle.absorb.specs.declared.Absorbed.{Absorbed}
use Rattle.absorb.specs.declared.Absorbed.TheVariants.{Kept, Other, Misfit}

-- A vector has as many digits for the tail as the row leaves.
unfoldable pub tail_digits : ℕ → ℕ
tail_digits key = 8 * (vector_bytes - key)

-- The pass of a row over the slots, its tail empty.
unfoldable pub pass_in : ℕ → ℕ → List ℕ → Pass
pass_in key row state = pass (tail_digits key) (slots_in key state) (row * 2 ^ tail_digits key)

-- The answer, and the state afterwards.
pub record Absorption : Type 0 where
  pub answer : Absorbed
  pub state : List ℕ

abbrev pub absorbed_as : Absorbed → List ℕ → Absorption
absorbed_as answer state = record { answer = answer; state = state }

-- Where the pass stops the row is kept, if there is a kept place left; else its uses are counted.
unfoldable pub taken : ℕ → Pass → ℕ → ℕ → List ℕ → Absorption
taken key p m r state =
    cond (ltb p.stop (8 * key))
    (cond (ltb r most_kept) (absorbed_as Kept (kept_state p.stop (bytes vector_bytes p.vector) m r state)) (absorbed_as Misfit state))
    (absorbed_as Other (counted_state (bytes tail_bytes p.vector) m r state))

-- Whether a row of 9 to 40 bytes, an arrival and so many kept rows before it fit a state of so many bytes.
unfoldable pub takes : ℕ → ℕ → ℕ → ℕ → Bool
takes key m r room = (leb 9 key && leb key 40) && ((ltb m most_rows && leb r most_kept) && leb state_bytes room)

unfoldable pub absorption : ℕ → ℕ → ℕ → ℕ → List ℕ → Absorption
absorption key row m r state = cond (takes key m r (length state)) (taken key (pass_in key row state) m r state) (absorbed_as Misfit state)
