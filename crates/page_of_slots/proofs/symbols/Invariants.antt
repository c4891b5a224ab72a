use Prim.Native.Nat.{ℕ, ◌+◌}
use mathlib.Core.List.{List}
use Rattle.page_of_slots.specs.Symbols.{slots_in, symbol_in}
use Rattle.page_of_slots.specs.Parts.{Ready}
use Rattle.page_of_slots.proofs.Writing.{Writing}
use Rattle.page_of_slots.proofs.symbols.Given as goal

-- the symbols of l bytes
abbrev pub symbol_of : ℕ → List ℕ → ℕ → ℕ
symbol_of l slots = symbol_in l (slots_in (8 + l) slots)

abbrev pub invariant-loop-k : goal.invariant-loop-k
invariant-loop-k l = record { writing : Writing l.n l.l (symbol_of l.l l.slots) l.initial.page l.page l.k; ready : Ready (8 + l.l) l.work l.slots }
