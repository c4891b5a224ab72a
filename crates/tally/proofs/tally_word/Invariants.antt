use Rattle.tally.proofs.Uses.{Counting}
use Rattle.tally.proofs.tally_word.Given as goal

abbrev pub invariant-loop-bit : goal.invariant-loop-bit
invariant-loop-bit l = Counting l.j l.names l.initial.uses l.uses l.bit-iterator.rest
