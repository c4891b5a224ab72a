use Rattle.tally.proofs.Uses.{Tallying}
use Rattle.tally.proofs.tally_words.Given as goal

abbrev pub invariant-loop-j : goal.invariant-loop-j
invariant-loop-j l = Tallying l.r l.initial.uses l.tail l.uses l.j
