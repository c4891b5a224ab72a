-- What a row that is not kept does to the uses: one more for each kept row in its set.
use Rattle.std.specs.Prelude.{ℕ, suc, Bool, cond, List, [], ◌∷◌}

unfoldable pub raised : List Bool → List ℕ → List ℕ
raised [] us = us
raised (b ∷ set) [] = []
raised (b ∷ set) (u ∷ us) = cond b (suc u) u ∷ raised set us
