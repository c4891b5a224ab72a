-- The agreement of the rows that are taken, in the order of their arrival numbers, with a page. Document 01, "How a list is read".
use Rattle.std.specs.Prelude.{ℕ, List}
use Rattle.space.specs.Lists.{count}
use Rattle.doubles.specs.Doubles.{pairs_in}
use Rattle.rows.specs.Bytes.{bytes_agree}
use Rattle.lists.specs.Lists.{row_at}

-- "Agreement is the number of list rows, kept or not, that agree with the page", of the rows at the arrival numbers in these bytes, 2 each.
unfoldable pub agreement_of : ℕ → List ℕ → List ℕ → List ℕ → ℕ
agreement_of l list order page = count (λ a. bytes_agree page (row_at l a list)) (pairs_in order)
