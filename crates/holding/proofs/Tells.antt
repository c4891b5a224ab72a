-- What a state that holds what an order takes tells to whoever reads its parts; and that it still does when its front is written over.
-- Assumes nothing.
use mathlib.Core.Path.{◌≡◌, ap, ◌∙◌}
use mathlib.Core.List.{List}
use Prim.Native.Nat.{ℕ, ◌*◌, ◌≤◌}
use native.Mathlib.Omega.{arith}
use lib.ListN.{length}
use Rattle.octets.specs.Octets.{over}
use Rattle.doubles.specs.Doubles.{pairs_in}
use Rattle.rows.specs.Rows.{row_bytes}
use Rattle.reading.specs.Reading.{rank, uses}
use Rattle.reading.specs.Orders.{taken}
use Rattle.reading.specs.Marks.{places_given}
use Rattle.basis.proofs.Model.{rank_most}
use Rattle.tally.specs.Tally.{most_kept}
use Rattle.state.specs.Layout.{uses_at, uses_part, places_part}
use Rattle.state.proofs.Sizes.{sizes}
use Rattle.views.proofs.Told.{uses-told, places-told}
use Rattle.views.proofs.Front.{uses-front, places-front}
use Rattle.holding.specs.Holds.{Holds}
use Rattle.holding.proofs.Offers.{taken_below}

module _ (l : ℕ) (entries order state : List ℕ) (H : Holds l entries order state) where
  abbrev rows : List ℕ
  rows = taken l entries order

  -- no more rows are kept than there are places
  pub rank-fits : rank rows ≤ most_kept
  rank-fits = omega (arith, sizes, H.most, rank_most (8 * row_bytes l) rows (taken_below l entries order))

  -- ---- the uses, by kept place

  pub counts_tell : pairs_in (uses_part (rank rows) state) ≡ uses rows
  counts_tell = (uses-told (rank rows) state H.room rank-fits).1 ∙ H.uses

  pub counts-long : length (uses_part (rank rows) state) ≡ 2 * rank rows
  counts-long = (uses-told (rank rows) state H.room rank-fits).0

  -- ---- the kept places, by arrival

  pub places_tell : pairs_in (places_part (length entries) state) ≡ places_given l entries order
  places_tell = (places-told (length entries) state H.room H.many).1 ∙ H.places

  pub places-long : length (places_part (length entries) state) ≡ 2 * length entries
  places-long = (places-told (length entries) state H.room H.many).0

  -- ---- once the slots are written over

  module _ (new : List ℕ) (front : length new ≤ uses_at) where
    pub counts-left : pairs_in (uses_part (rank rows) (over new state)) ≡ uses rows
    counts-left = ap pairs_in (uses-front new state front H.room (rank rows)) ∙ counts_tell

    pub places-left : pairs_in (places_part (length entries) (over new state)) ≡ places_given l entries order
    places-left = ap pairs_in (places-front new state front H.room (length entries)) ∙ places_tell
