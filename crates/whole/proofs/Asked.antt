-- Asking a whole store is a fresh reading of its rows: these pass the checks but for room, its working is that of their elimination, and from such a
-- working the tail ends as the reading does.
-- Assumes nothing.
use mathlib.Core.Path.{◌≡◌, refl, sym, ap, ◌∙◌}
use Prim.Native.Nat.{ℕ, ◌*◌, ◌/◌}
use native.Mathlib.Omega.{arith}
use mathlib.Core.Bool.{Bool, true, false}
use mathlib.Core.List.{List}
use lib.ListN.{length, take}
use Rattle.space.specs.Lists.{Below}
use Rattle.octets.specs.Octets.{over}
use Rattle.rows.specs.Rows.{list_row_bytes, row_count, entries_of}
use Rattle.reading.specs.declared.Answer.TheVariants as answer
use Rattle.reading.specs.Answer.{answer_numbers}
use Rattle.reading.specs.Reading.{rank}
use Rattle.reading.specs.Orders.{taken, in_list_order}
use Rattle.reading.specs.Outcome.{Lent, Outcome, passes, refuses, room_for, roomy, checks, zeros}
use Rattle.reading.proofs.Checks.{Fits, roomy-fits, none_stray}
use Rattle.state.specs.Layout.{uses_part, places_part}
use Rattle.marks.specs.Mark.{pairs_after}
use Rattle.checks.specs.Checks.{check_of}
use Rattle.tail.specs.Tail.{Ending, roles_in, finished}
use Rattle.reader.specs.Pairs.{counted, in_pairs}
use Rattle.reader.specs.Reader.{Reads}
use Rattle.reader.proofs.Rows.{concluded-reads}
use Rattle.reader.proofs.Ends.{counts-long, pairs-refused, pairs_end}
use Rattle.crossing.specs.Held.{Held, list_held}
use Rattle.store.specs.declared.Head.{Head}
use Rattle.store.specs.Store.{taken_in, rank_in, working_in}
use Rattle.asking.specs.Asking.{said, lending, list_of, ended, answered, asked_by, asked}
use Rattle.current.proofs.Held.{held-count, held_rows, held_whole, current-rank, current_concludes}
use Rattle.whole.specs.Whole.{Whole}
use Rattle.whole.proofs.Offered.{whole_header}

module _ (page n l : ℕ) (held : Held) (store : List ℕ) (W : Whole page n l held store) (page₀ uses₀ roles₀ scratch₀ : List ℕ) (low : Below 256 uses₀) where
  abbrev lent : Lent
  lent = lending page₀ uses₀ roles₀ scratch₀

  abbrev head : Head
  head = record { page = page; n = n; l = l; rows = held.rows; taken = taken_in store; rank = rank_in store }

  abbrev list : List ℕ
  list = take (list_row_bytes l * held.rows) held.list

  abbrev working : List ℕ
  working = working_in store

  list_of_lem : list_of head store ≡ list
  unfolding list_of
  list_of_lem = rw W.list_is

  -- ---- the checks of a reading of these rows

  count_is : row_count l list ≡ held.rows
  count_is = held-count l held.list held.rows (taken_in store) (rank_in store) working W.current

  abbrev room : Bool
  room = room_for (n * l) held.rows (length page₀) (length uses₀ / 2) (length roles₀) (length scratch₀)

  room_is : roomy n l (row_count l list) (counted lent) ≡ room
  room_is = rw (count_is, counts-long n l list lent low)

  pass : room ≡ true → checks n l list (counted lent) ≡ passes
  unfolding checks
  pass e =
      rw (
        W.shaped,
        held_whole l held.list held.rows (taken_in store) (rank_in store) working W.current,
        room_is,
        e,
        held_rows l held.list held.rows (taken_in store) (rank_in store) working W.current,
      )
      (none_stray n l 0 _ W.inside)

  no_room : room ≡ false → checks n l list (counted lent) ≡ refuses answer.Room
  unfolding checks
  no_room e = rw (W.shaped, held_whole l held.list held.rows (taken_in store) (rank_in store) working W.current, room_is, e)

  -- ---- the tail

  abbrev e : Ending
  e = finished n l list (taken_in store) (rank_in store) working roles₀ page₀

  ending : room ≡ true → Reads n l list page₀ roles₀ e.answer e.page (roles_in n l list (rank_in store) working roles₀) e.state
  unfolding room_for
  ending r =
      concluded-reads n l list (taken_in store) working roles₀ page₀
      (current_concludes l held.list held.rows (taken_in store) (rank_in store) working W.current n roles₀ page₀ W.shaped W.inside (omega (arith, fits.roles, count_is)) fits.page)
      e.answer e.state e.page (roles_in n l list (rank_in store) working roles₀)
      (ap (λ (k : ℕ). finished n l list (taken_in store) k working roles₀ page₀) ranked) (ap (λ (k : ℕ). roles_in n l list k working roles₀) ranked)
    where
      fits : Fits n l (row_count l list) (counted lent)
      fits = roomy-fits n l (row_count l list) (counted lent) (room_is ∙ r)

      ranked : rank_in store ≡ rank (taken l (entries_of l list) (in_list_order (entries_of l list)))
      ranked = current-rank l held.list held.rows (taken_in store) (rank_in store) working W.current

  answered_so : (c : Bool) → room ≡ c → answered head store page₀ uses₀ roles₀ scratch₀ ≡ in_pairs n l list lent
  unfolding answered ended
  answered_so true r =
      rw (r, list_of_lem) (pairs_end n l list lent low (pass r) e.answer e.page (roles_in n l list (rank_in store) working roles₀) e.state
      (pairs_after (places_part held.rows e.state) (uses_part (answer_numbers e.answer).rank e.state) uses₀) (over zeros scratch₀) (ending r) (rw count_is) refl)
  answered_so false r = rw r (pairs-refused n l list lent low answer.Room (unfold check_of in sym (no_room r)))

  -- "its answer equals a fresh reading of the rows accepted so far"
  pub asked-whole : let o = in_pairs n l (list_held l held) (lending page₀ uses₀ roles₀ scratch₀) in
      asked store page₀ uses₀ roles₀ scratch₀ ≡ record { answer = said o.answer held.rows; lent = o.lent }
  unfolding asked asked_by list_held
  asked-whole =
      rw (whole_header page n l held store W) (ap (λ (o : Outcome). record { answer = said o.answer held.rows; lent = o.lent }) (answered_so room refl))
