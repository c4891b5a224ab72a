-- What a state tells that was made empty: slots, uses and kept places of zeros, and the order as it was.
-- Assumes nothing.
use mathlib.Core.Path.{◌≡◌, sym, ap, ◌∙◌}
use mathlib.Core.List.{List, ◌++◌}
use Prim.Native.Nat.{ℕ, ◌+◌, ◌-◌, ◌*◌, ◌≤◌}
use native.Mathlib.Omega.{arith}
use lib.Dec.{leb}
use lib.ListN.{length, drop, replicate, length-replicate}
use lib.Seq.{take_at, drop-append-le}
use borrow.Author.Tests.{leb-true}
use Rattle.octets.specs.Octets.{numbers, over}
use Rattle.octets.proofs.Runs.{length_over, take-over}
use Rattle.octets.proofs.Lay.{drop-over}
use Rattle.octets.proofs.Views.{numbers-take}
use Rattle.octets.proofs.Loaded.{drop-zeros, numbers-zeros, over_zeros}
use Rattle.slots.specs.Reducing.{slots_of}
use Rattle.tally.specs.Tally.{most_kept}
use Rattle.state.specs.Layout.{vector_bytes, uses_at, places_at, order_at, state_bytes, slots_in, uses_in, places_in, order_in}
use Rattle.state.specs.Written.{emptied}
use Rattle.state.proofs.Sizes.{sizes, slots_end}
use Rattle.state.proofs.Fits.{emptied_is}
use Rattle.views.proofs.Laid.{unless}

zeros-long : length {A = ℕ} (replicate order_at 0) ≡ order_at
zeros-long = length-replicate order_at 0

module _ (state : List ℕ) (whole : state_bytes ≤ length state) where
  pub emptied-slots : (key : ℕ) → key ≤ 40 → slots_in key (emptied state) ≡ replicate (8 * key) 0
  unfolding slots_in slots_of
  emptied-slots key h =
      let fits : 8 * key * vector_bytes ≤ order_at = omega (arith, sizes, slots_end key h) in
      rw (emptied_is state whole) (sym (numbers-take vector_bytes (8 * key) order_at (over (replicate order_at 0) state) fits)
      ∙ ap (numbers vector_bytes (8 * key)) (take-over (replicate order_at 0) state order_at zeros-long)
      ∙ numbers-zeros vector_bytes (8 * key) order_at fits)

  -- numbers of two bytes before the order
  emptied-pairs : (base n : ℕ) → base + 2 * n ≤ order_at → numbers 2 n (drop base (over (replicate order_at 0) state)) ≡ replicate n 0
  unfolding over
  emptied-pairs base n h =
      let rest : List ℕ = drop (length {A = ℕ} (replicate order_at 0)) state in
      let front : drop base (replicate order_at 0 ++ rest) ≡ replicate (order_at - base) 0 ++ rest =
      drop-append-le base (replicate order_at 0) rest (omega (arith, zeros-long)) ∙ ap (λ (l : List ℕ). l ++ rest) (drop-zeros base order_at) in
      ap (numbers 2 n) front ∙ sym (numbers-take 2 n (order_at - base) (replicate (order_at - base) 0 ++ rest) (omega arith))
      ∙ ap (numbers 2 n) (take_at (replicate (order_at - base) 0) rest (order_at - base) (length-replicate (order_at - base) 0))
      ∙ numbers-zeros 2 n (order_at - base) (omega arith)

  pub emptied-uses : (r : ℕ) → r ≤ most_kept → uses_in r (emptied state) ≡ replicate r 0
  unfolding uses_in
  emptied-uses r h = rw (emptied_is state whole) (emptied-pairs uses_at r (omega (arith, sizes)))

  pub emptied-places : (n : ℕ) → n ≤ 512 → places_in n (emptied state) ≡ replicate n 0
  unfolding places_in
  emptied-places n h = rw (emptied_is state whole) (emptied-pairs places_at n (omega (arith, sizes)))

-- ---- whether or not it fits

module _ (state : List ℕ) where
  pub emptied-length : length (emptied state) ≡ length state
  unfolding emptied
  emptied-length =
      unless length (leb state_bytes (length state)) (over (replicate order_at 0) state) state
      (λ e. length_over (replicate order_at 0) state (omega (arith, zeros-long, sizes, leb-true state_bytes (length state) e)))

  pub emptied-order : (taken : ℕ) → order_in taken (emptied state) ≡ order_in taken state
  unfolding emptied order_in
  emptied-order taken =
      unless (λ (s : List ℕ). numbers 2 taken (drop order_at s)) (leb state_bytes (length state)) (over (replicate order_at 0) state) state
      (λ e. ap (numbers 2 taken) (drop-over order_at (replicate order_at 0) state (omega (arith, zeros-long))))

-- zeros stay
pub emptied-zeros : (n : ℕ) → emptied (replicate n 0) ≡ replicate n 0
unfolding emptied
emptied-zeros n =
    unless (λ (s : List ℕ). s) (leb state_bytes (length {A = ℕ} (replicate n 0))) (over (replicate order_at 0) (replicate n 0)) (replicate n 0)
    (λ e. over_zeros order_at n (omega (arith, sizes, length-replicate {A = ℕ} n 0, leb-true state_bytes (length {A = ℕ} (replicate n 0)) e)))
