-- The loop of `is_among`, from the last entry back: an entry is among all exactly when it is among those not looked at yet.
-- Assumes nothing.
use mathlib.Core.Path.{◌≡◌, refl, sym, ap, ◌∙◌}
use mathlib.Core.Bool.{Bool, true, false, ◌||◌}
use mathlib.Core.List.{List}
use Prim.Native.Nat.{ℕ, suc, ◌+◌, ◌-◌, ◌*◌, ◌≤◌, ◌<◌}
use native.Mathlib.Omega.{arith}
use lib.Dec.{eqb}
use lib.ListN.{length, take, drop}
use Rattle.octets.specs.Octets.{number, numbers}
use Rattle.octets.proofs.Laid.{numbers-snoc}
use Rattle.octets.proofs.Views.{part_room}
use Rattle.reading.specs.Orders.{among}
use Rattle.reading.proofs.Among.{among-append}

module _ (entry list : List ℕ) (m : ℕ) where
  abbrev within : ℕ → Bool
  within i = among (numbers (length entry) i list) (number entry)

  pub record Behind (i : ℕ) : Type 0 where
    pub most : i ≤ m
    pub rest : within m ≡ within i

  pub behind-start : Behind m
  behind-start = record { most = omega arith; rest = refl }

  -- the entry at i, which the next turn looks at
  abbrev last : ℕ → Bool
  last i = eqb (number entry) (number (take (length entry) (drop (i * length entry) list)))

  or-false : (b : Bool) → (b || false) ≡ b
  or-false true = refl
  or-false false = refl

  or-true : (b : Bool) → (b || true) ≡ true
  or-true true = refl
  or-true false = refl

  one_less : (i : ℕ) → within (suc i) ≡ (within i || last i)
  one_less i =
      ap (λ (ds : List ℕ). among ds (number entry)) (numbers-snoc (length entry) i list) ∙ among-append (numbers (length entry) i list) _ (number entry)
      ∙ unfold among in ap (λ (b : Bool). within i || b) (or-false (last i))

  module _ (room : m * length entry ≤ length list) (i : ℕ) (B : Behind i) (h : 0 < i) where
    next : suc (i - 1) ≡ i
    next = omega arith

    pub behind-room : (i - 1) * length entry + length entry ≤ length list
    behind-room = part_room (length entry) m (i - 1) list room (omega (arith, B.most))

    found : within m ≡ (within (i - 1) || last (i - 1))
    found = B.rest ∙ ap within (sym next) ∙ one_less (i - 1)

    pub behind_found : last (i - 1) ≡ true → true ≡ within m
    behind_found e = sym (found ∙ rw e (or-true (within (i - 1))))

    pub behind_less : last (i - 1) ≡ false → Behind (i - 1)
    behind_less e = record { most = omega (arith, B.most); rest = found ∙ rw e (or-false (within (i - 1))) }

  pub behind_end : (i : ℕ) → Behind i → i ≤ 0 → false ≡ within m
  behind_end i B h =
      let none : i ≡ 0 = omega arith in
      sym (B.rest ∙ ap within none ∙ unfold numbers among in refl)
