-- Eight bytes one by one, or four: the number that std reads from them, the first highest.
-- Assumes nothing.
use Rattle.std.proofs.Common.{◌≡◌, ℕ, ◌≤◌, List, [], ◌∷◌, length, take, get_or, refl, arith, w32, w64}
use Rattle.std.specs.Int.{from_be_bytes}
use Rattle.octets.specs.Octets.{number}

-- the first four, one by one
four_first : (v : List ℕ) → 4 ≤ length v → take 4 v ≡ (get_or v 0 0 ∷ get_or v 1 0 ∷ get_or v 2 0 ∷ get_or v 3 0 ∷ [])
four_first (a ∷ b ∷ c ∷ d ∷ v) l = refl
four_first [] l = absurd (omega arith)
four_first (a ∷ []) l = absurd (omega arith)
four_first (a ∷ b ∷ []) l = absurd (omega arith)
four_first (a ∷ b ∷ c ∷ []) l = absurd (omega arith)

-- eight bytes, one by one
pub eight_of : (v : List ℕ) → length v ≡ 8
    → v ≡ (get_or v 0 0 ∷ get_or v 1 0 ∷ get_or v 2 0 ∷ get_or v 3 0 ∷ get_or v 4 0 ∷ get_or v 5 0 ∷ get_or v 6 0 ∷ get_or v 7 0 ∷ [])
eight_of (a ∷ b ∷ c ∷ d ∷ e ∷ f ∷ g ∷ h ∷ []) l = refl
eight_of [] l = absurd (omega arith)
eight_of (a ∷ []) l = absurd (omega arith)
eight_of (a ∷ b ∷ []) l = absurd (omega arith)
eight_of (a ∷ b ∷ c ∷ []) l = absurd (omega arith)
eight_of (a ∷ b ∷ c ∷ d ∷ []) l = absurd (omega arith)
eight_of (a ∷ b ∷ c ∷ d ∷ e ∷ []) l = absurd (omega arith)
eight_of (a ∷ b ∷ c ∷ d ∷ e ∷ f ∷ []) l = absurd (omega arith)
eight_of (a ∷ b ∷ c ∷ d ∷ e ∷ f ∷ g ∷ []) l = absurd (omega arith)
eight_of (a ∷ b ∷ c ∷ d ∷ e ∷ f ∷ g ∷ h ∷ i ∷ v) l = absurd (omega arith)

pub four_number : (v : List ℕ) → 4 ≤ length v → from_be_bytes w32 (take 4 v) ≡ number (take 4 v)
unfolding number
four_number v h = rw (four_first v h) (omega arith)

pub eight_number : (v : List ℕ) → length v ≡ 8 → from_be_bytes w64 v ≡ number v
unfolding number
eight_number v h = rw (eight_of v h) (omega arith)
