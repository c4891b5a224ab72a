-- What holds of a buffer of uses, whatever its elements: `room_in` tells for how many uses so many of them have room, `put_at` writes the use at a place
-- anew, `written` the first uses, and `counts` are the uses that they stand for.
use Rattle.std.specs.Prelude.{ℕ, ◌≤◌, ◌<◌, ◌≡◌, List, [], ◌∷◌, ◌++◌, length}
use Rattle.octets.specs.Octets.{over}

-- No uses change nothing, and with the use behind the first ones written too there is one more.
pub record Written {T : Type 0} (room_in : ℕ → ℕ) (put_at : ℕ → ℕ → List T → List T) (written : List ℕ → List T → List T) : Type 0 where
  pub nothing : (lent : List T) → written [] lent ≡ lent
  pub one_more : (before : List ℕ) (count : ℕ) (lent : List T) → length before < room_in (length lent)
      → put_at (length before) count (written before lent) ≡ written (before ++ (count ∷ [])) lent

-- Uses read out of a buffer, and written back with the first ones changed, change no other.
pub record KeptBack {T : Type 0} (room_in : ℕ → ℕ) (counts : List T → List ℕ) (written : List ℕ → List T → List T) (lent : List T) : Type 0 where
  pub room : length (counts lent) ≡ room_in (length lent)
  pub back : (uses : List ℕ) → length uses ≤ room_in (length lent) → written (over uses (counts lent)) lent ≡ written uses lent
