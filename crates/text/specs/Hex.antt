-- Hexadecimal digits: the bytes of a line. Document 01, "The page reader program".
use Rattle.std.specs.Prelude.{ℕ, ◌+◌, ◌-◌, ◌*◌, ◌/◌, ◌%◌, Bool, cond, not, ◌&&◌, ◌||◌, List, [], ◌∷◌, Option, None, Some, is_some, unwrap_or, Result, Ok, Err, eqb, leb, ltb, length}
use Rattle.std.specs.List.{list_all}
use Rattle.octets.specs.Octets.{over}
use Rattle.text.specs.declared.Refusal.{Refusal}
use Rattle.text.specs.declared.Refusal.TheVariants.{Bad, Room}

-- ---- digits

unfoldable pub within : ℕ → ℕ → ℕ → Bool
within least most c = leb least c && leb c most

-- "hexadecimal digits of either case": what each is worth, 0 to 9, A to F and a to f; "another character" is none.
unfoldable pub digit : ℕ → Option ℕ
digit c =
    cond (within 48 57 c) (Some (c - 48))
    (cond (within 65 70 c) (Some (c - 65 + 10))
    (cond (within 97 102 c) (Some (c - 97 + 10)) None))

-- What a digit is worth, in a line of digits.
unfoldable pub worth : ℕ → ℕ
worth c = unwrap_or (digit c) 0

unfoldable pub all_digits : List ℕ → Bool
all_digits line = list_all (λ c. is_some (digit c)) line

-- The bytes that pairs of digits stand for.
unfoldable pub pairs : List ℕ → List ℕ
pairs [] = []
pairs (high ∷ []) = []
pairs (high ∷ low ∷ line) = (worth high * 16 + worth low) ∷ pairs line

-- ---- a line

unfoldable pub most_characters : ℕ
most_characters = 256

-- "A line of odd length, over 256 characters, or with another character (a carriage return too)".
unfoldable pub bad : List ℕ → Bool
bad line = (not (eqb (length line % 2) 0) || ltb most_characters (length line)) || not (all_digits line)

-- The answer, for a lent frame of that many bytes.
unfoldable pub unhexed : List ℕ → ℕ → Result ℕ Refusal
unhexed line room = cond (bad line) (Err Bad) (cond (ltb room (length line / 2)) (Err Room) (Ok (length line / 2)))

-- What is written: "An empty line is a frame of no bytes."
unfoldable pub unhexed_bytes : Result ℕ Refusal → List ℕ → List ℕ
unhexed_bytes (Ok k) line = pairs line
unhexed_bytes (Err e) line = []

-- The lent frame at exit.
unfoldable pub unhexed_frame : List ℕ → List ℕ → List ℕ
unhexed_frame line frame = over (unhexed_bytes (unhexed line (length frame)) line) frame
