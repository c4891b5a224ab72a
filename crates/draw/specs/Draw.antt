-- How a constraint is drawn from a seed. Document 01, "Drawing a constraint from a seed"; n is the number of symbols.
use Rattle.std.specs.Prelude.{ℕ, zero, suc, ◌+◌, ◌-◌, ◌*◌, ◌/◌, ◌%◌, ◌^◌, Bool, cond, ◌&&◌, ◌==◌, Option, Some, None, bit_xor, nat_le}
use Rattle.draw.specs.declared.Generator.{Generator}

-- ---- the generator

-- "sums and differences modulo 2^32, rot a left rotation", all of 32-bit numbers.
unfoldable pub sum : ℕ → ℕ → ℕ
sum x y = (x + y) % 2 ^ 32

unfoldable pub difference : ℕ → ℕ → ℕ
difference x y = (x + 2 ^ 32 - y) % 2 ^ 32

unfoldable pub rot : ℕ → ℕ → ℕ
rot x k = (x * 2 ^ k) % 2 ^ 32 + x / 2 ^ (32 - k)

-- "Start: a = F1EA5EED (hex), b = c = d = seed."
unfoldable pub start : ℕ → Generator
start seed = record { a = 0xF1EA5EED; b = seed; c = seed; d = seed }

-- "A step: e = a - rot(b,27); a = b xor rot(c,17); b = c + d; c = d + e; d = e + a; its draw is the new d."
unfoldable pub step : Generator → Generator
step g =
    let e = difference g.a (rot g.b 27) in
    let a = bit_xor g.b (rot g.c 17) in
    record { a = a; b = sum g.c g.d; c = sum g.d e; d = sum e a }

unfoldable pub steps : ℕ → Generator → Generator
steps zero g = g
steps (suc k) g = step (steps k g)

-- ---- the constraint

-- "Twenty steps are thrown away."
unfoldable pub settled : ℕ → Generator
settled seed = steps 20 (start seed)

-- "The next two draws are the high and low half of a 64-bit number";
unfoldable pub two_draws : Generator → ℕ
two_draws g = (step g).d * 2 ^ 32 + (step (step g)).d

-- "the constraint is that number modulo 2^n. If this is zero, the constraint is 2^(seed mod n)."
unfoldable pub constraint : ℕ → ℕ → ℕ
constraint n seed =
    let low = two_draws (settled seed) % 2 ^ n in
    cond (low == 0) (2 ^ (seed % n)) low

-- ---- the answer

-- "n is 1 to 64".
unfoldable pub in_range : ℕ → Bool
in_range n = nat_le 1 n && nat_le n 64

-- "Drawing on its own with n out of range is refused".
unfoldable pub drawn : ℕ → ℕ → Option ℕ
drawn n seed = cond (in_range n) (Some (constraint n seed)) None

-- Document 01's number and constraint for each answer: "refused as 1, constraint 0".
unfoldable pub number_of : Option ℕ → ℕ
number_of (Some c) = 0
number_of None = 1

unfoldable pub constraint_of : Option ℕ → ℕ
constraint_of (Some c) = c
constraint_of None = 0
