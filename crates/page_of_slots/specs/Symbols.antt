-- The page that slots give: document 01, "How a list is read"; n is the number of symbols and l the bytes of one.
use Rattle.std.specs.Prelude.{ℕ, ◌-◌, ◌*◌, ◌/◌, ◌^◌, Bool, cond, ◌&&◌, List, map, eqb, leb, length}
use Rattle.space.specs.Lists.{tabulate}
use Rattle.octets.specs.Octets.{numbers, flat, over}
use Rattle.rows.specs.Rows.{shape, row_bytes, payload}
use Rattle.basis.specs.Algorithm2.{pass}
use Rattle.entering.specs.Enter.{slot_bytes}

-- The slots' numbers, of the first w bytes of each: what stands behind a row in a slot makes no difference.
abbrev pub slots_in : ℕ → List ℕ → List ℕ
slots_in w slots = map (λ x. x / 2 ^ (8 * (80 - w))) (numbers 80 64 slots)

-- Symbol k is what a pass leaves in the payload of the row (2^k, 0).
unfoldable pub symbol_in : ℕ → List ℕ → ℕ → ℕ
symbol_in l slots k = payload l (pass (8 * l) slots (2 ^ k * 2 ^ (8 * l))).vector

-- The n of them.
unfoldable pub page_in : ℕ → ℕ → List ℕ → List ℕ
page_in n l slots = tabulate n (symbol_in l slots)

-- The shape is in range, these are slots, and there is room for the page.
unfoldable pub writable : ℕ → ℕ → List ℕ → List ℕ → Bool
writable n l slots page = shape n l && (eqb (length slots) slot_bytes && leb (n * l) (length page))

-- The page afterwards.
unfoldable pub page_after : ℕ → ℕ → List ℕ → List ℕ → List ℕ
page_after n l slots page = cond (writable n l slots page) (over (flat l (page_in n l (slots_in (row_bytes l) slots))) page) page
