-- How the page is found, for the private steps alone: the rows with role 2 go into cleared slots, and the slots give the page.
use Rattle.std.specs.Prelude.{ℕ, cond, List, replicate}
use Rattle.entering.specs.Enter.{slot_bytes}
use Rattle.filling.specs.Fill.{Filled, fill_of}
use Rattle.page_of_slots.specs.Symbols.{page_after}

-- The rows with role 2 in cleared slots.
abbrev pub told : ℕ → List ℕ → List ℕ → Filled
told l list roles = fill_of l list roles (replicate slot_bytes 0)

-- The page afterwards: written where all went in.
abbrev pub page_told : ℕ → ℕ → List ℕ → List ℕ → List ℕ → List ℕ
page_told n l list roles page = cond (told l list roles).all (page_after n l (told l list roles).slots page) page
