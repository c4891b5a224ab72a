-- `unit` meets its contract: eight bytes of 2^k, then zeros.
-- Assumes nothing.
use Rattle.std.proofs.Common.{rules}
use mathlib.Core.Path.{◌≡◌, sym, ap, ap₂, ◌∙◌}
use mathlib.Core.List.{◌++◌}
use Prim.Native.Nat.{ℕ, ◌^◌}
use native.Mathlib.Omega.{arith}
use lib.ListN.{length, take, drop, replicate, length-replicate}
use lib.Seq.{length-take-le}
use Rattle.octets.specs.Octets.{bytes}
use Rattle.octets.proofs.Digits.{one_shl}
use Rattle.octets.proofs.Loaded.{drop-zeros}
use Rattle.page_of_slots.proofs.unit.Goals as goal
use Rattle.page_of_slots.proofs.unit.Goals.{After-fill}

zeros : (c : After-fill) → c.fill.new.self ≡ replicate (length c.args.work.now) 0
zeros c = search rules

-- the constraint's bytes
front : (c : After-fill) → length (take 8 c.fill.new.self) ≡ 8
front c = length-take-le 8 c.fill.new.self (omega (arith, ap length (zeros c) ∙ length-replicate {A = ℕ} (length c.args.work.now) 0, c.requires))

pub slice_bounds-put-end-2 : goal.slice_bounds-put-end-2
slice_bounds-put-end-2 c = sym (front (goal.at.slice_bounds-put-end-2 c).After-fill)

pub returns : goal.returns
returns c =
    ap₂ (λ s t. s ++ drop 8 t)
    (c.put.ensures ∙ ap₂ bytes (front (goal.at.returns c).After-fill) (one_shl c.args.k 64 c.requires.bit))
    (zeros (goal.at.returns c).After-fill) ∙ ap (λ t. bytes 8 (2 ^ c.args.k) ++ t) (drop-zeros 8 (length c.args.work.now))
