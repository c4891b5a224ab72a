-- `laying::put_entry` meets its contract: two parts, the head of the entry and the payload, which fills the rest.
-- Assumes nothing.
use Rattle.std.proofs.Common.{◌≡◌, ℕ, ◌-◌, List, length, take, drop, refl, sym, ◌∙◌, append_assoc, arith}
use Rattle.octets.specs.Octets.{bytes}
use Rattle.octets.proofs.Lay.{copied}
use Rattle.octets.proofs.Parts.{rest-long, rest_is}
use Rattle.making.specs.Making.{entry_head}
use Rattle.making.proofs.Making.{length-entry_head, headed-over}
use Rattle.laying.proofs.put_entry.Goals as goal

pub returns : goal.returns
unfolding entry_head
returns c =
    let a = c.args in
    let entry = a.entry.now in
    let payload = a.payload.now in
    let so_far = c.put_head.ensures ∙ headed-over a.seed a.constraint entry (omega (arith, c.requires)) in
    let begun = c.put_head.new.room in
    let left : length (take (length begun - 12) (drop 12 begun)) ≡ length payload =
    rest-long 12 (entry_head a.seed a.constraint) entry begun so_far (length-entry_head a.seed a.constraint) (length payload) (sym c.requires) in
    rest_is 12 (entry_head a.seed a.constraint) entry begun so_far (length-entry_head a.seed a.constraint) payload c.copy.new.into
    (c.copy.ensures ∙ copied (length payload) payload (take (length begun - 12) (drop 12 begun)) refl left) (sym c.requires)
    ∙ append_assoc (bytes 4 a.seed) (bytes 8 a.constraint) payload
