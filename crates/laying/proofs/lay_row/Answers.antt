-- `laying::lay_row` meets its contract: the entry comes back laid at its place.
-- Assumes nothing.
use Rattle.std.proofs.Common.{◌≡◌, ℕ, ◌+◌, ◌-◌, ◌*◌, ◌++◌, length, length-append, ap, ◌∙◌, arith}
use Rattle.octets.specs.Octets.{bytes, lay}
use Rattle.octets.proofs.Numbers.{length-bytes}
use Rattle.octets.proofs.Parts.{back}
use Rattle.rows.proofs.Shape.{shape_range}
use Rattle.draw.specs.Draw.{constraint}
use Rattle.draw.proofs.Inside.{is_drawn}
use Rattle.frame.specs.Numbers.{payload_of}
use Rattle.laying.specs.Laying.{list_after}
use Rattle.laying.proofs.lay_row.Goals as goal

pub returns-clause-list : goal.returns-clause-list
unfolding list_after
returns-clause-list c =
    let a = c.args in
    let range = shape_range a.n a.l c.requires.in_shape in
    let drawn : c.unwrap-constraint.result ≡ constraint a.n a.seed = grind (arith, is_drawn a.n a.seed range.n_low range.n_high, c.draw.ensures, c.unwrap-constraint.ensures) in
    let payload = payload_of a.frame.now in
    let row = bytes 8 (constraint a.n a.seed) ++ payload in
    let entry = bytes 4 a.seed ++ row in
    let put : c.put_entry.new.entry ≡ entry = rw (drawn, c.payload.ensures.shows) at c.put_entry.ensures in
    let size = c.stride-size.result in
    let at = size * a.arrival.0 in
    let long : length entry ≡ at + size - at =
    length-append (bytes 4 a.seed) row ∙ omega (arith, length-append (bytes 8 (constraint a.n a.seed)) payload, length-bytes 4 a.seed, length-bytes 8 (constraint a.n a.seed), c.requires.payload_long, c.stride-size.ensures) in
    rw put (back at _ entry a.list.now long ∙ ap (λ (k : ℕ). lay (k * a.arrival.0) entry a.list.now) c.stride-size.ensures)
