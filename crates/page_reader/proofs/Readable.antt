-- What a scan keeps of its sheet is that it can be read.
-- Assumes nothing.
use mathlib.Core.Path.{◌≡◌, refl}
use mathlib.Core.Bool.{true}
use Rattle.std.specs.Prelude.{Option, Some, None}
use Rattle.std.specs.Option.{ForSome}
use Prim.Native.Nat.{◌≤◌}
use Rattle.rows.specs.Rows.{shape}
use Rattle.lines.specs.declared.Page.{Page}
use Rattle.lines.specs.declared.Sheet.{Sheet}
use Rattle.lines.specs.Readable.{InShape, Readable}

abbrev pub Shaped : Option Page → Type 0
Shaped expected = ForSome expected (λ page. shape page.n page.l ≡ true)

pub kept_shape : (expected : Option Page) → InShape expected → Shaped expected
kept_shape expected h page e = rw e at h

in_shape : (expected : Option Page) → Shaped expected → InShape expected
in_shape (Some page) h = h page refl
in_shape None h = tt

pub readable : (sheet : Sheet) → sheet.rows ≤ 512 → Shaped sheet.expected → Readable sheet
readable sheet few shaped = record { few = few; shaped = in_shape sheet.expected shaped }
