-- What lines leave, from a blank sheet on.
use Rattle.std.specs.Prelude.{◌≤◌, ◌≡◌, true, Option, IfSome}
use Rattle.rows.specs.Rows.{shape}
use Rattle.lines.specs.declared.Page.{Page}
use Rattle.lines.specs.declared.Sheet.{Sheet}

-- The expected page, if there is one, is in shape.
abbrev pub InShape : Option Page → Type 0
InShape expected = IfSome expected (λ page. shape page.n page.l ≡ true)

-- A sheet that can be read: at most 512 rows, of a page in shape.
pub record Readable (sheet : Sheet) : Type 0 where
  pub few : sheet.rows ≤ 512
  pub shaped : InShape sheet.expected
