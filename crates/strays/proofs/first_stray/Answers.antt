-- `strays::first_stray` meets its contract: the search ends at the first row that strays.
-- Assumes nothing.
use mathlib.Core.Path.{◌≡◌, refl, sym, ap, ◌∙◌}
use native.Mathlib.Omega.{arith}
use Rattle.std.proofs.Common.{rules, tests}
use Rattle.std.specs.Prelude.{Option, Some, None}
use Rattle.std.specs.Option.{option_map}
use Rattle.std.proofs.lemmas.Iterator.{YieldsList-from_range, YieldsList-from_map}
use Rattle.std.proofs.lemmas.Iterator.Search.{find_from_yields_List}
use Rattle.octets.proofs.Runs.{known_below}
use Rattle.places.specs.declared.Arrival.{Arrival}
use Rattle.rows.specs.Rows.{row_count}
use Rattle.strays.specs.Strays.{stray_check}
use Rattle.strays.proofs.Straying.{strays_at, found, strays_over}
use Rattle.strays.proofs.first_stray.Goals as goal

pub returns-then-m-gt-MOST_ROWS : goal.returns-then-m-gt-MOST_ROWS
unfolding stray_check row_count
returns-then-m-gt-MOST_ROWS c =
    let S = c.args in
    sym (strays_over S.n S.l S.list.now (omega (arith, c.count-m.ensures, c.if-m-gt-MOST_ROWS.true)))

-- each arrival as it is
same : (r : Option Arrival) → option_map (λ a. a) r ≡ r
same (Some a) = refl
same None = refl

pub returns : goal.returns
unfolding row_count
returns c =
    let S = c.args in
    let m = c.count-m.result in
    ap stray_check (sym (same c.find.result)
    ∙ find_from_yields_List (strays_at S.n S.l S.list.now) _ _ _ c.find.ensures.ran
    (YieldsList-from_map _ (λ i. record { 0 = i }) (YieldsList-from_range _ _ m c.map.ensures.source (omega arith)) c.map.ensures.closure (λ x r q k. search (rules, tests))) (λ x b q k. search (rules, tests)))
    ∙ found S.n S.l S.list.now (known_below S.list.now c.type_inv.list) (omega (arith, c.count-m.ensures, c.if-m-gt-MOST_ROWS.false)) m c.count-m.ensures
