-- `agreement` meets its contract: the places whose rows agree are counted.
-- Assumes nothing.
use mathlib.Core.Path.{◌∙◌}
use Prim.Native.Nat.{◌/◌}
use native.Mathlib.Omega.{arith}
use lib.ListN.{length}
use Rattle.std.proofs.Common.{rules, tests}
use Rattle.std.proofs.lemmas.Iterator.{YieldsList-from_range}
use Rattle.std.proofs.lemmas.Iterator.Consumers.{YieldsList-from_filter, count_from_yields_List}
use Rattle.doubles.specs.Doubles.{pair_at}
use Rattle.doubles.proofs.Counted.{counted_pairs}
use Rattle.rows.specs.Bytes.{bytes_agree}
use Rattle.lists.specs.Lists.{row_at}
use Rattle.agreement.specs.Agreement.{agreement_of}
use Rattle.agreement.proofs.agreement.Goals as goal

pub returns : goal.returns
unfolding agreement_of
returns c =
    let A = c.args in
    count_from_yields_List _ c.count.result c.count.ensures.ran
    (YieldsList-from_filter _ (λ i. bytes_agree A.page.now (row_at A.l (pair_at i A.order.now) A.list.now)) (YieldsList-from_range _ _ (length A.order.now / 2) c.filter.ensures.source (omega arith)) c.filter.ensures.closure (λ x r q k. search (rules, tests)))
    ∙ counted_pairs (λ a. bytes_agree A.page.now (row_at A.l a A.list.now)) A.order.now
