-- `choose::reached` meets its contract: the places whose uses reach the least are counted.
-- Assumes nothing.
use mathlib.Core.Path.{◌∙◌}
use Prim.Native.Nat.{◌/◌}
use native.Mathlib.Omega.{arith}
use lib.Dec.{leb}
use lib.ListN.{length}
use Rattle.std.proofs.Common.{rules, tests}
use Rattle.std.proofs.lemmas.Iterator.{YieldsList-from_range}
use Rattle.std.proofs.lemmas.Iterator.Consumers.{YieldsList-from_filter, count_from_yields_List}
use Rattle.doubles.specs.Doubles.{pair_at}
use Rattle.doubles.proofs.Counted.{counted_pairs}
use Rattle.choose.proofs.reached.Goals as goal

pub returns : goal.returns
returns c =
    let counts = c.args.counts.now in
    count_from_yields_List _ c.count.result c.count.ensures.ran
    (YieldsList-from_filter _ (λ i. leb c.args.least (pair_at i counts)) (YieldsList-from_range _ _ (length counts / 2) c.filter.ensures.source (omega arith)) c.filter.ensures.closure (λ x r q k. search (rules, tests)))
    ∙ counted_pairs (leb c.args.least) counts
