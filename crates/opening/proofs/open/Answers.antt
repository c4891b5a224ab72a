-- What `open` leaves of a store that it opens: zeros, and the page written over them.
-- Assumes nothing.
use mathlib.Core.Path.{sym, ◌∙◌}
use Rattle.store.specs.Store.{store_bytes}
use Rattle.opening.proofs.Written.{open_opens}
use Rattle.opening.proofs.open.Goals as goal

pub returns-clause-store : goal.returns-clause-store
unfolding store_bytes
returns-clause-store c =
    let A = c.args in
    let first = c.in-Some.ensures.cases in
    open_opens A.page A.n A.l A.store.now c.put_page.new.store c.fill.new.self c.in-Some.whole.now (sym c.shaped.ensures ∙ c.if-not-shaped.false)
    first.enough first.same (c.fill.ensures.after (λ y e. e)) c.put_page.ensures
