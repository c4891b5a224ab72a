-- `mekorvat_offer` meets its contract: the offer decides, and its number and place are told.
-- Assumes nothing.
use mathlib.Core.Path.{ap, ◌∙◌}
use Rattle.boundary_store.specs.Stored.{offer_told}
use Rattle.boundary_store.proofs.mekorvat_offer.Goals as goal

pub returns : goal.returns
returns c =
    let O = c.offer.ensures in record { told = c.offer_told-told.ensures ∙ ap offer_told O.answer; store = O.store }
