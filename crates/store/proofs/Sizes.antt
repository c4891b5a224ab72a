-- The numbers of a store's layout, for arithmetic.
-- Assumes nothing.
use mathlib.Core.Path.{◌≡◌, refl}
use Rattle.state.specs.Layout.{state_bytes}
use Rattle.store.specs.Store.{store_bytes, list_at, working_at, list_room}

pub sizes : (store_bytes ≡ 65536) × (list_at ≡ 16) × (working_at ≡ 32768) × (list_room ≡ 32752) × (state_bytes ≡ 31872)
unfolding store_bytes list_at working_at list_room state_bytes
sizes = (refl, refl, refl, refl, refl)
