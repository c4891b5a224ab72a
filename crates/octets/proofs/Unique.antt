-- The one law of uniqueness: where each outcome that a contract allows is one and the same, any two that it allows are equal.
-- Assumes nothing.
use mathlib.Core.Path.{◌≡◌, sym, ap, ap₂, ◌∙◌}
use Rattle.octets.specs.Settles.{Unique}

pub unique : {O : Type 0} {allowed : O → Type 0} {one : O} → ((o : O) → allowed o → o ≡ one) → Unique allowed
unique is x y p q = is x p ∙ sym (is y q)

-- an answer, and a buffer that the answer decides
pub decided : {A B C : Type 0} (join : A → B → C) (after : A → B) {a b : A} {v : B} → a ≡ b → v ≡ after a → join a v ≡ join b (after b)
decided join after e h = ap₂ join e (h ∙ ap after e)
