-- Tests one after the other, each with the answer that refuses.
-- Assumes nothing.
use mathlib.Core.Path.{◌≡◌, refl, sym, ◌∙◌}
use mathlib.Core.Bool.{Bool, true, false, cond, false≢true}

-- an answer that is right came past a test whose refusal is not
pub passes : {A : Type 0} (right : A → Bool) (b : Bool) (refusal rest : A) → right refusal ≡ false → right (cond b refusal rest) ≡ true
    → (b ≡ false) × (right rest ≡ true)
passes right true refusal rest wrong e = absurd (false≢true (sym wrong ∙ e))
passes right false refusal rest wrong e = (refl, e)

-- what holds of either answer of a test holds of the one given
pub either : {A : Type 0} (P : A → Type 0) (b : Bool) (x y : A) → (b ≡ true → P x) → (b ≡ false → P y) → P (cond b x y)
either P true x y px py = px refl
either P false x y px py = py refl
