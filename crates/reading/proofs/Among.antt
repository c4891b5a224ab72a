-- What `among` says: a number is among others exactly when it stands there.
-- Assumes nothing.
use mathlib.Core.Path.{◌≡◌, refl}
use Prim.Native.Nat.{ℕ}
use mathlib.Core.Bool.{Bool, true, false, ◌||◌, false≢true}
use mathlib.Core.List.{List, [], ◌∷◌, ◌++◌, Memᴰ}
use lib.Dec.{eqb}
use borrow.Author.Tests.{eqb-true, eq-eqb}
use Rattle.reading.specs.Orders.{among}

pub among_mem : (ds : List ℕ) (e : ℕ) → among ds e ≡ true → Memᴰ e ds
unfolding among
among_mem [] e h = absurd (false≢true h)
among_mem (d ∷ ds) e h = go (eqb e d) refl h (among_mem ds e)
  where
    go : (b : Bool) → eqb e d ≡ b → (b || among ds e) ≡ true → (among ds e ≡ true → Memᴰ e ds) → Memᴰ e (d ∷ ds)
    go true p h ih = Memᴰ.head (eqb-true e d p)
    go false p h ih = Memᴰ.tail (ih h)

pub mem_among : {e : ℕ} {ds : List ℕ} → Memᴰ e ds → among ds e ≡ true
unfolding among
mem_among {e = e} (Memᴰ.head {x = d} p) = rw (eq-eqb e d p)
mem_among {e = e} (Memᴰ.tail {x = d} {xs = ds} m) = go (eqb e d) (mem_among m)
  where
    go : (b : Bool) → among ds e ≡ true → (b || among ds e) ≡ true
    go true h = refl
    go false h = h

pub among-append : (ds es : List ℕ) (x : ℕ) → among (ds ++ es) x ≡ (among ds x || among es x)
unfolding among
among-append [] es x = refl
among-append (d ∷ ds) es x = rw (among-append ds es x) (go (eqb x d))
  where
    go : (b : Bool) → (b || (among ds x || among es x)) ≡ ((b || among ds x) || among es x)
    go true = refl
    go false = refl
