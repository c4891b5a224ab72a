-- What a part laid into a buffer does to the numbers read from it, and to a run of single bytes.
-- Assumes nothing.
use mathlib.Core.Path.{◌≡◌, sym, ap, ap₂, ◌∙◌}
use mathlib.Core.List.{List, [], ◌∷◌, ◌++◌}
use Prim.Native.Nat.{ℕ, zero, suc, ◌+◌, ◌*◌, ◌≤◌, ◌<◌}
use native.Mathlib.Nat.{zero-mul, mul-le-mul_right}
use native.Mathlib.Omega.{arith}
use lib.ListN.{length, take, drop, set, length-drop}
use lib.Seq.{drop_at, take_at, set_at, drop-drop, length-take-le, take-append-add}
use Rattle.octets.specs.Octets.{number, numbers, over, lay}
use Rattle.octets.proofs.Lay.{lay_zero, lay-drop, take-before}
use Rattle.octets.proofs.Runs.{length-numbers}
use Rattle.octets.proofs.Views.{numbers-take}

-- what is laid behind a
pub drop-lay : (a b : ℕ) (new old : List ℕ) → a ≤ length old → drop a (lay (a + b) new old) ≡ lay b new (drop a old)
drop-lay a b new old h = ap (drop a) (lay-drop a b new old) ∙ drop_at (take a old) (lay b new (drop a old)) a (length-take-le a old h)

-- ---- numbers

-- those before what is laid stay
pub numbers-before : (w n at : ℕ) (new old : List ℕ) → n * w ≤ at → at ≤ length old → numbers w n (lay at new old) ≡ numbers w n old
numbers-before w n at new old h l =
    sym (numbers-take w n at (lay at new old) h) ∙ ap (numbers w n) (take-before at at new old (omega arith) l) ∙ numbers-take w n at old h

-- and one of as many bytes takes its place
pub numbers-lay : (w n j : ℕ) (new old : List ℕ) → length new ≡ w → j < n → n * w ≤ length old → numbers w n (lay (j * w) new old) ≡ set (numbers w n old) j (number new)
unfolding numbers
numbers-lay w zero j new old e h l = absurd (omega arith)
numbers-lay w (suc n) zero new old e h l =
    rw (zero-mul w) (rw (lay_zero new old) (unfold over in
    ap₂ (λ (a b : List ℕ). number a ∷ numbers w n b) (take_at new (drop (length new) old) w e) (drop_at new (drop (length new) old) w e ∙ ap (λ (k : ℕ). drop k old) e)))
numbers-lay w (suc n) (suc j) new old e h l =
    let s : suc j * w ≡ w + j * w = omega arith in
    let room : w ≤ length old = omega arith in
    rw s (ap₂ (λ (a b : List ℕ). number a ∷ numbers w n b) (take-before w (w + j * w) new old (omega arith) fits) (drop-lay w (j * w) new old room)
    ∙ ap (λ (t : List ℕ). number (take w old) ∷ t) (numbers-lay w n j new (drop w old) e (omega arith) (omega (arith, length-drop w old))))
  where
    fits : w + j * w ≤ length old
    fits = omega (arith, mul-le-mul_right w h)

pub numbers-snoc : (w n : ℕ) (bs : List ℕ) → numbers w (suc n) bs ≡ numbers w n bs ++ (number (take w (drop (n * w) bs)) ∷ [])
unfolding numbers
numbers-snoc w zero bs = rw (zero-mul w)
numbers-snoc w (suc n) bs =
    let e : w + n * w ≡ suc n * w = omega arith in
    ap (λ (t : List ℕ). number (take w bs) ∷ t) (numbers-snoc w n (drop w bs)
    ∙ ap (λ (k : List ℕ). numbers w n (drop w bs) ++ (number (take w k) ∷ [])) (drop-drop (n * w) w bs ∙ ap (λ (k : ℕ). drop k bs) e))

-- one number more, at the end
pub numbers_more : (w n : ℕ) (new old : List ℕ) → length new ≡ w → suc n * w ≤ length old → numbers w (suc n) (lay (n * w) new old) ≡ numbers w n old ++ (number new ∷ [])
numbers_more w n new old e h =
    numbers-lay w (suc n) n new old e (omega arith) h ∙ ap (λ (l : List ℕ). set l n (number new)) (numbers-snoc w n old)
    ∙ set_at (numbers w n old) _ [] (number new) n (length-numbers w n old)

-- ---- single bytes

pub take_more : (m x : ℕ) (old : List ℕ) → m < length old → take (suc m) (lay m (x ∷ []) old) ≡ take m old ++ (x ∷ [])
unfolding lay
take_more m x old h =
    let n : length (take m old) ≡ m = length-take-le m old (omega arith) in
    let e : suc m ≡ length (take m old) + 1 = omega arith in
    ap (λ (k : ℕ). take k (take m old ++ (x ∷ drop 1 (drop m old)))) e ∙ take-append-add (take m old) (x ∷ drop 1 (drop m old)) 1
