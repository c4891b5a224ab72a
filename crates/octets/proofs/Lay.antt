-- A part of a buffer written: what was laid is there, and nothing on either side changes.
-- Assumes nothing.
use mathlib.Core.Path.{◌≡◌, refl, sym, ap, ap₂, ◌∙◌}
use mathlib.Core.List.{List, ◌++◌, append_assoc, append-nil}
use Prim.Native.Nat.{ℕ, ◌+◌, ◌-◌, ◌≤◌}
use native.Mathlib.Nat.{le_refl}
use native.Mathlib.Omega.{arith}
use lib.ListN.{length, take, drop, length-append, length-take, length-drop, take-append-drop}
use lib.Seq.{take_all, take-append-le, take-take, take_at, drop_at, drop-drop, drop-append-add, drop-append-le, drop-length, length-take-le, take-add}
use Rattle.octets.specs.Octets.{lay, over}
use Rattle.octets.proofs.Runs.{over-over, take-over}

-- ---- over the front

pub over-all : (new old : List ℕ) → length new ≡ length old → over new old ≡ new
unfolding over
over-all new old e = rw (e, drop-length old) (append-nil new)

-- the whole of it
pub copied : (k : ℕ) (new old : List ℕ) → length new ≡ k → length old ≡ k → over (take (length old) new) old ≡ new
copied k new old e f = ap (λ (l : List ℕ). over l old) (take_all (length old) new (omega arith)) ∙ over-all new old (e ∙ sym f)

pub drop-over : (k : ℕ) (new old : List ℕ) → length new ≤ k → drop k (over new old) ≡ drop k old
unfolding over
drop-over k new old h =
    let sum : length new + (k - length new) ≡ k = omega arith in
    ap (λ (j : ℕ). drop j (over new old)) (sym sum) ∙ drop-append-add new (drop (length new) old) (k - length new)
    ∙ drop-drop (k - length new) (length new) old ∙ ap (λ (j : ℕ). drop j old) sum

-- ---- from an index on

pub lay_zero : (new old : List ℕ) → lay 0 new old ≡ over new old
unfolding lay over
lay_zero new old = refl

-- laid right behind what was written over the front
pub lay-over : (n : ℕ) (a b old : List ℕ) → length a ≡ n → lay n b (over a old) ≡ over (a ++ b) old
unfolding lay over
lay-over n a b old e =
    rw (take_at a (drop (length a) old) n e) (rw (drop_at a (drop (length a) old) n e)
    (ap (λ t. a ++ (b ++ t)) (drop-drop (length b) (length a) old ∙ ap (λ (j : ℕ). drop j old) (sym (length-append a b)))
    ∙ sym (append_assoc a b (drop (length (a ++ b)) old))))

pub length-lay : (at : ℕ) (new old : List ℕ) → at + length new ≤ length old → length (lay at new old) ≡ length old
unfolding lay
length-lay at new old h = simp (length-append, length-take, length-drop) (omega arith)

-- nothing in front of it changes
pub take-before : (n at : ℕ) (new old : List ℕ) → n ≤ at → at ≤ length old → take n (lay at new old) ≡ take n old
unfolding lay over
take-before n at new old h k =
    let within : n ≤ length (take at old) = rw (length-take-le at old k) h in
    rw (take-append-le n (take at old) (over new (drop at old)) within) (take-take n at old h)

drop-lay : (at : ℕ) (new old : List ℕ) → at ≤ length old → drop at (lay at new old) ≡ over new (drop at old)
unfolding lay over
drop-lay at new old h = drop_at (take at old) (over new (drop at old)) at (length-take-le at old h)

-- nothing behind it changes
pub drop-after : (a at : ℕ) (new old : List ℕ) → at + length new ≤ a → at ≤ length old → drop a (lay at new old) ≡ drop a old
drop-after a at new old h k =
    let sum : at + (a - at) ≡ a = omega arith in
    let behind : (l : List ℕ) → drop a l ≡ drop (a - at) (drop at l) = λ l. sym (drop-drop (a - at) at l ∙ ap (λ (j : ℕ). drop j l) sum) in
    behind (lay at new old) ∙ rw (drop-lay at new old k) (drop-over (a - at) new (drop at old) (omega arith)) ∙ sym (behind old)

-- what was laid is there
pub part-lay : (at n : ℕ) (new old : List ℕ) → length new ≡ n → at ≤ length old → take n (drop at (lay at new old)) ≡ new
part-lay at n new old e h = rw (drop-lay at new old h) (take-over new (drop at old) n e)

-- a part apart from it is as it was
part-take : (a n : ℕ) (l : List ℕ) → a ≤ length l → take n (drop a l) ≡ drop a (take (a + n) l)
part-take a n l h = sym (rw (take-add a n l) (drop_at (take a l) (take n (drop a l)) a (length-take-le a l h)))

pub part-before : (a n at : ℕ) (new old : List ℕ) → a + n ≤ at → at + length new ≤ length old → take n (drop a (lay at new old)) ≡ take n (drop a old)
part-before a n at new old h k =
    part-take a n (lay at new old) (omega (arith, length-lay at new old k)) ∙ ap (drop a) (take-before (a + n) at new old h (omega arith))
    ∙ sym (part-take a n old (omega arith))

pub part-after : (a n at : ℕ) (new old : List ℕ) → at + length new ≤ a → at ≤ length old → take n (drop a (lay at new old)) ≡ take n (drop a old)
part-after a n at new old h k = ap (take n) (drop-after a at new old h k)

-- a part laid back where it was read
pub lay-part : (at n : ℕ) (old : List ℕ) → at + n ≤ length old → lay at (take n (drop at old)) old ≡ old
unfolding lay
lay-part at n old h =
    let size : length (take n (drop at old)) ≡ n = length-take-le n (drop at old) (simp length-drop (omega arith)) in
    rw size (ap (λ t. take at old ++ t) (take-append-drop n (drop at old)) ∙ take-append-drop at old)

-- of two laid at one place the last stays
pub lay-lay : (at : ℕ) (a b old : List ℕ) → length a ≡ length b → at ≤ length old → lay at a (lay at b old) ≡ lay at a old
unfolding lay over
lay-lay at a b old e h =
    ap₂ (λ s t. s ++ over a t) (take-before at at b old (le_refl at) h) (drop-lay at b old h)
    ∙ ap (λ t. take at old ++ t) (over-over a b (drop at old) e)

-- ---- a part that was lent comes back: what the checker says, `s[..k]` and `s[at..at + k]`

pub over-back : (k : ℕ) (new old : List ℕ) → length new ≡ k → new ++ drop k old ≡ over new old
unfolding over
over-back k new old e = rw e

pub lay-back : (at k : ℕ) (new old : List ℕ) → length new ≡ k → take at old ++ (new ++ drop k (drop at old)) ≡ lay at new old
unfolding lay
lay-back at k new old e = rw e

-- ---- laid into a part of a part

pub lay-drop : (a b : ℕ) (new old : List ℕ) → lay (a + b) new old ≡ take a old ++ lay b new (drop a old)
unfolding lay
lay-drop a b new old =
    rw (take-add a b old) (rw (drop-drop b a old) (append_assoc (take a old) (take b (drop a old)) (new ++ drop (length new) (drop (a + b) old))))

-- over a front that reaches further than what is laid
over-lay : (at k : ℕ) (new old : List ℕ) → at + length new ≤ k → k ≤ length old → over (lay at new (take k old)) old ≡ lay at new old
unfolding over lay
over-lay at k new old h g =
    rw whole (append_assoc (take at (take k old)) (new ++ drop (length new) (drop at (take k old))) (drop k old)
    ∙ ap (λ t. take at (take k old) ++ t) (append_assoc new (drop (length new) (drop at (take k old))) (drop k old))
    ∙ ap₂ (λ s t. s ++ (new ++ t)) (take-take at k old (omega arith)) rest)
  where
    size : length (take k old) ≡ k
    size = length-take-le k old g

    whole : length (lay at new (take k old)) ≡ k
    whole = length-lay at new (take k old) (omega (arith, size)) ∙ size

    rest : drop (length new) (drop at (take k old)) ++ drop k old ≡ drop (length new) (drop at old)
    rest =
        rw (drop-drop (length new) at (take k old)) (rw (drop-drop (length new) at old)
        (sym (drop-append-le (at + length new) (take k old) (drop k old) (omega (arith, size))) ∙ ap (drop (at + length new)) (take-append-drop k old)))

pub lay-within : (a k b : ℕ) (new old : List ℕ) → b + length new ≤ k → a + k ≤ length old → lay a (lay b new (take k (drop a old))) old ≡ lay (a + b) new old
unfolding lay over
lay-within a k b new old h g =
    ap (λ t. take a old ++ t) (over-lay b k new (drop a old) h (simp length-drop (omega arith))) ∙ sym (lay-drop a b new old)
