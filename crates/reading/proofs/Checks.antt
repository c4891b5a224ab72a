-- What it means that a list passes the checks, and that the checks look at no payload.
-- Assumes nothing.
use mathlib.Core.Path.{◌≡◌, refl}
use Prim.Native.Nat.{ℕ, suc, ◌*◌, ◌/◌, ◌%◌, ◌^◌, ◌≤◌, ◌<◌}
use native.Mathlib.Nat.{div-add-mod', mul-mod_left, mul-div_cancel}
use native.Mathlib.Omega.{arith}
use mathlib.Core.Bool.{Bool, true, false, cond, not, ◌&&◌}
use mathlib.Core.List.{List, [], ◌∷◌, map}
use lib.Dec.{eqb, leb}
use lib.ListN.{length}
use borrow.Author.Tests.{eqb-true, leb-true, leb-false, le-leb, lt-leb}
use Rattle.space.specs.Lists.{Below}
use Rattle.space.proofs.Both.{both}
use Rattle.octets.specs.Octets.{flat}
use Rattle.octets.proofs.Runs.{length-flat}
use Rattle.rows.specs.Rows.{shape, list_row_bytes, row_count, rows_of, constraint}
use Rattle.rows.specs.Shift.{shifted, shifted_list}
use Rattle.rows.proofs.Shifts.{shifted-constraint, row_count-shifted_list, length-shifted_list, rows-shifted_list}
use Rattle.reading.specs.declared.Answer.{Answer}
use Rattle.reading.specs.Outcome.{Lent, Check, passes, refuses, whole_rows, roomy, stray_from, checks, scratch_bytes, whole_length, room_for}

-- ---- one test after the other

refuses≢passes : (a : Answer) → refuses a ≡ passes → ⊥
refuses≢passes a e = let z : ◌≡◌ {A = ℕ} 0 1 = cc in omega arith

first_passes : (b : Bool) (a : Answer) (rest : Check) → cond (not b) (refuses a) rest ≡ passes → b ≡ true
first_passes true a rest e = refl
first_passes false a rest e = absurd (refuses≢passes a e)

rest-passes : (b : Bool) (a : Answer) (rest : Check) → cond (not b) (refuses a) rest ≡ passes → rest ≡ passes
rest-passes true a rest e = e
rest-passes false a rest e = absurd (refuses≢passes a e)

-- ---- what passing says

pub record Passed (n l : ℕ) (list : List ℕ) (lent : Lent) : Type 0 where
  pub shaped : shape n l ≡ true
  pub rows_whole : whole_rows l list ≡ true
  pub roomed : roomy n l (row_count l list) lent ≡ true
  pub clean : stray_from n l 0 (rows_of l list) ≡ passes

pub passed : (n l : ℕ) (list : List ℕ) (lent : Lent) → checks n l list lent ≡ passes → Passed n l list lent
unfolding checks
passed n l list lent e =
    let two : cond (not (whole_rows l list)) _ _ ≡ passes = rest-passes (shape n l) _ _ e in
    let three : cond (not (roomy n l (row_count l list) lent)) _ _ ≡ passes = rest-passes (whole_rows l list) _ _ two in
    record {
      shaped = first_passes (shape n l) _ _ e;
      rows_whole = first_passes (whole_rows l list) _ _ two;
      roomed = first_passes (roomy n l (row_count l list) lent) _ _ three;
      clean = rest-passes (roomy n l (row_count l list) lent) _ _ three;
    }

-- the room that a reading asks for
pub record Fits (n l m : ℕ) (lent : Lent) : Type 0 where
  pub page : n * l ≤ length lent.page
  pub uses : m ≤ length lent.uses
  pub roles : m ≤ length lent.roles
  pub scratch : scratch_bytes ≤ length lent.scratch

pub roomy-fits : (n l m : ℕ) (lent : Lent) → roomy n l m lent ≡ true → Fits n l m lent
unfolding room_for
roomy-fits n l m lent e =
    let page : Bool = leb (n * l) (length lent.page) in
    let uses : Bool = leb m (length lent.uses) in
    let roles : Bool = leb m (length lent.roles) in
    let scratch : Bool = leb scratch_bytes (length lent.scratch) in
    let all = both (page && uses) (roles && scratch) e in
    let front = both page uses all.0 in
    let back = both roles scratch all.1 in
    record {
      page = leb-true (n * l) (length lent.page) front.0;
      uses = leb-true m (length lent.uses) front.1;
      roles = leb-true m (length lent.roles) back.0;
      scratch = leb-true scratch_bytes (length lent.scratch) back.1;
    }

pub fits-roomy : (n l m : ℕ) (lent : Lent) → Fits n l m lent → roomy n l m lent ≡ true
unfolding room_for
fits-roomy n l m lent f =
    rw (le-leb (n * l) (length lent.page) f.page) (rw (le-leb m (length lent.uses) f.uses)
    (rw (le-leb m (length lent.roles) f.roles) (rw (le-leb scratch_bytes (length lent.scratch) f.scratch))))

-- no constraint has a stray bit
pub stray_none : (n l i : ℕ) (rows : List ℕ) → stray_from n l i rows ≡ passes → Below (2 ^ n) (map (constraint l) rows)
unfolding stray_from
stray_none n l i [] e = tt
stray_none n l i (r ∷ rows) e = go _ (leb (2 ^ n) (constraint l r)) refl e (stray_none n l (suc i) rows)
  where
    go : (a : Answer) (b : Bool) → leb (2 ^ n) (constraint l r) ≡ b → cond b (refuses a) (stray_from n l (suc i) rows) ≡ passes
        → (stray_from n l (suc i) rows ≡ passes → Below (2 ^ n) (map (constraint l) rows)) → (constraint l r < 2 ^ n) × Below (2 ^ n) (map (constraint l) rows)
    go a true p q ih = absurd (refuses≢passes a q)
    go a false p q ih = (leb-false (2 ^ n) (constraint l r) p, ih q)

pub none_stray : (n l i : ℕ) (rows : List ℕ) → Below (2 ^ n) (map (constraint l) rows) → stray_from n l i rows ≡ passes
unfolding stray_from
none_stray n l i [] b = refl
none_stray n l i (r ∷ rows) b = rw (lt-leb (2 ^ n) (constraint l r) b.0) (none_stray n l (suc i) rows b.1)

-- a list of whole rows, 512 at most
multiple : (l : ℕ) (list : List ℕ) → whole_rows l list ≡ true → length list % list_row_bytes l ≡ 0
unfolding whole_length
multiple l list e = eqb-true (length list % list_row_bytes l) 0 (both (eqb (length list % list_row_bytes l) 0) (leb (length list / list_row_bytes l) 512) e).0

pub most-512 : (l : ℕ) (list : List ℕ) → whole_rows l list ≡ true → row_count l list ≤ 512
unfolding whole_length row_count
most-512 l list e = leb-true (length list / list_row_bytes l) 512 (both (eqb (length list % list_row_bytes l) 0) (leb (length list / list_row_bytes l) 512) e).1

-- entries laid flat are whole
pub flat-whole : (l : ℕ) (entries : List ℕ) → length entries ≤ 512 → whole_rows l (flat (list_row_bytes l) entries) ≡ true
unfolding whole_length
flat-whole l entries h =
    let wide : 0 < list_row_bytes l = omega arith in
    rw (length-flat (list_row_bytes l) entries) (rw (mul-mod_left (length entries) (list_row_bytes l), mul-div_cancel (length entries) wide) (le-leb (length entries) 512 h))

module _ (n l : ℕ) (list : List ℕ) (lent : Lent) (p : Passed n l list lent) where
  pub inside : Below (2 ^ n) (map (constraint l) (rows_of l list))
  inside = stray_none n l 0 (rows_of l list) p.clean

  pub whole : length list ≡ row_count l list * list_row_bytes l
  unfolding row_count
  whole = omega (arith, div-add-mod' (length list) (list_row_bytes l), multiple l list p.rows_whole)

  pub rows-most : row_count l list ≤ 512
  rows-most = most-512 l list p.rows_whole

-- ---- a page added to each row changes no check

module _ (n l : ℕ) (q : List ℕ) (b : Below (2 ^ (8 * l)) q) where
  stray_from-shifted : (i : ℕ) (rows : List ℕ) → stray_from n l i (map (shifted l q) rows) ≡ stray_from n l i rows
  unfolding stray_from
  stray_from-shifted i [] = refl
  stray_from-shifted i (r ∷ rows) = rw (shifted-constraint l q b r) (rw (stray_from-shifted (suc i) rows))

  pub checks-shifted : (list : List ℕ) (lent : Lent) → Passed n l list lent → Below 256 list → checks n l (shifted_list l q list) lent ≡ checks n l list lent
  unfolding checks whole_length
  checks-shifted list lent p bytes =
      rw (row_count-shifted_list l q b list) (rw (length-shifted_list l q b list (whole n l list lent p))
      (rw (rows-shifted_list l q b list bytes) (rw (stray_from-shifted 0 (rows_of l list)))))
