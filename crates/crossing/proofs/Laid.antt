-- Frames laid one after the other make the list of their entries; what laying refuses changes nothing.
-- Assumes nothing.
use mathlib.Core.Path.{◌≡◌, refl, sym, ap, ◌∙◌}
use Prim.Native.Nat.{ℕ, suc, ◌+◌, ◌*◌, ◌≤◌, ◌<◌}
use native.Mathlib.Nat.{mul-suc, mul-le-mul_left}
use native.Mathlib.Omega.{arith}
use mathlib.Core.Bool.{true}
use mathlib.Core.List.{List, [], ◌∷◌, ◌++◌, map, append-nil}
use lib.ListN.{length, take, drop, length-append}
use lib.Seq.{append_snoc, length-take-le, take-append-add, take_at}
use Rattle.octets.specs.Octets.{bytes, flat, lay}
use Rattle.octets.proofs.Numbers.{length-bytes}
use Rattle.octets.proofs.Runs.{flat_append}
use Rattle.octets.proofs.Lay.{length-lay}
use Rattle.rows.specs.Rows.{shape, list_row_bytes}
use Rattle.frame.specs.declared.Frame.TheVariants as frames
use Rattle.std.proofs.Common.{Ok}
use Rattle.frame.specs.Reading.{reading}
use Rattle.laying.specs.Laying.{laid, number_of, list_after, frame_entry}
use Rattle.laying.proofs.Laying.{laid-placing, placing-row}
use Rattle.crossing.specs.Held.{Held, offered, offered_all, list_held, list_laid, blank}
use Rattle.crossing.proofs.Refused.{refused-offered}
use Rattle.crossing.specs.Caught.{Caught, own, other, frames_of, own_of, Mixed}

-- the front of a list, up to a part that is laid there
take-laid : (at : ℕ) (new old : List ℕ) → at ≤ length old → take (at + length new) (lay at new old) ≡ take at old ++ new
unfolding lay
take-laid at new old h =
    let size : length (take at old) ≡ at = length-take-le at old h in
    ap (λ (k : ℕ). take (k + length new) (take at old ++ (new ++ drop (length new) (drop at old)))) (sym size)
    ∙ take-append-add (take at old) (new ++ drop (length new) (drop at old)) (length new)
    ∙ ap (λ (t : List ℕ). take at old ++ t) (take_at new (drop (length new) (drop at old)) (length new) refl)

-- ---- what a sheet holds, in a list with room for so many rows

pub record Holds (l total : ℕ) (entries : List ℕ) (s : Held) : Type 0 where
  pub many : s.rows ≡ length entries
  pub list : list_held l s ≡ flat (list_row_bytes l) entries
  pub room : list_row_bytes l * total ≤ length s.list

blank-holds : (l total : ℕ) (list : List ℕ) → list_row_bytes l * total ≤ length list → Holds l total [] (blank list)
unfolding list_held flat
blank-holds l total list h = let zero : (list_row_bytes l) * 0 ≡ 0 = omega arith in record { many = refl; list = rw zero; room = h }

-- the next row has its place
next-inside : (l total : ℕ) (entries : List ℕ) (s : Held) → Holds l total entries s → length entries < total → list_row_bytes l * s.rows + list_row_bytes l ≤ length s.list
next-inside l total entries s h less =
    let fewer : s.rows < total = omega (arith, h.many) in
    omega (arith, mul-le-mul_left (list_row_bytes l) fewer, mul-suc (list_row_bytes l) s.rows, h.room)

-- ---- frames of the page

-- something of each of a list
abbrev pub Each : {A : Type 0} → (A → Type 0) → List A → Type 0
Each Right [] = Unit {0}
Each Right (a ∷ rest) = Right a × Each Right rest

pub own-each : {A : Type 0} (number n l : ℕ) (Right : A → Type 0) (caught : List (Caught A)) → Mixed number n l Right caught → Each Right (own_of caught)
unfolding own_of
own-each number n l Right [] m = tt
own-each number n l Right (own a ∷ caught) m = (m.0, own-each number n l Right caught m.1)
own-each number n l Right (other frame ∷ caught) m = own-each number n l Right caught m.1

module _ (number n l : ℕ) where
  -- a frame of the page, read right: its entry is x
  pub record Own (frame : List ℕ) (x : ℕ) : Type 0 where
    pub seed : ℕ
    pub reads : reading frame ≡ frames.Good number n l seed
    pub entry : frame_entry frame ≡ bytes (list_row_bytes l) x

  -- what was caught, with the entry that each of the page's own frames has
  module _ {A : Type 0} (make : A → List ℕ) (entry : A → ℕ) (Right : A → Type 0) (owns : (a : A) → Right a → Own (make a) (entry a)) (shaped : shape n l ≡ true) (total : ℕ) (most : total ≤ 512) where
    own-laid : (frame : List ℕ) (x : ℕ) → Own frame x → (entries : List ℕ) (s : Held) → Holds l total entries s → length entries < total
        → offered number n l frame s ≡ record { list = lay (list_row_bytes l * s.rows) (bytes (list_row_bytes l) x) s.list; rows = suc s.rows }
    unfolding offered
    own-laid frame x o entries s h less = rw placed (rw o.entry (unfold list_after number_of in refl))
      where
        placed : laid frame number n l s.rows s.list ≡ Ok tt
        placed = laid-placing frame number n l s.rows s.list shaped number n l o.seed o.reads refl refl refl ∙ placing-row l s.rows s.list (omega (arith, h.many)) (next-inside l total entries s h less)

    own-holds : (frame : List ℕ) (x : ℕ) → Own frame x → (entries : List ℕ) (s : Held) → Holds l total entries s → length entries < total → Holds l total (entries ++ (x ∷ [])) (offered number n l frame s)
    own-holds frame x o entries s h less =
        rw (own-laid frame x o entries s h less)
        (record {
          many = omega (arith, h.many, length-append entries (x ∷ []));
          list = unfold list_held in longer;
          room = rw (length-lay (list_row_bytes l * s.rows) (bytes (list_row_bytes l) x) s.list (omega (arith, inside, length-bytes (list_row_bytes l) x))) h.room;
        })
      where
        inside : list_row_bytes l * s.rows + list_row_bytes l ≤ length s.list
        inside = next-inside l total entries s h less

        next : list_row_bytes l * suc s.rows ≡ list_row_bytes l * s.rows + length (bytes (list_row_bytes l) x)
        next = omega (arith, mul-suc (list_row_bytes l) s.rows, length-bytes (list_row_bytes l) x)

        last : flat (list_row_bytes l) entries ++ flat (list_row_bytes l) (x ∷ []) ≡ flat (list_row_bytes l) entries ++ bytes (list_row_bytes l) x
        last = unfold flat in ap (λ (t : List ℕ). flat (list_row_bytes l) entries ++ t) (append-nil (bytes (list_row_bytes l) x))

        so_far : take (list_row_bytes l * s.rows) s.list ≡ flat (list_row_bytes l) entries
        so_far = unfold list_held in h.list

        longer : take (list_row_bytes l * suc s.rows) (lay (list_row_bytes l * s.rows) (bytes (list_row_bytes l) x) s.list) ≡ flat (list_row_bytes l) (entries ++ (x ∷ []))
        longer =
            rw next (take-laid (list_row_bytes l * s.rows) (bytes (list_row_bytes l) x) s.list (omega (arith, inside))
            ∙ ap (λ (t : List ℕ). t ++ bytes (list_row_bytes l) x) so_far ∙ sym (flat_append (list_row_bytes l) entries (x ∷ []) ∙ last))

    caught_holds : (caught : List (Caught A)) → Mixed number n l Right caught → (entries : List ℕ) (s : Held) → Holds l total entries s → length entries + length (own_of caught) ≤ total
        → Holds l total (entries ++ map entry (own_of caught)) (offered_all number n l (frames_of make caught) s)
    unfolding offered_all frames_of own_of
    caught_holds [] m entries s h fit = rw (append-nil entries) h
    caught_holds (own a ∷ caught) m entries s h fit =
        rw (append_snoc entries (entry a) (map entry (own_of caught))) at (caught_holds caught m.1 (entries ++ (entry a ∷ [])) (offered number n l (make a) s)
        (own-holds (make a) (entry a) (owns a m.0) entries s h (omega arith)) (omega (arith, length-append entries (entry a ∷ []))))
    caught_holds (other frame ∷ caught) m entries s h fit = caught_holds caught m.1 entries (offered number n l frame s) (rw (refused-offered number n l frame m.0 s) h) fit

  -- so the list that is read has the entries of the page's own frames, in order, and no others
  pub caught_list : {A : Type 0} (make : A → List ℕ) (entry : A → ℕ) (Right : A → Type 0) → ((a : A) → Right a → Own (make a) (entry a)) → shape n l ≡ true
      → (caught : List (Caught A)) → Mixed number n l Right caught → length (own_of caught) ≤ 512 → (list : List ℕ) → list_row_bytes l * length (own_of caught) ≤ length list
      → list_laid number n l (frames_of make caught) list ≡ flat (list_row_bytes l) (map entry (own_of caught))
  unfolding list_laid
  caught_list make entry Right owns shaped caught m most list room =
      (caught_holds make entry Right owns shaped (length (own_of caught)) most caught m [] (blank list) (blank-holds l (length (own_of caught)) list room) (omega arith)).list
