-- Document 01's sentences on a line, each as a law: what a bad line, a refused frame and a good frame give after what came before.
-- Assumes nothing.
use mathlib.Core.Path.{◌≡◌, refl, sym, ap, ◌∙◌}
use Prim.Native.Nat.{ℕ, ◌+◌, ◌*◌, ◌≤◌, ◌<◌}
use mathlib.Core.Bool.{true, false}
use mathlib.Core.List.{List}
use lib.ListN.{length}
use Rattle.octets.specs.Octets.{lay}
use Rattle.rows.specs.Rows.{shape, list_row_bytes}
use Rattle.frame.specs.declared.Frame.TheVariants as frames
use Rattle.laying.specs.declared.Refusal.{Refusal}
use Rattle.laying.specs.declared.Refusal.TheVariants as refused
use Rattle.frame.specs.Reading.{reading}
use Rattle.frame.specs.Numbers.{number_of, is_good, place_of}
use Rattle.laying.specs.Laying as laying
use Rattle.frame.proofs.Good.{good-shaped}
use Rattle.laying.proofs.Laying.{placing_full, placing-row, laid-other, laid-placing}
use Rattle.lines.specs.declared.Page.{Page}
use Rattle.lines.specs.declared.Sheet.{Sheet}
use Rattle.std.proofs.Common.{Result, Ok, Err, None, Some}
use Rattle.text.specs.Hex.{pairs, bad}
use Rattle.lines.specs.Taking.{refusal, taken_as, result, expecting, rows_after, lay_on, take_line}
use Rattle.lines.proofs.Takes.{result-refused, frame_refused, frame-good, line_bad, line_good}

module _ (line : List ℕ) (sheet : Sheet) (list : List ℕ) where
  -- "A line of odd length, over 256 characters, or with another character .. is 17 at 0."
  pub gives_17 : bad line ≡ true → take_line line sheet list ≡ taken_as (refusal 17 0) sheet list
  gives_17 e = sym (line_bad line sheet list e)

  module _ (fair : bad line ≡ false) where
    -- The frame's refusals, whatever page was expected.
    pub gives_refusal : is_good (reading (pairs line)) ≡ false → take_line line sheet list ≡ taken_as (refusal (number_of (reading (pairs line))) (place_of (reading (pairs line)))) sheet list
    gives_refusal g = sym (frame_refused (pairs line) sheet list (reading (pairs line)) refl g _ (sym (result-refused _ _ g)) ∙ line_good line sheet list fair)

    module _ (p n l seed : ℕ) (good : reading (pairs line) ≡ frames.Good p n l seed) where
      on : (page : Page) → page ≡ expecting sheet.expected (record { number = p; n = n; l = l }) → take_line line sheet list ≡ lay_on page (pairs line) sheet.rows list
      on page e = sym (frame-good (pairs line) sheet list p n l seed good page e ∙ line_good line sheet list fair)

      laid_as : (page : Page) → page ≡ expecting sheet.expected (record { number = p; n = n; l = l }) → (answer : Result Unit Refusal)
          → laying.laid (pairs line) page.number page.n page.l sheet.rows list ≡ answer
          → take_line line sheet list
          ≡ taken_as (result (laying.number_of answer) (laying.place_of answer))
          (record { expected = Some page; rows = rows_after (result (laying.number_of answer) (laying.place_of answer)) sheet.rows })
          (laying.list_after answer (list_row_bytes page.l * sheet.rows) (laying.frame_entry (pairs line)) list)
      unfolding lay_on
      laid_as page e answer a = on page e ∙ rw a

      -- "The first good frame sets the expected page number, n and L", and its row is laid.
      module _ (fresh : sheet.expected ≡ None) (few : sheet.rows ≤ 511) (room : list_row_bytes l * sheet.rows + list_row_bytes l ≤ length list) where
        pub first_good : take_line line sheet list
            ≡ taken_as (Ok tt) (record { expected = Some (record { number = p; n = n; l = l }); rows = sheet.rows + 1 }) (lay (list_row_bytes l * sheet.rows) (laying.frame_entry (pairs line)) list)
        unfolding expecting laying.number_of laying.place_of laying.list_after result rows_after
        first_good =
            laid_as (record { number = p; n = n; l = l }) (rw fresh) (Ok tt)
            (laid-placing (pairs line) p n l sheet.rows list (good-shaped (pairs line) p n l seed good) p n l seed good refl refl refl ∙ placing-row l sheet.rows list few room)

      -- Later ones are held to it.
      module _ (page : Page) (set : sheet.expected ≡ Some page) (s : shape page.n page.l ≡ true) where
        expected : page ≡ expecting sheet.expected (record { number = p; n = n; l = l })
        unfolding expecting
        expected = rw set

        same : record { expected = Some page; rows = sheet.rows } ≡ sheet
        same = λ i. record { expected = sym set i; rows = sheet.rows }

        -- "A good frame of another page is 16 at 0".
        pub gives_16 : laying.same_page (frames.Good p n l seed) page.number page.n page.l ≡ false → take_line line sheet list ≡ taken_as (refusal 16 0) sheet list
        unfolding laying.number_of laying.place_of laying.list_after result rows_after
        gives_16 o =
            laid_as page expected (Err refused.OtherPage) (laid-other (pairs line) page.number page.n page.l sheet.rows list s p n l seed good o)
            ∙ ap (λ t. taken_as (refusal 16 0) t list) same

        module _ (is-p : p ≡ page.number) (is-n : n ≡ page.n) (is-l : l ≡ page.l) where
          placed : laying.laid (pairs line) page.number page.n page.l sheet.rows list ≡ laying.placing page.l sheet.rows list
          placed = laid-placing (pairs line) page.number page.n page.l sheet.rows list s p n l seed good is-p is-n is-l

          -- "a 513th row is 2 at 0."
          pub gives_2 : 511 < sheet.rows → take_line line sheet list ≡ taken_as (refusal 2 0) sheet list
          unfolding laying.number_of laying.place_of laying.list_after result rows_after
          gives_2 h = laid_as page expected (Err refused.Full) (placed ∙ placing_full page.l sheet.rows list h) ∙ ap (λ t. taken_as (refusal 2 0) t list) same

          pub gives_row : sheet.rows ≤ 511 → list_row_bytes page.l * sheet.rows + list_row_bytes page.l ≤ length list
              → take_line line sheet list
              ≡ taken_as (Ok tt) (record { expected = Some page; rows = sheet.rows + 1 }) (lay (list_row_bytes page.l * sheet.rows) (laying.frame_entry (pairs line)) list)
          unfolding laying.number_of laying.place_of laying.list_after result rows_after
          gives_row few room = laid_as page expected (Ok tt) (placed ∙ placing-row page.l sheet.rows list few room)
