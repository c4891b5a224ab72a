-- Document 01, "Readings worked by hand": K1 to K12, with every field filled in. "L is 1. A row is written (constraint, payload)." Document 02, wish 3:
-- "K1 to K12 are restated with seeds 0, 1, 2 and so on .. K4 with equal seeds on its second and third rows becomes 6."
use Rattle.std.specs.Prelude.{ℕ, suc, ◌+◌, ◌*◌, List, [], ◌∷◌, map}
use Rattle.octets.specs.Octets.{flat, over}
use Rattle.rows.specs.Rows.{list_row_bytes, entered}
use Rattle.reading.specs.declared.Numbers.{Numbers}
use Rattle.reading.specs.Answer.{numbered, answer_numbers}
use Rattle.reading.specs.Outcome.{Lent, Outcome, zeros}

-- n, the rows with their seeds, and what is given: number, rank, place and agreement; then what is written from the front of each lent buffer.
pub record Case : Type 0 where
  pub n : ℕ
  pub rows : List (ℕ × (ℕ × ℕ))
  pub numbers : Numbers
  pub page : List ℕ
  pub uses : List ℕ
  pub roles : List ℕ
  pub scratch : List ℕ

-- Rows with seeds from s on.
abbrev pub seeded : ℕ → List (ℕ × ℕ) → List (ℕ × (ℕ × ℕ))
seeded s [] = []
seeded s (row ∷ rows) = (s, row) ∷ seeded (suc s) rows

abbrev case : ℕ → List (ℕ × ℕ) → Numbers → List ℕ → List ℕ → List ℕ → List ℕ → Case
case n rows numbers page uses roles scratch =
    record { n = n; rows = seeded 0 rows; numbers = numbers; page = page; uses = uses; roles = roles; scratch = scratch }

abbrev pub k1 : Case
k1 = case 1 [] (numbered 5 0 0 0) [] [] [] zeros

abbrev pub k2 : Case
k2 = case 1 ((1, 7) ∷ []) (numbered 0 1 0 1) (7 ∷ []) (0 ∷ []) (2 ∷ []) zeros

abbrev pub k3 : Case
k3 = case 1 ((1, 7) ∷ (1, 9) ∷ []) (numbered 6 2 0 0) [] (0 ∷ 0 ∷ []) (1 ∷ 1 ∷ []) zeros

abbrev pub k4 : Case
k4 = case 1 ((1, 7) ∷ (1, 9) ∷ (1, 9) ∷ []) (numbered 0 2 0 2) (9 ∷ []) (0 ∷ 1 ∷ 65535 ∷ []) (1 ∷ 2 ∷ 0 ∷ []) zeros

abbrev pub k5 : Case
k5 = case 1 ((0, 7) ∷ []) (numbered 7 1 0 0) [] (0 ∷ []) (2 ∷ []) zeros

abbrev pub k6 : Case
k6 = case 1 ((1, 7) ∷ (0, 0) ∷ []) (numbered 0 1 0 2) (7 ∷ []) (0 ∷ 65535 ∷ []) (2 ∷ 0 ∷ []) zeros

abbrev pub k7 : Case
k7 =
    case 2 ((3, 1) ∷ (1, 3) ∷ (3, 2) ∷ (2, 1) ∷ (1, 0) ∷ []) (numbered 0 3 0 3) (3 ∷ 1 ∷ [])
    (1 ∷ 2 ∷ 2 ∷ 65535 ∷ 65535 ∷ []) (1 ∷ 2 ∷ 2 ∷ 0 ∷ 0 ∷ []) zeros

abbrev pub k8 : Case
k8 =
    case 2 ((1, 3) ∷ (2, 1) ∷ (3, 1) ∷ (3, 2) ∷ (1, 0) ∷ []) (numbered 6 3 0 0) []
    (1 ∷ 2 ∷ 1 ∷ 65535 ∷ 65535 ∷ []) (1 ∷ 1 ∷ 1 ∷ 0 ∷ 0 ∷ []) zeros

abbrev pub k9 : Case
k9 =
    case 2 ((3, 13) ∷ (1, 6) ∷ (3, 14) ∷ (2, 8) ∷ (1, 5) ∷ []) (numbered 0 3 0 3) (6 ∷ 8 ∷ [])
    (1 ∷ 2 ∷ 2 ∷ 65535 ∷ 65535 ∷ []) (1 ∷ 2 ∷ 2 ∷ 0 ∷ 0 ∷ []) zeros

abbrev pub k10 : Case
k10 = case 1 ((2, 7) ∷ []) (numbered 4 0 0 0) [] [] [] []

abbrev pub k11 : Case
k11 = case 2 ((1, 4) ∷ (1, 5) ∷ []) (numbered 7 2 0 0) [] (0 ∷ 0 ∷ []) (2 ∷ 2 ∷ []) zeros

abbrev pub k12 : Case
k12 = case 2 ((1, 4) ∷ []) (numbered 5 1 0 0) [] (0 ∷ []) (1 ∷ []) zeros

-- K4 "with equal seeds on its second and third rows", and K2 with its row held: a repeat "adds to no uses and no agreement".
abbrev pub k4held : Case
k4held =
    record {
      n = 1;
      rows = (0, (1, 7)) ∷ (1, (1, 9)) ∷ (1, (1, 9)) ∷ [];
      numbers = numbered 6 2 0 0;
      page = [];
      uses = 0 ∷ 0 ∷ 65535 ∷ [];
      roles = 1 ∷ 1 ∷ 0 ∷ [];
      scratch = zeros;
    }

abbrev pub k2held : Case
k2held =
    record {
      n = 1;
      rows = (0, (1, 7)) ∷ (0, (1, 7)) ∷ [];
      numbers = numbered 0 1 0 1;
      page = 7 ∷ [];
      uses = 0 ∷ 65535 ∷ [];
      roles = 2 ∷ 0 ∷ [];
      scratch = zeros;
    }

abbrev pub cases : List Case
cases = k1 ∷ k2 ∷ k3 ∷ k4 ∷ k5 ∷ k6 ∷ k7 ∷ k8 ∷ k9 ∷ k10 ∷ k11 ∷ k12 ∷ k4held ∷ k2held ∷ []

-- The list of a case, in bytes.
abbrev pub entry_for : ℕ × (ℕ × ℕ) → ℕ
entry_for row = entered 1 row.0 (row.1.0 * 256 + row.1.1)

unfoldable pub list_of : Case → List ℕ
list_of c = flat (list_row_bytes 1) (map entry_for c.rows)

-- What is seen of an outcome, and what the table says is to be seen.
pub record Seen : Type 0 where
  pub numbers : Numbers
  pub lent : Lent

unfoldable pub seen : Outcome → Seen
seen o = record { numbers = answer_numbers o.answer; lent = o.lent }

unfoldable pub expected : Lent → Case → Seen
expected lent c =
    record {
      numbers = c.numbers;
      lent =
          record {
            page = over c.page lent.page;
            uses = over c.uses lent.uses;
            roles = over c.roles lent.roles;
            scratch = over c.scratch lent.scratch;
          };
    }
