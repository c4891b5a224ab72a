-- The entries of the rows that don't agree with a page, as a list of their own: it passes the checks that the whole list passed.
-- Assumes nothing.
use mathlib.Core.Path.{◌≡◌, ◌∙◌}
use Prim.Native.Nat.{ℕ, ◌*◌, ◌^◌, ◌≤◌}
use native.Mathlib.Omega.{arith}
use mathlib.Core.Bool.{true}
use mathlib.Core.List.{List, map}
use lib.ListN.{length}
use Rattle.space.specs.Lists.{Below}
use Rattle.octets.specs.Octets.{flat}
use Rattle.rows.specs.Rows.{list_row_bytes, row_count, entries_of, vector, rows_of}
use Rattle.rows.proofs.Lists.{entries-flat, entries_below, row_count-flat, length-entries_of}
use Rattle.reading.specs.Orders.{in_list_order}
use Rattle.reading.specs.Outcome.{Lent, passes, whole_rows, roomy, checks, read, outcome}
use Rattle.reading.proofs.Checks.{Passed, passed, Fits, roomy-fits, fits-roomy, none_stray, flat-whole, inside, whole, rows-most}
use Rattle.reading.proofs.Given.{outcome-read}
use Rattle.apart.specs.Apart.{apart}
use Rattle.apart.proofs.Apart.{apart-most, apart_below, apart-inside}
use Rattle.both.specs.Both.{Second, lent_too}
use Rattle.both.specs.Parts.{Passing}

module _ (n l : ℕ) (list : List ℕ) (s : Second) (scratch : List ℕ) (P : Passing n l list s scratch) (b : Below 256 list) (page : List ℕ) where
  abbrev entries : List ℕ
  entries = apart l page (entries_of l list)

  abbrev lent : Lent
  lent = lent_too scratch s

  all-passed : Passed n l list lent
  all-passed = passed n l list lent P.passing

  all_fit : Fits n l (row_count l list) lent
  all_fit = roomy-fits n l (row_count l list) lent all-passed.roomed

  pub list-long : length list ≡ row_count l list * list_row_bytes l
  list-long = whole n l list lent all-passed

  rest-entries : entries_of l (flat (list_row_bytes l) entries) ≡ entries
  rest-entries = entries-flat l entries (apart_below l page (entries_of l list) (2 ^ (8 * list_row_bytes l)) (entries_below l list b))

  pub rest-most : length entries ≤ row_count l list
  rest-most = omega (arith, apart-most l page (entries_of l list), length-entries_of l list)

  rest-whole : whole_rows l (flat (list_row_bytes l) entries) ≡ true
  rest-whole = flat-whole l entries (omega (arith, rest-most, rows-most n l list lent all-passed))

  rest-room : roomy n l (row_count l (flat (list_row_bytes l) entries)) lent ≡ true
  rest-room =
      rw (row_count-flat l entries) (fits-roomy n l (length entries) lent (record {
        page = all_fit.page;
        uses = omega (arith, rest-most, all_fit.uses);
        roles = omega (arith, rest-most, all_fit.roles);
        scratch = all_fit.scratch;
      }))

  rest-passes : checks n l (flat (list_row_bytes l) entries) lent ≡ passes
  unfolding checks rows_of
  rest-passes =
      rw (all-passed.shaped, rest-whole, rest-room, rest-entries)
      (none_stray n l 0 (map (vector l) entries) (apart-inside l page (entries_of l list) (2 ^ n) (unfold rows_of in inside n l list lent all-passed)))

  pub rest_read : outcome n l (flat (list_row_bytes l) entries) lent ≡ read n l entries (in_list_order entries) lent
  rest_read = outcome-read in_list_order n l (flat (list_row_bytes l) entries) lent rest-passes ∙ rw rest-entries
