-- `numerals::get` meets its contract: folding in one byte more makes of the number of the bytes so far that of one more, as far as a word has room for it.
-- Assumes nothing.
use Rattle.std.proofs.Common.{◌≡◌, ℕ, ◌*◌, ◌%◌, ◌^◌, ◌<◌, ◌≤◌, zero, suc, List, length, take, get_or, add-one, refl, ◌∙◌, fold, bit_or, rules, arith}
use Rattle.std.proofs.lemmas.List.Sums.{fold_more}
use lib.Seq.{take-length}
use Rattle.octets.specs.Octets.{number}
use Rattle.octets.proofs.Digits.{word_more}
use Rattle.numerals.proofs.get.Goals as goal

abbrev joined : ℕ → ℕ → ℕ
joined x b = bit_or (x * 256 % 2 ^ 64) b

-- the first i bytes
so_far : (bs : List ℕ) → ((k : ℕ) → get_or bs k 0 < 256) → (i : ℕ) → i ≤ length bs → fold joined 0 (take i bs) ≡ number (take i bs) % 2 ^ 64
unfolding number
so_far bs small zero h = refl
so_far bs small (suc i) h =
    simp add-one at (fold_more joined 0 bs i 0 (omega arith) ∙ word_more bs i (fold joined 0 (take i bs)) (omega arith) (small i) (so_far bs small i (omega arith)))

pub returns : goal.returns
returns c =
    let bs = c.args.from.now in
    let folded : c.fold.result ≡ fold joined 0 bs = search rules in
    let all = so_far bs (λ k. omega (arith, c.type_inv.from k)) (length bs) (omega arith) in
    folded ∙ rw take-length at all
