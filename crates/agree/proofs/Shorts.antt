-- One word in place of 1 to 7 bytes: they are its highest, and without those behind them, words are added as the bytes are.
-- Assumes nothing.
use mathlib.Core.Path.{◌≡◌, sym, ap, ap₂, ◌∙◌}
use mathlib.Core.List.{List}
use Prim.Native.Nat.{ℕ, ◌-◌, ◌*◌, ◌/◌, ◌^◌, ◌<◌}
use native.Mathlib.Omega.{arith}
use lib.Bits.{xor_shr}
use lib.ListN.{length, get_or}
use lib.Seq.{take-length}
use Rattle.space.specs.Space.{◌⊕◌}
use Rattle.space.specs.Lists.{Below}
use Rattle.space.proofs.Xor.{⊕_zero, ⊕_assoc}
use Rattle.octets.specs.Octets.{number}
use Rattle.words.specs.Words.{word_at}
use Rattle.words.proofs.Words.{word_front}
use Rattle.rows.specs.Bytes.{cut}
use Rattle.rows.proofs.Bits.{symbol-inside, symbol-number}

-- What stands in the l highest bytes of a word.
abbrev pub front : ℕ → ℕ → ℕ
front l word = word / 2 ^ (8 * (8 - l))

pub front-payload : (payload : List ℕ) → Below 256 payload → length payload < 8 → front (length payload) (word_at 0 payload) ≡ number payload ⊕ 0
front-payload payload b few =
    word_front 0 (length payload) payload b (omega arith) (omega arith) ∙ ap number (take-length payload) ∙ sym (⊕_zero (number payload))

pub front-symbol : (l : ℕ) (page : List ℕ) → Below 256 page → l < 8 → (k : ℕ) → k < length page / l → (held sum x : ℕ) → front l held ≡ sum ⊕ x
    → front l (held ⊕ word_at (k * l) page) ≡ sum ⊕ (x ⊕ get_or (cut l page) k 0)
unfolding ◌⊕◌
front-symbol l page b few k h held sum x e =
    xor_shr held (word_at (k * l) page) (8 * (8 - l))
    ∙ ap₂ (λ (y z : ℕ). y ⊕ z) e (word_front (k * l) l page b (symbol-inside l page k h) (omega arith) ∙ sym (symbol-number l page k h))
    ∙ ⊕_assoc sum x (get_or (cut l page) k 0)
