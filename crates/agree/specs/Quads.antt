-- Bytes in four words: what agreement is tested on. No contract of a public function cites it.
use Rattle.std.specs.Prelude.{ℕ, ◌-◌, min, Bool, ◌&&◌, List, eqb, length}
use Rattle.space.specs.Space.{◌⊕◌}
use Rattle.littles.specs.Littles.{little_at}
use Rattle.agree.specs.declared.Quad.{Quad}

-- Four words that cover 8 to 32 bytes: none begins in the last seven.
unfoldable pub quad_of : List ℕ → Quad
quad_of bs =
    record {
      a = little_at 0 bs;
      b = little_at (min 8 (length bs - 8)) bs;
      c = little_at (min 16 (length bs - 8)) bs;
      d = little_at (min 24 (length bs - 8)) bs;
    }

-- Two of them added bit by bit.
unfoldable pub quad_plus : Quad → Quad → Quad
quad_plus p q = record { a = p.a ⊕ q.a; b = p.b ⊕ q.b; c = p.c ⊕ q.c; d = p.d ⊕ q.d }

-- Whether no bit is set.
unfoldable pub quad_none : Quad → Bool
quad_none p = eqb p.a 0 && (eqb p.b 0 && (eqb p.c 0 && eqb p.d 0))
