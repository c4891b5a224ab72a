-- A vector of 80 bytes in ten words of eight, the first byte of a word lowest.
use Rattle.std.specs.Prelude.{ℕ, cond, List, [], ◌∷◌, ◌++◌, leb, length}
use Rattle.space.specs.Space.{◌⊕◌}
use Rattle.octets.specs.Octets.{over}
use Rattle.littles.specs.Littles.{little_at, little_bytes}
use Rattle.vectors.specs.declared.Vector.{Vector}

-- Numbers one after the other, eight bytes each.
unfoldable pub flat_little : List ℕ → List ℕ
flat_little [] = []
flat_little (x ∷ xs) = little_bytes 8 x ++ flat_little xs

-- The vector that the first 80 bytes are; a word that runs past the end is 0.
unfoldable pub vector_of : List ℕ → Vector
vector_of bs =
    record {
      a = little_at 0 bs;
      b = little_at 8 bs;
      c = little_at 16 bs;
      d = little_at 24 bs;
      e = little_at 32 bs;
      f = little_at 40 bs;
      g = little_at 48 bs;
      h = little_at 56 bs;
      i = little_at 64 bs;
      j = little_at 72 bs;
    }

-- The ten words of a vector, in order.
unfoldable pub words_in : Vector → List ℕ
words_in v = v.a ∷ v.b ∷ v.c ∷ v.d ∷ v.e ∷ v.f ∷ v.g ∷ v.h ∷ v.i ∷ v.j ∷ []

-- The 80 bytes of a vector.
unfoldable pub bytes_of : Vector → List ℕ
bytes_of v = flat_little (words_in v)

-- Two vectors added bit by bit.
unfoldable pub plus_of : Vector → Vector → Vector
plus_of p q =
    record {
      a = p.a ⊕ q.a;
      b = p.b ⊕ q.b;
      c = p.c ⊕ q.c;
      d = p.d ⊕ q.d;
      e = p.e ⊕ q.e;
      f = p.f ⊕ q.f;
      g = p.g ⊕ q.g;
      h = p.h ⊕ q.h;
      i = p.i ⊕ q.i;
      j = p.j ⊕ q.j;
    }

-- A buffer with a vector written over its first 80 bytes; where it has fewer, as it was.
unfoldable pub store_in : Vector → List ℕ → List ℕ
store_in v old = cond (leb 80 (length old)) (over (bytes_of v) old) old
