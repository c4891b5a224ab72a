-- Laws of the words about lists, each by induction on a list.
-- Assumes nothing.
use mathlib.Core.Path.{◌≡◌, refl, sym, ap, ap₂, ◌∙◌}
use Prim.Native.Nat.{ℕ, zero, suc, ◌≤◌, ◌<◌}
use native.Mathlib.Nat.{zero-lt-suc}
use native.Mathlib.Omega.{arith}
use mathlib.Core.Bool.{Bool, true, false, cond}
use mathlib.Core.List.Memᴰ
use mathlib.Core.List.{List, [], ◌∷◌, ◌++◌, map, Memᴰ}
use mathlib.Core.Logic.{⊎_elim}
use lib.ListN.{length, take, set, get_or}
use Rattle.space.specs.Lists.{select, marked, count, above, tabulate, All, Below}

-- ---- map

pub map_both : {A B C : Type 0} (f : B → C) (g : A → B) (h : A → C) → ((x : A) → f (g x) ≡ h x) → (xs : List A)
    → map f (map g xs) ≡ map h xs
map_both f g h e [] = refl
map_both f g h e (x ∷ xs) = ap₂ (λ a t. a ∷ t) (e x) (map_both f g h e xs)

pub map_same : (f : ℕ → ℕ) → ((x : ℕ) → f x ≡ x) → (xs : List ℕ) → map f xs ≡ xs
map_same f e [] = refl
map_same f e (x ∷ xs) = ap₂ (λ a t. a ∷ t) (e x) (map_same f e xs)

pub map-append : {A B : Type 0} (f : A → B) (xs ys : List A) → map f (xs ++ ys) ≡ map f xs ++ map f ys
map-append f [] ys = refl
map-append f (x ∷ xs) ys = ap (λ t. f x ∷ t) (map-append f xs ys)

pub map-set : {A B : Type 0} (f : A → B) (xs : List A) (i : ℕ) (y : A) → map f (set xs i y) ≡ set (map f xs) i (f y)
map-set f [] i y = refl
map-set f (x ∷ xs) zero y = refl
map-set f (x ∷ xs) (suc i) y = ap (λ t. f x ∷ t) (map-set f xs i y)

-- ---- select

pub select-map : {A B : Type 0} (f : A → B) (bs : List Bool) (xs : List A) → select bs (map f xs) ≡ map f (select bs xs)
unfolding select
select-map f [] xs = refl
select-map f (b ∷ bs) [] = refl
select-map f (true ∷ bs) (x ∷ xs) = ap (λ t. f x ∷ t) (select-map f bs xs)
select-map f (false ∷ bs) (x ∷ xs) = select-map f bs xs

pub length-select : {A : Type 0} (bs : List Bool) (xs : List A) → length bs ≡ length xs → length (select bs xs) ≡ marked bs
unfolding select marked
length-select [] xs e = refl
length-select (b ∷ bs) [] e = absurd (omega arith)
length-select (true ∷ bs) (x ∷ xs) e = ap suc (length-select bs xs (omega arith))
length-select (false ∷ bs) (x ∷ xs) e = length-select bs xs (omega arith)

pub select_below : (m : ℕ) (bs : List Bool) (xs : List ℕ) → Below m xs → Below m (select bs xs)
unfolding select
select_below m [] xs b = tt
select_below m (c ∷ bs) [] b = tt
select_below m (true ∷ bs) (x ∷ xs) b = (b.0, select_below m bs xs b.1)
select_below m (false ∷ bs) (x ∷ xs) b = select_below m bs xs b.1

pub select-all : {A : Type 0} (p : A → Bool) (bs : List Bool) (xs : List A) → All p xs → All p (select bs xs)
unfolding select
select-all p [] xs h = tt
select-all p (b ∷ bs) [] h = tt
select-all p (true ∷ bs) (x ∷ xs) h = (h.0, select-all p bs xs h.1)
select-all p (false ∷ bs) (x ∷ xs) h = select-all p bs xs h.1

pub select-append : {A : Type 0} (bs cs : List Bool) (xs ys : List A) → length bs ≡ length xs → select (bs ++ cs) (xs ++ ys) ≡ select bs xs ++ select cs ys
unfolding select
select-append [] cs [] ys e = refl
select-append [] cs (x ∷ xs) ys e = absurd (omega arith)
select-append (b ∷ bs) cs [] ys e = absurd (omega arith)
select-append (true ∷ bs) cs (x ∷ xs) ys e = ap (λ t. x ∷ t) (select-append bs cs xs ys (omega arith))
select-append (false ∷ bs) cs (x ∷ xs) ys e = select-append bs cs xs ys (omega arith)

-- a mask that marks everything
pub select_every : {A : Type 0} (f : ℕ → Bool) → ((u : ℕ) → f u ≡ true) → (us : List ℕ) (xs : List A) → length us ≡ length xs
    → select (map f us) xs ≡ xs
unfolding select
select_every f e [] [] h = refl
select_every f e [] (x ∷ xs) h = absurd (omega arith)
select_every f e (u ∷ us) [] h = refl
select_every f e (u ∷ us) (x ∷ xs) h = rw (e u) (ap (λ t. x ∷ t) (select_every f e us xs (omega arith)))

pub marked_every : (f : ℕ → Bool) → ((u : ℕ) → f u ≡ true) → (us : List ℕ) → marked (map f us) ≡ length us
unfolding marked
marked_every f e [] = refl
marked_every f e (u ∷ us) = rw (e u) (ap suc (marked_every f e us))

pub marked_le : (bs : List Bool) → marked bs ≤ length bs
unfolding marked
marked_le [] = omega arith
marked_le (true ∷ bs) = omega (arith, marked_le bs)
marked_le (false ∷ bs) = omega (arith, marked_le bs)

-- ---- count

pub count_map : (p q : ℕ → Bool) (f : ℕ → ℕ) → ((x : ℕ) → p (f x) ≡ q x) → (xs : List ℕ) → count p (map f xs) ≡ count q xs
unfolding count
count_map p q f e [] = refl
count_map p q f e (x ∷ xs) = rw (e x) (rw (count_map p q f e xs))

-- one element more: what a bound says of the rest, it says of all
cond_le : (b : Bool) (n m : ℕ) → n ≤ m → cond b (suc n) n ≤ suc m
cond_le true n m h = omega arith
cond_le false n m h = omega arith

pub count_le : (p : ℕ → Bool) (xs : List ℕ) → count p xs ≤ length xs
unfolding count
count_le p [] = omega arith
count_le p (x ∷ xs) = cond_le (p x) (count p xs) (length xs) (count_le p xs)

pub count-all : (p : ℕ → Bool) (xs : List ℕ) → All p xs → count p xs ≡ length xs
unfolding count
count-all p [] h = refl
count-all p (x ∷ xs) h = rw h.0 (ap suc (count-all p xs h.1))

-- tests that agree on what passes a third
pub count_same : (a p q : ℕ → Bool) → ((x : ℕ) → a x ≡ true → p x ≡ q x) → (xs : List ℕ) → All a xs → count p xs ≡ count q xs
unfolding count
count_same a p q e [] h = refl
count_same a p q e (x ∷ xs) h = rw (e x h.0) (rw (count_same a p q e xs h.1))

pub count_none : (xs : List ℕ) → count (λ x. false) xs ≡ 0
unfolding count
count_none [] = refl
count_none (x ∷ xs) = count_none xs

pub count-snoc : (p : ℕ → Bool) (xs : List ℕ) (x : ℕ) → count p (xs ++ (x ∷ [])) ≡ cond (p x) (suc (count p xs)) (count p xs)
unfolding count
count-snoc p [] x = refl
count-snoc p (y ∷ xs) x = rw (count-snoc p xs x) (go (p x) (p y))
  where
    go : (a b : Bool) → cond b (suc (cond a (suc (count p xs)) (count p xs))) (cond a (suc (count p xs)) (count p xs))
        ≡ cond a (suc (cond b (suc (count p xs)) (count p xs))) (cond b (suc (count p xs)) (count p xs))
    go true true = refl
    go true false = refl
    go false b = refl

pub count-marked : (p : ℕ → Bool) (xs : List ℕ) → marked (map p xs) ≡ count p xs
unfolding count marked
count-marked p [] = refl
count-marked p (x ∷ xs) = rw (count-marked p xs)

-- ---- above

-- it is above each, and the least that is
pub above-each : (xs : List ℕ) (x : ℕ) → Memᴰ x xs → x < above xs
unfolding above
above-each [] x m = absurd (Memᴰ.not-nil m)
above-each (y ∷ xs) x m = ⊎_elim (λ e. omega arith) (λ k. omega (arith, above-each xs x k)) (Memᴰ.cases_cons m)

pub above-least : (xs : List ℕ) (t : ℕ) → ((x : ℕ) → Memᴰ x xs → x < t) → above xs ≤ t
unfolding above
above-least [] t h = omega arith
above-least (x ∷ xs) t h = omega (arith, h x (Memᴰ.head refl), above-least xs t (λ y m. h y (Memᴰ.tail m)))

-- ---- tabulate

pub tabulate_ext : (n : ℕ) (f g : ℕ → ℕ) → ((k : ℕ) → k < n → f k ≡ g k) → tabulate n f ≡ tabulate n g
unfolding tabulate
tabulate_ext zero f g e = refl
tabulate_ext (suc n) f g e =
    ap₂ (λ a t. a ∷ t) (e 0 (zero-lt-suc n)) (tabulate_ext n (λ k. f (suc k)) (λ k. g (suc k)) (λ k h. e (suc k) (omega arith)))

pub tabulate-get_or : (xs : List ℕ) → tabulate (length xs) (λ k. get_or xs k 0) ≡ xs
unfolding tabulate
tabulate-get_or [] = refl
tabulate-get_or (x ∷ xs) = ap (λ t. x ∷ t) (tabulate-get_or xs)

-- a list is the table of what it has at each place
pub tabulate_is : (n : ℕ) (f : ℕ → ℕ) (xs : List ℕ) → length xs ≡ n → ((k : ℕ) → k < n → f k ≡ get_or xs k 0) → tabulate n f ≡ xs
tabulate_is n f xs size e = tabulate_ext n f (λ k. get_or xs k 0) e ∙ ap (λ (m : ℕ). tabulate m (λ k. get_or xs k 0)) (sym size) ∙ tabulate-get_or xs

pub tabulate-snoc : (n : ℕ) (f : ℕ → ℕ) → tabulate (suc n) f ≡ tabulate n f ++ (f n ∷ [])
unfolding tabulate
tabulate-snoc zero f = refl
tabulate-snoc (suc n) f = ap (λ t. f 0 ∷ t) (tabulate-snoc n (λ k. f (suc k)))

pub take-tabulate : (k n : ℕ) (f : ℕ → ℕ) → k ≤ n → take k (tabulate n f) ≡ tabulate k f
unfolding tabulate
take-tabulate zero n f h = refl
take-tabulate (suc k) zero f h = absurd (omega arith)
take-tabulate (suc k) (suc n) f h = ap (λ t. f 0 ∷ t) (take-tabulate k n (λ i. f (suc i)) (omega arith))

pub length-tabulate : (n : ℕ) (f : ℕ → ℕ) → length (tabulate n f) ≡ n
unfolding tabulate
length-tabulate zero f = refl
length-tabulate (suc n) f = ap suc (length-tabulate n (λ k. f (suc k)))

pub tabulate_below : (m n : ℕ) (f : ℕ → ℕ) → ((k : ℕ) → f k < m) → Below m (tabulate n f)
unfolding tabulate
tabulate_below m zero f h = tt
tabulate_below m (suc n) f h = (h 0, tabulate_below m n (λ k. f (suc k)) (λ k. h (suc k)))

-- ---- All and Below

pub all_mono : {A : Type 0} (p q : A → Bool) → ((x : A) → p x ≡ true → q x ≡ true) → (xs : List A) → All p xs → All q xs
all_mono p q f [] h = tt
all_mono p q f (x ∷ xs) h = (f x h.0, all_mono p q f xs h.1)

pub all_append : {A : Type 0} (p : A → Bool) (xs ys : List A) → All p xs → All p ys → All p (xs ++ ys)
all_append p [] ys h k = k
all_append p (x ∷ xs) ys h k = (h.0, all_append p xs ys h.1 k)

pub all_in : {A : Type 0} (p : A → Bool) (xs : List A) → ((x : A) → Memᴰ x xs → p x ≡ true) → All p xs
all_in p [] f = tt
all_in p (x ∷ xs) f = (f x (Memᴰ.head refl), all_in p xs (λ y m. f y (Memᴰ.tail m)))

pub all_at : {A : Type 0} (p : A → Bool) (xs : List A) → All p xs → (x : A) → Memᴰ x xs → p x ≡ true
all_at {A = A} p [] h x m = elim m [ ]
all_at p (y ∷ xs) h x (Memᴰ.head e) = ap p e ∙ h.0
all_at p (y ∷ xs) h x (Memᴰ.tail m) = all_at p xs h.1 x m

pub below_map_at : (m : ℕ) (f : ℕ → ℕ) (xs : List ℕ) → Below m (map f xs) → (x : ℕ) → Memᴰ x xs → f x < m
below_map_at m f [] h x k = elim k [ ]
below_map_at m f (y ∷ xs) h x (Memᴰ.head e) = rw e h.0
below_map_at m f (y ∷ xs) h x (Memᴰ.tail k) = below_map_at m f xs h.1 x k

pub below_map : (m : ℕ) (f : ℕ → ℕ) → ((x : ℕ) → f x < m) → (xs : List ℕ) → Below m (map f xs)
below_map m f h [] = tt
below_map m f h (x ∷ xs) = (h x, below_map m f h xs)

pub below_each : (m : ℕ) (xs : List ℕ) → ((j : ℕ) → j < length xs → get_or xs j 0 < m) → Below m xs
below_each m [] h = tt
below_each m (x ∷ xs) h = (h 0 (omega arith), below_each m xs (λ j k. h (suc j) (omega arith)))

pub below_more : (k m : ℕ) → k ≤ m → (xs : List ℕ) → Below k xs → Below m xs
below_more k m h [] b = tt
below_more k m h (x ∷ xs) b = (omega (arith, b.0), below_more k m h xs b.1)

pub below_append : (m : ℕ) (xs ys : List ℕ) → Below m xs → Below m ys → Below m (xs ++ ys)
below_append m [] ys h k = k
below_append m (x ∷ xs) ys h k = (h.0, below_append m xs ys h.1 k)

pub below_split : (m : ℕ) (xs ys : List ℕ) → Below m (xs ++ ys) → Below m xs × Below m ys
below_split m [] ys h = (tt, h)
below_split m (x ∷ xs) ys h = let r : Below m xs × Below m ys = below_split m xs ys h.1 in ((h.0, r.0), r.1)

-- what stands at a place, and another number put there
pub below_at : (m : ℕ) (xs : List ℕ) (i : ℕ) → 0 < m → Below m xs → get_or xs i 0 < m
below_at m [] i h b = h
below_at m (x ∷ xs) zero h b = b.0
below_at m (x ∷ xs) (suc i) h b = below_at m xs i h b.1

pub below_set : (m : ℕ) (xs : List ℕ) (i x : ℕ) → Below m xs → x < m → Below m (set xs i x)
below_set m [] i x b h = tt
below_set m (y ∷ xs) zero x b h = (h, b.1)
below_set m (y ∷ xs) (suc i) x b h = (b.0, below_set m xs i x b.1 h)
