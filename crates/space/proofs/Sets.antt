-- Laws of sums of some of given vectors: what is such a sum, of which of them, and that independent ones allow one set only.
-- Assumes nothing.
use mathlib.Core.Path.{◌≡◌, refl, sym, ap, ap₂, ◌∙◌}
use Prim.Native.Nat.{ℕ, zero, suc, ◌^◌, ◌<◌}
use lib.Pow.{pow_pos}
use mathlib.Core.Bool.{Bool, true, false, cond, not, ◌&&◌, ◌||◌, or-true, and-true, true≢false, false≢true}
use mathlib.Core.List.{List, [], ◌∷◌, ◌++◌, map, Memᴰ}
use mathlib.Core.Logic.{◌⊎◌, inl, inr, ◌↔◌}
use lib.Dec.{eqb}
use lib.ListN.{length, length-append, replicate, length-replicate}
use borrow.Author.Tests.{eqb-true}
use native.Mathlib.Omega.{arith}
use Rattle.space.specs.Lists.{select, All, Below}
use Rattle.space.specs.Space.{◌⊕◌, sum_of, spans, set_of, independent}
use Rattle.space.proofs.Lists.{all_mono, select-all}
use Rattle.space.proofs.Xor.{⊕_comm, ⊕_assoc, ⊕_self, zero_⊕, ⊕_zero, ⊕_cancel, ⊕_cancel_r, ⊕_swap, ⊕_four, ⊕_lt}

-- ---- what is a sum

or_second : (a b : Bool) → (a || b) ≡ true → a ≡ false → b ≡ true
or_second true b h e = absurd (true≢false e)
or_second false b h e = h

pub spans_zero : (ks : List ℕ) → spans ks 0 ≡ true
unfolding spans
spans_zero [] = refl
spans_zero (k ∷ ks) = rw (spans_zero ks)

-- a sum of k and ks is one of ks, or becomes one when k is added
module _ (k : ℕ) (ks : List ℕ) (v : ℕ) where
  pub spans-cases : spans (k ∷ ks) v ≡ true → (spans ks v ≡ true) ⊎ (spans ks (v ⊕ k) ≡ true)
  unfolding spans
  spans-cases h = go (spans ks v) refl
    where
      go : (b : Bool) → spans ks v ≡ b → (spans ks v ≡ true) ⊎ (spans ks (v ⊕ k) ≡ true)
      go true e = inl e
      go false e = inr (or_second (spans ks v) (spans ks (v ⊕ k)) h e)

  pub spans-left : spans ks v ≡ true → spans (k ∷ ks) v ≡ true
  unfolding spans
  spans-left e = rw e

  pub spans_right : spans ks (v ⊕ k) ≡ true → spans (k ∷ ks) v ≡ true
  unfolding spans
  spans_right e = rw e (or-true (spans ks v))

pub spans-sum : (ks : List ℕ) (set : List Bool) → spans ks (sum_of ks set) ≡ true
unfolding sum_of
spans-sum [] set = spans_zero []
spans-sum (k ∷ ks) [] = spans_zero (k ∷ ks)
spans-sum (k ∷ ks) (false ∷ set) = spans-left k ks (sum_of ks set) (spans-sum ks set)
spans-sum (k ∷ ks) (true ∷ set) =
    spans_right k ks (k ⊕ sum_of ks set) (rw (⊕_comm k (sum_of ks set)) (rw ⊕_cancel_r (spans-sum ks set)))

-- a sum of vectors of k digits has k digits
pub sum_lt : (k : ℕ) (ks : List ℕ) → Below (2 ^ k) ks → (set : List Bool) → sum_of ks set < 2 ^ k
unfolding sum_of
sum_lt k [] b set = pow_pos k
sum_lt k (v ∷ ks) b [] = pow_pos k
sum_lt k (v ∷ ks) b (true ∷ set) = ⊕_lt k v (sum_of ks set) b.0 (sum_lt k ks b.1 set)
sum_lt k (v ∷ ks) b (false ∷ set) = sum_lt k ks b.1 set

-- sums of sums
module _ (k : ℕ) (ks : List ℕ) where
  add_step : ((v w : ℕ) → spans ks v ≡ true → spans ks w ≡ true → spans ks (v ⊕ w) ≡ true) → (v w : ℕ)
      → (spans ks v ≡ true) ⊎ (spans ks (v ⊕ k) ≡ true) → (spans ks w ≡ true) ⊎ (spans ks (w ⊕ k) ≡ true) → spans (k ∷ ks) (v ⊕ w) ≡ true
  add_step ih v w (inl p) (inl q) = spans-left k ks (v ⊕ w) (ih v w p q)
  add_step ih v w (inl p) (inr q) = spans_right k ks (v ⊕ w) (rw (⊕_assoc v w k) (ih v (w ⊕ k) p q))
  add_step ih v w (inr p) (inl q) = spans_right k ks (v ⊕ w) (rw (⊕_swap v w k) (ih (v ⊕ k) w p q))
  add_step ih v w (inr p) (inr q) = spans-left k ks (v ⊕ w) (rw (← both) (ih (v ⊕ k) (w ⊕ k) p q))
    where
      both : v ⊕ k ⊕ (w ⊕ k) ≡ v ⊕ w
      both = ⊕_four v k w k ∙ rw (⊕_self k) (⊕_zero (v ⊕ w))

pub spans_add : (ks : List ℕ) (v w : ℕ) → spans ks v ≡ true → spans ks w ≡ true → spans ks (v ⊕ w) ≡ true
unfolding spans
spans_add [] v w p q = rw (eqb-true v 0 p) (rw (eqb-true w 0 q) (rw ⊕_zero))
spans_add (k ∷ ks) v w p q = add_step k ks (spans_add ks) v w (spans-cases k ks v p) (spans-cases k ks w q)

-- each vector is a sum of itself and any others
pub spans-own : (ks : List ℕ) → All (spans ks) ks
spans-own [] = tt
spans-own (k ∷ ks) = (spans_right k ks k (rw (⊕_self k) (spans_zero ks)), all_mono (spans ks) (spans (k ∷ ks)) (spans-left k ks) ks (spans-own ks))

-- what sums of sums span is spanned
pub spans-through : (ks ls : List ℕ) → All (spans ls) ks → (v : ℕ) → spans ks v ≡ true → spans ls v ≡ true
unfolding spans
spans-through [] ls a v h = rw (eqb-true v 0 h) (spans_zero ls)
spans-through (k ∷ ks) ls a v h = go (spans-cases k ks v h) (spans-through ks ls a.1 v) (spans-through ks ls a.1 (v ⊕ k))
  where
    go : (spans ks v ≡ true) ⊎ (spans ks (v ⊕ k) ≡ true) → (spans ks v ≡ true → spans ls v ≡ true)
        → (spans ks (v ⊕ k) ≡ true → spans ls (v ⊕ k) ≡ true) → spans ls v ≡ true
    go (inl p) f g = f p
    go (inr p) f g = rw (⊕_cancel_r v k) at (spans_add ls (v ⊕ k) k (g p) a.0)

-- ---- of which

module _ (k : ℕ) (ks : List ℕ) where
  set-step : ((w : ℕ) → spans ks w ≡ true → sum_of ks (set_of ks w) ≡ w) → (v : ℕ) (b : Bool) → spans ks v ≡ b
      → spans (k ∷ ks) v ≡ true → sum_of (k ∷ ks) (set_of (k ∷ ks) v) ≡ v
  unfolding spans set_of sum_of
  set-step ih v true e h = rw e (ih v e)
  set-step ih v false e h = rw e (rw (ih (v ⊕ k) (or_second (spans ks v) (spans ks (v ⊕ k)) h e)) (rw (⊕_comm v k) (⊕_cancel k v)))

-- the set of a sum sums to it
pub set_of-sum : (ks : List ℕ) (v : ℕ) → spans ks v ≡ true → sum_of ks (set_of ks v) ≡ v
unfolding spans sum_of
set_of-sum [] v h = sym (eqb-true v 0 h)
set_of-sum (k ∷ ks) v h = set-step k ks (set_of-sum ks) v (spans ks v) refl h

pub length-set_of : (ks : List ℕ) (v : ℕ) → length (set_of ks v) ≡ length ks
unfolding set_of
length-set_of [] v = refl
length-set_of (k ∷ ks) v = go (spans ks v) (length-set_of ks v) (length-set_of ks (v ⊕ k))
  where
    go : (b : Bool) → length (set_of ks v) ≡ length ks → length (set_of ks (v ⊕ k)) ≡ length ks
        → length (cond b (false ∷ set_of ks v) (true ∷ set_of ks (v ⊕ k))) ≡ suc (length ks)
    go true p q = ap suc p
    go false p q = ap suc q

-- a vector is spanned exactly when some set sums to it
pub spans_exactly : (ks : List ℕ) (v : ℕ) → (spans ks v ≡ true) ↔ ((set : List Bool) × (sum_of ks set ≡ v))
spans_exactly ks v = (λ h. (set_of ks v, set_of-sum ks v h), λ s. rw s.1 at (spans-sum ks s.0))

-- ---- independent vectors

pub first_free : (k : ℕ) (ks : List ℕ) → independent (k ∷ ks) ≡ true → spans ks k ≡ true → ⊥
unfolding independent
first_free k ks h e = false≢true (rw e at h)

pub rest_free : (k : ℕ) (ks : List ℕ) → independent (k ∷ ks) ≡ true → independent ks ≡ true
unfolding independent
rest_free k ks h = go (spans ks k) h
  where
    go : (b : Bool) → (not b && independent ks) ≡ true → independent ks ≡ true
    go true e = absurd (false≢true e)
    go false e = e

mixed : (k : ℕ) (ks : List ℕ) (bs cs : List Bool) → k ⊕ sum_of ks bs ≡ sum_of ks cs → spans ks k ≡ true
mixed k ks bs cs e = rw (← back) (spans_add ks (sum_of ks cs) (sum_of ks bs) (spans-sum ks cs) (spans-sum ks bs))
  where
    back : sum_of ks cs ⊕ sum_of ks bs ≡ k
    back = rw (← e) (⊕_cancel_r k (sum_of ks bs))

-- two sets of independent vectors with one sum are one set
pub set_unique : (ks : List ℕ) → independent ks ≡ true → (bs cs : List Bool) → length bs ≡ length ks → length cs ≡ length ks
    → sum_of ks bs ≡ sum_of ks cs → bs ≡ cs
unfolding sum_of
set_unique [] i [] [] p q e = refl
set_unique [] i [] (c ∷ cs) p q e = absurd (omega arith)
set_unique [] i (b ∷ bs) cs p q e = absurd (omega arith)
set_unique (k ∷ ks) i [] cs p q e = absurd (omega arith)
set_unique (k ∷ ks) i (b ∷ bs) [] p q e = absurd (omega arith)
set_unique (k ∷ ks) i (false ∷ bs) (false ∷ cs) p q e = ap (λ t. false ∷ t) (set_unique ks (rest_free k ks i) bs cs (omega arith) (omega arith) e)
set_unique (k ∷ ks) i (false ∷ bs) (true ∷ cs) p q e = absurd (first_free k ks i (mixed k ks cs bs (sym e)))
set_unique (k ∷ ks) i (true ∷ bs) (false ∷ cs) p q e = absurd (first_free k ks i (mixed k ks bs cs e))
set_unique (k ∷ ks) i (true ∷ bs) (true ∷ cs) p q e =
    ap (λ t. true ∷ t) (set_unique ks (rest_free k ks i) bs cs (omega arith) (omega arith)
    (sym (⊕_cancel k (sum_of ks bs)) ∙ ap (λ (x : ℕ). k ⊕ x) e ∙ ⊕_cancel k (sum_of ks cs)))

-- so the set of a vector is the only one that sums to it
pub set_of_unique : (ks : List ℕ) → independent ks ≡ true → (v : ℕ) (set : List Bool) → length set ≡ length ks → sum_of ks set ≡ v → set ≡ set_of ks v
set_of_unique ks i v set size e =
    set_unique ks i set (set_of ks v) size (length-set_of ks v) (e ∙ sym (set_of-sum ks v (rw e at (spans-sum ks set))))

-- one vector more, that they don't span
pub independent_cons : (k : ℕ) (ks : List ℕ) → (spans ks k ≡ true → ⊥) → independent ks ≡ true → independent (k ∷ ks) ≡ true
unfolding independent
independent_cons k ks h i = go (spans ks k) refl
  where
    go : (b : Bool) → spans ks k ≡ b → (not b && independent ks) ≡ true
    go true e = absurd (h e)
    go false e = i

-- fewer of independent vectors are independent
pub select-independent : (bs : List Bool) (ks : List ℕ) → independent ks ≡ true → independent (select bs ks) ≡ true
unfolding select independent
select-independent [] ks i = refl
select-independent (b ∷ bs) [] i = refl
select-independent (true ∷ bs) (k ∷ ks) i =
    independent_cons k (select bs ks)
    (λ e. first_free k ks i (spans-through (select bs ks) ks (select-all (spans ks) bs ks (spans-own ks)) k e))
    (select-independent bs ks (rest_free k ks i))
select-independent (false ∷ bs) (k ∷ ks) i = select-independent bs ks (rest_free k ks i)

-- ---- one vector more, at the end

pub spans-snoc : (ks : List ℕ) (k v : ℕ) → spans (ks ++ (k ∷ [])) v ≡ (spans ks v || spans ks (v ⊕ k))
unfolding spans
spans-snoc [] k v = refl
spans-snoc (a ∷ ks) k v =
    rw (spans-snoc ks k v) (rw (spans-snoc ks k (v ⊕ a)) (rw (⊕_swap v a k)
    (or_four (spans ks v) (spans ks (v ⊕ k)) (spans ks (v ⊕ a)) (spans ks (v ⊕ k ⊕ a)))))
  where
    or_four : (p q r s : Bool) → ((p || q) || (r || s)) ≡ ((p || r) || (q || s))
    or_four true q r s = refl
    or_four false true true s = refl
    or_four false true false s = refl
    or_four false false r s = refl

pub independent-snoc : (ks : List ℕ) (k : ℕ) → independent (ks ++ (k ∷ [])) ≡ (independent ks && not (spans ks k))
unfolding spans independent
independent-snoc [] k = rw (and-true (not (eqb k 0)))
independent-snoc (a ∷ ks) k =
    rw (independent-snoc ks k) (rw (spans-snoc ks k a) (rw (⊕_comm a k) (go (spans ks a) (spans ks (k ⊕ a)) (independent ks) (spans ks k))))
  where
    go : (p q r s : Bool) → (not (p || q) && (r && not s)) ≡ ((not p && r) && not (s || q))
    go true q r s = refl
    go false true false s = refl
    go false true true true = refl
    go false true true false = refl
    go false false false s = refl
    go false false true true = refl
    go false false true false = refl

-- ---- sets added

unfoldable pub xor_set : List Bool → List Bool → List Bool
xor_set [] cs = []
xor_set (b ∷ bs) [] = []
xor_set (true ∷ bs) (c ∷ cs) = not c ∷ xor_set bs cs
xor_set (false ∷ bs) (c ∷ cs) = c ∷ xor_set bs cs

length-xor_set : (bs cs : List Bool) → length bs ≡ length cs → length (xor_set bs cs) ≡ length bs
unfolding xor_set
length-xor_set [] cs e = refl
length-xor_set (b ∷ bs) [] e = absurd (omega arith)
length-xor_set (true ∷ bs) (c ∷ cs) e = ap suc (length-xor_set bs cs (omega arith))
length-xor_set (false ∷ bs) (c ∷ cs) e = ap suc (length-xor_set bs cs (omega arith))

pub sum-xor_set : (ks : List ℕ) (bs cs : List Bool) → length bs ≡ length cs → sum_of ks (xor_set bs cs) ≡ sum_of ks bs ⊕ sum_of ks cs
unfolding sum_of xor_set
sum-xor_set [] bs cs e = sym (zero_⊕ 0)
sum-xor_set (k ∷ ks) [] [] e = sym (zero_⊕ 0)
sum-xor_set (k ∷ ks) [] (c ∷ cs) e = absurd (omega arith)
sum-xor_set (k ∷ ks) (b ∷ bs) [] e = absurd (omega arith)
sum-xor_set (k ∷ ks) (true ∷ bs) (true ∷ cs) e =
    sum-xor_set ks bs cs (omega arith) ∙ sym (⊕_four k (sum_of ks bs) k (sum_of ks cs) ∙ rw (⊕_self k) (zero_⊕ (sum_of ks bs ⊕ sum_of ks cs)))
sum-xor_set (k ∷ ks) (true ∷ bs) (false ∷ cs) e = rw (sum-xor_set ks bs cs (omega arith)) (sym (⊕_assoc k (sum_of ks bs) (sum_of ks cs)))
sum-xor_set (k ∷ ks) (false ∷ bs) (true ∷ cs) e =
    rw (sum-xor_set ks bs cs (omega arith)) (sym (⊕_assoc k (sum_of ks bs) (sum_of ks cs))
    ∙ ap (λ (x : ℕ). x ⊕ sum_of ks cs) (⊕_comm k (sum_of ks bs)) ∙ ⊕_assoc (sum_of ks bs) k (sum_of ks cs))
sum-xor_set (k ∷ ks) (false ∷ bs) (false ∷ cs) e = sum-xor_set ks bs cs (omega arith)

same_length : (ks : List ℕ) (a b : ℕ) → length (set_of ks a) ≡ length (set_of ks b)
same_length ks a b = length-set_of ks a ∙ sym (length-set_of ks b)

-- the set of a sum
pub set_of-⊕ : (ks : List ℕ) → independent ks ≡ true → (a b : ℕ) → spans ks a ≡ true → spans ks b ≡ true
    → set_of ks (a ⊕ b) ≡ xor_set (set_of ks a) (set_of ks b)
set_of-⊕ ks i a b p q =
    sym (set_of_unique ks i (a ⊕ b) (xor_set (set_of ks a) (set_of ks b)) (length-xor_set _ _ (same_length ks a b) ∙ length-set_of ks a)
    (sum-xor_set ks _ _ (same_length ks a b) ∙ ap₂ (λ x y. x ⊕ y) (set_of-sum ks a p) (set_of-sum ks b q)))

-- other vectors added up by the set of a sum
pub sum-set_of-⊕ : (ks vs : List ℕ) → independent ks ≡ true → (a b : ℕ) → spans ks a ≡ true → spans ks b ≡ true
    → sum_of vs (set_of ks (a ⊕ b)) ≡ sum_of vs (set_of ks a) ⊕ sum_of vs (set_of ks b)
sum-set_of-⊕ ks vs i a b p q = rw (set_of-⊕ ks i a b p q) (sum-xor_set vs _ _ (same_length ks a b))

-- ---- more vectors at the end leave a set as it is

sum-append : (ks ls : List ℕ) (bs cs : List Bool) → length bs ≡ length ks → sum_of (ks ++ ls) (bs ++ cs) ≡ sum_of ks bs ⊕ sum_of ls cs
unfolding sum_of
sum-append [] ls [] cs e = sym (zero_⊕ (sum_of ls cs))
sum-append [] ls (b ∷ bs) cs e = absurd (omega arith)
sum-append (k ∷ ks) ls [] cs e = absurd (omega arith)
sum-append (k ∷ ks) ls (true ∷ bs) cs e = rw (sum-append ks ls bs cs (omega arith)) (sym (⊕_assoc k (sum_of ks bs) (sum_of ls cs)))
sum-append (k ∷ ks) ls (false ∷ bs) cs e = sum-append ks ls bs cs (omega arith)

pub sum_none : (n : ℕ) (ks : List ℕ) → sum_of ks (replicate n false) ≡ 0
unfolding sum_of
sum_none n [] = refl
sum_none zero (k ∷ ks) = refl
sum_none (suc n) (k ∷ ks) = sum_none n ks

sum_more : (ks ls : List ℕ) (v : ℕ) → spans ks v ≡ true → sum_of (ks ++ ls) (set_of ks v ++ replicate (length ls) false) ≡ v
sum_more ks ls v h =
    rw (sum-append ks ls (set_of ks v) (replicate (length ls) false) (length-set_of ks v), sum_none (length ls) ls)
    (⊕_zero (sum_of ks (set_of ks v)) ∙ set_of-sum ks v h)

pub spans-append : (ks ls : List ℕ) (v : ℕ) → spans ks v ≡ true → spans (ks ++ ls) v ≡ true
spans-append ks ls v h = rw (sum_more ks ls v h) at (spans-sum (ks ++ ls) (set_of ks v ++ replicate (length ls) false))

pub set_of-append : (ks ls : List ℕ) → independent (ks ++ ls) ≡ true → (v : ℕ) → spans ks v ≡ true
    → set_of (ks ++ ls) v ≡ set_of ks v ++ replicate (length ls) false
set_of-append ks ls i v h =
    sym (set_of_unique (ks ++ ls) i v (set_of ks v ++ replicate (length ls) false) (simp (length-append, length-set_of, length-replicate)) (sum_more ks ls v h))

-- ---- the set of one vector

unfoldable pub set_at : {r : ℕ} {ks : List ℕ} → Memᴰ r ks → List Bool
set_at (Memᴰ.head {xs = ks} e) = true ∷ replicate (length ks) false
set_at (Memᴰ.tail m) = false ∷ set_at m

pub length_set_at : {r : ℕ} {ks : List ℕ} (m : Memᴰ r ks) → length (set_at m) ≡ length ks
unfolding set_at
length_set_at (Memᴰ.head {xs = ks} e) = ap suc (length-replicate (length ks) false)
length_set_at (Memᴰ.tail m) = ap suc (length_set_at m)

pub sum_set_at : (f : ℕ → ℕ) {r : ℕ} {ks : List ℕ} (m : Memᴰ r ks) → sum_of (map f ks) (set_at m) ≡ f r
unfolding set_at sum_of
sum_set_at f (Memᴰ.head {x = k} {xs = ks} e) = rw (sum_none (length ks) (map f ks)) (⊕_zero (f k) ∙ ap f (sym e))
sum_set_at f (Memᴰ.tail m) = sum_set_at f m
