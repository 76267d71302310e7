-- What the searches for the first number and the first pair find.
use Rattle.std.proofs.Common.{◌≡◌, ℕ, zero, suc, ◌+◌, ◌<◌, Bool, true, false, cond, ◌⊎◌, Some, None, Option, sym, refl, ap, inl, inr, ⊎_elim, add-one, arith}
use Rattle.std.proofs.lemmas.Bool.{cases_eq, both_ways}
use Rattle.search.specs.Firsts.{first_below, first_pair, or_else, with_left, FirstPair}

pub first_none : (f : ℕ → Bool) → first_below f 0 ≡ None
unfolding first_below
first_none f = refl

pub first_more : (f : ℕ → Bool) (i : ℕ) → first_below f i ≡ None → f i ≡ false → first_below f (i + 1) ≡ None
unfolding first_below
first_more f i a b = rw (add-one, a, b)

pub first_found : (f : ℕ → Bool) (n i : ℕ) → i < n → first_below f i ≡ None → f i ≡ true → first_below f n ≡ Some i
unfolding first_below
first_found f zero i h a b = absurd (omega arith)
first_found f (suc n) i h a b = ⊎_elim
    (λ (e : i ≡ n). rw (← e, a, b))
    (λ (e : i ≡ n → ⊥). rw (first_found f n i (omega arith) a b))
    (cases_eq i n)

pub first_clear : (f : ℕ → Bool) (n : ℕ) → ((k : ℕ) → k < n → f k ≡ false) → first_below f n ≡ None
unfolding first_below
first_clear f zero h = refl
first_clear f (suc n) h = rw (first_clear f n (λ k l. h k (omega arith)), h n (omega arith))

pub pair_none : (f : ℕ → ℕ → Bool) (n : ℕ) → first_pair f 0 n ≡ None
unfolding first_pair
pair_none f n = refl

pub pair_more : (f : ℕ → ℕ → Bool) (i n : ℕ) → first_pair f i n ≡ None → first_below (f i) n ≡ None → first_pair f (i + 1) n ≡ None
unfolding first_pair
pair_more f i n a b = rw (add-one, a, b)

pub pair_found : (f : ℕ → ℕ → Bool) (m n l r : ℕ) → l < m → r < n → first_pair f l n ≡ None → first_below (f l) r ≡ None → f l r ≡ true
    → first_pair f m n ≡ Some (l, r)
unfolding first_pair
pair_found f zero n l r h k a b t = absurd (omega arith)
pair_found f (suc m) n l r h k a b t = ⊎_elim
    (λ (e : l ≡ m). rw (← e, a, first_found (f l) n r k b t))
    (λ (e : l ≡ m → ⊥). rw (pair_found f m n l r (omega arith) k a b t))
    (cases_eq l m)

-- what the two searches say of a test, in words

or_none : {A : Type 0} (a b : Option A) → or_else a b ≡ None → (a ≡ None) × (b ≡ None)
or_none None b e = (refl, e)
or_none (Some x) b e = absurd (let z : ◌≡◌ {A = ℕ} 0 1 = cc in omega arith)

or_some : {A : Type 0} (a b : Option A) (p : A) → or_else a b ≡ Some p → (a ≡ Some p) ⊎ ((a ≡ None) × (b ≡ Some p))
or_some None b p e = inr (refl, e)
or_some (Some x) b p e = inl e

left_none : (l : ℕ) (o : Option ℕ) → with_left l o ≡ None → o ≡ None
left_none l None e = refl
left_none l (Some r) e = absurd (let z : ◌≡◌ {A = ℕ} 0 1 = cc in omega arith)

left_some : (l : ℕ) (o : Option ℕ) (p : ℕ × ℕ) → with_left l o ≡ Some p → (p.0 ≡ l) × (o ≡ Some p.1)
left_some l None p e = absurd (let z : ◌≡◌ {A = ℕ} 0 1 = cc in omega arith)
left_some l (Some r) p e = let q : (l, r) ≡ p = cc in (sym (ap (λ (x : ℕ × ℕ). x.0) q), ap (λ (x : ℕ × ℕ). Some x.1) q)

-- whether a test of one number passed
one_none : (b : Bool) (n : ℕ) → cond b (Some n) None ≡ None → b ≡ false
one_none true n e = absurd (let z : ◌≡◌ {A = ℕ} 0 1 = cc in omega arith)
one_none false n e = refl

one_some : (b : Bool) (n k : ℕ) → cond b (Some n) None ≡ Some k → (b ≡ true) × (k ≡ n)
one_some true n k e = (refl, cc)
one_some false n k e = absurd (let z : ◌≡◌ {A = ℕ} 0 1 = cc in omega arith)

pub first_never : (f : ℕ → Bool) (n : ℕ) → first_below f n ≡ None → (k : ℕ) → k < n → f k ≡ false
unfolding first_below
first_never f zero e k h = absurd (omega arith)
first_never f (suc n) e k h =
    let o = or_none (first_below f n) (cond (f n) (Some n) None) e in
    ⊎_elim (λ (q : k ≡ n). rw q (one_none (f n) n o.1))
    (λ (q : k ≡ n → ⊥). first_never f n o.0 k (omega arith))
    (cases_eq k n)

pub first_at : (f : ℕ → Bool) (n k : ℕ) → first_below f n ≡ Some k → (k < n) × (f k ≡ true) × ((j : ℕ) → j < k → f j ≡ false)
unfolding first_below
first_at f zero k e = absurd (let z : ◌≡◌ {A = ℕ} 0 1 = cc in omega arith)
first_at f (suc n) k e = ⊎_elim
    (λ o. let i = first_at f n k o in (omega arith, i.1, i.2))
    (λ o. let i = one_some (f n) n k o.1 in (omega (arith, i.1), rw i.1 i.0, λ j h. first_never f n o.0 j (omega (arith, i.1))))
    (or_some (first_below f n) (cond (f n) (Some n) None) k e)

pub pair_never : (f : ℕ → ℕ → Bool) (m n : ℕ) → first_pair f m n ≡ None → (l r : ℕ) → l < m → r < n → f l r ≡ false
unfolding first_pair
pair_never f zero n e l r h k = absurd (omega arith)
pair_never f (suc m) n e l r h k =
    let o = or_none (first_pair f m n) (with_left m (first_below (f m) n)) e in
    ⊎_elim (λ (q : l ≡ m). rw q (first_never (f m) n (left_none m (first_below (f m) n) o.1) r k))
    (λ (q : l ≡ m → ⊥). pair_never f m n o.0 l r (omega arith) k)
    (cases_eq l m)

pub pair_at : (f : ℕ → ℕ → Bool) (m n : ℕ) (p : ℕ × ℕ) → first_pair f m n ≡ Some p → FirstPair f m n (Some p)
unfolding first_pair
pair_at f zero n p e = absurd (let z : ◌≡◌ {A = ℕ} 0 1 = cc in omega arith)
pair_at f (suc m) n p e = ⊎_elim
    (λ o. let i = pair_at f m n p o in (omega arith, i.1, i.2, i.3, i.4))
    (λ o. let s = left_some m (first_below (f m) n) p o.1 in let i = first_at (f m) n p.1 s.1 in
    (omega (arith, s.0), i.0, rw s.0 i.1, λ l r h k. pair_never f m n o.0 l r (omega (arith, s.0)) k, rw s.0 i.2))
    (or_some (first_pair f m n) (with_left m (first_below (f m) n)) p e)

pub pair_words : (f : ℕ → ℕ → Bool) (m n : ℕ) (o : Option (ℕ × ℕ)) → o ≡ first_pair f m n → FirstPair f m n o
pair_words f m n None e = pair_never f m n (sym e)
pair_words f m n (Some p) e = pair_at f m n p (sym e)

pub pair_clear : (f : ℕ → ℕ → Bool) (m n : ℕ) → ((l r : ℕ) → l < m → r < n → f l r ≡ false) → first_pair f m n ≡ None
pair_clear f m n h = by (first_pair f m n) refl
  where
    by : (o : Option (ℕ × ℕ)) → first_pair f m n ≡ o → first_pair f m n ≡ None
    by None e = e
    by (Some p) e = let i = pair_at f m n p e in absurd (both_ways (f p.0 p.1) (h p.0 p.1 i.0 i.1) i.2)
