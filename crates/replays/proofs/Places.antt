-- Leases held in the places of the units.
use Rattle.std.proofs.Common.{◌≡◌, ℕ, ◌<◌, ◌≤◌, Bool, true, false, cond, ◌&&◌, eqb, List, length, get_or, set, Some, None, Option, Ok, Err, Result, ok_or, sym, refl, ap, ◌∙◌, subst, ⊎_elim, arith, MatchOption}
use mathlib.Core.Path.{fun_ext}
use Rattle.house.specs.declared.lease.Lease.{Lease}
use Rattle.rules.specs.declared.call.LeaseNumbers.{LeaseNumbers}
use Rattle.std.proofs.lemmas.List.{get_or-set_same, get_or-set_other}
use Rattle.std.proofs.lemmas.Bool.{cases_eq, cases_lt, lt-ltb, le-ltb, eq-eqb, ne_eqb, eqb-true, and_parts, both_ways}
use Rattle.replays.specs.Holding.{numbers_in, held_in, none_held, with_held, same_numbers, is_lease}

-- what is held in the place of a unit, and past the last
pub held_at : (xs : List (Option Lease)) (u : ℕ) (o : Option Lease) → u < 16 → get_or xs u None ≡ o → held_in xs u ≡ numbers_in o
unfolding held_in
held_at xs u o h e = ap (λ b. cond b (numbers_in (get_or xs u None)) None) (lt-ltb u 16 h) ∙ ap numbers_in e

pub held_past : (xs : List (Option Lease)) (u : ℕ) → 16 ≤ u → held_in xs u ≡ None
unfolding held_in
held_past xs u h = ap (λ b. cond b (numbers_in (get_or xs u None)) None) (le-ltb u 16 h)

pub nothing_held : (xs : List (Option Lease)) → ((u : ℕ) → u < 16 → get_or xs u None ≡ None) → held_in xs ≡ none_held
unfolding none_held
nothing_held xs e = fun_ext λ u. ⊎_elim (λ h. held_at xs u None h (e u h)) (λ h. held_past xs u h) (cases_lt u 16)

-- a change of one place
pub held_with : (xs ys : List (Option Lease)) (u : ℕ) (o : Option Lease) → u < 16 → u < length xs → ys ≡ set xs u o → held_in ys ≡ with_held (held_in xs) u (numbers_in o)
unfolding held_in with_held
held_with xs ys u o p n e = ap held_in e ∙ fun_ext λ j. ⊎_elim
    (λ (h : j ≡ u). rw (h, get_or-set_same xs u o None n, lt-ltb u 16 p, eq-eqb u u refl))
    (λ (h : j ≡ u → ⊥). rw (get_or-set_other xs u j o None h, ne_eqb u j (λ e. h (sym e))))
    (cases_eq j u)

-- three numbers compared one after another
pub fields_same : (a b : LeaseNumbers) (r : Bool) → r ≡ (eqb a.house b.house && (eqb a.unit b.unit && eqb a.user b.user)) → r ≡ same_numbers a b
fields_same a b r e = e ∙ by (eqb a.house b.house)
  where
    by : (x : Bool) → (x && (eqb a.unit b.unit && eqb a.user b.user)) ≡ ((x && eqb a.unit b.unit) && eqb a.user b.user)
    by true = refl
    by false = refl

-- the same numbers are one lease's
pub numbers_same : (a b : LeaseNumbers) → true ≡ same_numbers a b → a ≡ b
numbers_same a b e =
    let p = and_parts (eqb a.house b.house && eqb a.unit b.unit) (eqb a.user b.user) (sym e) in
    let q = and_parts (eqb a.house b.house) (eqb a.unit b.unit) p.0 in
    let h = eqb-true a.house b.house q.0 in
    let u = eqb-true a.unit b.unit q.1 in
    let w = eqb-true a.user b.user p.1 in
    λ i. record { house = h i; unit = u i; user = w i }

-- whether the lease in a place has these numbers
pub lease_at : (xs : List (Option Lease)) (k : LeaseNumbers) (o : Option Lease) → k.unit < 16 → get_or xs k.unit None ≡ o → is_lease (numbers_in o) k ≡ is_lease (held_in xs k.unit) k
lease_at xs k o h e = ap (λ p. is_lease p k) (sym (held_at xs k.unit o h e))

pub lease_past : (xs : List (Option Lease)) (k : LeaseNumbers) → 16 ≤ k.unit → false ≡ is_lease (held_in xs k.unit) k
lease_past xs k h = ap (λ p. is_lease p k) (sym (held_past xs k.unit h))

-- a lease that is held stands in the place of a unit, and is the one named
pub held_below : (xs : List (Option Lease)) (k : LeaseNumbers) → is_lease (held_in xs k.unit) k ≡ true → k.unit < 16
held_below xs k e = ⊎_elim (λ h. h) (λ h. absurd (both_ways _ (sym (lease_past xs k h)) e)) (cases_lt k.unit 16)

pub held_is : (o : Option LeaseNumbers) (k : LeaseNumbers) → is_lease o k ≡ true → o ≡ Some k
held_is None k e = absurd (both_ways false refl e)
held_is (Some j) k e = ap Some (numbers_same j k (sym e))

-- what is known where a lease was taken out
pub record Removed (h : ℕ → Option LeaseNumbers) (k : LeaseNumbers) (left : ℕ → Option LeaseNumbers) (j : LeaseNumbers) : Type 0 where
  pub there : is_lease (h k.unit) k ≡ true
  pub same : j ≡ k
  pub rest : left ≡ with_held h k.unit None

pub removed : (h : ℕ → Option LeaseNumbers) (k : LeaseNumbers) (rest : ℕ → Option LeaseNumbers) (j : LeaseNumbers)
    → Some j ≡ cond (is_lease (h k.unit) k) (Some k) None → rest ≡ cond (is_lease (h k.unit) k) (with_held h k.unit None) h → Removed h k rest j
removed h k rest j a b = by (is_lease (h k.unit) k) refl a b
  where
    by : (t : Bool) → is_lease (h k.unit) k ≡ t → Some j ≡ cond t (Some k) None → rest ≡ cond t (with_held h k.unit None) h → Removed h k rest j
    by true e a b = record { there = e; same = cc; rest = b }
    by false e a b = absurd (let z : ◌≡◌ {A = ℕ} 0 1 = cc in omega arith)

-- what a result made of an option tells of it
pub some_there : {A E : Type 0} (o : Option A) (r : Result A E) (g : E) (a : A) → r ≡ ok_or o g → r ≡ Ok a → o ≡ Some a
some_there (Some x) r g a p q = cc
some_there None r g a p q = absurd (let z : ◌≡◌ {A = ℕ} 0 1 = cc in omega arith)

pub none_there : {A E : Type 0} (o : Option A) (r : Result A E) (g e : E) → r ≡ ok_or o g → r ≡ Err e → o ≡ None
none_there (Some x) r g e p q = absurd (let z : ◌≡◌ {A = ℕ} 0 1 = cc in omega arith)
none_there None r g e p q = refl

-- what was known of the option in either case
pub in_some : {A E : Type 0} (P : Type 0) (Q : A → Type 0) (o : Option A) (r : Result A E) (g : E) (a : A) → r ≡ ok_or o g → r ≡ Ok a → MatchOption o P Q → Q a
in_some P Q o r g a p q h = subst (λ x. MatchOption x P Q) (some_there o r g a p q) h

pub in_none : {A E : Type 0} (P : Type 0) (Q : A → Type 0) (o : Option A) (r : Result A E) (g e : E) → r ≡ ok_or o g → r ≡ Err e → MatchOption o P Q → P
in_none P Q o r g e p q h = subst (λ x. MatchOption x P Q) (none_there o r g e p q) h
