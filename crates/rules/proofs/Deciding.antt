-- The tests of a state, each with what it says in words.
use Rattle.std.proofs.Common.{◌≡◌, ℕ, ◌<◌, Bool, true, false, ltb, is_some, Some, None, Decides, Option, refl, ap, ◌∙◌, arith}
use Rattle.std.proofs.lemmas.Bool.{both_ways, and_parts, and_from, eqb-true, eq-eqb, ltb-true}
use Rattle.std.proofs.lemmas.Bool.Decides.{nat_tests, Decides-eqb, Decides-and}
use Rattle.tables.specs.Drafts.{declared, count}
use Rattle.tables.specs.Limits.{table_limit}
use Rattle.tables.specs.declared.draft.Draft.{Draft}
use Rattle.tables.specs.declared.table.Table.{Table}
use Rattle.rules.specs.Judging.{valid}
use Rattle.rules.specs.Reasons.{Valid, Known}
use Rattle.rules.specs.Spots.{known, same_spot}
use Rattle.rules.specs.States.{State, is_for, holds_role}
use Rattle.rules.specs.declared.call.LeaseNumbers.{LeaseNumbers}
use Rattle.rules.specs.declared.call.Spot.{Spot}
use Rattle.rules.specs.declared.call.Spot.TheVariants.{RolePair, Permission}

-- a test says that it passes
pub decides_self : (b : Bool) → Decides b (b ≡ true)
decides_self b = ((λ e. e), (λ e. e))

pub decides_some : (o : Option ℕ) → Decides (is_some o) ((w : ℕ) × (o ≡ Some w))
decides_some None = ((λ e. absurd (both_ways false refl e)), (λ w. absurd (let z : ◌≡◌ {A = ℕ} 0 1 = cc w.1 in omega arith)))
decides_some (Some v) = ((λ _. (v, refl)), (λ _. refl))

pub decides_for : (o : Option ℕ) (w : ℕ) → Decides (is_for o w) (o ≡ Some w)
decides_for None w = ((λ e. absurd (both_ways false refl e)), (λ e. absurd (let z : ◌≡◌ {A = ℕ} 0 1 = cc in omega arith)))
decides_for (Some v) w = ((λ e. ap Some (eqb-true v w e)), (λ e. let q : v ≡ w = cc in eq-eqb v w q))

pub decides_holds : (held : ℕ → ℕ → Bool) (o : Option ℕ) (r : ℕ) → Decides (holds_role held o r) ((w : ℕ) × (o ≡ Some w) × (held w r ≡ true))
decides_holds held None r = ((λ e. absurd (both_ways false refl e)), (λ w. absurd (let z : ◌≡◌ {A = ℕ} 0 1 = cc w.1 in omega arith)))
decides_holds held (Some v) r = ((λ e. (v, refl, e)), (λ w. let q : v ≡ w.0 = cc w.1 in ap (λ n. held n r) q ∙ w.2))

pub decides_valid : (d : Draft) (s : State) (k : LeaseNumbers) → Decides (valid d s k) (Valid d s k)
decides_valid d s k = Decides-and _ _ (Decides-eqb k.house d.number) (decides_for (s.lease k.unit) k.user)

pub decides_known : (d : Draft) (x : Spot) → Decides (known d x) (Known d x)
decides_known d (RolePair q e) = Decides-and _ _ (decides_self _) (decides_self _)
decides_known d (Permission p e) = Decides-and _ _ (decides_self _) (decides_self _)

-- a declared number is below the limit of its list
pub declared_below : (d : Draft) (t : Table) (n : ℕ) → declared d t n ≡ true → n < table_limit t
declared_below d t n e = ltb-true n (table_limit t) (and_parts (ltb n (count d t)) (ltb n (table_limit t)) e).1

-- two spots that the test calls the same are
pub same_true : (x y : Spot) → same_spot x y ≡ true → y ≡ x
same_true (RolePair a b) (RolePair c e) h = grind (arith, nat_tests)
same_true (RolePair a b) (Permission c e) h = cc
same_true (Permission a b) (RolePair c e) h = cc
same_true (Permission a b) (Permission c e) h = grind (arith, nat_tests)

pub same_self : (x : Spot) → same_spot x x ≡ true
same_self (RolePair a b) = and_from _ _ (eq-eqb a a refl) (eq-eqb b b refl)
same_self (Permission a b) = and_from _ _ (eq-eqb a a refl) (eq-eqb b b refl)
