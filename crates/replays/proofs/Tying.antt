-- What a call does to the tie between the leases that are held and those that are out.
use Rattle.std.proofs.Common.{◌≡◌, ℕ, ◌<◌, Bool, true, false, cond, not, ◌&&◌, eqb, is_some, Some, None, Option, sym, refl, ap, ◌∙◌, arith}
use Rattle.refusals.specs.declared.answer.Answer.TheVariants.{Accepted, Refused}
use Rattle.refusals.specs.declared.refusal.Refusal.{Refusal}
use Rattle.refusals.specs.declared.refusal.Refusal.TheVariants.{InvalidLease, NoSuchNumber, NotAdministrator, LeaseOut}
use Rattle.rules.specs.Judging.{valid, judge, effect, commit, after}
use Rattle.rules.specs.States.{State, is_for, nobody, with_at}
use Rattle.rules.specs.declared.call.Call.{Call}
use Rattle.rules.specs.declared.call.Call.TheVariants.{Acquire, Assign, Revoke, Release}
use Rattle.rules.specs.declared.call.LeaseNumbers.{LeaseNumbers}
use Rattle.rules.specs.declared.call.Spot.{Spot}
use Rattle.rules.proofs.Deciding.{declared_below}
use Rattle.std.proofs.lemmas.Bool.{and_parts, both_ways}
use Rattle.std.proofs.lemmas.Bool.Decides.{nat_tests}
use Rattle.tables.specs.Drafts.{declared, related}
use Rattle.tables.specs.declared.draft.Draft.{Draft}
use Rattle.tables.specs.declared.table.Table.TheVariants.{Things}
use Rattle.tables.specs.declared.relation.Relation.TheVariants.{Administrators}
use Rattle.tables.specs.declared.table.Thing.{Thing}
use Rattle.tables.specs.declared.table.Thing.TheVariants.{User}
use Rattle.replays.specs.Holding.{none_held, with_held, is_lease}
use Rattle.replays.specs.Ties.{lease_for, is_tied, Tied}
use Rattle.replays.proofs.Places.{held_is}

abbrev pub Tie : Draft → State → (ℕ → Option LeaseNumbers) → Type 0
Tie d s h = Tied d.number s.lease h

-- the same draft and leases
pub tie_same : (d e : Draft) (s t : State) (h : ℕ → Option LeaseNumbers) → e ≡ d → t.lease ≡ s.lease → Tie d s h → Tie e t h
tie_same d e s t h p q tie u = (λ i. is_tied (p i).number u (q i u) (h u)) ∙ tie u

-- one lease more, and one lease less
more_tied : (n u v w : ℕ) (o : Option ℕ) (p : Option LeaseNumbers) → is_tied n u o p ≡ true
    → is_tied n u (cond (eqb v u) (Some w) o) (cond (eqb v u) (Some (record { house = n; unit = v; user = w })) p) ≡ true
more_tied n u v w o p h = grind (arith, nat_tests)

less_tied : (n u v : ℕ) (o : Option ℕ) (p : Option LeaseNumbers) → is_tied n u o p ≡ true → is_tied n u (cond (eqb v u) None o) (cond (eqb v u) None p) ≡ true
less_tied n u v o p h = grind (arith, nat_tests)

pub tie_acquired : (d e : Draft) (s t : State) (v w : ℕ) (k : LeaseNumbers) (h j : ℕ → Option LeaseNumbers)
    → Accepted ≡ judge d s (Acquire v w) → e ≡ d → t ≡ after d s (Acquire v w)
    → k ≡ record { house = d.number; unit = v; user = w } → j ≡ with_held h k.unit (Some k) → Tie d s h → Tie e t j
unfolding with_at with_held
tie_acquired d e s t v w k h j a p q r m tie =
    tie_same d e (effect s (Acquire v w)) t j p (ap (λ (x : State). x.lease) (q ∙ ap (λ b. commit b s (effect s (Acquire v w))) (sym a)))
    (λ u. ap (λ (f : ℕ → Option LeaseNumbers). is_tied d.number u (cond (eqb v u) (Some w) (s.lease u)) (f u)) (m ∙ ap (λ (x : LeaseNumbers). with_held h x.unit (Some x)) r)
    ∙ more_tied d.number u v w (s.lease u) (h u) (tie u))

pub tie_released : (d e : Draft) (s t : State) (k : LeaseNumbers) (h j : ℕ → Option LeaseNumbers)
    → Accepted ≡ judge d s (Release k) → e ≡ d → t ≡ after d s (Release k) → j ≡ with_held h k.unit None → Tie d s h → Tie e t j
unfolding with_at with_held
tie_released d e s t k h j a p q m tie =
    tie_same d e (effect s (Release k)) t j p (ap (λ (x : State). x.lease) (q ∙ ap (λ b. commit b s (effect s (Release k))) (sym a)))
    (λ u. ap (λ (f : ℕ → Option LeaseNumbers). is_tied d.number u (cond (eqb k.unit u) None (s.lease u)) (f u)) m
    ∙ less_tied d.number u k.unit (s.lease u) (h u) (tie u))

-- where none is out none is held
pub free_place : (n u : ℕ) (o : Option ℕ) (p : Option LeaseNumbers) → is_tied n u o p ≡ true → is_some o ≡ false → is_some p ≡ false
free_place n u o p h e = grind (arith, nat_tests)

-- a lease is valid exactly where it is held
valid_held : (n : ℕ) (k : LeaseNumbers) (o : Option ℕ) (p : Option LeaseNumbers) → is_tied n k.unit o p ≡ true → (eqb k.house n && is_for o k.user) ≡ is_lease p k
valid_held n k None None h = grind (arith, nat_tests)
valid_held n k None (Some j) h = grind (arith, nat_tests)
valid_held n k (Some w) None h = grind (arith, nat_tests)
valid_held n k (Some w) (Some j) h = grind (arith, nat_tests)

pub validity : (d : Draft) (s : State) (h : ℕ → Option LeaseNumbers) (k : LeaseNumbers) → Tie d s h → valid d s k ≡ is_lease (h k.unit) k
validity d s h k tie = valid_held d.number k (s.lease k.unit) (h k.unit) (tie k.unit)

-- what the rules say to a lease that is not held
pub record Stale (d : Draft) (s : State) (k : LeaseNumbers) : Type 0 where
  pub assign : (x : Spot) → Refused InvalidLease ≡ judge d s (Assign k x)
  pub revoke : (x : Spot) → Refused InvalidLease ≡ judge d s (Revoke k x)

pub stale : (d : Draft) (s : State) (h : ℕ → Option LeaseNumbers) (k : LeaseNumbers) → Tie d s h → is_lease (h k.unit) k ≡ false → Stale d s k
stale d s h k tie f =
    let e : valid d s k ≡ false = validity d s h k tie ∙ f in
    record { assign = λ x. grind (arith, nat_tests); revoke = λ x. grind (arith, nat_tests) }

pub unchanged : (d : Draft) (s : State) (c : Call) (g : Refusal) → Refused g ≡ judge d s c → s ≡ after d s c
unchanged d s c g e = ap (λ a. commit a s (effect s c)) e

-- a lease that is held is taken back
pub taken_back : (d : Draft) (s : State) (h : ℕ → Option LeaseNumbers) (k : LeaseNumbers) → Tie d s h → is_lease (h k.unit) k ≡ true → Accepted ≡ judge d s (Release k)
taken_back d s h k tie f = let e : valid d s k ≡ true = validity d s h k tie ∙ f in grind (arith, nat_tests)

-- no lease is out, and none is held
pub tie_none : (n : ℕ) (out : ℕ → Option ℕ) (h : ℕ → Option LeaseNumbers) → out ≡ nobody → h ≡ none_held → Tied n out h
unfolding nobody none_held
tie_none n out h a b u = λ i. is_tied n u (a i u) (b i u)

-- the leases held, in words
told : (n u : ℕ) (o : Option ℕ) (p : Option LeaseNumbers) → is_tied n u o p ≡ true → p ≡ lease_for n u o
told n u None None h = refl
told n u None (Some k) h = absurd (both_ways false refl h)
told n u (Some w) p h = held_is p (record { house = n; unit = u; user = w }) h

pub tie_told : (n : ℕ) (out : ℕ → Option ℕ) (h : ℕ → Option LeaseNumbers) → Tied n out h → (u : ℕ) → h u ≡ lease_for n u (out u)
tie_told n out h tie u = told n u (out u) (h u) (tie u)

-- where an acquire is accepted, the unit has a place, and no lease of it is held
accepts : (a b c : Bool) → Accepted ≡ cond (not a) (Refused NoSuchNumber) (cond (not b) (Refused NotAdministrator) (cond c (Refused LeaseOut) Accepted)) → (a ≡ true) × (c ≡ false)
accepts true true false e = (refl, refl)
accepts true true true e = absurd (let z : ◌≡◌ {A = ℕ} 0 1 = cc in omega arith)
accepts true false c e = absurd (let z : ◌≡◌ {A = ℕ} 0 1 = cc in omega arith)
accepts false b c e = absurd (let z : ◌≡◌ {A = ℕ} 0 1 = cc in omega arith)

module _ (d : Draft) (s : State) (v w : ℕ) (e : Accepted ≡ judge d s (Acquire v w)) where
  parts : ((declared d (Things Thing.Unit) v && declared d (Things User) w) ≡ true) × (is_some (s.lease v) ≡ false)
  parts = accepts (declared d (Things Thing.Unit) v && declared d (Things User) w) (related d Administrators w v) (is_some (s.lease v)) e

  pub unit_below : v < 16
  unit_below = declared_below d (Things Thing.Unit) v (and_parts _ _ parts.0).0

  pub no_other : (h : ℕ → Option LeaseNumbers) (k j : LeaseNumbers) → Tie d s h → k ≡ record { house = d.number; unit = v; user = w } → (k.unit < 16 → Some j ≡ h k.unit) → ⊥
  no_other h k j tie r f =
      let u : k.unit ≡ v = ap (λ (x : LeaseNumbers). x.unit) r in
      let i : k.unit < 16 = rw u unit_below in
      both_ways (is_some (h v)) (free_place d.number v (s.lease v) (h v) (tie v) parts.1) (ap is_some (sym (f i ∙ ap h u)))
