-- A draft with nothing in it is lawful, and what a house holds right after an opening.
use Rattle.std.proofs.Common.{◌≡◌, ℕ, Bool, true, false, not, ltb, is_some, Some, None, Ok, Err, Option, sym, refl, ap, ◌∙◌, arith}
use mathlib.Core.Path.{fun_ext}
use Rattle.lawful.specs.Checking.{all_rules, first_broken_lem, refusal_of, answer_of, is_lawful}
use Rattle.lawful.specs.Keeping.{Declared, In, Keeps, Lawful}
use Rattle.lawful.specs.declared.rule.Rule.{Rule}
use Rattle.lawful.specs.declared.rule.Rule.TheVariants.{WithinLimit, PermissionsDeclared, RolePairsDeclared, EntriesDeclared, PermissionsApart, RolePairsApart, PairsDeclared, NumberInRange, RolesSeparate, TasksApart, NothingProhibited, NothingBarred}
use Rattle.lawful.proofs.Answering.{says, lawful_test}
use Rattle.lawful.proofs.Bounds.{refute}
use Rattle.rules.specs.Reaching.{reaches_barred_lem}
use Rattle.rules.specs.Spots.{Pairs}
use Rattle.rules.specs.States.{State, opening_pairs, nobody, none_active, opened}
use Rattle.rules.specs.declared.call.Spot.{Spot}
use Rattle.rules.specs.declared.call.Spot.TheVariants.{RolePair, Permission}
use Rattle.rules.proofs.Reaching.{reaches_decides}
use Rattle.std.proofs.lemmas.Bool.{and_parts, both_ways, ltb-true}
use Rattle.stores.specs.Pairs.{no_pairs}
use Rattle.tables.specs.Drafts.{count, related, Empty}
use Rattle.tables.specs.Limits.{table_limit}
use Rattle.tables.specs.declared.draft.Draft.{Draft}
use Rattle.tables.specs.declared.relation.Relation.{Relation}
use Rattle.tables.specs.declared.relation.Relation.TheVariants.{UserRoles, PermissionAssignment, RolePairAssignment}
use Rattle.tables.specs.declared.table.Table.{Table}
use Rattle.tables.specs.declared.table.Table.TheVariants.{Permissions, RolePairs, Entries}
use Rattle.assignments.specs.Assigned.{nothing_assigned}

-- a draft whose rules are all kept passes the test
pub lawful_back : (d : Draft) → Lawful d → is_lawful d ≡ true
lawful_back d l = by (first_broken_lem d all_rules) refl
  where
    by : (o : Option Rule) → first_broken_lem d all_rules ≡ o → is_lawful d ≡ true
    by None e = ap (λ o. not (is_some o)) e
    by (Some c) e = let s = says d (Err (refusal_of c)) (sym (ap answer_of e)) in absurd (s.0.2 (l s.0.0))

pub checked_lawful : (d : Draft) → Ok tt ≡ answer_of (first_broken_lem d all_rules) → is_lawful d ≡ true
checked_lawful d e = lawful_back d (says d (Ok tt) e)

module _ (d : Draft) (e : Empty d) where
  undeclared : (t : Table) (n : ℕ) → Declared d t n → ⊥
  undeclared t n h = omega (arith, e.1 t, ltb-true n (count d t) (and_parts (ltb n (count d t)) (ltb n (table_limit t)) h).0)

  unrelated : (r : Relation) (a b : ℕ) → In d r a b → ⊥
  unfolding no_pairs
  unrelated r a b h = both_ways (related d r a b) (ap (λ f. f a b) (e.2 r)) h

  empty_keeps : (rule : Rule) → Keeps d rule
  empty_keeps (WithinLimit t) = omega (arith, e.1 t)
  empty_keeps PermissionsDeclared = λ p h. absurd (undeclared Permissions p h)
  empty_keeps RolePairsDeclared = λ q h. absurd (undeclared RolePairs q h)
  empty_keeps EntriesDeclared = λ k h. absurd (undeclared Entries k h)
  empty_keeps PermissionsApart = λ i j _ h _ _. undeclared Permissions j h
  empty_keeps RolePairsApart = λ i j _ h _ _. undeclared RolePairs j h
  empty_keeps (PairsDeclared s) = λ a b h. absurd (unrelated s a b h)
  empty_keeps NumberInRange = omega (arith, e.0)
  empty_keeps RolesSeparate = λ u a b h _ _. unrelated UserRoles u a h
  empty_keeps (TasksApart t) = λ l m u v h _. absurd (unrelated _ l u (and_parts _ _ h).0)
  empty_keeps NothingProhibited = λ q m _ h. unrelated RolePairAssignment q m h
  empty_keeps NothingBarred = λ q m p h _ _. unrelated RolePairAssignment q m h

  pub empty_lawful : is_lawful d ≡ true
  empty_lawful = lawful_back d empty_keeps

  -- it assigns nothing
  nothing_there : (x : Spot) → nothing_assigned x ≡ opening_pairs d x
  unfolding nothing_assigned opening_pairs no_pairs
  nothing_there (RolePair q m) = sym (ap (λ f. f q m) (e.2 RolePairAssignment))
  nothing_there (Permission p m) = sym (ap (λ f. f p m) (e.2 PermissionAssignment))

  pub nothing_opens : nothing_assigned ≡ opening_pairs d
  nothing_opens = fun_ext nothing_there

-- no role reaches a barred permission right after an opening
pub opening_sound : (d : Draft) → is_lawful d ≡ true → reaches_barred_lem d (opening_pairs d) ≡ false
unfolding opening_pairs
opening_sound d h =
    refute _ (λ r. let w = (reaches_decides d (opening_pairs d)).0 r in lawful_test d h NothingBarred w.0 w.1 w.2 w.5 w.6 w.7)

pub loaded_sound : (d : Draft) (pairs : Pairs) → is_lawful d ≡ true → pairs ≡ opening_pairs d → reaches_barred_lem d pairs ≡ false
loaded_sound d pairs h e = ap (reaches_barred_lem d) e ∙ opening_sound d h

-- the state of a house that holds what the draft says
pub opens : (d : Draft) (pairs : Pairs) (held : ℕ → ℕ → Bool) (lease session : ℕ → Option ℕ) (active : ℕ → ℕ → Bool)
    → pairs ≡ opening_pairs d → held ≡ related d UserRoles → lease ≡ nobody → session ≡ nobody → active ≡ none_active
    → ◌≡◌ {A = State} (record { pairs = pairs; held = held; lease = lease; session = session; active = active }) (opened d)
opens d pairs held lease session active p c e f g = λ i. record { pairs = p i; held = c i; lease = e i; session = f i; active = g i }
