-- What the check's answer says of a draft.
use Rattle.std.proofs.Common.{◌≡◌, ℕ, zero, suc, ◌<◌, ◌≤◌, Bool, true, false, cond, not, leb, List, [], ◌∷◌, length, get_or, is_some, Some, None, Option, Result, sym, refl, ap, ◌∙◌, ⊎_elim, arith, lit<, MatchOption}
use Rattle.refusals.specs.Codes.{code_of}
use Rattle.refusals.specs.declared.refusal.Refusal.{Refusal}
use Rattle.std.specs.List.{find}
use Rattle.search.specs.Below.{all_below}
use Rattle.search.proofs.Finds.{pair_never, pair_clear, pair_at}
use Rattle.search.proofs.Somes.{all_decides}
use Rattle.std.proofs.lemmas.Bool.{cases_lt, leb-true, both_ways}
use Rattle.tables.specs.declared.draft.Draft.{Draft}
use Rattle.tables.specs.declared.relation.Relation.{Relation}
use Rattle.tables.specs.declared.relation.Relation.TheVariants.{UserRoles, PermissionAssignment, RolePairAssignment, Bars, StaticSeparation, DynamicSeparation, Administrators, RoleTaskRolePairs, RoleTaskDeviceRoles, PermissionTaskPermissions, PermissionTaskDeviceRoles, ProhibitedPairs}
use Rattle.tables.specs.declared.table.Table.{Table}
use Rattle.tables.specs.declared.table.Table.TheVariants.{Things, Permissions, RolePairs, Entries}
use Rattle.tables.specs.declared.table.Thing.{Thing}
use Rattle.tables.specs.declared.table.Thing.TheVariants.{User, Role, Device, Operation, DeviceRole, Condition, EnvironmentRole}
use Rattle.lawful.specs.Breaking.{breaks, rows_of, columns_of, breach_of}
use Rattle.lawful.specs.Checking.{refusal_of, all_rules, or_rest, first_broken_lem, answer_of, checked, is_lawful}
use Rattle.lawful.specs.Keeping.{Keeps, Lawful, Refused, Says}
use Rattle.lawful.specs.declared.rule.Rule.{Rule}
use Rattle.lawful.specs.declared.rule.Rule.TheVariants.{WithinLimit, PermissionsDeclared, RolePairsDeclared, EntriesDeclared, PermissionsApart, RolePairsApart, PairsDeclared, NumberInRange, RolesSeparate, TasksApart, NothingProhibited, NothingBarred}
use Rattle.lawful.specs.declared.task.Task.{Task}
use Rattle.lawful.proofs.Keeping.{kept, cleared}

-- a rule has no breach exactly where it is kept

pub kept_none : (d : Draft) (rule : Rule) → breach_of d rule ≡ None → Keeps d rule
kept_none d rule e = kept d rule (pair_never (breaks d rule) (rows_of rule) (columns_of rule) e)

pub none_kept : (d : Draft) (rule : Rule) → Keeps d rule → breach_of d rule ≡ None
none_kept d rule k = pair_clear (breaks d rule) (rows_of rule) (columns_of rule) (λ l r _ _. cleared d rule k l r)

broken : {A : Type 0} {o : Option A} {p : A} → o ≡ Some p → o ≡ None → ⊥
broken a b = let z : ◌≡◌ {A = ℕ} 0 1 = cc in omega arith

pub breach_words : (d : Draft) (rule : Rule) (o : Option (ℕ × ℕ)) → o ≡ breach_of d rule → MatchOption o (Keeps d rule) (λ _. Keeps d rule → ⊥)
breach_words d rule None e = kept_none d rule (sym e)
breach_words d rule (Some p) e = λ k. broken (sym e) (none_kept d rule k)

-- the first broken rule of a list

at : List Rule → ℕ → Rule
at rs k = get_or rs k NumberInRange

rest_cases : (r : Rule) (o : Option (ℕ × ℕ)) (rest : Option Rule) → or_rest r o rest ≡ None → (o ≡ None) × (rest ≡ None)
rest_cases r None rest e = (refl, e)
rest_cases r (Some p) rest e = absurd (let z : ◌≡◌ {A = ℕ} 0 1 = cc in omega arith)

none_at : (d : Draft) (rs : List Rule) → first_broken_lem d rs ≡ None → (k : ℕ) → k < length rs → breach_of d (at rs k) ≡ None
unfolding first_broken_lem at
none_at d [] e k h = absurd (omega arith)
none_at d (r ∷ rs) e zero h = (rest_cases r (breach_of d r) (first_broken_lem d rs) e).0
none_at d (r ∷ rs) e (suc k) h = none_at d rs (rest_cases r (breach_of d r) (first_broken_lem d rs) e).1 k (omega arith)

-- the rule stands at k, is broken, and no rule before it is
abbrev Stands : Draft → List Rule → Rule → ℕ → Type 0
Stands d rs q k = (k < length rs) × (at rs k ≡ q) × (breach_of d q ≡ None → ⊥) × ((j : ℕ) → j < k → breach_of d (at rs j) ≡ None)

before : (d : Draft) (r : Rule) (rs : List Rule) (k : ℕ) → breach_of d r ≡ None → ((j : ℕ) → j < k → breach_of d (at rs j) ≡ None)
    → (j : ℕ) → j < suc k → breach_of d (at (r ∷ rs) j) ≡ None
unfolding at
before d r rs k q f zero h = q
before d r rs k q f (suc j) h = f j (omega arith)

same_rule : {x y : Rule} → Some x ≡ Some y → x ≡ y
same_rule e = cc

step : (d : Draft) (r : Rule) (rs : List Rule) (q : Rule) → (first_broken_lem d rs ≡ Some q → (k : ℕ) × Stands d rs q k)
    → (o : Option (ℕ × ℕ)) → breach_of d r ≡ o → or_rest r o (first_broken_lem d rs) ≡ Some q → (k : ℕ) × Stands d (r ∷ rs) q k
unfolding at
step d r rs q rest (Some p) b e =
    let same : r ≡ q = same_rule e in
    (0, (omega arith, same, λ n. broken (ap (λ (x : Rule). breach_of d x) (sym same) ∙ b) n, λ j h. absurd (omega arith)))
step d r rs q rest None b e = let i = rest e in (suc i.0, (omega (arith, i.1.0), i.1.1, i.1.2, before d r rs i.0 b i.1.3))

stands : (d : Draft) (rs : List Rule) (q : Rule) → first_broken_lem d rs ≡ Some q → (k : ℕ) × Stands d rs q k
unfolding first_broken_lem
stands d [] q e = absurd (let z : ◌≡◌ {A = ℕ} 0 1 = cc in omega arith)
stands d (r ∷ rs) q e = step d r rs q (stands d rs q) (breach_of d r) refl e

-- where each rule stands among all

Place : Rule → Type 0
Place rule = (k : ℕ) × (k < 34) × (at all_rules k ≡ rule)

thing_place : (t : Thing) → Place (WithinLimit (Things t))
unfolding Place at
thing_place User = (0, lit< tt, refl)
thing_place Role = (1, lit< tt, refl)
thing_place Device = (2, lit< tt, refl)
thing_place Operation = (3, lit< tt, refl)
thing_place DeviceRole = (4, lit< tt, refl)
thing_place Condition = (5, lit< tt, refl)
thing_place EnvironmentRole = (6, lit< tt, refl)
thing_place Thing.Unit = (7, lit< tt, refl)

table_place : (t : Table) → Place (WithinLimit t)
unfolding Place at
table_place (Things t) = thing_place t
table_place Permissions = (8, lit< tt, refl)
table_place RolePairs = (11, lit< tt, refl)
table_place Entries = (14, lit< tt, refl)

relation_place : (s : Relation) → Place (PairsDeclared s)
unfolding Place at
relation_place UserRoles = (16, lit< tt, refl)
relation_place PermissionAssignment = (17, lit< tt, refl)
relation_place RolePairAssignment = (18, lit< tt, refl)
relation_place Bars = (19, lit< tt, refl)
relation_place StaticSeparation = (20, lit< tt, refl)
relation_place DynamicSeparation = (21, lit< tt, refl)
relation_place Administrators = (22, lit< tt, refl)
relation_place RoleTaskRolePairs = (23, lit< tt, refl)
relation_place RoleTaskDeviceRoles = (24, lit< tt, refl)
relation_place PermissionTaskPermissions = (25, lit< tt, refl)
relation_place PermissionTaskDeviceRoles = (26, lit< tt, refl)
relation_place ProhibitedPairs = (27, lit< tt, refl)

task_place : (t : Task) → Place (TasksApart t)
unfolding Place at
task_place Task.RolePairs = (30, lit< tt, refl)
task_place Task.Permissions = (31, lit< tt, refl)

place : (rule : Rule) → Place rule
unfolding Place at
place (WithinLimit t) = table_place t
place PermissionsDeclared = (9, lit< tt, refl)
place PermissionsApart = (10, lit< tt, refl)
place RolePairsDeclared = (12, lit< tt, refl)
place RolePairsApart = (13, lit< tt, refl)
place EntriesDeclared = (15, lit< tt, refl)
place (PairsDeclared s) = relation_place s
place NumberInRange = (28, lit< tt, refl)
place RolesSeparate = (29, lit< tt, refl)
place (TasksApart t) = task_place t
place NothingProhibited = (32, lit< tt, refl)
place NothingBarred = (33, lit< tt, refl)

-- the rules stand in the order of their refusals' numbers

code_at : ℕ → ℕ
code_at k = code_of (refusal_of (at all_rules k))

abbrev not_after : ℕ → Bool
not_after k = all_below (λ j. leb (code_at j) (code_at k)) (suc k)

in_order : all_below not_after 34 ≡ true
unfolding all_below at code_at
in_order = refl

ordered : (j k : ℕ) → j ≤ k → k < 34 → code_at j ≤ code_at k
ordered j k h n = leb-true _ _ ((all_decides (λ i. leb (code_at i) (code_at k)) (suc k)).0 ((all_decides not_after 34).0 in_order k n) j (omega arith))

at_place : (rule : Rule) (k : ℕ) → at all_rules k ≡ rule → code_at k ≡ code_of (refusal_of rule)
unfolding code_at
at_place rule k e = ap (λ x. code_of (refusal_of x)) e

-- what the answers say

lawful : (d : Draft) → first_broken_lem d all_rules ≡ None → Lawful d
unfolding Place
lawful d n rule = let p = place rule in kept_none d rule (ap (λ x. breach_of d x) (sym p.2) ∙ none_at d all_rules n p.0 p.1)

-- a broken rule has a pair that breaks it
witness : (d : Draft) (q : Rule) → (o : Option (ℕ × ℕ)) → breach_of d q ≡ o → (breach_of d q ≡ None → ⊥) → (l : ℕ) × (r : ℕ) × (breaks d q l r ≡ true)
witness d q None e n = absurd (n e)
witness d q (Some p) e n = (p.0, p.1, (pair_at (breaks d q) (rows_of q) (columns_of q) p e).2)

refused : (d : Draft) (q : Rule) → first_broken_lem d all_rules ≡ Some q → Refused d (refusal_of q)
unfolding Place
refused d q e =
    let s = stands d all_rules q e in (
      (q, refl, λ k. s.1.2 (none_kept d q k), witness d q (breach_of d q) refl s.1.2),
      λ rule h.
          let p = place rule in
          ⊎_elim
          (λ (i : p.0 < s.0). kept_none d rule (ap (λ x. breach_of d x) (sym p.2) ∙ s.1.3 p.0 i))
          (λ (i : s.0 ≤ p.0). absurd (omega (arith, h, ordered s.0 p.0 i p.1, at_place rule p.0 p.2, at_place q s.0 s.1.1)))
          (cases_lt p.0 s.0),
    )

says_by : (d : Draft) (r : Result Unit Refusal) (o : Option Rule) → first_broken_lem d all_rules ≡ o → r ≡ answer_of o → Says d r
says_by d r None q e = rw e (lawful d q)
says_by d r (Some c) q e = rw e (refused d c q)

pub says : (d : Draft) (r : Result Unit Refusal) → r ≡ checked d → Says d r
says d r e = says_by d r (first_broken_lem d all_rules) refl e

no_rule : {A : Type 0} (o : Option A) → not (is_some o) ≡ true → o ≡ None
no_rule None e = refl
no_rule (Some x) e = absurd (both_ways false refl e)

-- what the test says
pub lawful_test : (d : Draft) → is_lawful d ≡ true → Lawful d
lawful_test d e = lawful d (no_rule (first_broken_lem d all_rules) e)

-- the search for the first broken rule, by std's `find`

found_by : (d : Draft) (r : Rule) (rs : List Rule) (o : Option (ℕ × ℕ)) → or_rest r o (first_broken_lem d rs) ≡ cond (is_some o) (Some r) (first_broken_lem d rs)
found_by d r rs None = refl
found_by d r rs (Some p) = refl

pub broken_found : (d : Draft) (rs : List Rule) → first_broken_lem d rs ≡ find (λ r. is_some (breach_of d r)) rs
unfolding first_broken_lem
broken_found d [] = refl
broken_found d (r ∷ rs) = found_by d r rs (breach_of d r) ∙ ap (λ o. cond (is_some (breach_of d r)) (Some r) o) (broken_found d rs)
