-- A rule is kept, in words, exactly where no pair breaks it.
use Rattle.std.proofs.Common.{◌≡◌, ℕ, ◌<◌, ◌≤◌, Bool, true, false, not, ◌&&◌, ◌||◌, ltb, leb, refl, ap, ◌∙◌, ⊎_elim, arith, lit<}
use Rattle.rows.specs.Numbers.{beyond, agree}
use Rattle.rows.specs.Rows.{numbers}
use Rattle.rows.specs.declared.row.Row.{Row}
use Rattle.rows.proofs.Bits.{bits_below}
use Rattle.rows.proofs.Numbers.{agree_decides}
use Rattle.search.specs.Below.{all_below}
use Rattle.search.proofs.Somes.{some_at, some_left, some_found, some_never}
use Rattle.std.proofs.lemmas.Bool.{both_ways, cases_order, and_parts, and_from, or_parts, or_left, or_cases, leb-true, ltb-true, ltb-false, lt-ltb, eq-eqb, eqb-true, not-true, not-false}
use Rattle.std.proofs.lemmas.Bool.Decides.{nat_tests}
use Rattle.tables.specs.Adding.{goes_beyond_lem}
use Rattle.tables.specs.Drafts.{things, count, declared, related, role_pair_at, entry_at}
use Rattle.tables.specs.Limits.{table_limit}
use Rattle.tables.specs.declared.draft.Draft.{Draft}
use Rattle.tables.specs.declared.relation.Relation.TheVariants.{UserRoles, RolePairAssignment, Bars, ProhibitedPairs}
use Rattle.tables.specs.declared.table.Table.{Table}
use Rattle.tables.specs.declared.table.Table.TheVariants.{Permissions, RolePairs, Entries}
use Rattle.tables.specs.declared.table.Thing.TheVariants.{Condition, EnvironmentRole}
use Rattle.lawful.specs.Breaking.{breaks, rows_of, columns_of, separated_by, shared, reaches_by}
use Rattle.lawful.specs.Keeping.{Declared, Keeps}
use Rattle.lawful.specs.Tasks.{held_by, rights_of, lefts_of, TasksAreApart}
use Rattle.lawful.specs.declared.rule.Rule.{Rule}
use Rattle.lawful.specs.declared.rule.Rule.TheVariants.{WithinLimit, PermissionsDeclared, RolePairsDeclared, EntriesDeclared, PermissionsApart, RolePairsApart, PairsDeclared, NumberInRange, RolesSeparate, TasksApart, NothingProhibited, NothingBarred}
use Rattle.lawful.specs.declared.task.Task.{Task}
use Rattle.lawful.proofs.Bounds.{related_bounded, refute}
use Rattle.lawful.proofs.Holding.{unit_below}

-- no pair that a breach can have breaks the rule
abbrev Clear : Draft → Rule → Type 0
Clear d rule = (l r : ℕ) → l < rows_of rule → r < columns_of rule → breaks d rule l r ≡ false

-- a declared number of a list is below 64
place_below : (d : Draft) (t : Table) (n : ℕ) → table_limit t ≤ 64 → Declared d t n → n < 64
place_below d t n h e = let p = and_parts (ltb n (count d t)) (ltb n (table_limit t)) e in omega (arith, ltb-true n (table_limit t) p.1)

-- what a failed test of an item tells: the item is there, so nothing that it names is undeclared
told : (x y : Bool) → (x && y) ≡ false → x ≡ true → y ≡ false
told true y e h = e
told false y e h = absurd (both_ways false refl h)

told_both : (x y : Bool) → not (x && y) ≡ false → (x ≡ true) × (y ≡ true)
told_both x y e = and_parts x y (not-false (x && y) e)

-- a set with no number beyond n
row_below : (s : Row) (n : ℕ) → goes_beyond_lem (numbers s) n ≡ false → (e : ℕ) → numbers s e ≡ true → e < n
row_below s n h e t = let b = bits_below s.bits e t in let k = some_left (beyond (numbers s) n) 32 e h b in grind (arith, nat_tests)

row_clear : (s : Row) (n : ℕ) → ((e : ℕ) → numbers s e ≡ true → e < n) → goes_beyond_lem (numbers s) n ≡ false
row_clear s n h = some_never (beyond (numbers s) n) 32 (λ e _. refute (leb n e && numbers s e)
    (λ t. let p = and_parts (leb n e) (numbers s e) t in omega (arith, leb-true n e p.0, h e p.1)))

-- what an item names is declared, where the test says so
named : (x : Bool) (s : Row) (n : ℕ) → (not x || goes_beyond_lem (numbers s) n) ≡ false → (x ≡ true) × ((e : ℕ) → numbers s e ≡ true → e < n)
named x s n h = let p = or_parts (not x) (goes_beyond_lem (numbers s) n) h in (not-false x p.0, row_below s n p.1)

unnamed : (x : Bool) (s : Row) (n : ℕ) → (not x || goes_beyond_lem (numbers s) n) ≡ true → (x ≡ true) × ((e : ℕ) → numbers s e ≡ true → e < n) → ⊥
unnamed x s n h k = ⊎_elim
    (λ t. both_ways x (not-true x t) k.0)
    (λ t. both_ways _ (row_clear s n k.1) t)
    (or_cases (not x) (goes_beyond_lem (numbers s) n) h)

-- two rows hold the same numbers exactly where the test of all numbers says so
rows_alike : (s t : Row) → numbers s ≡ numbers t → all_below (agree (numbers s) (numbers t)) 32 ≡ true
rows_alike s t e = (agree_decides s.bits t.bits _ refl).1 e

alike_rows : (s t : Row) → all_below (agree (numbers s) (numbers t)) 32 ≡ true → numbers s ≡ numbers t
alike_rows s t e = (agree_decides s.bits t.bits _ refl).0 e

shared_pair : (d : Draft) (t : Task) (l e u v : ℕ) → v < u → held_by d t l e u ≡ true → held_by d t l e v ≡ true → shared d t l e ≡ true
shared_pair d t l e u v h a b = some_at _ 32 u (unit_below d t l e u a) (and_from _ _ a (some_at _ u v h b))

tasks_kept : (d : Draft) (t : Task) → ((l e : ℕ) → l < 64 → e < 64 → shared d t l e ≡ false) → TasksAreApart d t
tasks_kept d t c l e u v a b =
    let p = and_parts (related d (lefts_of t) l u) (related d (rights_of t) e u) a in
    let n : shared d t l e ≡ false = c l e (related_bounded d (lefts_of t) l u p.0).0 (related_bounded d (rights_of t) e u p.1).0 in
    ⊎_elim (λ q. q)
    (⊎_elim
    (λ h. absurd (both_ways _ n (shared_pair d t l e v u h b a)))
    (λ h. absurd (both_ways _ n (shared_pair d t l e u v h a b))))
    (cases_order u v)

tasks_clear : (d : Draft) (t : Task) → TasksAreApart d t → (l e : ℕ) → shared d t l e ≡ false
tasks_clear d t k l e = refute _ (λ s.
    let f = some_found _ 32 s in
    let p = and_parts _ _ f.2 in
    let g = some_found _ f.0 p.1 in
    omega (arith, k l e f.0 g.0 p.0 g.2, g.1))

pub kept : (d : Draft) (rule : Rule) → Clear d rule → Keeps d rule
kept d (WithinLimit t) c = ltb-false (table_limit t) (count d t) (c 0 0 (lit< tt) (lit< tt))
kept d PermissionsDeclared c = λ p h. told_both _ _ (told _ _ (c p 0 (place_below d Permissions p (omega arith) h) (lit< tt)) h)
kept d RolePairsDeclared c = λ q h. named _ (role_pair_at d q).environment_roles (things d EnvironmentRole) (told _ _ (c q 0 (place_below d RolePairs q (omega arith) h) (lit< tt)) h)
kept d EntriesDeclared c = λ k h. named _ (entry_at d k).conditions (things d Condition) (told _ _ (c k 0 (place_below d Entries k (omega arith) h) (lit< tt)) h)
kept d PermissionsApart c = λ i j h k x y.
    let b = place_below d Permissions j (omega arith) k in
    both_ways _ (c i j (omega arith) b) (and_from _ _ (lt-ltb i j h) (and_from _ _ k (and_from _ _ (eq-eqb _ _ x) (eq-eqb _ _ y))))
kept d RolePairsApart c = λ i j h k x y.
    let b = place_below d RolePairs j (omega arith) k in
    both_ways _ (c i j (omega arith) b)
    (and_from _ _ (lt-ltb i j h) (and_from _ _ k (and_from _ _ (eq-eqb _ _ x) (rows_alike (role_pair_at d i).environment_roles (role_pair_at d j).environment_roles y))))
kept d (PairsDeclared s) c = λ a b h. let n = related_bounded d s a b h in told_both _ _ (told _ _ (c a b n.0 n.1) h)
kept d NumberInRange c = ltb-false 999999 d.number (c 0 0 (lit< tt) (lit< tt))
kept d RolesSeparate c = λ u a b x y z.
    let n = related_bounded d UserRoles u a x in
    both_ways _ (c u a n.0 n.1)
    (and_from _ _ x (some_at (separated_by d u a) 32 b (related_bounded d UserRoles u b y).1 (and_from _ _ y (or_left _ _ z))))
kept d (TasksApart t) c = tasks_kept d t c
kept d NothingProhibited c = λ q e x y. let n = related_bounded d ProhibitedPairs q e x in both_ways _ (c q e n.0 n.1) (and_from _ _ x y)
kept d NothingBarred c = λ q e p x y z.
    let a = related_bounded d RolePairAssignment q e x in
    let n = related_bounded d Bars p (role_pair_at d q).role z in
    both_ways _ (c p (role_pair_at d q).role n.0 n.1)
    (and_from _ _ z (some_at (reaches_by d (role_pair_at d q).role p) 64 q a.0
    (and_from _ _ (eq-eqb (role_pair_at d q).role (role_pair_at d q).role refl) (some_at _ 32 e a.1 (and_from _ _ x y)))))

-- and back
pub cleared : (d : Draft) (rule : Rule) → Keeps d rule → (l r : ℕ) → breaks d rule l r ≡ false
cleared d (WithinLimit t) k l r = refute _ (λ h. omega (arith, k, ltb-true (table_limit t) (count d t) h))
cleared d PermissionsDeclared k l r = refute _ (λ h.
    let a = and_parts _ _ h in let n = k l a.0 in
    both_ways _ (not-true _ a.1) (and_from _ _ n.0 n.1))
cleared d RolePairsDeclared k l r = refute _ (λ h.
    let a = and_parts (declared d RolePairs l) _ h in unnamed _ (role_pair_at d l).environment_roles (things d EnvironmentRole) a.1 (k l a.0))
cleared d EntriesDeclared k l r = refute _ (λ h.
    let a = and_parts (declared d Entries l) _ h in unnamed _ (entry_at d l).conditions (things d Condition) a.1 (k l a.0))
cleared d PermissionsApart k i j = refute _ (λ h.
    let a = and_parts (ltb i j) _ h in let b = and_parts (declared d Permissions j) _ a.1 in let e = and_parts _ _ b.1 in
    k i j (ltb-true i j a.0) b.0 (eqb-true _ _ e.0) (eqb-true _ _ e.1))
cleared d RolePairsApart k i j = refute _ (λ h.
    let a = and_parts (ltb i j) _ h in let b = and_parts (declared d RolePairs j) _ a.1 in let e = and_parts _ _ b.1 in
    k i j (ltb-true i j a.0) b.0 (eqb-true _ _ e.0) (alike_rows (role_pair_at d i).environment_roles (role_pair_at d j).environment_roles e.1))
cleared d (PairsDeclared s) k l r = refute _ (λ h.
    let a = and_parts _ _ h in let n = k l r a.0 in
    both_ways _ (not-true _ a.1) (and_from _ _ n.0 n.1))
cleared d NumberInRange k l r = refute _ (λ h. omega (arith, k, ltb-true 999999 d.number h))
cleared d RolesSeparate k u a = refute _ (λ h.
    let p = and_parts _ _ h in let f = some_found (separated_by d u a) 32 p.1 in
    let g = and_parts _ _ f.2 in
    ⊎_elim (λ z. k u a f.0 p.0 g.0 z) (λ z. k u f.0 a g.0 p.0 z) (or_cases _ _ g.1))
cleared d (TasksApart t) k l r = tasks_clear d t k l r
cleared d NothingProhibited k q e = refute _ (λ h. let p = and_parts _ _ h in k q e p.0 p.1)
cleared d NothingBarred k p a = refute _ (λ h.
    let x = and_parts _ _ h in let f = some_found (reaches_by d a p) 64 x.1 in
    let g = and_parts _ _ f.2 in let e = some_found _ 32 g.1 in let y = and_parts _ _ e.2 in
    let same : (role_pair_at d f.0).role ≡ a = eqb-true _ _ g.0 in
    k f.0 e.0 p y.0 y.1 (ap (λ n. related d Bars p n) same ∙ x.0))
