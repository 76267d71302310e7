-- An access check is granted exactly where there is a path.
use Rattle.std.proofs.Common.{◌≡◌, ℕ, ◌<◌, Bool, true, false, ◌&&◌, is_some, Some, None, Decides, Option, sym, refl, ap, ◌∙◌, subst, ⊎_elim}
use Rattle.conditions.specs.Active.{all_hold, active}
use Rattle.conditions.proofs.Actives.{hold_words, active_words}
use Rattle.lawful.specs.Keeping.{Keeps}
use Rattle.lawful.specs.declared.rule.Rule.TheVariants.{PermissionsApart}
use Rattle.rows.specs.Rows.{numbers}
use Rattle.rows.specs.declared.row.Row.{Row}
use Rattle.rows.proofs.Bits.{bits_below}
use Rattle.search.proofs.Finds.{first_at, first_never}
use Rattle.search.proofs.Somes.{some_found, some_at}
use Rattle.std.proofs.lemmas.Bool.{both_ways, and_parts, and_from, eqb-true, eq-eqb, lt-ltb, cases_order}
use Rattle.tables.specs.Drafts.{declared, is_permission_lem}
use Rattle.tables.specs.declared.draft.Draft.{Draft}
use Rattle.tables.specs.declared.table.Table.TheVariants.{Permissions}
use Rattle.tables.specs.Drafts.{permission_of, entries_of}
use Rattle.rules.specs.Access.{asked_by, ready, meet, path_by, path_to, path_if, granted, Permits, ActiveUnder, Path, HasPath, Within, OnePermission, GrantedByPath}
use Rattle.rules.specs.States.{State}
use Rattle.rules.specs.declared.call.Spot.TheVariants.{RolePair, Permission}
use Rattle.rules.proofs.Deciding.{declared_below}
use Rattle.rules.proofs.Reaching.{known_below}

pub permits_decides : (d : Draft) (v o p : ℕ) → Decides (is_permission_lem d v o p) (Permits d v o p)
permits_decides d v o p = (
  (λ t. let a = and_parts (declared d Permissions p) _ t in let b = and_parts _ _ a.1 in
      record { there = a.0; of_device = eqb-true _ _ b.0; of_operation = eqb-true _ _ b.1 }),
  (λ w. and_from _ _ w.there (and_from _ _ (eq-eqb _ _ w.of_device) (eq-eqb _ _ w.of_operation))),
)

-- no permission is listed twice
pub one_permission : (d : Draft) → Keeps d PermissionsApart → OnePermission d
one_permission d l v o i j a b = ⊎_elim
    (λ (e : i ≡ j). e)
    (⊎_elim
    (λ (h : i < j). absurd (l i j h b.there (a.of_device ∙ sym b.of_device) (a.of_operation ∙ sym b.of_operation)))
    (λ (h : j < i). absurd (l j i h a.there (b.of_device ∙ sym a.of_device) (b.of_operation ∙ sym a.of_operation))))
    (cases_order i j)

permission_by : (d : Draft) (v o : ℕ) (n : Option ℕ) → permission_of d v o ≡ n → Decides (is_some n) ((p : ℕ) × Permits d v o p)
permission_by d v o None e = (
  (λ t. absurd (both_ways false refl t)),
  (λ w. absurd (both_ways _ (first_never (is_permission_lem d v o) 64 e w.0 (declared_below d Permissions w.0 w.1.there)) ((permits_decides d v o w.0).1 w.1))),
)
permission_by d v o (Some p) e = ((λ _. (p, (permits_decides d v o p).0 (first_at (is_permission_lem d v o) 64 p e).1)), (λ _. refl))

pub permission_decides : (d : Draft) (v o : ℕ) → Decides (is_some (permission_of d v o)) ((p : ℕ) × Permits d v o p)
permission_decides d v o = permission_by d v o (permission_of d v o) refl

-- the environment roles that a role pair asks for
surroundings_decide : (d : Draft) (conditions wanted : Row)
    → Decides (all_hold (numbers wanted) (active (numbers conditions) (entries_of d))) ((r : ℕ) → numbers wanted r ≡ true → ActiveUnder d conditions r)
surroundings_decide d conditions wanted =
    let lit : ℕ → Bool = active (numbers conditions) (entries_of d) in
    let w = hold_words wanted lit in (
      (λ t r n. (active_words (numbers conditions) (entries_of d) r (lt-ltb r 32 (bits_below wanted.bits r n))).0 (w.0 t r n)),
      (λ a. w.1 (λ r n. (active_words (numbers conditions) (entries_of d) r (lt-ltb r 32 (bits_below wanted.bits r n))).1 (a r n))),
    )

module _ (d : Draft) (s : State) (within : Within d s) (k : ℕ) (conditions : Row) where
  path_decides : (p : ℕ) → Decides (path_to d s conditions k p) ((q : ℕ) × (e : ℕ) × Path d s k conditions q e p)
  path_decides p = (
    (λ t.
        let f = some_found (path_by d s conditions k p) 64 t in
        let a = and_parts (ready d s conditions k f.0) (meet s.pairs f.0 p) f.2 in
        let b = and_parts _ _ a.0 in
        let g = some_found (λ e. s.pairs (RolePair f.0 e) && s.pairs (Permission p e)) 32 a.1 in
        let c = and_parts _ _ g.2 in
        (f.0, g.0, record { pair_assigned = c.0; role_active = b.0; surroundings = (surroundings_decide d conditions (asked_by d f.0)).0 b.1; permission_assigned = c.1 })),
    (λ w.
        let q : ℕ = w.0 in
        let e : ℕ = w.1 in
        let b = known_below d q e (within.pairs_known (RolePair q e) w.2.pair_assigned) in
        some_at (path_by d s conditions k p) 64 q b.0
        (and_from (ready d s conditions k q) (meet s.pairs q p)
        (and_from _ _ w.2.role_active ((surroundings_decide d conditions (asked_by d q)).1 w.2.surroundings))
        (some_at (λ e. s.pairs (RolePair q e) && s.pairs (Permission p e)) 32 e b.1 (and_from _ _ w.2.pair_assigned w.2.permission_assigned)))),
  )

  granted_by : OnePermission d → (v o : ℕ) (n : Option ℕ) → permission_of d v o ≡ n → Decides (path_if d s conditions k n) (HasPath d s k v o conditions)
  granted_by one v o None e = (
    (λ t. absurd (both_ways false refl t)),
    (λ w. absurd (both_ways _ (ap is_some e) ((permission_decides d v o).1 (w.0, w.3)))),
  )
  granted_by one v o (Some p) e =
      let m : Permits d v o p = (permits_decides d v o p).0 (first_at (is_permission_lem d v o) 64 p e).1 in (
        (λ t. let w = (path_decides p).0 t in (p, w.0, w.1, m, w.2)),
        (λ w. (path_decides p).1 (w.1, w.2, subst (Path d s k conditions w.1 w.2) (one v o w.0 p w.3 m) w.4)),
      )

pub by_path : GrantedByPath
unfolding granted
by_path d s one within k v o conditions = granted_by d s within k conditions one v o (permission_of d v o) refl
