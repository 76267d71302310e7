-- A record that fits: from the answer of the check, and what it tells of its fields.
use Rattle.std.proofs.Common.{◌≡◌, ℕ, ◌+◌, ◌-◌, ◌<◌, ◌≤◌, Bool, true, false, cond, not, ◌||◌, List, length, is_some, sym, refl, ap, ◌∙◌, subst, arith}
use Rattle.forms.specs.Spelling.{spelt_at, all_spelt}
use Rattle.kinds.specs.Columns.{columns_of, relating, asking, takes, permission_place_lem}
use Rattle.kinds.specs.declared.kind.Kind.{Kind}
use Rattle.kinds.specs.declared.kind.Kind.TheVariants.{Declare, Permission, RolePair, Entry, Relate, Ask}
use Rattle.kinds.specs.declared.kind.Request.{Request}
use Rattle.kinds.specs.declared.kind.Request.TheVariants.{Open, Start, End, Activate, Drop, CheckAccess, AssignRolePair, RevokeRolePair, AssignPermission, RevokePermission, Sense, Clock, Window}
use Rattle.refusals.specs.declared.answer.Answer.{Answer}
use Rattle.refusals.specs.declared.answer.Answer.TheVariants.{Accepted, Refused}
use Rattle.refusals.specs.declared.refusal.Refusal.{Refusal}
use Rattle.rules.specs.Judging.{first_reason}
use Rattle.search.proofs.Somes.{all_decides}
use Rattle.sheets.specs.Judging.{known_at, all_named, all_known, already, is_full_lem, record_tests}
use Rattle.sheets.specs.Numbers.{Lists, formed}
use Rattle.std.proofs.lemmas.Bool.{and_parts, eqb-true, leb-true, not-false, true≢false}
use Rattle.tables.specs.declared.draft.Draft.{Draft}
use Rattle.tables.specs.declared.relation.Relation.{Relation}
use Rattle.tables.specs.declared.relation.Relation.TheVariants.{UserRoles, PermissionAssignment, RolePairAssignment, Bars, StaticSeparation, DynamicSeparation, Administrators, RoleTaskRolePairs, RoleTaskDeviceRoles, PermissionTaskPermissions, PermissionTaskDeviceRoles, ProhibitedPairs}
use Rattle.drafting.specs.Fit.{Fit}

-- where the first of the reasons does not apply, the rest decide
step : (b : Bool) (g : Refusal) (rest : Answer) → Accepted ≡ cond b (Refused g) rest → (b ≡ false) × (Accepted ≡ rest)
step true g rest e = absurd (let z : ◌≡◌ {A = ℕ} 0 1 = cc in omega arith)
step false g rest e = (refl, e)

-- an accepted record fits, where vs are the values of all its n fields
pub fits : (ls : Lists) (d : Draft) (k : Kind) (at n : ℕ) (vs : List (List ℕ)) → n ≡ length vs → Accepted ≡ first_reason (record_tests ls d k at n vs) Accepted → Fit ls d k vs
fits ls d k at n vs whole e =
    let a = step (not (takes k n)) _ _ e in
    let b = step (not (all_spelt k vs)) _ _ a.1 in
    let c = step (already ls d k vs) _ _ b.1 in
    let f = step (not (all_known ls d k vs)) _ _ c.1 in
    let g = step (is_full_lem d k) _ _ f.1 in
    record {
      counted = ap (takes k) (sym whole) ∙ not-false (takes k n) a.0;
      spelt = not-false (all_spelt k vs) b.0;
      fresh = c.0;
      known = not-false (all_known ls d k vs) f.0;
      room = g.0;
    }

-- the same by the kind that a record is found to have
pub fit_as : (ls : Lists) (d : Draft) (j k : Kind) (vs : List (List ℕ)) → j ≡ k → Fit ls d k vs → Fit ls d j vs
fit_as ls d j k vs e fit = subst (λ x. Fit ls d x vs) (sym e) fit

few_related : (r : Relation) → length (relating r) ≤ 5
few_related UserRoles = omega arith
few_related PermissionAssignment = omega arith
few_related RolePairAssignment = omega arith
few_related Bars = omega arith
few_related StaticSeparation = omega arith
few_related DynamicSeparation = omega arith
few_related Administrators = omega arith
few_related RoleTaskRolePairs = omega arith
few_related RoleTaskDeviceRoles = omega arith
few_related PermissionTaskPermissions = omega arith
few_related PermissionTaskDeviceRoles = omega arith
few_related ProhibitedPairs = omega arith

few_asked : (q : Request) → length (asking q) ≤ 5
few_asked Open = omega arith
few_asked Start = omega arith
few_asked End = omega arith
few_asked Activate = omega arith
few_asked Drop = omega arith
few_asked CheckAccess = omega arith
few_asked AssignRolePair = omega arith
few_asked RevokeRolePair = omega arith
few_asked AssignPermission = omega arith
few_asked RevokePermission = omega arith
few_asked Sense = omega arith
few_asked Clock = omega arith
few_asked Window = omega arith

-- no kind takes more than 40 fields
pub few : (k : Kind) (n : ℕ) → takes k n ≡ true → n ≤ 40
few (Declare t) n e = omega (arith, eqb-true n 2 e)
few Permission n e = omega (arith, eqb-true n 3 e)
few RolePair n e = leb-true n 40 (and_parts _ _ e).1
few Entry n e = leb-true n 40 (and_parts _ _ e).1
few (Relate r) n e = omega (arith, eqb-true n (length (relating r) + 1) e, few_related r)
few (Ask q) n e = omega (arith, eqb-true n (length (asking q) + 1) e, few_asked q)

-- each kind has a field for each of its columns
enough : (k : Kind) (n : ℕ) → takes k n ≡ true → length (columns_of k) ≤ n - 1
enough (Declare t) n e = omega (arith, eqb-true n 2 e)
enough Permission n e = omega (arith, eqb-true n 3 e)
enough RolePair n e = omega (arith, leb-true 3 n (and_parts _ _ e).0)
enough Entry n e = omega (arith, leb-true 2 n (and_parts _ _ e).0)
enough (Relate r) n e = omega (arith, eqb-true n (length (relating r) + 1) e)
enough (Ask q) n e = omega (arith, eqb-true n (length (asking q) + 1) e)

module _ (ls : Lists) (d : Draft) (k : Kind) (vs : List (List ℕ)) (fit : Fit ls d k vs) where
  pub all_there : length (columns_of k) ≤ length vs - 1
  all_there = enough k (length vs) fit.counted

  -- what is written at a place is written well
  spelt_there : (i : ℕ) → i < length vs - 1 → spelt_at k vs i ≡ true
  unfolding all_spelt
  spelt_there i h = (all_decides (spelt_at k vs) (length vs - 1)).0 fit.spelt i h

  -- what is named at a place is declared
  pub known_there : (i : ℕ) → i < length vs - 1 → known_at ls k vs i ≡ true
  unfolding all_named
  known_there i h = (all_decides (known_at ls k vs) (length vs - 1)).0 (and_parts (all_named ls k vs) _ fit.known).0 i h

  -- and so is the permission that the kind needs
  pub formed_there : is_some (permission_place_lem k) ≡ true → is_some (formed ls d k vs) ≡ true
  formed_there e =
      let f = (and_parts (all_named ls k vs) _ fit.known).1 in
      by (is_some (permission_place_lem k)) (is_some (formed ls d k vs)) e f
    where
      by : (a b : Bool) → a ≡ true → (not a || b) ≡ true → b ≡ true
      by true b e f = f
      by false b e f = absurd (true≢false (sym e))

-- a kind that has a column has a value there, which is written well
pub spelt_first : (ls : Lists) (d : Draft) (j k : Kind) (vs : List (List ℕ)) → j ≡ k → Fit ls d k vs → 0 < length (columns_of j) → spelt_at j vs 0 ≡ true
spelt_first ls d j k vs e fit some =
    let here = fit_as ls d j k vs e fit in
    let long = all_there ls d j vs here in
    spelt_there ls d j vs here 0 (omega arith)
