-- What is assigned after a change of one of the two sets.
use Rattle.std.proofs.Common.{◌≡◌, ℕ, ◌<◌, Bool, true, ◌&&◌, ◌||◌, ltb, refl, ap, ◌∙◌}
use mathlib.Core.Path.{fun_ext}
use Rattle.rules.specs.Spots.{known, with_spot, without_spot}
use Rattle.rules.specs.States.{opening_pairs}
use Rattle.rules.specs.declared.call.Spot.{Spot}
use Rattle.rules.specs.declared.call.Spot.TheVariants.{RolePair, Permission}
use Rattle.rules.proofs.Deciding.{declared_below}
use Rattle.std.proofs.lemmas.Bool.{and_parts, and_from, lt-ltb, ltb-true}
use Rattle.stores.specs.Pairs.{in_bounds, is_pair, no_pairs, with_pair, without_pair}
use Rattle.tables.specs.Drafts.{related}
use Rattle.tables.specs.declared.draft.Draft.{Draft}
use Rattle.tables.specs.declared.relation.Relation.TheVariants.{PermissionAssignment, RolePairAssignment}
use Rattle.tables.specs.declared.table.Table.TheVariants.{Things, Permissions, RolePairs}
use Rattle.tables.specs.declared.table.Thing.TheVariants.{DeviceRole}
use Rattle.assignments.specs.Assigned.{spots, nothing_assigned, in_range}

-- a known pair is in range
pub known_in_range : (d : Draft) (x : Spot) → known d x ≡ true → in_range x ≡ true
known_in_range d (RolePair q e) h =
    let a = and_parts _ _ h in
    and_from _ _ (lt-ltb q 64 (declared_below d RolePairs q a.0)) (lt-ltb e 32 (declared_below d (Things DeviceRole) e a.1))
known_in_range d (Permission p e) h =
    let a = and_parts _ _ h in
    and_from _ _ (lt-ltb p 64 (declared_below d Permissions p a.0)) (lt-ltb e 32 (declared_below d (Things DeviceRole) e a.1))

pub role_pair_below : (q e : ℕ) → in_range (RolePair q e) ≡ true → q < 64
role_pair_below q e h = ltb-true q 64 (and_parts (ltb q 64) (ltb e 32) h).0

-- two empty sets, and two sets that hold what a draft assigns
pub none_assigned : (left right : ℕ → ℕ → Bool) → left ≡ no_pairs → right ≡ no_pairs → spots left right ≡ nothing_assigned
unfolding no_pairs nothing_assigned
none_assigned left right a b = fun_ext λ x. each x
  where
    each : (x : Spot) → spots left right x ≡ nothing_assigned x
    each (RolePair q e) = ap (λ s. s q e) a
    each (Permission p e) = ap (λ s. s p e) b

pub draft_assigned : (d : Draft) (left right : ℕ → ℕ → Bool) → left ≡ related d RolePairAssignment → right ≡ related d PermissionAssignment → spots left right ≡ opening_pairs d
unfolding opening_pairs
draft_assigned d left right a b = fun_ext λ x. each x
  where
    each : (x : Spot) → spots left right x ≡ opening_pairs d x
    each (RolePair q e) = ap (λ s. s q e) a
    each (Permission p e) = ap (λ s. s p e) b

-- a pair put into, or taken out of, one of the two sets
module _ (left right : ℕ → ℕ → Bool) (s : ℕ → ℕ → Bool) where
  with_role_pair : (q e : ℕ) → in_bounds q e ≡ true → s ≡ with_pair left q e → (y : Spot) → spots s right y ≡ with_spot (spots left right) (RolePair q e) y
  unfolding with_pair with_spot
  with_role_pair q e h k (RolePair a b) = ap (λ f. f a b) k ∙ ap (λ t. (t && is_pair q e a b) || left a b) h
  with_role_pair q e h k (Permission a b) = refl

  with_permission : (p e : ℕ) → in_bounds p e ≡ true → s ≡ with_pair right p e → (y : Spot) → spots left s y ≡ with_spot (spots left right) (Permission p e) y
  unfolding with_pair with_spot
  with_permission p e h k (RolePair a b) = refl
  with_permission p e h k (Permission a b) = ap (λ f. f a b) k ∙ ap (λ t. (t && is_pair p e a b) || right a b) h

  without_role_pair : (q e : ℕ) → s ≡ without_pair left q e → (y : Spot) → spots s right y ≡ without_spot (spots left right) (RolePair q e) y
  unfolding without_pair without_spot
  without_role_pair q e k (RolePair a b) = ap (λ f. f a b) k
  without_role_pair q e k (Permission a b) = refl

  without_permission : (p e : ℕ) → s ≡ without_pair right p e → (y : Spot) → spots left s y ≡ without_spot (spots left right) (Permission p e) y
  unfolding without_pair without_spot
  without_permission p e k (RolePair a b) = refl
  without_permission p e k (Permission a b) = ap (λ f. f a b) k

  module _ (x : Spot) where
    pub put_role_pair : (q e : ℕ) → x ≡ RolePair q e → in_range x ≡ true → s ≡ with_pair left q e → spots s right ≡ with_spot (spots left right) x
    put_role_pair q e i h k = rw i (fun_ext (with_role_pair q e (rw i at h) k))

    pub put_permission : (p e : ℕ) → x ≡ Permission p e → in_range x ≡ true → s ≡ with_pair right p e → spots left s ≡ with_spot (spots left right) x
    put_permission p e i h k = rw i (fun_ext (with_permission p e (rw i at h) k))

    pub take_role_pair : (q e : ℕ) → x ≡ RolePair q e → s ≡ without_pair left q e → spots s right ≡ without_spot (spots left right) x
    take_role_pair q e i k = rw i (fun_ext (without_role_pair q e k))

    pub take_permission : (p e : ℕ) → x ≡ Permission p e → s ≡ without_pair right p e → spots left s ≡ without_spot (spots left right) x
    take_permission p e i k = rw i (fun_ext (without_permission p e k))
