-- Reaching a barred permission: in words, and seen from one device role.
use Rattle.std.proofs.Common.{◌≡◌, ℕ, ◌<◌, true, false, ◌&&◌, ◌⊎◌, Decides, sym, ap, ◌∙◌, inl, inr, ⊎_elim}
use Rattle.lawful.specs.Keeping.{In}
use Rattle.lawful.proofs.Bounds.{related_bounded}
use Rattle.search.proofs.Somes.{some_found, some_at}
use Rattle.std.proofs.lemmas.Bool.{both_ways, and_parts, and_from, or_cases, or_left, or_right}
use Rattle.std.proofs.lemmas.Bool.Decides.{same_from_decides}
use Rattle.tables.specs.declared.draft.Draft.{Draft}
use Rattle.tables.specs.declared.relation.Relation.TheVariants.{Bars}
use Rattle.tables.specs.declared.table.Table.TheVariants.{Things, RolePairs}
use Rattle.tables.specs.declared.table.Thing.TheVariants.{DeviceRole}
use Rattle.rules.specs.Reaching.{role_of, barred, barred_at, reaches_by, reaches_from, reaches_barred_lem, column_barred, ReachesBarred}
use Rattle.rules.specs.Spots.{Pairs, known, same_spot, with_spot}
use Rattle.rules.specs.declared.call.Spot.{Spot}
use Rattle.rules.specs.declared.call.Spot.TheVariants.{RolePair, Permission}
use Rattle.rules.proofs.Deciding.{declared_below, same_true, same_self}

-- by a role pair below 64 and a device role below 32
abbrev pub ReachesBelow : Draft → Pairs → Type 0
ReachesBelow d s = (q : ℕ) × (e : ℕ) × (p : ℕ) × (q < 64) × (e < 32) × (s (RolePair q e) ≡ true) × (s (Permission p e) ≡ true) × In d Bars p (role_of d q)

pub reaches_decides : (d : Draft) (s : Pairs) → Decides (reaches_barred_lem d s) (ReachesBelow d s)
unfolding reaches_barred_lem
reaches_decides d s = (
  (λ t.
      let f = some_found (reaches_from d s) 64 t in
      let g = some_found (reaches_by d s f.0) 32 f.2 in
      let a = and_parts (s (RolePair f.0 g.0)) (barred_at d s f.0 g.0) g.2 in
      let h = some_found (λ p. s (Permission p g.0) && barred d f.0 p) 64 a.1 in
      let b = and_parts _ _ h.2 in
      (f.0, g.0, h.0, f.1, g.1, a.0, b.0, b.1)),
  (λ w. some_at (reaches_from d s) 64 w.0 w.3
      (some_at (reaches_by d s w.0) 32 w.1 w.4
      (and_from (s (RolePair w.0 w.1)) (barred_at d s w.0 w.1) w.5
      (some_at (λ p. s (Permission p w.1) && barred d w.0 p) 64 w.2 (related_bounded d Bars w.2 (role_of d w.0) w.7).0 (and_from _ _ w.6 w.7))))),
)

-- a known role pair and device role are within the search
pub known_below : (d : Draft) (q e : ℕ) → known d (RolePair q e) ≡ true → (q < 64) × (e < 32)
known_below d q e h = let a = and_parts _ _ h in (declared_below d RolePairs q a.0, declared_below d (Things DeviceRole) e a.1)

-- where every pair assigned is known, that is all
pub reaches_words : (d : Draft) (s : Pairs) → ((x : Spot) → s x ≡ true → known d x ≡ true) → Decides (reaches_barred_lem d s) (ReachesBarred d s)
reaches_words d s k = (
  (λ t. let w = (reaches_decides d s).0 t in (w.0, w.1, w.2, w.5, w.6, w.7)),
  (λ w. let b = known_below d w.0 w.1 (k (RolePair w.0 w.1) w.3) in (reaches_decides d s).1 (w.0, w.1, w.2, b.0, b.1, w.3, w.4, w.5)),
)

-- the set with one more spot
pub with_cases : (s : Pairs) (x y : Spot) → with_spot s x y ≡ true → (y ≡ x) ⊎ (s y ≡ true)
unfolding with_spot
with_cases s x y h = ⊎_elim (λ t. inl (same_true x y t)) inr (or_cases (same_spot x y) (s y) h)

pub with_new : (s : Pairs) (x : Spot) → with_spot s x x ≡ true
unfolding with_spot
with_new s x = or_left _ _ (same_self x)

pub with_old : (s : Pairs) (x y : Spot) → s y ≡ true → with_spot s x y ≡ true
unfolding with_spot
with_old s x y h = or_right (same_spot x y) (s y) h

pub known_with : (d : Draft) (s : Pairs) (x : Spot) → ((y : Spot) → s y ≡ true → known d y ≡ true) → known d x ≡ true → (y : Spot) → with_spot s x y ≡ true → known d y ≡ true
known_with d s x k h y e = ⊎_elim (λ q. ap (known d) q ∙ h) (k y) (with_cases s x y e)

-- what one device role shows
column_words : (d : Draft) (s : Pairs) (x : Spot) → column_barred d s x ≡ true → known d x ≡ true → ReachesBelow d (with_spot s x)
unfolding column_barred
column_words d s (RolePair q e) h k =
    let f = some_found (λ p. s (Permission p e) && barred d q p) 64 h in
    let a = and_parts _ _ f.2 in
    let b = known_below d q e k in
    (q, e, f.0, b.0, b.1, with_new s (RolePair q e), with_old s (RolePair q e) (Permission f.0 e) a.0, a.1)
column_words d s (Permission p e) h k =
    let f = some_found (λ q. s (RolePair q e) && barred d q p) 64 h in
    let a = and_parts _ _ f.2 in
    (f.0, e, p, f.1, declared_below d (Things DeviceRole) e (and_parts _ _ k).1, with_old s (Permission p e) (RolePair f.0 e) a.0, with_new s (Permission p e), a.1)

pair_is : (q e a b : ℕ) → RolePair q e ≡ RolePair a b → (q ≡ a) × (e ≡ b)
pair_is q e a b h = ((cc), (cc))

permission_is : (q e a b : ℕ) → Permission q e ≡ Permission a b → (q ≡ a) × (e ≡ b)
permission_is q e a b h = ((cc), (cc))

-- a spot of the one relation is none of the other
permission_old : (s : Pairs) (a b p e : ℕ) → with_spot s (RolePair a b) (Permission p e) ≡ true → s (Permission p e) ≡ true
unfolding with_spot
permission_old s a b p e h = h

pair_old : (s : Pairs) (a b q e : ℕ) → with_spot s (Permission a b) (RolePair q e) ≡ true → s (RolePair q e) ≡ true
unfolding with_spot
pair_old s a b q e h = h

-- what is reached with one more spot is reached by that spot
words_column : (d : Draft) (s : Pairs) (x : Spot) → (ReachesBelow d s → ⊥) → ReachesBelow d (with_spot s x) → column_barred d s x ≡ true
unfolding column_barred
words_column d s (RolePair a b) n w =
    let m = permission_old s a b w.2 w.1 w.6 in
    let p = (related_bounded d Bars w.2 (role_of d w.0) w.7).0 in
    ⊎_elim
    (λ (i : RolePair w.0 w.1 ≡ RolePair a b). let j = pair_is w.0 w.1 a b i in
    some_at (λ p. s (Permission p b) && barred d a p) 64 w.2 p
    (and_from _ _ (ap (λ e. s (Permission w.2 e)) (sym j.1) ∙ m) (ap (λ q. barred d q w.2) (sym j.0) ∙ w.7)))
    (λ (i : s (RolePair w.0 w.1) ≡ true). absurd (n (w.0, w.1, w.2, w.3, w.4, i, m, w.7)))
    (with_cases s (RolePair a b) (RolePair w.0 w.1) w.5)
words_column d s (Permission a b) n w =
    let m = pair_old s a b w.0 w.1 w.5 in
    ⊎_elim
    (λ (i : Permission w.2 w.1 ≡ Permission a b). let j = permission_is w.2 w.1 a b i in
    some_at (λ q. s (RolePair q b) && barred d q a) 64 w.0 w.3
    (and_from _ _ (ap (λ e. s (RolePair w.0 e)) (sym j.1) ∙ m) (ap (λ p. barred d w.0 p) (sym j.0) ∙ w.7)))
    (λ (i : s (Permission w.2 w.1) ≡ true). absurd (n (w.0, w.1, w.2, w.3, w.4, m, i, w.7)))
    (with_cases s (Permission a b) (Permission w.2 w.1) w.6)

-- where no role reaches a permission barred to it, one device role shows what one more pair adds
pub column_tells : (d : Draft) (s : Pairs) (x : Spot) → reaches_barred_lem d s ≡ false → known d x ≡ true → reaches_barred_lem d (with_spot s x) ≡ column_barred d s x
column_tells d s x h k =
    let n : ReachesBelow d s → ⊥ = λ w. both_ways _ h ((reaches_decides d s).1 w) in
    same_from_decides (reaches_barred_lem d (with_spot s x)) (column_barred d s x) (reaches_decides d (with_spot s x))
    ((λ t. column_words d s x t k), words_column d s x n)
