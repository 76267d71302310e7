-- The calls of a house against the rules.
use Rattle.std.proofs.Common.{◌≡◌, ℕ, Bool, true, false, cond, not, is_ok, Some, Ok, Err, Result, sym, refl, ap, ◌∙◌}
use Rattle.refusals.specs.Said.{said}
use Rattle.assignments.specs.Paths.{way_to}
use Rattle.conditions.specs.Active.{active}
use Rattle.lawful.proofs.Bounds.{refute}
use Rattle.refusals.specs.declared.answer.Answer.{Answer}
use Rattle.refusals.specs.declared.answer.Answer.TheVariants.{Accepted, Refused}
use Rattle.refusals.specs.declared.refusal.Refusal.{Refusal}
use Rattle.refusals.specs.declared.refusal.Refusal.TheVariants.{InvalidLease, NoSuchNumber, ProhibitedPair, OutsideTask, AlreadyAssigned, NotAssigned, WouldReachBarredPermission, SessionNotLive, NoSuchPermission}
use Rattle.rows.specs.Rows.{numbers}
use Rattle.rows.specs.declared.row.Row.{Row}
use Rattle.rules.specs.Access.{granted, path_if}
use Rattle.rules.specs.Judging.{valid, judge, effect, commit, after}
use Rattle.rules.specs.Reaching.{reaches_barred_lem, column_barred}
use Rattle.rules.specs.Spots.{Pairs, known, prohibited, in_task, same_spot, with_spot, without_spot}
use Rattle.rules.specs.States.{State}
use Rattle.rules.specs.declared.call.Call.TheVariants.{Assign, Revoke}
use Rattle.rules.specs.declared.call.LeaseNumbers.{LeaseNumbers}
use Rattle.rules.specs.declared.call.Spot.{Spot}
use Rattle.rules.specs.declared.call.Spot.TheVariants.{RolePair, Permission}
use Rattle.rules.proofs.Reaching.{reaches_decides, column_tells}
use Rattle.std.proofs.lemmas.Bool.{and_parts, both_ways}
use Rattle.tables.specs.Drafts.{permission_of, entries_of}
use Rattle.tables.specs.declared.draft.Draft.{Draft}
use Rattle.house.specs.Changing.{and_then, change_reasons, assigning, after_assigning, revoking, after_revoking}
use Rattle.house.specs.Views.{with_pairs}

-- no role reaches a permission that is barred to it
abbrev pub Sound : Draft → State → Type 0
Sound d s = reaches_barred_lem d s.pairs ≡ false

-- the reasons of all changes, and then an answer
abbrev chain : Bool → Bool → Bool → Bool → Answer → Answer
chain a b c e z = cond (not a) (Refused InvalidLease) (cond (not b) (Refused NoSuchNumber) (cond c (Refused ProhibitedPair) (cond (not e) (Refused OutsideTask) z)))

chain_then : (a b c e : Bool) (z : Answer) → and_then (chain a b c e Accepted) z ≡ chain a b c e z
chain_then false b c e z = refl
chain_then true false c e z = refl
chain_then true true true e z = refl
chain_then true true false false z = refl
chain_then true true false true z = refl

-- what follows an unknown number does not matter
chain_known : (a b c e : Bool) (y z : Answer) → (b ≡ true → y ≡ z) → chain a b c e y ≡ chain a b c e z
chain_known a false c e y z h = refl
chain_known a true c e y z h = ap (chain a true c e) (h refl)

module _ (d : Draft) (s : State) (k : LeaseNumbers) (x : Spot) where
  -- where no role reaches a barred permission, one device role tells
  pub assigning_is : Sound d s → assigning d s k x ≡ judge d s (Assign k x)
  assigning_is h =
      chain_then (valid d s k) (known d x) (prohibited d x) (in_task d k.unit x) _
      ∙ chain_known (valid d s k) (known d x) (prohibited d x) (in_task d k.unit x) _ _
      (λ b. ap (λ t. cond (s.pairs x) (Refused AlreadyAssigned) (cond t (Refused WouldReachBarredPermission) Accepted)) (sym (column_tells d s.pairs x h b)))

  pub after_assigning_is : Sound d s → after_assigning d s k x ≡ after d s (Assign k x)
  after_assigning_is h = ap (λ a. commit a s (effect s (Assign k x))) (assigning_is h)

  pub revoking_is : revoking d s k x ≡ judge d s (Revoke k x)
  revoking_is = chain_then (valid d s k) (known d x) (prohibited d x) (in_task d k.unit x) _

  pub after_revoking_is : after_revoking d s k x ≡ after d s (Revoke k x)
  after_revoking_is = ap (λ a. commit a s (effect s (Revoke k x))) revoking_is

  fewer : (y : Spot) → without_spot s.pairs x y ≡ true → s.pairs y ≡ true
  unfolding without_spot
  fewer y h = (and_parts (not (same_spot x y)) (s.pairs y) h).1

  -- one pair more reaches no barred permission where its column shows none, and one less never does
  pub insert_sound : (p : Pairs) → Sound d s → known d x ≡ true → column_barred d s.pairs x ≡ false → p ≡ with_spot s.pairs x → reaches_barred_lem d p ≡ false
  insert_sound p h b c e = ap (reaches_barred_lem d) e ∙ column_tells d s.pairs x h b ∙ c

  pub remove_sound : (p : Pairs) → Sound d s → p ≡ without_spot s.pairs x → reaches_barred_lem d p ≡ false
  remove_sound p h e = ap (reaches_barred_lem d) e ∙ refute _ (λ r.
      let w = (reaches_decides d (without_spot s.pairs x)).0 r in
      both_ways _ h ((reaches_decides d s.pairs).1 (w.0, w.1, w.2, w.3, w.4, fewer (RolePair w.0 w.1) w.5, fewer (Permission w.2 w.1) w.6, w.7)))

  -- what holds by the column alone holds by the rules
  pub assign_by_rules : Sound d s → (r : Result Unit Refusal) (t : State) → said r ≡ assigning d s k x → t ≡ after_assigning d s k x
      → (said r ≡ judge d s (Assign k x)) × (t ≡ after d s (Assign k x))
  assign_by_rules h r t a b = (a ∙ assigning_is h, b ∙ after_assigning_is h)

  pub revoke_by_rules : (r : Result Unit Refusal) (t : State) → said r ≡ revoking d s k x → t ≡ after_revoking d s k x
      → (said r ≡ judge d s (Revoke k x)) × (t ≡ after d s (Revoke k x))
  revoke_by_rules r t a b = (a ∙ revoking_is, b ∙ after_revoking_is)

  -- a refusal leaves the state, and a change that is accepted makes its effect
  pub unassigned : (g : Refusal) → Refused g ≡ assigning d s k x → s ≡ after_assigning d s k x
  unassigned g a = ap (λ b. commit b s (effect s (Assign k x))) a

  pub unrevoked : (g : Refusal) → Refused g ≡ revoking d s k x → s ≡ after_revoking d s k x
  unrevoked g a = ap (λ b. commit b s (effect s (Revoke k x))) a

  pub assigned_left : (p : Pairs) → p ≡ with_spot s.pairs x → Accepted ≡ assigning d s k x → with_pairs s p ≡ after_assigning d s k x
  assigned_left p e a = ap (with_pairs s) e ∙ ap (λ b. commit b s (effect s (Assign k x))) a

  pub revoked_left : (p : Pairs) → p ≡ without_spot s.pairs x → Accepted ≡ revoking d s k x → with_pairs s p ≡ after_revoking d s k x
  revoked_left p e a = ap (with_pairs s) e ∙ ap (λ b. commit b s (effect s (Revoke k x))) a

-- a refusal by the reasons of all changes stands
pub stopped : (r : Result Unit Refusal) (a z : Answer) → is_ok r ≡ false → said r ≡ a → said r ≡ and_then a z
stopped (Ok u) a z h e = absurd (both_ways true h refl)
stopped (Err g) a z h e = ap (λ b. and_then b z) e

pub stopped_left : (r : Result Unit Refusal) (a z : Answer) (s t : State) → is_ok r ≡ false → said r ≡ a → s ≡ commit (and_then a z) s t
stopped_left (Ok u) a z s t h e = absurd (both_ways true h refl)
stopped_left (Err g) a z s t h e = ap (λ b. commit (and_then b z) s t) e

module _ (d : Draft) (s : State) (k : LeaseNumbers) (x : Spot) (e : Accepted ≡ change_reasons d s k x) where
  pub already : s.pairs x ≡ true → Refused AlreadyAssigned ≡ assigning d s k x
  already p = λ i. and_then (e i) (cond (sym p i) (Refused AlreadyAssigned) (cond (column_barred d s.pairs x) (Refused WouldReachBarredPermission) Accepted))

  pub would_reach : s.pairs x ≡ false → column_barred d s.pairs x ≡ true → Refused WouldReachBarredPermission ≡ assigning d s k x
  would_reach p q = λ i. and_then (e i) (cond (sym p i) (Refused AlreadyAssigned) (cond (sym q i) (Refused WouldReachBarredPermission) Accepted))

  pub accepted : s.pairs x ≡ false → column_barred d s.pairs x ≡ false → Accepted ≡ assigning d s k x
  accepted p q = λ i. and_then (e i) (cond (sym p i) (Refused AlreadyAssigned) (cond (sym q i) (Refused WouldReachBarredPermission) Accepted))

  pub not_there : s.pairs x ≡ false → Refused NotAssigned ≡ revoking d s k x
  not_there p = λ i. and_then (e i) (cond (not (sym p i)) (Refused NotAssigned) Accepted)

  pub revoked : s.pairs x ≡ true → Accepted ≡ revoking d s k x
  revoked p = λ i. and_then (e i) (cond (not (sym p i)) (Refused NotAssigned) Accepted)

-- the paths under the conditions of a source
pub granted_is : (d : Draft) (s : State) (k device operation p : ℕ) (conditions : Row) (holding roles : ℕ → Bool)
    → Some p ≡ permission_of d device operation → numbers conditions ≡ holding → roles ≡ active holding (entries_of d)
    → way_to d s.pairs (s.active k) roles p ≡ granted d s k device operation conditions
unfolding granted
granted_is d s k device operation p conditions holding roles a b c =
    ap (λ r. way_to d s.pairs (s.active k) r p) (c ∙ ap (λ h. active h (entries_of d)) (sym b)) ∙ ap (path_if d s conditions k) a

-- an access check that meets no reason answers by its paths
pub unrefused : (a b c : Bool) (y z : Answer) → a ≡ true → b ≡ true → c ≡ true → y ≡ z
    → y ≡ cond (not a) (Refused NoSuchNumber) (cond (not b) (Refused SessionNotLive) (cond (not c) (Refused NoSuchPermission) z))
unrefused a b c y z p q r e =
    e ∙ (λ i. cond (not (sym p i)) (Refused NoSuchNumber) (cond (not (sym q i)) (Refused SessionNotLive) (cond (not (sym r i)) (Refused NoSuchPermission) z)))
