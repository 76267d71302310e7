-- The order among units counts for nothing: a unit's part of a run is the run of its own calls alone, with reason 25 left out.
use Rattle.std.proofs.Common.{◌≡◌, ℕ, Bool, true, false, cond, not, ◌&&◌, ◌||◌, eqb, ◌⊎◌, List, [], ◌∷◌, is_some, Some, None, sym, refl, ap, ◌∙◌, subst, inl, inr, ⊎_elim}
use mathlib.Core.Path.{fun_ext}
use Rattle.lawful.specs.Keeping.{Lawful}
use Rattle.lawful.proofs.Answering.{lawful_test}
use Rattle.lawful.proofs.Bounds.{refute}
use Rattle.refusals.specs.declared.refusal.Refusal.{Refusal}
use Rattle.refusals.specs.declared.refusal.Refusal.TheVariants.{InvalidLease, NoSuchNumber, NotAdministrator, LeaseOut, ProhibitedPair, OutsideTask, AlreadyAssigned, NotAssigned, WouldReachBarredPermission}
use Rattle.std.proofs.lemmas.Bool.{both_ways, or_parts, eqb-true, eq-eqb, not-false, cases_Bool}
use Rattle.tables.specs.Drafts.{declared, related}
use Rattle.tables.specs.declared.draft.Draft.{Draft}
use Rattle.tables.specs.declared.relation.Relation.TheVariants.{Administrators}
use Rattle.tables.specs.declared.table.Table.TheVariants.{Things}
use Rattle.tables.specs.declared.table.Thing.{Thing}
use Rattle.tables.specs.declared.table.Thing.TheVariants.{User}
use Rattle.rules.specs.Judging.{valid, first_reason, judge, effect, commit, after}
use Rattle.rules.specs.Reaching.{reaches_barred_lem}
use Rattle.rules.specs.Spots.{known, prohibited, in_task, same_spot, with_spot, without_spot}
use Rattle.rules.specs.States.{State, is_for, with_at, opened}
use Rattle.refusals.specs.declared.answer.Answer.{Answer}
use Rattle.refusals.specs.declared.answer.Answer.TheVariants.{Accepted, Granted, Denied, Refused}
use Rattle.rules.specs.declared.call.Call.{Call}
use Rattle.rules.specs.declared.call.Call.TheVariants.{Acquire, Assign, Revoke, Release, Start, End, Activate, Deactivate, Check}
use Rattle.rules.specs.declared.call.Event.{Event}
use Rattle.rules.specs.declared.call.LeaseNumbers.{LeaseNumbers}
use Rattle.rules.specs.declared.call.Spot.{Spot}
use Rattle.rules.proofs.Committing.{passed, committed}
use Rattle.rules.proofs.Deciding.{same_true}
use Rattle.runs.specs.Histories.{is_of, calls_of, events_of, is_25, has_25}
use Rattle.runs.specs.Laws.{EveryRun, SameByUnit, Order}
use Rattle.runs.specs.Runs.{final, log}
use Rattle.runs.proofs.Leases.{tasks_apart}
use Rattle.runs.proofs.Sessions.{at_other}

-- the chains of reasons of a change, over plain tests

abbrev assign_tests : Bool → Bool → Bool → Bool → Bool → List (Refusal × Bool) → List (Refusal × Bool)
assign_tests v n p o a rest = (InvalidLease, v) ∷ (NoSuchNumber, n) ∷ (ProhibitedPair, p) ∷ (OutsideTask, o) ∷ (AlreadyAssigned, a) ∷ rest

abbrev revoke_tests : Bool → Bool → Bool → Bool → Bool → List (Refusal × Bool)
revoke_tests v n p o a = (InvalidLease, v) ∷ (NoSuchNumber, n) ∷ (ProhibitedPair, p) ∷ (OutsideTask, o) ∷ (NotAssigned, a) ∷ []

-- reason 25 left out, where it is not the answer
calm_last : (a r : Bool) → is_25 (cond a (Refused AlreadyAssigned) (cond r (Refused WouldReachBarredPermission) Accepted)) ≡ false
    → cond a (Refused AlreadyAssigned) (cond r (Refused WouldReachBarredPermission) Accepted) ≡ cond a (Refused AlreadyAssigned) Accepted
calm_last true r q = refl
calm_last false true q = absurd (both_ways true q refl)
calm_last false false q = refl

assign_same : (v n p o a b r : Bool) → (o ≡ false → a ≡ b)
    → is_25 (first_reason (assign_tests v n p o a ((WouldReachBarredPermission, r) ∷ [])) Accepted) ≡ false
    → first_reason (assign_tests v n p o a ((WouldReachBarredPermission, r) ∷ [])) Accepted ≡ first_reason (assign_tests v n p o b []) Accepted
assign_same true n p o a b r h q = refl
assign_same false true p o a b r h q = refl
assign_same false false true o a b r h q = refl
assign_same false false false true a b r h q = refl
assign_same false false false false a b r h q = calm_last a r q ∙ ap (λ z. cond z (Refused AlreadyAssigned) Accepted) (h refl)

revoke_same : (v n p o a b : Bool) → (o ≡ false → a ≡ b) → first_reason (revoke_tests v n p o a) Accepted ≡ first_reason (revoke_tests v n p o b) Accepted
revoke_same true n p o a b h = refl
revoke_same false true p o a b h = refl
revoke_same false false true o a b h = refl
revoke_same false false false true a b h = refl
revoke_same false false false false a b h = ap (λ z. cond z (Refused NotAssigned) Accepted) (h refl)

-- the rules with reason 25 left out
abbrev calm : Draft → State → Call → Answer
calm d s (Acquire u w) = judge d s (Acquire u w)
calm d s (Assign k x) = first_reason (assign_tests (not (valid d s k)) (not (known d x)) (prohibited d x) (not (in_task d k.unit x)) (s.pairs x) []) Accepted
calm d s (Revoke k x) = judge d s (Revoke k x)
calm d s (Release k) = judge d s (Release k)
calm d s (Start k w) = judge d s (Start k w)
calm d s (End k) = judge d s (End k)
calm d s (Activate k r) = judge d s (Activate k r)
calm d s (Deactivate k r) = judge d s (Deactivate k r)
calm d s (Check k v o conditions) = judge d s (Check k v o conditions)

abbrev calm_after : Draft → State → Call → State
calm_after d s c = commit (calm d s c) s (effect s c)

abbrev calm_final : Draft → State → List Call → State
calm_final d s [] = s
calm_final d s (c ∷ cs) = calm_final d (calm_after d s c) cs

abbrev calm_log : Draft → State → List Call → List Event
calm_log d s [] = []
calm_log d s (c ∷ cs) = record { call = c; answer = calm d s c } ∷ calm_log d (calm_after d s c) cs

-- the two states are alike in what the unit u may see and change
record Near (d : Draft) (u : ℕ) (s t : State) : Type 0 where
  lease : s.lease u ≡ t.lease u
  pairs : (x : Spot) → in_task d u x ≡ true → s.pairs x ≡ t.pairs x

-- the events and the state of a run are, for the unit u, those of its own calls from t on
record Follows (d : Draft) (u : ℕ) (es : List Event) (s t : State) (own : List Call) : Type 0 where
  events : es ≡ calm_log d t own
  near : Near d u s (calm_final d t own)

module _ (d : Draft) where
  -- a call of the unit is answered alike
  module _ (u : ℕ) (s t : State) (n : Near d u s t) where
    lease_of : (v : ℕ) → eqb v u ≡ true → s.lease v ≡ t.lease v
    lease_of v e = ap s.lease (eqb-true v u e) ∙ n.lease ∙ ap t.lease (sym (eqb-true v u e))

    valid_of : (k : LeaseNumbers) → eqb k.unit u ≡ true → not (valid d s k) ≡ not (valid d t k)
    valid_of k e = ap (λ o. not (eqb k.house d.number && is_for o k.user)) (lease_of k.unit e)

    pair_of : (k : LeaseNumbers) (x : Spot) → eqb k.unit u ≡ true → not (in_task d k.unit x) ≡ false → s.pairs x ≡ t.pairs x
    pair_of k x e m = n.pairs x (ap (λ v. in_task d v x) (sym (eqb-true k.unit u e)) ∙ not-false (in_task d k.unit x) m)

    same : (c : Call) → is_of u c ≡ true → is_25 (judge d s c) ≡ false → judge d s c ≡ calm d t c
    same (Acquire v w) e q =
        ap (λ o. first_reason ((NoSuchNumber, not (declared d (Things Thing.Unit) v && declared d (Things User) w)) ∷ (NotAdministrator, not (related d Administrators w v)) ∷ (LeaseOut, is_some o) ∷ []) Accepted) (lease_of v e)
    same (Assign k x) e q =
        assign_same (not (valid d s k)) (not (known d x)) (prohibited d x) (not (in_task d k.unit x)) (s.pairs x) (t.pairs x) (reaches_barred_lem d (with_spot s.pairs x)) (pair_of k x e) q
        ∙ ap (λ v. first_reason (assign_tests v (not (known d x)) (prohibited d x) (not (in_task d k.unit x)) (t.pairs x) []) Accepted) (valid_of k e)
    same (Revoke k x) e q =
        revoke_same (not (valid d s k)) (not (known d x)) (prohibited d x) (not (in_task d k.unit x)) (not (s.pairs x)) (not (t.pairs x)) (λ m. ap not (pair_of k x e m))
        ∙ ap (λ v. first_reason (revoke_tests v (not (known d x)) (prohibited d x) (not (in_task d k.unit x)) (not (t.pairs x))) Accepted) (valid_of k e)
    same (Release k) e q = ap (λ v. first_reason ((InvalidLease, v) ∷ []) Accepted) (valid_of k e)
    same (Start k w) e q = absurd (both_ways false refl e)
    same (End k) e q = absurd (both_ways false refl e)
    same (Activate k r) e q = absurd (both_ways false refl e)
    same (Deactivate k r) e q = absurd (both_ways false refl e)
    same (Check k v o conditions) e q = absurd (both_ways false refl e)

    -- and changes both states alike
    own : (c : Call) (a : Answer) → Near d u (commit a s (effect s c)) (commit a t (effect t c))
    unfolding with_at with_spot without_spot
    own c Granted = n
    own c Denied = n
    own c (Refused g) = n
    own (Acquire v w) Accepted = record { lease = ap (λ o. cond (eqb v u) (Some w) o) n.lease; pairs = n.pairs }
    own (Assign k x) Accepted = record { lease = n.lease; pairs = λ y m. ap (λ b. same_spot x y || b) (n.pairs y m) }
    own (Revoke k x) Accepted = record { lease = n.lease; pairs = λ y m. ap (λ b. not (same_spot x y) && b) (n.pairs y m) }
    own (Release k) Accepted = record { lease = ap (λ o. cond (eqb k.unit u) None o) n.lease; pairs = n.pairs }
    own (Start k w) Accepted = record { lease = n.lease; pairs = n.pairs }
    own (End k) Accepted = record { lease = n.lease; pairs = n.pairs }
    own (Activate k r) Accepted = record { lease = n.lease; pairs = n.pairs }
    own (Deactivate k r) Accepted = record { lease = n.lease; pairs = n.pairs }
    own (Check k v o conditions) Accepted = n

  near_self : (u : ℕ) (s : State) → Near d u s s
  near_self u s = record { lease = refl; pairs = λ x m. refl }

  near_over : (u : ℕ) (s t v : State) → Near d u s t → Near d u t v → Near d u s v
  near_over u s t v h k = record { lease = h.lease ∙ k.lease; pairs = λ y m. h.pairs y m ∙ k.pairs y m }

  module _ (l : Lawful d) where
    -- a pair in another unit's task is not the one that is changed
    apart : (u : ℕ) (k : LeaseNumbers) (x y : Spot) → eqb k.unit u ≡ false → not (in_task d k.unit x) ≡ false → in_task d u y ≡ true → same_spot x y ≡ false
    apart u k x y o m i = refute _ (λ t. both_ways (eqb k.unit u) o
        (eq-eqb k.unit u (tasks_apart d l y k.unit u (ap (in_task d k.unit) (same_true x y t) ∙ not-false (in_task d k.unit x) m) i)))

    -- a call of another unit, or of none, changes nothing that the unit sees
    other_step : (u : ℕ) (s : State) (c : Call) → is_of u c ≡ false → judge d s c ≡ Accepted → Near d u (effect s c) s
    unfolding with_spot without_spot
    other_step u s (Acquire v w) o a = record { lease = at_other s.lease v u (Some w) o; pairs = λ y m. refl }
    other_step u s (Assign k x) o a =
        record { lease = refl; pairs = λ y m. ap (λ b. b || s.pairs y) (apart u k x y o (passed d s (Assign k x) a).1.1.1.0 m) }
    other_step u s (Revoke k x) o a =
        record { lease = refl; pairs = λ y m. ap (λ b. not b && s.pairs y) (apart u k x y o (passed d s (Revoke k x) a).1.1.1.0 m) }
    other_step u s (Release k) o a = record { lease = at_other s.lease k.unit u None o; pairs = λ y m. refl }
    other_step u s (Start k w) o a = record { lease = refl; pairs = λ y m. refl }
    other_step u s (End k) o a = record { lease = refl; pairs = λ y m. refl }
    other_step u s (Activate k r) o a = record { lease = refl; pairs = λ y m. refl }
    other_step u s (Deactivate k r) o a = record { lease = refl; pairs = λ y m. refl }
    other_step u s (Check k v p conditions) o a = near_self u s

    other : (u : ℕ) (s : State) (c : Call) → is_of u c ≡ false → Near d u (after d s c) s
    other u s c o = committed (λ t. Near d u t s) (judge d s c) s (effect s c) (near_self u s) (other_step u s c o)

    follows : (u : ℕ) (s t : State) → Near d u s t → (cs : List Call) → has_25 (log d s cs) ≡ false → Follows d u (events_of u (log d s cs)) (final d s cs) t (calls_of u cs)
    follows u s t n [] h = record { events = refl; near = n }
    follows u s t n (c ∷ cs) h = by (is_of u c) refl (λ t' n'. follows u (after d s c) t' n' cs q.1)
      where
        q : (is_25 (judge d s c) ≡ false) × (has_25 (log d (after d s c) cs) ≡ false)
        q = or_parts (is_25 (judge d s c)) (has_25 (log d (after d s c) cs)) h

        by : (b : Bool) → is_of u c ≡ b
            → ((t' : State) → Near d u (after d s c) t' → Follows d u (events_of u (log d (after d s c) cs)) (final d (after d s c) cs) t' (calls_of u cs))
            → Follows d u
            (cond b (record { call = c; answer = judge d s c } ∷ events_of u (log d (after d s c) cs)) (events_of u (log d (after d s c) cs)))
            (final d (after d s c) cs) t
            (cond b (c ∷ calls_of u cs) (calls_of u cs))
        by false o go = go t (near_over u (after d s c) s t (other u s c o) n)
        by true o go =
            let j = same u s t n c o q.0 in
            let f = go (calm_after d t c) (subst (λ a. Near d u (after d s c) (commit a t (effect t c))) j (own u s t n c (judge d s c))) in
            record { events = λ i. record { call = c; answer = j i } ∷ f.events i; near = f.near }

    -- a pair that changes is in some unit's task
    touched_by : (u : ℕ) (x y : Spot) → not (in_task d u x) ≡ false → same_spot x y ≡ true → (v : ℕ) × (in_task d v y ≡ true)
    touched_by u x y m t = (u, ap (in_task d u) (same_true x y t) ∙ not-false (in_task d u x) m)

    touch_step : (y : Spot) (s : State) (c : Call) → judge d s c ≡ Accepted → ((effect s c).pairs y ≡ s.pairs y) ⊎ ((u : ℕ) × (in_task d u y ≡ true))
    unfolding with_spot without_spot
    touch_step y s (Acquire u w) a = inl refl
    touch_step y s (Assign k x) a = ⊎_elim
        (λ t. inr (touched_by k.unit x y (passed d s (Assign k x) a).1.1.1.0 t))
        (λ e. inl (ap (λ b. b || s.pairs y) e))
        (cases_Bool (same_spot x y))
    touch_step y s (Revoke k x) a = ⊎_elim
        (λ t. inr (touched_by k.unit x y (passed d s (Revoke k x) a).1.1.1.0 t))
        (λ e. inl (ap (λ b. not b && s.pairs y) e))
        (cases_Bool (same_spot x y))
    touch_step y s (Release k) a = inl refl
    touch_step y s (Start k w) a = inl refl
    touch_step y s (End k) a = inl refl
    touch_step y s (Activate k r) a = inl refl
    touch_step y s (Deactivate k r) a = inl refl
    touch_step y s (Check k v o conditions) a = inl refl

    touched : (y : Spot) (s : State) (cs : List Call) → ((final d s cs).pairs y ≡ s.pairs y) ⊎ ((u : ℕ) × (in_task d u y ≡ true))
    touched y s [] = inl refl
    touched y s (c ∷ cs) =
        elim (committed (λ t. (t.pairs y ≡ s.pairs y) ⊎ ((u : ℕ) × (in_task d u y ≡ true))) (judge d s c) s (effect s c) (inl refl) (touch_step y s c)) [
          | inl e ↦ elim (touched y (after d s c) cs) [ inl f ↦ inl (f ∙ e) | inr g ↦ inr g ]
          | inr g ↦ inr g
        ]

    order_free : (cs ds : List Call) → ((u : ℕ) → calls_of u cs ≡ calls_of u ds)
        → has_25 (log d (opened d) cs) ≡ false → has_25 (log d (opened d) ds) ≡ false → SameByUnit d (log d (opened d) cs) (final d (opened d) cs) ds
    order_free cs ds agree hc hd =
        record {
          events = λ u. (on u cs hc).events ∙ ap (calm_log d (opened d)) (agree u) ∙ sym (on u ds hd).events;
          pairs = fun_ext pair;
          leases = fun_ext (λ u. (on u cs hc).near.lease ∙ ap (λ xs. (calm_final d (opened d) xs).lease u) (agree u) ∙ sym (on u ds hd).near.lease);
        }
      where
        on : (u : ℕ) (xs : List Call) → has_25 (log d (opened d) xs) ≡ false → Follows d u (events_of u (log d (opened d) xs)) (final d (opened d) xs) (opened d) (calls_of u xs)
        on u xs h = follows u (opened d) (opened d) (near_self u (opened d)) xs h

        in_one : (u : ℕ) (y : Spot) → in_task d u y ≡ true → (final d (opened d) cs).pairs y ≡ (final d (opened d) ds).pairs y
        in_one u y k = (on u cs hc).near.pairs y k ∙ ap (λ xs. (calm_final d (opened d) xs).pairs y) (agree u) ∙ sym ((on u ds hd).near.pairs y k)

        pair : (y : Spot) → (final d (opened d) cs).pairs y ≡ (final d (opened d) ds).pairs y
        pair y =
            elim (touched y (opened d) cs) [
              | inl e ↦ elim (touched y (opened d) ds) [ inl f ↦ e ∙ sym f | inr g ↦ in_one g.0 y g.1 ]
              | inr g ↦ in_one g.0 y g.1
            ]

pub order : EveryRun Order
order d l calls = order_free d (lawful_test d l) calls
