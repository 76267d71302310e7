-- What the three calls of a change come to, and that no request leaves a lease out.
use Rattle.std.proofs.Common.{◌≡◌, ℕ, Bool, true, false, cond, not, ◌&&◌, eqb, ◌⊎◌, List, [], ◌∷◌, is_some, Some, None, Option, sym, refl, ap, ◌∙◌, inl, inr, ⊎_elim, arith}
use mathlib.Core.Path.{fun_ext}
use Rattle.house.specs.Views.{with_pairs}
use Rattle.refusals.specs.declared.answer.Answer.{Answer}
use Rattle.refusals.specs.declared.answer.Answer.TheVariants.{Accepted, Granted, Denied, Refused}
use Rattle.refusals.specs.declared.refusal.Refusal.{Refusal}
use Rattle.refusals.specs.declared.refusal.Refusal.TheVariants.{InvalidLease}
use Rattle.rules.specs.Judging.{tests, first_reason, judge, effect, commit, after}
use Rattle.rules.specs.States.{State, with_at, is_for}
use Rattle.rules.specs.declared.call.Call.{Call}
use Rattle.rules.specs.declared.call.Event.{Event}
use Rattle.rules.specs.declared.call.LeaseNumbers.{LeaseNumbers}
use Rattle.rules.specs.declared.call.Spot.{Spot}
use Rattle.rules.proofs.Committing.{passed}
use Rattle.runs.specs.Runs.{final, log}
use Rattle.std.proofs.lemmas.Bool.{cases_eq, eq-eqb, ne_eqb, true≢false}
use Rattle.tables.specs.declared.draft.Draft.{Draft}
use Rattle.requests.specs.Answering.{or_refused, outcome, answer_to, after_asked}
use Rattle.requests.specs.Calls.{change_call, lease_for, if_accepted, under_lease}
use Rattle.requests.specs.Laws.{AllAccepted, changed_pairs, with_change, StandsAlone, ChangesStandAlone, LeasesComeBack}
use Rattle.requests.specs.Sites.{Premises}
use Rattle.requests.specs.declared.asked.Asked.TheVariants.{Start, End, Activate, Drop, CheckAccess, Change, Sense, Clock, Window}
use Rattle.requests.specs.declared.asked.Change.{Change as Way}
use Rattle.requests.specs.declared.asked.Change.TheVariants.{Assign, Revoke}

-- a lease given and taken back again
lease_given : (l : ℕ → Option ℕ) (u w : ℕ) → with_at l u (Some w) u ≡ Some w
unfolding with_at
lease_given l u w = ap (λ b. cond b (Some w) (l u)) (eq-eqb u u refl)

lease_back : (l : ℕ → Option ℕ) (u w : ℕ) → l u ≡ None → with_at (with_at l u (Some w)) u None ≡ l
unfolding with_at
lease_back l u w e = fun_ext λ j. ⊎_elim
    (λ (q : u ≡ j). ap (λ b. cond b None (cond b (Some w) (l j))) (eq-eqb u j q) ∙ sym (ap l (sym q) ∙ e))
    (λ (q : u ≡ j → ⊥). ap (λ b. cond b None (cond b (Some w) (l j))) (ne_eqb u j q))
    (cases_eq u j)

none_of : (o : Option ℕ) → is_some o ≡ false → o ≡ None
none_of None e = refl
none_of (Some w) e = absurd (true≢false e)

-- a change is accepted or refused
abbrev Settled : Answer → Type 0
Settled a = (a ≡ Accepted) ⊎ ((g : Refusal) × (a ≡ Refused g))

settled : (ts : List (Refusal × Bool)) → Settled (first_reason ts Accepted)
settled [] = inl refl
settled (t ∷ ts) = by t.1 (settled ts)
  where
    by : (b : Bool) → Settled (first_reason ts Accepted) → Settled (cond b (Refused t.0) (first_reason ts Accepted))
    by true h = inr (t.0, refl)
    by false h = h

change_settled : (d : Draft) (s : State) (way : Way) (k : LeaseNumbers) (x : Spot) → Settled (judge d s (change_call way k x))
change_settled d s Assign k x = settled (tests d s (Call.Assign k x))
change_settled d s Revoke k x = settled (tests d s (Call.Revoke k x))

-- it changes pairs only
change_effect : (s : State) (way : Way) (k : LeaseNumbers) (x : Spot) → effect s (change_call way k x) ≡ with_pairs s (changed_pairs way s.pairs x)
change_effect s Assign k x = refl
change_effect s Revoke k x = refl

-- the site with another state
abbrev stated : Premises → State → Premises
stated p t = record { house = p.house; state = t; board = p.board; minute = p.minute; windows = p.windows }

module _ (p : Premises) (user unit : ℕ) (way : Way) (x : Spot) where
  abbrev d : Draft
  d = p.house

  abbrev s : State
  s = p.state

  abbrev k : LeaseNumbers
  k = lease_for d user unit

  -- the state in which the lease is out
  abbrev s₁ : State
  s₁ = effect s (Call.Acquire unit user)

  -- a release of the lease that is out is accepted
  released : (t : State) → t.lease unit ≡ Some user → judge d t (Call.Release k) ≡ Accepted
  released t e =
      ap (λ o. cond (not (eqb d.number d.number && is_for o user)) (Refused InvalidLease) Accepted) e
      ∙ (λ i. cond (not (eq-eqb d.number d.number refl i && eq-eqb user user refl i)) (Refused InvalidLease) Accepted)

  release_left : (t : State) → t.lease unit ≡ Some user → after d t (Call.Release k) ≡ effect t (Call.Release k)
  release_left t e = ap (λ a. commit a t (effect t (Call.Release k))) (released t e)

  module _ (free : s.lease unit ≡ None) where
    -- after a refused change the release leaves all as it was
    refused_left : after d s₁ (Call.Release k) ≡ s
    refused_left =
        release_left s₁ (lease_given s.lease unit user)
        ∙ (λ i. record { pairs = s.pairs; held = s.held; lease = lease_back s.lease unit user free i; session = s.session; active = s.active })

    out : (effect s₁ (change_call way k x)).lease unit ≡ Some user
    out = ap (λ t. t.lease unit) (change_effect s₁ way k x) ∙ lease_given s.lease unit user

    -- after an accepted one it leaves the pair changed
    made_left : after d (effect s₁ (change_call way k x)) (Call.Release k) ≡ with_pairs s (changed_pairs way s.pairs x)
    made_left =
        (release_left (effect s₁ (change_call way k x)) out
        ∙ ap (λ t. effect t (Call.Release k)) (change_effect s₁ way k x))
        ∙ (λ i. record { pairs = changed_pairs way s.pairs x; held = s.held; lease = lease_back s.lease unit user free i; session = s.session; active = s.active })

    -- under an accepted acquire, by the answer b to the change
    abbrev s₂ : Answer → State
    s₂ b = commit b s₁ (effect s₁ (change_call way k x))

    abbrev ByChange : Answer → Type 0
    ByChange b =
        (or_refused b (judge d (s₂ b) (Call.Release k)) ≡ Accepted → (b ≡ Accepted) × (judge d (s₂ b) (Call.Release k) ≡ Accepted))
        × ((b ≡ Accepted) → (judge d (s₂ b) (Call.Release k) ≡ Accepted) → or_refused b (judge d (s₂ b) (Call.Release k)) ≡ Accepted)
        × (or_refused b (judge d (s₂ b) (Call.Release k)) ≡ Accepted → stated p (after d (s₂ b) (Call.Release k)) ≡ with_change p way x)
        × ((or_refused b (judge d (s₂ b) (Call.Release k)) ≡ Accepted → ⊥) → stated p (after d (s₂ b) (Call.Release k)) ≡ p)

    by_change : (b : Answer) → Settled b → ByChange b
    by_change Accepted h = (λ e. (refl, e), λ _ e. e, λ _. ap (stated p) made_left, λ n. absurd (n (released (effect s₁ (change_call way k x)) out)))
    by_change Granted h = absurd (⊎_elim (λ e. let z : ◌≡◌ {A = ℕ} 0 1 = cc in omega arith) (λ w. let v = w.1 in let z : ◌≡◌ {A = ℕ} 0 1 = cc in omega arith) h)
    by_change Denied h = absurd (⊎_elim (λ e. let z : ◌≡◌ {A = ℕ} 0 1 = cc in omega arith) (λ w. let v = w.1 in let z : ◌≡◌ {A = ℕ} 0 1 = cc in omega arith) h)
    by_change (Refused g) h = (
      λ e. absurd (let z : ◌≡◌ {A = ℕ} 0 1 = cc in omega arith),
      λ e _. e,
      λ e. absurd (let z : ◌≡◌ {A = ℕ} 0 1 = cc in omega arith),
      λ _. ap (stated p) refused_left,
    )

  -- by the answer a to the acquire
  abbrev told_by : Answer → Answer
  told_by a = outcome (record { call = Call.Acquire unit user; answer = a } ∷ log d (commit a s s₁) (if_accepted a (under_lease d user unit way x)))

  abbrev left_by : Answer → Premises
  left_by a = stated p (final d (commit a s s₁) (if_accepted a (under_lease d user unit way x)))

  abbrev three_by : Answer → List Event
  three_by a = record { call = Call.Acquire unit user; answer = a } ∷ log d (commit a s s₁) (under_lease d user unit way x)

  abbrev ByAcquire : Answer → Type 0
  ByAcquire a =
      (told_by a ≡ Accepted → AllAccepted (three_by a))
      × (AllAccepted (three_by a) → told_by a ≡ Accepted)
      × (told_by a ≡ Accepted → left_by a ≡ with_change p way x)
      × ((told_by a ≡ Accepted → ⊥) → left_by a ≡ p)

  by_acquire : (a : Answer) → judge d s (Call.Acquire unit user) ≡ a → ByAcquire a
  by_acquire Accepted e =
      let free = none_of (s.lease unit) (passed d s (Call.Acquire unit user) e).1.1.0 in
      let c = by_change free (judge d s₁ (change_call way k x)) (change_settled d s₁ way k x) in
      (λ h. let t = c.0 h in (refl, (t.0, (t.1, tt))), λ h. c.1 h.1.0 h.1.1.0, c.2, c.3)
  by_acquire Granted e = (λ h. absurd (let z : ◌≡◌ {A = ℕ} 0 1 = cc in omega arith), λ h. h.0, λ h. absurd (let z : ◌≡◌ {A = ℕ} 0 1 = cc in omega arith), λ _. refl)
  by_acquire Denied e = (λ h. absurd (let z : ◌≡◌ {A = ℕ} 0 1 = cc in omega arith), λ h. h.0, λ h. absurd (let z : ◌≡◌ {A = ℕ} 0 1 = cc in omega arith), λ _. refl)
  by_acquire (Refused g) e = (λ h. absurd (let z : ◌≡◌ {A = ℕ} 0 1 = cc in omega arith), λ h. h.0, λ h. absurd (let z : ◌≡◌ {A = ℕ} 0 1 = cc in omega arith), λ _. refl)

  pub stands : StandsAlone p user unit way x
  stands =
      let c = by_acquire (judge d s (Call.Acquire unit user)) refl in
      record { by_three = c.0; from_three = c.1; made = c.2; left = c.3 }

  change_leases : (r : Answer) → answer_to p (Change user unit way x) ≡ r → (after_asked p (Change user unit way x)).state.lease ≡ s.lease
  change_leases Accepted e = ap (λ q. q.state.lease) (stands.made e)
  change_leases Granted e = ap (λ q. q.state.lease) (stands.left (λ h. let z : ◌≡◌ {A = ℕ} 0 1 = cc in omega arith))
  change_leases Denied e = ap (λ q. q.state.lease) (stands.left (λ h. let z : ◌≡◌ {A = ℕ} 0 1 = cc in omega arith))
  change_leases (Refused g) e = ap (λ q. q.state.lease) (stands.left (λ h. let z : ◌≡◌ {A = ℕ} 0 1 = cc in omega arith))

pub changes_stand_alone_lem : ChangesStandAlone
changes_stand_alone_lem p user unit way x = stands p user unit way x

-- a call that gives and takes no lease
leases_kept : (a : Answer) (s t : State) → t.lease ≡ s.lease → (commit a s t).lease ≡ s.lease
leases_kept Accepted s t e = e
leases_kept Granted s t e = refl
leases_kept Denied s t e = refl
leases_kept (Refused g) s t e = refl

pub leases_come_back_lem : LeasesComeBack
leases_come_back_lem p (Start k w) = leases_kept (judge p.house p.state (Call.Start k w)) p.state (effect p.state (Call.Start k w)) refl
leases_come_back_lem p (End k) = leases_kept (judge p.house p.state (Call.End k)) p.state (effect p.state (Call.End k)) refl
leases_come_back_lem p (Activate k r) = leases_kept (judge p.house p.state (Call.Activate k r)) p.state (effect p.state (Call.Activate k r)) refl
leases_come_back_lem p (Drop k r) = leases_kept (judge p.house p.state (Call.Deactivate k r)) p.state (effect p.state (Call.Deactivate k r)) refl
leases_come_back_lem p (CheckAccess k v o) = leases_kept _ p.state p.state refl
leases_come_back_lem p (Change w u way x) = change_leases p w u way x (answer_to p (Change w u way x)) refl
leases_come_back_lem p (Sense n b) = refl
leases_come_back_lem p (Clock m) = refl
leases_come_back_lem p (Window n from to) = refl
