-- Leases, sessions and active roles are what the history tells.
use Rattle.std.proofs.Common.{◌≡◌, ℕ, Bool, true, false, cond, not, ◌&&◌, ◌||◌, eqb, List, is_some, Some, None, Option, sym, refl, ap, ◌∙◌, arith}
use Rattle.lawful.proofs.Bounds.{refute}
use Rattle.std.proofs.lemmas.Bool.{both_ways, eqb-true}
use Rattle.std.proofs.lemmas.Bool.Decides.{nat_tests}
use Rattle.tables.specs.declared.draft.Draft.{Draft}
use Rattle.rules.specs.Judging.{judge, effect}
use Rattle.rules.specs.States.{State, is_for, nobody, none_active, with_at, with_active, without_active, without_session, opened}
use Rattle.refusals.specs.declared.answer.Answer.TheVariants.{Accepted}
use Rattle.rules.specs.declared.call.Call.{Call}
use Rattle.rules.specs.declared.call.Call.TheVariants.{Acquire, Assign, Revoke, Release, Start, End, Activate, Deactivate, Check}
use Rattle.rules.proofs.Committing.{passed}
use Rattle.rules.proofs.Deciding.{decides_for}
use Rattle.runs.specs.Histories.{acquires, releases, starts_for, ends_session, activates, drops}
use Rattle.runs.specs.Laws.{EveryRun, Same, ByHistory}
use Rattle.runs.specs.Runs.{final, log}
use Rattle.runs.proofs.Sessions.{Orderly, orderly_after, orderly_opened, held_roles_stay}
use Rattle.runs.proofs.Sinces.{turned, tells_both}

-- somebody takes what nobody had
taken : (f : ℕ → Option ℕ) (u v x w : ℕ) → is_some (f v) ≡ false → is_for (with_at f v (Some x) u) w ≡ cond (eqb v u && eqb x w) true (is_for (f u) w)
unfolding with_at
taken f u v x w h = by (eqb v u) refl
  where
    free : (o : Option ℕ) → is_some o ≡ false → is_for o w ≡ false
    free None e = refl
    free (Some y) e = absurd (both_ways true e refl)

    by : (b : Bool) → eqb v u ≡ b → is_for (cond b (Some x) (f u)) w ≡ cond (b && eqb x w) true (is_for (f u) w)
    by true e = let g = free (f u) (ap (λ n. is_some (f n)) (sym (eqb-true v u e)) ∙ h) in grind (arith, nat_tests)
    by false e = refl

-- and gives it back
given : (f : ℕ → Option ℕ) (u v w : ℕ) → is_for (with_at f v None u) w ≡ cond (eqb v u) false (is_for (f u) w)
unfolding with_at
given f u v w = by (eqb v u)
  where
    by : (b : Bool) → is_for (cond b None (f u)) w ≡ cond b false (is_for (f u) w)
    by true = refl
    by false = refl

module _ (d : Draft) where
  leased : (u w : ℕ) (s : State) (c : Call) → Orderly d s → judge d s c ≡ Accepted → is_for ((effect s c).lease u) w ≡ turned (acquires u w) (releases u) c (is_for (s.lease u) w)
  leased u w s (Acquire v x) h a = taken s.lease u v x w (passed d s (Acquire v x) a).1.1.0
  leased u w s (Assign k x) h a = refl
  leased u w s (Revoke k x) h a = refl
  leased u w s (Release k) h a = given s.lease u k.unit w
  leased u w s (Start k v) h a = refl
  leased u w s (End k) h a = refl
  leased u w s (Activate k r) h a = refl
  leased u w s (Deactivate k r) h a = refl
  leased u w s (Check k v o conditions) h a = refl

  lived : (j w : ℕ) (s : State) (c : Call) → Orderly d s → judge d s c ≡ Accepted → is_for ((effect s c).session j) w ≡ turned (starts_for j w) (ends_session j) c (is_for (s.session j) w)
  lived j w s (Acquire v x) h a = refl
  lived j w s (Assign k x) h a = refl
  lived j w s (Revoke k x) h a = refl
  lived j w s (Release k) h a = refl
  lived j w s (Start k v) h a = taken s.session j k v w (passed d s (Start k v) a).1.0
  lived j w s (End k) h a = given s.session j k w
  lived j w s (Activate k r) h a = refl
  lived j w s (Deactivate k r) h a = refl
  lived j w s (Check k v o conditions) h a = refl

  -- a session that does not live has no active role
  idle : (s : State) (k r : ℕ) → Orderly d s → is_some (s.session k) ≡ false → s.active k r ≡ false
  idle s k r h e = refute _ (λ t. both_ways (is_some (s.session k)) e (ap is_some (h.held_roles k r t).1))

  lit : (j r : ℕ) (s : State) (c : Call) → Orderly d s → judge d s c ≡ Accepted → (effect s c).active j r ≡ turned (activates j r) (drops j r) c (s.active j r)
  unfolding with_active without_active without_session
  lit j r s (Acquire v x) h a = refl
  lit j r s (Assign k x) h a = refl
  lit j r s (Revoke k x) h a = refl
  lit j r s (Release k) h a = refl
  lit j r s (Start k v) h a = by (eqb k j) refl
    where
      by : (b : Bool) → eqb k j ≡ b → (not b && s.active j r) ≡ s.active j r
      by true e = sym (idle s j r h (ap (λ n. is_some (s.session n)) (sym (eqb-true k j e)) ∙ (passed d s (Start k v) a).1.0))
      by false e = refl
  lit j r s (End k) h a = by (eqb k j)
    where
      by : (b : Bool) → (not b && s.active j r) ≡ cond b false (s.active j r)
      by true = refl
      by false = refl
  lit j r s (Activate k b) h a = by (eqb k j && eqb b r)
    where
      by : (x : Bool) → (x || s.active j r) ≡ cond x true (s.active j r)
      by true = refl
      by false = refl
  lit j r s (Deactivate k b) h a = by (eqb k j && eqb b r)
    where
      by : (x : Bool) → (not x && s.active j r) ≡ cond x false (s.active j r)
      by true = refl
      by false = refl
  lit j r s (Check k v o conditions) h a = refl

  -- a user by the test, and by the equation
  same_for : (o : Option ℕ) (w : ℕ) (P : Type 0) → Same (is_for o w ≡ true) P → Same (o ≡ Some w) P
  same_for o w P r = let e = decides_for o w in ((λ q. r.0 (e.1 q)), (λ p. e.0 (r.1 p)))

  nobody_for : (k w : ℕ) → is_for (nobody k) w ≡ false
  unfolding nobody
  nobody_for k w = refl

  nothing_active : (k r : ℕ) → none_active k r ≡ false
  unfolding none_active
  nothing_active k r = refl

  pub by_history : (cs : List Call) → ByHistory d cs (log d (opened d) cs) (final d (opened d) cs)
  by_history cs =
      record {
        leases = λ u w. same_for _ w _ (tells_both (acquires u w) (releases u) d (Orderly d) (orderly_after d) (λ s. is_for (s.lease u) w) (leased u w) (opened d) (orderly_opened d) (nobody_for u w) cs);
        sessions = λ k w. same_for _ w _ (tells_both (starts_for k w) (ends_session k) d (Orderly d) (orderly_after d) (λ s. is_for (s.session k) w) (lived k w) (opened d) (orderly_opened d) (nobody_for k w) cs);
        actives = λ k r. tells_both (activates k r) (drops k r) d (Orderly d) (orderly_after d) (λ s. s.active k r) (lit k r) (opened d) (orderly_opened d) (nothing_active k r) cs;
        held = held_roles_stay d cs;
      }

pub told_by_history : EveryRun ByHistory
told_by_history d l calls = by_history d calls
