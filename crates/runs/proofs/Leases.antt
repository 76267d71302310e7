-- Every accepted lease call is warranted by the history before it.
use Rattle.std.proofs.Common.{◌≡◌, ℕ, true, false, not, List, is_some, sym, ap, ◌∙◌, subst}
use Rattle.lawful.specs.Keeping.{Lawful}
use Rattle.lawful.specs.declared.rule.Rule.TheVariants.{TasksApart}
use Rattle.lawful.specs.declared.task.Task.{Task}
use Rattle.lawful.proofs.Answering.{lawful_test}
use Rattle.std.proofs.lemmas.Bool.{both_ways, and_parts, not-false}
use Rattle.tables.specs.declared.draft.Draft.{Draft}
use Rattle.rules.specs.Judging.{valid, judge}
use Rattle.rules.specs.Reasons.{Valid}
use Rattle.rules.specs.Spots.{in_task}
use Rattle.rules.specs.States.{State, opened}
use Rattle.refusals.specs.declared.answer.Answer.TheVariants.{Accepted}
use Rattle.rules.specs.declared.call.Call.{Call}
use Rattle.rules.specs.declared.call.Call.TheVariants.{Acquire, Assign, Revoke, Release, Start, End, Activate, Deactivate, Check}
use Rattle.rules.specs.declared.call.Event.{Event}
use Rattle.rules.specs.declared.call.LeaseNumbers.{LeaseNumbers}
use Rattle.rules.specs.declared.call.Spot.{Spot}
use Rattle.rules.specs.declared.call.Spot.TheVariants.{RolePair, Permission}
use Rattle.rules.proofs.Committing.{passed}
use Rattle.rules.proofs.Deciding.{decides_valid}
use Rattle.runs.specs.Laws.{EveryRun, Entitled, Warranted, UnderLease}
use Rattle.runs.specs.Runs.{final, log, calls_in}
use Rattle.runs.proofs.Histories.{by_history}
use Rattle.runs.proofs.Stepping.{cut}

-- no pair is in the tasks of two units
pub tasks_apart : (d : Draft) → Lawful d → (x : Spot) (u v : ℕ) → in_task d u x ≡ true → in_task d v x ≡ true → u ≡ v
tasks_apart d l (RolePair q e) u v a b = l (TasksApart Task.RolePairs) q e u v a b
tasks_apart d l (Permission p e) u v a b = l (TasksApart Task.Permissions) p e u v a b

module _ (d : Draft) (l : Lawful d) (cs : List Call) where
  history : List Event
  history = log d (opened d) cs

  state : State
  state = final d (opened d) cs

  entitled : (k : LeaseNumbers) (x : Spot) → not (valid d state k) ≡ false → not (in_task d k.unit x) ≡ false → Entitled d k x history
  unfolding history state
  entitled k x v t =
      let w : Valid d state k = (decides_valid d state k).0 (not-false _ v) in
      let m : in_task d k.unit x ≡ true = not-false _ t in
      record { house = w.0; out = ((by_history d cs).leases k.unit k.user).0 w.1; mine = m; alone = λ v n. tasks_apart d l x v k.unit n m }

  warranted : (c : Call) → judge d state c ≡ Accepted → Warranted d c history
  unfolding history state
  warranted (Acquire u w) a =
      let n = passed d state (Acquire u w) a in
      let p = and_parts _ _ (not-false _ n.0) in
      record {
        unit_declared = p.0;
        user_declared = p.1;
        administrator = not-false _ n.1.0;
        free = λ v h. both_ways (is_some (state.lease u)) n.1.1.0 (ap is_some (((by_history d cs).leases u v).1 h));
      }
  warranted (Assign k x) a = let n = passed d state (Assign k x) a in entitled k x n.0 n.1.1.1.0
  warranted (Revoke k x) a = let n = passed d state (Revoke k x) a in entitled k x n.0 n.1.1.1.0
  warranted (Release k) a =
      let w : Valid d state k = (decides_valid d state k).0 (not-false _ (passed d state (Release k) a).0) in
      (w.0, ((by_history d cs).leases k.unit k.user).0 w.1)
  warranted (Start k w) a = tt
  warranted (End k) a = tt
  warranted (Activate k r) a = tt
  warranted (Deactivate k r) a = tt
  warranted (Check k v o conditions) a = tt

pub under_lease : EveryRun UnderLease
unfolding history state
under_lease d l calls before later e q a =
    let k = cut d (opened d) calls before later e q in
    subst (Warranted d e.call) (sym k.0) (warranted d (lawful_test d l) (calls_in before) e.call (k.1 ∙ a))
