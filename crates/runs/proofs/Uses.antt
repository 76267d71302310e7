-- Access checks, and refusals, wherever they stand in a history.
use Rattle.std.proofs.Common.{◌≡◌, ℕ, Bool, true, false, cond, List, [], ◌∷◌, sym, refl, ◌∙◌, subst, arith}
use Rattle.lawful.specs.Keeping.{Lawful}
use Rattle.lawful.specs.declared.rule.Rule.TheVariants.{PermissionsApart}
use Rattle.lawful.proofs.Answering.{lawful_test}
use Rattle.refusals.specs.declared.refusal.Refusal.{Refusal}
use Rattle.rows.specs.declared.row.Row.{Row}
use Rattle.std.proofs.lemmas.Bool.{both_ways}
use Rattle.tables.specs.declared.draft.Draft.{Draft}
use Rattle.rules.specs.Access.{granted}
use Rattle.rules.specs.Judging.{tests, first_reason, judge}
use Rattle.rules.specs.Reaching.{role_of}
use Rattle.rules.specs.Reasons.{reasons, Deserved}
use Rattle.rules.specs.States.{State, opened}
use Rattle.refusals.specs.declared.answer.Answer.{Answer}
use Rattle.refusals.specs.declared.answer.Answer.TheVariants.{Granted, Denied, Refused}
use Rattle.rules.specs.declared.call.Call.{Call}
use Rattle.rules.specs.declared.call.Call.TheVariants.{Check}
use Rattle.rules.proofs.Deserving.{answers_deserved}
use Rattle.rules.proofs.Paths.{one_permission, by_path}
use Rattle.runs.specs.Laws.{EveryRun, Used, Uses, RefusalsDeserved}
use Rattle.runs.specs.Runs.{final, log, calls_in}
use Rattle.runs.proofs.Afterwards.{none_barred, within}
use Rattle.runs.proofs.Histories.{by_history}
use Rattle.runs.proofs.Sessions.{orderly}
use Rattle.runs.proofs.Stepping.{cut}

-- an answer that is no refusal is the one that no reason kept back
unrefused_is : (ts : List (Refusal × Bool)) (a b : Answer) → first_reason ts a ≡ b → ((g : Refusal) → b ≡ Refused g → ⊥) → a ≡ b
unrefused_is [] a b e n = e
unrefused_is (t ∷ ts) a b e n = by t.1 (unrefused_is ts a b) e
  where
    by : (c : Bool) → (first_reason ts a ≡ b → ((g : Refusal) → b ≡ Refused g → ⊥) → a ≡ b) → cond c (Refused t.0) (first_reason ts a) ≡ b → a ≡ b
    by true go e = absurd (n t.0 (sym e))
    by false go e = go e n

granted_true : (b : Bool) → cond b Granted Denied ≡ Granted → b ≡ true
granted_true true e = refl
granted_true false e = absurd (let z : ◌≡◌ {A = ℕ} 0 1 = cc in omega arith)

denied_false : (b : Bool) → cond b Granted Denied ≡ Denied → b ≡ false
denied_false true e = absurd (let z : ◌≡◌ {A = ℕ} 0 1 = cc in omega arith)
denied_false false e = refl

module _ (d : Draft) (l : Lawful d) (cs : List Call) (k v o : ℕ) (conditions : Row) (a : Answer) (j : judge d (final d (opened d) cs) (Check k v o conditions) ≡ a) where
  told : ((g : Refusal) → a ≡ Refused g → ⊥) → cond (granted d (final d (opened d) cs) k v o conditions) Granted Denied ≡ a
  told n = unrefused_is (tests d (final d (opened d) cs) (Check k v o conditions)) _ a j n

  used : Used d (final d (opened d) cs) k v o conditions a (log d (opened d) cs)
  used =
      let s : State = final d (opened d) cs in
      let p = by_path d s (one_permission d (l PermissionsApart)) (within d l cs) k v o conditions in
      record {
        granted = λ e. p.0 (granted_true _ (told (λ g q. let z : ◌≡◌ {A = ℕ} 0 1 = cc in omega arith) ∙ e));
        denied = λ e w. both_ways _ (denied_false _ (told (λ g q. let z : ◌≡◌ {A = ℕ} 0 1 = cc in omega arith) ∙ e)) (p.1 w);
        rightful = λ q e m w x.
            let h = (orderly d cs).held_roles k (role_of d q) x.role_active in
            record {
              active = ((by_history d cs).actives k (role_of d q)).0 x.role_active;
              user = h.0;
              lives = ((by_history d cs).sessions k h.0).0 h.1;
              holds = h.2;
              free = none_barred d l cs q e m x.pair_assigned x.permission_assigned;
            };
      }

pub uses : EveryRun Uses
uses d l calls before later k v o conditions a q =
    let c = cut d (opened d) calls before later (record { call = Check k v o conditions; answer = a }) q in
    subst (Used d (final d (opened d) (calls_in before)) k v o conditions a) (sym c.0) (used d (lawful_test d l) (calls_in before) k v o conditions a c.1)

pub deserved : EveryRun RefusalsDeserved
deserved d l calls before later e q =
    let c = cut d (opened d) calls before later e q in
    let s : State = final d (opened d) (calls_in before) in
    subst (Deserved (reasons d s e.call)) c.1 (answers_deserved d s (within d (lawful_test d l) (calls_in before)) e.call)
