-- The whole law of one run, and of one that is replayed.
use Rattle.std.proofs.Common.{◌≡◌, ℕ, ◌+◌, ◌<◌, List, [], ◌∷◌, ◌++◌, length, get_or, take, sym, refl, ap, ◌∙◌, subst, ap₂}
use Rattle.std.proofs.lemmas.List.{take_more}
use Rattle.tables.specs.declared.draft.Draft.{Draft}
use Rattle.rules.specs.Judging.{judge, after}
use Rattle.rules.specs.States.{State, opened}
use Rattle.refusals.specs.declared.answer.Answer.{Answer}
use Rattle.rules.specs.declared.call.Call.{Call}
use Rattle.rules.specs.declared.call.Event.{Event}
use Rattle.runs.specs.Law.{Law, Replayed}
use Rattle.runs.specs.Laws.{EveryRun}
use Rattle.runs.specs.Runs.{final, log}
use Rattle.runs.proofs.Afterwards.{none_afterwards}
use Rattle.runs.proofs.Counting.{counts}
use Rattle.runs.proofs.Histories.{told_by_history}
use Rattle.runs.proofs.Leases.{under_lease}
use Rattle.runs.proofs.Ordering.{order}
use Rattle.runs.proofs.Uses.{uses, deserved}

pub law : EveryRun Law
law d l calls =
    record {
      rules_kept = record { answers = refl; state = refl };
      counts = counts d l calls;
      under_lease = under_lease d l calls;
      none_afterwards = none_afterwards d l calls;
      uses = uses d l calls;
      order = order d l calls;
      by_history = told_by_history d l calls;
      refusals_deserved = deserved d l calls;
    }

-- one more call at the end

final_push : (d : Draft) (s : State) (xs : List Call) (x : Call) → final d s (xs ++ x ∷ []) ≡ after d (final d s xs) x
final_push d s [] x = refl
final_push d s (c ∷ xs) x = final_push d (after d s c) xs x

log_push : (d : Draft) (s : State) (xs : List Call) (x : Call) → log d s (xs ++ x ∷ []) ≡ log d s xs ++ record { call = x; answer = judge d (final d s xs) x } ∷ []
log_push d s [] x = refl
log_push d s (c ∷ xs) x = ap (λ h. record { call = c; answer = judge d s c } ∷ h) (log_push d (after d s c) xs x)

-- the history h and the state s are those of the calls from o on
pub record SoFar (d : Draft) (o : State) (calls : List Call) (h : List Event) (s : State) : Type 0 where
  pub logged : h ≡ log d o calls
  pub reached : s ≡ final d o calls

pub so_far_none : (d : Draft) (o s : State) (h : List Event) → h ≡ [] → s ≡ o → SoFar d o [] h s
so_far_none d o s h e f = record { logged = e; reached = f }

-- a turn of a loop over the calls
pub so_far_more : (d d' : Draft) (o s s' : State) (calls : List Call) (i : ℕ) (z : Call) (h h' : List Event) (a : Answer) → i < length calls → d' ≡ d → SoFar d o (take i calls) h s
    → a ≡ judge d' s (get_or calls i z) → s' ≡ after d' s (get_or calls i z) → h' ≡ h ++ record { call = get_or calls i z; answer = a } ∷ [] → SoFar d o (take (i + 1) calls) h' s'
so_far_more d d' o s s' calls i z h h' a lt same w said now grown =
    let x : Call = get_or calls i z in
    record {
      logged =
          grown ∙ (λ k. w.logged k ++ record { call = x; answer = (said ∙ ap₂ (λ t y. judge t y x) same w.reached) k } ∷ [])
          ∙ sym (ap (log d o) (take_more calls i z lt) ∙ log_push d o (take i calls) x);
      reached = now ∙ ap₂ (λ t y. after t y x) same w.reached ∙ sym (ap (final d o) (take_more calls i z lt) ∙ final_push d o (take i calls) x);
    }

-- the whole law of a run that is replayed from an opening
pub replayed : (d : Draft) (o : State) (calls : List Call) (h : List Event) (s : State) → SoFar d o calls h s → Replayed d o calls h s
replayed d o calls h s w =
    record {
      answers = w.logged;
      state = w.reached;
      law = λ e l.
          subst (λ x. Law d calls x s) (sym (w.logged ∙ ap (λ y. log d y calls) e))
          (subst (λ x. Law d calls (log d (opened d) calls) x) (sym (w.reached ∙ ap (λ y. final d y calls) e)) (law d l calls));
    }
