-- Runs from an opening on.
use Rattle.std.proofs.Common.{◌≡◌, Bool, true, false, cond, ◌||◌, List, is_some, is_ok, Ok, Err, vec_items, Result, sym, refl, ap, ◌∙◌, subst, MatchResult}
use Rattle.house.specs.Views.{opening}
use Rattle.house.proofs.Empties.{checked_lawful}
use Rattle.lawful.specs.Checking.{is_lawful, checked}
use Rattle.refusals.specs.declared.refusal.Refusal.{Refusal}
use Rattle.refusals.specs.declared.refusal.Refusal.TheVariants.{HouseInUse}
use Rattle.rules.specs.States.{State, opened, nobody}
use Rattle.rules.specs.declared.call.Call.{Call}
use Rattle.rules.specs.declared.call.Event.{Event}
use Rattle.runs.specs.Law.{Law, Replayed}
use Rattle.search.specs.Below.{some_below}
use Rattle.search.proofs.Somes.{some_never}
use Rattle.tables.specs.Drafts.{Empty}
use Rattle.tables.specs.declared.draft.Draft.{Draft}
use Rattle.replays.specs.Keeping.{draft_in, state_in}
use Rattle.replays.specs.Playing.{Ran, NotRun, Played}
use Rattle.replays.specs.declared.keeper.Keeper.{Keeper}
use Rattle.replays.specs.declared.run.Failure.{Failure}
use Rattle.replays.specs.declared.run.Failure.TheVariants.{Refused, NoMemory}
use Rattle.replays.proofs.Tying.{tie_told}

-- a result of which the case is known
pub from_ok : {A E : Type 0} (P : A → Type 0) (Q : E → Type 0) (r : Result A E) (v : A) → r ≡ Ok v → MatchResult r P Q → P v
from_ok P Q r v e h = subst (λ x. MatchResult x P Q) e h

-- a house never opened is not in use
nobody_there : some_below (λ u. is_some (nobody u)) 16 ≡ false
unfolding nobody
nobody_there = some_never (λ u. is_some (nobody u)) 16 (λ k _. refl)

pub opening_is : (e d : Draft) (s : State) → s ≡ opened e → opening s d ≡ checked d
opening_is e d s h = ap (λ t. opening t d) h ∙ ap (λ (b : Bool). cond (b || b) (Err HouseInUse) (checked d)) nobody_there

pub opened_lawful : (e d : Draft) (s : State) → s ≡ opened e → Ok tt ≡ opening s d → is_lawful d ≡ true
opened_lawful e d s h a = checked_lawful d (a ∙ opening_is e d s h)

-- the law goes along equal drafts and states
pub ran : (d k e : Draft) (o s : State) (calls : List Call) (h : List Event) → is_lawful d ≡ true → k ≡ d → o ≡ opened d → e ≡ k → Replayed k o calls h s → Ran d calls e h s
ran d k e o s calls h l p q r x =
    record {
      lawful = l;
      draft = r ∙ p;
      law = subst (λ y. Law y calls h s) p (x.law (q ∙ ap opened (sym p)) (ap is_lawful p ∙ l));
    }

-- no lease is out after an opening, accepted or not
pub none_out : (b : Bool) (s t o : State) → s ≡ cond b t o → t.lease ≡ nobody → o.lease ≡ nobody → s.lease ≡ nobody
none_out true s t o e p q = ap (λ (x : State). x.lease) e ∙ p
none_out false s t o e p q = ap (λ (x : State). x.lease) e ∙ q

pub empty_along : (d e : Draft) → e ≡ d → Empty d → Empty e
empty_along d e p h = subst Empty (sym p) h

-- why no call was made, by what the opening answered
not_run : (d e d₁ : Draft) (s s₁ : State) (o : Result Unit Refusal) (f : Failure) → s ≡ opened e → Empty e → o ≡ opening s d
    → d₁ ≡ cond (is_ok o) d e → s₁ ≡ cond (is_ok o) (opened d) s → MatchResult o (λ _. f ≡ NoMemory) (λ g. f ≡ Refused g) → NotRun d d₁ s₁ f
not_run d e d₁ s s₁ (Ok u) f n m a p q h = subst (NotRun d d₁ s₁) (sym h) (opened_lawful e d s n a, p, q)
not_run d e d₁ s s₁ (Err g) f n m a p q h = subst (NotRun d d₁ s₁) (sym h) (sym (a ∙ opening_is e d s n), empty_along e d₁ p m, q ∙ n ∙ ap opened (sym p))

-- what is left, by what is known of the keeper n before the calls and m after them
module _ {S T : Type 0} {a b : _} (d e : Draft) (s : State) (calls : List Call) (n m : Keeper S T a b) (o : Result Unit Refusal) (new : s ≡ opened e) (empty : Empty e)
    (answer : o ≡ opening s d) (draft : draft_in n ≡ cond (is_ok o) d e) (state : state_in n ≡ cond (is_ok o) (opened d) s) (same : draft_in m ≡ draft_in n) where
  pub played : (h : _) → MatchResult h (λ v. (o ≡ Ok tt) × Replayed (draft_in n) (state_in n) calls (vec_items v) (state_in m)) (λ f. MatchResult o (λ _. f ≡ NoMemory) (λ g. f ≡ Refused g) × (m ≡ n))
      → Played d calls (record { house = m.house; held = m.held; history = h })
  played (Ok v) r =
      record {
        run = ran d (draft_in n) (draft_in m) (state_in n) (state_in m) calls (vec_items v) (opened_lawful e d s new (sym r.0 ∙ answer))
            (draft ∙ ap (λ x. cond (is_ok x) d e) r.0) (state ∙ ap (λ x. cond (is_ok x) (opened d) s) r.0) same r.1;
        held = tie_told _ _ _ m.tied;
      }
  played (Err f) r =
      record {
        run = subst (λ (x : Keeper S T a b). NotRun d (draft_in x) (state_in x) f) (sym r.1) (not_run d e (draft_in n) s (state_in n) o f new empty answer draft state r.0);
        held = tie_told _ _ _ m.tied;
      }
