-- The calls of a change, one after another.
use Rattle.std.proofs.Common.{◌≡◌, ℕ, true, false, ◌∷◌, is_ok, Ok, Err, Result, sym, refl, ap, ◌∙◌}
use Rattle.refusals.specs.Said.{said}
use Rattle.refusals.specs.declared.answer.Answer.{Answer}
use Rattle.refusals.specs.declared.answer.Answer.TheVariants.{Accepted}
use Rattle.refusals.specs.declared.refusal.Refusal.{Refusal}
use Rattle.rules.specs.Judging.{judge, after}
use Rattle.rules.specs.States.{State}
use Rattle.rules.specs.declared.call.Call.{Call}
use Rattle.rules.specs.declared.call.LeaseNumbers.{LeaseNumbers}
use Rattle.rules.specs.declared.call.Spot.{Spot}
use Rattle.runs.specs.Runs.{final, log}
use Rattle.std.proofs.lemmas.Bool.{both_ways}
use Rattle.tables.specs.declared.draft.Draft.{Draft}
use Rattle.requests.specs.Answering.{or_refused, outcome}
use Rattle.requests.specs.Calls.{change_call, lease_for, if_accepted, under_lease, change_calls}
use Rattle.requests.specs.declared.asked.Change.{Change as Way}

-- a call whose way is told
pub call_left : (d : Draft) (s : State) (way as_way : Way) (k : LeaseNumbers) (x : Spot) → way ≡ as_way → (t : State) → t ≡ after d s (change_call as_way k x) → t ≡ after d s (change_call way k x)
call_left d s way as_way k x p t e = e ∙ ap (λ w. after d s (change_call w k x)) (sym p)

-- the first of two refusals
pub first_refused : (b c r : Result Unit Refusal) → is_ok b ≡ false → said r ≡ said b → said r ≡ or_refused (said b) (said c)
first_refused (Ok u) c r h e = absurd (both_ways true h refl)
first_refused (Err g) c r h e = e

pub last_answer : (b c : Result Unit Refusal) → is_ok b ≡ true → said c ≡ or_refused (said b) (said c)
last_answer (Ok u) c h = refl
last_answer (Err g) c h = absurd (both_ways false refl h)

module _ (d : Draft) (s : State) (user unit : ℕ) (way : Way) (x : Spot) where
  -- where the acquire is refused, nothing follows it
  pub stopped : (r : Result Unit Refusal) → is_ok r ≡ false → said r ≡ judge d s (Call.Acquire unit user)
      → said r ≡ outcome (log d s (change_calls d s user unit way x))
  stopped (Ok u) h e = absurd (both_ways true h refl)
  stopped (Err g) h e =
      ap (λ a. outcome (record { call = Call.Acquire unit user; answer = a } ∷ log d (after d s (Call.Acquire unit user)) (if_accepted a (under_lease d user unit way x)))) e

  pub stopped_left : (r : Result Unit Refusal) (t : State) → is_ok r ≡ false → said r ≡ judge d s (Call.Acquire unit user)
      → t ≡ after d s (Call.Acquire unit user) → t ≡ final d s (change_calls d s user unit way x)
  stopped_left (Ok u) t h e p = absurd (both_ways true h refl)
  stopped_left (Err g) t h e p = p ∙ ap (λ a. final d (after d s (Call.Acquire unit user)) (if_accepted a (under_lease d user unit way x))) e

  -- where it is accepted, the change and the release follow
  module _ (e : Accepted ≡ judge d s (Call.Acquire unit user)) where
    pub all_calls : Call.Acquire unit user ∷ under_lease d user unit way x ≡ change_calls d s user unit way x
    all_calls = ap (λ a. Call.Acquire unit user ∷ if_accepted a (under_lease d user unit way x)) e

    module _ (d₁ d₂ : Draft) (s₁ s₂ : State) (k : LeaseNumbers) (p : s₁ ≡ after d s (Call.Acquire unit user)) (q : d₁ ≡ d)
        (l : k ≡ lease_for d user unit) (r : s₂ ≡ after d₁ s₁ (change_call way k x)) (q₂ : d₂ ≡ d₁) where
      changed : s₂ ≡ after d (after d s (Call.Acquire unit user)) (change_call way (lease_for d user unit) x)
      changed = r ∙ (λ i. after (q i) (p i) (change_call way (l i) x))

      pub chain_left : (t : State) → t ≡ after d₂ s₂ (Call.Release k) → t ≡ final d s (change_calls d s user unit way x)
      chain_left t w = (w ∙ (λ i. after ((q₂ ∙ q) i) (changed i) (Call.Release (l i)))) ∙ ap (final d s) all_calls

      pub chain_answer : (a b c : Answer) → b ≡ judge d₁ s₁ (change_call way k x) → c ≡ judge d₂ s₂ (Call.Release k)
          → a ≡ or_refused b c → a ≡ outcome (log d s (change_calls d s user unit way x))
      chain_answer a b c f g h =
          (h
          ∙ (λ i. or_refused ((f ∙ (λ j. judge (q j) (p j) (change_call way (l j) x))) i) ((g ∙ (λ j. judge ((q₂ ∙ q) j) (changed j) (Call.Release (l j)))) i)))
          ∙ (ap (λ z. or_refused z (or_refused (judge d (after d s (Call.Acquire unit user)) (change_call way (lease_for d user unit) x))
          (judge d (after d (after d s (Call.Acquire unit user)) (change_call way (lease_for d user unit) x)) (Call.Release (lease_for d user unit))))) e
          ∙ ap (λ calls. outcome (log d s calls)) all_calls)
