-- Runs step by step: what every run keeps, and a history cut at an event.
use Rattle.std.proofs.Common.{◌≡◌, ℕ, List, [], ◌∷◌, ◌++◌, refl, ap, subst, arith}
use Rattle.tables.specs.declared.draft.Draft.{Draft}
use Rattle.rules.specs.Judging.{judge, effect, after}
use Rattle.rules.specs.States.{State}
use Rattle.refusals.specs.declared.answer.Answer.TheVariants.{Accepted}
use Rattle.rules.specs.declared.call.Call.{Call}
use Rattle.rules.specs.declared.call.Event.{Event}
use Rattle.rules.proofs.Committing.{committed}
use Rattle.runs.specs.Runs.{final, log, calls_in}

module _ (d : Draft) where
  -- what every accepted call keeps, a whole run keeps
  pub kept : (P : State → Type 0) → ((s : State) (c : Call) → P s → judge d s c ≡ Accepted → P (effect s c)) → (s : State) (cs : List Call) → P s → P (final d s cs)
  kept P step s [] h = h
  kept P step s (c ∷ cs) h = kept P step (after d s c) cs (committed P (judge d s c) s (effect s c) h (step s c h))

  -- a history cut at an event: what stands before it is a run, which judges it
  pub cut : (s : State) (cs : List Call) (before later : List Event) (e : Event) → log d s cs ≡ before ++ e ∷ later
      → (before ≡ log d s (calls_in before)) × (judge d (final d s (calls_in before)) e.call ≡ e.answer)
  cut s [] [] later e q = absurd (let z : ◌≡◌ {A = ℕ} 0 1 = cc in omega arith)
  cut s [] (b ∷ bs) later e q = absurd (let z : ◌≡◌ {A = ℕ} 0 1 = cc in omega arith)
  cut s (c ∷ cs) [] later e q =
      let x : record { call = c; answer = judge d s c } ≡ e = cc in
      (refl, subst (λ (z : Event). judge d s z.call ≡ z.answer) x refl)
  cut s (c ∷ cs) (b ∷ bs) later e q =
      let x : record { call = c; answer = judge d s c } ≡ b = cc in
      let y : log d (after d s c) cs ≡ bs ++ e ∷ later = cc in
      let r = cut (after d s c) cs bs later e y in
      subst (λ (z : Event). (z ∷ bs ≡ log d s (calls_in (z ∷ bs))) × (judge d (final d s (calls_in (z ∷ bs))) e.call ≡ e.answer)) x
      (ap (λ h. record { call = c; answer = judge d s c } ∷ h) r.0, r.1)
