-- A test of the state that some calls start and some calls end is what the history tells.
use Rattle.std.proofs.Common.{◌≡◌, Bool, true, false, cond, ◌&&◌, ◌⊎◌, List, [], ◌∷◌, ◌++◌, sym, refl, ap, ◌∙◌, inl, inr, arith}
use Rattle.std.proofs.lemmas.Bool.{false≢true}
use Rattle.std.proofs.lemmas.Bool.Decides.{nat_tests}
use Rattle.tables.specs.declared.draft.Draft.{Draft}
use Rattle.rules.specs.Judging.{judge, effect, commit, after}
use Rattle.rules.specs.States.{State}
use Rattle.refusals.specs.declared.answer.Answer.{Answer}
use Rattle.refusals.specs.declared.answer.Answer.TheVariants.{Accepted, Granted, Denied, Refused}
use Rattle.rules.specs.declared.call.Call.{Call}
use Rattle.rules.specs.declared.call.Event.{Event}
use Rattle.rules.proofs.Committing.{committed}
use Rattle.runs.specs.Histories.{is_accepted, Never, Since}
use Rattle.runs.specs.Laws.{Same}
use Rattle.runs.specs.Runs.{final, log}

module _ (starts ends : Call → Bool) where
  -- the test after an accepted call
  abbrev pub turned : Call → Bool → Bool
  turned c b = cond (starts c) true (cond (ends c) false b)

  -- and after one more event
  abbrev turn : Call → Answer → Bool → Bool
  turn c a b = cond (is_accepted a) (turned c b) b

  abbrev stays : List Event → Bool → Bool
  stays [] b = b
  stays (e ∷ h) b = stays h (turn e.call e.answer b)

  stays_more : (xs ys : List Event) (b : Bool) → stays (xs ++ ys) b ≡ stays ys (stays xs b)
  stays_more [] ys b = refl
  stays_more (x ∷ xs) ys b = stays_more xs ys (turn x.call x.answer b)

  kept_on : (o s e : Bool) → (o && e) ≡ false → cond o (cond s true (cond e false true)) true ≡ true
  kept_on o s e h = grind (arith, nat_tests)

  keeps : (h : List Event) → Never ends h → stays h true ≡ true
  keeps [] n = refl
  keeps (e ∷ h) n = ap (stays h) (kept_on (is_accepted e.answer) (starts e.call) (ends e.call) n.0) ∙ keeps h n.1

  begun : (s e b : Bool) → s ≡ true → cond s true (cond e false b) ≡ true
  begun s e b h = grind (arith, nat_tests)

  since_true : (h : List Event) (b : Bool) → Since starts ends h → stays h b ≡ true
  since_true h b s =
      ap (λ x. stays x b) s.parts
      ∙ stays_more s.before _ b
      ∙ ap (stays s.since) (begun (starts s.start) (ends s.start) (stays s.before b) s.began)
      ∙ keeps s.since s.still

  later : (e : Event) (h : List Event) → Since starts ends h → Since starts ends (e ∷ h)
  later e h s = record { before = e ∷ s.before; start = s.start; since = s.since; parts = ap (λ x. e ∷ x) s.parts; began = s.began; still = s.still }

  old : (s e b : Bool) → s ≡ false → cond s true (cond e false b) ≡ true → (b ≡ true) × (e ≡ false)
  old s e b h k = (grind (arith, nat_tests), grind (arith, nat_tests))

  one : (c : Call) (a : Answer) (h : List Event) (b : Bool) → turn c a b ≡ true → Never ends h
      → Since starts ends (record { call = c; answer = a } ∷ h) ⊎ ((b ≡ true) × Never ends (record { call = c; answer = a } ∷ h))
  one c Granted h b q n = inr (q, (refl, n))
  one c Denied h b q n = inr (q, (refl, n))
  one c (Refused g) h b q n = inr (q, (refl, n))
  one c Accepted h b q n = by (starts c) refl
    where
      by : (s : Bool) → starts c ≡ s → Since starts ends (record { call = c; answer = Accepted } ∷ h) ⊎ ((b ≡ true) × Never ends (record { call = c; answer = Accepted } ∷ h))
      by true e = inl (record { before = []; start = c; since = h; parts = refl; began = e; still = n })
      by false e = let k = old (starts c) (ends c) b e q in inr (k.0, (k.1, n))

  told : (h : List Event) (b : Bool) → stays h b ≡ true → Since starts ends h ⊎ ((b ≡ true) × Never ends h)
  told [] b q = inr (q, tt)
  told (e ∷ h) b q =
      elim (told h (turn e.call e.answer b) q)
      [ inl s ↦ inl (later e h s) | inr n ↦ one e.call e.answer h b n.0 n.1 ]

  true_since : (h : List Event) → stays h false ≡ true → Since starts ends h
  true_since h q = elim (told h false q) [ inl s ↦ s | inr n ↦ absurd (false≢true n.0) ]

  -- a test b that each accepted call turns so, in states that keep P
  module _ (d : Draft) (P : State → Type 0) (keep : (s : State) (c : Call) → P s → judge d s c ≡ Accepted → P (effect s c))
      (b : State → Bool) (step : (s : State) (c : Call) → P s → judge d s c ≡ Accepted → b (effect s c) ≡ turned c (b s)) where
    stepped : (s : State) (c : Call) → P s → (a : Answer) → judge d s c ≡ a → b (commit a s (effect s c)) ≡ turn c a (b s)
    stepped s c h Accepted e = step s c h e
    stepped s c h Granted e = refl
    stepped s c h Denied e = refl
    stepped s c h (Refused g) e = refl

    runs_so : (s : State) → P s → (cs : List Call) → b (final d s cs) ≡ stays (log d s cs) (b s)
    runs_so s h [] = refl
    runs_so s h (c ∷ cs) =
        runs_so (after d s c) (committed P (judge d s c) s (effect s c) h (keep s c h)) cs
        ∙ ap (stays (log d (after d s c) cs)) (stepped s c h (judge d s c) refl)

    pub tells_both : (s : State) → P s → b s ≡ false → (cs : List Call) → Same (b (final d s cs) ≡ true) (Since starts ends (log d s cs))
    tells_both s h e cs =
        let r = runs_so s h cs ∙ ap (stays (log d s cs)) e in
        ((λ q. true_since (log d s cs) (sym r ∙ q)), (λ w. r ∙ since_true (log d s cs) false w))
