-- What an accepted call had behind it, and what a call keeps.
use Rattle.std.proofs.Common.{◌≡◌, ℕ, Bool, true, false, cond, List, [], ◌∷◌, refl, arith}
use Rattle.refusals.specs.declared.refusal.Refusal.{Refusal}
use Rattle.tables.specs.declared.draft.Draft.{Draft}
use Rattle.rules.specs.Judging.{tests, first_reason, unrefused, judge, commit}
use Rattle.rules.specs.States.{State}
use Rattle.refusals.specs.declared.answer.Answer.{Answer}
use Rattle.refusals.specs.declared.answer.Answer.TheVariants.{Accepted, Granted, Denied, Refused}
use Rattle.rules.specs.declared.call.Call.{Call}

-- no test of the list passes
abbrev pub NonePass : List (Refusal × Bool) → Type 0
NonePass [] = Unit {0}
NonePass (t ∷ ts) = (t.1 ≡ false) × NonePass ts

-- a call that is not refused passes all tests
pub none_pass : (ts : List (Refusal × Bool)) (a : Answer) → first_reason ts a ≡ Accepted → NonePass ts
none_pass [] a e = tt
none_pass (t ∷ ts) a e = by t.1 refl (none_pass ts a) e
  where
    by : (b : Bool) → t.1 ≡ b → (first_reason ts a ≡ Accepted → NonePass ts) → cond b (Refused t.0) (first_reason ts a) ≡ Accepted → NonePass (t ∷ ts)
    by true f go e = absurd (let z : ◌≡◌ {A = ℕ} 0 1 = cc in omega arith)
    by false f go e = (f, go e)

pub passed : (d : Draft) (s : State) (c : Call) → judge d s c ≡ Accepted → NonePass (tests d s c)
passed d s c e = none_pass (tests d s c) (unrefused d s c) e

-- what holds of both states holds of the one that is taken
pub committed : (P : State → Type 0) (a : Answer) (s t : State) → P s → (a ≡ Accepted → P t) → P (commit a s t)
committed P Accepted s t h k = k refl
committed P Granted s t h k = h
committed P Denied s t h k = h
committed P (Refused g) s t h k = h
