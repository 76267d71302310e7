-- What calls and openings leave of a site.
use Rattle.std.proofs.Common.{◌≡◌, ℕ, Bool, true, false, cond, List, [], ◌∷◌, is_ok, Result, sym, refl, ap, ◌∙◌}
use Rattle.conditions.specs.declared.window.Window.{Window}
use Rattle.house.specs.Views.{opening}
use Rattle.refusals.specs.declared.answer.Answer.{Answer}
use Rattle.refusals.specs.declared.answer.Answer.TheVariants.{Accepted, Granted, Denied, Refused}
use Rattle.refusals.specs.declared.refusal.Refusal.{Refusal}
use Rattle.rules.specs.Judging.{judge, commit}
use Rattle.rules.specs.States.{State, opened}
use Rattle.rules.specs.declared.call.Call.{Call}
use Rattle.runs.specs.Runs.{final}
use Rattle.tables.specs.declared.draft.Draft.{Draft}
use Rattle.requests.specs.Answering.{answer_to, ran, after_asked, after_open}
use Rattle.requests.specs.Calls.{check_call}
use Rattle.requests.specs.Sites.{Premises, holding}
use Rattle.requests.specs.declared.asked.Asked.{Asked}

-- of a request that is told
module _ (p : Premises) (asked as_told : Asked) (e : asked ≡ as_told) where
  pub asked_answer : (r : Answer) → r ≡ answer_to p as_told → r ≡ answer_to p asked
  asked_answer r h = h ∙ ap (answer_to p) (sym e)

  pub asked_left : (q : Premises) → q ≡ after_asked p as_told → q ≡ after_asked p asked
  asked_left q h = h ∙ ap (after_asked p) (sym e)

-- the site with another house
abbrev housed : Premises → Draft → State → Premises
housed p d t = record { house = d; state = t; board = p.board; minute = p.minute; windows = p.windows }

-- calls on the house leave board and clock as they are
pub ran_to : (p : Premises) (calls : List Call) (d : Draft) (t : State) → d ≡ p.house → t ≡ final p.house p.state calls → housed p d t ≡ ran p calls
ran_to p calls d t e f = λ i. housed p (e i) (f i)

-- a report, a minute or a window leaves the house as it is
pub told_to : (p : Premises) (b c : ℕ → Bool) (m n : ℕ) (v w : ℕ → Window) → b ≡ c → m ≡ n → v ≡ w
    → ◌≡◌ {A = Premises} (record { house = p.house; state = p.state; board = b; minute = m; windows = v }) (record { house = p.house; state = p.state; board = c; minute = n; windows = w })
told_to p b c m n v w e f h = λ i. record { house = p.house; state = p.state; board = e i; minute = f i; windows = h i }

-- an access check changes nothing
pub check_left : (p : Premises) (session device operation : ℕ) → p ≡ ran p (check_call (holding p) session device operation ∷ [])
check_left p k v o = λ i. housed p p.house (by (judge p.house p.state (check_call (holding p) k v o)) i)
  where
    by : (a : Answer) → p.state ≡ commit a p.state p.state
    by Accepted = refl
    by Granted = refl
    by Denied = refl
    by (Refused g) = refl

-- an opening leaves the draft and its opening state, or all as it was
pub opened_to : (p : Premises) (d : Draft) (r : Result Unit Refusal) (house : Draft) (t : State) → r ≡ opening p.state d
    → house ≡ cond (is_ok r) d p.house → t ≡ cond (is_ok r) (opened d) p.state → housed p house t ≡ after_open p d
opened_to p d r house t e f g = by (is_ok r) f g ∙ ap (λ x. cond (is_ok x) (housed p d (opened d)) p) e
  where
    by : (b : Bool) → house ≡ cond b d p.house → t ≡ cond b (opened d) p.state → housed p house t ≡ cond b (housed p d (opened d)) p
    by true f g = λ i. housed p (f i) (g i)
    by false f g = λ i. housed p (f i) (g i)
