-- The calls since the last accepted opening lead to the state of the house.
use Rattle.std.proofs.Common.{◌≡◌, ℕ, Bool, true, false, cond, List, [], ◌∷◌, ◌++◌, length, get_or, is_ok, Some, None, Option, sym, refl, ap, ◌∙◌, subst}
use Rattle.house.specs.Views.{opening}
use Rattle.kinds.specs.declared.kind.Kind.{Kind}
use Rattle.kinds.specs.declared.kind.Kind.TheVariants.{Declare, Permission, RolePair, Entry, Relate, Ask}
use Rattle.lawful.specs.Checking.{is_lawful}
use Rattle.records.specs.Readings.{Line}
use Rattle.records.specs.Readings.Line.{fields, fault}
use Rattle.refusals.specs.declared.answer.Answer.{Answer}
use Rattle.refusals.specs.declared.answer.Answer.TheVariants.{Accepted, Granted, Denied, Refused}
use Rattle.requests.specs.Answering.{after_asked}
use Rattle.requests.specs.Calls.{calls_for}
use Rattle.requests.specs.Sites.{Premises}
use Rattle.requests.specs.declared.asked.Asked.{Asked}
use Rattle.requests.specs.declared.asked.Asked.TheVariants.{Start, End, Activate, Drop, CheckAccess, Change, Sense, Clock, Window}
use Rattle.rules.specs.Judging.{after}
use Rattle.rules.specs.States.{State, opened}
use Rattle.rules.specs.declared.call.Call.{Call}
use Rattle.runs.specs.Law.{Law}
use Rattle.runs.specs.Runs.{final, log}
use Rattle.runs.proofs.Ruling.{law}
use Rattle.tables.specs.declared.draft.Draft.{Draft}
use Rattle.kinds.specs.Words.{kind_of_lem}
use Rattle.console.specs.Boxes.{Box}
use Rattle.console.specs.Calls.{Reached, request_calls, done_calls, calls_unless, kind_calls, line_calls, text_calls}
use Rattle.console.specs.Recording.{judged, offered, request_box, done_box, box_unless, kind_box}
use Rattle.console.specs.Requests.{asked_of}
use Rattle.console.specs.Texts.{kept_values, line_box, text_box}

-- a run and then another
final_more : (d : Draft) (s : State) (cs ds : List Call) → final d s (cs ++ ds) ≡ final d (final d s cs) ds
final_more d s [] ds = refl
final_more d s (c ∷ cs) ds = final_more d (after d s c) cs ds

-- a request leaves the house, and its calls lead to the state after it
asked_house : (p : Premises) (a : Asked) → (after_asked p a).house ≡ p.house
asked_house p (Start k w) = refl
asked_house p (End k) = refl
asked_house p (Activate k r) = refl
asked_house p (Drop k r) = refl
asked_house p (CheckAccess k v o) = refl
asked_house p (Change w u way x) = refl
asked_house p (Sense n b) = refl
asked_house p (Clock m) = refl
asked_house p (Window n from to) = refl

asked_state : (p : Premises) (a : Asked) → (after_asked p a).state ≡ final p.house p.state (calls_for p a)
asked_state p (Start k w) = refl
asked_state p (End k) = refl
asked_state p (Activate k r) = refl
asked_state p (Drop k r) = refl
asked_state p (CheckAccess k v o) = refl
asked_state p (Change w u way x) = refl
asked_state p (Sense n b) = refl
asked_state p (Clock m) = refl
asked_state p (Window n from to) = refl

abbrev Leads : Draft → State → List Call → Type 0
Leads d s since = s ≡ final d (opened d) since

reached_open : (t : Bool) (b : Box) (d : Draft) (since : List Call) → Reached b since
    → Leads (cond t (record { house = d; state = opened d; board = b.site.board; minute = b.site.minute; windows = b.site.windows }) b.site).house
    (cond t (record { house = d; state = opened d; board = b.site.board; minute = b.site.minute; windows = b.site.windows }) b.site).state (cond t [] since)
reached_open true b d since h = refl
reached_open false b d since h = h

reached_request : (b : Box) (vs : List (List ℕ)) (o : Option Asked) (since : List Call) → Reached b since → Reached (request_box b vs o) (request_calls b vs o since)
reached_request b vs None since h = reached_open (is_ok (opening b.site.state (offered b vs))) b (offered b vs) since h
reached_request b vs (Some a) since h =
    let d = b.site.house in
    asked_state b.site a
    ∙ ap (λ s. final d s (calls_for b.site a)) h
    ∙ sym (final_more d (opened d) since (calls_for b.site a))
    ∙ ap (λ e. final e (opened e) (since ++ calls_for b.site a)) (sym (asked_house b.site a))

reached_done : (b : Box) (k : Kind) (vs : List (List ℕ)) (since : List Call) → Reached b since → Reached (done_box b k vs) (done_calls b k vs since)
reached_done b (Declare t) vs since h = h
reached_done b Permission vs since h = h
reached_done b RolePair vs since h = h
reached_done b Entry vs since h = h
reached_done b (Relate r) vs since h = h
reached_done b (Ask q) vs since h = reached_request b vs (asked_of b.names b.draft q vs) since h

reached_unless : (a : Answer) (b c : Box) (since more : List Call) → Reached b since → Reached c more → Reached (box_unless a b c) (calls_unless a since more)
reached_unless Accepted b c since more h k = k
reached_unless Granted b c since more h k = h
reached_unless Denied b c since more h k = h
reached_unless (Refused g) b c since more h k = h

reached_kind : (b : Box) (o : Option Kind) (at n : ℕ) (vs : List (List ℕ)) (since : List Call) → Reached b since → Reached (kind_box b o at n vs) (kind_calls b o at n vs since)
reached_kind b None at n vs since h = h
reached_kind b (Some k) at n vs since h = reached_unless (judged b k at n vs) b (done_box b k vs) since (done_calls b k vs since) h (reached_done b k vs since h)

reached_line : (b : Box) (l : Line) (since : List Call) → Reached b since → Reached (line_box b l) (line_calls b l since)
reached_line b (fields at fs next) since h = reached_kind b (kind_of_lem (get_or (kept_values fs) 0 [])) at (length fs) (kept_values fs) since h
reached_line b (fault at bad next) since h = h

pub reached_text : (b : Box) (ls : List Line) (since : List Call) → Reached b since → Reached (text_box b ls) (text_calls b ls since)
reached_text b [] since h = h
reached_text b (l ∷ ls) since h = reached_text (line_box b l) ls (line_calls b l since) (reached_line b l since h)

-- so the law of runs holds of them
pub law_of_text : (b c : Box) (ls : List Line) → c ≡ text_box b ls → is_lawful c.site.house ≡ true → (since : List Call) → Reached b since
    → Law c.site.house (text_calls b ls since) (log c.site.house (opened c.site.house) (text_calls b ls since)) c.site.state
law_of_text b c ls e l since h =
    let r : Reached c (text_calls b ls since) = subst (λ (x : Box). Reached x (text_calls b ls since)) (sym e) (reached_text b ls since h) in
    let d = c.site.house in
    let calls = text_calls b ls since in
    subst (λ s. Law d calls (log d (opened d) calls) s) (sym r) (law d l calls)
