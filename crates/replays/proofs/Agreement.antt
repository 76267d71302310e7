-- Two runs from the same draft.
use Rattle.std.proofs.Common.{List, sym, ap, ◌∙◌}
use Rattle.rules.specs.States.{State, opened}
use Rattle.rules.specs.declared.call.Call.{Call}
use Rattle.rules.specs.declared.call.Event.{Event}
use Rattle.runs.specs.Histories.{events_of, has_25}
use Rattle.runs.specs.Runs.{final, log}
use Rattle.tables.specs.declared.draft.Draft.{Draft}
use Rattle.replays.specs.Agreeing.{Agreed}
use Rattle.replays.specs.Playing.{Ran}

pub agreement : (d e f : Draft) (calls others : List Call) (h k : List Event) (s t : State) → Ran d calls e h s → Ran d others f k t → Agreed calls others h k s t
agreement d e f calls others h k s t a b =
    let p = a.law.rules_kept in
    let q = b.law.rules_kept in
    record {
      answers = λ same. p.answers ∙ ap (log d (opened d)) same ∙ sym q.answers;
      states = λ same. p.state ∙ ap (final d (opened d)) same ∙ sym q.state;
      by_unit = λ same n m.
          let o = a.law.order others same n (ap has_25 (sym q.answers) ∙ m) in
          record {
            events = λ u. o.events u ∙ ap (λ x. events_of u x) (sym q.answers);
            pairs = o.pairs ∙ ap (λ (x : State). x.pairs) (sym q.state);
            leases = o.leases ∙ ap (λ (x : State). x.lease) (sym q.state);
          };
    }
