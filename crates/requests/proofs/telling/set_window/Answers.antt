use Rattle.std.proofs.Common.{◌≤◌, ◌∙◌, arith}
use Rattle.requests.specs.Sites.{sensed_count}
use Rattle.requests.proofs.Sources.{window_answer, window_left}
use Rattle.requests.proofs.telling.set_window.Goals as goal

pub returns : goal.returns
returns c =
    let h : sensed_count ≤ c.args.condition = omega arith in
    let e = c.set_window.ensures in
    record {
      answer = e.answer ∙ window_answer c.args.condition c.args.from c.args.to h;
      minute = e.minute;
      windows = e.windows ∙ window_left c.args.condition c.args.from c.args.to h _;
    }
