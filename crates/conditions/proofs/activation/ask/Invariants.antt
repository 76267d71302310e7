use Rattle.rows.specs.Rows.{numbers}
use Rattle.conditions.specs.Asked.{Known}
use Rattle.conditions.proofs.Asking.{Left, count}
use Rattle.conditions.proofs.activation.ask.Given as goal

abbrev pub invariant-loop-condition : goal.invariant-loop-condition
invariant-loop-condition g l = record {
  known : Known (g.C.Conditions.holding l.source) (numbers l.found) (numbers l.lacking);
  left : Left (numbers l.fn.wanted) (numbers l.found) (numbers l.left);
}

abbrev pub decreases-loop-condition : goal.decreases-loop-condition
decreases-loop-condition g l = count (numbers l.left) 32
