use Rattle.std.proofs.Common.{◌≡◌, take}
use Rattle.rows.specs.Rows.{numbers}
use Rattle.conditions.specs.Active.{active}
use Rattle.conditions.specs.Asked.{Known}
use Rattle.conditions.proofs.activation.active_roles.Given as goal

abbrev pub invariant-loop-entry : goal.invariant-loop-entry
invariant-loop-entry g l = record {
  known : Known (g.C.Conditions.holding l.source) (numbers l.holding) (numbers l.lacking);
  so_far : numbers l.roles ≡ active (g.C.Conditions.holding l.source) (take l.entry-index l.entries);
}
