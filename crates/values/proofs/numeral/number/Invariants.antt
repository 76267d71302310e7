use Rattle.std.proofs.Common.{◌≡◌, ◌^◌, ◌<◌, drop}
use Rattle.values.specs.Numbers.{digits, value_after}
use Rattle.values.proofs.numeral.number.Given as goal

abbrev pub invariant-loop-b : goal.invariant-loop-b
invariant-loop-b l = (l.n < 10 ^ l.b-index) × (value_after l.n (drop l.b-index l.part) ≡ value_after 0 l.part) × (digits (drop l.b-index l.part) ≡ digits l.part)
