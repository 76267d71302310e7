use Rattle.std.proofs.Common.{refl, arith, rules}
use Rattle.records.specs.Grammar.Doubled.{none}
use Rattle.records.proofs.Cutting.{no_quote, quote_first, quoted_field, unclosed_field, bare_field}
use Rattle.records.proofs.scan.front_field.Goals as goal
use Rattle.records.proofs.scan.front_field.Goals.{in_default-via-then-rest-lt1, in_default-via-else-rest-lt1+in_default-1}

pub read_on-ran-requires : goal.read_on-ran-requires
read_on-ran-requires c = none

pub returns-in-AfterQuote : goal.returns-in-AfterQuote
returns-in-AfterQuote c = quoted_field _ _ _ _ _ _ (quote_first c.args.rest.now (search rules) (search rules)) c.read_on-ran.ensures c.in-AfterQuote.is c.end_field.ensures refl

pub returns-in-Bare : goal.returns-in-Bare
returns-in-Bare c = unclosed_field _ _ _ (quote_first c.args.rest.now (search rules) (search rules)) c.read_on-ran.ensures (λ e. grind arith)

pub returns-in_default : goal.returns-in_default
returns-in_default c =
    bare_field _ _ _ _ _
    (elim c.in_default.branch [
      | in_default-via-then-rest-lt1 w ↦ search (rules, no_quote)
      | in_default-via-else-rest-lt1+in_default-1 w ↦ search rules
    ])
    c.read_on-ran-in_default.ensures c.end_field-in_default.ensures refl
