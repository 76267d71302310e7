-- What the reading of one field answers.
use Rattle.std.specs.Prelude.{ℕ, ◌+◌, ◌≤◌, List, length, drop, Some, None, Ok, Err, Option, Result, MatchResult}
use Rattle.records.specs.declared.fault.Fault.{Fault}
use Rattle.records.specs.declared.field.Field.{Field}
use Rattle.records.specs.declared.scan.Cut.{Cut}
use Rattle.records.specs.declared.scan.Stop.{Stop}
use Rattle.records.specs.declared.scan.Stop.TheVariants.{Comma, Break, End}
use Rattle.records.specs.Grammar.{Opens, Faulty}
use Rattle.records.specs.Views.{piece}

-- how many bytes end a field
abbrev pub stop_len : Stop → ℕ
stop_len Comma = 1
stop_len Break = 2
stop_len End = 0

abbrev pub cut_of : Field → Option Stop → ℕ → Result Cut Fault
cut_of f (Some s) n = Ok (record { field = f; stop = s; len = n + stop_len s })
cut_of f None n = Err (record { at = n })

-- s, which is left of a text at the place at, begins with a field, or has a byte at fault
abbrev pub CutOf : ℕ → List ℕ → Result Cut Fault → Type 0
CutOf at s r = MatchResult r (λ c. (c.len ≤ length s) × Opens (at + length s) s (piece c.field) c.stop (drop c.len s)) (λ e. Faulty s e.at)
