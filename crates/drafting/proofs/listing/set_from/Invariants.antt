use Rattle.std.proofs.Common.{◌≡◌, ◌-◌, ◌≤◌}
use Rattle.names.specs.Spellings.{spellings}
use Rattle.sheets.specs.Numbers.{number_at}
use Rattle.drafting.specs.Effects.{row_from}
use Rattle.drafting.proofs.listing.set_from.Given as goal

abbrev pub invariant-loop-place : goal.invariant-loop-place
invariant-loop-place l =
    (l.row ≡ row_from (number_at (spellings l.sheet.names) l.form.kind l.form.values) l.from (l.place - l.from)) × (l.place - l.from ≤ l.place-end - l.from)
