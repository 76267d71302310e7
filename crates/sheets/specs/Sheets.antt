-- A new sheet.
use Rattle.std.specs.Prelude.{◌≡◌, ◌<◌, ◌≤◌, List, [], length, Ok, Err, Result}
use Rattle.kinds.specs.declared.column.NameTable.{NameTable}
use Rattle.names.specs.Spellings.{spellings}
use Rattle.refusals.specs.declared.refusal.Refusal.{Refusal}
use Rattle.refusals.specs.declared.refusal.Refusal.TheVariants.{MemoryTooShort}
use Rattle.tables.specs.Drafts.{Empty}
use Rattle.values.specs.declared.name.Name.{Name}
use Rattle.sheets.specs.declared.sheet.Sheet.{Sheet}

-- What comes of making a sheet over a memory: no name and an empty draft, or refusal 2 where there are fewer than 304 places.
abbrev pub MadeSheet : List Name → Result Sheet Refusal → Type 0
MadeSheet memory (Ok s) = (304 ≤ length memory) × ((t : NameTable) → spellings s.names t ≡ []) × Empty s.draft
MadeSheet memory (Err e) = (length memory < 304) × (e ≡ MemoryTooShort)
