-- A box as the rules see it.
use Rattle.names.specs.Spellings.{spellings}
use Rattle.requests.specs.Sites.{Premises, site_of}
use Rattle.sheets.specs.Numbers.{Lists}
use Rattle.tables.specs.declared.draft.Draft.{Draft}
use Rattle.console.specs.declared.console.Console.{Console}

pub record Box : Type 0 where
  -- the declared names, table by table
  pub names : Lists
  -- the draft that records write
  pub draft : Draft
  -- the house, the sensors and the clock
  pub site : Premises

-- by what the two sets of pairs of its house mean
abbrev pub box_of : {S T : Type 0} {g h : _} → Console S T g h → Box
box_of c = record { names = spellings c.sheet.names; draft = c.sheet.draft; site = site_of c.site }
