-- Sound assignments: what an opening gives, and every call keeps.
use Rattle.std.specs.Prelude.{◌≡◌, true, ◌≢◌}
use Rattle.lawful.specs.Checking.{is_lawful}
use Rattle.tables.specs.declared.draft.Draft.{Draft}
use Rattle.rules.specs.Judging.{after}
use Rattle.rules.specs.Reaching.{reaches_barred_lem, column_barred, ReachesBarred}
use Rattle.rules.specs.Spots.{Pairs, known, prohibited, with_spot}
use Rattle.rules.specs.States.{State, opening_pairs}
use Rattle.rules.specs.declared.call.Call.{Call}
use Rattle.rules.specs.declared.call.Spot.{Spot}

-- In words: every pair assigned is declared, none is prohibited, and no role reaches a permission barred to it.
pub record Sound (d : Draft) (s : Pairs) : Type 0 where
  pub all_known : (x : Spot) → s x ≡ true → known d x ≡ true
  pub clean : (x : Spot) → prohibited d x ≡ true → s x ≢ true
  pub unbarred : ReachesBarred d s → ⊥

-- The pairs of a draft that may open are sound, and whatever call is made, sound pairs stay so.
pub record StaysSound : Type 0 where
  pub opening : (d : Draft) → is_lawful d ≡ true → Sound d (opening_pairs d)
  pub kept : (d : Draft) (s : State) (c : Call) → Sound d s.pairs → Sound d (after d s c).pairs

-- With one more pair some role reaches a permission barred to it exactly if the device role of that pair shows it.
abbrev pub OneColumnTells : Type 0
OneColumnTells = (d : Draft) (s : Pairs) (x : Spot) → Sound d s → known d x ≡ true → reaches_barred_lem d (with_spot s x) ≡ column_barred d s x
