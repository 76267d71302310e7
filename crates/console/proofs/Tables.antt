-- A record that is no request answers nothing, and changes names and draft alone.
use Rattle.std.proofs.Common.{◌≡◌, ℕ, List, None, refl}
use Rattle.kinds.specs.declared.kind.Kind.{Kind}
use Rattle.kinds.specs.declared.kind.Kind.TheVariants.{Declare, Permission, RolePair, Entry, Relate, Ask}
use Rattle.kinds.specs.declared.kind.Request.{Request}
use Rattle.kinds.specs.declared.kind.Request.TheVariants as says
use Rattle.sheets.specs.Numbers.{Lists}
use Rattle.tables.specs.declared.draft.Draft.{Draft}
use Rattle.console.specs.Boxes.{Box}
use Rattle.console.specs.Requests.{asked_of}
use Rattle.console.specs.Recording.{done_reply, done_box, tables_after}

module _ (b : Box) (vs : List (List ℕ)) where
  pub table_reply : (k : Kind) → ((q : Request) → k ≡ Ask q → ⊥) → None ≡ done_reply b k vs
  table_reply (Declare t) n = refl
  table_reply Permission n = refl
  table_reply RolePair n = refl
  table_reply Entry n = refl
  table_reply (Relate r) n = refl
  table_reply (Ask q) n = absurd (n q refl)

  pub table_box : (k : Kind) → ((q : Request) → k ≡ Ask q → ⊥) → tables_after b k vs ≡ done_box b k vs
  table_box (Declare t) n = refl
  table_box Permission n = refl
  table_box RolePair n = refl
  table_box Entry n = refl
  table_box (Relate r) n = refl
  table_box (Ask q) n = absurd (n q refl)

-- a request that asks nothing of the site is an opening
pub opens : (ls : Lists) (d : Draft) (vs : List (List ℕ)) (q : Request) → None ≡ asked_of ls d q vs → q ≡ says.Open
opens ls d vs says.Open e = refl
opens ls d vs says.Start e = cc
opens ls d vs says.End e = cc
opens ls d vs says.Activate e = cc
opens ls d vs says.Drop e = cc
opens ls d vs says.CheckAccess e = cc
opens ls d vs says.AssignRolePair e = cc
opens ls d vs says.RevokeRolePair e = cc
opens ls d vs says.AssignPermission e = cc
opens ls d vs says.RevokePermission e = cc
opens ls d vs says.Sense e = cc
opens ls d vs says.Clock e = cc
opens ls d vs says.Window e = cc
