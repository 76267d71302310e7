-- What is added by a record that fits is taken into the draft.
use Rattle.std.proofs.Common.{◌≡◌, ℕ, ◌+◌, ◌-◌, ◌<◌, ◌≤◌, Bool, true, false, cond, ◌&&◌, List, length, is_ok, Ok, Result, sym, refl, ap, ◌∙◌, arith}
use lib.ListN.{get_or-eq_default}
use Rattle.kinds.specs.Columns.{columns_of, column_at}
use Rattle.kinds.specs.declared.column.Column.TheVariants.{Known}
use Rattle.kinds.specs.declared.column.NameTable.{NameTable}
use Rattle.kinds.specs.declared.column.NameTable.TheVariants as named_in
use Rattle.kinds.specs.declared.kind.Kind.{Kind}
use Rattle.kinds.specs.declared.kind.Kind.TheVariants as kind
use Rattle.names.specs.Tables.{table_of}
use Rattle.refusals.specs.declared.refusal.Refusal.{Refusal}
use Rattle.rows.specs.Rows.{numbers}
use Rattle.sheets.specs.Numbers.{Lists, number_at}
use Rattle.std.proofs.lemmas.Bool.{and_parts, and_from, or_from, ltb-true, not_from_true, true≢false}
use Rattle.tables.specs.Adding.{unless, adding_permission, adding_role_pair, adding_entry, relating, goes_beyond_lem, with_permission, with_role_pair, with_entry, with_pair_in}
use Rattle.tables.specs.Drafts.{count, declared}
use Rattle.tables.specs.Limits.{table_limit}
use Rattle.tables.specs.declared.draft.Draft.{Draft}
use Rattle.tables.specs.declared.parts.Entry.{Entry}
use Rattle.tables.specs.declared.parts.Permission.{Permission}
use Rattle.tables.specs.declared.parts.RolePair.{RolePair}
use Rattle.tables.specs.declared.relation.Relation.{Relation}
use Rattle.tables.specs.declared.table.Table.TheVariants.{Permissions, RolePairs, Entries}
use Rattle.tables.specs.declared.table.Thing.TheVariants.{Role, Device, Operation, Condition, EnvironmentRole}
use Rattle.drafting.specs.Effects.{set_from_lem, draft_after, permission_said, role_pair_said, entry_said}
use Rattle.drafting.specs.Fit.{Fit}
use Rattle.drafting.specs.Pairing.{left_number, right_number}
use Rattle.drafting.proofs.Fits.{fit_as, all_there, known_there}
use Rattle.drafting.proofs.Gathered.{none_beyond}
use Rattle.drafting.proofs.Known.{declared_at}
use Rattle.drafting.proofs.Sides.{left_declared, right_declared}

-- an addition that is not refused is made
added : {X Y : Type 0} (adding : X → Result Y Refusal) (with_one : X → Draft) (d : Draft) (x said : X) (y : Y) (r : Result Y Refusal) (after : Draft) → x ≡ said → adding said ≡ Ok y
    → r ≡ adding x → after ≡ cond (is_ok r) (with_one x) d → after ≡ with_one said
added adding with_one d x said y r after same taken answer is =
    is ∙ ap (λ z. cond (is_ok z) (with_one x) d) answer ∙ ap (λ z. cond (is_ok (adding z)) (with_one z) d) same ∙ ap (λ z. cond (is_ok z) (with_one said) d) taken

-- the draft after a record, by the kind that it is found to have
pub after_as : (ls : Lists) (d : Draft) (vs : List (List ℕ)) (j k : Kind) (after : Draft) → j ≡ k → after ≡ draft_after ls d j vs → after ≡ draft_after ls d k vs
after_as ls d vs j k after e is = is ∙ ap (λ x. draft_after ls d x vs) e

-- a reason that does not apply
past : {X : Type 0} (b : Bool) (g : Refusal) (rest : Result X Refusal) → b ≡ false → unless b g rest ≡ rest
past b g rest e = ap (λ y. unless y g rest) e

second_fails : (x y : Bool) → x ≡ true → (x && y) ≡ false → y ≡ false
second_fails true y e f = f
second_fails false y e f = absurd (true≢false (sym e))

module _ (ls : Lists) (d : Draft) (vs : List (List ℕ)) where
  module _ (counted : (t : NameTable) → length (ls t) ≡ count d (table_of t)) (within : (t : NameTable) → length (ls t) ≤ table_limit (table_of t)) where
    -- the name at a place that each record of the kind has
    at_place : (k : Kind) (i : ℕ) (t : NameTable) → Fit ls d k vs → column_at k i ≡ Known t → i < length (columns_of k) → declared d (table_of t) (number_at ls k vs i) ≡ true
    at_place k i t fit col h =
        let there : i < length vs - 1 = omega (arith, all_there ls d k vs fit) in
        declared_at ls d counted within k vs i t col (known_there ls d k vs fit i there)

    -- the names from a place on, all in the table of one column
    set_within : (k : Kind) (i : ℕ) (t : NameTable) → Fit ls d k vs → ((j : ℕ) → i ≤ j → column_at k j ≡ Known t) → goes_beyond_lem (numbers (set_from_lem ls k vs i)) (count d (table_of t)) ≡ false
    set_within k i t fit cols = none_beyond (number_at ls k vs) i (count d (table_of t)) (length vs - 1 - i) λ j h.
        let there : i + j < length vs - 1 = omega arith in
        ltb-true _ _ (and_parts _ _ (declared_at ls d counted within k vs (i + j) t (cols (i + j) (omega arith)) (known_there ls d k vs fit (i + j) there))).0

    -- device and operation are declared, and form no permission yet
    permission_taken : Fit ls d kind.Permission vs → adding_permission d (permission_said ls kind.Permission vs) ≡ Ok (count d Permissions)
    permission_taken fit =
        let device = at_place kind.Permission 0 (named_in.Things Device) fit refl (omega arith) in
        let operation = at_place kind.Permission 1 (named_in.Things Operation) fit refl (omega arith) in
        let long = all_there ls d kind.Permission vs fit in
        let both = and_from _ _ (known_there ls d kind.Permission vs fit 0 (omega arith)) (known_there ls d kind.Permission vs fit 1 (omega arith)) in
        past _ _ _ (second_fails _ _ both fit.fresh) ∙ past _ _ _ (not_from_true _ (and_from _ _ device operation)) ∙ past _ _ _ fit.room

    -- the role is declared, and so are the environment roles
    pair_taken : Fit ls d kind.RolePair vs → adding_role_pair d (role_pair_said ls kind.RolePair vs) ≡ Ok (count d RolePairs)
    pair_taken fit =
        let role = at_place kind.RolePair 1 (named_in.Things Role) fit refl (omega arith) in
        let set = set_within kind.RolePair 2 (named_in.Things EnvironmentRole) fit (λ j h. get_or-eq_default (columns_of kind.RolePair) _ h) in
        past _ _ _ (or_from _ _ (not_from_true _ role) set) ∙ past _ _ _ fit.room

    -- the environment role is declared, and so are the conditions
    entry_taken : Fit ls d kind.Entry vs → adding_entry d (entry_said ls kind.Entry vs) ≡ Ok (count d Entries)
    entry_taken fit =
        let role = at_place kind.Entry 0 (named_in.Things EnvironmentRole) fit refl (omega arith) in
        let set = set_within kind.Entry 1 (named_in.Things Condition) fit (λ j h. get_or-eq_default (columns_of kind.Entry) _ h) in
        past _ _ _ (or_from _ _ (not_from_true _ role) set) ∙ past _ _ _ fit.room

    -- both sides of the pair are declared
    relation_taken : (q : Relation) → Fit ls d (kind.Relate q) vs → relating d q (left_number ls d q vs) (right_number ls q vs) ≡ Ok tt
    relation_taken q fit = past _ _ _ (not_from_true _ (and_from _ _ (left_declared ls d q vs fit counted within) (right_declared ls d q vs fit counted within)))

    -- what the record says is added, where k is the kind that it is found to have
    module _ (k : Kind) (fit : Fit ls d k vs) (after : Draft) where
      pub permission_added : kind.Permission ≡ k → (p : Permission) (r : Result ℕ Refusal) → p ≡ permission_said ls k vs → r ≡ adding_permission d p → after ≡ cond (is_ok r) (with_permission d p) d
          → after ≡ draft_after ls d kind.Permission vs
      permission_added e p r same answer is =
          added (adding_permission d) (with_permission d) d p (permission_said ls kind.Permission vs) (count d Permissions) r after (same ∙ ap (λ j. permission_said ls j vs) (sym e))
          (permission_taken (fit_as ls d kind.Permission k vs e fit)) answer is

      pub role_pair_added : kind.RolePair ≡ k → (p : RolePair) (r : Result ℕ Refusal) → p ≡ role_pair_said ls k vs → r ≡ adding_role_pair d p → after ≡ cond (is_ok r) (with_role_pair d p) d
          → after ≡ draft_after ls d kind.RolePair vs
      role_pair_added e p r same answer is =
          added (adding_role_pair d) (with_role_pair d) d p (role_pair_said ls kind.RolePair vs) (count d RolePairs) r after (same ∙ ap (λ j. role_pair_said ls j vs) (sym e))
          (pair_taken (fit_as ls d kind.RolePair k vs e fit)) answer is

      pub entry_added : kind.Entry ≡ k → (n : Entry) (r : Result ℕ Refusal) → n ≡ entry_said ls k vs → r ≡ adding_entry d n → after ≡ cond (is_ok r) (with_entry d n) d
          → after ≡ draft_after ls d kind.Entry vs
      entry_added e n r same answer is =
          added (adding_entry d) (with_entry d) d n (entry_said ls kind.Entry vs) (count d Entries) r after (same ∙ ap (λ j. entry_said ls j vs) (sym e))
          (entry_taken (fit_as ls d kind.Entry k vs e fit)) answer is

      pub relation_added : (q : Relation) → kind.Relate q ≡ k → (p : ℕ × ℕ) (r : Result Unit Refusal) → p ≡ (left_number ls d q vs, right_number ls q vs)
          → r ≡ relating d q p.0 p.1 → after ≡ cond (is_ok r) (with_pair_in d q p.0 p.1) d → after ≡ draft_after ls d (kind.Relate q) vs
      relation_added q e p r same answer is =
          added (λ (x : ℕ × ℕ). relating d q x.0 x.1) (λ (x : ℕ × ℕ). with_pair_in d q x.0 x.1) d p (left_number ls d q vs, right_number ls q vs) tt r after same
          (relation_taken q (fit_as ls d (kind.Relate q) k vs e fit)) answer is
