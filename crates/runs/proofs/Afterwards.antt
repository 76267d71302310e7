-- What no run ends with.
use Rattle.std.proofs.Common.{◌≡◌, ℕ, true, List, sym, ap, ◌∙◌}
use Rattle.lawful.specs.Keeping.{Lawful, In}
use Rattle.lawful.specs.declared.rule.Rule.TheVariants.{RolesSeparate}
use Rattle.lawful.proofs.Answering.{lawful_test}
use Rattle.std.proofs.lemmas.Bool.{or_left}
use Rattle.tables.specs.declared.draft.Draft.{Draft}
use Rattle.tables.specs.declared.relation.Relation.TheVariants.{Bars, UserRoles}
use Rattle.rules.specs.Access.{Within}
use Rattle.rules.specs.Reaching.{role_of}
use Rattle.rules.specs.Sound.{Sound}
use Rattle.rules.specs.States.{opened}
use Rattle.rules.specs.declared.call.Call.{Call}
use Rattle.rules.specs.declared.call.Spot.TheVariants.{RolePair, Permission}
use Rattle.rules.proofs.Sounding.{sound_effect, sound_opening}
use Rattle.runs.specs.Laws.{EveryRun, NoneAfterwards}
use Rattle.runs.specs.Runs.{final}
use Rattle.runs.proofs.Sessions.{orderly, held_roles_stay}
use Rattle.runs.proofs.Stepping.{kept}

-- the pairs are sound
pub sound : (d : Draft) (l : Lawful d) (cs : List Call) → Sound d (final d (opened d) cs).pairs
sound d l cs = kept d (λ s. Sound d s.pairs) (sound_effect d) (opened d) cs (sound_opening d l)

-- no role reaches a permission barred to it
pub none_barred : (d : Draft) (l : Lawful d) (cs : List Call) (q e p : ℕ)
    → (final d (opened d) cs).pairs (RolePair q e) ≡ true → (final d (opened d) cs).pairs (Permission p e) ≡ true → In d Bars p (role_of d q) → ⊥
none_barred d l cs q e p x y z = (sound d l cs).unbarred (q, e, p, x, y, z)

pub within : (d : Draft) (l : Lawful d) (cs : List Call) → Within d (final d (opened d) cs)
within d l cs = record { pairs_known = (sound d l cs).all_known; roles_known = (orderly d cs).declared_roles }

pub none_afterwards : EveryRun NoneAfterwards
none_afterwards d l calls =
    let law : Lawful d = lawful_test d l in
    let held : (w r : ℕ) → (final d (opened d) calls).held w r ≡ true → In d UserRoles w r = λ w r e. sym (ap (λ h. h w r) (held_roles_stay d calls)) ∙ e in
    record {
      no_prohibited = λ q e. (sound d law calls).clean (RolePair q e);
      no_barred = none_barred d law calls;
      none_held = λ w a b x y. law RolesSeparate w a b (held w a x) (held w b y);
      none_active = λ k a b x y z. (orderly d calls).apart k a b x y (or_left _ _ z);
      active_held = (orderly d calls).held_roles;
    }
