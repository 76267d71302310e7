-- Pairs stay sound, whatever call is made; and one device role shows what one more pair would let a role reach.
use Rattle.std.proofs.Common.{◌≡◌, true, false, not, sym, refl, ap, ◌∙◌, ⊎_elim}
use Rattle.lawful.specs.Keeping.{Lawful}
use Rattle.lawful.specs.declared.rule.Rule.TheVariants.{PairsDeclared, NothingProhibited, NothingBarred}
use Rattle.lawful.proofs.Answering.{lawful_test}
use Rattle.lawful.proofs.Bounds.{refute}
use Rattle.std.proofs.lemmas.Bool.{both_ways, and_parts, and_from, not-false}
use Rattle.std.proofs.lemmas.Bool.Decides.{not_from_Decides}
use Rattle.tables.specs.declared.draft.Draft.{Draft}
use Rattle.tables.specs.declared.relation.Relation.TheVariants.{PermissionAssignment, RolePairAssignment}
use Rattle.rules.specs.Judging.{judge, effect}
use Rattle.rules.specs.Reaching.{reaches_barred_lem, ReachesBarred}
use Rattle.rules.specs.Sound.{Sound, StaysSound, OneColumnTells}
use Rattle.rules.specs.Spots.{Pairs, known, prohibited, same_spot, with_spot, without_spot}
use Rattle.rules.specs.States.{State, opening_pairs}
use Rattle.refusals.specs.declared.answer.Answer.TheVariants.{Accepted}
use Rattle.rules.specs.declared.call.Call.{Call}
use Rattle.rules.specs.declared.call.Call.TheVariants.{Acquire, Assign, Revoke, Release, Start, End, Activate, Deactivate, Check}
use Rattle.rules.specs.declared.call.Spot.{Spot}
use Rattle.rules.specs.declared.call.Spot.TheVariants.{RolePair, Permission}
use Rattle.rules.proofs.Committing.{passed, committed}
use Rattle.rules.proofs.Reaching.{reaches_words, with_cases, known_with, column_tells}

-- the test, where the pairs are sound
pub sound_test : (d : Draft) (s : Pairs) → Sound d s → reaches_barred_lem d s ≡ false
sound_test d s h = refute _ (λ t. h.unbarred ((reaches_words d s h.all_known).0 t))

without_old : (s : Pairs) (x y : Spot) → without_spot s x y ≡ true → s y ≡ true
unfolding without_spot
without_old s x y h = (and_parts (not (same_spot x y)) (s y) h).1

-- fewer pairs are sound too
fewer : (d : Draft) (s t : Pairs) → ((y : Spot) → t y ≡ true → s y ≡ true) → Sound d s → Sound d t
fewer d s t less h =
    record {
      all_known = λ x e. h.all_known x (less x e);
      clean = λ x p e. h.clean x p (less x e);
      unbarred = λ w. h.unbarred (w.0, w.1, w.2, less (RolePair w.0 w.1) w.3, less (Permission w.2 w.1) w.4, w.5);
    }

module _ (d : Draft) where
  pub sound_effect : (s : State) (c : Call) → Sound d s.pairs → judge d s c ≡ Accepted → Sound d (effect s c).pairs
  sound_effect s (Acquire u w) h a = h
  sound_effect s (Assign k x) h a =
      let n = passed d s (Assign k x) a in
      let more = known_with d s.pairs x h.all_known (not-false (known d x) n.1.0) in
      record {
        all_known = more;
        clean = λ y p e. ⊎_elim (λ (q : y ≡ x). both_ways (prohibited d x) n.1.1.0 (ap (prohibited d) (sym q) ∙ p)) (h.clean y p) (with_cases s.pairs x y e);
        unbarred = not_from_Decides _ (reaches_words d (with_spot s.pairs x) more) n.1.1.1.1.1.0;
      }
  sound_effect s (Revoke k x) h a = fewer d s.pairs (without_spot s.pairs x) (without_old s.pairs x) h
  sound_effect s (Release k) h a = h
  sound_effect s (Start k w) h a = h
  sound_effect s (End k) h a = h
  sound_effect s (Activate k r) h a = h
  sound_effect s (Deactivate k r) h a = h
  sound_effect s (Check k v o conditions) h a = h

  module _ (l : Lawful d) where
    opening_known : (x : Spot) → opening_pairs d x ≡ true → known d x ≡ true
    unfolding opening_pairs
    opening_known (RolePair q e) h = let p = l (PairsDeclared RolePairAssignment) q e h in and_from _ _ p.0 p.1
    opening_known (Permission m e) h = let p = l (PairsDeclared PermissionAssignment) m e h in and_from _ _ p.0 p.1

    opening_clean : (x : Spot) → prohibited d x ≡ true → opening_pairs d x ≡ true → ⊥
    unfolding opening_pairs
    opening_clean (RolePair q e) p h = l NothingProhibited q e p h
    opening_clean (Permission m e) p h = both_ways false refl p

    opening_unbarred : ReachesBarred d (opening_pairs d) → ⊥
    unfolding opening_pairs
    opening_unbarred w = l NothingBarred w.0 w.1 w.2 w.3 w.4 w.5

    pub sound_opening : Sound d (opening_pairs d)
    sound_opening = record { all_known = opening_known; clean = opening_clean; unbarred = opening_unbarred }

pub stays_sound : StaysSound
stays_sound =
    record {
      opening = λ d l. sound_opening d (lawful_test d l);
      kept = λ d s c h. committed (λ t. Sound d t.pairs) (judge d s c) s (effect s c) h (sound_effect d s c h);
    }

pub one_column_tells_lem : OneColumnTells
one_column_tells_lem d s x h = column_tells d s x (sound_test d s h)
