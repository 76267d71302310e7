-- Assignments and revocations of a pair, counted.
use Rattle.std.proofs.Common.{◌≡◌, ◌+◌, Bool, true, false, not, ◌&&◌, ◌||◌, List, [], ◌∷◌, refl, ap, ◌∙◌, arith}
use Rattle.std.proofs.lemmas.Bool.{not-false}
use Rattle.std.proofs.lemmas.Bool.Decides.{nat_tests}
use Rattle.tables.specs.declared.draft.Draft.{Draft}
use Rattle.rules.specs.Judging.{judge, effect, commit, after}
use Rattle.rules.specs.Spots.{same_spot, with_spot, without_spot}
use Rattle.rules.specs.States.{State, opened}
use Rattle.refusals.specs.declared.answer.Answer.{Answer}
use Rattle.refusals.specs.declared.answer.Answer.TheVariants.{Accepted, Granted, Denied, Refused}
use Rattle.rules.specs.declared.call.Call.{Call}
use Rattle.rules.specs.declared.call.Call.TheVariants.{Acquire, Assign, Revoke, Release, Start, End, Activate, Deactivate, Check}
use Rattle.rules.specs.declared.call.Spot.{Spot}
use Rattle.rules.proofs.Committing.{passed}
use Rattle.rules.proofs.Deciding.{same_true}
use Rattle.runs.specs.Histories.{is_accepted, count, times, assigns, revokes}
use Rattle.runs.specs.Laws.{EveryRun, Counts}
use Rattle.runs.specs.Runs.{final, log}

-- one pair, assigned or revoked
count_with : (b o : Bool) → (b ≡ true → o ≡ false) → count (b || o) + 0 ≡ count o + count b
count_with true o h = let e = h refl in grind (arith, nat_tests)
count_with false o h = refl

count_without : (b o : Bool) → (b ≡ true → o ≡ true) → count (not b && o) + count b ≡ count o + 0
count_without true o h = let e = h refl in grind (arith, nat_tests)
count_without false o h = refl

module _ (d : Draft) (x : Spot) where
  accepted_counts : (s : State) (c : Call) → judge d s c ≡ Accepted → count ((effect s c).pairs x) + count (revokes x c) ≡ count (s.pairs x) + count (assigns x c)
  unfolding with_spot without_spot
  accepted_counts s (Acquire u w) a = refl
  accepted_counts s (Assign k y) a =
      count_with (same_spot y x) (s.pairs x) (λ t. ap s.pairs (same_true y x t) ∙ (passed d s (Assign k y) a).1.1.1.1.0)
  accepted_counts s (Revoke k y) a =
      count_without (same_spot y x) (s.pairs x) (λ t. ap s.pairs (same_true y x t) ∙ not-false (s.pairs y) (passed d s (Revoke k y) a).1.1.1.1.0)
  accepted_counts s (Release k) a = refl
  accepted_counts s (Start k w) a = refl
  accepted_counts s (End k) a = refl
  accepted_counts s (Activate k r) a = refl
  accepted_counts s (Deactivate k r) a = refl
  accepted_counts s (Check k v o conditions) a = refl

  one_counts : (s : State) (c : Call) (a : Answer) → judge d s c ≡ a
      → count ((commit a s (effect s c)).pairs x) + count (is_accepted a && revokes x c) ≡ count (s.pairs x) + count (is_accepted a && assigns x c)
  one_counts s c Accepted e = accepted_counts s c e
  one_counts s c Granted e = refl
  one_counts s c Denied e = refl
  one_counts s c (Refused g) e = refl

  run_counts : (s : State) (cs : List Call) → count ((final d s cs).pairs x) + times (revokes x) (log d s cs) ≡ count (s.pairs x) + times (assigns x) (log d s cs)
  run_counts s [] = refl
  run_counts s (c ∷ cs) = let one = one_counts s c (judge d s c) refl in let rest = run_counts (after d s c) cs in omega arith

pub counts : EveryRun Counts
counts d l calls x = run_counts d x (opened d) calls
