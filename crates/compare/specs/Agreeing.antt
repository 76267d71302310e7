use Rattle.std.specs.Prelude.{◌≡◌, ℕ, Bool, List, map}
use Rattle.std.specs.List.{AllByRecursion}
use Rattle.stores.specs.Listed.{listed}
use Rattle.stores.specs.declared.pair.Pair.{Pair}
use Rattle.compare.specs.Playing.{answers_to, after_steps}
use Rattle.compare.specs.declared.comparison.Answers.{Answers}
use Rattle.compare.specs.declared.step.Step.{Step}

-- Two sets, s and t in the end, that were opened with the same pairs and played the same steps: every answer of the one
-- is that of the other, and the sets are equal. Both are what the meaning of a set of pairs says.
pub record Agreed (opening : List Pair) (steps : List Step) (answers : List Answers) (s t : ℕ → ℕ → Bool) : Type 0 where
  pub same_answers : AllByRecursion (λ a. a.one ≡ a.two) answers
  pub same_pairs : s ≡ t
  pub exact_answers : map (λ a. a.one) answers ≡ answers_to (listed opening) steps
  pub exact_pairs : s ≡ after_steps (listed opening) steps
