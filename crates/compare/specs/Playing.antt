-- Steps played on a set of pairs.
use Rattle.std.specs.Prelude.{ℕ, Bool, not, ◌&&◌, List, [], ◌∷◌}
use Rattle.stores.specs.Pairs.{in_bounds, with_pair, without_pair}
use Rattle.compare.specs.declared.step.Step.{Step}
use Rattle.compare.specs.declared.step.Step.TheVariants.{Insert, Remove, Contains}

-- what a set answers to a step
abbrev pub answer_to : (ℕ → ℕ → Bool) → Step → Bool
answer_to s (Insert p) = in_bounds p.left p.right && not (s p.left p.right)
answer_to s (Remove p) = s p.left p.right
answer_to s (Contains p) = s p.left p.right

-- the set after a step
abbrev pub after_step : (ℕ → ℕ → Bool) → Step → (ℕ → ℕ → Bool)
after_step s (Insert p) = with_pair s p.left p.right
after_step s (Remove p) = without_pair s p.left p.right
after_step s (Contains p) = s

-- the answers to a list of steps, the first one first
unfoldable pub answers_to : (ℕ → ℕ → Bool) → List Step → List Bool
answers_to s [] = []
answers_to s (x ∷ xs) = answer_to s x ∷ answers_to (after_step s x) xs

-- the set after a list of steps
unfoldable pub after_steps : (ℕ → ℕ → Bool) → List Step → (ℕ → ℕ → Bool)
after_steps s [] = s
after_steps s (x ∷ xs) = after_steps (after_step s x) xs
