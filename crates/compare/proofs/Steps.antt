-- Two sets that agree, one step further on.
use Rattle.std.proofs.Common.{◌≡◌, ℕ, ◌+◌, ◌<◌, Bool, List, [], ◌∷◌, ◌++◌, map, length, get_or, take, sym, refl, ap, ◌∙◌}
use Rattle.std.proofs.ByRecursion.{All-push}
use Rattle.std.proofs.lemmas.List.{map_push, take_more}
use Rattle.stores.specs.Listed.{listed}
use Rattle.stores.specs.declared.pair.Pair.{Pair}
use Rattle.compare.specs.Agreeing.{Agreed}
use Rattle.compare.specs.Playing.{answer_to, after_step, answers_to, after_steps}
use Rattle.compare.specs.declared.comparison.Answers.{Answers}
use Rattle.compare.specs.declared.step.Step.{Step}

after_push : (s : ℕ → ℕ → Bool) (xs : List Step) (x : Step) → after_steps s (xs ++ x ∷ []) ≡ after_step (after_steps s xs) x
unfolding after_steps
after_push s [] x = refl
after_push s (y ∷ ys) x = after_push (after_step s y) ys x

answers_push : (s : ℕ → ℕ → Bool) (xs : List Step) (x : Step) → answers_to s (xs ++ x ∷ []) ≡ answers_to s xs ++ answer_to (after_steps s xs) x ∷ []
unfolding answers_to after_steps
answers_push s [] x = refl
answers_push s (y ∷ ys) x = ap (λ bs. answer_to s y ∷ bs) (answers_push (after_step s y) ys x)

pub agreed_none : (o : List Pair) (ans : List Answers) (s t : ℕ → ℕ → Bool) → ans ≡ [] → s ≡ listed o → t ≡ listed o → Agreed o [] ans s t
unfolding answers_to after_steps
agreed_none o ans s t n e f =
    record {
      same_answers = rw n tt;
      same_pairs = e ∙ sym f;
      exact_answers = ap (map (λ a. a.one)) n;
      exact_pairs = e;
    }

module _ (o : List Pair) (xs : List Step) (ans bs : List Answers) (s t u v : ℕ → ℕ → Bool) (x : Step) (a : Answers) (so_far : Agreed o xs ans s t) where
  pub agreed_push : a.one ≡ answer_to s x → a.two ≡ answer_to t x → u ≡ after_step s x → v ≡ after_step t x → bs ≡ ans ++ a ∷ [] → Agreed o (xs ++ x ∷ []) bs u v
  agreed_push p q e f g =
      record {
        same_answers = rw g (All-push (λ b. b.one ≡ b.two) ans a so_far.same_answers (p ∙ ap (λ w. answer_to w x) so_far.same_pairs ∙ sym q));
        same_pairs = e ∙ ap (λ w. after_step w x) so_far.same_pairs ∙ sym f;
        exact_answers =
            ap (map (λ b. b.one)) g ∙ map_push (λ b. b.one) ans a ∙ ap (λ w. map (λ b. b.one) ans ++ w ∷ []) (p ∙ ap (λ w. answer_to w x) so_far.exact_pairs)
            ∙ ap (λ w. w ++ answer_to (after_steps (listed o) xs) x ∷ []) so_far.exact_answers ∙ sym (answers_push (listed o) xs x);
        exact_pairs = e ∙ ap (λ w. after_step w x) so_far.exact_pairs ∙ sym (after_push (listed o) xs x);
      }

-- a turn of a loop over the steps
pub agreed_more : (o : List Pair) (xs : List Step) (i : ℕ) (d : Step) (ans bs : List Answers) (s t u v : ℕ → ℕ → Bool) (a : Answers) → i < length xs → Agreed o (take i xs) ans s t
    → a.one ≡ answer_to s (get_or xs i d) → a.two ≡ answer_to t (get_or xs i d) → u ≡ after_step s (get_or xs i d) → v ≡ after_step t (get_or xs i d) → bs ≡ ans ++ a ∷ [] → Agreed o (take (i + 1) xs) bs u v
agreed_more o xs i d ans bs s t u v a h so_far p q e f g = rw (take_more xs i d h) (agreed_push o (take i xs) ans bs s t u v (get_or xs i d) a so_far p q e f g)
