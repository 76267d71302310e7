-- A test of all places, one after another.
use Rattle.std.proofs.Common.{◌≡◌, ℕ, zero, suc, ◌+◌, ◌<◌, ◌≤◌, Bool, true, refl, ap, ⊎_elim, ◌∙◌, arith}
use Rattle.std.specs.List.{list_all, range_with_len}
use Rattle.std.proofs.lemmas.Bool.{cases_eq, and_parts, and_from}
use Rattle.std.proofs.lemmas.Bool.Decides.{same_from_decides}
use Rattle.search.specs.Below.{all_below}
use Rattle.search.proofs.Somes.{all_decides}

module _ (f : ℕ → Bool) where
  all_at : (a n : ℕ) → list_all f (range_with_len a n) ≡ true → (k : ℕ) → a ≤ k → k < a + n → f k ≡ true
  all_at a zero e k p q = absurd (omega arith)
  all_at a (suc n) e k p q =
      let both = and_parts (f a) (list_all f (range_with_len (a + 1) n)) e in
      ⊎_elim
      (λ (s : k ≡ a). ap f s ∙ both.0)
      (λ (d : k ≡ a → ⊥). all_at (a + 1) n both.1 k (omega arith) (omega arith))
      (cases_eq k a)

  all_from : (a n : ℕ) → ((k : ℕ) → a ≤ k → k < a + n → f k ≡ true) → list_all f (range_with_len a n) ≡ true
  all_from a zero h = refl
  all_from a (suc n) h =
      and_from (f a) (list_all f (range_with_len (a + 1) n)) (h a (omega arith) (omega arith)) (all_from (a + 1) n (λ k p q. h k (omega arith) (omega arith)))

  -- the numbers from 0 on, or those below a limit
  pub all_is : (n : ℕ) → list_all f (range_with_len 0 n) ≡ all_below f n
  all_is n = same_from_decides (list_all f (range_with_len 0 n)) (all_below f n)
      (λ e k h. all_at 0 n e k (omega arith) (omega arith), λ h. all_from 0 n (λ k p q. h k (omega arith)))
      (all_decides f n)
