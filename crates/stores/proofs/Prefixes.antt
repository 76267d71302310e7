-- The pairs of a set that come before a place: what a walk over all places has seen there.
use Rattle.std.proofs.Common.{◌≡◌, ℕ, ◌+◌, ◌<◌, Bool, true, false, ◌&&◌, sym, ap, ◌∙◌, ⊎_elim, arith}
use mathlib.Core.Path.{fun_ext}
use Rattle.std.proofs.lemmas.Bool.{cases_Bool}
use Rattle.std.proofs.lemmas.Bool.Decides.{nat_tests}
use Rattle.stores.specs.Comparing.{before}
use Rattle.stores.specs.Pairs.{in_bounds, with_pair, no_pairs}

-- the pairs of s before the place l, r
unfoldable pub prefix : (ℕ → ℕ → Bool) → ℕ → ℕ → (ℕ → ℕ → Bool)
prefix s l r = λ a b. before a b l r && s a b

pub prefix_none : (s : ℕ → ℕ → Bool) → prefix s 0 0 ≡ no_pairs
unfolding prefix no_pairs
prefix_none s = fun_ext λ a. fun_ext λ b. grind (arith, nat_tests)

pub prefix_in : (s : ℕ → ℕ → Bool) (l r : ℕ) → l < 64 → r < 32 → s l r ≡ true → prefix s l (r + 1) ≡ with_pair (prefix s l r) l r
unfolding prefix with_pair
prefix_in s l r p q e = fun_ext λ a. fun_ext λ b. grind (arith, nat_tests)

pub prefix_out : (s : ℕ → ℕ → Bool) (l r : ℕ) → s l r ≡ false → prefix s l (r + 1) ≡ prefix s l r
unfolding prefix
prefix_out s l r e = fun_ext λ a. fun_ext λ b. grind (arith, nat_tests)

-- no pair of a set is out of bounds, so a row ends at 32, and the set at 64
module _ (s : ℕ → ℕ → Bool) (w : (a b : ℕ) → s a b ≡ true → in_bounds a b ≡ true) where
  pub prefix_row : (l : ℕ) → prefix s (l + 1) 0 ≡ prefix s l 32
  unfolding prefix
  prefix_row l = fun_ext λ a. fun_ext λ b. ⊎_elim (λ t. let i = w a b t in grind (arith, nat_tests)) (λ t. grind (arith, nat_tests)) (cases_Bool (s a b))

  pub prefix_all : prefix s 64 0 ≡ s
  unfolding prefix
  prefix_all = fun_ext λ a. fun_ext λ b. ⊎_elim (λ t. let i = w a b t in grind (arith, nat_tests)) (λ t. grind (arith, nat_tests)) (cases_Bool (s a b))

-- A walk that copies: t is what the other set holds at the place l, r.
module _ (s t : ℕ → ℕ → Bool) (l r : ℕ) (so_far : t ≡ prefix s l r) where
  pub copied_in : (u : ℕ → ℕ → Bool) → l < 64 → r < 32 → s l r ≡ true → u ≡ with_pair t l r → u ≡ prefix s l (r + 1)
  copied_in u p q e put = put ∙ ap (λ x. with_pair x l r) so_far ∙ sym (prefix_in s l r p q e)

  pub copied_out : s l r ≡ false → t ≡ prefix s l (r + 1)
  copied_out e = so_far ∙ sym (prefix_out s l r e)

  pub copied_row : ((a b : ℕ) → s a b ≡ true → in_bounds a b ≡ true) → r ≡ 32 → t ≡ prefix s (l + 1) 0
  copied_row w e = so_far ∙ ap (prefix s l) e ∙ sym (prefix_row s w l)

pub copied_all : (s t : ℕ → ℕ → Bool) (l : ℕ) → ((a b : ℕ) → s a b ≡ true → in_bounds a b ≡ true) → t ≡ prefix s l 0 → l ≡ 64 → t ≡ s
copied_all s t l w so_far e = so_far ∙ ap (λ x. prefix s x 0) e ∙ prefix_all s w
