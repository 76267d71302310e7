-- Where two sets of pairs differ: what the first pair tells at which their answers differ.
use Rattle.std.proofs.Common.{◌≡◌, ℕ, Bool, true, false, not, Some, None, sym, ◌∙◌, ⊎_elim, arith}
use mathlib.Core.Bool.{beq}
use mathlib.Core.Path.{fun_ext}
use Rattle.std.specs.Cmp.{booleans_Decides}
use Rattle.std.proofs.lemmas.Bool.{cases_Bool, cases_lt, both_ways, not-true, not-false}
use Rattle.std.proofs.lemmas.Bool.Decides.{nat_tests}
use Rattle.search.specs.Firsts.{FirstPair}
use Rattle.stores.specs.Comparing.{before, Compared}
use Rattle.stores.specs.Pairs.{in_bounds}

-- whether the sets differ at a pair
abbrev pub differ : (ℕ → ℕ → Bool) → (ℕ → ℕ → Bool) → ℕ → ℕ → Bool
differ s t = λ a b. not (beq (s a b) (t a b))

told_same : (x y : Bool) → not (beq x y) ≡ false → x ≡ y
told_same x y e = (booleans_Decides x y).0 (not-false (beq x y) e)

told_apart : (x y : Bool) → not (beq x y) ≡ true → x ≡ y → ⊥
told_apart x y e h = both_ways (beq x y) (not-true (beq x y) e) ((booleans_Decides x y).1 h)

module _ (s t : ℕ → ℕ → Bool) (v : (a b : ℕ) → s a b ≡ true → in_bounds a b ≡ true) (w : (a b : ℕ) → t a b ≡ true → in_bounds a b ≡ true) where
  -- neither set has a pair out of bounds
  outside : (u : ℕ → ℕ → Bool) → ((a b : ℕ) → u a b ≡ true → in_bounds a b ≡ true) → (a b : ℕ) → in_bounds a b ≡ false → u a b ≡ false
  outside u k a b e = ⊎_elim (λ h. absurd (both_ways (in_bounds a b) e (k a b h))) (λ h. h) (cases_Bool (u a b))

  alike_outside : (a b : ℕ) → in_bounds a b ≡ false → s a b ≡ t a b
  alike_outside a b e = outside s v a b e ∙ sym (outside t w a b e)

  pub same_where_none : FirstPair (differ s t) 64 32 None → s ≡ t
  same_where_none f = fun_ext λ a. fun_ext λ b. ⊎_elim
      (λ h. told_same (s a b) (t a b) (f a b (grind (arith, nat_tests)) (grind (arith, nat_tests))))
      (λ h. alike_outside a b h)
      (cases_Bool (in_bounds a b))

  pub first_where_some : (l r : ℕ) → FirstPair (differ s t) 64 32 (Some (l, r)) → Compared s t (Some (record { left = l; right = r }))
  first_where_some l r f = (
    told_apart (s l r) (t l r) f.2,
    λ a b e. ⊎_elim
        (λ h. told_same (s a b) (t a b) (earlier a b e h))
        (λ h. alike_outside a b h)
        (cases_Bool (in_bounds a b)),
  )
    where
      earlier : (a b : ℕ) → before a b l r ≡ true → in_bounds a b ≡ true → differ s t a b ≡ false
      earlier a b e h = ⊎_elim
          (λ k. f.3 a b k (grind (arith, nat_tests)))
          (λ k. let q : a ≡ l = grind (arith, nat_tests) in rw q (f.4 b (grind (arith, nat_tests))))
          (cases_lt a l)
