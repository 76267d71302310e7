-- Different pairs in bounds are at most 2,048.
use Rattle.std.proofs.Common.{◌≡◌, ℕ, zero, suc, ◌+◌, ◌*◌, ◌≤◌, Bool, true, not, eqb, ltb, List, [], ◌∷◌, length, filter, sym, refl, ap, ◌∙◌, arith}
use Rattle.std.specs.List.{list_all}
use Rattle.index_set.specs.Distinct.{is_distinct}
use Rattle.std.proofs.lemmas.Bool.{and_parts, and_from, eqb-true, ltb-true, cond_both, not-false}
use Rattle.std.proofs.lemmas.Bool.Decides.{nat_tests}
use Rattle.stores.specs.Alike.{alike_pair}
use Rattle.stores.specs.Listed.{all_in_bounds}
use Rattle.stores.specs.Pairs.{in_bounds}
use Rattle.stores.specs.declared.pair.Pair.{Pair}

-- Items whose numbers are below n and differ are at most n: by leaving out the one whose number is n - 1.
module _ {X : Type 0} (code : X → ℕ) where
  abbrev pub same_code : X → X → Bool
  same_code x y = eqb (code x) (code y)

  abbrev others : ℕ → List X → List X
  others v xs = filter (λ x. not (eqb (code x) v)) xs

  pass_others : (v : ℕ) (p : X → Bool) (xs : List X) → list_all p xs ≡ true → list_all p (others v xs) ≡ true
  pass_others v p [] h = refl
  pass_others v p (y ∷ ys) h =
      let a = and_parts (p y) (list_all p ys) h in
      let f = pass_others v p ys a.1 in
      cond_both (not (eqb (code y) v)) (y ∷ others v ys) (others v ys) (λ zs. list_all p zs ≡ true) (λ t. and_from (p y) _ a.0 f) (λ t. f)

  apart_others : (v : ℕ) (xs : List X) → is_distinct same_code xs ≡ true → is_distinct same_code (others v xs) ≡ true
  apart_others v [] h = refl
  apart_others v (y ∷ ys) h =
      let a = and_parts (list_all (λ z. not (same_code y z)) ys) (is_distinct same_code ys) h in
      let f = apart_others v ys a.1 in
      cond_both (not (eqb (code y) v)) (y ∷ others v ys) (others v ys) (λ zs. is_distinct same_code zs ≡ true)
      (λ t. and_from (list_all (λ z. not (same_code y z)) (others v ys)) _ (pass_others v (λ z. not (same_code y z)) ys a.0) f) (λ t. f)

  below_others : (n : ℕ) (xs : List X) → list_all (λ x. ltb (code x) (suc n)) xs ≡ true → list_all (λ x. ltb (code x) n) (others n xs) ≡ true
  below_others n [] h = refl
  below_others n (y ∷ ys) h =
      let a = and_parts (ltb (code y) (suc n)) (list_all (λ x. ltb (code x) (suc n)) ys) h in
      let f = below_others n ys a.1 in
      cond_both (not (eqb (code y) n)) (y ∷ others n ys) (others n ys) (λ zs. list_all (λ x. ltb (code x) n) zs ≡ true)
      (λ t. and_from (ltb (code y) n) _ (grind (arith, nat_tests)) f) (λ t. f)

  others_apart : (y : X) (ys : List X) → list_all (λ z. not (same_code y z)) ys ≡ true → others (code y) ys ≡ ys
  others_apart y [] h = refl
  others_apart y (z ∷ ys) h =
      let a = and_parts (not (same_code y z)) (list_all (λ z. not (same_code y z)) ys) h in
      let t : not (eqb (code z) (code y)) ≡ true = grind (arith, nat_tests) in
      rw t (ap (λ zs. z ∷ zs) (others_apart y ys a.1))

  few_left : (v : ℕ) (xs : List X) → is_distinct same_code xs ≡ true → length xs ≤ suc (length (others v xs))
  few_left v [] h = omega arith
  few_left v (y ∷ ys) h =
      let a = and_parts (list_all (λ z. not (same_code y z)) ys) (is_distinct same_code ys) h in
      let f = few_left v ys a.1 in
      cond_both (not (eqb (code y) v)) (y ∷ others v ys) (others v ys) (λ zs. suc (length ys) ≤ suc (length zs))
      (λ t. omega arith)
      (λ t.
      let e : code y ≡ v = eqb-true (code y) v (not-false (eqb (code y) v) t) in
      let o : others v ys ≡ ys = ap (λ n. others n ys) (sym e) ∙ others_apart y ys a.0 in
      omega (arith, ap length o))

  pub pigeonhole : (n : ℕ) (xs : List X) → list_all (λ x. ltb (code x) n) xs ≡ true → is_distinct same_code xs ≡ true → length xs ≤ n
  pigeonhole zero [] h k = omega arith
  pigeonhole zero (y ∷ ys) h k = absurd (omega (arith, ltb-true (code y) 0 (and_parts (ltb (code y) 0) _ h).0))
  pigeonhole (suc n) xs h k = omega (arith, few_left n xs k, pigeonhole n (others n xs) (below_others n xs h) (apart_others n xs k))

-- the number of a pair: 32 for each left number
abbrev code_pair : Pair → ℕ
code_pair p = p.left * 32 + p.right

codes_below : (ps : List Pair) → all_in_bounds ps ≡ true → list_all (λ p. ltb (code_pair p) 2048) ps ≡ true
unfolding all_in_bounds
codes_below [] h = refl
codes_below (p ∷ ps) h =
    let a = and_parts (in_bounds p.left p.right) _ h in
    and_from (ltb (code_pair p) 2048) _ (grind (arith, nat_tests)) (codes_below ps a.1)

code_apart : (p : Pair) (ps : List Pair) → in_bounds p.left p.right ≡ true → all_in_bounds ps ≡ true → list_all (λ q. not (alike_pair p q)) ps ≡ true → list_all (λ q. not (same_code code_pair p q)) ps ≡ true
unfolding all_in_bounds
code_apart p [] b h k = refl
code_apart p (q ∷ ps) b h k =
    let a = and_parts (in_bounds q.left q.right) _ h in
    let n = and_parts (not (alike_pair p q)) _ k in
    and_from (not (same_code code_pair p q)) _ (grind (arith, nat_tests)) (code_apart p ps b a.1 n.1)

codes_apart : (ps : List Pair) → all_in_bounds ps ≡ true → is_distinct alike_pair ps ≡ true → is_distinct (same_code code_pair) ps ≡ true
unfolding all_in_bounds
codes_apart [] h k = refl
codes_apart (p ∷ ps) h k =
    let a = and_parts (in_bounds p.left p.right) _ h in
    let n = and_parts (list_all (λ q. not (alike_pair p q)) ps) _ k in
    and_from (list_all (λ q. not (same_code code_pair p q)) ps) _ (code_apart p ps a.0 a.1 n.0) (codes_apart ps a.1 n.1)

pub few_pairs : (ps : List Pair) → all_in_bounds ps ≡ true → is_distinct alike_pair ps ≡ true → length ps ≤ 2048
few_pairs ps h k = pigeonhole code_pair 2048 ps (codes_below ps h) (codes_apart ps h k)
