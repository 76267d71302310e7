-- A list in which no two items are the same stays so.
use Rattle.std.proofs.Common.{◌≡◌, ℕ, zero, suc, Bool, true, false, not, List, [], ◌∷◌, ◌++◌, set, refl, ◌∙◌, ⊎_elim}
use Rattle.std.specs.List.{remove, list_all, AllByRecursion}
use Rattle.index_set.specs.Distinct.{is_distinct}
use Rattle.std.proofs.lemmas.Bool.{and_parts, and_from, cases_Bool, both_ways, not-true, not_from_false}
use Rattle.index_set.specs.Found.{is_alike_at}

-- A test that every item of a list passes.
module _ {X : Type 0} (p : X → Bool) where
  pub pass_push : (xs : List X) (x : X) → list_all p xs ≡ true → p x ≡ true → list_all p (xs ++ x ∷ []) ≡ true
  pass_push [] x h k = and_from (p x) true k refl
  pass_push (y ∷ ys) x h k = let a = and_parts (p y) (list_all p ys) h in and_from (p y) _ a.0 (pass_push ys x a.1 k)

  pub pass_removed : (xs : List X) (i : ℕ) → list_all p xs ≡ true → list_all p (remove xs i) ≡ true
  pass_removed [] zero h = refl
  pass_removed [] (suc i) h = refl
  pass_removed (y ∷ ys) zero h = (and_parts (p y) (list_all p ys) h).1
  pass_removed (y ∷ ys) (suc i) h = let a = and_parts (p y) (list_all p ys) h in and_from (p y) _ a.0 (pass_removed ys i a.1)

  pass_weaker : (q : X → Bool) → ((x : X) → p x ≡ true → q x ≡ true) → (xs : List X) → list_all p xs ≡ true → list_all q xs ≡ true
  pass_weaker q f [] h = refl
  pass_weaker q f (y ∷ ys) h = let a = and_parts (p y) (list_all p ys) h in and_from (q y) _ (f y a.0) (pass_weaker q f ys a.1)

-- An item put behind the others, or taken out.
module _ {X : Type 0} (e : X → X → Bool) where
  pub apart_push : (xs : List X) (x : X) → AllByRecursion (λ y. e y x ≡ false) xs → is_distinct e xs ≡ true → is_distinct e (xs ++ x ∷ []) ≡ true
  apart_push [] x h k = refl
  apart_push (y ∷ ys) x h k =
      let a = and_parts (list_all (λ z. not (e y z)) ys) (is_distinct e ys) k in
      and_from (list_all (λ z. not (e y z)) (ys ++ x ∷ [])) _ (pass_push (λ z. not (e y z)) ys x a.0 (not_from_false (e y x) h.0)) (apart_push ys x h.1 a.1)

  pub apart_removed : (xs : List X) (i : ℕ) → is_distinct e xs ≡ true → is_distinct e (remove xs i) ≡ true
  apart_removed [] zero k = refl
  apart_removed [] (suc i) k = refl
  apart_removed (y ∷ ys) zero k = (and_parts (list_all (λ z. not (e y z)) ys) (is_distinct e ys) k).1
  apart_removed (y ∷ ys) (suc i) k =
      let a = and_parts (list_all (λ z. not (e y z)) ys) (is_distinct e ys) k in
      and_from (list_all (λ z. not (e y z)) (remove ys i)) _ (pass_removed (λ z. not (e y z)) ys i a.0) (apart_removed ys i a.1)

-- An item that gives way to one that is the same.
module _ {X : Type 0} (e : X → X → Bool) (sy : (x y : X) → e x y ≡ e y x) (tr : (x y z : X) → e x y ≡ true → e y z ≡ true → e x z ≡ true) where
  like_right : (z y x : X) → e y x ≡ true → e z y ≡ false → e z x ≡ false
  like_right z y x h k = ⊎_elim (λ t. absurd (both_ways (e z y) k (tr z x y t (sy x y ∙ h)))) (λ t. t) (cases_Bool (e z x))

  like_left : (z y x : X) → e y x ≡ true → e y z ≡ false → e x z ≡ false
  like_left z y x h k = sy x z ∙ like_right z y x h (sy z y ∙ k)

  apart_one : (z x : X) (xs : List X) (i : ℕ) → is_alike_at e xs i x ≡ true → list_all (λ w. not (e z w)) xs ≡ true → list_all (λ w. not (e z w)) (set xs i x) ≡ true
  apart_one z x [] i k h = refl
  apart_one z x (y ∷ ys) zero k h =
      let a = and_parts (not (e z y)) (list_all (λ w. not (e z w)) ys) h in
      and_from (not (e z x)) _ (not_from_false (e z x) (like_right z y x k (not-true (e z y) a.0))) a.1
  apart_one z x (y ∷ ys) (suc i) k h =
      let a = and_parts (not (e z y)) (list_all (λ w. not (e z w)) ys) h in and_from (not (e z y)) _ a.0 (apart_one z x ys i k a.1)

  pub apart_set : (x : X) (xs : List X) (i : ℕ) → is_alike_at e xs i x ≡ true → is_distinct e xs ≡ true → is_distinct e (set xs i x) ≡ true
  apart_set x [] i k h = refl
  apart_set x (y ∷ ys) zero k h =
      let a = and_parts (list_all (λ z. not (e y z)) ys) (is_distinct e ys) h in
      and_from (list_all (λ z. not (e x z)) ys) _ (pass_weaker (λ z. not (e y z)) (λ z. not (e x z)) (λ z n. not_from_false (e x z) (like_left z y x k (not-true (e y z) n))) ys a.0) a.1
  apart_set x (y ∷ ys) (suc i) k h =
      let a = and_parts (list_all (λ z. not (e y z)) ys) (is_distinct e ys) h in
      and_from (list_all (λ z. not (e y z)) (set ys i x)) _ (apart_one y x ys i k a.0) (apart_set x ys i k a.1)
