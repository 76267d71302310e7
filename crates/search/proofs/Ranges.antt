-- What `find` and `any` over the numbers below a limit answer, where the closure computes a test: each takes the call's clause `ran`.
use Rattle.std.proofs.Common.{◌≡◌, ℕ, zero, suc, ◌+◌, ◌<◌, ◌≤◌, Bool, true, false, ◌||◌, Some, None, Option, MatchOption, Bor, sym, refl, ap, ◌∙◌, arith}
use denote.Param.Members.{Mut}
use Rattle.std.proofs.iter.Yields.{nat_range_steps}
use Rattle.std.proofs.lemmas.Iterator.{YieldsList-from_range, first_from_Range}
use Rattle.std.proofs.lemmas.Iterator.Search.{any_from_yields_List}
use Rattle.std.specs.Fn.{Called, CalledAt}
use Rattle.std.specs.Iterator.{ChecksAny, FindsItem}
use Rattle.std.specs.List.{list_any, range_with_len}
use Rattle.search.specs.Below.{some_below}
use Rattle.search.specs.Firsts.{first_below}
use Rattle.search.proofs.Finds.{first_found, first_clear}

first_is : (f : ℕ → Bool) (n : ℕ) (o : Option ℕ)
    → MatchOption o ((k : ℕ) → 0 ≤ k → k < n → f k ≡ false) (λ i. (0 ≤ i) × (i < n) × (f i ≡ true) × ((k : ℕ) → 0 ≤ k → k < i → f k ≡ false))
    → o ≡ first_below f n
first_is f n None h = sym (first_clear f n (λ k l. h k (omega arith) l))
first_is f n (Some i) h = sym (first_found f n i h.1 (first_clear f i (λ k l. h.3 k (omega arith) l)) h.2)

pub find_below : {F : Type 0} {g : Mut F (Bor ℕ × Unit {0}) Bool} (f : ℕ → Bool) (n : ℕ) (p : F) (r : Option ℕ) (u : _)
    → FindsItem nat_range_steps g (record { start = 0; end = n }) p r u
    → ((x : ℕ) (b : Bool) (q : F) → CalledAt g p x b q → (q ≡ p) × (b ≡ f x))
    → r ≡ first_below f n
find_below f n p r u ran by = first_is f n r (first_from_Range _ _ _ r (λ k. f k ≡ true) (λ k. f k ≡ false) ran
    (λ x q k. sym (by x true q k).1)
    (λ x q k. let m = by x false q k in (m.0, sym m.1)))

pub swap : (a b c : Bool) → (a || (b || c)) ≡ (b || (a || c))
swap true true c = refl
swap true false c = refl
swap false true c = refl
swap false false c = refl

front : (f : ℕ → Bool) (n : ℕ) → some_below f (suc n) ≡ (f 0 || some_below (λ k. f (suc k)) n)
unfolding some_below
front f zero = refl
front f (suc n) = ap (λ b. f (suc n) || b) (front f n) ∙ swap (f (suc n)) (f 0) (some_below (λ k. f (suc k)) n)

any_from : (f g : ℕ → Bool) (a n : ℕ) → ((k : ℕ) → f (k + a) ≡ g k) → list_any f (range_with_len a n) ≡ some_below g n
unfolding some_below
any_from f g a zero h = refl
any_from f g a (suc n) h =
    let more = any_from f (λ k. g (suc k)) (a + 1) n (λ k. ap f (omega arith) ∙ h (suc k)) in
    let here : f a ≡ g 0 = ap f (omega arith) ∙ h 0 in
    ap (λ b. f a || b) more ∙ ap (λ b. b || some_below (λ k. g (suc k)) n) here ∙ sym (front g n)

pub any_below : {F : Type 0} {g : Mut F (ℕ × Unit {0}) Bool} (f : ℕ → Bool) (n : ℕ) (p : F) (r : Bool) (u : _)
    → ChecksAny nat_range_steps g (record { start = 0; end = n }) p r u
    → ((x : ℕ) (b : Bool) (q : F) → Called g p (x, tt) b q → (q ≡ p) × (b ≡ f x))
    → r ≡ some_below f n
any_below f n p r u ran by = any_from_yields_List f _ _ r ran (YieldsList-from_range 0 n n refl (omega arith)) by ∙ any_from f f 0 n (λ k. ap f (omega arith))
