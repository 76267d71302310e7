-- Tests of all numbers below a limit: where they pass, and one number further on.
use Rattle.std.proofs.Common.{◌≡◌, ℕ, ◌+◌, ◌<◌, Bool, true, false, ◌||◌, Decides, sym, refl, ⊎_elim, add-one}
use Rattle.std.proofs.lemmas.Bool.Decides.{Decides-below_or, Decides-below_and}
use Rattle.std.proofs.lemmas.Bool.{or_from, and_from, cases_Bool, both_ways}
use Rattle.search.specs.Below.{some_below, all_below}

pub some_decides : (f : ℕ → Bool) (n : ℕ) → Decides (some_below f n) ((k : ℕ) × (k < n) × (f k ≡ true))
unfolding some_below
some_decides f n = Decides-below_or f (λ k. f k ≡ true) (some_below f) (λ k. (λ e. e, λ e. e)) refl (λ _. refl) n

pub all_decides : (f : ℕ → Bool) (n : ℕ) → Decides (all_below f n) ((k : ℕ) → k < n → f k ≡ true)
unfolding all_below
all_decides f n = Decides-below_and f (λ k. f k ≡ true) (all_below f) (λ k. (λ e. e, λ e. e)) refl (λ _. refl) n

pub some_found : (f : ℕ → Bool) (n : ℕ) → some_below f n ≡ true → (k : ℕ) × (k < n) × (f k ≡ true)
some_found f n = (some_decides f n).0

pub some_at : (f : ℕ → Bool) (n k : ℕ) → k < n → f k ≡ true → some_below f n ≡ true
some_at f n k h e = (some_decides f n).1 (k, h, e)

pub some_none : (f : ℕ → Bool) → some_below f 0 ≡ false
unfolding some_below
some_none f = refl

pub some_more : (f : ℕ → Bool) (i : ℕ) → some_below f i ≡ false → f i ≡ false → some_below f (i + 1) ≡ false
unfolding some_below
some_more f i a b = rw add-one (or_from (f i) (some_below f i) b a)

pub some_left : (f : ℕ → Bool) (n k : ℕ) → some_below f n ≡ false → k < n → f k ≡ false
some_left f n k e h = ⊎_elim (λ t. absurd (both_ways (some_below f n) e (some_at f n k h t))) (λ u. u) (cases_Bool (f k))

pub all_more : (f : ℕ → Bool) (i : ℕ) → all_below f i ≡ true → f i ≡ true → all_below f (i + 1) ≡ true
unfolding all_below
all_more f i a b = rw add-one (and_from (f i) (all_below f i) b a)

pub all_none : (f : ℕ → Bool) → all_below f 0 ≡ true
unfolding all_below
all_none f = refl

-- the same, turned round, as a contract asks
pub some_answers : (f : ℕ → Bool) (n k : ℕ) → k < n → f k ≡ true → true ≡ some_below f n
some_answers f n k h e = sym (some_at f n k h e)

pub all_fails : (f : ℕ → Bool) (n k : ℕ) → k < n → f k ≡ false → false ≡ all_below f n
all_fails f n k h e = ⊎_elim (λ t. absurd (both_ways (f k) e ((all_decides f n).0 t k h))) sym (cases_Bool (all_below f n))

pub some_never : (f : ℕ → Bool) (n : ℕ) → ((k : ℕ) → k < n → f k ≡ false) → some_below f n ≡ false
some_never f n h = ⊎_elim
    (λ t. let w = some_found f n t in absurd (both_ways (f w.0) (h w.0 w.1) w.2))
    (λ e. e)
    (cases_Bool (some_below f n))

-- one more turn, whatever it finds
pub some_next : (f : ℕ → Bool) (i : ℕ) → some_below f (i + 1) ≡ (f i || some_below f i)
unfolding some_below
some_next f i = rw add-one
