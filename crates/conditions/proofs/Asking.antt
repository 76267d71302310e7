-- What one condition after another that is asked for leaves known, and how many are left to ask for.
use Rattle.std.proofs.Common.{◌≡◌, ℕ, zero, suc, ◌+◌, ◌<◌, ◌≤◌, Bool, true, false, cond, ◌||◌, None, sym, refl, ap, ◌∙◌, ⊎_elim, arith}
use Rattle.std.proofs.lemmas.Bool.{cases_eq, cases_Bool, both_ways, and_parts}
use Rattle.std.proofs.lemmas.Bool.Decides.{nat_tests, Decides-like, same_from_decides}
use Rattle.search.specs.Below.{some_below, all_below}
use Rattle.search.specs.Firsts.{first_below}
use Rattle.search.proofs.Somes.{some_found}
use Rattle.search.proofs.Finds.{first_never}
use Rattle.rows.specs.Numbers.{no_numbers, with_number, without_number, both, outside, within}
use Rattle.rows.specs.Rows.{numbers}
use Rattle.rows.specs.declared.row.Row.{Row}
use Rattle.rows.proofs.Bits.{bits_below}
use Rattle.conditions.specs.Active.{all_hold}
use Rattle.conditions.specs.Asked.{Known, Among}
use Rattle.conditions.proofs.Actives.{hold_words}
use Rattle.conditions.proofs.Gathering.{within_is}

-- how many numbers below n are in the set
pub count : (ℕ → Bool) → ℕ → ℕ
count s zero = 0
count s (suc n) = cond (s n) 1 0 + count s n

more_of : (x y : Bool) (m n : ℕ) → m ≤ n → (x ≡ true → y ≡ true) → cond x 1 0 + m ≤ cond y 1 0 + n
more_of true true m n l h = omega arith
more_of true false m n l h = absurd (both_ways false refl (h refl))
more_of false true m n l h = omega arith
more_of false false m n l h = omega arith

count_among : (s t : ℕ → Bool) (n : ℕ) → Among t s → count t n ≤ count s n
unfolding count
count_among s t zero a = omega arith
count_among s t (suc n) a = more_of (t n) (s n) (count t n) (count s n) (count_among s t n a) (a n)

among_without : (s t : ℕ → Bool) (c : ℕ) → t ≡ without_number s c → Among t s
unfolding without_number
among_without s t c e k h = let f = ap (λ x. x k) e in grind (arith, nat_tests)

pub count_less : (s t : ℕ → Bool) (c n : ℕ) → c < n → s c ≡ true → t ≡ without_number s c → count t n < count s n
unfolding without_number count
count_less s t c zero l h e = absurd (omega arith)
count_less s t c (suc n) l h e = ⊎_elim
    (λ (q : c ≡ n). let m = count_among s t n (among_without s t c e) in
    let f : t n ≡ false = let g = ap (λ x. x n) e in grind (arith, nat_tests) in
    let g : s n ≡ true = ap s (sym q) ∙ h in
    rw (f, g) (omega arith))
    (λ (q : c ≡ n → ⊥). let i = count_less s t c n (omega arith) h e in
    let f : t n ≡ s n = let g = ap (λ x. x n) e in grind (arith, nat_tests) in
    rw f (omega arith))
    (cases_eq c n)

-- nothing is known at first
pub known_none : (holding found lacking : ℕ → Bool) → found ≡ no_numbers → lacking ≡ no_numbers → Known holding found lacking
unfolding no_numbers
known_none holding found lacking e f = record {
  hold = λ c h. let g = ap (λ x. x c) e in grind (arith, nat_tests);
  lack = λ c h. let g = ap (λ x. x c) f in grind (arith, nat_tests);
}

-- one condition more holds, or is lacking
pub known_found : (holding found after lacking : ℕ → Bool) (n : ℕ) → Known holding found lacking → true ≡ holding n → after ≡ with_number found n → Known holding after lacking
unfolding with_number
known_found holding found after lacking n k t e = record {
  hold = λ c h. let g = ap (λ x. x c) e in let o : n ≡ c → holding n ≡ holding c = ap holding in let i = k.hold c in grind (arith, nat_tests);
  lack = k.lack;
}

pub known_lacking : (holding found lacking after : ℕ → Bool) (n : ℕ) → Known holding found lacking → false ≡ holding n → after ≡ with_number lacking n → Known holding found after
unfolding with_number
known_lacking holding found lacking after n k t e = record {
  hold = k.hold;
  lack = λ c h. let g = ap (λ x. x c) e in let o : n ≡ c → holding n ≡ holding c = ap holding in let i = k.lack c in grind (arith, nat_tests);
}

-- Of the wanted conditions, those that are not found are left.
pub record Left (wanted found left : ℕ → Bool) : Type 0 where
  pub wanted_or : (c : ℕ) → wanted c ≡ true → (found c || left c) ≡ true
  pub is_wanted : Among left wanted

pub left_first : (wanted found left : ℕ → Bool) → left ≡ outside wanted found → Left wanted found left
left_first wanted found left e = record {
  wanted_or = λ c h. let g = ap (λ x. x c) e in grind (arith, nat_tests);
  is_wanted = λ c h. let g = ap (λ x. x c) e in grind (arith, nat_tests);
}

pub left_next : (wanted found left found' left' : ℕ → Bool) (n : ℕ) → n < 32 → Left wanted found left → found' ≡ with_number found n → left' ≡ without_number left n → Left wanted found' left'
unfolding with_number without_number
left_next wanted found left found' left' n l o e f = record {
  wanted_or = λ c h. let g = ap (λ x. x c) e in let j = ap (λ x. x c) f in let i = o.wanted_or c h in grind (arith, nat_tests);
  is_wanted = λ c h. o.is_wanted c (among_without left left' n f c h);
}

-- all wanted conditions are found where they hold: none is left, one that is wanted doesn't hold, or one was lacking before
pub asked_all : (wanted found : ℕ → Bool) (left : Row) → Left wanted found (numbers left) → None ≡ first_below (numbers left) 32 → Among wanted found
asked_all wanted found left o e c h = ⊎_elim
    (λ t. let f = first_never (numbers left) 32 (sym e) c (bits_below left.bits c t) in absurd (both_ways (numbers left c) f t))
    (λ f. let i = o.wanted_or c h in grind (arith, nat_tests))
    (cases_Bool (numbers left c))

pub asked_lacking : (wanted holding found : ℕ → Bool) (n : ℕ) → wanted n ≡ true → false ≡ holding n → Among wanted holding → Among wanted found
asked_lacking wanted holding found n h f a = absurd (both_ways (holding n) (sym f) (a n h))

pub asked_before : (wanted holding found lacking : ℕ → Bool) → Known holding found lacking → true ≡ some_below (both wanted lacking) 32 → Among wanted holding → Among wanted found
asked_before wanted holding found lacking k e =
    let s = some_found (both wanted lacking) 32 (sym e) in
    let p = and_parts (wanted s.0) (lacking s.0) s.2 in
    asked_lacking wanted holding found s.0 p.0 (sym (k.lack s.0 p.1))

-- so the conditions of a row are all found exactly where they all hold
pub found_holds : (wanted : Row) (holding found lacking : ℕ → Bool) → Known holding found lacking → (Among (numbers wanted) holding → Among (numbers wanted) found)
    → all_below (within (numbers wanted) found) 32 ≡ all_hold (numbers wanted) holding
found_holds wanted holding found lacking k a =
    within_is (numbers wanted) found
    ∙ same_from_decides (all_hold (numbers wanted) found) (all_hold (numbers wanted) holding)
    (Decides-like (all_hold (numbers wanted) found) (λ f c h. k.hold c (f c h)) a (hold_words wanted found)) (hold_words wanted holding)
