-- How far a field goes: the bytes decide it.
use Rattle.std.proofs.Common.{◌≡◌, ℕ, List, [], ◌∷◌, ◌++◌, length, get_or, drop, sym, refl, ap, ◌∙◌, subst, arith}
use Rattle.std.specs.List.{AllByRecursion}
use Rattle.records.specs.Grammar.{Plain, Doubled}
use Rattle.records.specs.Grammar.Doubled.{none, other, pair}

pub head_is : {x y : ℕ} {l m : List ℕ} → x ∷ l ≡ y ∷ m → x ≡ y
head_is e = ap (λ l. get_or l 0 0) e

pub tail_is : {x y : ℕ} {l m : List ℕ} → x ∷ l ≡ y ∷ m → l ≡ m
tail_is e = ap (drop 1) e

-- a bare field and what is left behind it; what lies between the quotes and what is left behind them; a quote never closed
pub data Outcome : Type 0 where
  plain : List ℕ → List ℕ → Outcome
  closed : List ℕ → List ℕ → Outcome
  unended : List ℕ → Outcome

abbrev pub Halted : List ℕ → Type 0
Halted [] = Unit {0}
Halted (b ∷ t) = Plain b → ⊥

abbrev pub Scan : List ℕ → Outcome → Type 0
Scan s (plain p rest) = (s ≡ p ++ rest) × AllByRecursion Plain p × Halted rest × (get_or s 0 0 ≡ 34 → ⊥)
Scan s (closed p rest) = (s ≡ 34 ∷ (p ++ 34 ∷ rest)) × Doubled p × (get_or rest 0 0 ≡ 34 → ⊥)
Scan s (unended p) = (s ≡ 34 ∷ p) × Doubled p

split : (p q r t : List ℕ) → AllByRecursion Plain p → AllByRecursion Plain q → Halted r → Halted t → p ++ r ≡ q ++ t → (p ≡ q) × (r ≡ t)
split [] [] r t h k x y e = (refl, e)
split [] (c ∷ q) r t h k x y e = absurd (subst Halted e x k.0)
split (b ∷ p) [] r t h k x y e = absurd (subst Halted (sym e) y h.0)
split (b ∷ p) (c ∷ q) r t h k x y e =
    let (same, rest) = split p q r t h.1 k.1 x y (tail_is e) in
    ((λ i. head_is e i ∷ same i), rest)

inside : (p q r t : List ℕ) → Doubled p → Doubled q → (get_or r 0 0 ≡ 34 → ⊥) → (get_or t 0 0 ≡ 34 → ⊥) → p ++ 34 ∷ r ≡ q ++ 34 ∷ t → (p ≡ q) × (r ≡ t)
inside p q r t none none x y e = (refl, tail_is e)
inside p q r t none (other ne k) x y e = absurd (ne (sym (head_is e)))
inside p q r t none (pair b c k) x y e = absurd (x (ap (λ l. get_or l 0 0) (tail_is e) ∙ c))
inside p q r t (other ne h) none x y e = absurd (ne (head_is e))
inside p q r t (other ne h) (other nf k) x y e =
    let (same, rest) = inside _ _ r t h k x y (tail_is e) in
    ((λ i. head_is e i ∷ same i), rest)
inside p q r t (other ne h) (pair b c k) x y e = absurd (ne (head_is e ∙ b))
inside p q r t (pair b c h) none x y e = absurd (y (sym (ap (λ l. get_or l 0 0) (tail_is e)) ∙ c))
inside p q r t (pair b c h) (other nf k) x y e = absurd (nf (sym (head_is e) ∙ b))
inside p q r t (pair b c h) (pair d f k) x y e =
    let (same, rest) = inside _ _ r t h k x y (tail_is (tail_is e)) in
    ((λ i. head_is e i ∷ head_is (tail_is e) i ∷ same i), rest)

never : (p q r : List ℕ) → Doubled p → Doubled q → (get_or r 0 0 ≡ 34 → ⊥) → p ++ 34 ∷ r ≡ q → ⊥
never p q r none none x e = omega (arith, ap length e)
never p q r none (other ne k) x e = ne (sym (head_is e))
never p q r none (pair b c k) x e = x (ap (λ l. get_or l 0 0) (tail_is e) ∙ c)
never p q r (other ne h) none x e = omega (arith, ap length e)
never p q r (other ne h) (other nf k) x e = never _ _ r h k x (tail_is e)
never p q r (other ne h) (pair b c k) x e = ne (head_is e ∙ b)
never p q r (pair b c h) none x e = omega (arith, ap length e)
never p q r (pair b c h) (other nf k) x e = nf (sym (head_is e) ∙ b)
never p q r (pair b c h) (pair d f k) x e = never _ _ r h k x (tail_is (tail_is e))

pub quote_first : {s l : List ℕ} → s ≡ 34 ∷ l → get_or s 0 0 ≡ 34
quote_first e = ap (λ l. get_or l 0 0) e

pub scan_one : (s : List ℕ) (o r : Outcome) → Scan s o → Scan s r → o ≡ r
scan_one s (plain p rest) (plain q t) h k =
    let (same, more) = split p q rest t h.1 k.1 h.2 k.2 (sym h.0 ∙ k.0) in
    λ i. plain (same i) (more i)
scan_one s (plain p rest) (closed q t) h k = absurd (h.3 (quote_first k.0))
scan_one s (plain p rest) (unended q) h k = absurd (h.3 (quote_first k.0))
scan_one s (closed p rest) (plain q t) h k = absurd (k.3 (quote_first h.0))
scan_one s (closed p rest) (closed q t) h k =
    let (same, more) = inside p q rest t h.1 k.1 h.2 k.2 (tail_is (sym h.0 ∙ k.0)) in
    λ i. closed (same i) (more i)
scan_one s (closed p rest) (unended q) h k = absurd (never p q rest h.1 k.1 h.2 (tail_is (sym h.0 ∙ k.0)))
scan_one s (unended p) (plain q t) h k = absurd (k.3 (quote_first h.0))
scan_one s (unended p) (closed q t) h k = absurd (never q p t k.1 h.1 k.2 (tail_is (sym k.0 ∙ h.0)))
scan_one s (unended p) (unended q) h k = λ i. unended (tail_is (sym h.0 ∙ k.0) i)
