-- One byte more of a field.
use Rattle.std.proofs.Common.{◌≡◌, ℕ, ◌+◌, ◌<◌, ◌≤◌, true, false, ◌⊎◌, List, [], ◌∷◌, ◌++◌, length, get_or, take, sym, refl, ap, ◌∙◌, subst, ⊎_elim, arith}
use Rattle.std.proofs.ByRecursion.{All-push}
use Rattle.std.proofs.lemmas.List.{take_more, append_assoc}
use Rattle.std.proofs.lemmas.Bool.Decides.{nat_tests}
use Rattle.records.specs.declared.scan.State.{State}
use Rattle.records.specs.declared.scan.State.TheVariants.{Bare, Quoted, AfterQuote}
use Rattle.records.specs.declared.scan.Step.TheVariants.{On}
use Rattle.records.specs.Grammar.{Plain, Doubled}
use Rattle.records.specs.Grammar.Doubled.{none, other, pair}
use Rattle.records.specs.Steps.{step_of, Read, is_quoted}

bare_on : (b : ℕ) (next : State) → step_of Bare b ≡ On next → (next ≡ Bare) × Plain b
bare_on b next e = grind (arith, nat_tests)

quoted_on : (b : ℕ) (next : State) → step_of Quoted b ≡ On next → ((b ≡ 34) × (next ≡ AfterQuote)) ⊎ ((b ≡ 34 → ⊥) × (next ≡ Quoted))
quoted_on b next e = grind (arith, nat_tests)

after_on : (b : ℕ) (next : State) → step_of AfterQuote b ≡ On next → (b ≡ 34) × (next ≡ Quoted)
after_on b next e = grind (arith, nat_tests)

doubled_append : (p q : List ℕ) → Doubled p → Doubled q → Doubled (p ++ q)
doubled_append p q none k = k
doubled_append p q (other ne h) k = other ne (doubled_append _ q h k)
doubled_append p q (pair b c h) k = pair b c (doubled_append _ q h k)

read_on_lem : (s next : State) (p : List ℕ) (b : ℕ) → Read s p → step_of s b ≡ On next → (is_quoted next ≡ is_quoted s) × Read next (p ++ b ∷ [])
read_on_lem Bare next p b h e =
    let (is, plain) = bare_on b next e in
    subst (λ n. (is_quoted n ≡ false) × Read n (p ++ b ∷ [])) (sym is) (refl, All-push Plain p b h plain)
read_on_lem Quoted next p b h e =
    ⊎_elim
    (λ k. subst (λ n. (is_quoted n ≡ true) × Read n (p ++ b ∷ [])) (sym k.1) (refl, (p, ap (λ x. p ++ x ∷ []) k.0, h)))
    (λ k. subst (λ n. (is_quoted n ≡ true) × Read n (p ++ b ∷ [])) (sym k.1) (refl, doubled_append p (b ∷ []) h (other k.0 none)))
    (quoted_on b next e)
read_on_lem AfterQuote next p b h e =
    let (quote, is) = after_on b next e in
    let two : Doubled (h.0 ++ 34 ∷ b ∷ []) = doubled_append h.0 (34 ∷ b ∷ []) h.2 (pair refl quote none) in
    let whole : p ++ b ∷ [] ≡ h.0 ++ 34 ∷ b ∷ [] = ap (λ l. l ++ b ∷ []) h.1 ∙ append_assoc h.0 (34 ∷ []) (b ∷ []) in
    subst (λ n. (is_quoted n ≡ true) × Read n (p ++ b ∷ [])) (sym is) (refl, subst Doubled (sym whole) two)

-- the loop's invariant: the first bytes leave the field in the state s
pub record Sofar (start : State) (bs : List ℕ) (at : ℕ) (s : State) : Type 0 where
  pub within : at ≤ length bs
  pub kind : is_quoted s ≡ is_quoted start
  pub read : Read s (take at bs)

module _ {start : State} {bs : List ℕ} {at : ℕ} {s : State} (h : Sofar start bs at s) where
  pub goes_on : (next : State) → at < length bs → On next ≡ step_of s (get_or bs at 0) → Sofar start bs (at + 1) next
  goes_on next lt e =
      let (kind, read) = read_on_lem s next (take at bs) (get_or bs at 0) h.read (sym e) in
      record { within = omega arith; kind = kind ∙ h.kind; read = subst (Read next) (sym (take_more bs at 0 lt)) read }
