-- The line of a refusal, by how many digits its number has.
use Rattle.std.proofs.Common.{◌≡◌, ℕ, ◌+◌, ◌/◌, ◌%◌, ◌<◌, ◌≤◌, List, [], ◌∷◌, ◌++◌, length, drop, Ok, codes, decimal, sym, ap, ◌∙◌, subst, arith}
use Rattle.std.proofs.lemmas.Fmt.{decimal_digit, decimal_step}
use Rattle.refusals.specs.Codes.{code_of}
use Rattle.refusals.specs.declared.answer.Answer.{Answer}
use Rattle.refusals.specs.declared.answer.Answer.TheVariants.{Refused}
use Rattle.refusals.specs.declared.refusal.Refusal.{Refusal}
use Rattle.values.specs.Lines.{line_break, line_of, Written}

two_digits : (n : ℕ) → 10 ≤ n → n < 100 → decimal n ≡ (48 + n / 10) ∷ (48 + n % 10) ∷ []
two_digits n ge lt = decimal_step n ge (omega arith) ∙ ap (λ l. l ++ (48 + n % 10) ∷ []) (decimal_digit (n / 10) (omega arith))

pub code_small : (r : Refusal) → code_of r < 100
code_small r = grind arith

-- n is the refusal's number
module _ (r : Refusal) (n : ℕ) (code : n ≡ code_of r) where
  digits_line : (ds : List ℕ) → ds ≡ decimal n → codes "refused," ++ (ds ++ line_break) ≡ line_of (Refused r)
  digits_line ds is = ap (λ l. codes "refused," ++ (l ++ line_break)) (is ∙ ap decimal code)

  pub line_one : (d : ℕ) → n < 10 → d ≡ 48 + n → codes "refused," ++ (d ∷ line_break) ≡ line_of (Refused r)
  line_one d lt is = digits_line (d ∷ []) (ap (λ x. x ∷ []) is ∙ sym (decimal_digit n lt))

  pub line_two : (d e : ℕ) → 10 ≤ n → d ≡ 48 + n / 10 → e ≡ 48 + n % 10 → codes "refused," ++ (d ∷ e ∷ line_break) ≡ line_of (Refused r)
  line_two d e ge is also = digits_line (d ∷ e ∷ []) ((λ i. is i ∷ also i ∷ []) ∙ sym (two_digits n ge (omega (arith, code_small r))))

pub written : (before after text : List ℕ) (answer : Answer) (r : Refusal) (n : ℕ) → answer ≡ Refused r → 16 ≤ length before → n ≡ length text → after ≡ text ++ drop (length text) before → text ≡ line_of (Refused r) → Written before answer after (Ok n)
written before after text answer r n said long size is same =
    subst (λ a. Written before a after (Ok n)) (sym said)
    (long, size ∙ ap length same, is ∙ ap (λ l. l ++ drop (length text) before) same ∙ ap (λ m. line_of (Refused r) ++ drop m before) (sym size))
