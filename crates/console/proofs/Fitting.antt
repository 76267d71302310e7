-- A record that no reason refuses fits its kind: all its fields are kept.
use Rattle.std.proofs.Common.{◌≡◌, ℕ, ◌≤◌, min, Bool, true, false, cond, not, List, length, sym, refl, ◌∙◌, arith}
use Rattle.drafting.specs.Fit.{Fit}
use Rattle.drafting.proofs.Fits.{fits, few}
use Rattle.kinds.specs.Columns.{takes}
use Rattle.kinds.specs.declared.kind.Kind.{Kind}
use Rattle.refusals.specs.declared.answer.Answer.{Answer}
use Rattle.refusals.specs.declared.answer.Answer.TheVariants.{Accepted, Refused}
use Rattle.refusals.specs.declared.refusal.Refusal.{Refusal}
use Rattle.rules.specs.Judging.{first_reason}
use Rattle.sheets.specs.Judging.{record_tests}
use Rattle.sheets.specs.Numbers.{Lists}
use Rattle.tables.specs.declared.draft.Draft.{Draft}

first_passed : (a : Bool) (g : Refusal) (z : Answer) → Accepted ≡ cond (not a) (Refused g) z → a ≡ true
first_passed true g z e = refl
first_passed false g z e = absurd (let z : ◌≡◌ {A = ℕ} 0 1 = cc in omega arith)

min_few : (n : ℕ) → n ≤ 40 → min n 40 ≡ n
min_few n h = omega arith

pub fitting : (ls : Lists) (d : Draft) (k : Kind) (at n : ℕ) (vs : List (List ℕ)) → length vs ≡ min n 40 → Accepted ≡ first_reason (record_tests ls d k at n vs) Accepted → Fit ls d k vs
fitting ls d k at n vs h e =
    let t = first_passed (takes k n) _ _ e in
    fits ls d k at n vs (sym (h ∙ min_few n (few k n t))) e
