-- What a report leaves.
use Rattle.std.proofs.Common.{◌≡◌, ℕ, ◌<◌, ◌≤◌, Bool, true, false, ◌∙◌, arith}
use mathlib.Core.Path.{fun_ext}
use Rattle.std.proofs.lemmas.Bool.Decides.{nat_tests}
use Rattle.rows.specs.Numbers.{with_number, without_number}
use Rattle.conditions.specs.Limits.{condition_count}
use Rattle.conditions.specs.Sources.{with_report}

-- a condition that is none changes nothing
pub report_out : (s : ℕ → Bool) (n : ℕ) (b : Bool) → condition_count ≤ n → s ≡ with_report s n b
unfolding with_report
report_out s n b h = fun_ext λ k. grind (arith, nat_tests)

pub report_true : (s t : ℕ → Bool) (n : ℕ) (b : Bool) → n < condition_count → b ≡ true → t ≡ with_number s n → t ≡ with_report s n b
unfolding with_report with_number
report_true s t n b h p e = e ∙ fun_ext λ k. grind (arith, nat_tests)

pub report_false : (s t : ℕ → Bool) (n : ℕ) (b : Bool) → n < condition_count → b ≡ false → t ≡ without_number s n → t ≡ with_report s n b
unfolding with_report without_number
report_false s t n b h p e = e ∙ fun_ext λ k. grind (arith, nat_tests)
