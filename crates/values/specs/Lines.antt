-- The line of each answer.
use Rattle.std.specs.Prelude.{◌≡◌, ℕ, ◌<◌, ◌≤◌, List, [], ◌∷◌, ◌++◌, length, drop, Ok, Err, codes, decimal, Result}
use Rattle.refusals.specs.Codes.{code_of}
use Rattle.refusals.specs.declared.answer.Answer.{Answer}
use Rattle.refusals.specs.declared.answer.Answer.TheVariants.{Accepted, Granted, Denied, Refused}
use Rattle.refusals.specs.declared.refusal.Refusal.{Refusal}
use Rattle.refusals.specs.declared.refusal.Refusal.TheVariants.{LineTooShort}

-- CR and LF
abbrev pub line_break : List ℕ
line_break = 13 ∷ 10 ∷ []

-- the words of the answers, each with a line break; a refusal says its number
abbrev pub line_of : Answer → List ℕ
line_of Accepted = codes "ok" ++ line_break
line_of Granted = codes "grant" ++ line_break
line_of Denied = codes "deny" ++ line_break
line_of (Refused r) = codes "refused," ++ (decimal (code_of r) ++ line_break)

-- What becomes of a line that is provided: the answer's line stands at its front, and the bytes behind it stay;
-- or refusal 1 where it has fewer than 16 bytes, and all of them stay.
abbrev pub Written : List ℕ → Answer → List ℕ → Result ℕ Refusal → Type 0
Written before answer after (Ok n) = (16 ≤ length before) × (n ≡ length (line_of answer)) × (after ≡ line_of answer ++ drop n before)
Written before answer after (Err e) = (length before < 16) × (e ≡ LineTooShort) × (after ≡ before)
