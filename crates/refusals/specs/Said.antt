-- Results as answers.
use Rattle.std.specs.Prelude.{Bool, cond, Ok, Err, Result}
use Rattle.refusals.specs.declared.answer.Answer.{Answer}
use Rattle.refusals.specs.declared.answer.Answer.TheVariants.{Accepted, Granted, Denied, Refused}
use Rattle.refusals.specs.declared.refusal.Refusal.{Refusal}

-- a result as an answer
abbrev pub said : {X : Type 0} → Result X Refusal → Answer
said (Ok x) = Accepted
said (Err g) = Refused g

-- the result of an access check as an answer
abbrev pub told : Result Bool Refusal → Answer
told (Ok b) = cond b Granted Denied
told (Err g) = Refused g
