-- Answers that are not accepted, and openings that are refused.
use Rattle.std.proofs.Common.{◌≡◌, false, cond, is_ok, Ok, Err, Result, sym, refl, ap}
use Rattle.refusals.specs.Said.{said}
use Rattle.house.specs.Views.{opening}
use Rattle.refusals.specs.declared.answer.Answer.{Answer}
use Rattle.refusals.specs.declared.answer.Answer.TheVariants.{Accepted}
use Rattle.refusals.specs.declared.refusal.Refusal.{Refusal}
use Rattle.tables.specs.declared.draft.Draft.{Draft}
use Rattle.console.specs.Boxes.{Box}
use Rattle.console.specs.Recording.{opening_box}

pub not_ok : {X : Type 0} (a : Answer) (r : Result X Refusal) → a ≡ said r → (a ≡ Accepted → ⊥) → is_ok r ≡ false
not_ok a (Ok x) e n = absurd (n e)
not_ok a (Err g) e n = refl

-- the draft of the box after an opening with the draft d that is refused
pub kept_draft : (b : Box) (d : Draft) → is_ok (opening b.site.state d) ≡ false → b.draft ≡ (opening_box b d).draft
kept_draft b d e = ap (λ t. cond t d b.draft) (sym e)
