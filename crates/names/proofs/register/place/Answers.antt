use Rattle.std.proofs.Common.{sym, ◌∙◌}
use Rattle.names.proofs.Places.{place_bad, place_name}
use Rattle.names.proofs.register.place.Goals as goal

pub returns-in_err-name : goal.returns-in_err-name
returns-in_err-name c = c.from_residual.ensures ∙ sym (place_bad _ _ c.in_err-name.ensures)

pub returns-in_err-index : goal.returns-in_err-index
returns-in_err-index c =
    c.from_residual-in_err-index.ensures ∙ c.in_err-index.ensures.place ∙ place_name _ c.in_ok-name.name _ c.in_ok-name.ensures.1

pub returns : goal.returns
returns c = c.in_ok-index.ensures.place ∙ place_name _ c.in_ok-name.name _ c.in_ok-name.ensures.1
