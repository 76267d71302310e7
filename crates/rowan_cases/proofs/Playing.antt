-- The cases, by computation.
use Rattle.std.proofs.Common.{◌≡◌, Ok, refl, ap, ◌∙◌}
use Rattle.conditions.specs.Active.{all_hold, active}
use Rattle.lawful.specs.Checking.{checked, first_broken_lem}
use Rattle.rows.specs.Numbers.{bits_of, no_numbers, with_number}
use Rattle.search.specs.Below.{some_below, all_below}
use Rattle.search.specs.Firsts.{first_below, first_pair}
use Rattle.stores.specs.Rows.{row_pairs}
use Rattle.tables.specs.Drafts.{related}
use Rattle.rules.specs.Access.{granted}
use Rattle.rules.specs.Reaching.{reaches_barred_lem}
use Rattle.rules.specs.Spots.{with_spot, without_spot}
use Rattle.rules.specs.States.{opening_pairs, nobody, none_active, with_at, with_active, without_active, without_session, opened}
use Rattle.runs.specs.Runs.{log}
use Rattle.rowan_cases.specs.Cases.{Case, answers_of, opened_or, played, denied_before_assignment, granted_in_the_evening, repeated_assignment, prohibited_pair, kid_would_reach_the_oven, outside_the_task, permission_after_role_pair, role_pair_after_permission, stranger_and_lease_out, opening_with_prohibited_pair, opening_with_overlap, CasesHold}
use Rattle.rowan_cases.specs.House.{rowan}

-- the draft may open
opens : checked rowan ≡ Ok tt
unfolding first_broken_lem first_pair first_below some_below all_below row_pairs related bits_of
opens = refl

-- so a case that opens with it is answered by its calls
ran : (c : Case) → c.opening ≡ rowan → Ok (answers_of (log c.opening (opened c.opening) c.calls)) ≡ c.expected → played c ≡ c.expected
ran c e h = ap (λ r. opened_or r (answers_of (log c.opening (opened c.opening) c.calls))) (ap checked e ∙ opens) ∙ h

-- the other two may not
prohibited_refused : played opening_with_prohibited_pair ≡ opening_with_prohibited_pair.expected
unfolding first_broken_lem first_pair first_below some_below all_below row_pairs related bits_of
prohibited_refused = refl

overlap_refused : played opening_with_overlap ≡ opening_with_overlap.expected
unfolding first_broken_lem first_pair first_below some_below all_below row_pairs related bits_of
overlap_refused = refl

-- one case, and then the rest; pairs in pairs would be laid out as a staircase
follow : {A B : Type 0} → A → B → A × B
follow a b = (a, b)

pub cases_hold_lem : CasesHold
unfolding first_below some_below all_below row_pairs related bits_of no_numbers with_number all_hold active granted reaches_barred_lem with_spot without_spot opening_pairs nobody none_active with_at with_active without_active without_session
cases_hold_lem =
    follow (ran denied_before_assignment refl refl)
    (follow (ran granted_in_the_evening refl refl)
    (follow (ran repeated_assignment refl refl)
    (follow (ran prohibited_pair refl refl)
    (follow (ran kid_would_reach_the_oven refl refl)
    (follow (ran outside_the_task refl refl)
    (follow (ran permission_after_role_pair refl refl)
    (follow (ran role_pair_after_permission refl refl)
    (follow (ran stranger_and_lease_out refl refl)
    (follow prohibited_refused (follow overlap_refused tt))))))))))
