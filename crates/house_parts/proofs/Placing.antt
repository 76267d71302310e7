-- Sixteen places: what a change of one leaves.
use Rattle.std.proofs.Common.{◌≡◌, ℕ, ◌<◌, ◌≤◌, Bool, true, false, cond, ◌&&◌, ltb, List, length, map, get_or, set, replicate, is_some, Some, None, Option, Bor, MatchOption, sym, refl, ap, ◌∙◌, ⊎_elim, arith}
use mathlib.Core.Bool.{and-false}
use mathlib.Core.Path.{fun_ext}
use Rattle.std.specs.List.{list_any}
use Rattle.std.specs.Option.{option_copied, option_flatten}
use Rattle.std.specs.Slice.{IsItemAt}
use Rattle.std.proofs.Math.ListN.{get_or-map}
use Rattle.std.proofs.Math.Seq.{map-set_same}
use Rattle.std.proofs.lemmas.List.{get_or-set_same, get_or-set_other, get_or-replicate, map-set, length-map}
use Rattle.std.proofs.lemmas.Bool.{cases_eq, cases_lt, lt-ltb, le-ltb, eq-eqb, ne_eqb}
use Rattle.std.proofs.lemmas.Bool.Decides.{nat_tests}
use Rattle.rows.specs.Numbers.{no_numbers, with_number, without_number}
use Rattle.rows.specs.Rows.{numbers, empty_row}
use Rattle.rows.specs.declared.row.Row.{Row}
use Rattle.rules.specs.States.{nobody, none_active, with_at, with_active, without_active, without_session}
use Rattle.search.specs.Below.{some_below}
use Rattle.search.proofs.Anys.{any_list}
use Rattle.house_parts.specs.Holding.{place_of, rows_of}
use Rattle.house_parts.specs.declared.sessions.Session.{Session}

pub place_in : (users : List (Option ℕ)) (k : ℕ) → k < 16 → get_or users k None ≡ place_of users k
unfolding place_of
place_in users k h = ap (λ b. cond b (get_or users k None) None) (sym (lt-ltb k 16 h))

pub place_out : (users : List (Option ℕ)) (k : ℕ) → 16 ≤ k → None ≡ place_of users k
unfolding place_of
place_out users k h = ap (λ b. cond b (get_or users k None) None) (sym (le-ltb k 16 h))

pub places_none : place_of (replicate 16 None) ≡ nobody
unfolding place_of nobody
places_none = fun_ext λ k. ⊎_elim
    (λ h. ap (λ o. cond (ltb k 16) o None) (get_or-replicate {A = Option ℕ} 16 k None None h) ∙ by (ltb k 16))
    (λ h. ap (λ b. cond b (get_or (replicate 16 None) k None) None) (le-ltb k 16 h))
    (cases_lt k 16)
  where
    by : (b : Bool) → cond {A = Option ℕ} b None None ≡ None
    by true = refl
    by false = refl

pub place_with : (users : List (Option ℕ)) (k : ℕ) (v : Option ℕ) → k < 16 → k < length users → place_of (set users k v) ≡ with_at (place_of users) k v
unfolding place_of with_at
place_with users k v p n = fun_ext λ j. ⊎_elim
    (λ (h : j ≡ k). rw (h, get_or-set_same users k v None n, lt-ltb k 16 p, eq-eqb k k refl))
    (λ (h : j ≡ k → ⊥). rw (get_or-set_other users k j v None h, ne_eqb k j (λ e. h (sym e))))
    (cases_eq j k)

-- nobody is at a place past the last
pub place_kept : (users : List (Option ℕ)) (k : ℕ) → 16 ≤ k → place_of users ≡ with_at (place_of users) k None
unfolding with_at
place_kept users k p = fun_ext λ j. ⊎_elim
    (λ (h : j ≡ k). rw (h, eq-eqb k k refl) (sym (place_out users k p)))
    (λ (h : j ≡ k → ⊥). rw (ne_eqb k j (λ e. h (sym e))))
    (cases_eq j k)

pub row_in : (rows : List Row) (k : ℕ) → k < 16 → numbers (get_or rows k empty_row) ≡ rows_of rows k
unfolding rows_of
row_in rows k h = fun_ext λ r. ap (λ b. b && numbers (get_or rows k empty_row) r) (sym (lt-ltb k 16 h))

pub row_out : (rows : List Row) (k : ℕ) → 16 ≤ k → no_numbers ≡ rows_of rows k
unfolding rows_of no_numbers
row_out rows k h = fun_ext λ r. ap (λ b. b && numbers (get_or rows k empty_row) r) (sym (le-ltb k 16 h))

pub rows_none : (x : Row) → numbers x ≡ no_numbers → rows_of (replicate 16 x) ≡ none_active
unfolding rows_of none_active no_numbers
rows_none x e = fun_ext λ a. fun_ext λ b. ⊎_elim
    (λ h. rw (get_or-replicate 16 a x empty_row h) (ap (λ f. ltb a 16 && f b) e ∙ and-false (ltb a 16)))
    (λ h. ap (λ t. t && numbers (get_or (replicate 16 x) a empty_row) b) (le-ltb a 16 h))
    (cases_lt a 16)

-- Row k gives way to one that holds other numbers.
module _ (rows : List Row) (k r : ℕ) (w : Row) (p : k < 16) (n : k < length rows) where
  here : (a : ℕ) → a ≡ k → get_or (set rows k w) a empty_row ≡ w
  here a e = rw e (get_or-set_same rows k w empty_row n)

  pub rows_with : r < 32 → numbers w ≡ with_number (numbers (get_or rows k empty_row)) r → rows_of (set rows k w) ≡ with_active (rows_of rows) k r
  unfolding rows_of with_active with_number
  rows_with q e = fun_ext λ a. fun_ext λ b. ⊎_elim
      (λ h. let g = ap (λ x. numbers x b) (here a h) in let f = ap (λ s. s b) e in let o = ap (λ x. numbers (get_or rows x empty_row) b) h in grind (arith, nat_tests))
      (λ h. let g = ap (λ x. numbers x b) (get_or-set_other rows k a w empty_row h) in grind (arith, nat_tests))
      (cases_eq a k)

  pub rows_without : numbers w ≡ without_number (numbers (get_or rows k empty_row)) r → rows_of (set rows k w) ≡ without_active (rows_of rows) k r
  unfolding rows_of without_active without_number
  rows_without e = fun_ext λ a. fun_ext λ b. ⊎_elim
      (λ h. let g = ap (λ x. numbers x b) (here a h) in let f = ap (λ s. s b) e in let o = ap (λ x. numbers (get_or rows x empty_row) b) h in grind (arith, nat_tests))
      (λ h. let g = ap (λ x. numbers x b) (get_or-set_other rows k a w empty_row h) in grind (arith, nat_tests))
      (cases_eq a k)

-- Row k gives way to an empty one.
pub rows_cleared : (rows : List Row) (k : ℕ) (w : Row) → k < 16 → k < length rows → numbers w ≡ no_numbers → rows_of (set rows k w) ≡ without_session (rows_of rows) k
unfolding rows_of without_session no_numbers
rows_cleared rows k w p n e = fun_ext λ a. fun_ext λ b. ⊎_elim
    (λ (h : a ≡ k). let q : get_or (set rows k w) a empty_row ≡ w = rw h (get_or-set_same rows k w empty_row n) in let g = ap (λ x. numbers x b) q in let f = ap (λ s. s b) e in grind (arith, nat_tests))
    (λ (h : a ≡ k → ⊥). let g = ap (λ x. numbers x b) (get_or-set_other rows k a w empty_row h) in grind (arith, nat_tests))
    (cases_eq a k)

-- What a look-up at a place finds.
pub holder_got : (users : List (Option ℕ)) (k : ℕ) (o : Option (Bor (Option ℕ))) → length users ≡ 16 → IsItemAt users k o → option_flatten (option_copied o) ≡ place_of users k
holder_got users k None n i = place_out users k (omega (arith, n, i.3))
holder_got users k (Some x) n i = i.3.1 None ∙ place_in users k (omega (arith, n, i.3.0))

-- The sessions: whom they live for, and the roles active in them.
abbrev pub users_in : List Session → List (Option ℕ)
users_in = map (λ x. x.user)

abbrev pub actives_in : List Session → List Row
actives_in = map (λ x. x.active)

abbrev not_live : Session
not_live = record { user = None; active = empty_row }

module _ (sessions : List Session) (k : ℕ) (n : length sessions ≡ 16) where
  pub session_in : (x : Bor Session) → IsItemAt sessions k (Some x) → (x.now.user ≡ place_of (users_in sessions) k) × (numbers x.now.active ≡ rows_of (actives_in sessions) k)
  session_in x i =
      let e = i.3.1 not_live in
      let p : k < 16 = omega (arith, n, i.3.0) in (
        ap (λ y. y.user) e ∙ sym (get_or-map (λ y. y.user) sessions k not_live) ∙ place_in (users_in sessions) k p,
        ap (λ y. numbers y.active) e ∙ ap numbers (sym (get_or-map (λ y. y.active) sessions k not_live)) ∙ row_in (actives_in sessions) k p,
      )

  pub user_got : (o : Option (Bor Session)) (r : Option ℕ) → IsItemAt sessions k o → MatchOption o (r ≡ None) (λ x. r ≡ x.now.user) → r ≡ place_of (users_in sessions) k
  user_got None r i e = e ∙ place_out (users_in sessions) k (omega (arith, n, i.3))
  user_got (Some x) r i e = e ∙ (session_in x i).0

  pub active_out : IsItemAt sessions k None → no_numbers ≡ rows_of (actives_in sessions) k
  active_out i = row_out (actives_in sessions) k (omega (arith, n, i.3))

  -- the session k gives way to another
  module _ (p : k < 16) (w : Session) where
    pub user_set : place_of (users_in (set sessions k w)) ≡ with_at (place_of (users_in sessions)) k w.user
    user_set = ap place_of (map-set (λ y. y.user) sessions k w) ∙ place_with (users_in sessions) k w.user p (rw length-map (omega (arith, n, p)))

    pub user_kept : w.user ≡ (get_or sessions k not_live).user → place_of (users_in (set sessions k w)) ≡ place_of (users_in sessions)
    user_kept e = ap place_of (map-set_same (λ y. y.user) sessions k w not_live e)

    pub roles_cleared : numbers w.active ≡ no_numbers → rows_of (actives_in (set sessions k w)) ≡ without_session (rows_of (actives_in sessions)) k
    roles_cleared e = ap rows_of (map-set (λ y. y.active) sessions k w) ∙ rows_cleared (actives_in sessions) k w.active p (rw length-map (omega (arith, n, p))) e

    pub roles_with : (r : ℕ) → r < 32 → numbers w.active ≡ with_number (numbers (get_or sessions k not_live).active) r → rows_of (actives_in (set sessions k w)) ≡ with_active (rows_of (actives_in sessions)) k r
    roles_with r q e =
        ap rows_of (map-set (λ y. y.active) sessions k w)
        ∙ rows_with (actives_in sessions) k r w.active p (rw length-map (omega (arith, n, p))) q (rw (get_or-map (λ y. y.active) sessions k not_live) e)

    pub roles_without : (r : ℕ) → numbers w.active ≡ without_number (numbers (get_or sessions k not_live).active) r → rows_of (actives_in (set sessions k w)) ≡ without_active (rows_of (actives_in sessions)) k r
    roles_without r e =
        ap rows_of (map-set (λ y. y.active) sessions k w)
        ∙ rows_without (actives_in sessions) k r w.active p (rw length-map (omega (arith, n, p))) (rw (get_or-map (λ y. y.active) sessions k not_live) e)

-- some place is taken
pub place_taken : (users : List (Option ℕ)) → length users ≡ 16 → list_any is_some users ≡ some_below (λ k. is_some (place_of users k)) 16
place_taken users n = any_list is_some users None (λ k. is_some (place_of users k)) 16 n (λ k h. ap is_some (place_in users k h))

pub session_taken : (sessions : List Session) → length sessions ≡ 16 → list_any (λ x. is_some x.user) sessions ≡ some_below (λ k. is_some (place_of (users_in sessions) k)) 16
session_taken sessions n =
    any_list (λ x. is_some x.user) sessions not_live (λ k. is_some (place_of (users_in sessions) k)) 16 n
    (λ k h. ap is_some (sym (get_or-map (λ y. y.user) sessions k not_live) ∙ place_in (users_in sessions) k h))
