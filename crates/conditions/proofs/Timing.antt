-- The windows of a clock, by condition, and what a new window leaves.
use Rattle.std.proofs.Common.{Some, None, Option, ◌≡◌, ℕ, zero, suc, ◌<◌, ◌≤◌, Bool, true, false, cond, ◌&&◌, eqb, List, length, get_or, set, replicate, sym, refl, ap, ◌∙◌, ⊎_elim, arith}
use mathlib.Core.Path.{fun_ext}
use denote.Ref.{Bor}
use Rattle.std.specs.Option.{MatchOption}
use Rattle.std.specs.Slice.{IsItemAt}
use Rattle.std.proofs.lemmas.List.{get_or-set_same, get_or-set_other, get_or_default}
use Rattle.std.proofs.lemmas.Bool.{cases_eq, cases_Bool, lt-ltb, le-ltb, eq-eqb, ne_eqb, cond-true, cond-false, and_from, and_right}
use Rattle.std.proofs.lemmas.Bool.Decides.{nat_tests}
use Rattle.rows.specs.Numbers.{no_numbers}
use Rattle.conditions.specs.Clocks.{window, no_windows, windows_in, timed_at, with_window}
use Rattle.conditions.specs.Limits.{condition_count, is_condition, is_window}
use Rattle.conditions.specs.Windows.{in_window, InWindow}
use Rattle.conditions.specs.declared.window.Window.{Window}

-- the window of a condition, and of any other number
pub window_at : (ws : List Window) (k : ℕ) → k < condition_count → windows_in ws k ≡ get_or ws k (window 0 0)
unfolding windows_in
window_at ws k h = cond-true (is_condition k) _ _ (lt-ltb k condition_count h)

pub window_past : (ws : List Window) (k : ℕ) → condition_count ≤ k → windows_in ws k ≡ window 0 0
unfolding windows_in
window_past ws k h = cond-false (is_condition k) _ _ (le-ltb k condition_count h)

-- empty windows
same_all : (n k : ℕ) (w : Window) → get_or (replicate n w) k w ≡ w
same_all zero k w = refl
same_all (suc n) zero w = refl
same_all (suc n) (suc k) w = same_all n k w

pub windows_none : windows_in (replicate condition_count (window 0 0)) ≡ no_windows
unfolding windows_in no_windows
windows_none = fun_ext λ k. ⊎_elim
    (λ t. cond-true (is_condition k) _ _ t ∙ same_all condition_count k (window 0 0))
    (λ f. cond-false (is_condition k) _ _ f)
    (cases_Bool (is_condition k))

pub timed_none : (m : ℕ) → timed_at m no_windows ≡ no_numbers
unfolding timed_at no_windows no_numbers
timed_none m = fun_ext λ k. refl

-- a call with a number out of range changes no window
pub window_refused : (ws : ℕ → Window) (n from to : ℕ) → (is_condition n && is_window from to) ≡ false → ws ≡ with_window ws n from to
unfolding with_window
window_refused ws n from to e = fun_ext λ k. sym (ap (λ b. cond (b && eqb n k) (window from to) (ws k)) e)

-- any other changes the one of its condition
module _ (ws : List Window) (n from to : ℕ) (l : length ws ≡ condition_count) (h : n < condition_count) (e : (is_condition n && is_window from to) ≡ true) where
  here : (k : ℕ) → n ≡ k → windows_in (set ws n (window from to)) k ≡ window from to
  here k q = window_at (set ws n (window from to)) k (omega arith) ∙ rw (← q) (get_or-set_same ws n (window from to) (window 0 0) (omega arith))

  there : (k : ℕ) → (n ≡ k → ⊥) → windows_in (set ws n (window from to)) k ≡ windows_in ws k
  unfolding windows_in
  there k q = ap (λ w. cond (is_condition k) w (window 0 0)) (get_or-set_other ws n k (window from to) (window 0 0) (λ p. q (sym p)))

  pub window_set : windows_in (set ws n (window from to)) ≡ with_window (windows_in ws) n from to
  unfolding with_window
  window_set = fun_ext λ k. ⊎_elim
      (λ q. here k q ∙ sym (cond-true ((is_condition n && is_window from to) && eqb n k) _ _ (and_from _ _ e (eq-eqb n k q))))
      (λ q. there k q ∙ sym (cond-false ((is_condition n && is_window from to) && eqb n k) _ _ (and_right _ _ (ne_eqb n k q))))
      (cases_eq n k)

-- what the answer to a minute says in words
pub window_words : (m from to : ℕ) (r : Bool) → r ≡ in_window m from to → InWindow m from to r
window_words m from to r e = record { plain = λ h. (λ t. grind (arith, nat_tests), λ t. grind (arith, nat_tests)); across = λ h. (λ t. grind (arith, nat_tests), λ t. grind (arith, nat_tests)); never = λ h. grind (arith, nat_tests) }

-- the answer to a number that is no condition, and to one that is
pub timed_past : (m : ℕ) (ws : List Window) (k : ℕ) (r : Bool) → condition_count ≤ k → r ≡ false → r ≡ timed_at m (windows_in ws) k
unfolding timed_at
timed_past m ws k r h e = e ∙ sym (ap (λ (w : Window). in_window m w.from w.to) (window_past ws k h))

pub timed_in : (m : ℕ) (ws : List Window) (k : ℕ) (d : Window) (r : Bool) → length ws ≡ condition_count → k < condition_count → r ≡ in_window m (get_or ws k d).from (get_or ws k d).to → r ≡ timed_at m (windows_in ws) k
unfolding timed_at
timed_in m ws k d r l h e =
    e ∙ ap (λ (w : Window). in_window m w.from w.to) (get_or_default ws k d (window 0 0) (omega arith) ∙ sym (window_at ws k h))

-- the answer by the window that is found
pub timed_get : (m : ℕ) (ws : List Window) (k : ℕ) (found : Option (Bor Window)) (r : Bool) → length ws ≡ condition_count → IsItemAt ws k found
    → MatchOption found (r ≡ false) (λ w. r ≡ in_window m w.now.from w.now.to) → r ≡ timed_at m (windows_in ws) k
timed_get m ws k None r l g e = timed_past m ws k r (omega (arith, g.3)) e
timed_get m ws k (Some w) r l g e = timed_in m ws k w.now r l (omega (arith, g.3.0)) (e ∙ ap (λ (x : Window). in_window m x.from x.to) g.1)

pub timed_words : (m : ℕ) (ws : ℕ → Window) (k : ℕ) (r : Bool) → r ≡ timed_at m ws k → InWindow m (ws k).from (ws k).to r
unfolding timed_at
timed_words m ws k r e = window_words m (ws k).from (ws k).to r e
