-- The active environment roles of a list of entries, by its first and the rest, and in words.
use Rattle.std.proofs.Common.{◌≡◌, ℕ, zero, suc, ◌+◌, ◌<◌, Bool, true, false, cond, not, ◌&&◌, ◌||◌, eqb, ◌⊎◌, List, [], ◌∷◌, ◌++◌, length, get_or, take, Decides, sym, refl, ap, ◌∙◌, inl, inr, ⊎_elim, arith}
use mathlib.Core.Path.{fun_ext}
use Rattle.std.proofs.lemmas.List.{take_more}
use Rattle.std.proofs.lemmas.Bool.{cases_Bool, and_parts, and_from, or_left, or_right, eqb-true, eq-eqb, false≢true}
use Rattle.std.proofs.lemmas.Bool.Decides.{nat_tests, Decides-at, Decides-like, Decides-or}
use Rattle.search.proofs.Somes.{all_decides}
use Rattle.rows.specs.Numbers.{in_row, no_numbers, with_number, within}
use Rattle.rows.proofs.Bits.{bits_below}
use Rattle.rows.specs.Rows.{numbers}
use Rattle.rows.specs.declared.row.Row.{Row}
use Rattle.search.proofs.Ranges.{swap}
use Rattle.tables.specs.declared.parts.Entry.{Entry}
use Rattle.conditions.specs.Active.{all_hold, active, Activates, ActiveByOne, no_entry}
use Rattle.conditions.specs.Limits.{condition_count}

-- all conditions of an entry hold, in words
pub hold_words : (r : Row) (holding : ℕ → Bool) → Decides (all_hold (numbers r) holding) ((c : ℕ) → numbers r c ≡ true → holding c ≡ true)
unfolding all_hold
hold_words r holding = (
  (λ t c w. let f = (all_decides (within (numbers r) holding) condition_count).0 t c (bits_below r.bits c w) in grind (arith, nat_tests)),
  (λ a. (all_decides (within (numbers r) holding) condition_count).1 (λ c _. ⊎_elim
      (λ w. or_right (not (numbers r c)) (holding c) (a c w))
      (λ n. or_left (not (numbers r c)) (holding c) (ap not n))
      (cases_Bool (numbers r c)))),
)

-- the first entry activates k, as a test
first_test : (holding : ℕ → Bool) (e : Entry) (k : ℕ) → Bool
first_test holding e k = all_hold (numbers e.conditions) holding && (in_row e.environment_role && eqb e.environment_role k)

first_words : (holding : ℕ → Bool) (e : Entry) (k : ℕ) → in_row k ≡ true → Decides (first_test holding e k) (Activates holding e k)
unfolding first_test
first_words holding e k v =
    let all = hold_words e.conditions holding in
    let role = e.environment_role in (
      (λ t. let p = and_parts (all_hold (numbers e.conditions) holding) (in_row role && eqb role k) t in
          (eqb-true role k (and_parts (in_row role) (eqb role k) p.1).1, all.0 p.0)),
      (λ a. and_from (all_hold (numbers e.conditions) holding) (in_row role && eqb role k) (all.1 a.1)
          (and_from (in_row role) (eqb role k) (ap in_row a.0 ∙ v) (eq-eqb role k a.0))),
    )

active_at : (holding : ℕ → Bool) (e : Entry) (es : List Entry) (k : ℕ) → active holding (e ∷ es) k ≡ (first_test holding e k || active holding es k)
unfolding active first_test with_number
active_at holding e es k = by (all_hold (numbers e.conditions) holding)
  where
    by : (b : Bool) → cond b (with_number (active holding es) e.environment_role) (active holding es) k ≡ ((b && (in_row e.environment_role && eqb e.environment_role k)) || active holding es k)
    by true = refl
    by false = refl

-- with one entry more at the end
push_at : (holding : ℕ → Bool) (es : List Entry) (e : Entry) (k : ℕ) → active holding (es ++ e ∷ []) k ≡ (first_test holding e k || active holding es k)
push_at holding [] e k = active_at holding e [] k
push_at holding (x ∷ es) e k =
    active_at holding x (es ++ e ∷ []) k
    ∙ ap (λ b. first_test holding x k || b) (push_at holding es e k)
    ∙ swap (first_test holding x k) (first_test holding e k) (active holding es k)
    ∙ ap (λ b. first_test holding e k || b) (sym (active_at holding x es k))

pub active_none : (holding : ℕ → Bool) → active holding [] ≡ no_numbers
unfolding active
active_none holding = refl

-- a turn of a loop over the entries, where the conditions of the entry hold, and where they do not
module _ (holding : ℕ → Bool) (es : List Entry) (i : ℕ) (d : Entry) (h : i < length es) (roles : ℕ → Bool) (so_far : roles ≡ active holding (take i es)) where
  one_more : (k : ℕ) → active holding (take (i + 1) es) k ≡ (first_test holding (get_or es i d) k || roles k)
  one_more k = ap (λ xs. active holding xs k) (take_more es i d h) ∙ push_at holding (take i es) (get_or es i d) k ∙ ap (λ s. first_test holding (get_or es i d) k || s k) (sym so_far)

  pub active_with : (after : ℕ → Bool) → all_hold (numbers (get_or es i d).conditions) holding ≡ true → after ≡ with_number roles (get_or es i d).environment_role → after ≡ active holding (take (i + 1) es)
  unfolding first_test with_number
  active_with after t e = e ∙ fun_ext λ k. sym (one_more k ∙ ap (λ b. (b && (in_row (get_or es i d).environment_role && eqb (get_or es i d).environment_role k)) || roles k) t)

  pub active_same : (after : ℕ → Bool) → all_hold (numbers (get_or es i d).conditions) holding ≡ false → after ≡ roles → after ≡ active holding (take (i + 1) es)
  unfolding first_test
  active_same after f e = e ∙ fun_ext λ k. sym (one_more k ∙ ap (λ b. (b && (in_row (get_or es i d).environment_role && eqb (get_or es i d).environment_role k)) || roles k) f)

-- an entry of the list is its first or one of the rest
first_or_rest : (P : Entry → Type 0) (e : Entry) (es : List Entry) (i : ℕ) → i < length (e ∷ es) → P (get_or (e ∷ es) i no_entry)
    → P e ⊎ ((j : ℕ) × (j < length es) × P (get_or es j no_entry))
first_or_rest P e es zero h a = inl a
first_or_rest P e es (suc i) h a = inr (i, omega arith, a)

pub active_words : (holding : ℕ → Bool) (es : List Entry) → ActiveByOne holding es (active holding es)
unfolding active no_numbers
active_words holding [] = λ k v. ((λ e. absurd (false≢true e)), (λ w. absurd (omega (arith, w.1))))
active_words holding (e ∷ es) = λ k v.
    Decides-at (active holding (e ∷ es) k) (first_test holding e k || active holding es k) (active_at holding e es k)
    (Decides-like (first_test holding e k || active holding es k)
    (⊎_elim (λ a. (0, omega arith, a)) (λ w. (suc w.0, omega (arith, w.1), w.2)))
    (λ w. first_or_rest (λ x. Activates holding x k) e es w.0 w.1 w.2)
    (Decides-or (first_test holding e k) (active holding es k) (first_words holding e k v) (active_words holding es k v)))

pub words_of : (holding : ℕ → Bool) (es : List Entry) (roles : ℕ → Bool) → roles ≡ active holding es → ActiveByOne holding es roles
words_of holding es roles e = λ k v. Decides-at (roles k) (active holding es k) (ap (λ s. s k) e) (active_words holding es k v)
