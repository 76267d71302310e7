-- The next line break, found among the pairs of neighbouring bytes.
use Rattle.std.proofs.Common.{◌≡◌, ℕ, ◌+◌, ◌-◌, ◌<◌, ◌≤◌, List, [], ◌∷◌, length, get_or, take, drop, Bor, Some, None, Option, MatchOption, sym, refl, ap, ◌∙◌, subst, arith}
use Rattle.std.specs.declared.slice.Windows.{Windows}
use Rattle.std.specs.Iterator.{Yields, YieldsThen}
use Rattle.std.specs.List.{FoldsTo}
use Rattle.std.specs.Slice.Iter.{windows_rest, windows_size, windows_steps}
use Rattle.std.proofs.lemmas.List.{drop-drop, drop_all, take_rest}
use Rattle.std.proofs.lemmas.Bool.Decides.{nat_tests}
use Rattle.records.specs.Grammar.{after_break}

abbrev pub IsBreak : List ℕ → Type 0
IsBreak w = w ≡ 13 ∷ 10 ∷ []

no_break : (l w : List ℕ) → 2 ≤ length l → w ≡ take 2 l → (IsBreak w → ⊥) → after_break (drop 1 l) ≡ after_break l
no_break [] w h e none = absurd (omega arith)
no_break (b ∷ []) w h e none = absurd (omega arith)
no_break (b ∷ c ∷ t) w h e none =
    let no : b ≡ 13 → c ≡ 10 → ⊥ = λ x y. none (e ∙ (λ i. x i ∷ y i ∷ [])) in
    grind (arith, nat_tests)

at_break : (l w : List ℕ) → 2 ≤ length l → w ≡ take 2 l → IsBreak w → drop 2 l ≡ after_break l
at_break [] w h e is = absurd (omega arith)
at_break (b ∷ []) w h e is = absurd (omega arith)
at_break (b ∷ c ∷ t) w h e is =
    let cr : b ≡ 13 = ap (λ l. get_or l 0 0) (sym e ∙ is) in
    let lf : c ≡ 10 = ap (λ l. get_or l 1 0) (sym e ∙ is) in
    grind (arith, nat_tests)

too_few : (l : List ℕ) → length l < 2 → [] ≡ after_break l
too_few [] h = refl
too_few (b ∷ []) h = grind (arith, nat_tests)
too_few (b ∷ c ∷ t) h = absurd (omega arith)

-- No: a call of the test on a pair answers no. Yes: it answers yes.
module _ {F : Type 0} {No Yes : F → Bor (List ℕ) → F → Type 0} (no : (p q : F) (w : Bor (List ℕ)) → No p w q → IsBreak w.now → ⊥) (yes : (p q : F) (w : Bor (List ℕ)) → Yes p w q → IsBreak w.now) where
  -- pairs that are no line break
  passed : (ws : List (Bor (List ℕ))) (s t : Windows ℕ) (p q : F) → windows_size s ≡ 2 → Yields windows_steps s ws t → FoldsTo No p ws q → (windows_size t ≡ 2) × (windows_rest t ≡ drop (length ws) (windows_rest s)) × (after_break (windows_rest t) ≡ after_break (windows_rest s))
  passed [] s t p q two y f = (ap windows_size (sym y) ∙ two, ap windows_rest (sym y), ap (λ x. after_break (windows_rest x)) (sym y))
  passed (w ∷ ws) s t p q two (j, step, y) (o, r, f) =
      let (size, (many, is, rest, _)) = step in
      let (two_left, left, same) = passed ws j t o q (size ∙ two) y f in
      let l = windows_rest s in
      let one : 1 + length ws ≡ length (w ∷ ws) = omega arith in (
        two_left,
        left ∙ ap (drop (length ws)) rest ∙ drop-drop (length ws) 1 l ∙ ap (λ n. drop n l) one,
        same ∙ ap after_break rest ∙ no_break l w.now (omega arith) (is ∙ ap (λ n. take n l) two) (no p o w r),
      )

  -- the place of the first pair to which the test answers yes
  abbrev pub FirstPair : Windows ℕ → Windows ℕ → Option ℕ → F → Type 0
  FirstPair s u r p = (ws : List (Bor (List ℕ))) × (o : Option (Bor (List ℕ))) × (q : F) × YieldsThen windows_steps s ws o u × FoldsTo No p ws q × MatchOption o (r ≡ None) (λ w. (r ≡ Some (length ws)) × ((h : F) × Yes q w h))

  first_break : (s u : Windows ℕ) (r : Option ℕ) (p : F) → windows_size s ≡ 2 → FirstPair s u r p → MatchOption r ([] ≡ after_break (windows_rest s)) (λ n. drop (n + 2) (windows_rest s) ≡ after_break (windows_rest s))
  first_break s u r p two (ws, None, q, (t, y, last), f, is) =
      let (two_left, left, same) = passed ws s t p q two y f in
      subst (λ x. MatchOption x ([] ≡ after_break (windows_rest s)) (λ n. drop (n + 2) (windows_rest s) ≡ after_break (windows_rest s))) (sym is) (too_few (windows_rest t) (omega (arith, last.1.0)) ∙ same)
  first_break s u r p two (ws, Some w, q, (t, y, last), f, (is, told)) =
      let (two_left, left, same) = passed ws s t p q two y f in
      subst (λ x. MatchOption x ([] ≡ after_break (windows_rest s)) (λ n. drop (n + 2) (windows_rest s) ≡ after_break (windows_rest s))) (sym is)
      (sym (drop-drop 2 (length ws) (windows_rest s)) ∙ ap (drop 2) (sym left) ∙ at_break (windows_rest t) w.now (omega (arith, last.1.0)) (last.1.1 ∙ ap (λ n. take n (windows_rest t)) two_left) (yes q told.0 w told.1) ∙ same)

  -- the same of a text from a place on
  pub break_behind : (text : List ℕ) (from : ℕ) (s u : Windows ℕ) (r : Option ℕ) (p : F) → windows_rest s ≡ take (length text - from) (drop from text) → windows_size s ≡ 2 → FirstPair s u r p → MatchOption r (drop (length text) text ≡ after_break (drop from text)) (λ n. drop (from + n + 2) text ≡ after_break (drop from text))
  break_behind text from s u r p rest two ran = told r (first_break s u r p two ran)
    where
      left : windows_rest s ≡ drop from text
      left = rest ∙ take_rest text from

      told : (r : Option ℕ) → MatchOption r ([] ≡ after_break (windows_rest s)) (λ n. drop (n + 2) (windows_rest s) ≡ after_break (windows_rest s)) → MatchOption r (drop (length text) text ≡ after_break (drop from text)) (λ n. drop (from + n + 2) text ≡ after_break (drop from text))
      told None h = drop_all _ text (omega arith) ∙ h ∙ ap after_break left
      told (Some n) h =
          let on : from + (n + 2) ≡ from + n + 2 = omega arith in
          ap (λ k. drop k text) (sym on) ∙ sym (drop-drop (n + 2) from text) ∙ ap (drop (n + 2)) (sym left) ∙ h ∙ ap after_break left
