-- From what is read of a field to the field, or to the byte at fault.
use Rattle.std.proofs.Common.{◌≡◌, ℕ, ◌+◌, ◌-◌, ◌<◌, ◌≤◌, List, [], ◌∷◌, ◌++◌, length, get_or, take, drop, Some, None, Option, Result, sym, refl, ap, ◌∙◌, subst, inl, inr, ⊎_elim, arith, length-append, take-append-drop, Bor}
use Rattle.std.specs.List.{AllByRecursion}
use Rattle.std.proofs.lemmas.List.{drop_at, drop-drop, take_at, take-take, length-take-le, append_assoc, append-nil, get_or_past}
use Rattle.std.proofs.lemmas.Slice.{first_rest}
use Rattle.records.specs.declared.fault.Fault.{Fault}
use Rattle.records.specs.declared.field.Field.{Field}
use Rattle.records.specs.declared.field.Field.TheVariants as field
use Rattle.records.specs.declared.scan.Cut.{Cut}
use Rattle.records.specs.declared.scan.Stop.{Stop}
use Rattle.records.specs.declared.scan.Stop.TheVariants.{Comma, Break, End}
use Rattle.records.specs.declared.scan.State.{State}
use Rattle.records.specs.declared.scan.State.TheVariants.{Bare, Quoted, AfterQuote}
use Rattle.records.specs.declared.scan.Run.{Run}
use Rattle.records.specs.Cuts.{cut_of, CutOf}
use Rattle.records.specs.Grammar.{Plain, Doubled, Writes, Amiss, Faulty, begins_at}
use Rattle.records.specs.Grammar.Faulty.{stray, unclosed, amiss}
use Rattle.records.specs.Steps.{Read, is_quoted, Wrong, Halts, Ran}
use Rattle.records.specs.Views.{piece}

-- what is left behind a word of n bytes
past : (s w rest : List ℕ) (n k : ℕ) → s ≡ w ++ rest → length w ≡ n → drop (n + k) s ≡ drop k rest
past s w rest n k e l = sym (drop-drop k n s) ∙ ap (drop k) (ap (drop n) e ∙ drop_at w rest n l)

module _ (at : ℕ) (s w rest : List ℕ) (f : Field) (st : State) (n : ℕ) (cut : s ≡ w ++ rest) (long : length w ≡ n) (writes : Writes (piece f) w) (first : begins_at (piece f) ≡ at) where
  total : length s ≡ n + length rest
  total = ap length cut ∙ length-append w rest ∙ ap (λ m. m + length rest) long

  place : begins_at (piece f) + length s ≡ at + length s
  place = ap (λ m. m + length s) first

  halted : (h : Option Stop) → Halts h st rest → ((b : ℕ) (t : List ℕ) → rest ≡ b ∷ t → Wrong st b t → Faulty s n) → CutOf at s (cut_of f h n)
  halted (Some Comma) (t, is, out) wrong = (
    omega (arith, total, ap length is),
    record { word = w; rest = rest; cut = cut; writes = writes; behind = is ∙ ap (λ l. 44 ∷ l) (sym (past s w rest n 1 cut long ∙ ap (drop 1) is)); place = place },
  )
  halted (Some Break) (t, is, out) wrong = (
    omega (arith, total, ap length is),
    record { word = w; rest = rest; cut = cut; writes = writes; behind = is ∙ ap (λ l. 13 ∷ 10 ∷ l) (sym (past s w rest n 2 cut long ∙ ap (drop 2) is)); place = place },
  )
  halted (Some End) is wrong = (
    omega (arith, total),
    record { word = w; rest = rest; cut = cut; writes = writes; behind = (is, past s w rest n 0 cut long ∙ is); place = place },
  )
  halted None (b, t, is, bad) wrong = wrong b t is bad

-- ---- a bare field

bare_wrong : (s w rest : List ℕ) (n b : ℕ) (t : List ℕ) → s ≡ w ++ rest → length w ≡ n → AllByRecursion Plain w → (get_or s 0 0 ≡ 34 → ⊥) → rest ≡ b ∷ t → Wrong Bare b t → Faulty s n
bare_wrong s w rest n b t cut long plain bare is bad =
    stray w (b ∷ t) (cut ∙ ap (λ l. w ++ l) is) plain (⊎_elim (λ e. inl (e, some w cut e)) inr bad) (sym long)
  where
    some : (v : List ℕ) → s ≡ v ++ rest → b ≡ 34 → 0 < length v
    some [] c e = absurd (bare (ap (λ l. get_or l 0 0) (c ∙ is) ∙ e))
    some (x ∷ v) c e = omega arith

in_bare : (st : State) → is_quoted st ≡ is_quoted Bare → st ≡ Bare
in_bare Bare e = refl
in_bare Quoted e = grind arith
in_bare AfterQuote e = grind arith

pub bare_field : (at : ℕ) (s : List ℕ) (r : Run) (part : Bor (List ℕ)) (res : Result Cut Fault) → (get_or s 0 0 ≡ 34 → ⊥) → Ran Bare s r → res ≡ cut_of (field.Bare part at) r.stop r.at → part.now ≡ take r.at s → CutOf at s res
bare_field at s r part res bare ran e is =
    let st = in_bare r.state ran.kind in
    let plain : AllByRecursion Plain (take r.at s) = subst (λ x. Read x (take r.at s)) st ran.read in
    let cut : s ≡ take r.at s ++ drop r.at s = sym (take-append-drop r.at s) in
    let long = length-take-le r.at s ran.within in
    subst (CutOf at s) (sym e)
    (halted at s (take r.at s) (drop r.at s) (field.Bare part at) Bare r.at cut long (sym is, subst (AllByRecursion Plain) (sym is) plain) refl r.stop
    (subst (λ x. Halts r.stop x (drop r.at s)) st ran.halts)
    (λ b t behind bad. bare_wrong s (take r.at s) (drop r.at s) r.at b t cut long plain bare behind bad))

-- ---- a quoted field

-- what lies between the quotes
record Between (rest : List ℕ) (at : ℕ) : Type 0 where
  inner : List ℕ
  front : take at rest ≡ inner ++ 34 ∷ []
  size : length inner + 1 ≡ at
  is_inner : take (at - 1) rest ≡ inner
  doubled : Doubled inner

between : (rest : List ℕ) (at : ℕ) → at ≤ length rest → Read AfterQuote (take at rest) → Between rest at
between rest at within (q, front, doubled) =
    let size : length q + 1 ≡ at = sym (length-append q (34 ∷ [])) ∙ sym (ap length front) ∙ length-take-le at rest within in
    record {
      inner = q;
      front = front;
      size = size;
      doubled = doubled;
      is_inner = sym (take-take (at - 1) at rest (omega arith)) ∙ ap (take (at - 1)) front ∙ take_at q (34 ∷ []) (at - 1) (omega arith);
    }

pub closed_some : (rest : List ℕ) (r : Run) → Ran Quoted rest r → r.state ≡ AfterQuote → 1 ≤ r.at
closed_some rest r ran st = omega (arith, (between rest r.at ran.within (subst (λ x. Read x (take r.at rest)) st ran.read)).size)

pub quoted_field : (at : ℕ) (s rest : List ℕ) (r : Run) (part : Bor (List ℕ)) (res : Result Cut Fault) → s ≡ 34 ∷ rest → Ran Quoted rest r → r.state ≡ AfterQuote → res ≡ cut_of (field.Quoted part at) r.stop (r.at + 1) → part.now ≡ take (r.at - 1) rest → CutOf at s res
quoted_field at s rest r part res front ran st e is =
    let in' = between rest r.at ran.within (subst (λ x. Read x (take r.at rest)) st ran.read) in
    let same : part.now ≡ in'.inner = is ∙ in'.is_inner in
    let after = drop r.at rest in
    let w : List ℕ = 34 ∷ (in'.inner ++ 34 ∷ []) in
    let cut : s ≡ w ++ after = front ∙ ap (λ l. 34 ∷ l) (sym (take-append-drop r.at rest) ∙ ap (λ l. l ++ after) in'.front) in
    let whole : s ≡ 34 ∷ (in'.inner ++ 34 ∷ after) = cut ∙ ap (λ l. 34 ∷ l) (append_assoc in'.inner (34 ∷ []) after) in
    let long : length w ≡ r.at + 1 = omega (arith, length-append in'.inner (34 ∷ []), in'.size) in
    subst (CutOf at s) (sym e)
    (halted at s w after (field.Quoted part at) AfterQuote (r.at + 1) cut long (ap (λ l. 34 ∷ (l ++ 34 ∷ [])) (sym same), subst Doubled (sym same) in'.doubled) refl r.stop
    (subst (λ x. Halts r.stop x after) st ran.halts)
    (λ b t behind bad. amiss in'.inner after whole in'.doubled (subst Amiss (sym behind) bad) (omega (arith, in'.size))))

in_quoted : (st : State) → is_quoted st ≡ is_quoted Quoted → (st ≡ AfterQuote → ⊥) → st ≡ Quoted
in_quoted Bare e h = grind arith
in_quoted Quoted e h = refl
in_quoted AfterQuote e h = absurd (h refl)

-- nothing but the text's end halts a reading inside the quotes
to_end : (h : Option Stop) (rest : List ℕ) → Halts h Quoted rest → rest ≡ []
to_end (Some Comma) rest (t, is, out) = absurd (out refl)
to_end (Some Break) rest (t, is, out) = absurd (out refl)
to_end (Some End) rest is = is
to_end None rest (b, t, is, bad) = absurd bad

pub unclosed_field : (s rest : List ℕ) (r : Run) → s ≡ 34 ∷ rest → Ran Quoted rest r → (r.state ≡ AfterQuote → ⊥) → Faulty s (length s)
unclosed_field s rest r front ran not_after =
    let st = in_quoted r.state ran.kind not_after in
    let read : Doubled (take r.at rest) = subst (λ x. Read x (take r.at rest)) st ran.read in
    let none_left = to_end r.stop (drop r.at rest) (subst (λ x. Halts r.stop x (drop r.at rest)) st ran.halts) in
    let all : take r.at rest ≡ rest = sym (append-nil _) ∙ ap (λ l. take r.at rest ++ l) (sym none_left) ∙ take-append-drop r.at rest in
    unclosed rest front (subst Doubled all read) refl

pub quote_first : (s : List ℕ) → 0 < length s → get_or s 0 0 ≡ 34 → s ≡ 34 ∷ take (length s - 1) (drop 1 s)
quote_first s some is = first_rest s 0 some ∙ ap (λ b. b ∷ take (length s - 1) (drop 1 s)) is

pub no_quote : (s : List ℕ) → length s < 1 → get_or s 0 0 ≡ 34 → ⊥
no_quote s h e = omega (arith, e, get_or_past s 0 0 (omega arith))
