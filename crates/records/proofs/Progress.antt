-- A line takes at least one byte, and a cursor that goes over it goes ahead.
use Rattle.std.proofs.Common.{◌≡◌, ℕ, ◌+◌, ◌<◌, ◌≤◌, ◌&&◌, eqb, ◌⊎◌, List, [], ◌∷◌, ◌++◌, length, get_or, drop, Some, Ok, Err, Result, sym, refl, ap, ◌∙◌, subst, inl, inr, ⊎_elim, arith, length-append, length-drop}
use Rattle.std.proofs.lemmas.List.{append_assoc, append-nil, drop_all, length_push}
use Rattle.std.proofs.lemmas.Bool.{cond_both, cases_lt}
use Rattle.refusals.specs.declared.refusal.Refusal.{Refusal}
use Rattle.records.specs.declared.field.Field.{Field}
use Rattle.records.specs.declared.record.Record.{Record}
use Rattle.records.specs.declared.scan.Stop.{Stop}
use Rattle.records.specs.declared.scan.Stop.TheVariants.{Comma, Break, End}
use Rattle.records.specs.Grammar.{Piece, Opens, Behind, Commas, Whole, Broken, after_break}
use Rattle.records.specs.Readings.{Line, Reads, Lines}
use Rattle.records.specs.Readings.Line.{fields, fault}
use Rattle.records.specs.Views.{Goes, Gives}
use Rattle.records.proofs.Recording.{comma_less}

behind_shorter : (stop : Stop) (rest after : List ℕ) → Behind stop rest after → (length after ≤ length rest) × (length rest ≤ length after → length rest ≡ 0)
behind_shorter Comma rest after e = omega (arith, ap length e)
behind_shorter Break rest after e = omega (arith, ap length e)
behind_shorter End rest after (e, f) = omega (arith, ap length e, ap length f)

module _ {n : ℕ} {s : List ℕ} {f : Piece} {stop : Stop} {after : List ℕ} (o : Opens n s f stop after) where
  opens_within : length after ≤ length s
  opens_within = omega (arith, (behind_shorter stop o.rest after o.behind).0, ap length o.cut ∙ length-append o.word o.rest)

  opens_less : 0 < length s → length after < length s
  opens_less some =
      ⊎_elim (λ h. h)
      (λ h. omega (arith, (behind_shorter stop o.rest after o.behind).0, (behind_shorter stop o.rest after o.behind).1, ap length o.cut ∙ length-append o.word o.rest))
      (cases_lt (length after) (length s))

commas_less : (n : ℕ) (s t : List ℕ) (gs : List Piece) → Commas n s gs t → (length t ≤ length s) × (0 < length gs → length t < length s)
commas_less n s t [] e = omega (arith, ap length e)
commas_less n s t (g ∷ gs) (u, o, more) = omega (arith, comma_less o, (commas_less n u t gs more).0)

break_within : (s : List ℕ) → (length (after_break s) ≤ length s) × ((length s ≡ 0) ⊎ (length (after_break s) < length s))
break_within [] = (omega arith, inl refl)
break_within (b ∷ t) =
    let more = break_within t in
    let less : length (after_break (b ∷ t)) ≤ length t = cond_both (eqb b 13 && eqb (get_or t 0 0) 10) (drop 1 t) (after_break t) (λ x. length x ≤ length t) (λ _. omega (arith, length-drop 1 t)) (λ _. more.0) in
    (omega arith, inr (omega arith))

pub whole_less : {n : ℕ} {s : List ℕ} {fs : List Piece} {after : List ℕ} → Whole n s fs after → 0 < length s → length after < length s
whole_less {n = n} {s = s} {after = after} w some = go w.before w.front
  where
    go : (gs : List Piece) → Commas n s gs w.rest → length after < length s
    go [] e = omega (arith, opens_less w.ends, ap length e)
    go (g ∷ gs) c = omega (arith, (commas_less n s w.rest (g ∷ gs) c).1 (omega arith), opens_within w.ends)

pub broken_less : {n : ℕ} {s : List ℕ} {bad : ℕ} {after : List ℕ} → Broken n s bad after → 0 < length s → length after < length s
broken_less {n = n} {s = s} b some =
    let tail = drop b.offset b.rest in
    omega (arith, ap length b.onward, (break_within tail).0, (break_within tail).1, length-drop b.offset b.rest, (commas_less n s b.rest b.before b.front).0)

pub reads_less : (n : ℕ) (s : List ℕ) (l : Line) (after : List ℕ) → Reads n s l after → 0 < length s → length after < length s
reads_less n s (fields at fs next) after r some = whole_less r.2 some
reads_less n s (fault at bad next) after r some = broken_less r.2 some

-- ---- what a cursor goes over

module _ (text : List ℕ) (at next : ℕ) (more : at < length text) (within : next ≤ length text) where
  here : at + length (drop at text) ≡ length text
  here = omega (arith, length-drop at text)

  there : next + length (drop next text) ≡ length text
  there = omega (arith, length-drop next text)

  goes : (l : Line) → Reads (length text) (drop at text) l (drop next text) → Goes text at next l
  goes l reads = record { more = more; ahead = omega (arith, reads_less (length text) (drop at text) l (drop next text) reads (omega (arith, length-drop at text)), length-drop at text, length-drop next text); within = within; reads = reads }

  pub over_record : (fs : List Piece) → Whole (length text) (drop at text) fs (drop next text) → Goes text at next (fields at fs next)
  over_record fs w = goes (fields at fs next) (here, there, w)

  pub over_fault : (bad : ℕ) (after : List ℕ) → Broken (length text) (drop at text) bad after → drop next text ≡ after → Goes text at next (fault at bad next)
  over_fault bad after b is = goes (fault at bad next) (here, there, subst (Broken (length text) (drop at text) bad) (sym is) b)

-- ---- the lines gone over so far

-- the lines ls, and those of what is left at a place, are the lines of the text
abbrev pub Sofar : List ℕ → ℕ → ℕ → Type 0
Sofar text at count = (ls : List Line) × (count ≡ length ls) × ((ms : List Line) → Lines (length text) (drop at text) ms → Lines (length text) text (ls ++ ms))

pub line_given : (text : List ℕ) (at next : ℕ) (kept : List Field) (x : Result Record Refusal) → Gives text at next kept (Some x) → (l : Line) × Goes text at next l
line_given text at next kept (Ok r) g = (fields at g.2.0 next, g.2.2)
line_given text at next kept (Err e) g = (fault at g.0 next, g.2)

pub none_yet : (text : List ℕ) → Sofar text 0 0
none_yet text = ([], refl, λ ms h. h)

pub one_line_more : (text : List ℕ) (at next count : ℕ) (l : Line) → Goes text at next l → Sofar text at count → Sofar text next (count + 1)
one_line_more text at next count l g (ls, size, rest) = (
  ls ++ l ∷ [],
  omega (arith, length_push ls l),
  λ ms h. subst (Lines (length text) text) (sym (append_assoc ls (l ∷ []) ms)) (rest (l ∷ ms) (omega (arith, g.more, length-drop at text), (drop next text, g.reads, h))),
)

pub all_lines : (text : List ℕ) (at count : ℕ) → length text ≤ at → Sofar text at count → (ls : List Line) × Lines (length text) text ls × (count ≡ length ls)
all_lines text at count end (ls, size, rest) = (ls, subst (Lines (length text) text) (append-nil ls) (rest [] (drop_all at text end)), size)
