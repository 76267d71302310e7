-- Every text has a reading: first how far a field goes, then a field or a fault, then a record, then the whole.
use Rattle.std.proofs.Common.{◌≡◌, ℕ, zero, suc, ◌+◌, ◌-◌, ◌<◌, ◌≤◌, ◌⊎◌, List, [], ◌∷◌, ◌++◌, length, get_or, drop, sym, refl, ap, ◌∙◌, subst, inl, inr, ⊎_elim, arith}
use Rattle.std.specs.List.{AllByRecursion}
use Rattle.std.proofs.lemmas.List.{append_assoc}
use Rattle.std.proofs.lemmas.Bool.{cases_eq}
use Rattle.records.specs.declared.scan.Stop.{Stop}
use Rattle.records.specs.declared.scan.Stop.TheVariants.{Comma, Break, End}
use Rattle.records.specs.Grammar.{Piece, Plain, Doubled, Behind, Opens, Stray, Amiss, Faulty, Whole, Broken, after_break}
use Rattle.records.specs.Grammar.Piece.{bare, quoted}
use Rattle.records.specs.Grammar.Doubled.{none, other, pair}
use Rattle.records.specs.Grammar.Faulty.{stray, unclosed, amiss}
use Rattle.records.specs.Readings.{Line, Reads, Lines, EveryTextHasOneReading}
use Rattle.records.specs.Readings.Line.{fields, fault}
use Rattle.records.proofs.OneReading.{lines_one}
use Rattle.records.proofs.Progress.{whole_less, broken_less}
use Rattle.records.proofs.Recording.{comma_less}
use Rattle.records.proofs.Scans.{Outcome, Halted, Scan}
use Rattle.records.proofs.Scans.Outcome.{plain, closed, unended}

-- ---- how far a field goes

-- a byte is plain, or one of the four that are not
abbrev Special : ℕ → Type 0
Special b = (b ≡ 44) ⊎ ((b ≡ 34) ⊎ ((b ≡ 13) ⊎ (b ≡ 10)))

told : (b : ℕ) → Plain b ⊎ Special b
told b =
    ⊎_elim (λ e. inr (inl e)) (λ not_comma.
    ⊎_elim (λ e. inr (inr (inl e))) (λ not_quote.
    ⊎_elim (λ e. inr (inr (inr (inl e)))) (λ not_cr.
    ⊎_elim (λ e. inr (inr (inr (inr e)))) (λ not_lf. inl (not_comma, not_quote, not_cr, not_lf))
    (cases_eq b 10)) (cases_eq b 13)) (cases_eq b 34)) (cases_eq b 44)

not_plain : (b : ℕ) → Special b → Plain b → ⊥
not_plain b (inl e) p = p.0 e
not_plain b (inr (inl e)) p = p.1 e
not_plain b (inr (inr (inl e))) p = p.2 e
not_plain b (inr (inr (inr e))) p = p.3 e

record Span (s : List ℕ) : Type 0 where
  front : List ℕ
  rest : List ℕ
  cut : s ≡ front ++ rest
  all : AllByRecursion Plain front
  halted : Halted rest

span : (s : List ℕ) → Span s
span [] = record { front = []; rest = []; cut = refl; all = tt; halted = tt }
span (b ∷ t) =
    ⊎_elim
    (λ p. let m = span t in record { front = b ∷ m.front; rest = m.rest; cut = ap (λ l. b ∷ l) m.cut; all = (p, m.all); halted = m.halted })
    (λ x. record { front = []; rest = b ∷ t; cut = refl; all = tt; halted = not_plain b x })
    (told b)

-- inside quotes: they are never closed, or they are, and no quote follows
abbrev Inside : List ℕ → Type 0
Inside t = Doubled t ⊎ ((p : List ℕ) × (rest : List ℕ) × (t ≡ p ++ 34 ∷ rest) × Doubled p × (get_or rest 0 0 ≡ 34 → ⊥))

inside_other : (b : ℕ) (t : List ℕ) → (b ≡ 34 → ⊥) → Inside t → Inside (b ∷ t)
inside_other b t ne (inl d) = inl (other ne d)
inside_other b t ne (inr (p, rest, cut, d, end)) = inr (b ∷ p, rest, ap (λ l. b ∷ l) cut, other ne d, end)

inside_pair : (b c : ℕ) (t : List ℕ) → b ≡ 34 → c ≡ 34 → Inside t → Inside (b ∷ c ∷ t)
inside_pair b c t e f (inl d) = inl (pair e f d)
inside_pair b c t e f (inr (p, rest, cut, d, end)) = inr (b ∷ c ∷ p, rest, ap (λ l. b ∷ c ∷ l) cut, pair e f d, end)

-- what is left inside quotes, and the same behind one more quote
inside_both : (t : List ℕ) → Inside t × Inside (34 ∷ t)
inside_both [] = (inl none, inr ([], [], refl, none, λ e. omega arith))
inside_both (b ∷ t) =
    let m = inside_both t in
    ⊎_elim {C = Inside (b ∷ t) × Inside (34 ∷ b ∷ t)}
    (λ e. (subst (λ x. Inside (x ∷ t)) (sym e) m.1, inside_pair 34 b t refl e m.0))
    (λ ne. (inside_other b t ne m.0, inr ([], b ∷ t, refl, none, ne)))
    (cases_eq b 34)

scan_inside : (t : List ℕ) → Inside t → (o : Outcome) × Scan (34 ∷ t) o
scan_inside t (inl d) = (unended t, (refl, d))
scan_inside t (inr (p, rest, cut, d, end)) = (closed p rest, (ap (λ l. 34 ∷ l) cut, d, end))

scan_some : (s : List ℕ) → (o : Outcome) × Scan s o
scan_some [] = (plain [] [], (refl, tt, tt, λ e. omega arith))
scan_some (b ∷ t) =
    ⊎_elim {C = (o : Outcome) × Scan (b ∷ t) o}
    (λ e. subst (λ x. (o : Outcome) × Scan (x ∷ t) o) (sym e) (scan_inside t (inside_both t).0))
    (λ ne. let m = span (b ∷ t) in (plain m.front m.rest, (m.cut, m.all, m.halted, ne)))
    (cases_eq b 34)

-- ---- a field or a fault

-- what stands behind a field ends it, or is another byte
abbrev Ends : List ℕ → Type 0
Ends rest = (stop : Stop) × (after : List ℕ) × Behind stop rest after

-- a CR that an LF follows, or one that none follows
after_cr : (t : List ℕ) → ((u : List ℕ) × (t ≡ 10 ∷ u)) ⊎ (get_or t 0 0 ≡ 10 → ⊥)
after_cr [] = inr (λ e. omega arith)
after_cr (c ∷ u) = ⊎_elim (λ e. inl (u, ap (λ x. x ∷ u) e)) inr (cases_eq c 10)

cr_ends : (b : ℕ) (t : List ℕ) → b ≡ 13 → Ends (b ∷ t) ⊎ (get_or t 0 0 ≡ 10 → ⊥)
cr_ends b t e = ⊎_elim (λ h. inl (Break, h.0, λ i. e i ∷ h.1 i)) inr (after_cr t)

stray_or_ends : (p rest s : List ℕ) → s ≡ p ++ rest → Halted rest → (get_or s 0 0 ≡ 34 → ⊥) → Ends rest ⊎ Stray p rest
stray_or_ends p [] s cut h no_quote = inl (End, [], (refl, refl))
stray_or_ends p (b ∷ t) s cut h no_quote = by (told b)
  where
    some : (q : List ℕ) → s ≡ q ++ b ∷ t → b ≡ 34 → 0 < length q
    some [] c e = absurd (no_quote (ap (λ l. get_or l 0 0) c ∙ e))
    some (x ∷ q) c e = omega arith

    by : Plain b ⊎ Special b → Ends (b ∷ t) ⊎ Stray p (b ∷ t)
    by (inl x) = absurd (h x)
    by (inr (inl e)) = inl (Comma, t, ap (λ x. x ∷ t) e)
    by (inr (inr (inl e))) = inr (inl (e, some p cut e))
    by (inr (inr (inr (inl e)))) = ⊎_elim inl (λ alone. inr (inr (inr (e, alone)))) (cr_ends b t e)
    by (inr (inr (inr (inr e)))) = inr (inr (inl e))

amiss_or_ends : (rest : List ℕ) → (get_or rest 0 0 ≡ 34 → ⊥) → Ends rest ⊎ Amiss rest
amiss_or_ends [] no_quote = inl (End, [], (refl, refl))
amiss_or_ends (b ∷ t) no_quote =
    ⊎_elim (λ e. inl (Comma, t, ap (λ x. x ∷ t) e)) (λ not_comma.
    ⊎_elim (λ e. ⊎_elim inl (λ alone. inr (not_comma, no_quote, λ _. alone)) (cr_ends b t e)) (λ not_cr. inr (not_comma, no_quote, λ e. absurd (not_cr e)))
    (cases_eq b 13)) (cases_eq b 44)

abbrev FieldOrFault : ℕ → List ℕ → Type 0
FieldOrFault n s = ((f : Piece) × (stop : Stop) × (after : List ℕ) × Opens n s f stop after) ⊎ ((k : ℕ) × Faulty s k)

module _ (n : ℕ) (s : List ℕ) (fits : length s ≤ n) where
  here : n - length s + length s ≡ n
  here = omega arith

  front : (o : Outcome) → Scan s o → FieldOrFault n s
  front (plain p rest) (cut, all, halted, no_quote) =
      ⊎_elim
      (λ e. inl (bare p (n - length s), e.0, e.1, record { word = p; rest = rest; cut = cut; writes = (refl, all); behind = e.2; place = here }))
      (λ bad. inr (length p, stray p rest cut all bad refl))
      (stray_or_ends p rest s cut halted no_quote)
  front (closed p rest) (cut, d, end) =
      ⊎_elim
      (λ e. inl (quoted p (n - length s), e.0, e.1, record { word = 34 ∷ (p ++ 34 ∷ []); rest = rest; cut = cut ∙ ap (λ l. 34 ∷ l) (sym (append_assoc p (34 ∷ []) rest)); writes = (refl, d); behind = e.2; place = here }))
      (λ bad. inr (length p + 2, amiss p rest cut d bad refl))
      (amiss_or_ends rest end)
  front (unended p) (cut, d) = inr (length s, unclosed p cut d refl)

  field_or_fault : FieldOrFault n s
  field_or_fault = let m = scan_some s in front m.0 m.1

-- ---- a record

abbrev RecordOrFault : ℕ → List ℕ → Type 0
RecordOrFault n s = ((fs : List Piece) × (after : List ℕ) × Whole n s fs after) ⊎ ((bad : ℕ) × (after : List ℕ) × Broken n s bad after)

module _ (n : ℕ) (s : List ℕ) (f : Piece) where
  with_more : (u : List ℕ) → Opens n s f Comma u → RecordOrFault n u → RecordOrFault n s
  with_more u o (inl (fs, after, w)) = inl (f ∷ fs, after, record { before = f ∷ w.before; last = w.last; stop = w.stop; rest = w.rest; fields = ap (λ l. f ∷ l) w.fields; front = (u, o, w.front); ends = w.ends; stops = w.stops })
  with_more u o (inr (bad, after, b)) = inr (bad, after, record { before = f ∷ b.before; rest = b.rest; offset = b.offset; front = (u, o, b.front); faulty = b.faulty; place = b.place; onward = b.onward })

  alone : (stop : Stop) (after : List ℕ) → Opens n s f stop after → (stop ≡ Comma → ⊥) → RecordOrFault n s
  alone stop after o not_comma = inl (f ∷ [], after, record { before = []; last = f; stop = stop; rest = s; fields = refl; front = refl; ends = o; stops = not_comma })

broken_here : (n : ℕ) (s : List ℕ) (k : ℕ) → length s ≤ n → Faulty s k → RecordOrFault n s
broken_here n s k fits h = inr (n - length s + k, after_break (drop k s), record { before = []; rest = s; offset = k; front = refl; faulty = h; place = omega arith; onward = refl })

-- a record, where each shorter list begins with one or with a fault
first_then : (n : ℕ) (s : List ℕ) → length s ≤ n → ((u : List ℕ) → length u < length s → RecordOrFault n u) → FieldOrFault n s → RecordOrFault n s
first_then n s fits more (inl (f, Comma, u, o)) = with_more n s f u o (more u (comma_less o))
first_then n s fits more (inl (f, Break, u, o)) = alone n s f Break u o (λ e. grind arith)
first_then n s fits more (inl (f, End, u, o)) = alone n s f End u o (λ e. grind arith)
first_then n s fits more (inr (k, h)) = broken_here n s k fits h

-- m bounds the bytes that are left
record_some : (m n : ℕ) (s : List ℕ) → length s ≤ m → length s ≤ n → RecordOrFault n s
record_some zero n s few fits = first_then n s fits (λ u less. absurd (omega arith)) (field_or_fault n s fits)
record_some (suc m) n s few fits = first_then n s fits (λ u less. record_some m n u (omega arith) (omega arith)) (field_or_fault n s fits)

-- ---- a text

abbrev LineHere : ℕ → List ℕ → Type 0
LineHere n s = (l : Line) × (after : List ℕ) × Reads n s l after × (length after < length s)

with_places : (n : ℕ) (s : List ℕ) → length s ≤ n → 0 < length s → RecordOrFault n s → LineHere n s
with_places n s fits some (inl (fs, after, w)) =
    let less = whole_less w some in
    (fields (n - length s) fs (n - length after), after, (omega arith, omega arith, w), less)
with_places n s fits some (inr (bad, after, b)) =
    let less = broken_less b some in
    (fault (n - length s) bad (n - length after), after, (omega arith, omega arith, b), less)

line_then : (n : ℕ) (s : List ℕ) → 0 < length s → LineHere n s → ((u : List ℕ) → length u < length s → (ls : List Line) × Lines n u ls) → (ls : List Line) × Lines n s ls
line_then n s some (l, after, reads, less) more =
    let (ls, rest) = more after less in
    (l ∷ ls, (some, (after, reads, rest)))

lines_some : (m n : ℕ) (s : List ℕ) → length s ≤ m → length s ≤ n → (ls : List Line) × Lines n s ls
lines_some m n [] few fits = ([], refl)
lines_some zero n (b ∷ t) few fits = absurd (omega arith)
lines_some (suc m) n (b ∷ t) few fits =
    line_then n (b ∷ t) (omega arith) (with_places n (b ∷ t) fits (omega arith) (record_some (length (b ∷ t)) n (b ∷ t) (omega arith) fits))
    (λ u less. lines_some m n u (omega arith) (omega arith))

pub every_text_has_one_reading_lem : EveryTextHasOneReading
every_text_has_one_reading_lem text =
    let (ls, reads) = lines_some (length text) (length text) text (omega arith) (omega arith) in
    (ls, reads, λ ms h. lines_one (length text) text ls ms reads h)
