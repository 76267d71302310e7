-- What is written reads back: the reading is built along the writing, and there is no other.
use Rattle.std.proofs.Common.{◌≡◌, ℕ, ◌-◌, ◌<◌, ◌≤◌, List, [], ◌∷◌, ◌++◌, map, length, Some, Option, sym, refl, ap, ◌∙◌, subst, arith, length-append}
use Rattle.std.specs.List.{AllByRecursion}
use Rattle.std.proofs.lemmas.List.{append_assoc}
use Rattle.records.specs.declared.scan.Stop.{Stop}
use Rattle.records.specs.declared.scan.Stop.TheVariants.{Comma, Break}
use Rattle.records.specs.Grammar.{Piece, begins_at, Writes, Behind, Opens, Whole}
use Rattle.records.specs.Grammar.Piece.{bare, quoted}
use Rattle.records.specs.Readings.{Line, Lines}
use Rattle.records.specs.Readings.Line.{fields}
use Rattle.records.specs.Writing.{Entry, Fit, write_field, write_record, write_text, FitRecord, entry, content, EveryWrittenTextReadsBack}
use Rattle.records.specs.Writing.Entry.{as_is, in_quotes}
use Rattle.records.proofs.OneReading.{lines_one}

-- the field that an entry is at a place
abbrev placed : Entry → ℕ → Piece
placed (as_is v) at = bare v at
placed (in_quotes v) at = quoted v at

placed_at : (e : Entry) (at : ℕ) → begins_at (placed e at) ≡ at
placed_at (as_is v) at = refl
placed_at (in_quotes v) at = refl

placed_entry : (e : Entry) (at : ℕ) → entry (placed e at) ≡ e
placed_entry (as_is v) at = refl
placed_entry (in_quotes v) at = refl

writes_placed : (e : Entry) (at : ℕ) → Fit e → Writes (placed e at) (write_field e)
writes_placed (as_is v) at fit = (refl, fit)
writes_placed (in_quotes v) at fit = (refl, fit)

-- a field that is written, then what ends it
opens_written : (n : ℕ) (e : Entry) (stop : Stop) (rest after : List ℕ) → Fit e → Behind stop rest after → length (write_field e ++ rest) ≤ n → Opens n (write_field e ++ rest) (placed e (n - length (write_field e ++ rest))) stop after
opens_written n e stop rest after fit behind room =
    let at = n - length (write_field e ++ rest) in
    record { word = write_field e; rest = rest; cut = refl; writes = writes_placed e at fit; behind = behind; place = omega (arith, placed_at e at) }

record Back (n : ℕ) (s : List ℕ) (es : List Entry) (after : List ℕ) : Type 0 where
  pieces : List Piece
  same : map entry pieces ≡ es
  whole : Whole n s pieces after

tail_fits : (w rest : List ℕ) (n : ℕ) → length (w ++ 44 ∷ rest) ≤ n → length rest ≤ n
tail_fits w rest n h = omega (arith, length-append w (44 ∷ rest))

record_back : (n : ℕ) (e : Entry) (es : List Entry) (after : List ℕ) → Fit e → AllByRecursion Fit es → length (write_record e es ++ after) ≤ n → Back n (write_record e es ++ after) (e ∷ es) after
record_back n e [] after fit fits room =
    let shape : write_record e [] ++ after ≡ write_field e ++ 13 ∷ 10 ∷ after = append_assoc (write_field e) (13 ∷ 10 ∷ []) after in
    let s = write_field e ++ 13 ∷ 10 ∷ after in
    let o = opens_written n e Break (13 ∷ 10 ∷ after) after fit refl (omega (arith, ap length shape)) in
    subst (λ t. Back n t (e ∷ []) after) (sym shape) (record {
      pieces = placed e (n - length s) ∷ [];
      same = ap (λ x. x ∷ []) (placed_entry e (n - length s));
      whole = record { before = []; last = placed e (n - length s); stop = Break; rest = s; fields = refl; front = refl; ends = o; stops = λ x. grind arith };
    })
record_back n e (f ∷ fs) after fit fits room =
    let more = write_record f fs ++ after in
    let shape : write_record e (f ∷ fs) ++ after ≡ write_field e ++ 44 ∷ more = append_assoc (write_field e) (44 ∷ write_record f fs) after in
    let s = write_field e ++ 44 ∷ more in
    let long : length s ≤ n = omega (arith, ap length shape) in
    let o = opens_written n e Comma (44 ∷ more) more fit refl long in
    let b = record_back n f fs after fits.0 fits.1 (tail_fits (write_field e) more n long) in
    let p = placed e (n - length s) in
    subst (λ t. Back n t (e ∷ f ∷ fs) after) (sym shape) (record {
      pieces = p ∷ b.pieces;
      same = (λ i. placed_entry e (n - length s) i ∷ b.same i);
      whole = record { before = p ∷ b.whole.before; last = b.whole.last; stop = b.whole.stop; rest = b.whole.rest; fields = ap (λ l. p ∷ l) b.whole.fields; front = (more, o, b.whole.front); ends = b.whole.ends; stops = b.whole.stops };
    })

record_some_bytes : (e : Entry) (es : List Entry) → 0 < length (write_record e es)
record_some_bytes e [] = omega (arith, length-append (write_field e) (13 ∷ 10 ∷ []))
record_some_bytes e (f ∷ fs) = omega (arith, length-append (write_field e) (44 ∷ write_record f fs))

abbrev told : Entry × List Entry → Option (List Entry)
told r = Some (r.0 ∷ r.1)

lines_back : (n : ℕ) (rs : List (Entry × List Entry)) → AllByRecursion FitRecord rs → length (write_text rs) ≤ n → (ls : List Line) × Lines n (write_text rs) ls × (map content ls ≡ map told rs)
lines_back n [] fits room = ([], refl, refl)
lines_back n (r ∷ rs) fits room =
    let after = write_text rs in
    let s = write_record r.0 r.1 ++ after in
    let total = length-append (write_record r.0 r.1) after in
    let some = record_some_bytes r.0 r.1 in
    let b = record_back n r.0 r.1 after fits.0.0 fits.0.1 room in
    let (ls, reads, same) = lines_back n rs fits.1 (omega arith) in (
      fields (n - length s) b.pieces (n - length after) ∷ ls,
      (omega arith, (after, (omega arith, omega arith, b.whole), reads)),
      (λ i. Some (b.same i) ∷ same i),
    )

pub every_written_text_reads_back_lem : EveryWrittenTextReadsBack
every_written_text_reads_back_lem rs fits ls reads =
    let (ms, also, same) = lines_back (length (write_text rs)) rs fits (omega arith) in
    ap (map content) (lines_one (length (write_text rs)) (write_text rs) ls ms reads also) ∙ same
