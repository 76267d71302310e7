-- Replies: how long they are, and to which line of the text they answer.
use Rattle.std.proofs.Common.{◌≡◌, ℕ, ◌<◌, ◌≤◌, min, List, [], ◌∷◌, ◌++◌, map, length, take, drop, Some, Ok, Err, Option, Result, sym, refl, ap, ◌∙◌, ⊎_elim, arith, lit≤, length-append, take_all}
use Rattle.forms.specs.Fields.{values}
use Rattle.records.specs.Grammar.{Piece}
use Rattle.records.specs.Readings.{Line}
use Rattle.records.specs.Readings.Line.{fields, fault}
use Rattle.records.specs.Views.{value_of, piece, Keeps, Goes, Gives}
use Rattle.records.specs.declared.field.Field.{Field}
use Rattle.records.specs.declared.field.Field.TheVariants.{Bare, Quoted}
use Rattle.records.specs.declared.record.Record.{Record}
use Rattle.refusals.specs.Codes.{code_of}
use Rattle.refusals.specs.declared.answer.Answer.{Answer}
use Rattle.refusals.specs.declared.answer.Answer.TheVariants.{Accepted, Granted, Denied, Refused}
use Rattle.refusals.specs.declared.refusal.Refusal.{Refusal}
use Rattle.std.proofs.lemmas.Fmt.{length-decimal-le}
use Rattle.std.proofs.lemmas.Bool.{cases_lt}
use Rattle.values.specs.Lines.{line_of}
use Rattle.values.proofs.Refusing.{code_small}
use Rattle.console.specs.Boxes.{Box}
use Rattle.console.specs.Given.{given_reply, given_box, values_of}
use Rattle.console.specs.Recording.{record_reply, record_box}
use Rattle.console.specs.Texts.{value_in, kept_values, line_reply, line_box, reply_bytes}

-- the value of a field, and of what it is by the grammar
same_value : (f : Field) → value_in (piece f) ≡ value_of f
same_value (Bare part at) = refl
same_value (Quoted part at) = refl

same_values : (fs : List Field) → map value_in (map piece fs) ≡ map value_of fs
same_values [] = refl
same_values (f ∷ fs) = λ i. same_value f i ∷ same_values fs i

take_min : (n : ℕ) (fs : List Field) → length fs ≡ 40 → take (min n 40) fs ≡ take n fs
take_min n fs h = ⊎_elim
    (λ (k : n < 40). let e : min n 40 ≡ n = omega arith in ap (λ m. take m fs) e)
    (λ (k : 40 ≤ n). let e : min n 40 ≡ 40 = omega arith in ap (λ m. take m fs) e ∙ take_all 40 fs (omega arith) ∙ sym (take_all n fs (omega arith)))
    (cases_lt n 40)

-- the values kept of a record are those of its fields
pub kept_are : (r : Record) (kept : List Field) (fs : List Piece) → length kept ≡ 40 → Keeps r.count kept fs → values_of kept r ≡ kept_values fs
unfolding values
kept_are r kept fs h k = ap (map value_of) (take_min r.count kept h) ∙ sym (same_values (take r.count kept)) ∙ ap (map value_in) k.1

-- what the reader gives is a line of the text, and the reply to the one is that to the other
pub record Answered (text : List ℕ) (at next : ℕ) (b : Box) (kept : List Field) (x : Result Record Refusal) : Type 0 where
  pub line : Line
  pub goes : Goes text at next line
  pub reply : given_reply b kept x ≡ line_reply b line
  pub box : given_box b kept x ≡ line_box b line

pub answered : (text : List ℕ) (at next : ℕ) (b : Box) (kept : List Field) (x : Result Record Refusal) → length kept ≡ 40 → Gives text at next kept (Some x) → Answered text at next b kept x
answered text at next b kept (Ok r) h (s, n, (fs, k, goes)) =
    let e : record_reply b r.start r.count (values_of kept r) ≡ record_reply b at (length fs) (kept_values fs) = λ i. record_reply b (s i) (k.0 i) (kept_are r kept fs h k i) in
    let f : record_box b r.start r.count (values_of kept r) ≡ record_box b at (length fs) (kept_values fs) = λ i. record_box b (s i) (k.0 i) (kept_are r kept fs h k i) in
    record { line = fields at fs next; goes = goes; reply = e; box = f }
answered text at next b kept (Err g) h (bad, e, goes) = record { line = fault at bad next; goes = goes; reply = ap (λ x. Some (Refused x)) e; box = refl }

-- no line of an answer is longer than 12 bytes
pub short : (a : Answer) → length (line_of a) ≤ 12
short Accepted = lit≤ tt
short Granted = lit≤ tt
short Denied = lit≤ tt
short (Refused g) =
    let d = length-decimal-le 2 (code_of g) (omega arith) (code_small g) (omega (arith, code_small g)) in
    simp length-append (omega (arith, d))

-- the line of an answer that was written is that of the reply
pub replied_bytes : (a : Answer) (o : Option Answer) → o ≡ Some a → (n : ℕ) (before after : List ℕ) → n ≡ length (line_of a) → after ≡ line_of a ++ drop n before
    → (n ≡ length (reply_bytes o)) × (n ≤ 12) × (after ≡ reply_bytes o ++ drop (length (reply_bytes o)) before)
replied_bytes a o e n before after l w =
    let f : line_of a ≡ reply_bytes o = ap reply_bytes (sym e) in
    (l ∙ ap length f, rw l (short a), w ∙ ap (λ m. line_of a ++ drop m before) l ∙ ap (λ s. s ++ drop (length s) before) f)
