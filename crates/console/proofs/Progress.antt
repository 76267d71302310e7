-- A text read up to a place.
use Rattle.std.proofs.Common.{◌≡◌, ℕ, ◌+◌, ◌-◌, ◌≤◌, Bool, true, cond, List, [], ◌∷◌, ◌++◌, length, take, drop, sym, refl, ap, ◌∙◌, subst, append_assoc, append-nil, arith, length-drop, length-take, take_all}
use lib.Seq.{take-append-le}
use Rattle.records.specs.Readings.{Line, Lines, Reading}
use Rattle.std.proofs.lemmas.List.{drop_all}
use Rattle.std.proofs.lemmas.Bool.{cond-true}
use Rattle.console.specs.Boxes.{Box}
use Rattle.console.specs.Reading.{Replied}
use Rattle.console.specs.Texts.{line_reply, line_box, reply_bytes, text_bytes, text_box}
use Rattle.console.specs.declared.reply.Reply.{Reply}

-- one line more at the end
bytes_more : (b : Box) (ls : List Line) (l : Line) → text_bytes b (ls ++ l ∷ []) ≡ text_bytes b ls ++ reply_bytes (line_reply (text_box b ls) l)
bytes_more b [] l = append-nil (reply_bytes (line_reply b l))
bytes_more b (m ∷ ls) l =
    ap (λ s. reply_bytes (line_reply b m) ++ s) (bytes_more (line_box b m) ls l)
    ∙ sym (append_assoc (reply_bytes (line_reply b m)) (text_bytes (line_box b m) ls) _)

box_more : (b : Box) (ls : List Line) (l : Line) → text_box b (ls ++ l ∷ []) ≡ line_box (text_box b ls) l
box_more b [] l = refl
box_more b (m ∷ ls) l = box_more (line_box b m) ls l

-- the lines read so far, and those of what is left, are the lines of the text; their answers are the bytes, and c is the box after them
pub record SoFar (text : List ℕ) (at : ℕ) (b c : Box) (bytes : List ℕ) : Type 0 where
  pub lines : List Line
  pub rest : (ms : List Line) → Lines (length text) (drop at text) ms → Reading text (lines ++ ms)
  pub answers : bytes ≡ text_bytes b lines
  pub box : c ≡ text_box b lines

pub none_yet : (text : List ℕ) (at : ℕ) (b : Box) (bytes : List ℕ) → at ≡ 0 → bytes ≡ [] → SoFar text at b b bytes
none_yet text at b bytes z e = record { lines = []; rest = λ ms h. subst (λ n. Lines (length text) (drop n text) ms) z h; answers = e; box = refl }

front : (xs ys zs : List ℕ) (n : ℕ) → zs ≡ xs ++ ys → n ≡ length xs → take n zs ≡ xs
front xs ys zs n e m =
    let h : n ≤ length xs = omega arith in
    ap (take n) e ∙ take-append-le n xs ys h ∙ take_all n xs (omega arith)

pub line_more : (text : List ℕ) (at next : ℕ) (b c d : Box) (bytes more before after : List ℕ) (r : Reply) (n : ℕ)
    → SoFar text at b c bytes → (other : List ℕ) → other ≡ text → Replied other at next c d before after r → n ≡ r.written → more ≡ bytes ++ take n after → SoFar text next b d more
line_more text at next b c d bytes more before after r n s other o y k e =
    let x : Replied text at next c d before after r = subst (λ t. Replied t at next c d before after r) o y in
    let l = x.line in
    let ls = s.lines in
    let w : take n after ≡ reply_bytes (line_reply (text_box b ls) l) = front _ _ after n x.bytes (k ∙ x.written) ∙ ap (λ y. reply_bytes (line_reply y l)) s.box in
    record {
      lines = ls ++ l ∷ [];
      rest = λ ms h. subst (Lines (length text) text) (sym (append_assoc ls (l ∷ []) ms)) (s.rest (l ∷ ms) (omega (arith, x.goes.more, length-drop at text), (drop next text, x.goes.reads, h)));
      answers = e ∙ (λ i. s.answers i ++ w i) ∙ sym (bytes_more b ls l);
      box = x.box ∙ ap (λ y. line_box y l) s.box ∙ sym (box_more b ls l);
    }

pub whole : (text : List ℕ) (at : ℕ) (b c : Box) (bytes : List ℕ) → length text ≤ at → (s : SoFar text at b c bytes) → Reading text s.lines
whole text at b c bytes end s = subst (Lines (length text) text) (append-nil s.lines) (s.rest [] (drop_all at text end))

-- a piece appended where that succeeds
pub appended : (t : Bool) (xs ys zs : List ℕ) → t ≡ true → ys ≡ cond t (xs ++ zs) xs → ys ≡ xs ++ zs
appended t xs ys zs e h = h ∙ cond-true t (xs ++ zs) xs e

pub grown : (t : Bool) (m k n : ℕ) (zs : List ℕ) → t ≡ true → k ≡ cond t (m + length (take (n - 0) zs)) m → k ≤ m + n
grown t m k n zs e h = omega (arith, h ∙ cond-true t (m + length (take (n - 0) zs)) m e, length-take (n - 0) zs)
