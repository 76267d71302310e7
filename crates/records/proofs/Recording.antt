-- One field more of a record, its last field, and its fault.
use Rattle.std.proofs.Common.{◌≡◌, ℕ, ◌+◌, ◌-◌, ◌<◌, ◌≤◌, ◌⊎◌, List, [], ◌∷◌, ◌++◌, map, length, take, drop, set, Ok, Err, Result, MatchResult, sym, refl, ap, ◌∙◌, subst, inl, inr, arith, length-append, length-drop}
use Rattle.std.proofs.lemmas.List.{drop-drop, take_rest, take_all, take-append-le, take_more_set, map_push, length_push, length-set}
use Rattle.std.specs.Result.{IsErrAnd}
use Rattle.records.specs.Cuts.{CutOf}
use Rattle.records.specs.declared.fault.Fault.{Fault}
use Rattle.records.specs.declared.field.Field.{Field}
use Rattle.records.specs.declared.record.Record.{Record}
use Rattle.records.specs.declared.scan.Cut.{Cut}
use Rattle.records.specs.declared.scan.Stop.TheVariants.{Comma, Break, End}
use Rattle.records.specs.Grammar.{Piece, Opens, Faulty, Amiss, Commas, Whole, Broken, after_break}
use Rattle.records.specs.Grammar.Faulty.{stray, unclosed, amiss}
use Rattle.records.specs.Views.{piece, Keeps, ReadFrom}

-- ---- the fields that are kept

-- the next field is kept, or there is no room for it
abbrev pub Stored : ℕ → List Field → Field → List Field → Type 0
Stored count old f new = ((count < 40) × (new ≡ set old count f)) ⊎ ((40 ≤ count) × (new ≡ old))

module _ (count : ℕ) (old new : List Field) (f : Field) (fs : List Piece) (room : length old ≡ 40) where
  kept_in : Keeps count old fs → count < 40 → new ≡ set old count f → Keeps (count + 1) new (fs ++ piece f ∷ [])
  kept_in (size, same) lt is =
      let all : map piece (take count old) ≡ fs = same ∙ take_all 40 fs (omega arith) in
      let grown : take (count + 1) new ≡ take count old ++ f ∷ [] = ap (take (count + 1)) is ∙ take_more_set old count f (omega arith) in (
        omega (arith, length_push fs (piece f)),
        ap (map piece) grown ∙ map_push piece (take count old) f ∙ ap (λ l. l ++ piece f ∷ []) all ∙ sym (take_all 40 (fs ++ piece f ∷ []) (omega (arith, length_push fs (piece f)))),
      )

  kept_out : Keeps count old fs → 40 ≤ count → new ≡ old → Keeps (count + 1) new (fs ++ piece f ∷ [])
  kept_out (size, same) le is =
      let as_was : take (count + 1) new ≡ take count old = ap (take (count + 1)) is ∙ take_all (count + 1) old (omega arith) ∙ sym (take_all count old (omega arith)) in
      (omega (arith, length_push fs (piece f)), ap (map piece) as_was ∙ same ∙ sym (take-append-le 40 fs (piece f ∷ []) (omega arith)))

  pub keeps_more : Keeps count old fs → Stored count old f new → Keeps (count + 1) new (fs ++ piece f ∷ [])
  keeps_more k (inl (lt, is)) = kept_in k lt is
  keeps_more k (inr (le, is)) = kept_out k le is

pub room_kept : (count : ℕ) (old new : List Field) (f : Field) → length old ≡ 40 → Stored count old f new → length new ≡ 40
room_kept count old new f room (inl (lt, is)) = ap length is ∙ length-set old count f ∙ room
room_kept count old new f room (inr (le, is)) = ap length is ∙ room

-- ---- what is left behind a field

commas_more : (n : ℕ) (s t u : List ℕ) (gs : List Piece) (f : Piece) → Commas n s gs t → Opens n t f Comma u → Commas n s (gs ++ f ∷ []) u
commas_more n s t u [] f e o = (u, subst (λ x. Opens n x f Comma u) (sym e) o, refl)
commas_more n s t u (g ∷ gs) f (v, first, more) o = (v, first, commas_more n v t u gs f more o)

pub comma_less : {n : ℕ} {s : List ℕ} {f : Piece} {after : List ℕ} → Opens n s f Comma after → length after < length s
comma_less o = omega (arith, ap length o.behind, ap length o.cut ∙ length-append o.word o.rest)

amiss_some : (rest : List ℕ) → Amiss rest → 0 < length rest
amiss_some [] h = absurd h
amiss_some (b ∷ t) h = omega arith

faulty_within : (s : List ℕ) (n : ℕ) → Faulty s n → n ≤ length s
faulty_within s n (stray p rest cut plain bad is) = omega (arith, is, ap length cut ∙ length-append p rest)
faulty_within s n (unclosed p cut inner is) = omega (arith, is)
faulty_within s n (amiss p rest cut inner bad is) = omega (arith, is, ap length cut, length-append p (34 ∷ rest), amiss_some rest bad)

-- what is left of the text at a place, as a part of it has it
module _ (s : List ℕ) (at : ℕ) (within : at ≤ length s) where
  abbrev left : List ℕ
  left = take (length s - at) (drop at s)

  -- a field there
  abbrev CutHere : Cut → Type 0
  CutHere cut = (cut.len ≤ length left) × Opens (at + length left) left (piece cut.field) cut.stop (drop cut.len left)

  -- A reading there, and what is passed on of it: its cut as it is, its fault with another place.
  module _ {Moves : Fault → Fault → Type 0} (moves : (e f : Fault) → Moves e f → f.at ≡ at + e.at) (x : Result Cut Fault) where
    pub cut_there : (r : Result Cut Fault) (cut : Cut) → CutOf at left r → MatchResult r (λ v. x ≡ Ok v) (λ e. IsErrAnd x (Moves e)) → x ≡ Ok cut → CutHere cut
    cut_there (Ok v) cut got is was = let e : Ok v ≡ Ok cut = sym is ∙ was in let same : v ≡ cut = cc in subst CutHere same got
    cut_there (Err e) cut got is was = absurd (subst (λ y. IsErrAnd y (Moves e)) was is)

    pub fault_there : (r : Result Cut Fault) (fault : Fault) → CutOf at left r → MatchResult r (λ v. x ≡ Ok v) (λ e. IsErrAnd x (Moves e)) → x ≡ Err fault → (k : ℕ) × (fault.at ≡ at + k) × Faulty left k
    fault_there (Ok v) fault got is was = let e : Ok v ≡ Err fault = sym is ∙ was in cc
    fault_there (Err e) fault got is was = (e.at, moves e fault (subst (λ y. IsErrAnd y (Moves e)) was is), got)

  size : length left ≡ length s - at
  size = ap length (take_rest s at) ∙ length-drop at s

  opened : (cut : Cut) → CutHere cut → (at + cut.len ≤ length s) × Opens (length s) (drop at s) (piece cut.field) cut.stop (drop (at + cut.len) s)
  opened cut (fits, opens) =
      let f = piece cut.field in
      let moved : Opens (at + length (drop at s)) (drop at s) f cut.stop (drop cut.len (drop at s)) = subst (λ l. Opens (at + length l) l f cut.stop (drop cut.len l)) (take_rest s at) opens in
      let total : at + length (drop at s) ≡ length s = omega (arith, length-drop at s) in
      let there : Opens (length s) (drop at s) f cut.stop (drop cut.len (drop at s)) = subst (λ n. Opens n (drop at s) f cut.stop (drop cut.len (drop at s))) total moved in
      (omega (arith, size), subst (Opens (length s) (drop at s) f cut.stop) (drop-drop cut.len at s) there)

  module _ (from : ℕ) (fs : List Piece) (front : Commas (length s) (drop from s) fs (drop at s)) (cut : Cut) (got : CutHere cut) where
    pub one_more : cut.stop ≡ Comma → (at + cut.len ≤ length s) × (at < at + cut.len) × Commas (length s) (drop from s) (fs ++ piece cut.field ∷ []) (drop (at + cut.len) s)
    one_more is =
        let (fits, opens) = opened cut got in
        let o : Opens (length s) (drop at s) (piece cut.field) Comma (drop (at + cut.len) s) = subst (λ x. Opens (length s) (drop at s) (piece cut.field) x (drop (at + cut.len) s)) is opens in
        (fits, omega (arith, comma_less o, length-drop at s, length-drop (at + cut.len) s), commas_more (length s) (drop from s) (drop at s) _ fs (piece cut.field) front o)

    pub last_one : (cut.stop ≡ Break) ⊎ (cut.stop ≡ End) → (at + cut.len ≤ length s) × Whole (length s) (drop from s) (fs ++ piece cut.field ∷ []) (drop (at + cut.len) s)
    last_one is =
        let (fits, opens) = opened cut got in
        (fits, record { before = fs; last = piece cut.field; stop = cut.stop; rest = drop at s; fields = refl; front = front; ends = opens; stops = λ e. grind arith })

  fault_within : (k : ℕ) → Faulty left k → at + k ≤ length s
  fault_within k h = omega (arith, faulty_within left k h, size)

  broken : (from : ℕ) (fs : List Piece) (k : ℕ) → Commas (length s) (drop from s) fs (drop at s) → Faulty left k → Broken (length s) (drop from s) (at + k) (after_break (drop (at + k) s))
  broken from fs k front h = record {
    before = fs;
    rest = drop at s;
    offset = k;
    front = front;
    faulty = subst (λ l. Faulty l k) (take_rest s at) h;
    place = omega (arith, length-drop at s);
    onward = ap after_break (sym (drop-drop k at s));
  }

  pub broken_there : (from : ℕ) (fs : List Piece) (kept : List Field) (fault : Fault) (r : Result Record Fault) → Commas (length s) (drop from s) fs (drop at s) → (k : ℕ) × (fault.at ≡ at + k) × Faulty left k → IsErrAnd r (λ e. e ≡ fault) → ReadFrom s from kept r
  broken_there from fs kept fault (Ok v) front h is = absurd is
  broken_there from fs kept fault (Err e) front (k, place, h) is =
      let there : e.at ≡ at + k = ap (λ x. x.at) is ∙ place in
      subst (λ n. (n ≤ length s) × Broken (length s) (drop from s) n (after_break (drop n s))) (sym there) (fault_within k h, broken from fs k front h)
