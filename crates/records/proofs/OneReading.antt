-- A text has no two readings: first of a field, then of a record, then of the whole.
use Rattle.std.proofs.Common.{◌≡◌, ℕ, ◌+◌, ◌<◌, ◌⊎◌, List, [], ◌∷◌, ◌++◌, length, get_or, drop, sym, refl, ap, ◌∙◌, subst, inl, inr, ⊎_elim, arith}
use Rattle.std.specs.List.{AllByRecursion}
use Rattle.std.proofs.lemmas.List.{append_assoc}
use Rattle.records.specs.declared.scan.Stop.{Stop}
use Rattle.records.specs.declared.scan.Stop.TheVariants.{Comma, Break, End}
use Rattle.records.specs.Grammar.{Piece, begins_at, Plain, Behind, Opens, Stray, Amiss, Faulty, Commas, Whole, Broken, after_break}
use Rattle.records.specs.Grammar.Piece.{bare, quoted}
use Rattle.records.specs.Grammar.Faulty.{stray, unclosed, amiss}
use Rattle.records.specs.Readings.{Line, Reads, Lines}
use Rattle.records.specs.Readings.Line.{fields, fault}
use Rattle.records.proofs.Scans.{Outcome, Halted, Scan, head_is, tail_is, scan_one}
use Rattle.records.proofs.Scans.Outcome.{plain, closed, unended}

-- ---- a field

abbrev Good : Outcome → Piece → Stop → List ℕ → Type 0
Good (plain p rest) f stop after = (f ≡ bare p (begins_at f)) × Behind stop rest after
Good (closed p rest) f stop after = (f ≡ quoted p (begins_at f)) × Behind stop rest after
Good (unended p) f stop after = ⊥

abbrev Bad : Outcome → ℕ → Type 0
Bad (plain p rest) k = Stray p rest × (k ≡ length p)
Bad (closed p rest) k = Amiss rest × (k ≡ length p + 2)
Bad (unended p) k = k ≡ length p + 1

behind_halted : (x : Stop) (rest after : List ℕ) → Behind x rest after → Halted rest × (get_or rest 0 0 ≡ 34 → ⊥)
behind_halted Comma rest after e = (subst Halted (sym e) (λ h. h.0 refl), λ q. omega (arith, ap (λ l. get_or l 0 0) e))
behind_halted Break rest after e = (subst Halted (sym e) (λ h. h.2 refl), λ q. omega (arith, ap (λ l. get_or l 0 0) e))
behind_halted End rest after (e, f) = (subst Halted (sym e) tt, λ q. omega (arith, ap (λ l. get_or l 0 0) e))

no_quote : (p rest s : List ℕ) → s ≡ p ++ rest → AllByRecursion Plain p → (0 < length p) ⊎ (get_or rest 0 0 ≡ 34 → ⊥) → get_or s 0 0 ≡ 34 → ⊥
no_quote [] rest s e h k q = ⊎_elim (λ lt. omega arith) (λ ne. ne (sym (ap (λ l. get_or l 0 0) e) ∙ q)) k
no_quote (b ∷ p) rest s e h k q = h.0.1 (sym (ap (λ l. get_or l 0 0) e) ∙ q)

opens_scan : (n : ℕ) (s : List ℕ) (f : Piece) (x : Stop) (after : List ℕ) → Opens n s f x after → (o : Outcome) × Scan s o × Good o f x after
opens_scan n s (bare v at) x after h =
    let (is, all_plain) = h.writes in
    let (halted, ne) = behind_halted x h.rest after h.behind in
    let cut : s ≡ v ++ h.rest = h.cut ∙ ap (λ l. l ++ h.rest) is in
    (plain v h.rest, (cut, all_plain, halted, no_quote v h.rest s cut all_plain (inr ne)), (refl, h.behind))
opens_scan n s (quoted v at) x after h =
    let (is, inner) = h.writes in
    let (halted, ne) = behind_halted x h.rest after h.behind in
    let cut : s ≡ 34 ∷ (v ++ 34 ∷ h.rest) = h.cut ∙ ap (λ l. l ++ h.rest) is ∙ ap (λ l. 34 ∷ l) (append_assoc v (34 ∷ []) h.rest) in
    (closed v h.rest, (cut, inner, ne), (refl, h.behind))

stray_halted : (p rest : List ℕ) → Stray p rest → Halted rest × ((0 < length p) ⊎ (get_or rest 0 0 ≡ 34 → ⊥))
stray_halted p [] h = absurd h
stray_halted p (b ∷ t) (inl (q, lt)) = ((λ k. k.1 q), inl lt)
stray_halted p (b ∷ t) (inr (inl lf)) = ((λ k. k.3 lf), inr (omega arith))
stray_halted p (b ∷ t) (inr (inr (cr, alone))) = ((λ k. k.2 cr), inr (omega arith))

amiss_no_quote : (rest : List ℕ) → Amiss rest → get_or rest 0 0 ≡ 34 → ⊥
amiss_no_quote [] h q = h
amiss_no_quote (b ∷ t) h q = h.1 q

faulty_scan : (s : List ℕ) (n : ℕ) → Faulty s n → (o : Outcome) × Scan s o × Bad o n
faulty_scan s n (stray p rest cut all_plain bad is) =
    let (halted, first) = stray_halted p rest bad in
    (plain p rest, (cut, all_plain, halted, no_quote p rest s cut all_plain first), (bad, is))
faulty_scan s n (unclosed p cut inner is) = (unended p, (cut, inner), omega (arith, is, ap length cut))
faulty_scan s n (amiss p rest cut inner bad is) = (closed p rest, (cut, inner, amiss_no_quote rest bad), (bad, is))

behind_one : (x y : Stop) (rest a b : List ℕ) → Behind x rest a → Behind y rest b → (x ≡ y) × (a ≡ b)
behind_one Comma Comma rest a b h k = (refl, tail_is (sym h ∙ k))
behind_one Comma Break rest a b h k = absurd (omega (arith, head_is (sym h ∙ k)))
behind_one Comma End rest a b h k = absurd (omega (arith, ap length (sym h ∙ k.0)))
behind_one Break Comma rest a b h k = absurd (omega (arith, head_is (sym h ∙ k)))
behind_one Break Break rest a b h k = (refl, tail_is (tail_is (sym h ∙ k)))
behind_one Break End rest a b h k = absurd (omega (arith, ap length (sym h ∙ k.0)))
behind_one End Comma rest a b h k = absurd (omega (arith, ap length (sym h.0 ∙ k)))
behind_one End Break rest a b h k = absurd (omega (arith, ap length (sym h.0 ∙ k)))
behind_one End End rest a b h k = (refl, h.1 ∙ sym k.1)

behind_not_stray : (x : Stop) (p rest a : List ℕ) → Behind x rest a → Stray p rest → ⊥
behind_not_stray x p [] a h k = k
behind_not_stray Comma p (b ∷ t) a h k = omega (arith, head_is h, k)
behind_not_stray Break p (b ∷ t) a h (inl k) = omega (arith, head_is h, k)
behind_not_stray Break p (b ∷ t) a h (inr (inl k)) = omega (arith, head_is h, k)
behind_not_stray Break p (b ∷ t) a h (inr (inr k)) = k.1 (ap (λ l. get_or l 0 0) (tail_is h))
behind_not_stray End p (b ∷ t) a h k = omega (arith, ap length h.0)

behind_not_amiss : (x : Stop) (rest a : List ℕ) → Behind x rest a → Amiss rest → ⊥
behind_not_amiss x [] a h k = k
behind_not_amiss Comma (b ∷ t) a h k = k.0 (head_is h)
behind_not_amiss Break (b ∷ t) a h k = k.2 (head_is h) (ap (λ l. get_or l 0 0) (tail_is h))
behind_not_amiss End (b ∷ t) a h k = omega (arith, ap length h.0)

good_one : (o : Outcome) (f g : Piece) (x y : Stop) (a b : List ℕ) → begins_at f ≡ begins_at g → Good o f x a → Good o g y b → (f ≡ g) × (x ≡ y) × (a ≡ b)
good_one (plain p rest) f g x y a b at h k = let (st, after) = behind_one x y rest a b h.1 k.1 in (h.0 ∙ ap (bare p) at ∙ sym k.0, st, after)
good_one (closed p rest) f g x y a b at h k = let (st, after) = behind_one x y rest a b h.1 k.1 in (h.0 ∙ ap (quoted p) at ∙ sym k.0, st, after)
good_one (unended p) f g x y a b at h k = absurd h

bad_one : (o : Outcome) (k l : ℕ) → Bad o k → Bad o l → k ≡ l
bad_one (plain p rest) k l h j = h.1 ∙ sym j.1
bad_one (closed p rest) k l h j = h.1 ∙ sym j.1
bad_one (unended p) k l h j = h ∙ sym j

good_or_bad : (o : Outcome) (f : Piece) (x : Stop) (a : List ℕ) (k : ℕ) → Good o f x a → Bad o k → ⊥
good_or_bad (plain p rest) f x a k h j = behind_not_stray x p rest a h.1 j.0
good_or_bad (closed p rest) f x a k h j = behind_not_amiss x rest a h.1 j.0
good_or_bad (unended p) f x a k h j = h

opens_one : (n : ℕ) (s : List ℕ) (f g : Piece) (x y : Stop) (a b : List ℕ) → Opens n s f x a → Opens n s g y b → (f ≡ g) × (x ≡ y) × (a ≡ b)
opens_one n s f g x y a b h k =
    let (o, scan, good) = opens_scan n s f x a h in
    let (r, also, fine) = opens_scan n s g y b k in
    good_one r f g x y a b (omega (arith, h.place, k.place)) (subst (λ z. Good z f x a) (scan_one s o r scan also) good) fine

opens_or_faulty : (n : ℕ) (s : List ℕ) (f : Piece) (x : Stop) (a : List ℕ) (k : ℕ) → Opens n s f x a → Faulty s k → ⊥
opens_or_faulty n s f x a k h j =
    let (o, scan, good) = opens_scan n s f x a h in
    let (r, also, bad) = faulty_scan s k j in
    good_or_bad r f x a k (subst (λ z. Good z f x a) (scan_one s o r scan also) good) bad

faulty_one : (s : List ℕ) (k l : ℕ) → Faulty s k → Faulty s l → k ≡ l
faulty_one s k l h j =
    let (o, scan, bad) = faulty_scan s k h in
    let (r, also, evil) = faulty_scan s l j in
    bad_one r k l (subst (λ z. Bad z k) (scan_one s o r scan also) bad) evil

-- ---- a record

module _ (n : ℕ) where
  -- no field with a comma behind it begins t
  abbrev Halting : List ℕ → Type 0
  Halting t = (f : Piece) (v : List ℕ) → Opens n t f Comma v → ⊥

  commas_meet : (s t u : List ℕ) (gs hs : List Piece) → Commas n s gs t → Commas n s hs u → Halting t → Halting u → (gs ≡ hs) × (t ≡ u)
  commas_meet s t u [] [] h k x y = (refl, sym h ∙ k)
  commas_meet s t u [] (g ∷ hs) h (v, o, k) x y = absurd (x g v (subst (λ l. Opens n l g Comma v) h o))
  commas_meet s t u (f ∷ gs) [] (v, o, h) k x y = absurd (y f v (subst (λ l. Opens n l f Comma v) k o))
  commas_meet s t u (f ∷ gs) (g ∷ hs) (v, o, h) (w, p, k) x y =
      let (same, _, next) = opens_one n s f g Comma Comma v w o p in
      let (more, end) = commas_meet w t u gs hs (subst (λ l. Commas n l gs t) next h) k x y in
      ((λ i. same i ∷ more i), end)

  ends_halting : {s : List ℕ} {fs : List Piece} {a : List ℕ} (w : Whole n s fs a) → Halting w.rest
  ends_halting w f v o = w.stops (opens_one n _ w.last f w.stop Comma _ v w.ends o).1

  faulty_halting : {t : List ℕ} {k : ℕ} → Faulty t k → Halting t
  faulty_halting j f v o = opens_or_faulty n _ f Comma v _ o j

  whole_one : (s : List ℕ) (fs gs : List Piece) (a b : List ℕ) → Whole n s fs a → Whole n s gs b → (fs ≡ gs) × (a ≡ b)
  whole_one s fs gs a b v w =
      let (same, rest) = commas_meet s v.rest w.rest v.before w.before v.front w.front (ends_halting v) (ends_halting w) in
      let (last, _, after) = opens_one n w.rest v.last w.last v.stop w.stop a b (subst (λ l. Opens n l v.last v.stop a) rest v.ends) w.ends in
      (v.fields ∙ (λ i. same i ++ last i ∷ []) ∙ sym w.fields, after)

  whole_or_broken : (s : List ℕ) (fs : List Piece) (a : List ℕ) (bad : ℕ) (b : List ℕ) → Whole n s fs a → Broken n s bad b → ⊥
  whole_or_broken s fs a bad b v w =
      let (same, rest) = commas_meet s v.rest w.rest v.before w.before v.front w.front (ends_halting v) (faulty_halting w.faulty) in
      opens_or_faulty n w.rest v.last v.stop a w.offset (subst (λ l. Opens n l v.last v.stop a) rest v.ends) w.faulty

  broken_one : (s : List ℕ) (bad ill : ℕ) (a b : List ℕ) → Broken n s bad a → Broken n s ill b → (bad ≡ ill) × (a ≡ b)
  broken_one s bad ill a b v w =
      let (same, rest) = commas_meet s v.rest w.rest v.before w.before v.front w.front (faulty_halting v.faulty) (faulty_halting w.faulty) in
      let offset = faulty_one w.rest v.offset w.offset (subst (λ l. Faulty l v.offset) rest v.faulty) w.faulty in
      (omega (arith, v.place, w.place, ap length rest), v.onward ∙ (λ i. after_break (drop (offset i) (rest i))) ∙ sym w.onward)

  reads_one : (s : List ℕ) (k l : Line) (a b : List ℕ) → Reads n s k a → Reads n s l b → (k ≡ l) × (a ≡ b)
  reads_one s (fields at fs next) (fields at' gs next') a b h k =
      let (same, after) = whole_one s fs gs a b h.2 k.2 in
      let here : at ≡ at' = omega (arith, h.0, k.0) in
      let there : next ≡ next' = omega (arith, h.1, k.1, ap length after) in
      ((λ i. fields (here i) (same i) (there i)), after)
  reads_one s (fields at fs next) (fault at' bad next') a b h k = absurd (whole_or_broken s fs a bad b h.2 k.2)
  reads_one s (fault at bad next) (fields at' gs next') a b h k = absurd (whole_or_broken s gs b bad a k.2 h.2)
  reads_one s (fault at bad next) (fault at' ill next') a b h k =
      let (same, after) = broken_one s bad ill a b h.2 k.2 in
      let here : at ≡ at' = omega (arith, h.0, k.0) in
      let there : next ≡ next' = omega (arith, h.1, k.1, ap length after) in
      ((λ i. fault (here i) (same i) (there i)), after)

  -- ---- a text

  pub lines_one : (s : List ℕ) (ls ms : List Line) → Lines n s ls → Lines n s ms → ls ≡ ms
  lines_one s [] [] h k = refl
  lines_one s [] (m ∷ ms) h k = absurd (omega (arith, k.0, ap length h))
  lines_one s (l ∷ ls) [] h k = absurd (omega (arith, h.0, ap length k))
  lines_one s (l ∷ ls) (m ∷ ms) (some, (a, h, hs)) (also, (b, k, ks)) =
      let (same, after) = reads_one s l m a b h k in
      let more = lines_one b ls ms (subst (λ t. Lines n t ls) after hs) ks in
      λ i. same i ∷ more i
