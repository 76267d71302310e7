-- Every answer is deserved.
use Rattle.std.proofs.Common.{◌≡◌, ℕ, ◌<◌, Bool, true, false, cond, ◌&&◌, ltb, List, [], ◌∷◌, Decides, sym, refl, ap, subst, inl, inr, ⊎_elim, arith}
use Rattle.refusals.specs.Codes.{code_of}
use Rattle.refusals.specs.declared.refusal.Refusal.{Refusal}
use Rattle.search.proofs.Somes.{some_found, some_at}
use Rattle.std.proofs.lemmas.Bool.{both_ways, and_parts, and_from, or_cases, or_left, or_right, ltb-true, not-false}
use Rattle.std.proofs.lemmas.Bool.Decides.{Decides-not, Decides-and, Decides-ltb, not_from_Decides}
use Rattle.tables.specs.declared.draft.Draft.{Draft}
use Rattle.tables.specs.declared.table.Table.TheVariants.{Things}
use Rattle.tables.specs.declared.table.Thing.TheVariants.{Role}
use Rattle.rules.specs.Access.{Within}
use Rattle.rules.specs.Judging.{clashes, parted, tests, first_reason, unrefused}
use Rattle.rules.specs.Reasons.{Clashes, reasons, Applies, Deserved, AnswersDeserved}
use Rattle.rules.specs.Spots.{known, with_spot}
use Rattle.rules.specs.States.{State, session_count}
use Rattle.refusals.specs.declared.answer.Answer.{Answer}
use Rattle.refusals.specs.declared.answer.Answer.TheVariants.{Accepted, Granted, Denied, Refused}
use Rattle.rules.specs.declared.call.Call.{Call}
use Rattle.rules.specs.declared.call.Call.TheVariants.{Acquire, Assign, Revoke, Release, Start, End, Activate, Deactivate, Check}
use Rattle.rules.proofs.Deciding.{decides_self, decides_some, decides_holds, decides_valid, decides_known, declared_below}
use Rattle.rules.proofs.Paths.{permission_decides}
use Rattle.rules.proofs.Reaching.{reaches_words, known_with}

-- each test decides its reason, where no earlier test passes
abbrev Match : List (Refusal × Bool) → List (Refusal × Type 0) → Type 0
Match [] [] = Unit {0}
Match [] (r ∷ rs) = ⊥
Match (t ∷ ts) [] = ⊥
Match (t ∷ ts) (r ∷ rs) = (t.0 ≡ r.0) × Decides t.1 r.1 × (t.1 ≡ false → Match ts rs)

-- one test with its reason, and then the rest
then : {g : Refusal} {D M : Type 0} → D → M → (g ≡ g) × D × M
then x rest = (refl, x, rest)

-- the numbers of the refusals rise, from above n
abbrev rising : ℕ → List (Refusal × Type 0) → Bool
rising n [] = true
rising n (r ∷ rs) = ltb n (code_of r.0) && rising (code_of r.0) rs

above : (n : ℕ) (rs : List (Refusal × Type 0)) (h : Refusal) → rising n rs ≡ true → Applies rs h → n < code_of h
above n [] h e a = absurd a
above n (r ∷ rs) h e a =
    let p = and_parts (ltb n (code_of r.0)) (rising (code_of r.0) rs) e in
    let l = ltb-true n (code_of r.0) p.0 in
    ⊎_elim (λ (w : (r.0 ≡ h) × r.1). omega (arith, l, ap code_of w.0))
    (λ (w : Applies rs h). omega (arith, l, above (code_of r.0) rs h p.1 w)) a

-- an answer that names no reason
abbrev is_plain : Answer → Bool
is_plain Accepted = true
is_plain Granted = true
is_plain Denied = true
is_plain (Refused g) = false

none_plain : (a : Answer) → is_plain a ≡ true → Deserved [] a
none_plain Accepted e = λ h w. w
none_plain Granted e = λ h w. w
none_plain Denied e = λ h w. w
none_plain (Refused g) e = absurd (both_ways false refl e)

-- a reason that does not apply, before the others
before : (r : Refusal × Type 0) (rs : List (Refusal × Type 0)) (a : Answer) → (r.1 → ⊥) → Deserved rs a → Deserved (r ∷ rs) a
before r rs Accepted n w = λ h. ⊎_elim (λ x. n x.1) (w h)
before r rs Granted n w = λ h. ⊎_elim (λ x. n x.1) (w h)
before r rs Denied n w = λ h. ⊎_elim (λ x. n x.1) (w h)
before r rs (Refused g) n w = (inr w.0, λ h l. ⊎_elim (λ x. n x.1) (w.1 h l))

deserved : (n : ℕ) (ts : List (Refusal × Bool)) (rs : List (Refusal × Type 0)) (a : Answer) → is_plain a ≡ true → rising n rs ≡ true → Match ts rs → Deserved rs (first_reason ts a)
deserved n [] [] a q e m = none_plain a q
deserved n [] (r ∷ rs) a q e m = absurd m
deserved n (t ∷ ts) [] a q e m = absurd m
deserved n (t ∷ ts) (r ∷ rs) a q e m = by (λ x. deserved (code_of r.0) ts rs a q up x) t.1 refl
  where
    up : rising (code_of r.0) rs ≡ true
    up = (and_parts (ltb n (code_of r.0)) (rising (code_of r.0) rs) e).1

    by : (Match ts rs → Deserved rs (first_reason ts a)) → (b : Bool) → t.1 ≡ b → Deserved (r ∷ rs) (cond b (Refused t.0) (first_reason ts a))
    by go true f = (
      inl (sym m.0, m.1.0 f),
      λ h l. ⊎_elim (λ (w : (r.0 ≡ h) × r.1). omega (arith, l, ap code_of w.0, ap code_of m.0)) (λ (w : Applies rs h). omega (arith, l, ap code_of m.0, above (code_of r.0) rs h up w)),
    )
    by go false f = before r rs (first_reason ts a) (not_from_Decides t.1 m.1 f) (go (m.2 f))

-- the role r and the roles active in a session, in words
module _ (d : Draft) (s : State) (within : Within d s) where
  clash_decides : (k r : ℕ) → Decides (clashes d s k r) (Clashes d s k r)
  clash_decides k r = (
    (λ t. ⊎_elim
        (λ h. (r, inl refl, or_cases _ _ h))
        (λ h. let f = some_found (λ a. s.active k a && parted d r a) 32 h in let p = and_parts _ _ f.2 in (f.0, inr p.0, or_cases _ _ p.1))
        (or_cases _ _ t)),
    (λ w.
        let apart : parted d r w.0 ≡ true = ⊎_elim (or_left _ _) (or_right _ _) w.2 in
        ⊎_elim
        (λ (e : w.0 ≡ r). or_left _ _ (subst (λ a. parted d r a ≡ true) e apart))
        (λ (e : s.active k w.0 ≡ true). or_right (parted d r r) _
        (some_at (λ a. s.active k a && parted d r a) 32 w.0 (declared_below d (Things Role) w.0 (within.roles_known k w.0 e)) (and_from _ _ e apart)))
        w.1),
  )

  matches : (c : Call) → Match (tests d s c) (reasons d s c)
  matches (Acquire u w) =
      then (Decides-not _ (Decides-and _ _ (decides_self _) (decides_self _))) λ _.
      then (Decides-not _ (decides_self _)) λ _.
      then (decides_some (s.lease u)) λ _. tt
  matches (Assign k x) =
      then (Decides-not _ (decides_valid d s k)) λ _.
      then (Decides-not _ (decides_known d x)) λ h.
      then (decides_self _) λ _.
      then (Decides-not _ (decides_self _)) λ _.
      then (decides_self _) λ _.
      then (reaches_words d (with_spot s.pairs x) (known_with d s.pairs x within.pairs_known (not-false (known d x) h))) λ _. tt
  matches (Revoke k x) =
      then (Decides-not _ (decides_valid d s k)) λ _.
      then (Decides-not _ (decides_known d x)) λ _.
      then (decides_self _) λ _.
      then (Decides-not _ (decides_self _)) λ _.
      then (Decides-not _ (decides_self _)) λ _. tt
  matches (Release k) = then (Decides-not _ (decides_valid d s k)) λ _. tt
  matches (Start k w) =
      then (Decides-not _ (Decides-and _ _ (Decides-ltb k session_count) (decides_self _))) λ _.
      then (decides_some (s.session k)) λ _. tt
  matches (End k) =
      then (Decides-not _ (Decides-ltb k session_count)) λ _.
      then (Decides-not _ (decides_some (s.session k))) λ _. tt
  matches (Activate k r) =
      then (Decides-not _ (Decides-and _ _ (Decides-ltb k session_count) (decides_self _))) λ _.
      then (Decides-not _ (decides_some (s.session k))) λ _.
      then (Decides-not _ (decides_holds s.held (s.session k) r)) λ _.
      then (decides_self _) λ _.
      then (clash_decides k r) λ _. tt
  matches (Deactivate k r) =
      then (Decides-not _ (Decides-and _ _ (Decides-ltb k session_count) (decides_self _))) λ _.
      then (Decides-not _ (decides_some (s.session k))) λ _.
      then (Decides-not _ (decides_self _)) λ _. tt
  matches (Check k v o conditions) =
      then (Decides-not _ (Decides-and _ _ (Decides-ltb k session_count) (Decides-and _ _ (decides_self _) (decides_self _)))) λ _.
      then (Decides-not _ (decides_some (s.session k))) λ _.
      then (Decides-not _ (permission_decides d v o)) λ _. tt

-- the reasons of each call are tested in the order of their numbers
ordered : (d : Draft) (s : State) (c : Call) → rising 0 (reasons d s c) ≡ true
ordered d s (Acquire u w) = refl
ordered d s (Assign k x) = refl
ordered d s (Revoke k x) = refl
ordered d s (Release k) = refl
ordered d s (Start k w) = refl
ordered d s (End k) = refl
ordered d s (Activate k r) = refl
ordered d s (Deactivate k r) = refl
ordered d s (Check k v o conditions) = refl

told_plain : (b : Bool) → is_plain (cond b Granted Denied) ≡ true
told_plain true = refl
told_plain false = refl

plain : (d : Draft) (s : State) (c : Call) → is_plain (unrefused d s c) ≡ true
plain d s (Acquire u w) = refl
plain d s (Assign k x) = refl
plain d s (Revoke k x) = refl
plain d s (Release k) = refl
plain d s (Start k w) = refl
plain d s (End k) = refl
plain d s (Activate k r) = refl
plain d s (Deactivate k r) = refl
plain d s (Check k v o conditions) = told_plain _

pub answers_deserved : AnswersDeserved
answers_deserved d s within c = deserved 0 (tests d s c) (reasons d s c) (unrefused d s c) (plain d s c) (ordered d s c) (matches d s within c)
