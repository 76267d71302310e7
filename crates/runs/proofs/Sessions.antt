-- What every run keeps of its sessions: active roles are declared and held, and dynamic separation pairs no two of one session.
use Rattle.std.proofs.Common.{◌≡◌, ℕ, Bool, true, false, not, ◌&&◌, eqb, ◌⊎◌, List, Some, None, Option, sym, refl, ◌∙◌, subst, inl, inr, ⊎_elim}
use Rattle.lawful.specs.Keeping.{Declared}
use Rattle.search.specs.Below.{some_below}
use Rattle.search.proofs.Somes.{some_left}
use Rattle.std.proofs.lemmas.Bool.{both_ways, and_parts, and_from, or_cases, or_parts, or_left, or_right, not-false, not-true, eqb-true, cond-false, false≢true}
use Rattle.tables.specs.Drafts.{declared, related}
use Rattle.tables.specs.declared.draft.Draft.{Draft}
use Rattle.tables.specs.declared.relation.Relation.TheVariants.{UserRoles, DynamicSeparation}
use Rattle.tables.specs.declared.table.Table.TheVariants.{Things}
use Rattle.tables.specs.declared.table.Thing.TheVariants.{Role}
use Rattle.rules.specs.Judging.{parted, judge, effect}
use Rattle.rules.specs.Reasons.{Holds}
use Rattle.rules.specs.States.{State, is_session, holds_role, none_active, with_at, with_active, without_active, without_session, opened}
use Rattle.refusals.specs.declared.answer.Answer.TheVariants.{Accepted}
use Rattle.rules.specs.declared.call.Call.{Call}
use Rattle.rules.specs.declared.call.Call.TheVariants.{Acquire, Assign, Revoke, Release, Start, End, Activate, Deactivate, Check}
use Rattle.rules.proofs.Committing.{passed}
use Rattle.rules.proofs.Deciding.{decides_holds, declared_below}
use Rattle.runs.specs.Runs.{final}
use Rattle.runs.proofs.Stepping.{kept}

pub record Orderly (d : Draft) (s : State) : Type 0 where
  pub declared_roles : (k r : ℕ) → s.active k r ≡ true → Declared d (Things Role) r
  pub held_roles : (k r : ℕ) → s.active k r ≡ true → Holds s k r
  pub apart : (k a b : ℕ) → s.active k a ≡ true → s.active k b ≡ true → parted d a b ≡ true → ⊥

-- the changes of a session, in words

pub at_other : (f : ℕ → Option ℕ) (k j : ℕ) (v : Option ℕ) → eqb k j ≡ false → with_at f k v j ≡ f j
unfolding with_at
at_other f k j v e = cond-false (eqb k j) v (f j) e

pub session_old : (f : ℕ → ℕ → Bool) (k j a : ℕ) → without_session f k j a ≡ true → (eqb k j ≡ false) × (f j a ≡ true)
unfolding without_session
session_old f k j a h = let p = and_parts (not (eqb k j)) (f j a) h in (not-true (eqb k j) p.0, p.1)

pub active_cases : (f : ℕ → ℕ → Bool) (k r j a : ℕ) → with_active f k r j a ≡ true → ((k ≡ j) × (r ≡ a)) ⊎ (f j a ≡ true)
unfolding with_active
active_cases f k r j a h = ⊎_elim (λ t. let p = and_parts (eqb k j) (eqb r a) t in inl (eqb-true k j p.0, eqb-true r a p.1)) inr (or_cases (eqb k j && eqb r a) (f j a) h)

active_old : (f : ℕ → ℕ → Bool) (k r j a : ℕ) → without_active f k r j a ≡ true → f j a ≡ true
unfolding without_active
active_old f k r j a h = (and_parts (not (eqb k j && eqb r a)) (f j a) h).1

-- the order of two roles does not matter
parted_turned : (d : Draft) (a b : ℕ) → parted d a b ≡ true → parted d b a ≡ true
parted_turned d a b h = ⊎_elim
    (or_right (related d DynamicSeparation b a) (related d DynamicSeparation a b))
    (or_left (related d DynamicSeparation b a) (related d DynamicSeparation a b))
    (or_cases (related d DynamicSeparation a b) (related d DynamicSeparation b a) h)

module _ (d : Draft) where
  -- the session k ends, or starts anew
  renewed : (s : State) (k : ℕ) (v : Option ℕ) → Orderly d s
      → Orderly d (record { pairs = s.pairs; held = s.held; lease = s.lease; session = with_at s.session k v; active = without_session s.active k })
  renewed s k v h =
      record {
        declared_roles = λ j r e. h.declared_roles j r (session_old s.active k j r e).1;
        held_roles = λ j r e.
            let p = session_old s.active k j r e in
            let w = h.held_roles j r p.1 in
            (w.0, at_other s.session k j v p.0 ∙ w.1, w.2);
        apart = λ j a b x y. h.apart j a b (session_old s.active k j a x).1 (session_old s.active k j b y).1;
      }

  activated : (s : State) (k r : ℕ) → Orderly d s → judge d s (Activate k r) ≡ Accepted → Orderly d (effect s (Activate k r))
  activated s k r h a =
      record {
        declared_roles = λ j b e. ⊎_elim (λ q. subst (λ n. Declared d (Things Role) n) q.1 role) (h.declared_roles j b) (active_cases s.active k r j b e);
        held_roles = λ j b e. ⊎_elim
            (λ q. subst (λ n. Holds s n b) q.0 (subst (λ n. Holds s k n) q.1 held))
            (h.held_roles j b)
            (active_cases s.active k r j b e);
        apart = λ j b c x y z. ⊎_elim
            (λ q. ⊎_elim
            (λ m. both_ways (parted d r r) alone (subst (λ n. parted d r n ≡ true) (sym m.1) (subst (λ n. parted d n c ≡ true) (sym q.1) z)))
            (λ m. clear c (subst (λ n. s.active n c ≡ true) (sym q.0) m) (subst (λ n. parted d n c ≡ true) (sym q.1) z))
            (active_cases s.active k r j c y))
            (λ q. ⊎_elim
            (λ m. clear b (subst (λ n. s.active n b ≡ true) (sym m.0) q) (parted_turned d b r (subst (λ n. parted d b n ≡ true) (sym m.1) z)))
            (λ m. h.apart j b c q m z)
            (active_cases s.active k r j c y))
            (active_cases s.active k r j b x);
      }
    where
      role : Declared d (Things Role) r
      role = (and_parts (is_session k) (declared d (Things Role) r) (not-false (is_session k && declared d (Things Role) r) (passed d s (Activate k r) a).0)).1

      held : Holds s k r
      held = (decides_holds s.held (s.session k) r).0 (not-false (holds_role s.held (s.session k) r) (passed d s (Activate k r) a).1.1.0)

      alone : parted d r r ≡ false
      alone = (or_parts (parted d r r) (some_below (λ n. s.active k n && parted d r n) 32) (passed d s (Activate k r) a).1.1.1.1.0).0

      clear : (b : ℕ) → s.active k b ≡ true → parted d r b ≡ true → ⊥
      clear b x z =
          both_ways (s.active k b && parted d r b)
          (some_left (λ n. s.active k n && parted d r n) 32 b
          (or_parts (parted d r r) (some_below (λ n. s.active k n && parted d r n) 32) (passed d s (Activate k r) a).1.1.1.1.0).1
          (declared_below d (Things Role) b (h.declared_roles k b x)))
          (and_from (s.active k b) (parted d r b) x z)

  pub orderly_after : (s : State) (c : Call) → Orderly d s → judge d s c ≡ Accepted → Orderly d (effect s c)
  orderly_after s (Acquire u w) h a = record { declared_roles = h.declared_roles; held_roles = h.held_roles; apart = h.apart }
  orderly_after s (Assign k x) h a = record { declared_roles = h.declared_roles; held_roles = h.held_roles; apart = h.apart }
  orderly_after s (Revoke k x) h a = record { declared_roles = h.declared_roles; held_roles = h.held_roles; apart = h.apart }
  orderly_after s (Release k) h a = record { declared_roles = h.declared_roles; held_roles = h.held_roles; apart = h.apart }
  orderly_after s (Start k w) h a = renewed s k (Some w) h
  orderly_after s (End k) h a = renewed s k None h
  orderly_after s (Activate k r) h a = activated s k r h a
  orderly_after s (Deactivate k r) h a =
      record {
        declared_roles = λ j b e. h.declared_roles j b (active_old s.active k r j b e);
        held_roles = λ j b e. h.held_roles j b (active_old s.active k r j b e);
        apart = λ j b c x y. h.apart j b c (active_old s.active k r j b x) (active_old s.active k r j c y);
      }
  orderly_after s (Check k v o conditions) h a = h

  pub orderly_opened : Orderly d (opened d)
  unfolding none_active
  orderly_opened = record { declared_roles = λ k r e. absurd (false≢true e); held_roles = λ k r e. absurd (false≢true e); apart = λ k a b x y z. false≢true x }

  pub orderly : (cs : List Call) → Orderly d (final d (opened d) cs)
  orderly cs = kept d (Orderly d) orderly_after (opened d) cs orderly_opened

  -- who holds which role never changes
  held_step : (s : State) (c : Call) → s.held ≡ related d UserRoles → judge d s c ≡ Accepted → (effect s c).held ≡ related d UserRoles
  held_step s (Acquire u w) h a = h
  held_step s (Assign k x) h a = h
  held_step s (Revoke k x) h a = h
  held_step s (Release k) h a = h
  held_step s (Start k w) h a = h
  held_step s (End k) h a = h
  held_step s (Activate k r) h a = h
  held_step s (Deactivate k r) h a = h
  held_step s (Check k v o conditions) h a = h

  pub held_roles_stay : (cs : List Call) → (final d (opened d) cs).held ≡ related d UserRoles
  held_roles_stay cs = kept d (λ s. s.held ≡ related d UserRoles) held_step (opened d) cs refl
