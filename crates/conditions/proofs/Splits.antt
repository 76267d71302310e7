-- What a joined source answers on either side of its cut.
use Rattle.std.proofs.Common.{◌≡◌, ℕ, ◌<◌, ◌≤◌, Bool, ltb, sym, ◌∙◌}
use Rattle.std.proofs.lemmas.Bool.{cond-true, cond-false, lt-ltb, le-ltb}
use Rattle.conditions.specs.Sources.{split_at}

pub split_below : (cut : ℕ) (s t : ℕ → Bool) (k : ℕ) (r : Bool) → k < cut → r ≡ s k → r ≡ split_at cut s t k
unfolding split_at
split_below cut s t k r h e = e ∙ sym (cond-true (ltb k cut) (s k) (t k) (lt-ltb k cut h))

pub split_above : (cut : ℕ) (s t : ℕ → Bool) (k : ℕ) (r : Bool) → cut ≤ k → r ≡ t k → r ≡ split_at cut s t k
unfolding split_at
split_above cut s t k r h e = e ∙ sym (cond-false (ltb k cut) (s k) (t k) (le-ltb k cut h))
