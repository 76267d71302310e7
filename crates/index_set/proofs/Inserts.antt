-- What an insertion answers where the item is not there.
use Rattle.std.proofs.Common.{◌≡◌, ℕ, ◌<◌, ◌≤◌, Bool, cond, ltb, List, length, None, sym, ap, ◌∙◌}
use Rattle.std.proofs.lemmas.Bool.{lt-ltb, le-ltb}
use Rattle.index_set.specs.Found.{place_of}
use Rattle.index_set.specs.Inserting.{placed, insertion_of}
use Rattle.index_set.specs.declared.insertion.Insertion.TheVariants.{Inserted, Full}

module _ {X : Type 0} (alike : X → X → Bool) (xs : List X) (x : X) (n limit : ℕ) (absent : None ≡ place_of alike xs x) (long : length xs ≡ n) where
  by_room : insertion_of alike limit xs x ≡ cond (ltb n limit) (Inserted n) Full
  by_room = ap (λ o. placed o (length xs) limit) (sym absent) ∙ ap (λ k. placed None k limit) long

  pub inserts : n < limit → Inserted n ≡ insertion_of alike limit xs x
  inserts h = sym (by_room ∙ ap (λ b. cond b (Inserted n) Full) (lt-ltb n limit h))

  pub is_full_lem : limit ≤ n → Full ≡ insertion_of alike limit xs x
  is_full_lem h = sym (by_room ∙ ap (λ b. cond b (Inserted n) Full) (le-ltb n limit h))
