-- That two lists of bytes are the same: an equivalence.
use Rattle.std.specs.Prelude.{◌≡◌, ℕ, true, List, refl}
use Rattle.std.proofs.Common.{sym, ◌∙◌}
use Rattle.std.specs.Str.{bytes_eq}
use Rattle.std.proofs.lemmas.Slice.Eq.{bytes_eq-Decides}
use Rattle.std.proofs.lemmas.Bool.Decides.{same_from_decides, Decides-like}

pub reflexive : (a : List ℕ) → bytes_eq a a ≡ true
reflexive a = (bytes_eq-Decides a a).1 refl

pub symmetric : (a b : List ℕ) → bytes_eq a b ≡ bytes_eq b a
symmetric a b = same_from_decides _ _ (bytes_eq-Decides a b) (Decides-like (bytes_eq b a) sym sym (bytes_eq-Decides b a))

pub transitive : (a b c : List ℕ) → bytes_eq a b ≡ true → bytes_eq b c ≡ true → bytes_eq a c ≡ true
transitive a b c p q = (bytes_eq-Decides a c).1 ((bytes_eq-Decides a b).0 p ∙ (bytes_eq-Decides b c).0 q)
