-- The look-up in the table as the code lists it.
use Rattle.std.proofs.Common.{◌≡◌, ℕ, Bool, true, false, cond, List, [], ◌∷◌, Some, Option, refl}
use Rattle.std.specs.Option.{option_map}
use Rattle.std.specs.List as std
use Rattle.std.specs.Str.{bytes_eq}
use Rattle.kinds.specs.Words.{find, listed}
use Rattle.kinds.specs.declared.kind.Kind.{Kind}
use Rattle.kinds.specs.declared.words.Word.{Word}

-- one entry, and what is found behind it
entry_first : (b : Bool) (e : Word) (x : Option Word) (y : Option Kind) → option_map (λ e. e.1) x ≡ y → option_map (λ e. e.1) (cond b (Some e) x) ≡ cond b (Some e.1) y
entry_first true e x y h = refl
entry_first false e x y h = h

pub find_listed : (es : List Word) (w : List ℕ) → option_map (λ e. e.1) (std.find (λ e. bytes_eq w e.0.now) es) ≡ find (listed es) w
unfolding find
find_listed [] w = refl
find_listed (e ∷ es) w = entry_first (bytes_eq w e.0.now) e _ _ (find_listed es w)
