use Rattle.std.specs.Prelude.{ℕ, Bool, true, false, cond, List, Some, None, codes, Option}
use Rattle.std.specs.Str.{bytes_eq}

-- what a flag says
abbrev pub flag_of : List ℕ → Option Bool
flag_of s = cond (bytes_eq s (codes "true")) (Some true) (cond (bytes_eq s (codes "false")) (Some false) None)
