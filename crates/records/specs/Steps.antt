-- What a byte makes of a field, and what is read when the reading halts.
use Rattle.std.specs.Prelude.{◌≡◌, ℕ, ◌≤◌, Bool, true, false, cond, ◌⊎◌, List, [], ◌∷◌, ◌++◌, length, take, drop, Some, None, Option, ◌==◌, ◌≢◌, slice_index}
use Rattle.std.specs.List.{AllByRecursion}
use Rattle.records.specs.declared.scan.State.{State}
use Rattle.records.specs.declared.scan.State.TheVariants.{Bare, Quoted, AfterQuote}
use Rattle.records.specs.declared.scan.Step.{Step}
use Rattle.records.specs.declared.scan.Step.TheVariants as to
use Rattle.records.specs.declared.scan.Stop.{Stop}
use Rattle.records.specs.declared.scan.Stop.TheVariants as by
use Rattle.records.specs.declared.scan.Run.{Run}
use Rattle.records.specs.Grammar.{Plain, Doubled}

abbrev pub step_of : State → ℕ → Step
step_of Bare b = cond (b == 44) to.Comma (cond (b == 34) to.Fault (cond (b == 13) to.Cr (cond (b == 10) to.Fault (to.On Bare))))
step_of Quoted b = cond (b == 34) (to.On AfterQuote) (to.On Quoted)
step_of AfterQuote b = cond (b == 44) to.Comma (cond (b == 34) (to.On Quoted) (cond (b == 13) to.Cr to.Fault))

-- what the bytes of a field read so far are, by the state that they leave it in; the opening quote is not among them
abbrev pub Read : State → List ℕ → Type 0
Read Bare p = AllByRecursion Plain p
Read Quoted p = Doubled p
Read AfterQuote p = (q : List ℕ) × (p ≡ q ++ 34 ∷ []) × Doubled q

abbrev pub is_quoted : State → Bool
is_quoted Bare = false
is_quoted Quoted = true
is_quoted AfterQuote = true

-- the byte b, with t behind it, is at fault
abbrev pub Wrong : State → ℕ → List ℕ → Type 0
Wrong Bare b t = (b ≡ 34) ⊎ ((b ≡ 10) ⊎ ((b ≡ 13) × (slice_index t 0 ≢ 10)))
Wrong Quoted b t = ⊥
Wrong AfterQuote b t = (b ≢ 44) × (b ≢ 34) × (b ≡ 13 → slice_index t 0 ≢ 10)

-- what stands where the reading halts: what ends the field, or a byte at fault
abbrev pub Halts : Option Stop → State → List ℕ → Type 0
Halts (Some by.Comma) s rest = (t : List ℕ) × (rest ≡ 44 ∷ t) × (s ≢ Quoted)
Halts (Some by.Break) s rest = (t : List ℕ) × (rest ≡ 13 ∷ 10 ∷ t) × (s ≢ Quoted)
Halts (Some by.End) s rest = rest ≡ []
Halts None s rest = (b : ℕ) × (t : List ℕ) × (rest ≡ b ∷ t) × Wrong s b t

pub record Ran (start : State) (bs : List ℕ) (r : Run) : Type 0 where
  pub within : r.at ≤ length bs
  pub kind : is_quoted r.state ≡ is_quoted start
  pub read : Read r.state (take r.at bs)
  pub halts : Halts r.stop r.state (drop r.at bs)
