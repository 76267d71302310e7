-- The grammar of a text, as relations on lists of bytes: 44 is a comma, 34 a quote, 13 and 10 together a line break.
-- Of a text of n bytes, what is left of it, a list s, begins at the place n - length s.
use Rattle.std.specs.Prelude.{◌≡◌, ℕ, ◌+◌, ◌<◌, cond, ◌&&◌, ◌⊎◌, List, [], ◌∷◌, ◌++◌, length, drop, ◌==◌, ◌≢◌, slice_index}
use Rattle.std.specs.List.{AllByRecursion}
use Rattle.records.specs.declared.scan.Stop.{Stop}
use Rattle.records.specs.declared.scan.Stop.TheVariants.{Comma, Break, End}

-- a field: how it is written, its value, and the place of its first byte
pub data Piece : Type 0 where
  bare : List ℕ → ℕ → Piece
  quoted : List ℕ → ℕ → Piece

abbrev pub begins_at : Piece → ℕ
begins_at (bare v at) = at
begins_at (quoted v at) = at

-- of a text of n bytes, s is what is left at the place at
abbrev pub Left : ℕ → List ℕ → ℕ → Type 0
Left n s at = at + length s ≡ n

-- ---- fields

-- any byte but a comma, a quote, a CR and an LF
abbrev pub Plain : ℕ → Type 0
Plain b = (b ≢ 44) × (b ≢ 34) × (b ≢ 13) × (b ≢ 10)

-- any bytes, but quotes two by two
pub data Doubled : List ℕ → Type 0 where
  none : Doubled []
  other : {b : ℕ} {s : List ℕ} → (b ≢ 34) → Doubled s → Doubled (b ∷ s)
  pair : {b c : ℕ} {s : List ℕ} → b ≡ 34 → c ≡ 34 → Doubled s → Doubled (b ∷ c ∷ s)

-- the bytes w are the field
abbrev pub Writes : Piece → List ℕ → Type 0
Writes (bare v at) w = (w ≡ v) × AllByRecursion Plain v
Writes (quoted v at) w = (w ≡ 34 ∷ (v ++ 34 ∷ [])) × Doubled v

-- what ends a field, and what is left behind it
abbrev pub Behind : Stop → List ℕ → List ℕ → Type 0
Behind Comma rest after = rest ≡ 44 ∷ after
Behind Break rest after = rest ≡ 13 ∷ 10 ∷ after
Behind End rest after = (rest ≡ []) × (after ≡ [])

-- s is the field f, then what ends it, then after
pub record Opens (n : ℕ) (s : List ℕ) (f : Piece) (stop : Stop) (after : List ℕ) : Type 0 where
  pub word : List ℕ
  pub rest : List ℕ
  pub cut : s ≡ word ++ rest
  pub writes : Writes f word
  pub behind : Behind stop rest after
  pub place : Left n s (begins_at f)

-- ---- faults

-- behind the bytes p of a bare field, the next byte neither belongs to the field nor ends it:
-- a quote, unless it is the field's first byte, an LF, or a CR that no LF follows
abbrev pub Stray : List ℕ → List ℕ → Type 0
Stray p [] = ⊥
Stray p (b ∷ t) = ((b ≡ 34) × (0 < length p)) ⊎ ((b ≡ 10) ⊎ ((b ≡ 13) × (slice_index t 0 ≢ 10)))

-- behind a closing quote, the next byte is neither a quote nor ends the field
abbrev pub Amiss : List ℕ → Type 0
Amiss [] = ⊥
Amiss (b ∷ t) = (b ≢ 44) × (b ≢ 34) × (b ≡ 13 → slice_index t 0 ≢ 10)

-- s does not begin with a field: the byte k behind its beginning is at fault
pub data Faulty (s : List ℕ) (k : ℕ) : Type 0 where
  stray : (p rest : List ℕ) → s ≡ p ++ rest → AllByRecursion Plain p → Stray p rest → k ≡ length p → Faulty s k
  unclosed : (p : List ℕ) → s ≡ 34 ∷ p → Doubled p → k ≡ length s → Faulty s k
  amiss : (p rest : List ℕ) → s ≡ 34 ∷ (p ++ 34 ∷ rest) → Doubled p → Amiss rest → k ≡ length p + 2 → Faulty s k

-- ---- records

-- s is the fields fs, a comma behind each, then t
abbrev pub Commas : ℕ → List ℕ → List Piece → List ℕ → Type 0
Commas n s [] t = s ≡ t
Commas n s (f ∷ fs) t = (u : List ℕ) × Opens n s f Comma u × Commas n u fs t

-- s is a record of the fields fs, then after
pub record Whole (n : ℕ) (s : List ℕ) (fs : List Piece) (after : List ℕ) : Type 0 where
  pub before : List Piece
  pub last : Piece
  pub stop : Stop
  pub rest : List ℕ
  pub fields : fs ≡ before ++ last ∷ []
  pub front : Commas n s before rest
  pub ends : Opens n rest last stop after
  pub stops : stop ≡ Comma → ⊥

-- what is left behind the first line break, within quotes or not
abbrev pub after_break : List ℕ → List ℕ
after_break [] = []
after_break (b ∷ t) = cond (b == 13 && slice_index t 0 == 10) (drop 1 t) (after_break t)

-- s begins with a record that has a fault: bad is the place of its first byte at fault, and reading goes on with after
pub record Broken (n : ℕ) (s : List ℕ) (bad : ℕ) (after : List ℕ) : Type 0 where
  pub before : List Piece
  pub rest : List ℕ
  pub offset : ℕ
  pub front : Commas n s before rest
  pub faulty : Faulty rest offset
  pub place : bad + length rest ≡ n + offset
  pub onward : after ≡ after_break (drop offset rest)
