use Rattle.std.proofs.Common.{◌≡◌, length, take, drop}
use Rattle.values.specs.Letters.{letters, Blank}
use Rattle.values.proofs.name.Name.new.Given as goal

abbrev pub invariant-loop-place : goal.invariant-loop-place
invariant-loop-place l = (letters (drop l.place l.part) ≡ letters l.part) × (length l.bytes ≡ 24) × (take l.place l.bytes ≡ take l.place l.part) × Blank l.place l.bytes
