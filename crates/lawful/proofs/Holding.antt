-- The unit whose task holds a pair.
use Rattle.std.proofs.Common.{◌≡◌, ℕ, ◌<◌, true, Some, None, Option, sym}
use Rattle.search.specs.Firsts.{first_below}
use Rattle.search.proofs.Finds.{first_at, first_never}
use Rattle.std.proofs.lemmas.Bool.{and_parts, both_ways}
use Rattle.tables.specs.declared.draft.Draft.{Draft}
use Rattle.lawful.specs.Tasks.{lefts_of, held_by, Holder}
use Rattle.lawful.specs.declared.task.Task.{Task}
use Rattle.lawful.proofs.Bounds.{related_bounded}

pub unit_below : (d : Draft) (t : Task) (l e u : ℕ) → held_by d t l e u ≡ true → u < 32
unit_below d t l e u h = (related_bounded d (lefts_of t) l u (and_parts _ _ h).0).1

pub holder_is : (d : Draft) (t : Task) (l e : ℕ) (o : Option ℕ) → o ≡ first_below (held_by d t l e) 32 → Holder d t l e o
holder_is d t l e None q = λ v h. both_ways _ (first_never (held_by d t l e) 32 (sym q) v (unit_below d t l e v h)) h
holder_is d t l e (Some u) q =
    let f = first_at (held_by d t l e) 32 u (sym q) in
    (f.1, λ apart v h. apart l e v u h f.1)
