-- The unit whose task holds a pair, in lawful tables the only one.
use Rattle.std.proofs.Common.{◌≡◌, ℕ, true, eqb, Some, sym, ap, ◌∙◌}
use Rattle.lawful.specs.Checking.{is_lawful}
use Rattle.lawful.specs.Tasks.{held_by, Holder}
use Rattle.lawful.specs.declared.rule.Rule.TheVariants.{TasksApart}
use Rattle.lawful.specs.declared.task.Task.{Task}
use Rattle.lawful.proofs.Answering.{lawful_test}
use Rattle.std.proofs.lemmas.Bool.{eqb-true, eq-eqb}
use Rattle.std.proofs.lemmas.Bool.Decides.{same_from_decides}
use Rattle.tables.specs.declared.draft.Draft.{Draft}

module _ (d : Draft) (t : Task) (l e unit : ℕ) where
  pub holder_tells : is_lawful d ≡ true → (u : ℕ) → Holder d t l e (Some u) → eqb u unit ≡ held_by d t l e unit
  holder_tells h u w =
      same_from_decides (eqb u unit) (held_by d t l e unit)
      ((λ q. ap (held_by d t l e) (sym (eqb-true u unit q)) ∙ w.0), (λ q. eq-eqb u unit (sym (w.1 (lawful_test d h (TasksApart t)) unit q))))
      ((λ q. q), (λ q. q))
