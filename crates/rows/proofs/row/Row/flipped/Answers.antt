use Rattle.std.proofs.Common.{◌≡◌, ap, ◌∙◌}
use Rattle.rows.specs.Rows.{numbers, row_flipped}
use Rattle.rows.proofs.Bits.{bits_flip, word_flip}
use Rattle.rows.proofs.row.Row.flipped.Goals as goal

pub returns : goal.returns
returns c =
    let e : record { bits = _ } ≡ row_flipped c.args.self c.args.number = λ i. record { bits = word_flip c.args.self.bits c.args.number c.requires i } in
    record {
      each = λ k. ap (λ x. numbers x k) e ∙ bits_flip c.args.self.bits c.args.number k c.requires;
      exact = e;
    }
