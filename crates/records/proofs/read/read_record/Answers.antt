use Rattle.std.proofs.Common.{[], ◌∷◌, ◌++◌, refl, inl, inr, arith, rules}
use Rattle.records.specs.Views.{piece}
use Rattle.records.proofs.Recording.{Stored, keeps_more, room_kept, one_more, last_one, cut_there, fault_there, broken_there}
use Rattle.records.proofs.read.read_record.Goals as goal
use Rattle.records.proofs.read.read_record.Goals.{then-count-lt-KEPT_FIELDS, else-count-lt-KEPT_FIELDS}

pub loop-cut-preserved : goal.loop-cut-preserved
loop-cut-preserved c =
    let inv = c.loop-cut.invariant in
    let fs = inv.3.0 in
    let here = cut_there c.args.text.now c.loop-cut.at inv.0 (λ e f k. search rules) c.map_err.result c.front_field.result c.in_ok-cut.cut c.front_field.ensures c.map_err.ensures.cases c.in_ok-cut.was in
    let next = one_more c.args.text.now c.loop-cut.at inv.0 c.args.from fs inv.3.2 c.in_ok-cut.cut here c.in-Comma.is in
    let stored : Stored c.loop-cut.count c.loop-cut.fields c.in_ok-cut.cut.field c.if-count-lt-KEPT_FIELDS.fields =
    elim c.if-count-lt-KEPT_FIELDS.branch [ then-count-lt-KEPT_FIELDS w ↦ inl (w.if-count-lt-KEPT_FIELDS.true, w.fields-is) | else-count-lt-KEPT_FIELDS w ↦ inr (w.if-count-lt-KEPT_FIELDS.false, w.fields-is) ] in
    (next.0, omega (arith, next.1), room_kept _ _ _ _ inv.2 stored, (fs ++ piece c.in_ok-cut.cut.field ∷ [], keeps_more _ _ _ _ fs inv.2 inv.3.1 stored, next.2))

pub returns-in-Break : goal.returns-in-Break
returns-in-Break c =
    let inv = c.loop-cut.invariant in
    let fs = inv.3.0 in
    let here = cut_there c.args.text.now c.loop-cut.at inv.0 (λ e f k. search rules) c.map_err.result c.front_field.result c.in_ok-cut.cut c.front_field.ensures c.map_err.ensures.cases c.in_ok-cut.was in
    let next = last_one c.args.text.now c.loop-cut.at inv.0 c.args.from fs inv.3.2 c.in_ok-cut.cut here c.in-Break.is in
    let stored : Stored c.loop-cut.count c.loop-cut.fields c.in_ok-cut.cut.field c.if-count-lt-KEPT_FIELDS.fields =
    elim c.if-count-lt-KEPT_FIELDS.branch [ then-count-lt-KEPT_FIELDS w ↦ inl (w.if-count-lt-KEPT_FIELDS.true, w.fields-is) | else-count-lt-KEPT_FIELDS w ↦ inr (w.if-count-lt-KEPT_FIELDS.false, w.fields-is) ] in
    record { room = room_kept _ _ _ _ inv.2 stored; reads = (refl, next.0, (fs ++ piece c.in_ok-cut.cut.field ∷ [], keeps_more _ _ _ _ fs inv.2 inv.3.1 stored, next.1)) }

pub returns-in_err-cut-clause-reads : goal.returns-in_err-cut-clause-reads
returns-in_err-cut-clause-reads c =
    let inv = c.loop-cut.invariant in
    let there = fault_there c.args.text.now c.loop-cut.at inv.0 (λ e f k. search rules) c.map_err.result c.front_field.result c.in_err-cut.field-0.0 c.front_field.ensures c.map_err.ensures.cases c.in_err-cut.was in
    broken_there c.args.text.now c.loop-cut.at inv.0 c.args.from inv.3.0 c.loop-cut.fields c.in_err-cut.field-0.0 c.from_residual.result inv.3.2 there c.from_residual.ensures.1
