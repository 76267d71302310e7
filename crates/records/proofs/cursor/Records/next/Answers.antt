use Rattle.std.proofs.Common.{refl}
use Rattle.records.proofs.Progress.{over_record, over_fault}
use Rattle.records.proofs.cursor.Records.next.Goals as goal

pub returns-in-Ok : goal.returns-in-Ok
returns-in-Ok c =
    let got = c.in-Ok.ensures.reads in
    let goes = over_record c.args.self.now.text.now c.args.self.now.at c.in-Ok.record.next c.if-self.false got.1 got.2.0 got.2.2 in
    record { text = refl; room = c.read_record.ensures.room; onward = (goes.ahead, goes.within); gives = (got.0, refl, (got.2.0, got.2.1, goes)) }

pub returns-in-Err : goal.returns-in-Err
returns-in-Err c =
    let got = c.in-Err.ensures.reads in
    let next = c.behind_break-self.ensures in
    let goes = over_fault c.args.self.now.text.now c.args.self.now.at c.behind_break-self.result c.if-self.false next.within c.in-Err.fault.at _ got.1 next.behind in
    record { text = refl; room = c.read_record.ensures.room; onward = (goes.ahead, goes.within); gives = (c.in-Err.fault.at, c.from.ensures, goes) }
