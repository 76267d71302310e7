use Rattle.std.proofs.Common.{arith, lit<, ◌≤◌, ◌^◌}
use Rattle.std.proofs.Math.Nat.{pow-le-pow_right}
use Rattle.two_readers.proofs.main.Goals as goal

pub pow-texts-requires : goal.pow-texts-requires
pow-texts-requires c =
    let p : 5 ^ c.loop-len.len-counter ≤ 5 ^ 6 = pow-le-pow_right (lit< tt) c.loop-len-test.true in
    omega (arith, p)
