use Rattle.std.proofs.Common.{refl}
use Rattle.pages_sublists.proofs.joining.union_of.Goals as goal

pub returns-in-Err-Clash-clause-damaged : goal.returns-in-Err-Clash-clause-damaged
returns-in-Err-Clash-clause-damaged c =
    let clash = rw c.in-Err-Clash.field-0-is at c.in-Err-Clash.ensures.refused in
    (refl, (c.in-Err-Clash.one, (c.in-Err-Clash.other, (clash, refl))))
