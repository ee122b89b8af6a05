use Rattle.std.proofs.Common.{arith, ap, inl, subst, sym, ◌≡◌, ◌+◌, ℕ, List, Err}
use Rattle.archive_entries.specs.Replaying.{IsFaulty}
use Rattle.archive_entries.proofs.replaying.apply.Goals as goal

pub returns-in-Ok-clause-bad : goal.returns-in-Ok-clause-bad
returns-in-Ok-clause-bad c = λ h reached loads at is.
    let F : List ℕ → Type 0 = λ b. IsFaulty c.args.head.now.gate h b at in
    subst F (sym c.in-Ok.ensures.found.1) (c.apply_entry.ensures.bad h reached loads at is)

-- the place in a body lies in front of its end
pub overflow_add-result : goal.overflow_add-result
overflow_add-result c =
    let fault = c.in-Err-Form.ensures.fault c.in-Err-Form.at (ap Err c.in-Err-Form.field-0-is) in
    omega (arith, fault.within, c.in-Err-Form.at-is, c.requires.within, c.requires.len)

pub returns-in-Err-Form-clause-bad : goal.returns-in-Err-Form-clause-bad
returns-in-Err-Form-clause-bad c = λ h reached loads at is.
    let fault = c.in-Err-Form.ensures.fault c.in-Err-Form.at (ap Err c.in-Err-Form.field-0-is) in
    let same = c.in-Err-Form.at-is in
    let place : at ≡ c.args.head.now.body + c.in-Err-Form.at = cc in
    inl (c.in-Err-Form.at, fault, omega (arith, place, c.requires.place))
