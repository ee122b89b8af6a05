use Rattle.std.proofs.Common.{◌≤◌, ◌∙◌, ap, Some, length, le-leb, arith, refl}
use Rattle.std.specs.Str.{is_utf8}
use Rattle.std.proofs.lemmas.Bool.{false_from_ne_true}
use Rattle.std.proofs.lemmas.Str.{IsUtf8-from_is_utf8, is_utf8-from_IsUtf8}
use Rattle.base_commands.proofs.phrase.Phrase.new.Goals as goal

pub returns-in_ok-from_str-in-Ok : goal.returns-in_ok-from_str-in-Ok
returns-in_ok-from_str-in-Ok c =
    let text = is_utf8-from_IsUtf8 c.args.bytes.now c.in-Ok.ensures.cases.1 in
    let short : length c.args.bytes.now ≤ 4096 = omega arith in
    rw (text, le-leb (length c.args.bytes.now) 4096 short) (ap Some (c.in_ok-from_str-in-Ok.ensures.ok ∙ c.in-Ok.ensures.cases.0))

pub returns-in-Err : goal.returns-in-Err
returns-in-Err c = rw (false_from_ne_true (is_utf8 c.args.bytes.now) (λ text. c.in-Err.ensures.cases.0 (IsUtf8-from_is_utf8 c.args.bytes.now text))) refl
