use Rattle.std.proofs.Common.{refl, arith}
use Rattle.model_archive.proofs.RefusalLemmas.{too_long-no, bad_text-yes}
use Rattle.archive_entries.proofs.text.text_of.Goals as goal

pub returns-in-Err : goal.returns-in-Err
returns-in-Err c =
    let short = too_long-no c.args.bytes.now (omega arith) in
    let bad = bad_text-yes c.args.bytes.now c.in-Err.ensures.cases.0 in
    rw (short, bad, c.valid_up_to.ensures, c.in-Err.ensures.valid_len) refl
