use Rattle.std.proofs.Common.{Err, ap, refl, sym, subst}
use Rattle.query_top.specs.Firsts.{Each}
use Rattle.query_top.specs.Sheets.{IsSheet}
use Rattle.query_best.proofs.OpeningLemmas.{bad-of, found-of}
use Rattle.query_best.proofs.ReadingLemmas.{held-sheets}
use Rattle.query_best.proofs.finding.best_rows.Goals as goal

pub returns-in-Ok-top_rows-clause-found : goal.returns-in-Ok-top_rows-clause-found
returns-in-Ok-top_rows-clause-found c = λ sheets zip each.
    let same = held-sheets c.args.words.items sheets zip in
    let each-held = subst (λ ss. Each (IsSheet c.args.at.seconds) ss) (sym same) each in
    found-of c.args.at.seconds c.args.weights.now c.args.count c.in-Ok-top_rows.rows.items (record { alloc = c.args.alloc; words = c.args.words; opened = 0 }) c.top_rows.new.blocks sheets refl same
    (c.in-Ok-top_rows.ensures.first each-held) (c.in-Ok-top_rows.ensures.opened each-held)

pub returns-in-Err-Blocks-clause-failed : goal.returns-in-Err-Blocks-clause-failed
returns-in-Err-Blocks-clause-failed c =
    (bad-of (record { alloc = c.args.alloc; words = c.args.words; opened = 0 }) c.top_rows.new.blocks c.in-Err-Blocks.error (c.in-Err-Blocks.ensures.fault c.in-Err-Blocks.error (ap (λ e. Err e) c.in-Err-Blocks.field-0-is))).1

pub returns-in-Err-Blocks-clause-damaged : goal.returns-in-Err-Blocks-clause-damaged
returns-in-Err-Blocks-clause-damaged c =
    (bad-of (record { alloc = c.args.alloc; words = c.args.words; opened = 0 }) c.top_rows.new.blocks c.in-Err-Blocks.error (c.in-Err-Blocks.ensures.fault c.in-Err-Blocks.error (ap (λ e. Err e) c.in-Err-Blocks.field-0-is))).0
