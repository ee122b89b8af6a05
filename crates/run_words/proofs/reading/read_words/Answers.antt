use Rattle.std.proofs.Common.{◌≡◌, ◌∙◌, List, codes}
use Rattle.clap.specs.Words.{Text, app_of}
use Rattle.run_words.specs.Words.{AreTaken, command, texts}
use Rattle.run_words.proofs.ReadLemmas.{taken, has_flag, has_given, not_taken, read, refused}
use Rattle.run_words.proofs.reading.read_words.Goals as goal

pub returns : goal.returns
returns c =
    let words : List Text = texts c.args.words.now in
    let command_is : app_of c.in_ok-command.field-0 ≡ command = c.in_ok-command.ensures in
    let takes : AreTaken words = taken (app_of c.in_ok-command.field-0) words command_is c.in_ok-matches.ensures.kinds in
    let values = has_given (app_of c.in_ok-command.field-0) words c.in_ok-matches.matches command_is c.in_ok-matches.ensures.matches in
    let seed_is = c.get_str-seed.ensures ∙ values (codes "generate") in
    let count_is = c.get_str-count.ensures ∙ values (codes "count") in
    let from_is = c.get_str-from.ensures ∙ values (codes "export") in
    let follow_is = c.unwrap_or-follow.ensures ∙ has_flag _ (app_of c.in_ok-command.field-0) words c.in_ok-matches.matches command_is c.in_ok-matches.ensures.matches
    (codes "follow") c.get_one.result c.get_one.ensures.none c.get_one.ensures.value in
    record {
      read = read words takes c.task_of.result c.ok_or.result c.ok_or.ensures.value (rw (seed_is, count_is, from_is, follow_is) at c.task_of.ensures.some);
      refused = refused words takes c.task_of.result c.ok_or.result c.ok_or.ensures.value (rw (seed_is, count_is, from_is, follow_is) at c.task_of.ensures.none);
    }

pub returns-in_err-matches-clause-refused : goal.returns-in_err-matches-clause-refused
returns-in_err-matches-clause-refused c =
    not_taken (app_of c.in_ok-command.field-0) (texts c.args.words.now) c.in_err-matches.field-0.0 c.from_residual-in_err-matches.result c.in_ok-command.ensures
    c.in_err-matches.ensures.kinds c.from_residual-in_err-matches.ensures.1
