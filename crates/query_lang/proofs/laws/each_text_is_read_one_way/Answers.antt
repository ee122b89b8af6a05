use Rattle.query_lang.specs.Machine.{read}
use Rattle.query_lang.specs.Tokens.{term_of}
use Rattle.query_lang.proofs.ReadingLaws.{is_read, one_reading}
use Rattle.query_lang.proofs.laws.each_text_is_read_one_way.Goals as goal

pub returns-clause-total : goal.returns-clause-total
returns-clause-total c = λ text. (read term_of text, is_read term_of text)

pub returns-clause-one : goal.returns-clause-one
returns-clause-one c = λ text r s. one_reading term_of text r s
