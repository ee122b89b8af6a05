use Rattle.std.proofs.lemmas.Result.{IfOk-weaker}
use Rattle.script_read.proofs.ReaderLemmas.{within-of}
use Rattle.script_read.proofs.reader.Reader.front.Goals as goal

pub returns-in-Some-clause-within : goal.returns-in-Some-clause-within
returns-in-Some-clause-within c = within-of c.front_of_text.new.self c.front_of_text.result c.front_of_text.ensures.small c.front_of_text.ensures.value

pub returns-in-None-clause-within : goal.returns-in-None-clause-within
returns-in-None-clause-within c =
    IfOk-weaker c.front_of_line.result _ _ (λ f e. within-of c.front_of_line.new.self f c.front_of_line.ensures.small e) c.front_of_line.ensures.value
