use Rattle.std.proofs.Common.{arith}
use Rattle.pages_sublists.proofs.AskLemmas.{lie_asked, lie_partly}
use Rattle.pages_sublists.proofs.framing.frames_of.Goals as goal

pub returns-in-Err-Failed-clause-lie : goal.returns-in-Err-Failed-clause-lie
returns-in-Err-Failed-clause-lie g c = λ taken within lie.
    let part = c.in-Err-Failed.ensures.part in
    lie_partly taken c.args.place.now.extent c.read.new.buf c.args.cache.now c.read.new.self (part.0, (part.1.0, part.1.1.0)) within lie

pub returns-in-Err-Memory-clause-lie : goal.returns-in-Err-Memory-clause-lie
returns-in-Err-Memory-clause-lie g c = λ taken within lie.
    let part = c.in-Err-Memory.ensures.part in
    lie_partly taken c.args.place.now.extent c.read.new.buf c.args.cache.now c.read.new.self (part.0, (part.1.0, part.1.1.0)) within lie

pub returns-clause-lie : goal.returns-clause-lie
returns-clause-lie g c = λ taken within lie. lie_asked taken c.args.place.now.extent c.read.new.buf c.args.cache.now c.read.new.self (omega (arith, c.in-Ok.ensures.len)) c.in-Ok-read.ensures.asked within lie
