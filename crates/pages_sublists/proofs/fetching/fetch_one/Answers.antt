use Rattle.std.proofs.Common.{◌≤◌, length, arith}
use Rattle.std.proofs.lemmas.Result.{IfOk-weaker}
use Rattle.pages_sublists.specs.Fetching.{IsFetched}
use Rattle.pages_sublists.proofs.AskLemmas.{lie_asked, lie_partly}
use Rattle.pages_checked.proofs.Longer.{spells_more}
use Rattle.pages_sublists.proofs.fetching.fetch_one.Goals as goal

pub returns-in-Err-Failed-clause-lie : goal.returns-in-Err-Failed-clause-lie
returns-in-Err-Failed-clause-lie g c = λ taken within lie.
    let part = c.in-Err-Failed.ensures.part in
    lie_partly taken c.args.place.now.extent c.read.new.buf c.args.cache.now c.read.new.self (part.0, (part.1.0, part.1.1.0)) within lie

pub returns-in-Err-Memory-clause-lie : goal.returns-in-Err-Memory-clause-lie
returns-in-Err-Memory-clause-lie g c = λ taken within lie.
    let part = c.in-Err-Memory.ensures.part in
    lie_partly taken c.args.place.now.extent c.read.new.buf c.args.cache.now c.read.new.self (part.0, (part.1.0, part.1.1.0)) within lie

pub returns-clause-lie : goal.returns-clause-lie
returns-clause-lie g c = λ taken within lie. lie_asked taken c.args.place.now.extent c.read.new.buf c.args.cache.now c.read.new.self (omega (arith, c.in-Ok.ensures.len)) c.in-Ok-read.ensures.asked within lie

pub returns-clause-short : goal.returns-clause-short
returns-clause-short g c =
    let s = c.args.segment in
    let bytes = c.deref.result.now in
    IfOk-weaker c.sifted.result (λ v. IsFetched c.args.layout c.args.place.now.digest s.bounds.from s.bounds.to s.bounds.horizon bytes v.items) (λ v. length v.items ≤ c.args.place.now.extent.bytes)
    (λ v fetched. omega (arith, c.in-Ok.ensures.len, c.deref.ensures.len, spells_more c.args.layout bytes v.items fetched.checked.spelled)) c.sifted.ensures.found
