use Rattle.std.proofs.Common.{ap}
use Rattle.script_read.proofs.ReaderLemmas.{stands-begun}
use Rattle.script_read.proofs.reader.Reader.begin_text.Goals as goal

pub returns-clause-stands : goal.returns-clause-stands
returns-clause-stands c =
    let begun = c.in_ok-over.ensures in
    c.front_of_text.ensures.stands c.args.self.now.bytes
    (stands-begun _ c.in-Some.over c.self.inside.start c.self.inside.buffer.items c.args.self.now.bytes _ c.in-Some.is begun.asks begun.start c.at_hand.ensures.value (ap (λ h. h.bytes) c.self.view_is))
