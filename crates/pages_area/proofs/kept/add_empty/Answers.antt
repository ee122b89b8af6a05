use Rattle.std.proofs.Common.{ap, ◌∙◌}
use Rattle.pages_area.proofs.EntryLemmas.{put-new}
use Rattle.pages_area.proofs.kept.add_empty.Goals as goal

pub returns-in-Ok-clause-added : goal.returns-in-Ok-clause-added
returns-in-Ok-clause-added c = record {
  piece = c.new.result;
  entries = ap (λ d. d.entries) c.in-Ok.ensures.entries ∙ put-new c.args.page c.args.kept.now c.new.result c.requires.other c.requires.order.most c.requires.order.room;
  room = ap (λ d. d.cap) c.in-Ok.ensures.entries;
}
