use Rattle.std.proofs.Common.{ap, ◌∙◌}
use Rattle.pages_area.specs.Inside.{kept_of}
use Rattle.pages_area.proofs.EntryLemmas.{of-ok, put-first}
use Rattle.pages_area.proofs.kept.refill.Goals as goal

pub returns-clause-first : goal.returns-clause-first
returns-clause-first g c =
    rw (← c.copy_from_slice.ensures.items)
    (ap (λ d. kept_of d.entries) (of-ok c.put.result _ (c.put.ensures.succeeds c.requires.known) c.put.ensures.entries)
    ∙ put-first c.args.page c.args.kept.now c.copy_from_slice.new.self c.requires.known)
