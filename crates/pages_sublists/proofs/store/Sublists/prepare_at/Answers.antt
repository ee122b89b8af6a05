use Rattle.std.proofs.Common.{ap, sym, ◌∙◌, length, List, ℕ}
use Rattle.std.proofs.lemmas.List.{length-map}
use Rattle.base_types.specs.declared.time.Time.{Time}
use Rattle.pages_sublists.specs.Segments.{seconds}
use Rattle.pages_sublists.proofs.AtLemmas.{as_many}
use Rattle.pages_sublists.proofs.store.Sublists.prepare_at.Goals as goal

pub take_all-requires-clause-as_many : goal.take_all-requires-clause-as_many
take_all-requires-clause-as_many c =
    c.requires.as_many ∙ sym (length-map c.args.cuts.now (λ (t : Time). t.seconds)) ∙ sym (as_many c.args.layout c.args.list.now (seconds c.args.cuts.now) c.args.horizon.seconds)
    ∙ ap (λ (l : List (List ℕ)). length l) (sym (c.deref-2.ensures.value ∙ c.in_ok-spellings.ensures))
