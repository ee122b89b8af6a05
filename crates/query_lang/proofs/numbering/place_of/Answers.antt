use Rattle.std.proofs.Common.{[], sym, ◌∙◌}
use Rattle.std.proofs.lemmas.Option.{get_or_from_slice_get}
use Rattle.text_words.proofs.CountLemmas.{same}
use Rattle.query_lang.proofs.numbering.place_of.Goals as goal

pub returns-clause-place : goal.returns-clause-place
returns-clause-place c =
    let h = c.in_ok-place.ensures.stored in
    get_or_from_slice_get c.insert_full.new.self.keys c.in_ok-place.place h.0 [] h.1 ∙ sym (same _ _ h.2) ∙ c.in_ok-clone.ensures.cases
