use Rattle.std.proofs.Common.{◌≡◌, ◌∙◌}
use Rattle.std.specs.List.{list_any}
use Rattle.std.specs.Str.{bytes_eq}
use Rattle.lists_index.specs.Words.{words_in}
use Rattle.lists_index.specs.Indexes.{state_of, seen}
use Rattle.lists_index.proofs.Lookups.{is_some-same, known-is, contained}
use Rattle.lists_index.proofs.index.Index.knows.Goals as goal

pub returns : goal.returns
returns c = λ changes stands.
    let is : c.is_some.result ≡ list_any (bytes_eq c.args.word.now) (words_in changes) = c.is_some.ensures ∙ is_some-same _ c.number.result _ c.number.ensures ∙ known-is (seen (state_of c.args.self.now)) changes c.args.word.now stands in
    contained c.args.word.now (words_in changes) c.is_some.result is
