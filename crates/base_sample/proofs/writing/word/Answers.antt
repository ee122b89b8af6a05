use Rattle.std.proofs.Common.{◌≡◌, Some, refl, ap, ◌∙◌}
use Rattle.base_commands.specs.Phrases.{phrase_of}
use Rattle.base_sample.specs.Samples.{word}
use Rattle.base_sample.proofs.SampleLemmas.{phrase_of-word}
use Rattle.base_sample.proofs.writing.word.Goals as goal

pub unwrap-requires : goal.unwrap-requires
unwrap-requires c = let e : c.in_ok-phrase.phrase ≡ Some (word c.args.number) = c.in_ok-phrase.ensures ∙ ap phrase_of (c.as_bytes.ensures.value ∙ c.in_ok-text.ensures.ok) ∙ phrase_of-word c.args.number c.ranges.number.fits in rw e refl
