use Rattle.std.proofs.Common.{◌∙◌, ◌++◌, sym, ap, map, string_bytes}
use Rattle.std.specs.Char.{to_ascii_lowercase}
use Rattle.text_words.proofs.KeyLemmas.{key-ascii}
use Rattle.text_words.proofs.runs.lowered.Goals as goal

pub returns : goal.returns
returns c =
    ap string_bytes c.replace.ensures.value ∙ c.make_ascii_lowercase.ensures.bytes
    ∙ ap (map to_ascii_lowercase) (c.in_ok-push_str.ensures.bytes ∙ ap (λ l. l ++ c.args.run.now) c.clear.ensures.bytes) ∙ sym (key-ascii c.args.run.now c.requires)
