use Rattle.std.proofs.Common.{◌≡◌, sym, ◌∙◌, chars}
use Rattle.std.proofs.lemmas.Str.{chars_from_encodes}
use Rattle.unicode_normalization.specs.Forms.{nfd}
use Rattle.caseless.specs.Caseless.{default_case_fold}
use Rattle.text_words.proofs.runs.folded.Goals as goal

pub returns : goal.returns
returns c =
    let one : nfd (chars c.args.run.now) ≡ chars c.as_str.result.now = chars_from_encodes _ _ c.as_str.utf8 (sym (c.as_str.ensures.value ∙ c.in_ok-decomposed.ensures)) in
    let two : default_case_fold (chars c.as_str.result.now) ≡ chars c.as_str-2.result.now = chars_from_encodes _ _ c.as_str-2.utf8 (sym (c.as_str-2.ensures.value ∙ c.in_ok-folded.ensures)) in
    rw (one, two) c.to_nfd-2.ensures
