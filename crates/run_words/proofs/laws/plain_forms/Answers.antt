use Rattle.run_words.proofs.PlainLemmas.{export_form, follow_form, no_words, one_option, plain_forms}
use Rattle.run_words.proofs.laws.plain_forms.Goals as goal

pub returns : goal.returns
returns c = record { none = no_words; both = plain_forms; export = export_form; follow = follow_form; one = one_option }
