use Rattle.std.proofs.Common.{ap, encode_utf8_all}
use Rattle.std.proofs.lemmas.Str.{encodes_same}
use Rattle.caseless.specs.Caseless.{canonical_key}
use Rattle.text_words.proofs.KeyLemmas.{one_term_by_keys}
use Rattle.text_words.proofs.laws.keys_match_without_case.Goals as goal

pub returns : goal.returns
returns c = record {
  keys = λ one other. (encodes_same (canonical_key one) (canonical_key other), ap encode_utf8_all);
  terms = λ one other h g. let k = one_term_by_keys one other h g in (λ e. encodes_same (canonical_key one) (canonical_key other) (k.0 e), λ e. k.1 (ap encode_utf8_all e));
}
