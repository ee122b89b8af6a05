use Rattle.std.proofs.Common.{◌≡◌, ◌∙◌, ap, ap₂, codes, true}
use Rattle.std.proofs.lemmas.Result.{IfOk-weaker}
use Rattle.clap.specs.Words.{App, app_of, new_app, rule_of, with_rule}
use Rattle.clap.specs.Simple.{on_top, app_of_fields}
use Rattle.run_words.specs.Words.{flag, option}
use Rattle.run_words.proofs.command.command.Goals as goal

abbrev bare : App → App
bare = on_top (λ s. record s { no_binary_name = true })

pub returns : goal.returns
returns c =
    let name_is : app_of c.new.result ≡ new_app (codes "tt_archive") = c.new.ensures.app in
    let bare_is : app_of c.no_binary_name.result ≡ bare (new_app (codes "tt_archive")) = ap app_of_fields c.no_binary_name.ensures ∙ ap bare name_is in
    let first_is : rule_of c.option.result ≡ option (codes "generate") = c.option.ensures.rule in
    let second_is : rule_of c.option-2.result ≡ option (codes "count") = c.option-2.ensures.rule in
    let with_first : app_of c.in_ok-arg.field-0 ≡ with_rule (bare (new_app (codes "tt_archive"))) (option (codes "generate")) =
    c.in_ok-arg.ensures.shape c.option.ensures.local ∙ ap₂ with_rule bare_is first_is in
    let third_is : rule_of c.option-3.result ≡ option (codes "export") = c.option-3.ensures.rule in
    let with_second : app_of c.in_ok-arg-2.field-0 ≡ with_rule (with_rule (bare (new_app (codes "tt_archive"))) (option (codes "generate"))) (option (codes "count")) =
    c.in_ok-arg-2.ensures.shape c.option-2.ensures.local ∙ ap₂ with_rule with_first second_is in
    let fourth_is : rule_of c.flag.result ≡ flag (codes "follow") = c.flag.ensures.rule in
    let with_third : app_of c.in_ok-arg-3.field-0 ≡ with_rule (with_rule (with_rule (bare (new_app (codes "tt_archive"))) (option (codes "generate"))) (option (codes "count"))) (option (codes "export")) =
    c.in_ok-arg-3.ensures.shape c.option-3.ensures.local ∙ ap₂ with_rule with_second third_is in
    IfOk-weaker c.arg-4.result _ _ (λ r h. h.shape c.flag.ensures.local ∙ ap₂ with_rule with_third fourth_is) c.arg-4.ensures
