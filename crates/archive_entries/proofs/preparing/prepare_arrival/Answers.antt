use Rattle.std.proofs.Common.{ℕ, ◌<◌, ◌^◌, Some, Err, List, ap, sym, ◌∙◌, subst, rules}
use Rattle.lists_versions.specs.declared.change.Change.{Change}
use Rattle.lists_index.specs.Indexes.{IsPreparedFor, state_of}
use Rattle.model_archive.specs.Histories.{changes}
use Rattle.model_archive.proofs.RefusalLemmas.{arrival_refused-text}
use Rattle.archive_entries.proofs.PrepareLemmas.{arrive_refused, words_refused, arrival_prepared}
use Rattle.archive_entries.proofs.preparing.prepare_arrival.Goals as goal

pub returns-in-Err-clause-prepared : goal.returns-in-Err-clause-prepared
returns-in-Err-clause-prepared c = λ h placed indexed. arrival_refused-text h c.args.doc c.args.at c.args.text.now c.in-Err.why c.in-Err.ensures

pub returns-in-Err-may_come-clause-prepared : goal.returns-in-Err-may_come-clause-prepared
returns-in-Err-may_come-clause-prepared c = λ h placed indexed.
    arrive_refused c.args.directory.now.changes h c.args.doc c.args.at c.args.text.now c.in-Err-may_come.why _ placed c.in-Ok.ensures.0 c.in-Ok.ensures.1 (search rules) (search rules)

pub returns-in-Err-Full-clause-prepared : goal.returns-in-Err-Full-clause-prepared
returns-in-Err-Full-clause-prepared c = λ h placed indexed.
    let change : Change (List ℕ) = record { doc = c.args.doc; at = c.args.at; held = Some c.args.text.now } in
    let over = c.in-Err-Full.ensures.full (ap Err c.in-Err-Full.field-0-is) (changes h) change indexed (ap Some (sym c.in-Ok.ensures.2)) in
    words_refused c.args.directory.now.changes h c.args.doc c.args.at c.args.text.now placed c.in-Ok.ensures.0 c.in-Ok.ensures.1 (search rules) over ∙ ap Some (sym c.full_words.ensures)

pub returns-clause-prepared : goal.returns-clause-prepared
returns-clause-prepared c = λ h placed indexed.
    let fits : c.args.doc.0 < 2 ^ 32 = search rules in
    let change : Change (List ℕ) = record { doc = c.args.doc; at = c.args.at; held = Some c.args.text.now } in
    let within = c.in-Ok-prepare.ensures.fits (changes h) change indexed (ap Some (sym c.in-Ok.ensures.2)) in
    let made = arrival_prepared c.args.directory.now.changes h c.args.doc c.args.at c.args.text.now c.in-Ok.text.now c.in_ok-body.body.items placed
    fits c.in-Ok.ensures.0 c.in-Ok.ensures.1 c.in-Ok.ensures.2 (search rules) within c.in_ok-body.ensures.spelled in
    let P : List ℕ → Type 0 = λ t. IsPreparedFor (state_of c.args.index.now) c.args.doc (Some t) c.in-Ok-prepare.words in
    (made.0, subst P c.in-Ok.ensures.2 c.in-Ok-prepare.ensures.prepared, made.1)
