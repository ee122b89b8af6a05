use Rattle.std.proofs.Common.{◌≡◌, Err, ◌+◌, List, ap, sym, ◌∙◌, arith}
use Rattle.base_commands.specs.declared.command.Kind.TheVariants.{Uniform}
use Rattle.model_archive.specs.Planning.{last_second}
use Rattle.model_archive.specs.Sharing.{with_sharer}
use Rattle.plans_share.specs.Offers.{Sharer}
use Rattle.archive_questions.specs.Sharers.{EndsAt, IsPlannable, sharer, sharers}
use Rattle.archive_questions.proofs.ShareLemmas.{first_alike, first_all, first_few, first_goes_on, first_refused, map_phrases}
use Rattle.archive_questions.proofs.sharing.+sealed_from.Goals as goal

pub returns-in-Err-Refused-clause-refused : goal.returns-in-Err-Refused-clause-refused
returns-in-Err-Refused-clause-refused t c = λ h stands why index is.
    let same : c.args.number ≡ index = cc in
    let one : c.in-Err-Refused.why ≡ why = cc in
    rw (c.in-Some.ensures.cases).0 (first_refused h c.in-Some.phrase.now c.in-Some.rest.now c.args.number index c.in-Err-Refused.why why (c.in-Err-Refused.ensures.refused Uniform h stands c.in-Err-Refused.why (ap Err c.in-Err-Refused.field-0-is)) same one)

pub returns-in-Err-clause-refused : goal.returns-in-Err-clause-refused
returns-in-Err-clause-refused t c = λ h stands why index is.
    let first = c.in-Ok.sealed in
    rw (c.in-Some.ensures.cases).0 (first_goes_on h c.in-Some.phrase.now first.word first.list.items first.horizon.seconds c.in-Some.rest.now c.args.number (λ n because. (n ≡ index) × (because ≡ why)) (λ words. ⊥) (c.in-Ok.ensures.sealed h stands) c.in-Ok.ensures.some
    (c.sealed_from.ensures.refused h stands why index (c.in-Err.is ∙ is)))

pub returns-clause-sealed : goal.returns-clause-sealed
returns-clause-sealed t c = λ h stands.
    let first = c.in-Ok.sealed in
    let rest = c.in-Ok-sealed_from.rest.items in
    let all = c.in_ok-words.words.items in
    rw (c.in-Some.ensures.cases).0 (first_goes_on h c.in-Some.phrase.now first.word first.list.items first.horizon.seconds c.in-Some.rest.now c.args.number (λ n because. ⊥) (λ words. words ≡ sharers all) (c.in-Ok.ensures.sealed h stands) c.in-Ok.ensures.some
    (map_phrases h (λ n because. ⊥) (λ n because. ⊥) (λ n because none. none) c.in-Some.rest.now (c.args.number + 1) (λ words. words ≡ sharers rest) (λ words. with_sharer (sharer first) words ≡ sharers all)
    (λ words same. ap (λ (l : List Sharer). with_sharer (sharer first) l) same ∙ sym (first_alike first rest all c.in_ok-words.ensures)) (c.in-Ok-sealed_from.ensures.sealed h stands)))

pub returns-clause-plannable : goal.returns-clause-plannable
returns-clause-plannable t c =
    first_all IsPlannable c.in-Ok.sealed c.in-Ok-sealed_from.rest.items c.in_ok-words.words.items c.in_ok-words.ensures (record { some = c.in-Ok.ensures.some; few = c.in-Ok.ensures.few; early = c.in-Ok.ensures.early }) c.in-Ok-sealed_from.ensures.plannable

pub returns-clause-horizon : goal.returns-clause-horizon
returns-clause-horizon t c = λ h stands.
    first_all (EndsAt (last_second h)) c.in-Ok.sealed c.in-Ok-sealed_from.rest.items c.in_ok-words.words.items c.in_ok-words.ensures (c.in-Ok.ensures.sealed h stands).horizon_is (c.in-Ok-sealed_from.ensures.horizon h stands)

pub returns-clause-few : goal.returns-clause-few
returns-clause-few t c = omega (arith, first_few c.in-Ok.sealed c.in-Ok-sealed_from.rest.items c.in_ok-words.words.items c.in_ok-words.ensures, c.in-Ok-sealed_from.ensures.few, (c.in-Some.ensures.cases).1)
