use Rattle.std.proofs.Common.{◌≡◌, ◌+◌, ◌<◌, ◌++◌, ◌∷◌, [], suc, List, length, drop, get_or, ap, sym, subst, ◌∙◌, arith, append_assoc}
use Rattle.plans_share.specs.Choices.{picked}
use Rattle.model_archive.specs.declared.sharing.Share.{Share}
use Rattle.model_archive.specs.Sharing.{shares_of}
use Rattle.archive_questions.specs.Sharers.{sharers}
use Rattle.archive_questions.proofs.ShareLemmas.{pick_there, picks_long, shares_next}
use Rattle.archive_questions.proofs.sharing.shares_by.Goals as goal

pub index-requires : goal.index-requires
index-requires c = omega (arith, picks_long c.args.offers.now c.args.choice.now.picks.items c.requires.picks, c.requires.long, c.loop-index-test.true)

pub point-taken-requires : goal.point-taken-requires
point-taken-requires c = record {
  there = rw (c.index.ensures, c.index-offers-index.is) (pick_there c.args.offers.now c.args.choice.now.picks.items c.loop-index.index c.index-offers-index.result c.index.result.now c.requires.picks (omega (arith, c.requires.long, c.loop-index-test.true)));
}

pub loop-index-preserved : goal.loop-index-preserved
loop-index-preserved c =
    let i = c.loop-index.index in
    let sealed = c.args.sealed.now in
    let offers = c.args.offers.now in
    let picks = c.args.choice.now.picks.items in
    let w = c.index-sealed-index.result in
    let o = c.index-offers-index.result in
    let p = c.index.result.now in
    let shares = c.loop-index.shares.items in
    let within : i < length sealed = omega (arith, c.loop-index-test.true) in
    let one : Share = record { word = c.in_ok-word.word; taken = c.point-taken.result } in
    let wanted : Share = record { word = (get_or sealed i w).word; taken = picked (get_or offers i o) (get_or picks i p) } in
    let taken : c.point-taken.result ≡ picked (get_or offers i o) (get_or picks i p) =
    c.point-taken.ensures ∙ ap (λ x. picked x p) c.index-offers-index.is ∙ ap (λ n. picked (get_or offers i o) n) c.index.ensures in
    let same : one ≡ wanted = λ j. record { word = c.in_ok-word.ensures.cases j; taken = taken j } in
    let rest = shares_of (sharers (drop (suc i) sealed)) (drop (suc i) offers) (drop (suc i) picks) in
    let next = shares_next sealed offers picks i w o p c.requires.long (picks_long offers picks c.requires.picks) within in
    let on : (shares ++ one ∷ []) ++ rest ≡ shares_of (sharers sealed) offers picks = append_assoc shares (one ∷ []) rest ∙ ap (λ (l : List Share). shares ++ l) (ap (λ (x : Share). x ∷ rest) same ∙ sym next) ∙ c.loop-index.invariant in
    let e : suc i ≡ i + 1 = omega arith in
    rw c.in_ok-push.ensures.items (subst (λ n. (shares ++ one ∷ []) ++ shares_of (sharers (drop n sealed)) (drop n offers) (drop n picks) ≡ shares_of (sharers sealed) offers picks) e on)
