use Rattle.std.proofs.Common.{◌≡◌, ◌+◌, ◌≤◌, ◌<◌, ◌++◌, ◌∷◌, [], ℕ, List, take, length, ap, sym, subst, ◌∙◌, arith}
use Rattle.std.proofs.lemmas.List.{length_push, map-append, take_more}
use Rattle.std.proofs.lemmas.List.Elements.{All-append, All-cons, All-nil}
use Rattle.plans_share.specs.Asked.{asked_in}
use Rattle.plans_share.specs.Choices.{Offered}
use Rattle.plans_share.specs.Offers.{AreOffers, IsOffer, Sharer}
use Rattle.plans_share.specs.Steps.{AreCheap}
use Rattle.archive_hand.specs.declared.sealing.Sealed.{Sealed}
use Rattle.archive_questions.specs.Sharers.{sharer, sharers}
use Rattle.archive_questions.proofs.ShareLemmas.{offers_more}
use Rattle.archive_questions.proofs.sharing.offers_for.Goals as goal

pub loop-word-preserved : goal.loop-word-preserved
loop-word-preserved c =
    let i = c.loop-word.word-index in
    let sealed = c.args.sealed.now in
    let word = c.word-item.result in
    let offer = c.in_ok-offer.offer in
    let offers = c.loop-word.offers.items in
    let asked = c.args.asked.now in
    let unit = c.args.limits.unit in
    let items = c.in_ok-push.ensures.items in
    let within : i < length sealed = omega (arith, c.loop-word-test.true) in
    let more : take (i + 1) sealed ≡ take i sealed ++ word ∷ [] = take_more sealed i word within ∙ ap (λ (x : Sealed). take i sealed ++ x ∷ []) (sym c.word-item.is) in
    let Front : Offered → Type 0 = λ o. length o.front ≤ 4097 in
    record {
      offers = λ horizon ends. (
          let ends_at = ap (λ (x : Sealed). x.horizon.seconds) c.word-item.is ∙ ends i word within in
          let one = subst (λ (n : ℕ). IsOffer (asked_in asked word.word) word.list.items n unit offer) ends_at c.in_ok-offer.ensures.offer in
          rw (items, more) (subst (λ (l : List Sharer). AreOffers asked horizon unit l (offers ++ offer ∷ [])) (sym (map-append sharer (take i sealed) (word ∷ [])))
          (offers_more asked horizon unit (sharers (take i sealed)) offers (sharer word) offer (c.loop-word.invariant.offers horizon ends) one))
          );
      long = omega (arith, ap length items, length_push offers offer, c.loop-word.invariant.long);
      fronts = rw items (All-append Front offers (offer ∷ []) c.loop-word.invariant.fronts (All-cons Front offer [] c.in_ok-offer.ensures.few (All-nil Front)));
      cheap = rw items (All-append AreCheap offers (offer ∷ []) c.loop-word.invariant.cheap (All-cons AreCheap offer [] c.in_ok-offer.ensures.cheap (All-nil AreCheap)));
    }
