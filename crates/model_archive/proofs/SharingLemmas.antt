-- A budget that words share: what is told of it, and that there is such a reply; and what is noted.
use Rattle.std.proofs.Common.{◌≡◌, ℕ, ◌+◌, List, [], ◌∷◌, refl, ap, sym, ◌∙◌}
use Rattle.base_types.specs.declared.fraction.Fraction.{Fraction}
use Rattle.base_types.specs.declared.posting.Posting.{Posting}
use Rattle.base_commands.specs.declared.command.Command.{Command}
use Rattle.base_commands.specs.declared.command.Command.TheVariants as commands
use Rattle.base_commands.specs.declared.command.Kind.TheVariants.{Uniform}
use Rattle.plans_space.specs.Caps as caps
use Rattle.plans_share.specs.Asked.{asked_in}
use Rattle.plans_share.specs.Choices.{Offered, total}
use Rattle.plans_share.specs.Offers.{AreOffers, Sharer, shared_cap}
use Rattle.plans_share.specs.declared.asked.Asking.{Asking}
use Rattle.plans_share.proofs.ThereIsAChoice.{each_has_an_offer, each_have_a_best}
use Rattle.query_lang.specs.Tokens.{term_of}
use Rattle.query_lang.proofs.ReadingLaws.{is_read, one_reading}
use Rattle.query_lang.specs.Machine.{read}
use Rattle.text_words.specs.Terms.{one_term}
use Rattle.model_archive.specs.declared.refusal.Refusal.{Refusal}
use Rattle.model_archive.specs.declared.sharing.Share.{Share}
use Rattle.model_archive.specs.declared.summary.Summary.{Summary}
use Rattle.model_archive.specs.Histories.{History}
use Rattle.model_archive.specs.Planning.{IsListUpTo, last_second}
use Rattle.model_archive.specs.Sharing.{IsShared, Notes, OfPhrases, asked_with, shares_of, with_sharer}
use Rattle.model_archive.specs.Steps.{Reply, Planned, RefusedIn, Shared, Shares}
use Rattle.model_archive.specs.Worlds.{World}
use Rattle.model_archive.proofs.PlanningLemmas.{each_phrase, of_phrase}

-- ---- states

-- two states are the same by their histories, what was asked, and what is being written
pub one_world : {next then : World} → next.history ≡ then.history → next.asked ≡ then.asked → next.job ≡ then.job → next ≡ then
one_world e f g = λ i. record { history = e i; asked = f i; job = g i }

-- each command notes something, and one thing
pub each_noted : (asked : List Asking) (c : Command) → (new : List Asking) × Notes asked c new
each_noted asked (commands.Find at expr) = (asked_with asked at (read term_of expr), (read term_of expr, is_read term_of expr, refl))
each_noted asked other = (asked, refl)

pub one_noted : (asked : List Asking) (c : Command) (one other : List Asking) → Notes asked c one → Notes asked c other → one ≡ other
one_noted asked (commands.Find at expr) one other a b = a.2 ∙ ap (asked_with asked at) (one_reading term_of expr a.0 b.0 a.1 b.1) ∙ sym b.2
one_noted asked c one other a b = a ∙ sym b

-- ---- a reply

each_have_offers : (asked : List Asking) (horizon shared : ℕ) (words : List Sharer) → (offers : List Offered) × AreOffers asked horizon shared words offers
each_have_offers asked horizon shared [] = ([], tt)
each_have_offers asked horizon shared (s ∷ words) =
    let (offer, is) = each_has_an_offer (asked_in asked s.word) s.list horizon shared in
    let (offers, are) = each_have_offers asked horizon shared words in
    (offer ∷ offers, (is, are))

-- each words share a budget in some way
each_are_told : (asked : List Asking) (horizon : ℕ) (factor : Fraction) (words : List Sharer)
    → (reply : Reply) × ((shares : List Share) × (unit budget cost : ℕ) × IsShared asked horizon factor words shares unit budget cost × (reply ≡ Shared shares unit budget cost))
each_are_told asked horizon factor words =
    let unit = caps.unit (shared_cap factor words) in
    let budget = caps.budget (shared_cap factor words) in
    let (offers, are) = each_have_offers asked horizon unit words in
    let (picks, best) = each_have_a_best offers budget in
    let shares = shares_of words offers picks in
    let cost = total (λ p. p.cost) offers picks in (
      Shared shares unit budget cost,
      (shares, unit, budget, cost, record { unit_is = refl; budget_is = refl; offers = offers; offers_are = are; picks = picks; best = best; shares_are = refl; cost_is = refl }, refl),
    )

each_sharers : (h : History) {R : Type 0} (Refuses : R → ℕ → Refusal → Type 0) → ((number : ℕ) (why : Refusal) → (r : R) × Refuses r number why)
    → ((word : List ℕ) → (list : List Posting) × IsListUpTo h word (last_second h) list)
    → (phrases : List (List ℕ)) (number : ℕ) (GoesOn : R → List Sharer → Type 0) → ((words : List Sharer) → (r : R) × GoesOn r words) → (r : R) × OfPhrases h number phrases (Refuses r) (GoesOn r)
each_sharers h Refuses refused lists [] number GoesOn goes = goes []
each_sharers h {R} Refuses refused lists (phrase ∷ phrases) number GoesOn goes =
    each_phrase Uniform h (λ (r : R) why. Refuses r number why)
    (λ (r : R) word list. OfPhrases h (number + 1) phrases (Refuses r) (λ words. GoesOn r (with_sharer (record { word = word; list = list }) words)))
    (refused number) lists
    (λ word list is some narrow. each_sharers h Refuses refused lists phrases (number + 1) (λ r words. GoesOn r (with_sharer (record { word = word; list = list }) words))
    (λ words. goes (with_sharer (record { word = word; list = list }) words)))
    (one_term phrase)

pub each_shares : (asked : List Asking) (h : History) (phrases : List (List ℕ)) (factor : Fraction) → ((word : List ℕ) → (list : List Posting) × IsListUpTo h word (last_second h) list)
    → (reply : Reply) × Shares asked h phrases factor reply
each_shares asked h phrases factor lists =
    each_sharers h (λ (reply : Reply) number why. reply ≡ RefusedIn why number) (λ number why. (RefusedIn why number, refl)) lists phrases 1
    (λ reply words. (shares : List Share) × (unit budget cost : ℕ) × IsShared asked (last_second h) factor words shares unit budget cost × (reply ≡ Shared shares unit budget cost))
    (λ words. each_are_told asked (last_second h) factor words)

-- what follows from each refusal, and from what goes on, follows of phrases
pub of_phrases : (h : History) (Q : Type 0) (Refuses : ℕ → Refusal → Type 0) → ((number : ℕ) (why : Refusal) → Refuses number why → Q)
    → (phrases : List (List ℕ)) (number : ℕ) (GoesOn : List Sharer → Type 0) → ((words : List Sharer) → GoesOn words → Q) → OfPhrases h number phrases Refuses GoesOn → Q
of_phrases h Q Refuses refused [] number GoesOn goes of = goes [] of
of_phrases h Q Refuses refused (phrase ∷ phrases) number GoesOn goes of =
    of_phrase Uniform h Q (Refuses number) (λ word list. OfPhrases h (number + 1) phrases Refuses (λ words. GoesOn (with_sharer (record { word = word; list = list }) words))) (one_term phrase) (refused number)
    (λ word list key is some on. of_phrases h Q Refuses refused phrases (number + 1) (λ words. GoesOn (with_sharer (record { word = word; list = list }) words)) (λ words. goes (with_sharer (record { word = word; list = list }) words)) on)
    of

-- nothing is stored by it
pub shares_nothing : (asked : List Asking) (h : History) (phrases : List (List ℕ)) (factor : Fraction) (summary : Summary) → Shares asked h phrases factor (Planned summary) → ⊥
shares_nothing asked h phrases factor summary shares =
    of_phrases h ⊥ (λ number why. Planned summary ≡ RefusedIn why number) (λ number why is. absurd cc) phrases 1
    (λ words. (shares : List Share) × (unit budget cost : ℕ) × IsShared asked (last_second h) factor words shares unit budget cost × (Planned summary ≡ Shared shares unit budget cost))
    (λ words told. let is = told.5 in absurd cc) shares
