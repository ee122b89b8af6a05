-- How one budget is best spent on several words, under the times that were asked in a run.
use Rattle.std.specs.Prelude.{◌≡◌, ℕ, ◌+◌, Bool, not, bytes_eq, List, [], ◌∷◌, filter, Result, Ok, Err}
use Rattle.base_types.specs.declared.fraction.Fraction.{Fraction}
use Rattle.base_types.specs.declared.time.Time.{Time}
use Rattle.base_commands.specs.declared.command.Command.{Command}
use Rattle.base_commands.specs.declared.command.Command.TheVariants as commands
use Rattle.base_commands.specs.declared.command.Kind.TheVariants.{Uniform}
use Rattle.plans_space.specs.Caps as caps
use Rattle.plans_share.specs.Asked.{noted_all}
use Rattle.plans_share.specs.Choices.{Offered, IsBestChoice, picked, total}
use Rattle.plans_share.specs.Offers.{AreOffers, Sharer, shared_cap}
use Rattle.plans_share.specs.declared.asked.Asking.{Asking}
use Rattle.query_lang.specs.Grammar.{Query, IsRead}
use Rattle.query_lang.specs.Meaning.{words_of}
use Rattle.query_lang.specs.Tokens.{term_of}
use Rattle.text_words.specs.Terms.{one_term}
use Rattle.model_archive.specs.declared.refusal.Refusal.{Refusal}
use Rattle.model_archive.specs.declared.sharing.Share.{Share}
use Rattle.model_archive.specs.Histories.{History}
use Rattle.model_archive.specs.Planning.{OfPhrase}

-- ---- what was asked

-- what was asked before a query for a time, and that time with each of the query's words; a text that is none adds nothing
abbrev pub asked_with : List Asking → Time → Result Query ℕ → List Asking
asked_with asked at (Ok query) = noted_all asked (words_of query) at
asked_with asked at (Err place) = asked

-- what was asked before a command and after it: `find` alone is noted
abbrev pub Notes : List Asking → Command → List Asking → Type 0
Notes old (commands.Find at expr) new = (query : Result Query ℕ) × IsRead term_of expr query × (new ≡ asked_with old at query)
Notes old other new = new ≡ old

-- ---- who shares

-- the others' words
abbrev pub is_another : List ℕ → Sharer → Bool
is_another word s = not (bytes_eq s.word word)

-- a word in front of others, among which it doesn't count again
abbrev pub with_sharer : Sharer → List Sharer → List Sharer
with_sharer s words = s ∷ filter (is_another s.word) words

-- Phrases, of which the first has this number. Either the first that can't be planned is refused, by its number, or it goes on with their words and
-- these words' lists up to the last time, each word at its first place.
abbrev pub OfPhrases : History → ℕ → List (List ℕ) → (ℕ → Refusal → Type 0) → (List Sharer → Type 0) → Type 0
OfPhrases history number [] Refuses GoesOn = GoesOn []
OfPhrases history number (phrase ∷ phrases) Refuses GoesOn = OfPhrase Uniform history (one_term phrase) (Refuses number)
    (λ word list. OfPhrases history (number + 1) phrases Refuses
    (λ words. GoesOn (with_sharer (record { word = word; list = list }) words)))

-- ---- what they get

-- the shares that a choice gives: each word with the point of its offer that is taken
abbrev pub shares_of : List Sharer → List Offered → List ℕ → List Share
shares_of (s ∷ words) (offer ∷ offers) (pick ∷ picks) = (record { word = s.word; taken = picked offer pick }) ∷ shares_of words offers picks
shares_of words offers picks = []

-- The budget that the factor gives the words is shared so: these are the shares of a best choice, in units of so many postings. Any of the best may be
-- chosen.
pub record IsShared (asked : List Asking) (horizon : ℕ) (factor : Fraction) (words : List Sharer) (shares : List Share)
    (unit budget cost : ℕ) : Type 0 where
  pub unit_is : unit ≡ caps.unit (shared_cap factor words)
  pub budget_is : budget ≡ caps.budget (shared_cap factor words)
  pub offers : List Offered
  pub offers_are : AreOffers asked horizon unit words offers
  pub picks : List ℕ
  pub best : IsBestChoice offers budget picks
  pub shares_are : shares ≡ shares_of words offers picks
  pub cost_is : cost ≡ total (λ p. p.cost) offers picks
