-- A budget that words share: from what is known of the phrases one by one to what is told of all.
use Rattle.std.proofs.Common.{◌≡◌, ℕ, zero, suc, ◌+◌, ◌<◌, ◌≤◌, Bool, true, false, not, cond, List, [], ◌∷◌, ◌++◌, length, map, drop, get_or, All, Result, Ok, Err, IfOk, refl, ap, sym, subst, ◌∙◌, arith}
use Rattle.std.specs.Prelude.{bytes_eq, filter, sum_by}
use Rattle.std.proofs.Math.Seq.{drop-cons}
use Rattle.std.proofs.lemmas.List.Elements.{All-cons, All-filter}
use Rattle.std.proofs.lemmas.List.Sums.{count_by-le-length, length-filter}
use Rattle.machine_model.specs.States.{DiskState}
use Rattle.base_types.specs.declared.fraction.Fraction.{Fraction}
use Rattle.base_types.specs.declared.posting.Posting.{Posting}
use Rattle.base_commands.specs.declared.command.Kind.TheVariants.{Uniform}
use Rattle.base_commands.specs.declared.command.Item.{Item}
use Rattle.plans_partitions.proofs.Sums.{sum_by-map}
use Rattle.plans_space.specs.Caps as caps
use Rattle.plans_share.specs.Choices.{ArePicks, IsBestChoice, Offered, picked, total}
use Rattle.plans_share.specs.Offers.{AreOffers, IsOffer, Sharer}
use Rattle.plans_share.specs.Asked.{asked_in}
use Rattle.plans_share.specs.declared.asked.Asking.{Asking}
use Rattle.text_words.specs.Terms.{one_term}
use Rattle.model_archive.specs.declared.refusal.Refusal.{Refusal}
use Rattle.model_archive.specs.declared.sharing.Sharing.{Sharing}
use Rattle.model_archive.specs.Histories.{History}
use Rattle.model_archive.specs.Planning.{OfPhrase, last_second}
use Rattle.model_archive.specs.declared.sharing.Share.{Share}
use Rattle.model_archive.specs.Sharing.{IsShared, OfPhrases, is_another, shares_of, with_sharer}
use Rattle.model_archive.specs.Steps.{Reply, RefusedIn, Shared, Shares}
use Rattle.archive_hand.specs.Sealing.{IsSealed}
use Rattle.archive_hand.specs.States.{ArchiveState, AreInStepBy, with_reads}
use Rattle.archive_hand.specs.Stored.{Store, StoreStep}
use Rattle.archive_hand.specs.Takes.{Replied, Starved, TakesBy}
use Rattle.archive_hand.proofs.PhraseLemmas.{goes_on, map_phrase}
use Rattle.archive_hand.specs.declared.sealing.Sealed.{Sealed}
use Rattle.archive_questions.specs.Sharers.{sharer, sharers, stands_apart}
use Rattle.archive_questions.specs.Endings.{shared}
use Rattle.archive_questions.specs.declared.error.ShareError.{ShareError}
use Rattle.archive_questions.specs.declared.error.ShareError.TheVariants as errors
use Rattle.archive_questions.proofs.TakeLemmas.{no_reads, question_by}

-- ---- phrases

-- what follows of each refusal, and of what goes on, follows of phrases
pub map_phrases : (h : History) (One Other : ℕ → Refusal → Type 0) → ((number : ℕ) (why : Refusal) → One number why → Other number why)
    → (phrases : List (List ℕ)) (number : ℕ) (A B : List Sharer → Type 0) → ((words : List Sharer) → A words → B words) → OfPhrases h number phrases One A → OfPhrases h number phrases Other B
map_phrases h One Other refused [] number A B goes of = goes [] of
map_phrases h One Other refused (phrase ∷ phrases) number A B goes of =
    map_phrase Uniform h (one_term phrase) (One number) (Other number)
    (λ word list. OfPhrases h (number + 1) phrases One (λ words. A (with_sharer (record { word = word; list = list }) words)))
    (λ word list. OfPhrases h (number + 1) phrases Other (λ words. B (with_sharer (record { word = word; list = list }) words)))
    (refused number)
    (λ word list on. map_phrases h One Other refused phrases (number + 1) (λ words. A (with_sharer (record { word = word; list = list }) words)) (λ words. B (with_sharer (record { word = word; list = list }) words))
    (λ words. goes (with_sharer (record { word = word; list = list }) words)) on)
    of

-- a phrase that can be planned goes on with the others
pub first_goes_on : (h : History) (phrase word : List ℕ) (list : List Posting) (horizon : ℕ) (phrases : List (List ℕ)) (number : ℕ) (Refuses : ℕ → Refusal → Type 0) (GoesOn : List Sharer → Type 0)
    → IsSealed h phrase word list horizon → 0 < length list → OfPhrases h (number + 1) phrases Refuses (λ words. GoesOn (with_sharer (record { word = word; list = list }) words))
    → OfPhrases h number (phrase ∷ phrases) Refuses GoesOn
first_goes_on h phrase word list horizon phrases number Refuses GoesOn sealed some on =
    goes_on Uniform h (one_term phrase) word list (Refuses number) (λ w l. OfPhrases h (number + 1) phrases Refuses (λ words. GoesOn (with_sharer (record { word = w; list = l }) words)))
    sealed.word_is sealed.known sealed.list_is some on

-- or it is refused
pub first_refused : (h : History) (phrase : List ℕ) (phrases : List (List ℕ)) (number index : ℕ) (one why : Refusal) → OfPhrase Uniform h (one_term phrase) (λ because. one ≡ because) (λ word list. ⊥) → number ≡ index → one ≡ why
    → OfPhrases h number (phrase ∷ phrases) (λ n because. (n ≡ index) × (because ≡ why)) (λ words. ⊥)
first_refused h phrase phrases number index one why of same is =
    map_phrase Uniform h (one_term phrase) (λ because. one ≡ because) (λ because. (number ≡ index) × (because ≡ why)) (λ word list. ⊥)
    (λ word list. OfPhrases h (number + 1) phrases (λ n because. (n ≡ index) × (because ≡ why)) (λ words. ⊥)) (λ because e. (same, sym e ∙ is)) (λ word list none. absurd none) of

-- so it is told of all phrases
pub shares_refused : (asked : List Asking) (h : History) (phrases : List (List ℕ)) (factor : Fraction) (why : Refusal) (index : ℕ) → OfPhrases h 1 phrases (λ n because. (n ≡ index) × (because ≡ why)) (λ words. ⊥) → Shares asked h phrases factor (RefusedIn why index)
shares_refused asked h phrases factor why index of =
    map_phrases h (λ n because. (n ≡ index) × (because ≡ why)) (λ n because. RefusedIn why index ≡ RefusedIn because n)
    (λ n because same. ap (λ (m : ℕ). RefusedIn why m) (sym same.0) ∙ ap (λ (b : Refusal). RefusedIn b n) (sym same.1)) phrases 1 (λ words. ⊥)
    (λ words. (shares : List Share) × (unit budget cost : ℕ) × IsShared asked (last_second h) factor words shares unit budget cost × (RefusedIn why index ≡ Shared shares unit budget cost)) (λ words none. absurd none) of

pub shares_told : (asked : List Asking) (h : History) (phrases : List (List ℕ)) (factor : Fraction) (sealed : List Sealed) (shares : List Share) (unit budget cost : ℕ) → OfPhrases h 1 phrases (λ n because. ⊥) (λ words. words ≡ sharers sealed)
    → IsShared asked (last_second h) factor (sharers sealed) shares unit budget cost → Shares asked h phrases factor (Shared shares unit budget cost)
shares_told asked h phrases factor sealed shares unit budget cost of is =
    map_phrases h (λ n because. ⊥) (λ n because. Shared shares unit budget cost ≡ RefusedIn because n) (λ n because none. absurd none) phrases 1 (λ words. words ≡ sharers sealed)
    (λ words. (s : List Share) × (u b c : ℕ) × IsShared asked (last_second h) factor words s u b c × (Shared shares unit budget cost ≡ Shared s u b c))
    (λ words same. (shares, unit, budget, cost, subst (λ (l : List Sharer). IsShared asked (last_second h) factor l shares unit budget cost) (sym same) is, refl)) of

-- ---- offers

-- one offer more
pub offers_more : (asked : List Asking) (horizon unit : ℕ) (words : List Sharer) (offers : List Offered) (s : Sharer) (offer : Offered) → AreOffers asked horizon unit words offers → IsOffer (asked_in asked s.word) s.list horizon unit offer
    → AreOffers asked horizon unit (words ++ s ∷ []) (offers ++ offer ∷ [])
offers_more asked horizon unit [] [] s offer are is = (is, tt)
offers_more asked horizon unit (w ∷ words) (o ∷ offers) s offer are is = (are.0, offers_more asked horizon unit words offers s offer are.1 is)
offers_more asked horizon unit [] (o ∷ offers) s offer are is = absurd are
offers_more asked horizon unit (w ∷ words) [] s offer are is = absurd are

-- ---- words

-- the words that stand apart, as they share
apart_alike : (word : List ℕ) (rest : List Sealed) → map sharer (filter (stands_apart word) rest) ≡ filter (is_another word) (map sharer rest)
apart_alike word [] = refl
apart_alike word (s ∷ rest) = go (not (bytes_eq s.word word)) (apart_alike word rest)
  where
    go : (b : Bool) → map sharer (filter (stands_apart word) rest) ≡ filter (is_another word) (map sharer rest)
        → map sharer (cond b (s ∷ filter (stands_apart word) rest) (filter (stands_apart word) rest)) ≡ cond b (sharer s ∷ filter (is_another word) (map sharer rest)) (filter (is_another word) (map sharer rest))
    go true same = ap (λ (l : List Sharer). sharer s ∷ l) same
    go false same = same

pub first_alike : (first : Sealed) (rest all : List Sealed) → all ≡ first ∷ filter (stands_apart first.word) rest → sharers all ≡ with_sharer (sharer first) (sharers rest)
first_alike first rest all is = ap sharers is ∙ ap (λ (l : List Sharer). sharer first ∷ l) (apart_alike first.word rest)

pub first_all : (P : Sealed → Type 0) (first : Sealed) (rest all : List Sealed) → all ≡ first ∷ filter (stands_apart first.word) rest → P first → All P rest → All P all
first_all P first rest all is one more =
    subst (λ (l : List Sealed). All P l) (sym is) (All-cons P first (filter (stands_apart first.word) rest) one (All-filter (stands_apart first.word) P rest more))

pub first_few : (first : Sealed) (rest all : List Sealed) → all ≡ first ∷ filter (stands_apart first.word) rest → length all ≤ length rest + 1
first_few first rest all is = omega (arith, ap length is, length-filter (stands_apart first.word) rest, count_by-le-length (stands_apart first.word) rest)

-- ---- shares

pub picks_long : (offers : List Offered) (picks : List ℕ) → ArePicks offers picks → length picks ≡ length offers
picks_long [] [] are = refl
picks_long (o ∷ offers) (p ∷ picks) are = omega (arith, picks_long offers picks are.1)
picks_long [] (p ∷ picks) are = absurd are
picks_long (o ∷ offers) [] are = absurd are

pub pick_there : (offers : List Offered) (picks : List ℕ) (k : ℕ) (o : Offered) (p : ℕ) → ArePicks offers picks → k < length offers → get_or picks k p ≤ length (get_or offers k o).front
pick_there (x ∷ offers) (y ∷ picks) zero o p are l = are.0
pick_there (x ∷ offers) (y ∷ picks) (suc k) o p are l = pick_there offers picks k o p are.1 (omega (arith, l))
pick_there [] picks k o p are l = absurd (omega (arith, l))
pick_there (x ∷ offers) [] k o p are l = absurd are

-- the shares from a place on are that place's and those behind it
pub shares_next : (words : List Sealed) (offers : List Offered) (picks : List ℕ) (k : ℕ) (w : Sealed) (o : Offered) (p : ℕ) → length offers ≡ length words → length picks ≡ length offers → k < length words
    → shares_of (sharers (drop k words)) (drop k offers) (drop k picks)
    ≡ (record { word = (get_or words k w).word; taken = picked (get_or offers k o) (get_or picks k p) }) ∷ shares_of (sharers (drop (suc k) words)) (drop (suc k) offers) (drop (suc k) picks)
shares_next words offers picks k w o p long same l =
    ap (λ (x : List Sealed). shares_of (sharers x) (drop k offers) (drop k picks)) (drop-cons words k w l)
    ∙ ap (λ (x : List Offered). shares_of (sharers (get_or words k w ∷ drop (suc k) words)) x (drop k picks)) (drop-cons offers k o (omega (arith, l, long)))
    ∙ ap (λ (x : List ℕ). shares_of (sharers (get_or words k w ∷ drop (suc k) words)) (get_or offers k o ∷ drop (suc k) offers) x) (drop-cons picks k p (omega (arith, l, long, same)))

-- what is told of words with their lists
pub shared_is : (asked : List Asking) (horizon : ℕ) (factor : Fraction) (sealed : List Sealed) (shares : List Share) (unit budget cost : ℕ) (offers : List Offered) (picks : List ℕ)
    → unit ≡ caps.unit (caps.cap factor (sum_by (λ (s : Sealed). length s.list.items) sealed)) → budget ≡ caps.budget (caps.cap factor (sum_by (λ (s : Sealed). length s.list.items) sealed))
    → AreOffers asked horizon unit (sharers sealed) offers → IsBestChoice offers budget picks → shares ≡ shares_of (sharers sealed) offers picks → cost ≡ total (λ p. p.cost) offers picks
    → IsShared asked horizon factor (sharers sealed) shares unit budget cost
shared_is asked horizon factor sealed shares unit budget cost offers picks unit_is budget_is are best told costs =
    let size : sum_by (λ (s : Sealed). length s.list.items) sealed ≡ sum_by (λ (s : Sharer). length s.list) (sharers sealed) = sym (sum_by-map (λ (s : Sharer). length s.list) sharer sealed) in
    record {
      unit_is = unit_is ∙ ap (λ n. caps.unit (caps.cap factor n)) size;
      budget_is = budget_is ∙ ap (λ n. caps.budget (caps.cap factor n)) size;
      offers = offers;
      offers_are = are;
      picks = picks;
      best = best;
      shares_are = told;
      cost_is = costs;
    }

-- ---- the end

pub shared_by : (s : Store) (item : Item) (phrases : List (List ℕ)) (factor : Fraction) (r : Result Sharing ShareError) (d : DiskState) (a : ArchiveState)
    → ((reply : Reply) (next : Store) → next ≡ s → Shares s.asked s.history phrases factor reply → StoreStep s item reply next) → AreInStepBy d a s
    → ((why : Refusal) (index : ℕ) → r ≡ Err (errors.Refused why index) → Shares a.asked s.history phrases factor (RefusedIn why index))
    → IfOk r (λ x. Shares a.asked s.history phrases factor (Shared x.shares.items x.unit x.budget x.cost)) → TakesBy s item (shared r) d d a
shared_by s item phrases factor r d a step in_step refused told = go r refused told
  where
    Q : Reply → Type 0
    Q reply = Shares s.asked s.history phrases factor reply

    by : (reply : Reply) → Q reply → StoreStep s item reply (with_reads s a d)
    by reply is = step reply (with_reads s a d) (no_reads s d a in_step) is

    of_store : (reply : Reply) → Shares a.asked s.history phrases factor reply → Q reply
    of_store reply is = subst (λ (l : List Asking). Shares l s.history phrases factor reply) in_step.asked_are is

    go : (r : Result Sharing ShareError) → ((why : Refusal) (index : ℕ) → r ≡ Err (errors.Refused why index) → Shares a.asked s.history phrases factor (RefusedIn why index))
        → IfOk r (λ x. Shares a.asked s.history phrases factor (Shared x.shares.items x.unit x.budget x.cost)) → TakesBy s item (shared r) d d a
    go (Ok x) refused told = question_by Q s item (shared (Ok x)) d d a a by refl refl in_step.cached in_step (of_store (Shared x.shares.items x.unit x.budget x.cost) told)
    go (Err (errors.Refused why index)) refused told = question_by Q s item (Replied (RefusedIn why index)) d d a a by refl refl in_step.cached in_step (of_store (RefusedIn why index) (refused why index refl))
    go (Err errors.Memory) refused told = question_by Q s item Starved d d a a by refl refl in_step.cached in_step tt
