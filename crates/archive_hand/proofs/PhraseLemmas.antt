-- The tests of a phrase that is to be planned, by any names of what they come to.
use Rattle.std.proofs.Common.{Bool, true, false, bytes_eq, ◌≡◌, ℕ, ◌<◌, List, [], ◌∷◌, length, Option, Some, None, Result, Err, ap, sym, subst, inl, inr, arith}
use Rattle.base_types.specs.declared.posting.Posting.{Posting}
use Rattle.base_commands.specs.declared.command.Kind.{Kind}
use Rattle.base_commands.specs.declared.command.Kind.TheVariants.{Guarantee, Uniform, Since}
use Rattle.model_archive.specs.declared.refusal.Refusal.{Refusal}
use Rattle.model_archive.specs.declared.refusal.Refusal.TheVariants as refusals
use Rattle.model_archive.specs.Histories.{History}
use Rattle.model_archive.specs.Planning.{IsKnown, IsListUpTo, OfBoundaries, OfWidth, OfList, OfPhrase, last_second}
use Rattle.model_archive.specs.Steps.{ByWord, OfIdle, OfStill}
use Rattle.model_archive.specs.Worlds.{Job}
use Rattle.archive_entries.specs.declared.error.Declined.{Declined}
use Rattle.archive_entries.specs.declared.error.Declined.TheVariants as declines

-- the tests by other names of what they come to
module _ (h : ℕ) (One Other : Refusal → Type 0) (refused : (why : Refusal) → One why → Other why) where
  pub map_bounded : (list : List Posting) (A B : Type 0) → (A → B) → OfBoundaries h list One A → OfBoundaries h list Other B
  map_bounded list A B goes (times, are, inl wide) = (times, are, inl (wide.0, refused (refusals.TooWide (length times)) wide.1))
  map_bounded list A B goes (times, are, inr narrow) = (times, are, inr (narrow.0, goes narrow.1))

  map_width : (kind : Kind) (list : List Posting) (A B : Type 0) → (A → B) → OfWidth kind h list One A → OfWidth kind h list Other B
  map_width Guarantee list A B goes of = map_bounded list A B goes of
  map_width Uniform list A B goes of = goes of
  map_width (Since at) list A B goes of = goes of

  map_list : (kind : Kind) (list : List Posting) (A B : Type 0) → (A → B) → OfList kind h list One A → OfList kind h list Other B
  map_list kind [] A B goes of = refused refusals.NothingSealed of
  map_list kind (p ∷ list) A B goes of = map_width kind (p ∷ list) A B goes of

-- a word whose list has a posting goes on
pub goes_on : (kind : Kind) (h : History) (key : Option (List ℕ)) (word : List ℕ) (list : List Posting) (Refuses : Refusal → Type 0) (GoesOn : List ℕ → List Posting → Type 0) → key ≡ Some word → IsKnown h word
    → IsListUpTo h word (last_second h) list → 0 < length list → OfWidth kind (last_second h) list Refuses (GoesOn word list) → OfPhrase kind h key Refuses GoesOn
goes_on kind h key word list Refuses GoesOn is known listed some of = subst (λ (k : Option (List ℕ)). OfPhrase kind h k Refuses GoesOn) (sym is) (inr (known, (list, listed, go list some of)))
  where
    go : (list : List Posting) → 0 < length list → OfWidth kind (last_second h) list Refuses (GoesOn word list) → OfList kind (last_second h) list Refuses (GoesOn word list)
    go [] some of = absurd (omega (arith, some))
    go (p ∷ list) some of = of

pub map_phrase : (kind : Kind) (h : History) (key : Option (List ℕ)) (One Other : Refusal → Type 0) (A B : List ℕ → List Posting → Type 0) → ((why : Refusal) → One why → Other why)
    → ((word : List ℕ) (list : List Posting) → A word list → B word list) → OfPhrase kind h key One A → OfPhrase kind h key Other B
map_phrase kind h None One Other A B refused goes of = refused refusals.NotOneTerm of
map_phrase kind h (Some word) One Other A B refused goes (inl unknown) = inl (unknown.0, refused refusals.UnknownWord unknown.1)
map_phrase kind h (Some word) One Other A B refused goes (inr (known, (list, is, of))) =
    inr (known, (list, is, map_list (last_second h) One Other refused kind list (A word list) (B word list) (goes word list) of))

-- ---- a plan that is being written

-- the tests by other names of what they come to
pub map_still : (job : Option Job) (word : List ℕ) (One Other : Refusal → Type 0) (A B : Type 0) → ((why : Refusal) → One why → Other why) → (A → B) → OfStill job word One A → OfStill job word Other B
map_still None word One Other A B refused goes of = goes of
map_still (Some job) word One Other A B refused goes of = go (bytes_eq job.plan.word word) of
  where
    go : (b : Bool) → ByWord b (One refusals.Busy) A → ByWord b (Other refusals.Busy) B
    go true is = refused refusals.Busy is
    go false is = goes is

pub map_idle : (job : Option Job) (word : List ℕ) (One Other : Refusal → Type 0) (A B : Type 0) → ((why : Refusal) → One why → Other why) → (A → B) → OfIdle job word One A → OfIdle job word Other B
map_idle None word One Other A B refused goes of = goes of
map_idle (Some job) word One Other A B refused goes of = go (bytes_eq job.plan.word word) of
  where
    go : (b : Bool) → ByWord b (One refusals.Busy) (One refusals.OneJob) → ByWord b (Other refusals.Busy) (Other refusals.OneJob)
    go true is = refused refusals.Busy is
    go false is = refused refusals.OneJob is

-- ---- one test

-- refusals that are the same in two results
pub one_why : {T : Type 0} (a b : Refusal) → ◌≡◌ {A = Result T Declined} (Err (declines.Refused a)) (Err (declines.Refused b)) → b ≡ a
one_why a b e = cc

-- a refusal of one result is one of another
pub retyped : {T U : Type 0} (e x : Declined) → ◌≡◌ {A = Result T Declined} (Err e) (Err x) → ◌≡◌ {A = Result U Declined} (Err e) (Err x)
retyped e x is = let same : e ≡ x = cc in ap (λ (y : Declined). Err y) same

pub not_both : (b : Bool) → b ≡ false → b ≡ true → ⊥
not_both b f t = absurd cc
