-- A phrase that is to be planned: either it is refused or it goes on, in one way.
use Rattle.std.proofs.Common.{◌≡◌, ◌⊎◌, ℕ, suc, ◌<◌, ◌≤◌, ◌^◌, Bool, true, false, List, [], ◌∷◌, length, Contains, Option, Some, None, option_map, unwrap_or, refl, ap, sym, subst, ◌∙◌, inl, inr, arith}
use Rattle.std.specs.Str.{bytes_eq}
use Rattle.std.specs.Cmp.Lexicographic.{bytes_decides}
use Rattle.std.proofs.lemmas.Bool.{cases_lt}
use Rattle.std.proofs.lemmas.Map.Made.{Contains-tail}
use Rattle.base_types.specs.declared.time.Time.{Time}
use Rattle.base_types.specs.declared.posting.Posting.{Posting}
use Rattle.base_commands.specs.declared.command.Kind.{Kind}
use Rattle.base_commands.specs.declared.command.Kind.TheVariants.{Guarantee, Uniform, Since}
use Rattle.lists_postings.proofs.Clipping.{one_list_of}
use Rattle.plans_partitions.specs.Partitions.{widest}
use Rattle.plans_partitions.proofs.Ordering.{each_has_boundaries, one_list_of_boundaries}
use Rattle.plans_kinds.specs.Plans.{IsNarrow}
use Rattle.lists_versions.specs.Changes.{last_time}
use Rattle.model_archive.specs.declared.refusal.Refusal.{Refusal}
use Rattle.model_archive.specs.declared.refusal.Refusal.TheVariants as refusals
use Rattle.model_archive.specs.Histories.{History, changes, vocabulary}
use Rattle.model_archive.specs.Answers.{frequency_at}
use Rattle.model_archive.specs.Planning.{last_second, IsListUpTo, OfBoundaries, OfWidth, OfList, OfPhrase}

pub known_or_not : (words : List (List ℕ)) (word : List ℕ) → Contains words word ⊎ (Contains words word → ⊥)
known_or_not [] word = inr (λ c. omega (arith, c.1))
known_or_not (w ∷ words) word = go (bytes_eq w word) refl (known_or_not words word)
  where
    go : (b : Bool) → bytes_eq w word ≡ b → Contains words word ⊎ (Contains words word → ⊥) → Contains (w ∷ words) word ⊎ (Contains (w ∷ words) word → ⊥)
    go true e rest = inl (0, omega arith, (bytes_decides w word).0 e)
    go false e (inl c) = inl (suc c.0, omega (arith, c.1), c.2)
    go false e (inr none) = inr (λ c. none (Contains-tail w words word (λ same. let t = sym e ∙ (bytes_decides w word).1 same in absurd cc) c))

-- the last time is one
pub last_in_time : (history : History) → last_second history ≤ 2 ^ 40
last_in_time history = go (last_time (changes history))
  where
    go : (last : Option Time) → unwrap_or (option_map (λ t. t.seconds) last) 0 ≤ 2 ^ 40
    go None = omega arith
    go (Some t) = let now : t.seconds < 2 ^ 40 = t.before_now in omega (arith, now)

-- whatever is refused has a result, and so has what goes on, whatever they are: then the tests have one
module _ (h : ℕ) {R : Type 0} (Refuses : R → Refusal → Type 0) (refused : (why : Refusal) → (r : R) × Refuses r why) where
  each_bounded : (list : List Posting) (GoesOn : R → Type 0) → (IsNarrow list h → (r : R) × GoesOn r) → (r : R) × OfBoundaries h list (Refuses r) (GoesOn r)
  each_bounded list GoesOn goes =
      let (times, are) = each_has_boundaries list h in
      elim (cases_lt widest (length times)) [
        | inl wide ↦ let (r, why) = refused (refusals.TooWide (length times)) in (r, (times, are, inl (wide, why)))
        | inr narrow ↦ let (r, on) = goes (times, are, narrow) in (r, (times, are, inr (narrow, on)))
      ]

  each_width : (kind : Kind) (list : List Posting) (GoesOn : R → Type 0) → ((kind ≡ Guarantee → IsNarrow list h) → (r : R) × GoesOn r) → (r : R) × OfWidth kind h list (Refuses r) (GoesOn r)
  each_width Guarantee list GoesOn goes = each_bounded list GoesOn (λ narrow. goes (λ e. narrow))
  each_width Uniform list GoesOn goes = goes (λ e. absurd cc)
  each_width (Since at) list GoesOn goes = goes (λ e. absurd cc)

  each_list : (kind : Kind) (list : List Posting) (GoesOn : R → Type 0) → (0 < length list → (kind ≡ Guarantee → IsNarrow list h) → (r : R) × GoesOn r) → (r : R) × OfList kind h list (Refuses r) (GoesOn r)
  each_list kind [] GoesOn goes = refused refusals.NothingSealed
  each_list kind (p ∷ list) GoesOn goes = each_width kind (p ∷ list) GoesOn (goes (omega arith))

pub each_phrase : (kind : Kind) (history : History) {R : Type 0} (Refuses : R → Refusal → Type 0) (GoesOn : R → List ℕ → List Posting → Type 0)
    → ((why : Refusal) → (r : R) × Refuses r why)
    → ((word : List ℕ) → (list : List Posting) × IsListUpTo history word (last_second history) list)
    → ((word : List ℕ) (list : List Posting) → IsListUpTo history word (last_second history) list → 0 < length list → (kind ≡ Guarantee → IsNarrow list (last_second history)) → (r : R) × GoesOn r word list)
    → (key : Option (List ℕ)) → (r : R) × OfPhrase kind history key (Refuses r) (GoesOn r)
each_phrase kind history Refuses GoesOn refused lists goes None = refused refusals.NotOneTerm
each_phrase kind history Refuses GoesOn refused lists goes (Some word) = elim (known_or_not (vocabulary history) word) [
  | inr unknown ↦ let (r, why) = refused refusals.UnknownWord in (r, inl (unknown, why))
  | inl known ↦
      let (list, is) = lists word in
      let (r, of) = each_list (last_second history) Refuses refused kind list (λ r. GoesOn r word list) (goes word list is) in
      (r, inr (known, (list, is, of)))
]

-- Two results agree where each refusal has one, and so has what goes on.
module _ (h : ℕ) (P : Type 0) (One Other : Refusal → Type 0) (refused : (why : Refusal) → One why → Other why → P) where
  same_why : (why because : Refusal) → why ≡ because → One why → Other because → P
  same_why why because e a b = refused why a (subst Other (sym e) b)

  one_bounded : (list : List Posting) (A B : Type 0) → (A → B → P) → OfBoundaries h list One A → OfBoundaries h list Other B → P
  one_bounded list A B goes (times, are, a) (those, them, b) = go (ap length (one_list_of_boundaries list h times those are them)) a b
    where
      go : length times ≡ length those → ((widest < length times) × One (refusals.TooWide (length times))) ⊎ ((length times ≤ widest) × A)
          → ((widest < length those) × Other (refusals.TooWide (length those))) ⊎ ((length those ≤ widest) × B) → P
      go e (inl x) (inl y) = same_why (refusals.TooWide (length times)) (refusals.TooWide (length those)) (ap refusals.TooWide e) x.1 y.1
      go e (inl x) (inr y) = absurd (omega (arith, e, x.0, y.0))
      go e (inr x) (inl y) = absurd (omega (arith, e, x.0, y.0))
      go e (inr x) (inr y) = goes x.1 y.1

  one_width : (kind : Kind) (list : List Posting) (A B : Type 0) → (A → B → P) → OfWidth kind h list One A → OfWidth kind h list Other B → P
  one_width Guarantee list A B goes a b = one_bounded list A B goes a b
  one_width Uniform list A B goes a b = goes a b
  one_width (Since at) list A B goes a b = goes a b

  one_list : (kind : Kind) (list : List Posting) (A B : Type 0) → (A → B → P) → OfList kind h list One A → OfList kind h list Other B → P
  one_list kind [] A B goes a b = refused refusals.NothingSealed a b
  one_list kind (p ∷ list) A B goes a b = one_width kind (p ∷ list) A B goes a b

pub one_phrase : (kind : Kind) (history : History) (P : Type 0) (One Other : Refusal → Type 0) (A B : List ℕ → List Posting → Type 0)
    → ((why : Refusal) → One why → Other why → P) → ((word : List ℕ) (list : List Posting) → A word list → B word list → P)
    → (key : Option (List ℕ)) → OfPhrase kind history key One A → OfPhrase kind history key Other B → P
one_phrase kind history P One Other A B refused goes None a b = refused refusals.NotOneTerm a b
one_phrase kind history P One Other A B refused goes (Some word) (inl x) (inl y) = refused refusals.UnknownWord x.1 y.1
one_phrase kind history P One Other A B refused goes (Some word) (inl x) (inr y) = absurd (x.0 y.0)
one_phrase kind history P One Other A B refused goes (Some word) (inr x) (inl y) = absurd (y.0 x.0)
one_phrase kind history P One Other A B refused goes (Some word) (inr (known, (list, is, a))) (inr (too, (other, has, b))) =
    let same = one_list_of (λ d t. frequency_at history word (record { 0 = d }) t) 0 (last_second history) list other is has in
    let Of : List Posting → Type 0 = λ l. OfList kind (last_second history) l One (A word l) in
    one_list (last_second history) P One Other refused kind other (A word other) (B word other) (goes word other) (subst Of same a) b

-- what follows from each refusal, and from what goes on, follows from the tests
pub of_phrase : (kind : Kind) (history : History) (Q : Type 0) (Refuses : Refusal → Type 0) (GoesOn : List ℕ → List Posting → Type 0) (key : Option (List ℕ)) → ((why : Refusal) → Refuses why → Q)
    → ((word : List ℕ) (list : List Posting) → key ≡ Some word → IsListUpTo history word (last_second history) list → 0 < length list → GoesOn word list → Q)
    → OfPhrase kind history key Refuses GoesOn → Q
of_phrase kind history Q Refuses GoesOn None refused goes of = refused refusals.NotOneTerm of
of_phrase kind history Q Refuses GoesOn (Some word) refused goes (inl unknown) = refused refusals.UnknownWord unknown.1
of_phrase kind history Q Refuses GoesOn (Some word) refused goes (inr (known, ([], is, why))) = refused refusals.NothingSealed why
of_phrase kind history Q Refuses GoesOn (Some word) refused goes (inr (known, (p ∷ list, is, of))) = go kind of
  where
    go : (k : Kind) → OfWidth k (last_second history) (p ∷ list) Refuses (GoesOn word (p ∷ list)) → Q
    go Guarantee (times, are, inl wide) = refused (refusals.TooWide (length times)) wide.1
    go Guarantee (times, are, inr narrow) = goes word (p ∷ list) refl is (omega arith) narrow.1
    go Uniform on = goes word (p ∷ list) refl is (omega arith) on
    go (Since at) on = goes word (p ∷ list) refl is (omega arith) on
