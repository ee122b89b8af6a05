-- What is made approximately from pages that hold the live plans is the rough answer.
use Rattle.std.proofs.Common.{◌≡◌, ℕ, zero, suc, ◌<◌, ◌≤◌, ◌^◌, Bool, true, false, cond, if◌then◌else◌, bytes_eq, List, [], ◌∷◌, length, get_or, IsSome, inl, inr, refl, ap, sym, subst, ◌∙◌, arith}
use Rattle.std.specs.List.{AllZip}
use Rattle.std.specs.Cmp.Lexicographic.{bytes_decides}
use Rattle.std.proofs.lemmas.Bool.{cases_lt}
use Rattle.base_types.specs.declared.posting.Posting.{Posting}
use Rattle.base_types.specs.declared.tolerance.Tolerance.{Tolerance}
use Rattle.text_words.proofs.CountLemmas.{itself}
use Rattle.lists_postings.specs.Lists.{SameRows, frequency}
use Rattle.lists_postings.proofs.Clipping.{outside}
use Rattle.lists_approx.proofs.Alike.{longest_first_alike}
use Rattle.query_lang.specs.Meaning.{words_of}
use Rattle.query_eval.specs.Found.{told}
use Rattle.query_eval.specs.declared.part.Part.{Part}
use Rattle.query_eval.proofs.GivenLemmas.{only_words_matter}
use Rattle.model_archive.specs.Histories.{History, text_at}
use Rattle.model_archive.specs.Answers.{IsWordList}
use Rattle.model_archive.specs.Chosen.{AreChosen, IsChosenOf, IsReadFor}
use Rattle.model_archive.specs.Holding.{HoldsPlans}
use Rattle.model_archive.specs.Legal.{IsLoadable}
use Rattle.model_archive.specs.Nearness.{MadeRoughStands}
use Rattle.model_archive.specs.Plans.{plan_of}
use Rattle.model_archive.specs.Rough.{IsShortOf, IsShortPart}
use Rattle.model_archive.proofs.ChosenLemmas.{Tells, chosen_read, word_chosen}
use Rattle.model_archive.proofs.OutcomeLemmas.{each_word_list}

-- the list of a word by the parts that were made for these words
abbrev listed : List (List ℕ) → List Part → List ℕ → List Posting
listed [] parts word = []
listed (w ∷ words) [] word = []
listed (w ∷ words) (part ∷ parts) word = if bytes_eq w word then part.list.items else listed words parts word

-- tells what the parts tell
listed_tells : (words : List (List ℕ)) (parts : List Part) (d t : ℕ) (word : List ℕ) → told words parts t d word ≡ frequency d t (listed words parts word)
listed_tells [] parts d t word = refl
listed_tells (w ∷ words) [] d t word = refl
listed_tells (w ∷ words) (part ∷ parts) d t word = go (bytes_eq w word) (listed_tells words parts d t word)
  where
    go : (b : Bool) → told words parts t d word ≡ frequency d t (listed words parts word)
        → cond b (frequency d t part.list.items) (told words parts t d word) ≡ frequency d t (cond b part.list.items (listed words parts word))
    go true rest = refl
    go false rest = rest

-- no posting holds a time that isn't one
over : (list : List Posting) (d t : ℕ) → 2 ^ 40 ≤ t → frequency d t list ≡ 0
over list d t late = outside 0 (2 ^ 40) list (λ k p l. (omega arith, (get_or list k p).span.in_time)) d t (inr late)

-- what tells a word over all times has the rows of its whole list
same_rows : (h : History) (word : List ℕ) (list whole : List Posting) → Tells h word 0 (2 ^ 40) list → IsWordList h word whole → SameRows list whole
same_rows h word list whole tells is d t = elim (cases_lt t (2 ^ 40)) [
  | inl early ↦ tells (record { 0 = d }) t (omega arith) early ∙ sym (is.same d t (omega arith) early)
  | inr late ↦ over list d t late ∙ sym (over whole d t late)
]

module _ (h : History) (pages : List ℕ) (tolerance : Tolerance) (loads : IsLoadable h) (held : HoldsPlans h pages) where
  short_word : (word : List ℕ) (part short : Part) → IsChosenOf h pages word (plan_of h word) 0 (2 ^ 40) part.list.items part.read → IsShortPart tolerance part short → IsShortOf h tolerance word short.list.items
  short_word word part short chosen is =
      let whole = each_word_list h word loads in
      let tells = (word_chosen h pages word 0 (2 ^ 40) part.list.items part.read (omega arith) loads held chosen).0 in
      (whole.0, whole.1, longest_first_alike tolerance part.list.items whole.0 short.list.items (same_rows h word part.list.items whole.0 tells whole.1) is)

  each_short : (words : List (List ℕ)) (parts shorts : List Part) (k : ℕ) (d : List ℕ) → AreChosen h pages 0 (2 ^ 40) words parts → AllZip (IsShortPart tolerance) parts shorts → k < length words
      → IsShortOf h tolerance (get_or words k d) (listed words shorts (get_or words k d))
  each_short [] parts shorts k d chosen short within = absurd (omega (arith, within))
  each_short (word ∷ words) [] shorts k d chosen short within = absurd chosen
  each_short (word ∷ words) (part ∷ parts) [] k d chosen short within = absurd short
  each_short (word ∷ words) (part ∷ parts) (one ∷ shorts) zero d chosen short within =
      subst (IsShortOf h tolerance word) (sym (ap (λ (c : Bool). cond c one.list.items (listed words shorts word)) (itself word))) (short_word word part one chosen.0 short.0)
  each_short (word ∷ words) (part ∷ parts) (one ∷ shorts) (suc k) d chosen short within =
      go (bytes_eq word (get_or words k d)) refl (each_short words parts shorts k d chosen.1 short.1 (omega (arith, within)))
    where
      go : (c : Bool) → bytes_eq word (get_or words k d) ≡ c → IsShortOf h tolerance (get_or words k d) (listed words shorts (get_or words k d))
          → IsShortOf h tolerance (get_or words k d) (cond c one.list.items (listed words shorts (get_or words k d)))
      go true e rest = subst (λ (w : List ℕ). IsShortOf h tolerance w one.list.items) ((bytes_decides word (get_or words k d)).0 e) (short_word word part one chosen.0 short.0)
      go false e rest = rest

pub made_rough : MadeRoughStands
made_rough h pages tolerance t query rows read loads held made =
    let R : ℕ → Type 0 = λ n. IsReadFor h 0 (2 ^ 40) (words_of query) n in (
      record {
        lists = listed (words_of query) made.shorts;
        each = λ k d l. each_short h pages tolerance loads held (words_of query) made.parts made.shorts k d made.are_chosen made.are_short l;
        rows_are =
            only_words_matter (λ doc. IsSome (text_at h doc t)) (λ doc. told (words_of query) made.shorts t doc.0) (λ doc word. frequency doc.0 t (listed (words_of query) made.shorts word)) query rows
            (λ doc k d l. listed_tells (words_of query) made.shorts doc.0 t (get_or (words_of query) k d)) made.rows_are;
      },
      subst R (sym made.read_is) (chosen_read h pages 0 (2 ^ 40) (omega arith) loads held (words_of query) made.parts made.are_chosen),
    )
