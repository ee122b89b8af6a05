-- Rows over time, and what they are read as.
use Rattle.std.specs.Prelude.{◌≡◌, ℕ, ◌<◌, ◌&&◌, Bool, true, false, if◌then◌else◌, List, [], length, get_or, Some, None}
use Rattle.std.proofs.Common.{ap, refl, sym, ◌∙◌}
use Rattle.std.proofs.lemmas.Bool.{cases_eq}
use Rattle.base_types.proofs.Equal.{same_span}
use Rattle.base_types.specs.declared.ids.DocId.{DocId}
use Rattle.lists_postings.specs.StretchLaws.{IsPlain, AreMade}
use Rattle.lists_postings.proofs.StretchExistence.{each-has}
use Rattle.lists_postings.proofs.StretchWindows.{stretches-same}
use Rattle.query_lang.specs.Grammar.{Query}
use Rattle.query_lang.specs.Meaning.{matches, score, words_of}
use Rattle.query_eval.specs.Facts.{score_if}
use Rattle.query_eval.specs.SpanLaws.{EachWindowHasAnAnswer, OnlyHitsMatterOver}
use Rattle.query_eval.specs.Spans.{row_kind, scored_at}
use Rattle.query_eval.proofs.GivenLemmas.{has-word}

pub plain-rows : IsPlain row_kind
plain-rows p q d f t s = λ i. record { doc = record { 0 = d i }; span = same_span p.span q.span f t i; score = s i }

made-rows : AreMade row_kind
made-rows d s e v l m = (record { doc = record { 0 = d }; span = record { from = s; to = e; ordered = l; in_time = m }; score = v }, refl, refl, refl, refl)

pub each-window : EachWindowHasAnAnswer
each-window alive often query documents a b m h =
    each-has row_kind made-rows cases_eq (scored_at alive often query) documents a b m
    (λ d t l. ap (λ q. if (q && matches query (often (record { 0 = d }) t)) then Some (score query (often (record { 0 = d }) t)) else None) (h (record { 0 = d }) t l))

-- at a time where whoever has a word is given, the score of those given is that of those alive
module _ (query : Query) (bare : matches query (λ _. 0) ≡ false) (often : List ℕ → ℕ) (given alive : Bool) (some : given ≡ true → alive ≡ true)
    (all : (k : ℕ) → alive ≡ true → k < length (words_of query) → 0 < often (get_or (words_of query) k []) → given ≡ true) where
  unmatched : given ≡ false → alive ≡ true → (b : Bool) → matches query often ≡ b → b ≡ false
  unmatched e f false h = refl
  unmatched e f true h = let (k, l, m) = has-word often query bare h in absurd (let yes = all k f l m in cc)

  silent : given ≡ false → (l : Bool) → alive ≡ l → score_if false query often ≡ score_if l query often
  silent e false f = refl
  silent e true f = sym (ap (λ m. if m then Some (score query often) else None) (unmatched e f (matches query often) refl))

  same-score : (g : Bool) → given ≡ g → score_if given query often ≡ score_if alive query often
  same-score true e = ap (λ b. score_if b query often) (e ∙ sym (some e))
  same-score false e = ap (λ b. score_if b query often) e ∙ silent e alive refl

pub only_hits_over : OnlyHitsMatterOver
only_hits_over alive given often query a b rows bare some all answer =
    stretches-same row_kind (scored_at given often query) (scored_at alive often query) a b
    (λ d t from to.
    let doc : DocId = record { 0 = d } in
    same-score query bare (often doc t) (given doc t) (alive doc t) (some doc t from to) (λ k. all doc t k from to) (given doc t) refl)
    rows answer
