-- The hits of one document among hits that stand by document.
use Rattle.std.proofs.Common.{◌≡◌, ◌≢◌, ℕ, ◌<◌, ◌==◌, false, cond, List, [], ◌∷◌, ◌++◌, append-nil, All, refl, ap, ◌∙◌, arith, inl, inr}
use Rattle.std.proofs.lemmas.Bool.{eq-eqb}
use Rattle.std.proofs.lemmas.Bool.Decides.{eqb_tells}
use Rattle.std.proofs.lemmas.List.Elements.{filter-append, All-head, All-tail, All-weaker}
use Rattle.base_types.specs.declared.ids.DocId.{DocId}
use Rattle.query_eval.specs.declared.hit.Hit.{Hit}
use Rattle.query_eval.specs.Hits.{hits_of}

apart : (m n : ℕ) → m ≢ n → m == n ≡ false
apart m n k = elim (eqb_tells m n) [ inl y ↦ absurd (k y.1) | inr y ↦ y.0 ]

none : (doc : DocId) (hits : List Hit) → All (λ h. h.doc.0 ≢ doc.0) hits → hits_of doc hits ≡ []
none doc [] a = refl
none doc (h ∷ hits) a = ap (λ b. cond b (h ∷ hits_of doc hits) (hits_of doc hits)) (apart _ _ (All-head (λ (x : Hit). x.doc.0 ≢ doc.0) h hits a)) ∙ none doc hits (All-tail (λ (x : Hit). x.doc.0 ≢ doc.0) h hits a)

all : (doc : DocId) (hits : List Hit) → All (λ h. h.doc.0 ≡ doc.0) hits → hits_of doc hits ≡ hits
all doc [] a = refl
all doc (h ∷ hits) a = ap (λ b. cond b (h ∷ hits_of doc hits) (hits_of doc hits)) (eq-eqb _ _ (All-head (λ (x : Hit). x.doc.0 ≡ doc.0) h hits a)) ∙ ap (λ (l : List Hit). h ∷ l) (all doc hits (All-tail (λ (x : Hit). x.doc.0 ≡ doc.0) h hits a))

-- hits of earlier documents, of one document and of later ones
pub middle : (doc : DocId) (early mine late : List Hit) → All (λ h. h.doc.0 < doc.0) early → All (λ h. h.doc.0 ≡ doc.0) mine → All (λ h. doc.0 < h.doc.0) late → hits_of doc (early ++ mine ++ late) ≡ mine
middle doc early mine late a b c =
    filter-append (λ h. h.doc.0 == doc.0) (early ++ mine) late
    ∙ ap (λ (l : List Hit). l ++ hits_of doc late) (filter-append (λ h. h.doc.0 == doc.0) early mine)
    ∙ ap (λ (l : List Hit). (l ++ hits_of doc mine) ++ hits_of doc late) (none doc early (All-weaker (λ (h : Hit). h.doc.0 < doc.0) (λ h. h.doc.0 ≢ doc.0) (λ h m q. omega (arith, m, q)) early a))
    ∙ ap (λ (l : List Hit). hits_of doc mine ++ l) (none doc late (All-weaker (λ (h : Hit). doc.0 < h.doc.0) (λ h. h.doc.0 ≢ doc.0) (λ h m q. omega (arith, m, q)) late c))
    ∙ append-nil (hits_of doc mine) ∙ all doc mine b
