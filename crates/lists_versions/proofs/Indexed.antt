-- The index of a directory, as changes come.
use Rattle.std.specs.Prelude.{◌≡◌, ◌⊎◌, ℕ, ◌+◌, ◌-◌, ◌<◌, ◌≤◌, Bool, true, false, cond, ◌==◌, List, [], ◌∷◌, ◌++◌, length, slice_get, get_or, Option, Some, None, IsPermutation, is_some, nat_lt, Result, Ok, Err, IsOk, IfOk, OnOk, IfSome, refl}
use Rattle.std.specs.HashMap.{get, keys, IsReordered, Updates, PutsEntry}
use Rattle.std.proofs.Common.{arith, ap, sym, ◌∙◌, inl, inr, subst, length-append}
use Rattle.std.proofs.lemmas.Bool.{eqb-true, ltb-false, false≢true}
use Rattle.std.proofs.lemmas.List.{take-append-le}
use Rattle.std.proofs.Math.Seq.{take-append_seam}
use Rattle.std.proofs.lemmas.Option.{slice_get_within, slice_get-get_or, gets}
use Rattle.std.proofs.lemmas.List.Sorted.{IsNonDecreasingBy-push, IsPermutation-map, IsPermutation-sym, IsPermutation-trans, IsPermutation-cons, list_any-IsPermutation}
use Rattle.std.proofs.lemmas.Map.Made.{is_some-lookup}
use Rattle.std.proofs.lemmas.Map.{keys-set_value}
use Rattle.std.specs.Map.{keys_of}
use Rattle.std.specs.Option.{option_map}
use Rattle.base_types.specs.declared.ids.DocId.{DocId}
use Rattle.base_types.specs.declared.text_place.TextPlace.{TextPlace}
use Rattle.lists_versions.specs.declared.change.Change.{Change}
use Rattle.lists_versions.specs.declared.last_life.LastLife.{LastLife}
use Rattle.lists_versions.specs.declared.link.Link.{Link}
use Rattle.base_types.specs.declared.time.Time.{Time}
use Rattle.lists_versions.specs.declared.refusal.VersionRefusal.TheVariants.{TimeBack}
use Rattle.lists_versions.specs.Changes.{put, documents}
use Rattle.lists_versions.specs.Refusals.{time_back}
use Rattle.lists_versions.specs.Index.{LastLives, IsLatest, IsLinked, AreLinked, IsIndexed}
use Rattle.lists_versions.specs.LastLives.{IsLastLife}
use Rattle.lists_versions.specs.Links.{AreBack, IsJump}
use Rattle.lists_versions.proofs.Listed.{some_of, slice_get-end, slice_get-grown, slice_get-either}
use Rattle.lists_versions.proofs.Latest.{IsLatest-other, IsLatest-same}
use Rattle.lists_versions.proofs.Lasting.{IsLastLife-other}
use Rattle.lists_versions.proofs.Known.{has, put-there, put-new, documents-push, documents-above}

-- the place in the log of a document's latest change
abbrev pub place_of : Option LastLife → Option ℕ
place_of life = option_map (λ l. l.place) life

-- whether two documents are one
abbrev pub same : DocId → DocId → Bool
same a b = a.0 == b.0

-- documents with one number are one
pub same-is : (a b : DocId) → a.0 == b.0 ≡ true → a ≡ b
same-is a b e = ap (λ (n : ℕ). let d : DocId = record { 0 = n } in d) (eqb-true a.0 b.0 e)

-- entries in another order
pub IsIndexed-reordered : (log : List (Change TextPlace)) (links : List Link) (m n : LastLives) → IsReordered same m n → IsIndexed log links m → IsIndexed log links n
IsIndexed-reordered log links m n r h = record {
  way = h.way;
  found = λ doc. rw (r.2 doc) (h.found doc);
  alive = λ doc. rw (r.2 doc) (h.alive doc);
  each_once = IsPermutation-trans (keys n) (keys m) (documents log) (IsPermutation-map (λ e. e.0) n.entries m.entries (IsPermutation-sym m.entries n.entries r.0)) h.each_once;
}

-- a link as the log grows
pub IsLinked-push : (log : List (Change TextPlace)) (c : Change TextPlace) (i : ℕ) (doc : DocId) (link : Link) → i ≤ length log → IsLinked log i doc link → IsLinked (log ++ c ∷ []) i doc link
IsLinked-push log c i doc link n h = let to = some_of (slice_get log link.jump) _ h.same in record {
  before = rw (take-append-le i log (c ∷ []) n) h.before;
  back = h.back;
  moves = h.moves;
  same = rw (slice_get-grown log (c ∷ []) link.jump to.0 to.1) to.2;
}

-- where the document's latest change lies, as one more change comes
pub found-push : (log : List (Change TextPlace)) (c : Change TextPlace) (m n : LastLives) (life : LastLife) → life.place ≡ length log → ((doc : DocId) → IsLatest doc log (place_of (get same m doc))) → Updates same m n c.doc (Some life) → (doc : DocId) → IsLatest doc (log ++ c ∷ []) (place_of (get same n doc))
found-push log c m n life at h u doc = rw (u.0 doc) (go (same c.doc doc) refl)
  where
    go : (b : Bool) → same c.doc doc ≡ b → IsLatest doc (log ++ c ∷ []) (place_of (cond b (Some life) (get same m doc)))
    go true e = rw at (IsLatest-same doc log c (same-is c.doc doc e) e)
    go false e = IsLatest-other doc log (place_of (get same m doc)) c e (h doc)

-- when each document was alive last, as one more change comes
pub alive-push : (log : List (Change TextPlace)) (c : Change TextPlace) (m n : LastLives) (life : LastLife) → IsLastLife c.doc (log ++ c ∷ []) life → ((doc : DocId) → IfSome (get same m doc) (IsLastLife doc log)) → Updates same m n c.doc (Some life) → (doc : DocId) → IfSome (get same n doc) (IsLastLife doc (log ++ c ∷ []))
alive-push log c m n life new h u doc = rw (u.0 doc) (go (same c.doc doc) refl)
  where
    still : (o : Option LastLife) → same c.doc doc ≡ false → IfSome o (IsLastLife doc log) → IfSome o (IsLastLife doc (log ++ c ∷ []))
    still None e k = k
    still (Some old) e k = IsLastLife-other doc log c old e k

    go : (b : Bool) → same c.doc doc ≡ b → IfSome (cond b (Some life) (get same m doc)) (IsLastLife doc (log ++ c ∷ []))
    go true e = subst (λ (d : DocId). IsLastLife d (log ++ c ∷ []) life) (same-is c.doc doc e) new
    go false e = still (get same m doc) e (h doc)

-- the documents among the keys, as one more change comes
pub each_once-push : (log : List (Change TextPlace)) (c : Change TextPlace) (m n : LastLives) (life : LastLife) → IsPermutation (keys m) (documents log) → PutsEntry same m n c.doc life (get same m c.doc) → IsPermutation (keys n) (documents (log ++ c ∷ []))
each_once-push log c m n life p puts = rw (documents-push log c) (go (get same m c.doc) refl puts)
  where
    is : is_some (get same m c.doc) ≡ has c.doc (documents log)
    is = is_some-lookup (same c.doc) m.entries ∙ list_any-IsPermutation (same c.doc) (keys m) (documents log) p

    go : (old : Option LastLife) → get same m c.doc ≡ old → PutsEntry same m n c.doc life old → IsPermutation (keys n) (put c.doc (documents log))
    go None e q =
        IsPermutation-trans (keys n) (c.doc ∷ keys m) (put c.doc (documents log))
        (IsPermutation-map (λ e. e.0) n.entries ((c.doc, life) ∷ m.entries) (IsPermutation-sym ((c.doc, life) ∷ m.entries) n.entries q))
        (IsPermutation-trans (c.doc ∷ keys m) (c.doc ∷ documents log) (put c.doc (documents log))
        (IsPermutation-cons c.doc (keys m) (documents log) p)
        (put-new c.doc (documents log) (sym is ∙ ap is_some e)))
    go (Some old) e q =
        rw (put-there 0 c.doc (documents log) (documents-above log) (sym is ∙ ap is_some e))
        (subst (λ (ks : List DocId). IsPermutation ks (documents log)) (sym (ap keys_of q ∙ keys-set_value (same c.doc) m.entries life)) p)

-- the links as one more change comes
pub AreLinked-push : (log : List (Change TextPlace)) (links : List Link) (c : Change TextPlace) (link : Link) → AreLinked log links → ((d : Change TextPlace) → 0 < length log → (get_or log (length log - 1) d).at.seconds ≤ c.at.seconds) → IsLinked (log ++ c ∷ []) (length log) c.doc link → AreLinked (log ++ c ∷ []) (links ++ link ∷ [])
AreLinked-push log links c link h up new = record {
  ascending = IsNonDecreasingBy-push (λ d. d.at.seconds) log c h.ascending up;
  as_many = omega (arith, length-append links (link ∷ []), length-append log (c ∷ []), h.as_many);
  linked = λ i d l at to. each i d l (slice_get-either log c i d at) (slice_get-either links link i l to);
}
  where
    each : (i : ℕ) (d : Change TextPlace) (l : Link) → (slice_get log i ≡ Some d) ⊎ ((i ≡ length log) × (d ≡ c)) → (slice_get links i ≡ Some l) ⊎ ((i ≡ length links) × (l ≡ link)) → IsLinked (log ++ c ∷ []) i d.doc l
    each i d l (inl at) (inl to) = IsLinked-push log c i d.doc l (omega (arith, slice_get_within log i d at)) (h.linked i d l at to)
    each i d l (inl at) (inr to) = absurd (omega (arith, slice_get_within log i d at, h.as_many))
    each i d l (inr at) (inl to) = absurd (omega (arith, slice_get_within links i l to, h.as_many))
    each i d l (inr at) (inr to) = rw (at.0, at.1, to.1) new

-- what the map says of a document
pub known : (log : List (Change TextPlace)) (links : List Link) (m : LastLives) (doc : DocId) (life : Option LastLife) → IsIndexed log links m → get same m doc ≡ life → IsLatest doc log (place_of life)
known log links m doc life h e = subst (λ (o : Option LastLife). IsLatest doc log (place_of o)) e (h.found doc)

pub known-alive : (log : List (Change TextPlace)) (links : List Link) (m : LastLives) (doc : DocId) (life : Option LastLife) → IsIndexed log links m → get same m doc ≡ life → IfSome life (IsLastLife doc log)
known-alive log links m doc life h e = subst (λ (o : Option LastLife). IfSome o (IsLastLife doc log)) e (h.alive doc)

-- the place of a document's latest change is one of the log
pub known-within : (log : List (Change TextPlace)) (links : List Link) (m : LastLives) (doc : DocId) (life : LastLife) → IsIndexed log links m → get same m doc ≡ Some life → life.place < length log
known-within log links m doc life h e = let at = some_of (slice_get log life.place) _ (known log links m doc (Some life) h e) in slice_get_within log life.place at.0 at.1

-- no link leads forward
pub back : (log : List (Change TextPlace)) (links : List Link) → AreLinked log links → AreBack links
back log links h i link e =
    let n : i < length log = omega (arith, slice_get_within links i link e, h.as_many) in
    go (slice_get log i) refl n
  where
    go : (o : Option (Change TextPlace)) → slice_get log i ≡ o → i < length log → link.jump + link.span ≤ i
    go (Some c) f n = (h.linked i c link f e).back
    go None f n = absurd (grind (arith, gets))

-- the link of a document's first change
pub IsLinked-first : (log : List (Change TextPlace)) (links : List Link) (m : LastLives) (c : Change TextPlace) (link : Link) → IsIndexed log links m → get same m c.doc ≡ None → link ≡ record { before = None; jump = length log; span = 0 } → IsLinked (log ++ c ∷ []) (length log) c.doc link
IsLinked-first log links m c link h e is = rw is (record {
  before = rw (take-append_seam log (c ∷ [])) (known log links m c.doc None h e);
  back = omega arith;
  moves = λ some. absurd (false≢true some);
  same = rw (slice_get-end log c) refl;
})

-- the link of a change behind another
pub IsLinked-behind : (log : List (Change TextPlace)) (links : List Link) (m : LastLives) (c : Change TextPlace) (link : Link) (life : LastLife) → IsIndexed log links m → get same m c.doc ≡ Some life → link.before ≡ Some life.place → link.jump + link.span ≤ life.place + 1 → 1 ≤ link.span → IsJump links life.place link.jump → IsLinked (log ++ c ∷ []) (length log) c.doc link
IsLinked-behind log links m c link life h e before back moves jump = record {
  before = rw (take-append_seam log (c ∷ []), before) (known log links m c.doc (Some life) h e);
  back = omega (arith, known-within log links m c.doc life h e);
  moves = λ _. moves;
  same = let to = target jump in rw (slice_get-grown log (c ∷ []) link.jump to.0 to.1) to.2;
}
  where
    target : IsJump links life.place link.jump → (d : Change TextPlace) × (slice_get log link.jump ≡ Some d) × (d.doc ≡ c.doc)
    target (inl is) = let at = some_of (slice_get log life.place) _ (known log links m c.doc (Some life) h e) in (at.0, ap (slice_get log) is ∙ at.1, at.2.0)
    target (inr to) =
        let at = some_of (slice_get log life.place) _ (known log links m c.doc (Some life) h e) in
        let last = some_of (slice_get links life.place) _ to in
        let there = some_of (slice_get log last.0.jump) _ (h.way.linked life.place at.0 last.0 at.1 last.1).same in
        let far = some_of (slice_get links last.0.jump) _ last.2 in
        let end = some_of (slice_get log far.0.jump) _ (h.way.linked last.0.jump there.0 far.0 there.1 far.1).same in
        let doc : end.0.doc ≡ c.doc = cc (end.2, there.2, at.2.0) in
        (end.0, ap (slice_get log) far.2 ∙ end.1, doc)

-- a time that isn't refused lies at or behind the last one
pub not_back : (log : List (Change TextPlace)) (at : Time) → time_back at log ≡ None → (d : Change TextPlace) → 0 < length log → (get_or log (length log - 1) d).at.seconds ≤ at.seconds
not_back log at h d n =
    let e : slice_get log (length log - 1) ≡ Some (get_or log (length log - 1) d) = slice_get-get_or log (length log - 1) d (omega arith) in
    go (nat_lt at.seconds (get_or log (length log - 1) d).at.seconds) refl (rw e at h)
  where
    last : Time
    last = (get_or log (length log - 1) d).at

    go : (b : Bool) → nat_lt at.seconds (get_or log (length log - 1) d).at.seconds ≡ b → cond b (Some (TimeBack last)) None ≡ None → (get_or log (length log - 1) d).at.seconds ≤ at.seconds
    go true e q = absurd (cc)
    go false e q = ltb-false at.seconds (get_or log (length log - 1) d).at.seconds e

-- the index after the calls that enter a change
pub IsIndexed-entered : {E : Type 0} (log log2 : List (Change TextPlace)) (links links2 : List Link) (m n : LastLives) (c : Change TextPlace) (link : Link) (life : LastLife) (r : Result (Option LastLife) E) → IsIndexed log links m → ((d : Change TextPlace) → 0 < length log → (get_or log (length log - 1) d).at.seconds ≤ c.at.seconds) → IsLinked (log ++ c ∷ []) (length log) c.doc link → life.place ≡ length log → IsLastLife c.doc (log ++ c ∷ []) life → log2 ≡ log ++ c ∷ [] → links2 ≡ links ++ link ∷ [] → IsOk r → IfOk r (λ old. old ≡ get same m c.doc) → OnOk r (Updates same m n c.doc (Some life)) → IfOk r (PutsEntry same m n c.doc life) → IsIndexed log2 links2 n
IsIndexed-entered log log2 links links2 m n c link life (Ok old) h up new at lasts is_log is_links k is_old u puts =
    rw (is_log, is_links) (record {
      way = AreLinked-push log links c link h.way up new;
      found = found-push log c m n life at h.found u;
      alive = alive-push log c m n life lasts h.alive u;
      each_once = each_once-push log c m n life h.each_once (subst (λ (o : Option LastLife). PutsEntry same m n c.doc life o) is_old puts);
    })
IsIndexed-entered log log2 links links2 m n c link life (Err e) h up new at lasts is_log is_links k is_old u puts = absurd (false≢true k)
