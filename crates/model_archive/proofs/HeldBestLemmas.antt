-- Where the pages hold what the live plans need: the headers of a segment's place are those of its sublist's blocks, each block is spelled as its
-- postings are, and nothing is damaged.
use Rattle.std.proofs.Common.{◌≡◌, ℕ, zero, suc, ◌+◌, ◌-◌, ◌<◌, ◌≤◌, ◌&&◌, nat_lt, Bool, true, false, if◌then◌else◌, List, [], ◌∷◌, ◌++◌, length, map, take, drop, get_or, All, Contains, Result, Ok, refl, ap, sym, subst, ◌∙◌, arith, inl, inr}
use Rattle.std.proofs.lemmas.Bool.Decides.{nat_tests}
use Rattle.std.proofs.lemmas.List.{get_or-map, length-map, length-take, take-append-drop}
use Rattle.std.proofs.lemmas.List.Elements.{Contains-append_left, Contains-append_right}
use Rattle.base_types.specs.declared.posting.Posting.{Posting}
use Rattle.lists_postings.specs.Lists.{IsList, meets, sublist}
use Rattle.lists_postings.proofs.Clipping.{sublist_list}
use Rattle.lists_postings.proofs.Elements.{filter-from, here-or-later, none}
use Rattle.journal_entries.specs.declared.place.Layout.{Layout}
use Rattle.journal_entries.specs.declared.place.Layout.TheVariants.{Flat, Blocks}
use Rattle.journal_entries.specs.declared.place.Place.{Place}
use Rattle.journal_entries.specs.declared.plan.PlanEntry.{PlanEntry}
use Rattle.pages_codec.specs.Fields.{Fields, fields}
use Rattle.pages_codec.specs.Blocks.{Head, block, block_spelling, blocks_at, head_for, pieces}
use Rattle.pages_codec.specs.Frames.{FramesState, block_bytes, frames_at, start_of}
use Rattle.pages_codec.specs.Heads.{head_of}
use Rattle.pages_codec.specs.declared.head.BlockHead.{BlockHead}
use Rattle.base_types.proofs.Equal.{same_posting}
use Rattle.std.specs.List.{flat_map}
use Rattle.pages_codec.proofs.BlockCodec.{block_codec}
use Rattle.pages_codec.proofs.FramedLemmas.{block_of, piece_spelling, pieces-fields, spelled_frames}
use Rattle.pages_sublists.specs.Fetching.{belongs}
use Rattle.pages_sublists.specs.Framing.{IsFramed, IsUnframed, IsUnopened}
use Rattle.pages_sublists.specs.Gathering.{Chosen, bytes_of, chosen}
use Rattle.pages_sublists.specs.Segments.{EachSegment, HoldsSublist, next_cut, seconds}
use Rattle.pages_sublists.specs.declared.why.Damage.{Damage}
use Rattle.pages_sublists.specs.declared.why.Why.{Why}
use Rattle.pages_sublists.specs.declared.why.Why.TheVariants.{Astray, Bare, Clash, Digest, Form}
use Rattle.model_archive.specs.Bests.{IsDamagedAt, SpoilsBest, header, in_pieces}
use Rattle.model_archive.specs.Histories.{History}
use Rattle.model_archive.specs.Holding.{HoldsPlans}
use Rattle.model_archive.specs.Legal.{IsLoadable}
use Rattle.model_archive.proofs.ChosenLemmas.{IsHeld, held_for, held_undamaged}

-- postings with the same numbers are the same
pub same_all : (ps qs : List Posting) → map fields ps ≡ map fields qs → ps ≡ qs
same_all [] [] e = refl
same_all [] (q ∷ qs) e = absurd cc
same_all (p ∷ ps) [] e = absurd cc
same_all (p ∷ ps) (q ∷ qs) e =
    let h : fields p ≡ fields q = cc in
    let t : map fields ps ≡ map fields qs = cc in
    let a = same_posting p q (ap (λ (x : Fields). x.doc) h) (ap (λ (x : Fields). x.from) h) (ap (λ (x : Fields). x.to) h) (ap (λ (x : Fields). x.tf) h) in
    let b = same_all ps qs t in
    cc

-- ---- the blocks of a list

list-left : (a b : List Posting) → IsList (a ++ b) → IsList a
list-left [] b is = tt
list-left (p ∷ []) b is = tt
list-left (p ∷ q ∷ a) b is = (is.0, list-left (q ∷ a) b is.1)

list-right : (a b : List Posting) → IsList (a ++ b) → IsList b
list-right [] b is = is
list-right (p ∷ []) [] is = tt
list-right (p ∷ []) (q ∷ b) is = is.1
list-right (p ∷ q ∷ a) b is = list-right (q ∷ a) b is.1

-- a block of a list: it has 1 to 128 of the list's postings, in order
pub record IsPiece (list piece : List Posting) : Type 0 where
  pub ordered : IsList piece
  pub some : 1 ≤ length piece
  pub few : length piece ≤ 128
  pub among : (p : Posting) → Contains piece p → Contains list p

pub piece-is : (most : ℕ) (list : List Posting) (n : ℕ) → IsList list → n < length (pieces most list) → IsPiece list (get_or (pieces most list) n [])
piece-is zero [] n is l = absurd (omega (arith, l))
piece-is (suc most) [] n is l = absurd (omega (arith, l))
piece-is zero (p ∷ list) n is l = absurd (omega (arith, l))
piece-is (suc most) (p ∷ list) zero is l =
    let whole : take 128 (p ∷ list) ++ drop 128 (p ∷ list) ≡ p ∷ list = take-append-drop 128 (p ∷ list) in
    record {
      ordered = list-left (take 128 (p ∷ list)) (drop 128 (p ∷ list)) (subst IsList (sym whole) is);
      some = omega arith;
      few = omega (arith, length-take 128 (p ∷ list));
      among = λ q c. subst (λ (l : List Posting). Contains l q) whole (Contains-append_left (take 128 (p ∷ list)) (drop 128 (p ∷ list)) q c);
    }
piece-is (suc most) (p ∷ list) (suc n) is l =
    let whole : take 128 (p ∷ list) ++ drop 128 (p ∷ list) ≡ p ∷ list = take-append-drop 128 (p ∷ list) in
    let rest = piece-is most (drop 128 (p ∷ list)) n (list-right (take 128 (p ∷ list)) (drop 128 (p ∷ list)) (subst IsList (sym whole) is)) (omega (arith, l)) in
    record {
      ordered = rest.ordered;
      some = rest.some;
      few = rest.few;
      among = λ q c. subst (λ (l : List Posting). Contains l q) whole (Contains-append_right (take 128 (p ∷ list)) (drop 128 (p ∷ list)) q (rest.among q c));
    }

abbrev raised : Head → BlockHead
raised h = record { count = h.count; size = h.size; top = h.top; first = record { 0 = h.first }; last = record { 0 = h.last } }

raised-back : (heads : List BlockHead) → map raised (map head_of heads) ≡ heads
raised-back [] = refl
raised-back (h ∷ heads) = ap (λ (hs : List BlockHead). h ∷ hs) (raised-back heads)

raised-headers : (bs : List (List Posting)) → map raised (map head_for (map (map fields) bs)) ≡ map header bs
raised-headers [] = refl
raised-headers (b ∷ bs) = ap (λ (hs : List BlockHead). header b ∷ hs) (raised-headers bs)

-- bytes that spell a list, by their headers
pub record AreFramesOf (list : List Posting) (f : FramesState) : Type 0 where
  pub heads : f.heads ≡ map header (in_pieces list)
  pub each : (n : ℕ) → n < length (in_pieces list) → block_bytes f n ≡ block_spelling (get_or (in_pieces list) n [])

pub frames_of : (list : List Posting) (f : FramesState) → IsList list → f.bytes ≡ block_spelling list → frames_at f.bytes ≡ Ok (map head_of f.heads) → AreFramesOf list f
unfolding block_spelling
frames_of list f is bytes framed =
    let bs = in_pieces list in
    let other = ap frames_at bytes ∙ spelled_frames list is in
    let same : map head_of f.heads ≡ map head_for (pieces (length list) (map fields list)) = one-ok (sym framed ∙ other) in
    let by : map head_of f.heads ≡ map head_for (map (map fields) bs) = same ∙ ap (map head_for) (sym (pieces-fields (length list) list)) in
    record {
      heads = sym (raised-back f.heads) ∙ ap (map raised) by ∙ raised-headers bs;
      each = λ n l.
          let count : length (map (map fields) bs) ≡ length bs = length-map bs (map fields) in
          let piece = piece-is (length list) list n is l in
          let here = block_of (map (map fields) bs) f.heads n by (omega (arith, l, count)) in
          let at : get_or (map (map fields) bs) n [] ≡ map fields (get_or bs n []) = get_or-map (map fields) bs n [] [] l in
          ap (λ (xs : List ℕ). take (start_of f.heads (n + 1) - start_of f.heads n) (drop (start_of f.heads n) xs)) (bytes ∙ ap (flat_map block) (sym (pieces-fields (length list) list)))
          ∙ here ∙ ap block at ∙ sym (piece_spelling (get_or bs n []) piece.some piece.few);
    }
  where
    one-ok : {a b : List Head} → ◌≡◌ {A = Result (List Head) ℕ} (Ok a) (Ok b) → a ≡ b
    one-ok e = cc

-- ---- a segment's place

chosen-holds : (R : ℕ → ℕ → Place → Type 0) (a b h : ℕ) (first : Bool) (cuts : List ℕ) (places : List Place) (c : Chosen) → EachSegment R cuts h places → Contains (chosen a b h first cuts places) c → R c.from c.to c.place
chosen-holds R a b h first [] [] c each k = absurd (none c k)
chosen-holds R a b h first [] (p ∷ places) c each k = absurd each
chosen-holds R a b h first (f ∷ cuts) [] c each k = absurd each
chosen-holds R a b h first (f ∷ cuts) (p ∷ places) c each k = go (nat_lt f b && nat_lt a (next_cut cuts h)) k (chosen-holds R a b h false cuts places c each.1)
  where
    one : Chosen
    one = record { from = f; to = next_cut cuts h; place = p; first = first }

    go : (o : Bool) → Contains ((if o then one ∷ [] else []) ++ chosen a b h false cuts places) c → (Contains (chosen a b h false cuts places) c → R c.from c.to c.place) → R c.from c.to c.place
    go true k rest = elim (here-or-later one c (chosen a b h false cuts places) k) [ inl i ↦ subst (λ (x : Chosen). R x.from x.to x.place) i each.0 | inr m ↦ rest m ]
    go false k rest = rest k

-- the frames of a place that holds a segment's sublist
pub held_frames : (list : List Posting) (pages : List ℕ) (c : Chosen) (f : FramesState) → IsList list → HoldsSublist Blocks list pages c.from c.to c.place → IsFramed c.place.digest (bytes_of c pages) f
    → AreFramesOf (sublist c.from c.to list) f
held_frames list pages c f is holds framed =
    frames_of (sublist c.from c.to list) f (sublist_list c.from c.to list is) (framed.bytes_are ∙ holds.bytes) (ap frames_at framed.bytes_are ∙ framed.heads_are)

pub held_chosen : (h : History) (pages : List ℕ) (word : List ℕ) (plan : PlanEntry) (t : ℕ) (c : Chosen) → (held : IsHeld h pages word plan) → Contains (chosen t (t + 1) plan.horizon.seconds true (seconds plan.cuts) plan.places) c
    → HoldsSublist plan.layout held.list pages c.from c.to c.place
held_chosen h pages word plan t c held k =
    chosen-holds (HoldsSublist plan.layout held.list pages) t (t + 1) plan.horizon.seconds true (seconds plan.cuts) plan.places c held.each k

-- ---- nothing is damaged

unframed_never : (list : List Posting) (pages : List ℕ) (c : Chosen) (why : Why) → IsList list → HoldsSublist Blocks list pages c.from c.to c.place → IsUnframed c.place.digest (bytes_of c pages) why → ⊥
unframed_never list pages c (Digest kept got) is holds (a, b, differ) = differ (a ∙ holds.digest ∙ sym b)
unframed_never list pages c Form is holds (a, formless) =
    formless _ (ap frames_at holds.bytes ∙ spelled_frames (sublist c.from c.to list) (sublist_list c.from c.to list is))
unframed_never list pages c (Astray p) is holds un = un
unframed_never list pages c (Clash one other) is holds un = un
unframed_never list pages c Bare is holds un = un

unopened_never : (list : List Posting) (h : ℕ) (f : FramesState) (from to n : ℕ) (why : Why) → IsList list → All (λ (p : Posting). p.span.to ≤ h) list → AreFramesOf (sublist from to list) f → n < length f.heads → IsUnopened f n from to h why → ⊥
unopened_never list h f from to n why is ended frames l un =
    let sub = sublist from to list in
    let count : length f.heads ≡ length (in_pieces sub) = ap length frames.heads ∙ length-map (in_pieces sub) header in
    go why un (piece-is (length sub) sub n (sublist_list from to list is) (omega (arith, l, count))) (frames.each n (omega (arith, l, count)))
  where
    piece : List Posting
    piece = get_or (in_pieces (sublist from to list)) n []

    good : (p : Posting) → Contains piece p → IsPiece (sublist from to list) piece → belongs from to h p ≡ true
    good p c is-piece =
        let m = filter-from (meets from to) p list (is-piece.among p c) in
        let (k, l, e) = m.0 in
        let e2 : p.span.to ≤ h = subst (λ (x : Posting). x.span.to ≤ h) e (ended k p l) in
        let y : meets from to p ≡ true = m.1 in
        grind (arith, nat_tests)

    go : (why : Why) → IsUnopened f n from to h why → IsPiece (sublist from to list) piece → block_bytes f n ≡ block_spelling piece → ⊥
    go Form un is-piece bytes = un piece is-piece.ordered bytes
    go (Astray p) (other, ordered, spelled, astray) is-piece bytes =
        let same : map fields other ≡ map fields piece = one-ok (sym (block_codec.again other ordered) ∙ ap blocks_at (sym spelled ∙ bytes) ∙ block_codec.again piece is-piece.ordered) in
        let here : Contains other p = subst (λ (l : List Posting). Contains l p) (sym astray.is) (Contains-append_right astray.front (p ∷ astray.back) p (0, omega arith, refl)) in
        let fine = good p (subst (λ (l : List Posting). Contains l p) (same_all other piece same) here) is-piece in
        let bad = astray.bad in
        cc
      where
        one-ok : {a b : List Fields} → ◌≡◌ {A = Result (List Fields) ℕ} (Ok a) (Ok b) → a ≡ b
        one-ok e = cc
    go (Digest kept got) un is-piece bytes = un
    go (Clash one other) un is-piece bytes = un
    go Bare un is-piece bytes = un

pub best_undamaged : (h : History) (pages : List ℕ) (t : ℕ) (phrase : List ℕ) (damage : Damage) → IsLoadable h → HoldsPlans h pages → SpoilsBest h pages t phrase damage → ⊥
best_undamaged h pages t phrase damage loads held_all spoils =
    let plan = spoils.plan in
    let held = held_for h pages spoils.word plan loads held_all spoils.live in
    go plan.layout refl spoils.damaged held
  where
    go : (layout : Layout) → spoils.plan.layout ≡ layout → IsDamagedAt pages spoils.plan layout t damage → IsHeld h pages spoils.word spoils.plan → ⊥
    go Flat e told held = held_undamaged h pages spoils.word t (t + 1) damage loads held_all (record { plan = spoils.plan; live = spoils.live; told = told })
    go Blocks e (c, among, (page, why)) held =
        let holds = subst (λ (l : Layout). HoldsSublist l held.list pages c.from c.to c.place) e (held_chosen h pages spoils.word spoils.plan t c held among) in
        elim why [
          | inl un ↦ unframed_never held.list pages c damage.why held.list_is.ordered holds un
          | inr (f, n, framed, l, un) ↦
              unopened_never held.list spoils.plan.horizon.seconds f c.from c.to n damage.why held.list_is.ordered (λ k d m. (held.cuts.inside k d m).1) (held_frames held.list pages c f held.list_is.ordered holds framed) l un
        ]
