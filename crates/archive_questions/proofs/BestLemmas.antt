-- What is held of a word at a time is what there is of it, where the pages hold what the live plans need; and what is damaged of it.
use Rattle.std.proofs.Common.{◌≡◌, ◌⊎◌, ℕ, zero, suc, ◌+◌, ◌<◌, ◌≤◌, ◌&&◌, nat_lt, Bool, true, false, cond, if◌then◌else◌, List, [], ◌∷◌, ◌++◌, length, map, take, drop, get_or, sum_by, Contains, Option, Some, None, Result, Ok, refl, ap, sym, subst, ◌∙◌, arith, inl, inr}
use Rattle.std.proofs.lemmas.Bool.Decides.{nat_tests}
use Rattle.std.proofs.lemmas.List.{length-drop, length-map, length-take}
use Rattle.std.proofs.lemmas.List.Elements.{Contains-append_cases, Contains-append_left, Contains-append_right}
use Rattle.std.proofs.lemmas.List.Sums.{length-filter, sum_by-cons}
use Rattle.base_types.specs.declared.posting.Posting.{Posting}
use Rattle.lists_postings.specs.Lists.{ComesBefore, IsList, holds, meets, rows_at, sublist}
use Rattle.lists_postings.specs.Sizes.{size}
use Rattle.lists_postings.specs.Unions.{IsUnion}
use Rattle.lists_postings.proofs.Clipping.{sublist_list}
use Rattle.lists_postings.proofs.Elements.{here-or-later, none, one_order}
use Rattle.lists_postings.proofs.Order.{before-trans}
use Rattle.journal_entries.specs.declared.place.Layout.{Layout}
use Rattle.journal_entries.specs.declared.place.Layout.TheVariants.{Flat, Blocks}
use Rattle.journal_entries.specs.declared.place.Place.{Place}
use Rattle.journal_entries.specs.declared.plan.PlanEntry.{PlanEntry}
use Rattle.pages_codec.specs.Fields.{Fields, fields}
use Rattle.pages_codec.specs.Flat.{list_at}
use Rattle.pages_codec.specs.Blocks.{block_spelling, blocks_at, pieces}
use Rattle.pages_codec.specs.Frames.{FramesState}
use Rattle.pages_codec.specs.declared.head.BlockHead.{BlockHead}
use Rattle.pages_codec.proofs.BlockCodec.{block_codec}
use Rattle.pages_codec.proofs.FlatLemmas.{flat_codec}
use Rattle.pages_checked.specs.Layouts.{spelling_in}
use Rattle.pages_sublists.specs.Framing.{IsFramed}
use Rattle.pages_sublists.specs.Gathering.{Chosen, Gathers, bytes_of, chosen, stored_size}
use Rattle.pages_sublists.specs.Segments.{EachSegment, HoldsSublist, next_cut, seconds}
use Rattle.pages_sublists.specs.declared.why.Damage.{Damage}
use Rattle.query_top.specs.Sheets.{Sheet}
use Rattle.query_top.proofs.ZipLemmas.{zip-more}
use Rattle.query_best.specs.Held.{AreBlocksOf, IsBadBlock, IsBadOf, IsHeldAs, heads_in}
use Rattle.query_best.specs.declared.held.HeldBlocks.{HeldBlocks}
use Rattle.query_best.specs.declared.held.HeldWord.{HeldWord}
use Rattle.model_archive.specs.Bests.{IsDamagedAt, IsSheetOf, header, in_pieces, sheet_laid, sublist_at}
use Rattle.model_archive.specs.Chosen.{GathersOf, IsChosenOf, IsDamagedFor, IsReadFor, IsReadOf, IsTailFor}
use Rattle.model_archive.specs.Histories.{History}
use Rattle.model_archive.specs.Holding.{HoldsPlans}
use Rattle.model_archive.specs.Legal.{IsLoadable}
use Rattle.model_archive.specs.Plans.{plan_of}
use Rattle.model_archive.proofs.ChosenLemmas.{IsHeld, held_for}
use Rattle.model_archive.proofs.HeldBestLemmas.{AreFramesOf, held_chosen, held_frames, piece-is, same_all}
use Rattle.archive_plans.specs.Framing.{IsFramedAt, IsUnframedAt, chosen_at}
use Rattle.archive_plans.specs.declared.framing.SegmentFrames.{SegmentFrames}
use Rattle.archive_plans.proofs.SegmentLemmas.{few}
use Rattle.archive_questions.specs.Bests.{AreBlocksAt, AreHeld, IsDamagedAmong, IsDamagedOne, IsHeldOne}

-- ---- the segment that has the time

at-none : (t h : ℕ) (first : Bool) (list : List Posting) (cuts : List ℕ) (places : List Place) → length places ≡ length cuts → chosen t (t + 1) h first cuts places ≡ [] → (sublist_at t h list cuts ≡ []) × (stored_size t (t + 1) h list cuts ≡ 0)
at-none t h first list [] [] n e = (refl, refl)
at-none t h first list [] (p ∷ places) n e = absurd (omega (arith, n))
at-none t h first list (f ∷ cuts) [] n e = absurd (omega (arith, n))
at-none t h first list (f ∷ cuts) (p ∷ places) n e = go (nat_lt f (t + 1) && nat_lt t (next_cut cuts h)) e (at-none t h false list cuts places (omega (arith, n)))
  where
    one : Chosen
    one = record { from = f; to = next_cut cuts h; place = p; first = first }

    go : (b : Bool) → (if b then one ∷ [] else []) ++ chosen t (t + 1) h false cuts places ≡ [] → (chosen t (t + 1) h false cuts places ≡ [] → (sublist_at t h list cuts ≡ []) × (stored_size t (t + 1) h list cuts ≡ 0))
        → (cond b (sublist f (next_cut cuts h) list) (sublist_at t h list cuts) ≡ []) × ((if b then size f (next_cut cuts h) list else 0) + stored_size t (t + 1) h list cuts ≡ 0)
    go true e rest = absurd cc
    go false e rest = let r = rest e in (r.0, omega (arith, r.1))

at-one : (t h : ℕ) (first : Bool) (list : List Posting) (cuts : List ℕ) (places : List Place) (c : Chosen) → length places ≡ length cuts → chosen t (t + 1) h first cuts places ≡ c ∷ []
    → (sublist_at t h list cuts ≡ sublist c.from c.to list) × (stored_size t (t + 1) h list cuts ≡ size c.from c.to list)
at-one t h first list [] [] c n e = absurd cc
at-one t h first list [] (p ∷ places) c n e = absurd (omega (arith, n))
at-one t h first list (f ∷ cuts) [] c n e = absurd (omega (arith, n))
at-one t h first list (f ∷ cuts) (p ∷ places) c n e =
    go (nat_lt f (t + 1) && nat_lt t (next_cut cuts h)) e (at-none t h false list cuts places (omega (arith, n))) (at-one t h false list cuts places c (omega (arith, n)))
  where
    one : Chosen
    one = record { from = f; to = next_cut cuts h; place = p; first = first }

    go : (b : Bool) → (if b then one ∷ [] else []) ++ chosen t (t + 1) h false cuts places ≡ c ∷ [] → (chosen t (t + 1) h false cuts places ≡ [] → (sublist_at t h list cuts ≡ []) × (stored_size t (t + 1) h list cuts ≡ 0))
        → (chosen t (t + 1) h false cuts places ≡ c ∷ [] → (sublist_at t h list cuts ≡ sublist c.from c.to list) × (stored_size t (t + 1) h list cuts ≡ size c.from c.to list))
        → (cond b (sublist f (next_cut cuts h) list) (sublist_at t h list cuts) ≡ sublist c.from c.to list) × ((if b then size f (next_cut cuts h) list else 0) + stored_size t (t + 1) h list cuts ≡ size c.from c.to list)
    go true e none more =
        let same : one ≡ c = cc in
        let rest : chosen t (t + 1) h false cuts places ≡ [] = cc in
        (ap (λ (x : Chosen). sublist x.from x.to list) same, omega (arith, (none rest).1, ap (λ (x : Chosen). size x.from x.to list) same))
    go false e none more = let r = more e in (r.0, omega (arith, r.1))

places-long : (R : ℕ → ℕ → Place → Type 0) (cuts : List ℕ) (h : ℕ) (places : List Place) → EachSegment R cuts h places → length places ≡ length cuts
places-long R [] h [] e = refl
places-long R [] h (p ∷ places) e = absurd e
places-long R (f ∷ cuts) h [] e = absurd e
places-long R (f ∷ cuts) h (p ∷ places) e = omega (arith, places-long R cuts h places e.1)

-- ---- headers count the postings

counts : (most : ℕ) (list : List Posting) → length list ≤ most → sum_by (λ (h : BlockHead). h.count) (map header (pieces most list)) ≡ length list
counts zero [] l = refl
counts (suc most) [] l = refl
counts zero (p ∷ list) l = absurd (omega (arith, l))
counts (suc most) (p ∷ list) l =
    let front : length (map fields (take 128 (p ∷ list))) ≡ length (take 128 (p ∷ list)) = length-map (take 128 (p ∷ list)) fields in
    let s = sum_by-cons (λ (h : BlockHead). h.count) (header (take 128 (p ∷ list))) (map header (pieces most (drop 128 (p ∷ list)))) in
    let rest = counts most (drop 128 (p ∷ list)) (omega (arith, l, length-drop 128 (p ∷ list))) in
    omega (arith, s, front, rest, length-take 128 (p ∷ list), length-drop 128 (p ∷ list))

pub heads-count : (list : List Posting) (heads : List BlockHead) → heads ≡ map header (in_pieces list) → sum_by (λ (h : BlockHead). h.count) heads ≡ length list
heads-count list heads is = ap (sum_by (λ (h : BlockHead). h.count)) is ∙ counts (length list) list (omega arith)

-- ---- a word whose plan is in blocks

blocks-of : (stored : List Posting) (b : HeldBlocks) (sheet : Sheet) → IsList stored → AreFramesOf stored b.frames → sheet.heads ≡ map header (in_pieces stored) → sheet.blocks ≡ in_pieces stored → AreBlocksOf (Some b) sheet
blocks-of stored b sheet is frames heads blocks = (
  frames.heads ∙ sym heads,
  ap length blocks ∙ sym (length-map (in_pieces stored) header) ∙ ap length (sym heads),
  λ n l.
      let inside : n < length (in_pieces stored) = omega (arith, l, ap length blocks) in (
        (subst (λ (bs : List (List Posting)). IsList (get_or bs n [])) (sym blocks) (piece-is (length stored) stored n is inside).ordered),
        frames.each n inside ∙ ap (λ (bs : List (List Posting)). block_spelling (get_or bs n [])) (sym blocks),
      ),
)

-- what is held of such a word is what there is of it
module _ (h : History) (pages : List ℕ) (t : ℕ) (word : List ℕ) (plan : PlanEntry) (loads : IsLoadable h) (held_all : HoldsPlans h pages) (live : plan_of h word ≡ Some plan) where
  pub in-blocks : (s : Option SegmentFrames) (w : HeldWord) (tail : List Posting) (read : ℕ) → plan.layout ≡ Blocks → IsFramedAt pages plan t s → IsTailFor h word (t + 1) plan.horizon.seconds tail → AreBlocksAt plan.horizon.seconds s w.blocks
      → w.flat.items ≡ rows_at t tail → read ≡ sum_by (λ (x : BlockHead). x.count) (heads_in w.blocks) + length tail → IsHeldOne h t word w read
  in-blocks s w tail read blocks framed is_tail made flat sum = go s framed made
    where
      held : IsHeld h pages word plan
      held = held_for h pages word plan loads held_all live

      long : length plan.places ≡ length (seconds plan.cuts)
      long = places-long (HoldsSublist plan.layout held.list pages) (seconds plan.cuts) plan.horizon.seconds plan.places held.each

      stored : List Posting
      stored = sublist_at t plan.horizon.seconds held.list (seconds plan.cuts)

      sheet : Sheet
      sheet = sheet_laid plan.layout t stored tail

      laid : sheet ≡ sheet_laid Blocks t stored tail
      laid = ap (λ (l : Layout). sheet_laid l t stored tail) blocks

      sheet_of_word : IsSheetOf h word (plan_of h word) t sheet
      sheet_of_word = subst (λ (o : Option PlanEntry). IsSheetOf h word o t sheet) (sym live) (held.list, tail, held.list_is, is_tail, refl)

      read_of_word : read ≡ stored_size t (t + 1) plan.horizon.seconds held.list (seconds plan.cuts) + length tail → IsReadOf h word (plan_of h word) t (t + 1) read
      read_of_word e = subst (λ (o : Option PlanEntry). IsReadOf h word o t (t + 1) read) (sym live) (held.list, tail, held.list_is, is_tail, e)

      go : (s : Option SegmentFrames) → IsFramedAt pages plan t s → AreBlocksAt plan.horizon.seconds s w.blocks → IsHeldOne h t word w read
      go None none made =
          let at = at-none t plan.horizon.seconds true held.list (seconds plan.cuts) plan.places long none in
          let empty : sheet ≡ sheet_laid Blocks t [] tail = laid ∙ ap (λ (xs : List Posting). sheet_laid Blocks t xs tail) at.0 in
          let heads : sheet.heads ≡ [] = ap (λ (x : Sheet). x.heads) empty in
          let bs : sheet.blocks ≡ [] = ap (λ (x : Sheet). x.blocks) empty in
          record {
            sheet = sheet;
            sheet_is = sheet_of_word;
            held_as = record { flat = flat ∙ sym (ap (λ (x : Sheet). x.flat) laid); blocks = subst (λ (o : Option HeldBlocks). AreBlocksOf o sheet) (sym made) (heads, bs) };
            read_is = read_of_word (omega (arith, sum, at.1, ap (λ (o : Option HeldBlocks). sum_by (λ (x : BlockHead). x.count) (heads_in o)) made));
          }
      go (Some s) (c, one, at_c) (b, made, frames, page, span, horizon) =
          let at = at-one t plan.horizon.seconds true held.list (seconds plan.cuts) plan.places c long one in
          let among : Contains (chosen_at plan t) c = subst (λ (cs : List Chosen). Contains cs c) (sym one) (0, omega arith, refl) in
          let holds = subst (λ (l : Layout). HoldsSublist l held.list pages c.from c.to c.place) blocks (held_chosen h pages word plan t c held among) in
          let own = held_frames held.list pages c s.frames held.list_is.ordered holds at_c.framed in
          let sub = sublist c.from c.to held.list in
          let here : AreFramesOf sub b.frames = subst (λ (f : FramesState). AreFramesOf sub f) (sym frames) own in
          let filled : sheet ≡ sheet_laid Blocks t sub tail = laid ∙ ap (λ (xs : List Posting). sheet_laid Blocks t xs tail) at.0 in
          let heads : sheet.heads ≡ map header (in_pieces sub) = ap (λ (x : Sheet). x.heads) filled in
          let bs : sheet.blocks ≡ in_pieces sub = ap (λ (x : Sheet). x.blocks) filled in
          let sized : size c.from c.to held.list ≡ length sub = sym (length-filter (meets c.from c.to) held.list) in
          record {
            sheet = sheet;
            sheet_is = sheet_of_word;
            held_as = record {
              flat = flat ∙ sym (ap (λ (x : Sheet). x.flat) laid);
              blocks = subst (λ (o : Option HeldBlocks). AreBlocksOf o sheet) (sym made) (blocks-of sub b sheet (sublist_list c.from c.to held.list held.list_is.ordered) here heads bs);
            };
            read_is = read_of_word (omega (arith, sum, at.1, sized, heads-count sub b.frames.heads here.heads, ap (λ (o : Option HeldBlocks). sum_by (λ (x : BlockHead). x.count) (heads_in o)) made));
          }

-- a block that is bad is damaged of what is read
pub bad-at : (pages : List ℕ) (plan : PlanEntry) (t : ℕ) (s : Option SegmentFrames) (blocks : Option HeldBlocks) (block : ℕ) (damage : Damage) → plan.layout ≡ Blocks → IsFramedAt pages plan t s → AreBlocksAt plan.horizon.seconds s blocks
    → block < length (heads_in blocks) → IsBadBlock blocks block damage → IsDamagedAt pages plan plan.layout t damage
bad-at pages plan t s blocks block damage in_blocks framed made l bad =
    subst (λ (x : Layout). IsDamagedAt pages plan x t damage) (sym in_blocks) (go s framed made)
  where
    go : (s : Option SegmentFrames) → IsFramedAt pages plan t s → AreBlocksAt plan.horizon.seconds s blocks → IsDamagedAt pages plan Blocks t damage
    go None none made = absurd (subst (λ (o : Option HeldBlocks). IsBadBlock o block damage) made bad)
    go (Some s) (c, one, at_c) (b, made, frames, page, span, horizon) =
        let among : Contains (chosen_at plan t) c = subst (λ (cs : List Chosen). Contains cs c) (sym one) (0, omega arith, refl) in
        let here = subst (λ (o : Option HeldBlocks). IsBadBlock o block damage) made bad in
        let inside : block < length b.frames.heads = subst (λ (o : Option HeldBlocks). block < length (heads_in o)) made l in
        let from : b.span.from ≡ c.from = ap (λ x. x.from) span ∙ at_c.from in
        let to : b.span.to ≡ c.to = ap (λ x. x.to) span ∙ at_c.to in
        (c, among, (here.0 ∙ page ∙ at_c.page, inr (b.frames, block, subst (λ (f : FramesState). IsFramed c.place.digest (bytes_of c pages) f) (sym frames) at_c.framed, inside, rw (from, to, horizon) at here.1)))

pub unframed-at : (pages : List ℕ) (plan : PlanEntry) (t : ℕ) (damage : Damage) → plan.layout ≡ Blocks → IsUnframedAt pages plan t damage → IsDamagedAt pages plan plan.layout t damage
unframed-at pages plan t damage in_blocks (c, among, page, un) = subst (λ (x : Layout). IsDamagedAt pages plan x t damage) (sym in_blocks) (c, among, (page, inl un))

-- ---- a word whose postings are at hand

rows-meet : (t : ℕ) (list : List Posting) → rows_at t (sublist t (t + 1) list) ≡ rows_at t list
rows-meet t [] = refl
rows-meet t (p ∷ list) = go (meets t (t + 1) p) refl (holds t p) refl (rows-meet t list)
  where
    same : meets t (t + 1) p ≡ holds t p
    same = grind (arith, nat_tests)

    go : (b : Bool) → meets t (t + 1) p ≡ b → (c : Bool) → holds t p ≡ c → rows_at t (sublist t (t + 1) list) ≡ rows_at t list
        → rows_at t (cond b (p ∷ sublist t (t + 1) list) (sublist t (t + 1) list)) ≡ cond (holds t p) (p ∷ rows_at t list) (rows_at t list)
    go true e c k rest = ap (λ (xs : List Posting). cond (holds t p) (p ∷ xs) xs) rest
    go false e c k rest = let quiet : holds t p ≡ false = sym same ∙ e in rest ∙ sym (ap (λ b. cond b (p ∷ rows_at t list) (rows_at t list)) quiet)

one-spelled : (layout : Layout) (a b : List Posting) → IsList a → IsList b → spelling_in layout a ≡ spelling_in layout b → a ≡ b
one-spelled Flat a b x y e = same_all a b (ok (sym (flat_codec.again a x) ∙ ap list_at e ∙ flat_codec.again b y))
  where
    ok : {u v : List Fields} → ◌≡◌ {A = Result (List Fields) ℕ} (Ok u) (Ok v) → u ≡ v
    ok e = cc
one-spelled Blocks a b x y e = same_all a b (ok (sym (block_codec.again a x) ∙ ap blocks_at e ∙ block_codec.again b y))
  where
    ok : {u v : List Fields} → ◌≡◌ {A = Result (List Fields) ℕ} (Ok u) (Ok v) → u ≡ v
    ok e = cc

never-both : (x y : Posting) → ComesBefore x y → ComesBefore y x → ⊥
never-both x y (inl a) (inl b) = omega (arith, a, b)
never-both x y (inl a) (inr b) = omega (arith, a, b.0)
never-both x y (inr a) (inl b) = omega (arith, a.0, b)
never-both x y (inr a) (inr b) = omega (arith, a.1, b.1, x.span.ordered, y.span.ordered)

-- what joins nothing is what was fetched
union-alone : (list both : List Posting) → IsList list → IsUnion [] list both → both ≡ list
union-alone list both is u = one_order ComesBefore before-trans never-both both list u.ordered is (λ x. (λ c. elim ((u.each x).0 c) [ inl k ↦ absurd (none x k) | inr k ↦ k ], λ k. (u.each x).1 (inr k)))

ok-pair : {a b : List Posting} {m n : ℕ} → ◌≡◌ {A = Result (List Posting × ℕ) Damage} (Ok (a, m)) (Ok (b, n)) → (a ≡ b) × (m ≡ n)
ok-pair {a} {b} {m} {n} e =
    let one : List Posting × ℕ = (a, m) in
    let other : List Posting × ℕ = (b, n) in
    let pair : one ≡ other = cc in
    (ap (λ (x : List Posting × ℕ). x.0) pair, ap (λ (x : List Posting × ℕ). x.1) pair)

module _ (h : History) (pages : List ℕ) (t : ℕ) (word : List ℕ) (loads : IsLoadable h) (held_all : HoldsPlans h pages) where
  -- what is gathered of one segment at most
  gathered-flat : (plan : PlanEntry) (stored : List Posting) (n : ℕ) → (held : IsHeld h pages word plan) → GathersOf pages plan t (t + 1) (Ok (stored, n))
      → (stored ≡ sublist_at t plan.horizon.seconds held.list (seconds plan.cuts)) × (n ≡ stored_size t (t + 1) plan.horizon.seconds held.list (seconds plan.cuts))
  gathered-flat plan stored n held gathers = go (few t plan.horizon.seconds true (seconds plan.cuts) plan.places held.cuts.ascending)
    where
      long : length plan.places ≡ length (seconds plan.cuts)
      long = places-long (HoldsSublist plan.layout held.list pages) (seconds plan.cuts) plan.horizon.seconds plan.places held.each

      go : (chosen_at plan t ≡ []) ⊎ ((c : Chosen) × (chosen_at plan t ≡ c ∷ []))
          → (stored ≡ sublist_at t plan.horizon.seconds held.list (seconds plan.cuts)) × (n ≡ stored_size t (t + 1) plan.horizon.seconds held.list (seconds plan.cuts))
      go (inl none) =
          let at = at-none t plan.horizon.seconds true held.list (seconds plan.cuts) plan.places long none in
          let is = subst (λ (cs : List Chosen). Gathers plan.layout plan.horizon.seconds pages cs [] 0 (Ok (stored, n))) none gathers in
          let same = ok-pair is in
          (same.0 ∙ sym at.0, same.1 ∙ sym at.1)
      go (inr (c, one)) =
          let at = at-one t plan.horizon.seconds true held.list (seconds plan.cuts) plan.places c long one in
          let among : Contains (chosen_at plan t) c = subst (λ (cs : List Chosen). Contains cs c) (sym one) (0, omega arith, refl) in
          let holds = held_chosen h pages word plan t c held among in
          let is = subst (λ (cs : List Chosen). Gathers plan.layout plan.horizon.seconds pages cs [] 0 (Ok (stored, n))) one gathers in
          elim is [
            | inl refused ↦ absurd (let e = refused.1.1 in cc)
            | inr (both, (m, (joins, outcome))) ↦
                let same = ok-pair outcome in
                let sub = sublist c.from c.to held.list in
                let list = one-spelled plan.layout joins.list sub joins.fetched.checked.spelled.ordered (sublist_list c.from c.to held.list held.list_is.ordered) (sym joins.fetched.checked.spelled.is ∙ holds.bytes) in
                let sized : size c.from c.to held.list ≡ length sub = sym (length-filter (meets c.from c.to) held.list) in (
                  same.0 ∙ union-alone joins.list both joins.fetched.checked.spelled.ordered joins.joined ∙ list ∙ sym at.0,
                  omega (arith, same.1, joins.read_is, ap length list, sized, at.1),
                )
          ]

  -- what is held of a word at hand is what there is of it
  pub at-hand : (w : HeldWord) (list : List Posting) (read : ℕ) → IsChosenOf h pages word (plan_of h word) t (t + 1) list read → ((plan : PlanEntry) → plan_of h word ≡ Some plan → plan.layout ≡ Flat) → w.blocks ≡ None → w.flat.items ≡ rows_at t list
      → IsHeldOne h t word w read
  at-hand w list read chosen flat none rows = go (plan_of h word) refl chosen
    where
      made : (sheet : Sheet) → IsSheetOf h word (plan_of h word) t sheet → sheet.heads ≡ [] → sheet.blocks ≡ [] → w.flat.items ≡ sheet.flat → IsReadOf h word (plan_of h word) t (t + 1) read → IsHeldOne h t word w read
      made sheet is heads bs here reads = record {
        sheet = sheet;
        sheet_is = is;
        held_as = record { flat = here; blocks = subst (λ (o : Option HeldBlocks). AreBlocksOf o sheet) (sym none) (heads, bs) };
        read_is = reads;
      }

      go : (o : Option PlanEntry) → plan_of h word ≡ o → IsChosenOf h pages word o t (t + 1) list read → IsHeldOne h t word w read
      go None live (whole, all, is, size) =
          made (sheet_laid Flat t [] whole) (subst (λ (o : Option PlanEntry). IsSheetOf h word o t (sheet_laid Flat t [] whole)) (sym live) (whole, all, refl)) refl refl
          (rows ∙ ap (rows_at t) is ∙ rows-meet t whole) (subst (λ (o : Option PlanEntry). IsReadOf h word o t (t + 1) read) (sym live) (whole, all, size))
      go (Some plan) live (stored, tail, n, gathers, is_tail, is, sum) =
          let held = held_for h pages word plan loads held_all live in
          let gathered = gathered-flat plan stored n held gathers in
          let own = sublist_at t plan.horizon.seconds held.list (seconds plan.cuts) in
          let sheet = sheet_laid plan.layout t own tail in
          let laid : sheet ≡ sheet_laid Flat t own tail = ap (λ (l : Layout). sheet_laid l t own tail) (flat plan live) in
          made sheet (subst (λ (o : Option PlanEntry). IsSheetOf h word o t sheet) (sym live) (held.list, tail, held.list_is, is_tail, refl))
          (ap (λ (x : Sheet). x.heads) laid) (ap (λ (x : Sheet). x.blocks) laid)
          (rows ∙ ap (rows_at t) (is ∙ ap (λ (xs : List Posting). xs ++ tail) gathered.0) ∙ sym (ap (λ (x : Sheet). x.flat) laid))
          (subst (λ (o : Option PlanEntry). IsReadOf h word o t (t + 1) read) (sym live) (held.list, tail, held.list_is, is_tail, omega (arith, sum, gathered.1)))

-- what is gathered of a flat plan and damaged
pub hand-damaged : (h : History) (pages : List ℕ) (t : ℕ) (word : List ℕ) (damage : Damage) → ((plan : PlanEntry) → plan_of h word ≡ Some plan → plan.layout ≡ Flat) → IsDamagedFor h pages word t (t + 1) damage → IsDamagedOne h pages t word damage
hand-damaged h pages t word damage flat is = record {
  plan = is.plan;
  live = is.live;
  damaged = subst (λ (l : Layout). IsDamagedAt pages is.plan l t damage) (sym (flat is.plan is.live)) is.told;
}

-- ---- words in turn

read-more : (h : History) (a b : ℕ) (words : List (List ℕ)) (word : List ℕ) (read one : ℕ) → IsReadFor h a b words read → IsReadOf h word (plan_of h word) a b one → IsReadFor h a b (words ++ word ∷ []) (read + one)
read-more h a b [] word read one all is = (one, 0, is, refl, omega (arith, all))
read-more h a b (w ∷ words) word read one (first, more, has, rest, sum) is = (first, more + one, has, read-more h a b words word more one rest is, omega (arith, sum))

pub held-more : (h : History) (t : ℕ) (words : List (List ℕ)) (held : List HeldWord) (read one : ℕ) (word : List ℕ) (w : HeldWord) → AreHeld h t words held read → IsHeldOne h t word w one → AreHeld h t (words ++ word ∷ []) (held ++ w ∷ []) (read + one)
held-more h t words held read one word w are is = record {
  sheets = are.sheets ++ is.sheet ∷ [];
  sheets_are = zip-more (λ word sheet. IsSheetOf h word (plan_of h word) t sheet) words are.sheets word is.sheet are.sheets_are is.sheet_is;
  held_as = zip-more IsHeldAs held are.sheets w is.sheet are.held_as is.held_as;
  read_is = read-more h t (t + 1) words word read one are.read_is is.read_is;
}

-- what is damaged of one word is so of some that have it
pub damaged-among : (h : History) (pages : List ℕ) (t : ℕ) (words : List (List ℕ)) (word : List ℕ) (damage : Damage) → Contains words word → IsDamagedOne h pages t word damage → IsDamagedAmong h pages t words damage
damaged-among h pages t words word damage among one = record { word = word; among = among; plan = one.plan; live = one.live; damaged = one.damaged }

pub damaged-front : (h : History) (pages : List ℕ) (t : ℕ) (front back : List (List ℕ)) (damage : Damage) → IsDamagedAmong h pages t front damage → IsDamagedAmong h pages t (front ++ back) damage
damaged-front h pages t front back damage d = record { word = d.word; among = Contains-append_left front back d.word d.among; plan = d.plan; live = d.live; damaged = d.damaged }

-- a bad block of one more word
pub bad-more : (h : History) (pages : List ℕ) (t : ℕ) (words : List (List ℕ)) (held : List HeldWord) (word : List ℕ) (w : HeldWord) (damage : Damage) → ((d : Damage) → IsBadOf held d → IsDamagedAmong h pages t words d)
    → ((block : ℕ) (d : Damage) → block < length (heads_in w.blocks) → IsBadBlock w.blocks block d → IsDamagedOne h pages t word d) → IsBadOf (held ++ w ∷ []) damage → IsDamagedAmong h pages t (words ++ word ∷ []) damage
bad-more h pages t words held word w damage before here bad = elim (Contains-append_cases held (w ∷ []) bad.word bad.among) [
  | inl c ↦ damaged-front h pages t words (word ∷ []) damage (before damage (record { word = bad.word; among = c; block = bad.block; there = bad.there; bad = bad.bad }))
  | inr c ↦
      elim (here-or-later w bad.word [] c) [
        | inl same ↦
            let there = subst (λ (x : HeldWord). bad.block < length (heads_in x.blocks)) (sym same) bad.there in
            let is = subst (λ (x : HeldWord). IsBadBlock x.blocks bad.block damage) (sym same) bad.bad in
            damaged-among h pages t (words ++ word ∷ []) word damage (Contains-append_right words (word ∷ []) word (0, omega arith, refl)) (here bad.block damage there is)
        | inr k ↦ absurd (none bad.word k)
      ]
]
