-- The segments' bytes beside those that should stand there, half by half.
use Rattle.std.proofs.Common.{◌≡◌, ℕ, ◌+◌, ◌<◌, List, [], ◌∷◌, ◌++◌, length, take, drop, map, get_or, Option, Some, None, Result, Ok, Err, refl, ap, sym, subst, subst₂, ◌∙◌, arith, append_assoc}
use Rattle.std.specs.Prelude.{IfOk, IfSome, MatchOption}
use Rattle.std.proofs.lemmas.List.Elements.{All-nil, All-cons}
use Rattle.std.proofs.lemmas.List.{map-append, take-append-drop, length-take-le, length-map, length-append}
use Rattle.base_types.specs.declared.posting.Posting.{Posting}
use Rattle.base_types.specs.declared.time.Time.{Time}
use Rattle.journal_entries.specs.declared.place.Layout.{Layout}
use Rattle.journal_entries.specs.declared.place.Place.{Place}
use Rattle.machine_model.specs.States.{DiskState}
use Rattle.machine_model.specs.Calls.{OnlyReads}
use Rattle.pages_area.specs.Ranges.{bytes_in}
use Rattle.lists_postings.specs.Lists.{sublist}
use Rattle.pages_checked.specs.Layouts.{spelling_in}
use Rattle.pages_sublists.specs.Segments.{seconds}
use Rattle.pages_sublists.specs.Preparing.{spellings, Serves}
use Rattle.pages_sublists.proofs.SpellLemmas.{both_halves}
use Rattle.archive_check.specs.declared.segments.Wrong.{Wrong}
use Rattle.archive_check.specs.Verdicts.{DifferAt, SegmentDiffers}
use Rattle.archive_check.specs.Digests.{HasDigest}
use Rattle.archive_check.specs.Checking.{AreAltered, IsFirstWrong}

-- the bytes at places
abbrev pub bytes_at : List ℕ → List Place → List (List ℕ)
bytes_at pages places = map (λ (p : Place). bytes_in p.extent pages) places

differs_left : (a b x y : List (List ℕ)) (segment place : ℕ) (found wanted : Option ℕ) → SegmentDiffers a x segment place found wanted → SegmentDiffers (a ++ b) (x ++ y) segment place found wanted
differs_left a b x y segment place found wanted d = record {
  front = d.front;
  this = d.this;
  that = d.that;
  behind = d.behind ++ b;
  after = d.after ++ y;
  one_is = ap (λ (l : List (List ℕ)). l ++ b) d.one_is ∙ append_assoc d.front (d.this ∷ d.behind) b;
  other_is = ap (λ (l : List (List ℕ)). l ++ y) d.other_is ∙ append_assoc d.front (d.that ∷ d.after) y;
  segment_is = d.segment_is;
  differs = d.differs;
}

differs_right : (a b y : List (List ℕ)) (segment place count : ℕ) (found wanted : Option ℕ) → count ≡ length a + segment → SegmentDiffers b y segment place found wanted → SegmentDiffers (a ++ b) (a ++ y) count place found wanted
differs_right a b y segment place count found wanted at d = record {
  front = a ++ d.front;
  this = d.this;
  that = d.that;
  behind = d.behind;
  after = d.after;
  one_is = ap (λ (l : List (List ℕ)). a ++ l) d.one_is ∙ sym (append_assoc a d.front (d.this ∷ d.behind));
  other_is = ap (λ (l : List (List ℕ)). a ++ l) d.other_is ∙ sym (append_assoc a d.front (d.that ∷ d.after));
  segment_is = omega (arith, at, d.segment_is, length-append a d.front);
  differs = d.differs;
}

-- ---- both halves of a plan's segments

-- what is found and what is wanted, in all segments and in both halves
pub record AreHalves (found wanted one other this that : List (List ℕ)) (k : ℕ) : Type 0 where
  pub found_is : one ++ other ≡ found
  pub wanted_is : this ++ that ≡ wanted
  pub long : length one ≡ k

pub whole_again : {A : Type 0} (k : ℕ) (all one other : List A) → one ≡ take k all → other ≡ drop k all → one ++ other ≡ all
whole_again {A} k all one other front back = ap (λ (l : List A). l ++ other) front ∙ ap (λ (l : List A). take k all ++ l) back ∙ take-append-drop k all

-- the places are divided with the cuts, and the list serves for all segments
pub halves : (layout : Layout) (pages : List ℕ) (list given : List Posting) (cuts left right : List Time) (places one other : List Place) (k : ℕ) (middle : Time) (h : ℕ) → Serves (seconds cuts) h list given
    → k < length cuts → length places ≡ length cuts → middle ≡ get_or cuts k middle → left ≡ take k cuts → right ≡ drop k cuts → one ≡ take k places → other ≡ drop k places
    → AreHalves (bytes_at pages places) (spellings layout list (seconds cuts) h) (bytes_at pages one) (bytes_at pages other) (spellings layout given (seconds left) middle.seconds) (spellings layout given (seconds right) h) k
halves layout pages list given cuts left right places one other k middle h serves inside many middle_is left_is right_is one_is other_is =
    let B : Place → List ℕ = λ p. bytes_in p.extent pages in
    let whole : one ++ other ≡ places = whole_again k places one other one_is other_is in
    record {
      found_is = sym (map-append B one other) ∙ ap (bytes_at pages) whole;
      wanted_is = both_halves layout list given cuts left right k middle h serves inside middle_is left_is right_is;
      long = length-map one B ∙ ap length one_is ∙ length-take-le k places (omega (arith, inside, many));
    }

told_of : {a b x y : List (List ℕ)} (o : Option Wrong) → a ≡ b → x ≡ y → IsFirstWrong a x o → IsFirstWrong b y o
told_of {a} {b} {x} {y} o one other told = subst (λ (l : List (List ℕ)). IsFirstWrong b l o) other (subst (λ (l : List (List ℕ)). IsFirstWrong l x o) one told)

-- the left half isn't right
pub left_told : (found wanted one other this that : List (List ℕ)) (k : ℕ) (w : Wrong) → AreHalves found wanted one other this that k → IsFirstWrong one this (Some w) → IsFirstWrong found wanted (Some w)
left_told found wanted one other this that k w a d = told_of (Some w) a.found_is a.wanted_is (differs_left one other this that w.segment w.spot.place w.spot.found w.spot.wanted d)

-- it is right, so what is told of the right half is told of all
pub right_told : (found wanted one other this that : List (List ℕ)) (k : ℕ) (w m : Option Wrong) → AreHalves found wanted one other this that k → one ≡ this → IsFirstWrong other that w
    → MatchOption w (m ≡ None) (λ x. m ≡ Some (record { segment = k + x.segment; spot = x.spot })) → IsFirstWrong found wanted m
right_told found wanted one other this that k None m a same told moved =
    subst (λ (o : Option Wrong). IsFirstWrong found wanted o) (sym moved) (sym a.found_is ∙ ap (λ (l : List (List ℕ)). l ++ other) same ∙ ap (λ (l : List (List ℕ)). this ++ l) told ∙ a.wanted_is)
right_told found wanted one other this that k (Some w) m a same told moved =
    let n : ℕ = k + w.segment in
    let whole : SegmentDiffers (one ++ other) (one ++ that) n w.spot.place w.spot.found w.spot.wanted = differs_right one other that w.segment w.spot.place n w.spot.found w.spot.wanted (omega (arith, a.long)) told in
    let all : one ++ that ≡ wanted = ap (λ (l : List (List ℕ)). l ++ that) same ∙ a.wanted_is in
    subst (λ (o : Option Wrong). IsFirstWrong found wanted o) (sym moved) (told_of (Some (record { segment = n; spot = w.spot })) a.found_is all whole)

-- where all is right in the end, the right half is
pub none_moved : (k : ℕ) (w m : Option Wrong) → MatchOption w (m ≡ None) (λ x. m ≡ Some (record { segment = k + x.segment; spot = x.spot })) → m ≡ None → w ≡ None
none_moved k None m moved quiet = refl
none_moved k (Some w) m moved quiet = absurd cc

-- ---- one segment

-- what a call gives holds both
pub ok_both : {T E : Type 0} (P Q R : T → Type 0) (r : Result T E) → ((v : T) → P v → Q v → R v) → IfOk r P → IfOk r Q → IfOk r R
ok_both P Q R (Ok v) join one other = join v one other
ok_both P Q R (Err e) join one other = tt

pub one_wrong : (layout : Layout) (pages : List ℕ) (list : List Posting) (cuts : List Time) (places : List Place) (h : ℕ) (first : Time) (place : Place) (o : Option Wrong) → length cuts ≡ 1 → length places ≡ 1
    → first ≡ get_or cuts 0 first → place ≡ get_or places 0 place → IfSome o (λ w. w.segment ≡ 0)
    → MatchOption o (bytes_in place.extent pages ≡ spelling_in layout (sublist first.seconds h list)) (λ w. DifferAt (bytes_in place.extent pages) (spelling_in layout (sublist first.seconds h list)) w.spot.place w.spot.found w.spot.wanted)
    → IsFirstWrong (bytes_at pages places) (spellings layout list (seconds cuts) h) o
one_wrong layout pages list [] places h first place o one other at there within told = absurd (omega (arith, one))
one_wrong layout pages list (c ∷ d ∷ cuts) places h first place o one other at there within told = absurd (omega (arith, one))
one_wrong layout pages list (c ∷ []) [] h first place o one other at there within told = absurd (omega (arith, other))
one_wrong layout pages list (c ∷ []) (p ∷ q ∷ places) h first place o one other at there within told = absurd (omega (arith, other))
one_wrong layout pages list (c ∷ []) (p ∷ []) h first place o one other at there within told =
    let F : Time → Place → Type 0 = λ f q. IsFirstWrong (bytes_at pages (q ∷ [])) (spellings layout list (seconds (f ∷ [])) h) o in
    subst₂ F at there (go o within told)
  where
    go : (o : Option Wrong) → IfSome o (λ w. w.segment ≡ 0)
        → MatchOption o (bytes_in place.extent pages ≡ spelling_in layout (sublist first.seconds h list)) (λ w. DifferAt (bytes_in place.extent pages) (spelling_in layout (sublist first.seconds h list)) w.spot.place w.spot.found w.spot.wanted)
        → IsFirstWrong (bytes_at pages (place ∷ [])) (spellings layout list (seconds (first ∷ [])) h) o
    go None within same = ap (λ (b : List ℕ). b ∷ []) same
    go (Some w) within differ = record { front = []; this = bytes_in place.extent pages; that = spelling_in layout (sublist first.seconds h list); behind = []; after = []; one_is = refl; other_is = refl; segment_is = within; differs = differ }

pub one_digest : (pages : List ℕ) (places : List Place) (place : Place) (o : Option ℕ) → length places ≡ 1 → place ≡ get_or places 0 place → IfSome o (λ n. n ≡ 0) → MatchOption o (HasDigest pages place) (λ n. ¬ (HasDigest pages place))
    → AreAltered pages places o
one_digest pages [] place o other there within told = absurd (omega (arith, other))
one_digest pages (p ∷ q ∷ places) place o other there within told = absurd (omega (arith, other))
one_digest pages (p ∷ []) place o other there within told = subst (λ (q : Place). AreAltered pages (q ∷ []) o) there (go o within told)
  where
    go : (o : Option ℕ) → IfSome o (λ n. n ≡ 0) → MatchOption o (HasDigest pages place) (λ n. ¬ (HasDigest pages place)) → AreAltered pages (place ∷ []) o
    go None within right = All-cons (HasDigest pages) place [] right (All-nil (HasDigest pages))
    go (Some n) within wrong = record { front = []; place = place; back = []; places_are = refl; segment_is = within; right = All-nil (HasDigest pages); wrong = wrong }

-- reads leave the pages
pub pages_on : (old new : DiskState) → OnlyReads old new → new.holds.pages ≡ old.holds.pages
pages_on old new same = ap (λ (d : DiskState). d.holds.pages) same

pub reach_on : (old new : DiskState) → OnlyReads old new → new.reach.pages ≡ old.reach.pages
reach_on old new same = ap (λ (d : DiskState). d.reach.pages) same

pub journal_on : (old new : DiskState) → OnlyReads old new → new.holds.journal ≡ old.holds.journal
journal_on old new same = ap (λ (d : DiskState). d.holds.journal) same
