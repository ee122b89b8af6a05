-- Bytes lead to one answer.
use Rattle.std.proofs.Common.{◌≡◌, ◌⊎◌, ℕ, ◌+◌, true, false, List, [], ◌∷◌, ◌++◌, length, drop, get_or, All, Err, inl, inr, refl, ap, sym, subst, ◌∙◌}
use Rattle.std.proofs.lemmas.List.Elements.{All-head, All-tail}
use Rattle.base_types.specs.declared.posting.Posting.{Posting}
use Rattle.journal_entries.specs.declared.place.Layout.{Layout}
use Rattle.journal_entries.specs.declared.place.Layout.TheVariants.{Flat, Blocks}
use Rattle.lists_postings.specs.Unions.{IsUnion}
use Rattle.pages_codec.specs.Flat.{spelling, list_at}
use Rattle.pages_codec.specs.Blocks.{block_spelling, blocks_at}
use Rattle.pages_codec.specs.Layouts.{IsLayout}
use Rattle.pages_codec.proofs.LayoutLemmas.{layout_of}
use Rattle.pages_codec.proofs.FlatLemmas.{flat_codec}
use Rattle.pages_codec.proofs.BlockCodec.{block_codec}
use Rattle.pages_checked.specs.Layouts.{Spells}
use Rattle.pages_sublists.specs.Fetching.{IsFetched, IsFirstAstray, belongs}
use Rattle.pages_sublists.specs.Gathering.{Chosen, ListOrDamage, Joins, Parts, Refuses, Gathers, bytes_of}
use Rattle.pages_sublists.specs.Laws.{OneCause, NoCauseAgainstFetched, OneFetched, OneGathering, AreClashes}
use Rattle.pages_sublists.specs.declared.why.Why.{Why}
use Rattle.pages_sublists.specs.declared.why.Why.TheVariants.{Digest, Form, Astray, Clash, Bare}
use Rattle.pages_sublists.proofs.UnionLemmas.{one_union, union_or_clash}

one_list : (layout : Layout) (bytes : List ℕ) (a b : List Posting) → Spells layout bytes a → Spells layout bytes b → a ≡ b
one_list Flat bytes a b one two = let law : IsLayout spelling list_at = layout_of spelling list_at flat_codec in law.one_list a b one.ordered two.ordered (sym one.is ∙ two.is)
one_list Blocks bytes a b one two = let law : IsLayout block_spelling blocks_at = layout_of block_spelling blocks_at block_codec in law.one_list a b one.ordered two.ordered (sym one.is ∙ two.is)

all_behind : (P : Posting → Type 0) (xs ys : List Posting) → All P (xs ++ ys) → All P ys
all_behind P [] ys all = all
all_behind P (x ∷ xs) ys all = all_behind P xs ys (All-tail P x (xs ++ ys) all)

-- the first that doesn't belong is one
first_one : (f g h : ℕ) (front other back behind : List Posting) (p q : Posting) → front ++ p ∷ back ≡ other ++ q ∷ behind → All (λ x. belongs f g h x ≡ true) front → All (λ x. belongs f g h x ≡ true) other
    → belongs f g h p ≡ false → belongs f g h q ≡ false → p ≡ q
first_one f g h [] [] back behind p q same good fine bad worse = ap (λ (l : List Posting). get_or l 0 p) same
first_one f g h [] (y ∷ other) back behind p q same good fine bad worse =
    let head : p ≡ y = ap (λ (l : List Posting). get_or l 0 p) same in
    let both : true ≡ false = sym (All-head (λ x. belongs f g h x ≡ true) y other fine) ∙ ap (belongs f g h) (sym head) ∙ bad in absurd (cc)
first_one f g h (x ∷ front) [] back behind p q same good fine bad worse =
    let head : x ≡ q = ap (λ (l : List Posting). get_or l 0 x) same in
    let both : true ≡ false = sym (All-head (λ z. belongs f g h z ≡ true) x front good) ∙ ap (belongs f g h) head ∙ worse in absurd (cc)
first_one f g h (x ∷ front) (y ∷ other) back behind p q same good fine bad worse =
    first_one f g h front other back behind p q (ap (λ (l : List Posting). drop 1 l) same) (All-tail (λ z. belongs f g h z ≡ true) x front good) (All-tail (λ z. belongs f g h z ≡ true) y other fine) bad worse

one_astray : (f g h : ℕ) (a b : List Posting) (p q : Posting) → a ≡ b → IsFirstAstray f g h a p → IsFirstAstray f g h b q → p ≡ q
one_astray f g h a b p q same one two = first_one f g h one.front two.front one.back two.back p q (sym one.is ∙ same ∙ two.is) one.good two.good one.bad two.bad

pub one_cause : OneCause
one_cause layout digest f g h bytes (Digest k x) (Digest j y) a b = ap (λ (l : List ℕ). Digest l x) (a.0 ∙ sym b.0) ∙ ap (λ (l : List ℕ). Digest j l) (a.1 ∙ sym b.1)
one_cause layout digest f g h bytes (Digest k x) Form a b = absurd (a.2 (a.0 ∙ b.0 ∙ sym a.1))
one_cause layout digest f g h bytes (Digest k x) (Astray p) a b = absurd (a.2 (a.0 ∙ b.1.digest_is ∙ sym a.1))
one_cause layout digest f g h bytes Form (Digest k x) a b = absurd (b.2 (b.0 ∙ a.0 ∙ sym b.1))
one_cause layout digest f g h bytes Form Form a b = refl
one_cause layout digest f g h bytes Form (Astray p) a b = absurd (a.1 b.0 b.1.spelled)
one_cause layout digest f g h bytes (Astray p) (Digest k x) a b = absurd (b.2 (b.0 ∙ a.1.digest_is ∙ sym b.1))
one_cause layout digest f g h bytes (Astray p) Form a b = absurd (b.1 a.0 a.1.spelled)
one_cause layout digest f g h bytes (Astray p) (Astray q) a b = ap (λ (x : Posting). Astray x) (one_astray f g h a.0 b.0 p q (one_list layout bytes a.0 b.0 a.1.spelled b.1.spelled) a.2 b.2)
one_cause layout digest f g h bytes (Digest k x) (Clash p q) a b = absurd b
one_cause layout digest f g h bytes (Digest k x) Bare a b = absurd b
one_cause layout digest f g h bytes Form (Clash p q) a b = absurd b
one_cause layout digest f g h bytes Form Bare a b = absurd b
one_cause layout digest f g h bytes (Astray r) (Clash p q) a b = absurd b
one_cause layout digest f g h bytes (Astray r) Bare a b = absurd b
one_cause layout digest f g h bytes (Clash p q) other a b = absurd a
one_cause layout digest f g h bytes Bare other a b = absurd a

pub no_cause : NoCauseAgainstFetched
no_cause layout digest f g h bytes list (Digest k x) fetched a = a.2 (a.0 ∙ fetched.checked.digest_is ∙ sym a.1)
no_cause layout digest f g h bytes list Form fetched a = a.1 list fetched.checked.spelled
no_cause layout digest f g h bytes list (Astray p) fetched a =
    let same : a.0 ≡ list = one_list layout bytes a.0 list a.1.spelled fetched.checked.spelled in
    let G : Posting → Type 0 = λ q. belongs f g h q ≡ true in
    let all : All G (a.2.front ++ p ∷ a.2.back) = subst (λ (l : List Posting). All G l) (sym same ∙ a.2.is) fetched.good in
    let both : true ≡ false = sym (All-head G p a.2.back (all_behind G a.2.front (p ∷ a.2.back) all)) ∙ a.2.bad in cc
no_cause layout digest f g h bytes list (Clash p q) fetched a = a
no_cause layout digest f g h bytes list Bare fetched a = a

pub one_fetched : OneFetched
one_fetched layout digest f g h bytes a b one two = one_list layout bytes a b one.checked.spelled two.checked.spelled

-- ---- gathering

same_list : (layout : Layout) (h : ℕ) (pages : List ℕ) (c : Chosen) (a b : List Posting) → IsFetched layout c.place.digest c.from c.to h (bytes_of c pages) a → IsFetched layout c.place.digest c.from c.to h (bytes_of c pages) b → a ≡ b
same_list layout h pages c a b one two = one_fetched layout c.place.digest c.from c.to h (bytes_of c pages) a b one two

-- the page at which both clash
err : Chosen → Why → ListOrDamage
err c why = Err (record { page = c.place.extent.first; why = why })

SameOrClash : ListOrDamage → ListOrDamage → Type 0
SameOrClash a b = (a ≡ b) ⊎ ((page : ℕ) × AreClashes page a b)

same_why : (c : Chosen) (a b : ListOrDamage) (one two : Why) → a ≡ err c one → b ≡ err c two → one ≡ two → SameOrClash a b
unfolding SameOrClash
same_why c a b one two is also same = inl (is ∙ ap (err c) same ∙ sym also)

parts_alike : (c : Chosen) (union list other : List Posting) (a b : ListOrDamage) (one two : Why) → list ≡ other → a ≡ err c one → b ≡ err c two → Parts c.first union list one → Parts c.first union other two → SameOrClash a b
unfolding SameOrClash err
parts_alike c union list other a b one two same is also (inl x) (inl y) = same_why c a b one two is also (x.1 ∙ sym y.1)
parts_alike c union list other a b one two same is also (inl x) (inr y) = absurd (y.0 (x.0.0, sym same ∙ x.0.1))
parts_alike c union list other a b one two same is also (inr x) (inl y) = absurd (x.0 (y.0.0, same ∙ y.0.1))
parts_alike c union list other a b one two same is also (inr x) (inr y) = inr (
  c.place.extent.first,
  record {
    one = x.1.0;
    other = x.1.1.0;
    this = y.1.0;
    that = y.1.1.0;
    first = is ∙ ap (err c) x.1.1.1.1;
    second = also ∙ ap (err c) y.1.1.1.1;
  },
)

refused_alike : (layout : Layout) (h : ℕ) (pages : List ℕ) (c : Chosen) (union : List Posting) (a b : ListOrDamage) (one two : Why) → a ≡ err c one → b ≡ err c two → Refuses layout h pages c union one → Refuses layout h pages c union two → SameOrClash a b
refused_alike layout h pages c union a b one two is also (inl x) (inl y) = same_why c a b one two is also (one_cause layout c.place.digest c.from c.to h (bytes_of c pages) one two x y)
refused_alike layout h pages c union a b one two is also (inl x) (inr y) = absurd (no_cause layout c.place.digest c.from c.to h (bytes_of c pages) y.0 one y.1.0 x)
refused_alike layout h pages c union a b one two is also (inr x) (inl y) = absurd (no_cause layout c.place.digest c.from c.to h (bytes_of c pages) x.0 two x.1.0 y)
refused_alike layout h pages c union a b one two is also (inr x) (inr y) = parts_alike c union x.0 y.0 a b one two (same_list layout h pages c x.0 y.0 x.1.0 y.1.0) is also x.1.1 y.1.1

never_both : (layout : Layout) (h : ℕ) (pages : List ℕ) (c : Chosen) (union both : List Posting) (n : ℕ) (why : Why) → Refuses layout h pages c union why → Joins layout h pages c union both n → ⊥
never_both layout h pages c union both n why (inl x) joins = no_cause layout c.place.digest c.from c.to h (bytes_of c pages) joins.list why joins.fetched x
never_both layout h pages c union both n why (inr x) joins =
    let same : x.0 ≡ joins.list = same_list layout h pages c x.0 joins.list x.1.0 joins.fetched in parted same x.1.1
  where
    parted : x.0 ≡ joins.list → Parts c.first union x.0 why → ⊥
    parted same (inl bare) = joins.some (bare.0.0, sym same ∙ bare.0.1)
    parted same (inr clash) =
        let U : List Posting → Type 0 = λ l. IsUnion union l both in
        union_or_clash union x.0 both clash.1.0 clash.1.1.0 (subst U (sym same) joins.joined) clash.1.1.1.0

pub one_gathering : OneGathering
unfolding SameOrClash err
one_gathering layout h pages [] union read a b one two = inl (one ∙ sym two)
one_gathering layout h pages (c ∷ segments) union read a b (inl x) (inl y) = refused_alike layout h pages c union a b x.0 y.0 x.1.1 y.1.1 x.1.0 y.1.0
one_gathering layout h pages (c ∷ segments) union read a b (inl x) (inr y) = absurd (never_both layout h pages c union y.0 y.1.0 x.0 x.1.0 y.1.1.0)
one_gathering layout h pages (c ∷ segments) union read a b (inr x) (inl y) = absurd (never_both layout h pages c union x.0 x.1.0 y.0 y.1.0 x.1.1.0)
one_gathering layout h pages (c ∷ segments) union read a b (inr x) (inr y) =
    let one = x.1.1.0 in
    let two = y.1.1.0 in
    let lists : one.list ≡ two.list = same_list layout h pages c one.list two.list one.fetched two.fetched in
    let U : List Posting → Type 0 = λ l. IsUnion union l y.0 in
    let unions : x.0 ≡ y.0 = one_union union one.list x.0 y.0 one.joined (subst U (sym lists) two.joined) in
    let counts : x.1.0 ≡ y.1.0 = one.read_is ∙ ap (λ (l : List Posting). length l) lists ∙ sym two.read_is in
    let G : List Posting → Type 0 = λ l. Gathers layout h pages segments l (read + y.1.0) b in
    let N : ℕ → Type 0 = λ n. Gathers layout h pages segments x.0 (read + n) b in
    one_gathering layout h pages segments x.0 (read + x.1.0) a b x.1.1.1 (subst N (sym counts) (subst G (sym unions) y.1.1.1))
