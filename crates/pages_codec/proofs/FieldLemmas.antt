-- Postings as four numbers: which may stand behind which, and that the numbers tell the posting.
use Rattle.std.specs.Prelude.{◌≡◌, ◌^◌, ◌<◌, ◌≤◌, ◌==◌, if◌then◌else◌, true, List, [], ◌∷◌, ◌++◌, map, Option, Some, None, refl, ⊤}
use Rattle.std.proofs.Common.{ap, sym, subst, arith}
use Rattle.std.proofs.lemmas.Bool.Decides.{nat_tests}
use Rattle.base_types.specs.declared.posting.Posting.{Posting}
use Rattle.base_types.proofs.Equal.{same_posting}
use Rattle.lists_postings.specs.Lists.{ComesBefore, IsList}
use Rattle.pages_codec.specs.Fields.{Fields, fields, is_allowed, may_follow}
use Rattle.pages_codec.specs.Steps.{last_of}
use Rattle.pages_codec.specs.Blocks.{doc_before, least_start}

-- ---- postings that may stand one behind the other

-- the numbers are those of a posting
pub record IsAllowed (p : Fields) : Type 0 where
  pub numbered : p.doc < 2 ^ 32
  pub counted : 1 ≤ p.tf
  pub bounded : p.tf < 2 ^ 32
  pub ordered : p.from < p.to
  pub in_time : p.to ≤ 2 ^ 40

-- p may stand behind the posting before, if there is one
pub record IsNext (before : Option Fields) (p : Fields) : Type 0 where
  pub allowed : IsAllowed p
  pub doc : doc_before before ≤ p.doc
  pub start : least_start before p.doc ≤ p.from

-- postings that may stand one behind the other, the first behind the one before
abbrev pub AreNext : Option Fields → List Fields → Type 0
AreNext before [] = ⊤
AreNext before (p ∷ ps) = IsNext before p × AreNext (Some p) ps

pub next-parts : (before : Option Fields) (ps rest : List Fields) → AreNext before (ps ++ rest) → AreNext before ps × AreNext (last_of before ps) rest
next-parts before [] rest next = (tt, next)
next-parts before (p ∷ ps) rest next = let more = next-parts (Some p) ps rest next.1 in ((next.0, more.0), more.1)

pub next-join : (before : Option Fields) (ps rest : List Fields) → AreNext before ps → AreNext (last_of before ps) rest → AreNext before (ps ++ rest)
next-join before [] rest next more = more
next-join before (p ∷ ps) rest next more = (next.0, next-join (Some p) ps rest next.1 more)

-- ---- the tests

pub allowed_parts : (p : Fields) → is_allowed p ≡ true → (1 ≤ p.tf) × (p.from < p.to) × (p.to ≤ 2 ^ 40)
allowed_parts p e = grind (arith, nat_tests)

pub allowed_passes : (p : Fields) → IsAllowed p → is_allowed p ≡ true
allowed_passes p a = grind (arith, nat_tests, a.counted, a.ordered, a.in_time)

pub follows : (before : Option Fields) (p : Fields) → IsNext before p → may_follow before p ≡ true
follows None p next = refl
follows (Some q) p next = let doc = next.doc in let start : (if q.doc == p.doc then q.to else 0) ≤ p.from = next.start in grind (arith, nat_tests)

pub next_of : (before : Option Fields) (p : Fields) → IsAllowed p → may_follow before p ≡ true → IsNext before p
next_of None p a e = record { allowed = a; doc = omega arith; start = omega arith }
next_of (Some q) p a e = record { allowed = a; doc = grind (arith, nat_tests); start = grind (arith, nat_tests) }

-- ---- lists by their numbers

posting_of : (p : Fields) → IsAllowed p → (posting : Posting) × (fields posting ≡ p)
posting_of p a = (
  record {
    doc = record { 0 = p.doc };
    tf = p.tf;
    span = record { from = p.from; to = p.to; ordered = a.ordered; in_time = a.in_time };
    numbered = a.numbered;
    counted = a.counted;
    bounded = a.bounded;
  },
  refl,
)

allowed : (p : Posting) → IsAllowed (fields p)
allowed p = record { numbered = p.numbered; counted = p.counted; bounded = p.bounded; ordered = p.span.ordered; in_time = p.span.in_time }

comes_before : (q p : Posting) → may_follow (Some (fields q)) (fields p) ≡ true → ComesBefore q p
comes_before q p e = grind (arith, nat_tests)

may_come : (q p : Posting) → ComesBefore q p → may_follow (Some (fields q)) (fields p) ≡ true
may_come q p h = grind (arith, nat_tests)

is_list : (before : Option Fields) (list : List Posting) → AreNext before (map fields list) → IsList list
is_list before [] next = tt
is_list before (p ∷ []) next = tt
is_list before (p ∷ q ∷ list) next = (comes_before p q (follows (Some (fields p)) (fields q) next.1.0), is_list (Some (fields p)) (q ∷ list) next.1)

are_of : (before : Option Fields) (ps : List Fields) → AreNext before ps → (list : List Posting) × (map fields list ≡ ps)
are_of before [] next = ([], refl)
are_of before (p ∷ ps) next = let one = posting_of p next.0.allowed in let more = are_of (Some p) ps next.1 in (one.0 ∷ more.0, λ i. one.1 i ∷ more.1 i)

-- numbers that may be those of a list are
pub list_of : (ps : List Fields) → AreNext None ps → (list : List Posting) × IsList list × (map fields list ≡ ps)
list_of ps next = let l = are_of None ps next in (l.0, is_list None l.0 (subst (AreNext None) (sym l.1) next), l.1)

rest_next : (p : Posting) (list : List Posting) → IsList (p ∷ list) → AreNext (Some (fields p)) (map fields list)
rest_next p [] is = tt
rest_next p (q ∷ list) is = (next_of (Some (fields p)) (fields q) (allowed q) (may_come p q is.0), rest_next q list is.1)

pub list_next : (list : List Posting) → IsList list → AreNext None (map fields list)
list_next [] is = tt
list_next (p ∷ list) is = (next_of None (fields p) (allowed p) refl, rest_next p list is)

same_fields : (p q : Posting) → fields p ≡ fields q → p ≡ q
same_fields p q e = same_posting p q (ap (λ (x : Fields). x.doc) e) (ap (λ (x : Fields). x.from) e) (ap (λ (x : Fields). x.to) e) (ap (λ (x : Fields). x.tf) e)

-- postings with the same numbers are the same
pub same_all : (ps qs : List Posting) → map fields ps ≡ map fields qs → ps ≡ qs
same_all [] [] e = refl
same_all [] (q ∷ qs) e = absurd cc
same_all (p ∷ ps) [] e = absurd cc
same_all (p ∷ ps) (q ∷ qs) e =
    let h : fields p ≡ fields q = cc in
    let t : map fields ps ≡ map fields qs = cc in
    let a = same_fields p q h in
    let b = same_all ps qs t in
    cc
