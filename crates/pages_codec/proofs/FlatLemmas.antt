-- The flat layout: what is read is spelled so, and what is spelled so is read.
use Rattle.std.specs.Prelude.{◌≡◌, ℕ, zero, suc, ◌+◌, ◌*◌, ◌^◌, ◌<◌, ◌≤◌, Bool, true, false, nat_lt, ◌&&◌, List, [], ◌∷◌, ◌++◌, length, map, get_or, take, drop, Option, Some, None, Result, Ok, Err, refl}
use Rattle.std.proofs.Common.{sym, ap, subst, ◌∙◌, arith}
use Rattle.std.specs.Int.{w32, w64, to_be_bytes}
use Rattle.std.proofs.lemmas.Bool.{ltb-false, le-ltb, and_parts}
use Rattle.std.proofs.lemmas.List.{length-append, take_more, append-nil}
use Rattle.std.specs.List.{flat_map}
use Rattle.std.proofs.lemmas.Grind.{flat_map-append}
use Rattle.std.proofs.lemmas.List.Folds.{flat_map-map}
use Rattle.base_types.specs.declared.posting.Posting.{Posting}
use Rattle.lists_postings.specs.Lists.{IsList}
use Rattle.pages_codec.specs.Fields.{Fields, fields, is_allowed, may_follow}
use Rattle.base_types.specs.Reading.{◌>>=◌, value_or}
use Rattle.pages_codec.specs.Steps.{all_at}
use Rattle.pages_codec.specs.Flat.{spelled, spelling, fields_front, if_allowed, posting_at, front_at, list_at}
use Rattle.pages_codec.proofs.Steps.{test_some, guard_some}
use Rattle.base_types.proofs.Bytes.{IsBytes, wide32, wide64, number_again}
use Rattle.pages_codec.proofs.FrontLemmas.{front_is}
use Rattle.pages_codec.proofs.FieldLemmas.{IsNext, AreNext, next-join, allowed_parts, allowed_passes, follows, next_of, list_of, list_next}
use Rattle.pages_codec.proofs.LayoutLemmas.{IsCodec}
use Rattle.pages_codec.proofs.Readings.{Reads, StandsIn, reads_ok, reads_value, reads_next}
use Rattle.pages_codec.proofs.AllAt.{IsRead, begins, all_step, all_reads}

-- ---- for the loop

pub list_begins : (bytes : List ℕ) → IsRead front_at (list_at bytes) [] None bytes
unfolding list_at
list_begins bytes = begins front_at None bytes

pub front_ok : (before : Option Fields) (bytes : List ℕ) (p : Fields) (rest : List ℕ) → posting_at before bytes ≡ Some (p, rest) → front_at before bytes ≡ Ok (p ∷ [], rest)
unfolding front_at
front_ok before bytes p rest e = rw e refl

pub front_err : (before : Option Fields) (bytes : List ℕ) → posting_at before bytes ≡ None → front_at before bytes ≡ Err (length bytes)
unfolding front_at
front_err before bytes e = rw e refl

-- what it is to be read as a posting
posting_parts : (before : Option Fields) (bytes : List ℕ) (read : Fields × List ℕ) → posting_at before bytes ≡ Some read
    → (24 ≤ length bytes) × (fields_front bytes ≡ read) × (is_allowed read.0 ≡ true) × (may_follow before read.0 ≡ true)
unfolding posting_at
posting_parts before bytes read e =
    let g = guard_some (nat_lt (length bytes) 24) (if_allowed before (fields_front bytes)) read e in
    let t = test_some (is_allowed (fields_front bytes).0 && may_follow before (fields_front bytes).0) (fields_front bytes) read g.1 in
    let both = and_parts (is_allowed (fields_front bytes).0) (may_follow before (fields_front bytes).0) t.0 in
    (ltb-false _ _ g.0, t.1, subst (λ (r : Fields × List ℕ). is_allowed r.0 ≡ true) t.1 both.0, subst (λ (r : Fields × List ℕ). may_follow before r.0 ≡ true) t.1 both.1)

-- ---- writing

pub spelling_more : (list : List Posting) (i : ℕ) (p : Posting) (old new : List ℕ) → i < length list → p ≡ get_or list i p → old ≡ spelling (take i list) → new ≡ old ++ spelled (fields p) → new ≡ spelling (take (i + 1) list)
spelling_more list i p old new lt is so_far all =
    all ∙ ap (λ (xs : List ℕ). xs ++ spelled (fields p)) so_far
    ∙ sym (ap spelling (take_more list i p lt ∙ ap (λ (q : Posting). take i list ++ q ∷ []) (sym is)) ∙ flat_map-append (λ (q : Posting). spelled (fields q)) (take i list) (p ∷ []) ∙ ap (λ (xs : List ℕ). spelling (take i list) ++ xs) (append-nil (spelled (fields p))))

-- ---- what is read is spelled

front_stands : (before : Option Fields) (bytes : List ℕ) → IsBytes bytes → 24 ≤ length bytes → is_allowed (fields_front bytes).0 ≡ true → may_follow before (fields_front bytes).0 ≡ true → StandsIn spelled (λ x. IsNext before x.0) bytes (fields_front bytes)
front_stands before bytes fits long allowed follow =
    let a = allowed_parts (fields_front bytes).0 allowed in
    let f = (fields_front bytes).0 in
    let doc = front_is w32 (2 ^ 32) wide32 bytes fits (omega arith) in
    let tf = front_is w32 (2 ^ 32) wide32 (drop 4 bytes) doc.rest_fits (omega (arith, doc.shorter)) in
    let from = front_is w64 (2 ^ 64) wide64 (drop 4 (drop 4 bytes)) tf.rest_fits (omega (arith, doc.shorter, tf.shorter)) in
    let to = front_is w64 (2 ^ 64) wide64 (drop 8 (drop 4 (drop 4 bytes))) from.rest_fits (omega (arith, doc.shorter, tf.shorter, from.shorter)) in
    record {
      parts = doc.parts ∙ ap (λ (xs : List ℕ). to_be_bytes w32 f.doc ++ xs) (tf.parts ∙ ap (λ (xs : List ℕ). to_be_bytes w32 f.tf ++ xs) (from.parts ∙ ap (λ (xs : List ℕ). to_be_bytes w64 f.from ++ xs) to.parts));
      rest_fits = to.rest_fits;
      holds = next_of before f (record { numbered = doc.below; counted = a.0; bounded = tf.below; ordered = a.1; in_time = a.2 }) follow;
    }

posting_reads : (before : Option Fields) (bytes : List ℕ) (x : Fields × List ℕ) → IsBytes bytes → posting_at before bytes ≡ Some x → StandsIn spelled (λ x. IsNext before x.0) bytes x
posting_reads before bytes x fits e =
    let h = posting_parts before bytes x e in
    let here = λ (P : Fields → Bool) (is : P x.0 ≡ true). subst (λ (r : Fields × List ℕ). P r.0 ≡ true) (sym h.1) is in
    subst (λ (r : Fields × List ℕ). StandsIn spelled (λ x. IsNext before x.0) bytes r) h.1 (front_stands before bytes fits h.0 (here is_allowed h.2) (here (may_follow before) h.3))

-- what is left behind a posting
pub posting_rest : (before : Option Fields) (bytes : List ℕ) (x : Fields × List ℕ) → IsBytes bytes → posting_at before bytes ≡ Some x → (length x.1 < length bytes) × IsBytes x.1
posting_rest before bytes x fits e = let is = posting_reads before bytes x fits e in (omega (arith, ap (λ (bs : List ℕ). length bs) is.parts), is.rest_fits)

front_reads : (before : Option Fields) (bytes : List ℕ) → IsBytes bytes → Reads (StandsIn (flat_map spelled) (λ x. AreNext before x.0) bytes) (length bytes) (front_at before bytes)
unfolding front_at
front_reads before bytes fits =
    reads_next spelled _ _ _ [] bytes (value_or (length bytes) (posting_at before bytes)) _ (reads_value _ (length bytes) (posting_at before bytes) (λ x e. posting_reads before bytes x fits e)) (λ x fits next.
    reads_ok _ _ (x.0 ∷ [], x.1) (record { parts = ap (λ (xs : List ℕ). xs ++ x.1) (sym (append-nil (spelled x.0))); rest_fits = fits; holds = (next, tt) }))

-- postings that may stand there, spelled by these bytes
abbrev AreSpelled : Option Fields → List ℕ → List Fields → Type 0
AreSpelled before bytes ps = AreNext before ps × (bytes ≡ flat_map spelled ps)

list_reads : (bytes : List ℕ) → IsBytes bytes → Reads (AreSpelled None bytes) (length bytes) (list_at bytes)
unfolding list_at
list_reads bytes fits = all_reads front_at (flat_map spelled) (λ before x. AreNext before x.0) AreSpelled (λ before. (tt, refl)) front_reads
    (λ before x ys is are. (next-join before x.0 ys is are.0, ap (λ (bs : List ℕ). flat_map spelled x.0 ++ bs) are.1 ∙ sym (flat_map-append spelled x.0 ys))) (length bytes) None bytes fits

-- ---- what is spelled is read

posting_again : (before : Option Fields) (p : Fields) (rest : List ℕ) → IsNext before p → posting_at before (spelled p ++ rest) ≡ Some (p, rest)
unfolding posting_at
posting_again before p rest next =
    let a = next.allowed in
    let long : nat_lt (length (spelled p ++ rest)) 24 ≡ false = le-ltb _ _ (omega arith) in
    let doc = number_again w32 (2 ^ 32) wide32 p.doc (to_be_bytes w32 p.tf ++ (to_be_bytes w64 p.from ++ (to_be_bytes w64 p.to ++ rest))) a.numbered in
    let tf = number_again w32 (2 ^ 32) wide32 p.tf (to_be_bytes w64 p.from ++ (to_be_bytes w64 p.to ++ rest)) a.bounded in
    let from = number_again w64 (2 ^ 64) wide64 p.from (to_be_bytes w64 p.to ++ rest) (omega (arith, a.ordered, a.in_time)) in
    let to = number_again w64 (2 ^ 64) wide64 p.to rest (omega (arith, a.in_time)) in
    let read : fields_front (spelled p ++ rest) ≡ (p, rest) = λ i. (record { doc = doc i; tf = tf i; from = from i; to = to i }, rest) in
    let passed : if_allowed before (p, rest) ≡ Some (p, rest) = rw (allowed_passes p a, follows before p next) refl in
    rw long (ap (if_allowed before) read ∙ passed)

all_again : (n : ℕ) (before : Option Fields) (ps : List Fields) → length (flat_map spelled ps) ≤ n → AreNext before ps → all_at front_at n before (flat_map spelled ps) ≡ Ok ps
all_again n before [] le next = refl
all_again zero before (p ∷ ps) le next = absurd (omega (arith, length-append (spelled p) (flat_map spelled ps)))
all_again (suc n) before (p ∷ ps) le next =
    all_step front_at n before (spelled p ++ flat_map spelled ps) (p ∷ []) (flat_map spelled ps) (omega arith) (front_ok before _ p _ (posting_again before p (flat_map spelled ps) next.0))
    ∙ ap (λ (r : Result (List Fields) ℕ). r >>= λ ys. Ok (p ∷ ys)) (all_again n (Some p) ps (omega (arith, length-append (spelled p) (flat_map spelled ps))) next.1)

-- ---- lists

list_again : (list : List Posting) → IsList list → list_at (spelling list) ≡ Ok (map fields list)
unfolding list_at
list_again list is = rw (sym (flat_map-map spelled fields list)) (all_again (length (flat_map spelled (map fields list))) None (map fields list) (omega arith) (list_next list is))

spelled_list : (bytes : List ℕ) (xs : List Fields) → IsBytes bytes → list_at bytes ≡ Ok xs → (list : List Posting) × IsList list × (map fields list ≡ xs) × (bytes ≡ spelling list)
spelled_list bytes xs fits e =
    let t = (list_reads bytes fits).read xs e in
    let l = list_of xs t.0 in
    (l.0, l.1, l.2, t.1 ∙ ap (flat_map spelled) (sym l.2) ∙ flat_map-map spelled fields l.0)

pub spelling-length : (list : List Posting) → length (spelling list) ≡ 24 * length list
spelling-length [] = refl
spelling-length (p ∷ list) = omega (arith, length-append (spelled (fields p)) (spelling list), spelling-length list)

pub flat_codec : IsCodec spelling list_at
flat_codec = record { again = list_again; back = spelled_list; left = λ bytes left fits e. (list_reads bytes fits).fails left e }
