-- Writing blocks, as the loops do.
use Rattle.std.specs.Prelude.{◌≡◌, ℕ, zero, suc, ◌+◌, ◌*◌, ◌/◌, ◌%◌, ◌^◌, ◌<◌, ◌≤◌, Bool, true, false, cond, nat_lt, List, [], ◌∷◌, ◌++◌, length, get_or, map, take, drop, refl}
use Rattle.std.proofs.Common.{sym, ap, ◌∙◌, arith, append_assoc}
use Rattle.std.specs.List.{flat_map}
use Rattle.std.proofs.lemmas.List.{length-append, length-drop, length-map, take-map, drop-map}
use Rattle.base_types.specs.declared.posting.Posting.{Posting}
use Rattle.lists_postings.specs.Lists.{IsList}
use Rattle.pages_codec.specs.Fields.{Fields, fields}
use Rattle.pages_codec.specs.Numbers.{number_bytes}
use Rattle.pages_codec.specs.Blocks.{other_numbers, numbers, inside, Head, top_of, first_doc, last_doc, head_bytes, head_for, block, pieces, block_spelling}

-- what was written, and the blocks of what is left, are the whole
pub record IsCut (total out : List ℕ) (rest : List Posting) : Type 0 where
  pub turns : ℕ
  pub enough : length rest ≤ turns
  pub same : out ++ flat_map block (pieces turns (map fields rest)) ≡ total

pub cut_begins : (list : List Posting) → IsCut (block_spelling list) [] list
unfolding block_spelling
cut_begins list = record { turns = length list; enough = omega arith; same = refl }

pub cut_more : (total out : List ℕ) (rest : List Posting) (new : List ℕ) → IsCut total out rest → 0 < length rest → new ≡ out ++ block (map fields (take 128 rest)) → IsCut total new (drop 128 rest)
cut_more total out rest new cut some e = go cut.turns rest cut.enough cut.same some e
  where
    go : (turns : ℕ) (rest : List Posting) → length rest ≤ turns → out ++ flat_map block (pieces turns (map fields rest)) ≡ total → 0 < length rest → new ≡ out ++ block (map fields (take 128 rest)) → IsCut total new (drop 128 rest)
    go turns [] le same some e = absurd (omega arith)
    go zero (p ∷ ps) le same some e = absurd (omega arith)
    go (suc turns) (p ∷ ps) le same some e = record {
      turns = turns;
      enough = omega (arith, length-drop 128 (p ∷ ps));
      same = ap (λ (ys : List ℕ). ys ++ flat_map block (pieces turns (map fields (drop 128 (p ∷ ps))))) e
          ∙ append_assoc out (block (map fields (take 128 (p ∷ ps)))) (flat_map block (pieces turns (map fields (drop 128 (p ∷ ps)))))
          ∙ ap (λ (fs : List Fields). out ++ (block fs ++ flat_map block (pieces turns (map fields (drop 128 (p ∷ ps)))))) (sym (take-map fields 128 (p ∷ ps)))
          ∙ ap (λ (fs : List Fields). out ++ (block (take 128 (map fields (p ∷ ps))) ++ flat_map block (pieces turns fs))) (sym (drop-map fields 128 (p ∷ ps)))
          ∙ same;
    }

-- ---- parts of lists

pub list-drop : (n : ℕ) (ps : List Posting) → IsList ps → IsList (drop n ps)
list-drop zero ps h = h
list-drop (suc n) [] h = tt
list-drop (suc n) (p ∷ []) h = list-drop n [] tt
list-drop (suc n) (p ∷ q ∷ ps) h = list-drop n (q ∷ ps) h.1

pub list-take : (n : ℕ) (ps : List Posting) → IsList ps → IsList (take n ps)
list-take zero ps h = tt
list-take (suc n) [] h = tt
list-take (suc zero) (p ∷ ps) h = tt
list-take (suc (suc n)) (p ∷ []) h = tt
list-take (suc (suc n)) (p ∷ q ∷ ps) h = (h.0, list-take (suc n) (q ∷ ps) h.1)

-- ---- how long a block is

number-length : (most n : ℕ) → length (number_bytes most n) ≤ most
unfolding number_bytes
number-length zero n = omega arith
number-length (suc most) n = go (nat_lt n 128) (number-length most (n / 128))
  where
    go : (b : Bool) → length (number_bytes most (n / 128)) ≤ most → length (cond b (n ∷ []) ((n % 128 + 128) ∷ number_bytes most (n / 128))) ≤ suc most
    go true le = omega arith
    go false le = omega arith

numbers-length : (ns : List ℕ) → length (flat_map (number_bytes 6) ns) ≤ 6 * length ns
numbers-length [] = omega arith
numbers-length (n ∷ ns) = omega (arith, length-append (number_bytes 6 n) (flat_map (number_bytes 6) ns), number-length 6 n, numbers-length ns)

others-length : (q : Fields) (ps : List Fields) → length (other_numbers q ps) ≤ 4 * length ps
others-length q [] = omega arith
others-length q (p ∷ ps) = let h = others-length p ps in omega arith

pub inside_length : (ps : List Fields) → length (inside ps) ≤ 24 * length ps
inside_length [] = omega arith
inside_length (p ∷ ps) = let h = others-length p ps in let n = numbers-length (numbers (p ∷ ps)) in omega arith

pub block_length : (list : List Posting) → length list ≤ 128 → length (inside (map fields list)) < 2 ^ 16
block_length list le = omega (arith, inside_length (map fields list), length-map list fields)

first_is : (list : List Posting) (p : Posting) → 0 < length list → (get_or list 0 p).doc.0 ≡ first_doc (map fields list)
first_is [] p some = absurd (omega arith)
first_is (q ∷ list) p some = refl

pub block_is : (list : List Posting) (old text inner new : List ℕ) (h : Head) → text ≡ head_bytes h → h ≡ head_for (map fields list) → inner ≡ inside (map fields list) → new ≡ (old ++ text) ++ inner → new ≡ old ++ block (map fields list)
block_is list old text inner new h head is inner-is all =
    all ∙ append_assoc old text inner ∙ (λ i. old ++ ((head ∙ ap head_bytes is) i ++ inner-is i))

pub head_is : (list : List Posting) (first : Posting) (inner : List ℕ) (size top last : ℕ) → 0 < length list → inner ≡ inside (map fields list) → size ≡ length inner → top ≡ top_of 0 (map fields list) → last ≡ last_doc 0 (map fields list)
    → (let h : Head = record { count = length list; size = size; top = top; first = (get_or list 0 first).doc.0; last = last } in h ≡ head_for (map fields list))
head_is list first inner size top last some inner-is size-is top-is last-is = λ i. record {
  count = sym (length-map list fields) i;
  size = (size-is ∙ ap (λ (xs : List ℕ). length xs) inner-is) i;
  top = top-is i;
  first = first_is list first some i;
  last = last-is i;
}

pub cleared : (list : List Posting) (none inner : List ℕ) → none ≡ [] → inner ≡ none ++ inside (map fields list) → inner ≡ inside (map fields list)
cleared list none inner e f = f ∙ ap (λ (xs : List ℕ). xs ++ inside (map fields list)) e
