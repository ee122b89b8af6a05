-- What holds of a layout in which spellings are read again, and what is read is spelled.
use Rattle.std.specs.Prelude.{◌≡◌, ◌≢◌, ℕ, ◌-◌, ◌≤◌, List, length, map, Result, Ok, Err, IfOk, IfErr, refl}
use Rattle.std.proofs.Common.{sym, ap, subst, ◌∙◌, arith}
use Rattle.std.proofs.lemmas.Result.{IfOk-weaker, IfErr-weaker}
use Rattle.std.specs.declared.alloc.Global.{Global}
use Rattle.std.specs.declared.vec.Vec.{Vec}
use Rattle.base_types.specs.declared.posting.Posting.{Posting}
use Rattle.lists_postings.specs.Lists.{IsList}
use Rattle.pages_codec.specs.Fields.{Fields, fields}
use Rattle.pages_codec.specs.Layouts.{IsFaultOf, IsLayout}
use Rattle.pages_codec.specs.Decoding.{OrMemory, Decodes}
use Rattle.pages_codec.specs.declared.error.ListError.{ListError}
use Rattle.base_types.proofs.Readings.{ok_is}
use Rattle.pages_codec.proofs.Steps.{OrMemory-weaker, failed}
use Rattle.base_types.proofs.Bytes.{IsBytes, IsBytes-from_all}
use Rattle.pages_codec.proofs.FieldLemmas.{same_all}

pub record IsCodec (spelling : List Posting → List ℕ) (reading : List ℕ → Result (List Fields) ℕ) : Type 0 where
  pub again : (list : List Posting) → IsList list → reading (spelling list) ≡ Ok (map fields list)
  pub back : (bytes : List ℕ) (xs : List Fields) → IsBytes bytes → reading bytes ≡ Ok xs → (list : List Posting) × IsList list × (map fields list ≡ xs) × (bytes ≡ spelling list)
  pub left : (bytes : List ℕ) (left : ℕ) → IsBytes bytes → reading bytes ≡ Err left → left ≤ length bytes

-- what is read as the numbers of postings is their list, and spelled so
codec_found : (spelling : List Posting → List ℕ) (reading : List ℕ → Result (List Fields) ℕ) → IsCodec spelling reading
    → (bytes : List ℕ) (ps : List Posting) → IsBytes bytes → reading bytes ≡ Ok (map fields ps) → IsList ps × (bytes ≡ spelling ps)
codec_found spelling reading codec bytes ps fits e =
    let s = codec.back bytes (map fields ps) fits e in
    subst (λ (list : List Posting). IsList list × (bytes ≡ spelling list)) (same_all s.0 ps s.2) (s.1, s.3)

-- two lists that are read from the same bytes are one
codec_only : (spelling : List Posting → List ℕ) (reading : List ℕ → Result (List Fields) ℕ) → IsCodec spelling reading
    → (bytes : List ℕ) (ps list : List Posting) → reading bytes ≡ Ok (map fields ps) → IsList list → bytes ≡ spelling list → ps ≡ list
codec_only spelling reading codec bytes ps list e h same = same_all ps list (ok_is (map fields ps) (map fields list) (sym e ∙ ap reading same ∙ codec.again list h))

codec_none : (spelling : List Posting → List ℕ) (reading : List ℕ → Result (List Fields) ℕ) → IsCodec spelling reading
    → (bytes : List ℕ) (at : ℕ) (list : List Posting) → IsFaultOf reading bytes at → IsList list → bytes ≢ spelling list
codec_none spelling reading codec bytes at list f h = λ same. (let read : reading bytes ≡ Ok (map fields list) = ap reading same ∙ codec.again list h in let fails = f.2 in cc)

-- what is read as the numbers of postings, or fails, is decoded
pub decodes : (spelling : List Posting → List ℕ) (reading : List ℕ → Result (List Fields) ℕ) → IsCodec spelling reading
    → (bytes : List ℕ) (r : Result (Vec Posting Global) ListError) → IsBytes bytes → IfOk r (λ v. reading bytes ≡ Ok (map fields v.items)) → IfErr r (OrMemory (IsFaultOf reading bytes)) → Decodes spelling reading bytes r
decodes spelling reading codec bytes r fits found fault = record {
  found = IfOk-weaker r _ _ (λ v e. codec_found spelling reading codec bytes v.items fits e) found;
  only = λ list h same. IfOk-weaker r _ _ (λ v e. codec_only spelling reading codec bytes v.items list e h same) found;
  nothing = IfErr-weaker r _ _ (λ x e. OrMemory-weaker _ _ x (λ at f list h. codec_none spelling reading codec bytes at list f h) e) fault;
  fault = fault;
}

a_fault : (spelling : List Posting → List ℕ) (reading : List ℕ → Result (List Fields) ℕ) → IsCodec spelling reading
    → (bytes : List ℕ) → IsBytes bytes → ((list : List Posting) → IsList list → bytes ≢ spelling list) → (at : ℕ) × IsFaultOf reading bytes at
a_fault spelling reading codec bytes fits none = go (reading bytes) refl
  where
    go : (r : Result (List Fields) ℕ) → reading bytes ≡ r → (at : ℕ) × IsFaultOf reading bytes at
    go (Ok xs) is = let s = codec.back bytes xs fits is in absurd (none s.0 s.1 s.3)
    go (Err left) is = let le = codec.left bytes left fits is in (length bytes - left, (left, omega arith, is))

one_fault : (reading : List ℕ → Result (List Fields) ℕ) (bytes : List ℕ) (a b : ℕ) → IsFaultOf reading bytes a → IsFaultOf reading bytes b → a ≡ b
one_fault reading bytes a b f g = let same : f.0 ≡ g.0 = left_is f.0 g.0 (sym f.2 ∙ g.2) in let x = f.1 in let y = g.1 in omega arith
  where
    left_is : (l m : ℕ) → failed {A = List Fields} l ≡ failed m → l ≡ m
    left_is l m e = cc

pub layout_of : (spelling : List Posting → List ℕ) (reading : List ℕ → Result (List Fields) ℕ) → IsCodec spelling reading → IsLayout spelling reading
layout_of spelling reading codec = record {
  one_list = λ a b h k same. codec_only spelling reading codec (spelling a) a b (codec.again a h) k same;
  read = codec.again;
  spelled = λ bytes read fits e. codec.back bytes read (IsBytes-from_all bytes fits) e;
  a_fault = λ bytes fits none. a_fault spelling reading codec bytes (IsBytes-from_all bytes fits) none;
  one_fault = λ bytes a b f g. one_fault reading bytes a b f g;
  in_bytes = λ bytes at f. (let e = f.1 in omega arith);
  no_list = λ bytes at list f h. codec_none spelling reading codec bytes at list f h;
}
