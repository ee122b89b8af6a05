-- What a decoder of lists answers.
use Rattle.std.specs.Prelude.{◌≡◌, ◌≢◌, ℕ, List, Result, IfOk, IfErr}
use Rattle.std.specs.declared.alloc.Global.{Global}
use Rattle.std.specs.declared.vec.Vec.{Vec}
use Rattle.base_types.specs.declared.posting.Posting.{Posting}
use Rattle.lists_postings.specs.Lists.{IsList}
use Rattle.pages_codec.specs.Fields.{Fields}
use Rattle.pages_codec.specs.Layouts.{IsFaultOf}
use Rattle.pages_codec.specs.declared.error.ListError.{ListError}
use Rattle.pages_codec.specs.declared.error.ListError.TheVariants.{Form, Memory}

-- memory ran out, or P holds of the place that is named
abbrev pub OrMemory : (ℕ → Type 0) → ListError → Type 0
OrMemory P Memory = Unit {0}
OrMemory P (Form at) = P at

-- what is read from bytes, by how a list is spelled and by a reading that names a fault
pub record Decodes (spelling : List Posting → List ℕ) (reading : List ℕ → Result (List Fields) ℕ) (bytes : List ℕ)
    (result : Result (Vec Posting Global) ListError) : Type 0 where
  -- what is read is a list, and is spelled so
  pub found : IfOk result (λ v. IsList v.items × (bytes ≡ spelling v.items))
  -- the list that is spelled so is what is read
  pub only : (list : List Posting) → IsList list → bytes ≡ spelling list → IfOk result (λ v. v.items ≡ list)
  -- where a place is named, no list is spelled
  pub nothing : IfErr result (OrMemory (λ _. (list : List Posting) → IsList list → bytes ≢ spelling list))
  -- which place is named
  pub fault : IfErr result (OrMemory (IsFaultOf reading bytes))
