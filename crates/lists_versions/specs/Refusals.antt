-- Why a change of a document isn't allowed after others, by a list of tests in their order.
use Rattle.std.specs.Prelude.{◌==◌, ◌&&◌, nat_lt, nat_le, List, [], ◌∷◌, length, Option, Some, None, is_none, option_and_then}
use Rattle.base_types.specs.Limits.{limit_of}
use Rattle.base_types.specs.declared.ids.DocId.{DocId}
use Rattle.base_types.specs.declared.time.Time.{Time}
use Rattle.base_types.specs.declared.which.Which.TheVariants.{Documents, Versions}
use Rattle.lists_versions.specs.declared.change.Change.{Change}
use Rattle.lists_versions.specs.declared.refusal.VersionRefusal.{VersionRefusal}
use Rattle.lists_versions.specs.declared.refusal.VersionRefusal.TheVariants.{TimeBack, SameTime, NoDocument, Full}
use Rattle.lists_versions.specs.Changes.{last_time, latest, documents}
use Rattle.lists_versions.specs.Tests.{first_of, when}

-- the time lies before the last one
abbrev pub time_back : {A : Type 0} → Time → List (Change A) → Option VersionRefusal
time_back at changes = option_and_then (λ last. when (nat_lt at.seconds last.seconds) (TimeBack last)) (last_time changes)

-- the document's latest change has this time
abbrev pub same_time : {A : Type 0} → DocId → Time → List (Change A) → Option VersionRefusal
same_time doc at changes = option_and_then (λ c. when (c.at.seconds == at.seconds) SameTime) (latest doc changes)

-- the document never came, or its latest change is a tombstone
abbrev pub no_document : {A : Type 0} → DocId → List (Change A) → Option VersionRefusal
no_document doc changes = when (is_none (option_and_then (λ c. c.held) (latest doc changes))) NoDocument

-- the document is new, and there are as many as there may be
abbrev pub full_documents : {A : Type 0} → DocId → List (Change A) → Option VersionRefusal
full_documents doc changes = when (is_none (latest doc changes) && nat_le (limit_of Documents) (length (documents changes)))
    (Full Documents (limit_of Documents))

-- there are as many versions and tombstones as there may be
abbrev pub full_versions : {A : Type 0} → List (Change A) → Option VersionRefusal
full_versions changes = when (nat_le (limit_of Versions) (length changes)) (Full Versions (limit_of Versions))

-- why an arrival isn't allowed after these changes: the first cause in order
abbrev pub arrive_refusal : {A : Type 0} → DocId → Time → List (Change A) → Option VersionRefusal
arrive_refusal doc at changes = first_of (time_back at changes ∷ same_time doc at changes ∷ full_documents doc changes
    ∷ full_versions changes ∷ [])

-- why a deletion isn't allowed after these changes: the first cause in order
abbrev pub delete_refusal : {A : Type 0} → DocId → Time → List (Change A) → Option VersionRefusal
delete_refusal doc at changes = first_of (time_back at changes ∷ no_document doc changes ∷ same_time doc at changes ∷ full_versions changes
    ∷ [])

-- why a change isn't allowed after these: an arrival, of whose text something is held, or a deletion
abbrev pub refusal_by : {A B : Type 0} → Option A → DocId → Time → List (Change B) → Option VersionRefusal
refusal_by (Some held) doc at changes = arrive_refusal doc at changes
refusal_by None doc at changes = delete_refusal doc at changes

abbrev pub change_refusal : {A B : Type 0} → Change A → List (Change B) → Option VersionRefusal
change_refusal change changes = refusal_by change.held change.doc change.at changes
