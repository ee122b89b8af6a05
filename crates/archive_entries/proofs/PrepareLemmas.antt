-- Why a change may not come next, and what is prepared of one that may.
use Rattle.std.proofs.Common.{◌≡◌, ◌<◌, ◌≤◌, ◌^◌, ℕ, List, [], ◌∷◌, ◌++◌, length, Option, Some, None, IsUtf8, refl, ap, sym, ◌∙◌}
use Rattle.std.specs.Option.{option_map}
use Rattle.base_types.specs.declared.ids.DocId.{DocId}
use Rattle.base_types.specs.declared.time.Time.{Time}
use Rattle.base_types.specs.declared.text_place.TextPlace.{TextPlace}
use Rattle.lists_versions.specs.Tests.{first_of}
use Rattle.lists_versions.specs.declared.change.Change.{Change}
use Rattle.lists_versions.specs.declared.refusal.VersionRefusal.{VersionRefusal}
use Rattle.lists_versions.specs.Refusals.{arrive_refusal, delete_refusal}
use Rattle.journal_entries.specs.Acts.{most_text}
use Rattle.journal_entries.specs.Spelling.{spelling}
use Rattle.journal_entries.specs.declared.entry.Entry.TheVariants.{Arrive, Delete}
use Rattle.base_types.specs.Limits.{limit_of}
use Rattle.base_types.specs.declared.which.Which.TheVariants.{Words}
use Rattle.model_archive.specs.declared.refusal.Refusal.{Refusal}
use Rattle.model_archive.specs.declared.refusal.Refusal.TheVariants.{Full}
use Rattle.model_archive.specs.Refusals.{refusal_of}
use Rattle.lists_index.specs.Words.{words_in}
use Rattle.model_archive.specs.Histories.{History, changes, entry_refusal}
use Rattle.model_archive.specs.Steps.{full_journal, arrival_refusal, deletion_refusal}
use Rattle.model_archive.proofs.RefusalLemmas.{arrival_refused-good, arrival-refused, arrival-words, cause-not_allowed, cause-allowed}
use Rattle.archive_entries.specs.Places.{ArePlaced}
use Rattle.archive_entries.specs.Entries.{IsNext}
use Rattle.archive_entries.proofs.IndexLemmas.{words_full, words_within}
use Rattle.archive_entries.proofs.PlaceLemmas.{placed_arrive_refusal, placed_delete_refusal}

-- the directory's refusal of a deletion is the history's
deletion_as : (cs : List (Change TextPlace)) (h : History) (doc : DocId) (at : Time) → ArePlaced 16 h cs → option_map refusal_of (delete_refusal doc at cs) ≡ entry_refusal h (Delete doc at)
deletion_as cs h doc at placed = ap (option_map refusal_of) (placed_delete_refusal doc at 16 h cs placed)

pub arrive_refused : (cs : List (Change TextPlace)) (h : History) (doc : DocId) (at : Time) (text : List ℕ) (v : VersionRefusal) (why : Refusal) → ArePlaced 16 h cs
    → length text ≤ most_text → IsUtf8 text → arrive_refusal doc at cs ≡ Some v → why ≡ refusal_of v → arrival_refusal h doc at text ≡ Some why
arrive_refused cs h doc at text v why placed short good refused same =
    arrival_refused-good h doc at text short good
    ∙ cause-not_allowed h (Arrive doc at text) why (arrival-refused h doc at text v (sym (placed_arrive_refusal doc at 16 h cs placed) ∙ refused) ∙ ap (λ (w : Refusal). Some w) (sym same))

-- there would be too many words
pub words_refused : (cs : List (Change TextPlace)) (h : History) (doc : DocId) (at : Time) (text : List ℕ) → ArePlaced 16 h cs → length text ≤ most_text → IsUtf8 text → arrive_refusal doc at cs ≡ None
    → 2 ^ 20 < length (words_in (changes h ++ record { doc = doc; at = at; held = Some text } ∷ [])) → arrival_refusal h doc at text ≡ Some (Full Words (limit_of Words))
words_refused cs h doc at text placed short good allowed over =
    let full = words_full h (Arrive doc at text) tt over in
    arrival_refused-good h doc at text short good
    ∙ cause-not_allowed h (Arrive doc at text) (Full Words (limit_of Words))
    (arrival-words h doc at text (sym (placed_arrive_refusal doc at 16 h cs placed) ∙ allowed) ∙ ap (λ (o : Option Refusal). first_of (o ∷ [])) full)

pub delete_refused : (cs : List (Change TextPlace)) (h : History) (doc : DocId) (at : Time) (v : VersionRefusal) (why : Refusal) → ArePlaced 16 h cs
    → delete_refusal doc at cs ≡ Some v → why ≡ refusal_of v → deletion_refusal h doc at ≡ Some why
delete_refused cs h doc at v why placed refused same =
    cause-not_allowed h (Delete doc at) why (sym (deletion_as cs h doc at placed) ∙ ap (option_map refusal_of) refused ∙ ap (λ (w : Refusal). Some w) (sym same))

-- an arrival that isn't refused may come next, but for the journal's room
pub arrival_prepared : (cs : List (Change TextPlace)) (h : History) (doc : DocId) (at : Time) (text str body : List ℕ) → ArePlaced 16 h cs → doc.0 < 2 ^ 32
    → length text ≤ most_text → IsUtf8 text → str ≡ text → arrive_refusal doc at cs ≡ None
    → length (words_in (changes h ++ record { doc = doc; at = at; held = Some text } ∷ [])) ≤ 2 ^ 20 → body ≡ spelling (Arrive doc at str)
    → IsNext h (Arrive doc at text) (record { doc = doc; at = at; held = Some (length str) }) body × (arrival_refusal h doc at text ≡ first_of (full_journal h (Arrive doc at text) ∷ []))
arrival_prepared cs h doc at text str body placed fits short good same allowed within spelled =
    let may : entry_refusal h (Arrive doc at text) ≡ None =
    arrival-words h doc at text (sym (placed_arrive_refusal doc at 16 h cs placed) ∙ allowed) ∙ ap (λ (o : Option Refusal). first_of (o ∷ [])) (words_within h (Arrive doc at text) tt within) in (
      record {
        legal = record { ranges = (fits, at.before_now, short, good); allowed = may; planned = tt };
        makes = (refl, refl, ap (λ (l : List ℕ). Some (length l)) same);
        spelled = spelled ∙ ap (λ (l : List ℕ). spelling (Arrive doc at l)) same;
      },
      arrival_refused-good h doc at text short good ∙ cause-allowed h (Arrive doc at text) may,
    )

-- and a deletion
pub deletion_prepared : (cs : List (Change TextPlace)) (h : History) (doc : DocId) (at : Time) (body : List ℕ) → ArePlaced 16 h cs → doc.0 < 2 ^ 32
    → delete_refusal doc at cs ≡ None → body ≡ spelling (Delete doc at)
    → IsNext h (Delete doc at) (record { doc = doc; at = at; held = None }) body × (deletion_refusal h doc at ≡ first_of (full_journal h (Delete doc at) ∷ []))
deletion_prepared cs h doc at body placed fits allowed spelled =
    let may : entry_refusal h (Delete doc at) ≡ None = sym (deletion_as cs h doc at placed) ∙ ap (option_map refusal_of) allowed in (
      record {
        legal = record { ranges = (fits, at.before_now); allowed = may; planned = tt };
        makes = (refl, refl, refl);
        spelled = spelled;
      },
      cause-allowed h (Delete doc at) may,
    )
