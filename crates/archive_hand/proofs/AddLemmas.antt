-- What an archive stands for with an entry more, and what stays so on its disk.
use Rattle.std.proofs.Common.{◌≡◌, ◌⊎◌, ℕ, ◌+◌, ◌-◌, ◌≤◌, true, false, None, List, [], ◌∷◌, ◌++◌, length, map, All, inl, refl, ap, subst, sym, ◌∙◌, arith}
use Rattle.std.proofs.lemmas.List.{length_push, map-append}
use Rattle.std.proofs.lemmas.List.Elements.{All-weaker}
use Rattle.machine_model.specs.Areas.{Bytes}
use Rattle.base_types.specs.declared.extent.Extent.{Extent}
use Rattle.pages_area.specs.Live.{IsInside}
use Rattle.machine_model.specs.States.{DiskState, moment}
use Rattle.machine_model.specs.Images.{MayLeave}
use Rattle.machine_model.proofs.MomentLemmas.{goes_on_same, left_now, allowed_left}
use Rattle.lists_versions.specs.declared.change.Change.{Change}
use Rattle.lists_versions.specs.Changes.{mapped}
use Rattle.journal_gates.specs.Spelled.{Spells}
use Rattle.journal_gates.specs.InStep.{IsInStep}
use Rattle.journal_gates.specs.Crash.{Appends, KeepsPages}
use Rattle.journal_gates.specs.State.{JournalState}
use Rattle.journal_gates.specs.declared.error.AppendError.{AppendError}
use Rattle.journal_gates.specs.declared.error.AppendError.TheVariants as appends
use Rattle.journal_gates.proofs.InStepLemmas.{step_spells}
use Rattle.machine_model.specs.declared.range.Range.{Range}
use Rattle.pages_area.specs.Crash.{ChangesOnly}
use Rattle.base_types.specs.declared.text_place.TextPlace.{TextPlace}
use Rattle.journal_entries.specs.Spelling.{spelling}
use Rattle.journal_entries.specs.declared.act.Act.{Act}
use Rattle.journal_entries.specs.declared.entry.Entry.{Entry}
use Rattle.journal_entries.specs.declared.entry.Entry.TheVariants.{Arrive, Delete, Planned, Format, Batch}
use Rattle.model_archive.specs.Histories.{History, changes, end_of, is_mark, is_marked}
use Rattle.model_archive.specs.Plans.{live_plans}
use Rattle.model_archive.proofs.HoldLemmas.{same_live}
use Rattle.model_archive.specs.Stands.{bodies_of}
use Rattle.model_archive.proofs.HistoryLemmas.{bodies_of-push, end_of-push, end_of-least, loadable-push, entry_loads, marked_push, unmarked_push}
use Rattle.model_archive.proofs.OutcomeLemmas.{mark_legal}
use Rattle.model_archive.proofs.RefusalLemmas.{cause-none, when_false}
use Rattle.model_archive.specs.Steps.{mark_refusal}
use Rattle.model_archive.specs.declared.refusal.Refusal.TheVariants.{HasFormat}
use Rattle.base_types.specs.Limits.{limit_of}
use Rattle.base_types.specs.declared.which.Which.TheVariants.{Journal}
use Rattle.archive_hand.specs.States.{ArchiveState, StandsFor}
use Rattle.archive_plans.specs.Shelves.{ShelfState}
use Rattle.lists_index.specs.Indexes.{IndexState, Indexes, IsPreparedFor}
use Rattle.lists_index.specs.declared.prepared.Prepared.{Prepared as Words}
use Rattle.archive_hand.specs.Adding.{IsMore}
use Rattle.archive_entries.specs.Batches.{IsNextBatch}
use Rattle.archive_entries.specs.Entries.{IsNext, IsHeld, Makes, document_of, text_of}
use Rattle.archive_entries.specs.Places.{pair_of, placed_acts, ArePlaced}
use Rattle.archive_entries.specs.declared.batching.PreparedBatch.{PreparedBatch}
use Rattle.archive_entries.proofs.IndexLemmas.{change_comes, changes_marked}
use Rattle.archive_entries.proofs.PlaceLemmas.{placed_batch, placed_mark, placed_more}
use Rattle.machine_model.specs.Calls.{OnlyReads}
use Rattle.archive_hand.proofs.JobLemmas.{under_way_on}

-- ---- an entry more

makes_document : (e : Entry) (x : Change ℕ) → Makes e x → document_of e ≡ x.doc
makes_document (Arrive doc at text) x makes = makes.0
makes_document (Delete doc at) x makes = makes.0
makes_document (Planned plan) x makes = absurd makes
makes_document Format x makes = absurd makes
makes_document (Batch batch) x makes = absurd makes

makes_unmarked : (e : Entry) (x : Change ℕ) → Makes e x → is_mark e ≡ false
makes_unmarked (Arrive doc at text) x makes = refl
makes_unmarked (Delete doc at) x makes = refl
makes_unmarked (Planned plan) x makes = refl
makes_unmarked Format x makes = absurd makes
makes_unmarked (Batch batch) x makes = absurd makes

pub stands_more : (a b : ArchiveState) (h : History) (e : Entry) (x : Change ℕ) (body : List ℕ) (words : Words)
    → StandsFor a h → IsNext h e x body → IsPreparedFor a.index (document_of e) (text_of e) words → IsMore a b x body words → StandsFor b (h ++ e ∷ [])
stands_more a b h e x body words stands next prepared more =
    let least : 17 ≤ end_of h = omega (arith, end_of-least h) in
    let gate : ℕ = end_of h - 1 in
    let held : IsHeld (gate + 18) x.held more.held = subst (λ (n : ℕ). IsHeld n x.held more.held) (omega (arith, least, stands.end_is)) more.held_is in
    let placed = placed_more h a.changes e x more.held gate stands.changes_are (omega (arith, least, stands.end_is)) next.makes held in
    let comes = change_comes h e x stands.loadable next.legal.allowed next.makes in
    let live : live_plans (h ++ e ∷ []) ≡ live_plans h = same_live h e comes.0 in
    record {
      loadable = loadable-push h e stands.loadable (entry_loads h e next.legal);
      end_is = omega (arith, more.end_is, stands.end_is, end_of-push h e, ap length next.spelled);
      length_is = omega (arith, more.length_is, stands.length_is, length_push h e);
      changes_are = rw more.changes_are placed;
      index_is = rw comes.1 (more.indexed (changes h) x.doc (text_of e) stands.index_is (rw (makes_document e x next.makes) at prepared) comes.2);
      plans_are = ap (λ (s : ShelfState). s.plans) more.shelf_is ∙ stands.plans_are ∙ sym live;
      pages_are = rw (more.shelf_is, more.job_is, live) stands.pages_are;
      marked_is = more.marked_is ∙ stands.marked_is ∙ sym (unmarked_push h e (makes_unmarked e x next.makes));
      under_way = rw (more.shelf_is, more.job_is) (under_way_on h e a.shelf.room a.job next.legal.allowed live stands.under_way);
    }

-- an archive with the mark
abbrev pub with_mark : ArchiveState → ℕ → ArchiveState
with_mark a end = record a { end = end; live = true; length = a.length + 1; marked = true }

-- nothing refuses the mark where the history has none, and there is room for it
pub unrefused : (h : History) → is_marked h ≡ false → end_of h + 8 ≤ limit_of Journal → mark_refusal h ≡ None
unrefused h none room = cause-none h Format (when_false (is_marked h) HasFormat none) (omega (arith, room, end_of-push h Format))

pub stands_marked : (a : ArchiveState) (h : History) (end : ℕ) → StandsFor a h → mark_refusal h ≡ None → end ≡ a.end + 8 → StandsFor (with_mark a end) (h ++ Format ∷ [])
stands_marked a h end stands none at =
    let live : live_plans (h ++ Format ∷ []) ≡ live_plans h = same_live h Format tt in
    record {
      loadable = loadable-push h Format stands.loadable (entry_loads h Format (mark_legal h none));
      end_is = omega (arith, at, stands.end_is, end_of-push h Format);
      length_is = omega (arith, stands.length_is, length_push h Format);
      changes_are = placed_mark h a.changes stands.changes_are;
      index_is = rw (changes_marked h) stands.index_is;
      plans_are = stands.plans_are ∙ sym live;
      pages_are = rw live stands.pages_are;
      marked_is = sym (marked_push h);
      under_way = under_way_on h Format a.shelf.room a.job (mark_legal h none).allowed live stands.under_way;
    }

-- the archive with a batch more: its journal ends there, and these are its changes and its index
abbrev pub with_batch : ArchiveState → ℕ → List (Change TextPlace) → IndexState → ArchiveState
with_batch a end changes index = record a { end = end; live = true; length = a.length + 1; changes = changes; index = index }

-- its changes come behind those of the entries before it
batch_placed : (a : ArchiveState) (h : History) (batch : List Act) (p : PreparedBatch) → StandsFor a h → IsNextBatch h batch p → ArePlaced 16 (h ++ Batch batch ∷ []) (a.changes ++ p.changes.items)
batch_placed a h batch p stands next =
    let least : 17 ≤ end_of h = omega (arith, end_of-least h) in
    let gate : ℕ = end_of h - 1 in
    let at : end_of h + 9 ≡ gate + 10 = omega (arith, least) in
    placed_batch h a.changes (a.changes ++ p.changes.items) batch gate stands.changes_are (omega (arith, least))
    (map-append (mapped pair_of) a.changes p.changes.items ∙ ap (λ (l : List (Change (ℕ × ℕ))). map (mapped pair_of) a.changes ++ l) (next.placed ∙ ap (λ (n : ℕ). placed_acts n batch) at))

pub stands_batch : (a : ArchiveState) (h : History) (batch : List Act) (p : PreparedBatch) (end : ℕ) (all : List (Change TextPlace)) (index : IndexState) → StandsFor a h → IsNextBatch h batch p → end ≡ a.end + 5 + length p.body.items
    → all ≡ a.changes ++ p.changes.items → Indexes index (changes (h ++ Batch batch ∷ [])) → StandsFor (with_batch a end all index) (h ++ Batch batch ∷ [])
stands_batch a h batch p end all index stands next at noted indexed =
    let live : live_plans (h ++ Batch batch ∷ []) ≡ live_plans h = same_live h (Batch batch) tt in
    record {
      loadable = loadable-push h (Batch batch) stands.loadable (entry_loads h (Batch batch) next.legal);
      end_is = omega (arith, at, stands.end_is, end_of-push h (Batch batch), ap length next.spelled);
      length_is = omega (arith, stands.length_is, length_push h (Batch batch));
      changes_are = rw noted (batch_placed a h batch p stands next);
      index_is = indexed;
      plans_are = stands.plans_are ∙ sym live;
      pages_are = rw live stands.pages_are;
      marked_is = stands.marked_is ∙ sym (unmarked_push h (Batch batch) refl);
      under_way = under_way_on h (Batch batch) a.shelf.room a.job next.legal.allowed live stands.under_way;
    }

-- the bodies of a history with an entry more
pub bodies_more : (h : History) (e : Entry) (body : List ℕ) → body ≡ spelling e → bodies_of h ++ body ∷ [] ≡ bodies_of (h ++ e ∷ [])
bodies_more h e body same = ap (λ (l : List ℕ). bodies_of h ++ l ∷ []) same ∙ sym (bodies_of-push h e)

-- ---- no call is made

pub pages_nowhere : (d : DiskState) → KeepsPages d d
pages_nowhere d = record {
  goes_on = goes_on_same d;
  images = left_now d (λ image beside. (was : Bytes) × MayLeave d.now was × (image.pages ≡ was.pages) × (beside ≡ d.now.beside)) (λ image allowed. (image, allowed, refl, refl));
}

pub appends_nowhere : (d : DiskState) (end : ℕ) (bodies : List (List ℕ)) (body : List ℕ) → IsInStep d end bodies → Appends bodies body d d
appends_nowhere d end bodies body step = record {
  goes_on = goes_on_same d;
  images = left_now d (λ image beside. (Spells image.journal bodies ⊎ Spells image.journal (bodies ++ body ∷ [])) × (beside ≡ d.now.beside)) (λ image allowed. (inl (step_spells d end bodies step image allowed), refl));
}

-- ---- an append that fails

-- it leaves the end
pub end_stays : (e : AppendError) (new old : JournalState) → (e ≡ appends.Full → new ≡ old) → (e ≡ appends.Failed → new ≡ record old { live = false }) → new.end ≡ old.end
end_stays appends.Full new old full failed = ap (λ (s : JournalState). s.end) (full refl)
end_stays appends.Failed new old full failed = ap (λ (s : JournalState). s.end) (failed refl)

-- ---- over writes to pages, reads, and a disk that reaches further

-- the journal stays in step over writes to pages
pub step_stays : (ranges : List Range) (old new : DiskState) (end : ℕ) (bodies : List (List ℕ)) → ChangesOnly ranges old new → IsInStep old end bodies → IsInStep new end bodies
step_stays ranges old new end bodies changes step = record {
  gate = step.gate;
  shut = step.shut;
  fit = step.fit;
  end_is = step.end_is;
  images = λ image allowed.
      let was = changes.images image new.now.beside (allowed_left new (moment old) image allowed) in
      let is = step.images was.0 was.1 in
      (is.0, was.2 ∙ is.1);
}

pub step_reads : (b c : DiskState) (end : ℕ) (bodies : List (List ℕ)) → IsInStep b end bodies → OnlyReads b c → IsInStep c end bodies
step_reads b c end bodies step same =
    subst (λ (d : DiskState). IsInStep d end bodies) (sym same) (record { gate = step.gate; shut = step.shut; fit = step.fit; end_is = step.end_is; images = step.images })

-- a disk that reached as far as an archive reaches on as far, where it reaches further and the archive has the same plans
pub inside_on : (n m : ℕ) (es : List Extent) → n ≤ m → All (IsInside n) es → All (IsInside m) es
inside_on n m es more inside = All-weaker (IsInside n) (IsInside m) (λ e is. omega (arith, is, more)) es inside
