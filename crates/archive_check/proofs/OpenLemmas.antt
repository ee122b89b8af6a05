-- What a check asks of an archive that is opened: that texts lie in front of the journal's end, and that each plan has its places, inside Pages.
use Rattle.std.proofs.Common.{◌≡◌, ℕ, ◌+◌, ◌≤◌, List, [], ◌∷◌, ◌++◌, length, map, filter, sum_by, All, Option, Some, None, subst, sym, arith, length-append}
use Rattle.std.specs.Option.{option_map}
use Rattle.std.specs.List.{flat_map}
use Rattle.std.proofs.lemmas.List.Elements.{All-nil, All-cons, All-head, All-tail, All-append, All-filter}
use Rattle.std.proofs.lemmas.List.Sums.{sum_by-cons}
use Rattle.base_types.specs.declared.text_place.TextPlace.{TextPlace}
use Rattle.pages_area.specs.Live.{IsInside, AreLive}
use Rattle.lists_versions.specs.declared.change.Change.{Change}
use Rattle.lists_versions.specs.Changes.{mapped}
use Rattle.journal_entries.specs.Spelling.{spelling}
use Rattle.journal_entries.specs.PlanSpelling.{IsPlanEntry}
use Rattle.journal_entries.specs.Acts.{act_bytes, acts_bytes, batch_front, batch_spelling}
use Rattle.journal_entries.specs.declared.act.Act.{Act}
use Rattle.journal_entries.specs.declared.act.Act.TheVariants as batched
use Rattle.journal_entries.specs.declared.entry.Entry.{Entry}
use Rattle.journal_entries.specs.declared.entry.Entry.TheVariants.{Arrive, Delete, Planned, Format, Batch}
use Rattle.plans_kinds.specs.Plans.{IsFitFor}
use Rattle.model_archive.specs.declared.stored.StoredPlan.{StoredPlan}
use Rattle.model_archive.specs.Histories.{History, end_of}
use Rattle.model_archive.specs.Legal.{EachMayCome, IsLoadable}
use Rattle.model_archive.specs.Plans.{is_another, live_after, live_plans, live_extents, with_plan, extents_of}
use Rattle.archive_entries.specs.Places.{ArePlaced, pair_of, placed_acts, placed_by, places}
use Rattle.archive_entries.specs.Texts.{LiesIn}
use Rattle.archive_check.specs.Verdicts.{LiesInside}
use Rattle.archive_check.proofs.HeldLemmas.{extents_split}

-- ---- texts

-- a place lies in front of the end
abbrev LiesBy : ℕ → Option (ℕ × ℕ) → Type 0
LiesBy end None = Unit {0}
LiesBy end (Some place) = place.0 + place.1 ≤ end

lies_held : (end : ℕ) (held : Option TextPlace) → LiesBy end (option_map pair_of held) → LiesIn end held
lies_held end None lies = tt
lies_held end (Some place) lies = lies

pairs_lie : (end : ℕ) (cs : List (Change TextPlace)) → All (λ c. LiesBy end c.held) (map (mapped pair_of) cs) → All (λ c. LiesIn end c.held) cs
pairs_lie end [] lie = All-nil (λ c. LiesIn end c.held)
pairs_lie end (c ∷ cs) lie =
    let B : Change (ℕ × ℕ) → Type 0 = λ d. LiesBy end d.held in
    All-cons (λ d. LiesIn end d.held) c cs (lies_held end c.held (All-head B (mapped pair_of c) (map (mapped pair_of) cs) lie)) (pairs_lie end cs (All-tail B (mapped pair_of c) (map (mapped pair_of) cs) lie))

acts_lie : (end at : ℕ) (batch : List Act) → at + length (acts_bytes batch) ≤ end → All (λ c. LiesBy end c.held) (placed_acts at batch)
acts_lie end at [] within = All-nil (λ c. LiesBy end c.held)
acts_lie end at (batched.Arrive doc t text ∷ batch) within =
    let act = batched.Arrive doc t text in
    let more = length-append (act_bytes act) (acts_bytes batch) in
    let then = at + length (act_bytes act) in
    All-cons (λ c. LiesBy end c.held) _ (placed_acts then batch) (omega (arith, within, more)) (acts_lie end then batch (omega (arith, within, more)))
acts_lie end at (batched.Delete doc t ∷ batch) within =
    let act = batched.Delete doc t in
    let more = length-append (act_bytes act) (acts_bytes batch) in
    let then = at + length (act_bytes act) in
    All-cons (λ c. LiesBy end c.held) _ (placed_acts then batch) tt (acts_lie end then batch (omega (arith, within, more)))

batch_long : (batch : List Act) → length (spelling (Batch batch)) ≡ 5 + length (acts_bytes batch)
unfolding batch_spelling
batch_long batch = omega (arith, length-append (batch_front (length batch)) (acts_bytes batch))

one_lies : (end gate : ℕ) (e : Entry) → gate + 5 + length (spelling e) ≤ end → All (λ c. LiesBy end c.held) (placed_by gate e)
one_lies end gate (Arrive doc t text) within = All-cons (λ c. LiesBy end c.held) _ [] (omega (arith, within)) (All-nil (λ c. LiesBy end c.held))
one_lies end gate (Delete doc t) within = All-cons (λ c. LiesBy end c.held) _ [] tt (All-nil (λ c. LiesBy end c.held))
one_lies end gate (Planned plan) within = All-nil (λ c. LiesBy end c.held)
one_lies end gate Format within = All-nil (λ c. LiesBy end c.held)
one_lies end gate (Batch batch) within = acts_lie end (gate + 10) batch (omega (arith, within, batch_long batch))

places_lie : (end gate : ℕ) (h : History) → gate + sum_by (λ (x : Entry). length (spelling x) + 5) h ≤ end → All (λ c. LiesBy end c.held) (places gate h)
places_lie end gate [] within = All-nil (λ c. LiesBy end c.held)
places_lie end gate (e ∷ h) within =
    let then = gate + 5 + length (spelling e) in
    let more = sum_by-cons (λ (x : Entry). length (spelling x) + 5) e h in
    All-append (λ c. LiesBy end c.held) (placed_by gate e) (places then h) (one_lies end gate e (omega (arith, within, more))) (places_lie end then h (omega (arith, within, more)))

pub placed_lie : (h : History) (cs : List (Change TextPlace)) (end : ℕ) → ArePlaced 16 h cs → end ≡ end_of h → All (λ c. LiesIn end c.held) cs
placed_lie h cs end placed at =
    let L : List (Change (ℕ × ℕ)) → Type 0 = λ l. All (λ c. LiesBy end c.held) l in
    pairs_lie end cs (subst L (sym placed) (places_lie end 16 h (omega (arith, at))))

-- ---- plans

-- the live plans have their fields in their ranges
abbrev pub is_entry : StoredPlan → Type 0
is_entry stored = IsPlanEntry stored.plan

still_entries : (before : History) (gate : ℕ) (live : List StoredPlan) (h : History) → EachMayCome IsFitFor before h → All is_entry live → All is_entry (live_after gate live h)
still_entries before gate live [] each all = all
still_entries before gate live (Arrive doc at text ∷ h) each all = still_entries (before ++ Arrive doc at text ∷ []) (gate + 5 + length (spelling (Arrive doc at text))) live h each.1 all
still_entries before gate live (Delete doc at ∷ h) each all = still_entries (before ++ Delete doc at ∷ []) (gate + 5 + length (spelling (Delete doc at))) live h each.1 all
still_entries before gate live (Format ∷ h) each all = still_entries (before ++ Format ∷ []) (gate + 5 + length (spelling Format)) live h each.1 all
still_entries before gate live (Batch batch ∷ h) each all = still_entries (before ++ Batch batch ∷ []) (gate + 5 + length (spelling (Batch batch))) live h each.1 all
still_entries before gate live (Planned plan ∷ h) each all =
    let new : StoredPlan = record { gate = gate; plan = plan } in
    still_entries (before ++ Planned plan ∷ []) (gate + 5 + length (spelling (Planned plan))) (with_plan live new) h each.1
    (All-append is_entry (filter (is_another plan.word) live) (new ∷ []) (All-filter (is_another plan.word) is_entry live all) (All-cons is_entry new [] each.0.ranges (All-nil is_entry)))

pub live_entries : (h : History) → IsLoadable h → All is_entry (live_plans h)
live_entries h loads = still_entries [] 16 [] h loads (All-nil is_entry)

-- so each has its places, inside Pages
plans_lie : (reach : ℕ) (live : List StoredPlan) → All is_entry live → All (IsInside reach) (flat_map (λ (s : StoredPlan). extents_of s.plan) live) → All (λ s. LiesInside reach s.plan) live
plans_lie reach [] entries inside = All-nil (λ s. LiesInside reach s.plan)
plans_lie reach (s ∷ live) entries inside =
    let both = extents_split (IsInside reach) s.plan.places (flat_map (λ (s : StoredPlan). extents_of s.plan) live) inside in
    let here = All-head is_entry s live entries in
    All-cons (λ t. LiesInside reach t.plan) s live (record { as_many = here.well_cut.places; inside = both.0 }) (plans_lie reach live (All-tail is_entry s live entries) both.1)

pub live_lie : (h : History) (reach : ℕ) → IsLoadable h → AreLive (live_extents h) reach → All (λ s. LiesInside reach s.plan) (live_plans h)
live_lie h reach loads live = plans_lie reach (live_plans h) (live_entries h loads) live.0
