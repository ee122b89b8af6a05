-- Changes with the places of the texts: the same refusals, and one change more; and texts by their places: in a journal that spells a history's
-- bodies, each place has its text.
use Rattle.std.proofs.Common.{append-nil, append_assoc, ◌≡◌, ℕ, ◌+◌, List, [], ◌∷◌, ◌++◌, length, map, sum_by, Option, Some, None, refl, ap, subst, sym, ◌∙◌, arith, take, drop, inl, inr, length-append}
use Rattle.std.specs.Option.{option_map}
use Rattle.std.proofs.lemmas.List.{map-append}
use Rattle.std.proofs.lemmas.List.Sums.{sum_by-cons}
use Rattle.base_types.specs.declared.ids.DocId.{DocId}
use Rattle.base_types.specs.declared.time.Time.{Time}
use Rattle.base_types.specs.declared.text_place.TextPlace.{TextPlace}
use Rattle.lists_versions.specs.declared.change.Change.{Change}
use Rattle.lists_versions.specs.Changes.{mapped}
use Rattle.lists_versions.specs.Refusals.{arrive_refusal, delete_refusal}
use Rattle.lists_versions.proofs.Mapped.{arrive_refusal-mapped, delete_refusal-mapped}
use Rattle.journal_entries.specs.Spelling.{spelling}
use Rattle.journal_entries.specs.Acts.{act_spelling, act_bytes, acts_bytes, batch_front, batch_spelling}
use Rattle.journal_entries.specs.declared.act.Act.{Act}
use Rattle.journal_entries.specs.declared.act.Act.TheVariants as batched
use Rattle.journal_entries.specs.declared.entry.Entry.{Entry}
use Rattle.journal_entries.specs.declared.entry.Entry.TheVariants.{Arrive, Delete, Planned, Format, Batch}
use Rattle.journal_entries.specs.declared.plan.PlanEntry.{PlanEntry}
use Rattle.model_archive.specs.Histories.{History, acts, change_by, changes, end_of}
use Rattle.archive_entries.specs.Texts.{nothing, bare, text_in}
use Rattle.archive_entries.specs.Entries.{Makes, IsHeld}
use Rattle.archive_entries.specs.Places.{pair_of, placed_act, placed_acts, placed_by, places, ArePlaced}
use Rattle.std.specs.Int.{w32, w64, to_be_bytes}
use Rattle.std.proofs.Math.Seq.{drop-append_seam, take-append_seam}
use Rattle.journal_gates.specs.Header.{header}
use Rattle.journal_gates.specs.Records.{record_bytes, records}
use Rattle.journal_gates.specs.Spelled.{Spells}
use Rattle.journal_gates.proofs.SpellingLemmas.{length-header}
use Rattle.model_archive.specs.Stands.{bodies_of}
use Rattle.model_archive.proofs.HistoryLemmas.{length_record}

-- a change with its text's place or with two numbers is one change, if what it holds is left out
held_bare : (held : Option TextPlace) → option_map nothing (option_map pair_of held) ≡ option_map nothing held
held_bare None = refl
held_bare (Some place) = refl

pub pairs_bare : (cs : List (Change TextPlace)) → map bare (map (mapped pair_of) cs) ≡ map bare cs
pairs_bare [] = refl
pairs_bare (c ∷ cs) = let held = held_bare c.held in let rest = pairs_bare cs in cc

-- and so are the changes of acts and of entries with places or with texts
pub acts_bare : (at : ℕ) (batch : List Act) → map bare (placed_acts at batch) ≡ map bare (map change_by batch)
acts_bare at [] = refl
acts_bare at (batched.Arrive doc t text ∷ batch) =
    ap (λ (cs : List (Change (Unit {0}))). record { doc = doc; at = t; held = Some tt } ∷ cs) (acts_bare (at + length (act_bytes (batched.Arrive doc t text))) batch)
acts_bare at (batched.Delete doc t ∷ batch) =
    ap (λ (cs : List (Change (Unit {0}))). record { doc = doc; at = t; held = None } ∷ cs) (acts_bare (at + length (act_bytes (batched.Delete doc t))) batch)

places_bare : (gate : ℕ) (h : History) → map bare (places gate h) ≡ map bare (changes h)
places_bare gate [] = refl
places_bare gate (Arrive doc at text ∷ h) =
    ap (λ (cs : List (Change (Unit {0}))). record { doc = doc; at = at; held = Some tt } ∷ cs) (places_bare (gate + 5 + length (spelling (Arrive doc at text))) h)
places_bare gate (Delete doc at ∷ h) =
    ap (λ (cs : List (Change (Unit {0}))). record { doc = doc; at = at; held = None } ∷ cs) (places_bare (gate + 5 + length (spelling (Delete doc at))) h)
places_bare gate (Planned plan ∷ h) = places_bare (gate + 5 + length (spelling (Planned plan))) h
places_bare gate (Format ∷ h) = places_bare (gate + 5 + length (spelling Format)) h
places_bare gate (Batch batch ∷ h) =
    let then = gate + 5 + length (spelling (Batch batch)) in
    map-append bare (placed_acts (gate + 10) batch) (places then h) ∙ (λ i. acts_bare (gate + 10) batch i ++ places_bare then h i) ∙ sym (map-append bare (map change_by batch) (changes h))

pub bare_changes : (gate : ℕ) (h : History) (cs : List (Change TextPlace)) → ArePlaced gate h cs → map bare cs ≡ map bare (changes h)
bare_changes gate h cs placed = sym (pairs_bare cs) ∙ ap (λ (l : List (Change (ℕ × ℕ))). map bare l) placed ∙ places_bare gate h

-- places or texts, the refusals are the same
pub bare_arrive_refusal : (doc : DocId) (at : Time) (h : History) (cs : List (Change TextPlace)) → map bare cs ≡ map bare (changes h) → arrive_refusal doc at cs ≡ arrive_refusal doc at (changes h)
bare_arrive_refusal doc at h cs same =
    sym (arrive_refusal-mapped (nothing {A = TextPlace}) doc at cs) ∙ ap (arrive_refusal doc at) same ∙ arrive_refusal-mapped (nothing {A = List ℕ}) doc at (changes h)

pub bare_delete_refusal : (doc : DocId) (at : Time) (h : History) (cs : List (Change TextPlace)) → map bare cs ≡ map bare (changes h) → delete_refusal doc at cs ≡ delete_refusal doc at (changes h)
bare_delete_refusal doc at h cs same =
    sym (delete_refusal-mapped (nothing {A = TextPlace}) doc at cs) ∙ ap (delete_refusal doc at) same ∙ delete_refusal-mapped (nothing {A = List ℕ}) doc at (changes h)

pub placed_arrive_refusal : (doc : DocId) (at : Time) (gate : ℕ) (h : History) (cs : List (Change TextPlace)) → ArePlaced gate h cs → arrive_refusal doc at cs ≡ arrive_refusal doc at (changes h)
placed_arrive_refusal doc at gate h cs placed = bare_arrive_refusal doc at h cs (bare_changes gate h cs placed)

pub placed_delete_refusal : (doc : DocId) (at : Time) (gate : ℕ) (h : History) (cs : List (Change TextPlace)) → ArePlaced gate h cs → delete_refusal doc at cs ≡ delete_refusal doc at (changes h)
placed_delete_refusal doc at gate h cs placed = bare_delete_refusal doc at h cs (bare_changes gate h cs placed)

-- the places of entries behind others, whose gates are behind these
places_append : (gate last : ℕ) (h more : History) → last ≡ gate + sum_by (λ (x : Entry). length (spelling x) + 5) h → places gate (h ++ more) ≡ places gate h ++ places last more
places_append gate last [] more at = let here : gate ≡ last = omega (arith, at) in ap (λ (n : ℕ). places n more) here
places_append gate last (x ∷ h) more at =
    let then = gate + 5 + length (spelling x) in
    ap (λ (l : List (Change (ℕ × ℕ))). placed_by gate x ++ l) (places_append then last h more (omega (arith, at, sum_by-cons (λ (y : Entry). length (spelling y) + 5) x h)))
    ∙ sym (append_assoc (placed_by gate x) (places then h) (places last more))

placed_behind : (gate last : ℕ) (h more : History) (cs ds : List (Change TextPlace)) → ArePlaced gate h cs → last ≡ gate + sum_by (λ (x : Entry). length (spelling x) + 5) h → ArePlaced last more ds
    → ArePlaced gate (h ++ more) (cs ++ ds)
placed_behind gate last h more cs ds placed at next =
    map-append (mapped pair_of) cs ds
    ∙ ap (λ (l : List (Change (ℕ × ℕ))). l ++ map (mapped pair_of) ds) placed
    ∙ ap (λ (l : List (Change (ℕ × ℕ))). places gate h ++ l) next
    ∙ sym (places_append gate last h more at)

-- a change that an entry makes, with its text's place
makes_placed : (e : Entry) (gate : ℕ) (x : Change ℕ) (held : Option TextPlace) → Makes e x → IsHeld (gate + 18) x.held held → ArePlaced gate (e ∷ []) (record { doc = x.doc; at = x.at; held = held } ∷ [])
makes_placed (Arrive doc at text) gate x held makes is =
    let one = makes.0 in let two = makes.1 in
    let there : option_map pair_of held ≡ Some (gate + 18, length text) = is ∙ ap (λ (o : Option ℕ). option_map (λ n. (gate + 18, n)) o) makes.2 in
    cc
makes_placed (Delete doc at) gate x held makes is =
    let one = makes.0 in let two = makes.1 in
    let none : option_map pair_of held ≡ None = is ∙ ap (λ (o : Option ℕ). option_map (λ n. (gate + 18, n)) o) makes.2 in
    cc
makes_placed (Planned plan) gate x held makes is = absurd makes
makes_placed Format gate x held makes is = absurd makes
makes_placed (Batch batch) gate x held makes is = absurd makes

-- so the change of an entry comes behind those of the entries before it
pub placed_more : (h : History) (cs : List (Change TextPlace)) (e : Entry) (x : Change ℕ) (held : Option TextPlace) (gate : ℕ) → ArePlaced 16 h cs → end_of h ≡ gate + 1 → Makes e x
    → IsHeld (gate + 18) x.held held → ArePlaced 16 (h ++ e ∷ []) (cs ++ record { doc = x.doc; at = x.at; held = held } ∷ [])
placed_more h cs e x held gate placed at makes is =
    placed_behind 16 gate h (e ∷ []) cs (record { doc = x.doc; at = x.at; held = held } ∷ []) placed (omega (arith, at)) (makes_placed e gate x held makes is)

-- the place of a change's text is left out
some_bare : (at n : ℕ) (held : Option TextPlace) → option_map pair_of held ≡ Some (at, n) → option_map nothing held ≡ Some tt
some_bare at n None is = absurd cc
some_bare at n (Some place) is = refl

none_bare : (held : Option TextPlace) → option_map pair_of held ≡ None → option_map nothing held ≡ None
none_bare None is = refl
none_bare (Some place) is = absurd cc

pub makes_bare : (e : Entry) (x : Change ℕ) (held : Option TextPlace) (at : ℕ) → Makes e x → IsHeld at x.held held → map bare (record { doc = x.doc; at = x.at; held = held } ∷ []) ≡ map bare (acts e)
makes_bare (Arrive doc t text) x held at makes is =
    let one = makes.0 in let two = makes.1 in
    let there = some_bare at (length text) held (is ∙ ap (λ (o : Option ℕ). option_map (λ n. (at, n)) o) makes.2) in
    cc
makes_bare (Delete doc t) x held at makes is =
    let one = makes.0 in let two = makes.1 in
    let none = none_bare held (is ∙ ap (λ (o : Option ℕ). option_map (λ n. (at, n)) o) makes.2) in
    cc
makes_bare (Planned plan) x held at makes is = absurd makes
makes_bare Format x held at makes is = absurd makes
makes_bare (Batch batch) x held at makes is = absurd makes

-- the changes of a batch come behind those of the entries before it
pub placed_batch : (h : History) (cs more : List (Change TextPlace)) (batch : List Act) (gate : ℕ) → ArePlaced 16 h cs → end_of h ≡ gate + 1 → map (mapped pair_of) more ≡ map (mapped pair_of) cs ++ placed_acts (gate + 10) batch
    → ArePlaced 16 (h ++ Batch batch ∷ []) more
placed_batch h cs more batch gate placed at pushed =
    pushed ∙ ap (λ (l : List (Change (ℕ × ℕ))). l ++ placed_acts (gate + 10) batch) placed ∙ ap (λ (l : List (Change (ℕ × ℕ))). places 16 h ++ l) (sym (append-nil (placed_acts (gate + 10) batch)))
    ∙ sym (places_append 16 gate h (Batch batch ∷ []) (omega (arith, at)))

-- one act more
pub acts_push : (at : ℕ) (batch : List Act) (act : Act) → placed_acts at (batch ++ act ∷ []) ≡ placed_acts at batch ++ placed_act (at + length (acts_bytes batch)) act ∷ []
acts_push at [] act = let same : at + length (acts_bytes []) ≡ at = omega arith in ap (λ n. placed_act n act ∷ []) (sym same)
acts_push at (x ∷ batch) act =
    let same : (at + length (act_bytes x)) + length (acts_bytes batch) ≡ at + length (acts_bytes (x ∷ batch)) = omega (arith, length-append (act_bytes x) (acts_bytes batch)) in
    ap (λ (cs : List (Change (ℕ × ℕ))). placed_act at x ∷ cs) (acts_push (at + length (act_bytes x)) batch act ∙ ap (λ n. placed_acts (at + length (act_bytes x)) batch ++ placed_act n act ∷ []) same)

-- a plan more is no change more, and neither is the mark
placed_still : (h : History) (cs : List (Change TextPlace)) (e : Entry) → ((gate : ℕ) → placed_by gate e ≡ []) → ArePlaced 16 h cs → ArePlaced 16 (h ++ e ∷ []) cs
placed_still h cs e none placed =
    let P : List (Change TextPlace) → Type 0 = λ l. ArePlaced 16 (h ++ e ∷ []) l in
    let last = 16 + sum_by (λ (x : Entry). length (spelling x) + 5) h in
    subst P (append-nil cs) (placed_behind 16 last h (e ∷ []) cs [] placed refl (sym (append-nil (placed_by last e) ∙ none last)))

pub placed_plan : (h : History) (cs : List (Change TextPlace)) (plan : PlanEntry) → ArePlaced 16 h cs → ArePlaced 16 (h ++ Planned plan ∷ []) cs
placed_plan h cs plan placed = placed_still h cs (Planned plan) (λ gate. refl) placed

pub placed_mark : (h : History) (cs : List (Change TextPlace)) → ArePlaced 16 h cs → ArePlaced 16 (h ++ Format ∷ []) cs
placed_mark h cs placed = placed_still h cs Format (λ gate. refl) placed

-- ---- texts by their places

-- what stands in the record of an arrival before its text
abbrev before_text : DocId → Time → List ℕ → List ℕ
before_text doc at text = 165 ∷ (to_be_bytes w32 (length (spelling (Arrive doc at text))) ++ (1 ∷ (to_be_bytes w32 doc.0 ++ to_be_bytes w64 at.seconds)))

length-before_text : (doc : DocId) (at : Time) (text : List ℕ) → length (before_text doc at text) ≡ 18
length-before_text doc at text = omega (
  arith,
  length-append (to_be_bytes w32 (length (spelling (Arrive doc at text)))) (1 ∷ (to_be_bytes w32 doc.0 ++ to_be_bytes w64 at.seconds)),
  length-append (to_be_bytes w32 doc.0) (to_be_bytes w64 at.seconds),
)

-- a text behind so many bytes
in_middle : (pre text more : List ℕ) (at n : ℕ) → at ≡ length pre → n ≡ length text → take n (drop at (pre ++ (text ++ more))) ≡ text
in_middle pre text more at n place size =
    ap (λ (k : ℕ). take n (drop k (pre ++ (text ++ more)))) place
    ∙ ap (λ (l : List ℕ). take n l) (drop-append_seam pre (text ++ more))
    ∙ ap (λ (k : ℕ). take k (text ++ more)) size
    ∙ take-append_seam text more

-- the bytes of the journal at a place that two numbers tell
abbrev bytes_by : List ℕ → ℕ × ℕ → List ℕ
bytes_by journal place = take place.1 (drop place.0 journal)

held_by : (journal : List ℕ) (held : Option TextPlace) → option_map (bytes_by journal) (option_map pair_of held) ≡ option_map (text_in journal) held
held_by journal None = refl
held_by journal (Some place) = refl

pairs_texts : (journal : List ℕ) (cs : List (Change TextPlace)) → map (mapped (bytes_by journal)) (map (mapped pair_of) cs) ≡ map (mapped (text_in journal)) cs
pairs_texts journal [] = refl
pairs_texts journal (c ∷ cs) = let held = held_by journal c.held in let rest = pairs_texts journal cs in cc

-- a record more before what is left
behind_record : (pre body : List ℕ) (bodies : List (List ℕ)) (rest : List ℕ)
    → (pre ++ record_bytes body) ++ (records bodies ++ rest) ≡ pre ++ (records (body ∷ bodies) ++ rest)
behind_record pre body bodies rest =
    append_assoc pre (record_bytes body) (records bodies ++ rest) ∙ ap (λ (l : List ℕ). pre ++ l) (sym (append_assoc (record_bytes body) (records bodies) rest))

-- the text of an arrival, in the journal
arrival_text : (pre : List ℕ) (gate : ℕ) (doc : DocId) (t : Time) (text : List ℕ) (bodies : List (List ℕ)) (rest : List ℕ) → gate ≡ length pre
    → take (length text) (drop (gate + 18) (pre ++ (records (spelling (Arrive doc t text) ∷ bodies) ++ rest))) ≡ text
arrival_text pre gate doc t text bodies rest at =
    let b = before_text doc t text in
    let is : pre ++ (records (spelling (Arrive doc t text) ∷ bodies) ++ rest) ≡ (pre ++ b) ++ (text ++ (records bodies ++ rest)) =
    ap (λ (l : List ℕ). pre ++ (b ++ l)) (append_assoc text (records bodies) rest) ∙ sym (append_assoc pre b (text ++ (records bodies ++ rest))) in
    ap (λ (l : List ℕ). take (length text) (drop (gate + 18) l)) is
    ∙ in_middle (pre ++ b) text (records bodies ++ rest) (gate + 18) (length text) (omega (arith, at, length-append pre b, length-before_text doc t text)) refl

-- ---- the texts of a batch

-- what stands in front of an act's text
abbrev before_act_text : DocId → Time → List ℕ → List ℕ
before_act_text doc t text = to_be_bytes w32 (length (act_spelling (batched.Arrive doc t text))) ++ (1 ∷ (to_be_bytes w32 doc.0 ++ to_be_bytes w64 t.seconds))

act_text : (pre : List ℕ) (at : ℕ) (doc : DocId) (t : Time) (text more : List ℕ) → at ≡ length pre
    → take (length text) (drop (at + 17) (pre ++ (act_bytes (batched.Arrive doc t text) ++ more))) ≡ text
act_text pre at doc t text more is =
    let b = before_act_text doc t text in
    let whole : pre ++ (act_bytes (batched.Arrive doc t text) ++ more) ≡ (pre ++ b) ++ (text ++ more) = sym (append_assoc pre b (text ++ more)) in
    ap (λ (l : List ℕ). take (length text) (drop (at + 17) l)) whole
    ∙ in_middle (pre ++ b) text more (at + 17) (length text) (omega (arith, is, length-append pre b)) refl

-- an act more in front
behind_act : (pre : List ℕ) (act : Act) (batch : List Act) (rest : List ℕ) → (pre ++ act_bytes act) ++ (acts_bytes batch ++ rest) ≡ pre ++ (acts_bytes (act ∷ batch) ++ rest)
behind_act pre act batch rest = append_assoc pre (act_bytes act) (acts_bytes batch ++ rest) ∙ ap (λ (l : List ℕ). pre ++ l) (sym (append_assoc (act_bytes act) (acts_bytes batch) rest))

first_act : (journal : List ℕ) (at : ℕ) (act : Act) (cs : List (Change (ℕ × ℕ))) (batch : List Act)
    → ((doc : DocId) (t : Time) (text : List ℕ) → act ≡ batched.Arrive doc t text → take (length text) (drop (at + 17) journal) ≡ text)
    → map (mapped (bytes_by journal)) cs ≡ map change_by batch → map (mapped (bytes_by journal)) (placed_act at act ∷ cs) ≡ map change_by (act ∷ batch)
first_act journal at (batched.Arrive doc t text) cs batch there behind = let is = there doc t text refl in cc
first_act journal at (batched.Delete doc t) cs batch there behind = ap (λ (l : List (Change (List ℕ))). record { doc = doc; at = t; held = None } ∷ l) behind

-- wherever the acts of a batch stand, each of their places has the act's text
acts_texts : (pre : List ℕ) (at : ℕ) (batch : List Act) (rest : List ℕ) → at ≡ length pre → map (mapped (bytes_by (pre ++ (acts_bytes batch ++ rest)))) (placed_acts at batch) ≡ map change_by batch
acts_texts pre at [] rest is = refl
acts_texts pre at (act ∷ batch) rest is =
    let journal = pre ++ (acts_bytes (act ∷ batch) ++ rest) in
    let then = at + length (act_bytes act) in
    first_act journal at act (placed_acts then batch) batch
    (λ doc t text same.
    ap (λ (l : List ℕ). take (length text) (drop (at + 17) (pre ++ l))) (append_assoc (act_bytes act) (acts_bytes batch) rest ∙ ap (λ (x : Act). act_bytes x ++ (acts_bytes batch ++ rest)) same)
    ∙ act_text pre at doc t text (acts_bytes batch ++ rest) is)
    (ap (λ (l : List ℕ). map (mapped (bytes_by l)) (placed_acts then batch)) (sym (behind_act pre act batch rest))
    ∙ acts_texts (pre ++ act_bytes act) then batch rest (omega (arith, is, length-append pre (act_bytes act))))

-- so it is where the batch's record stands
batch_texts : (pre : List ℕ) (gate : ℕ) (batch : List Act) (bodies : List (List ℕ)) (rest : List ℕ) → gate ≡ length pre
    → map (mapped (bytes_by (pre ++ (records (spelling (Batch batch) ∷ bodies) ++ rest)))) (placed_acts (gate + 10) batch) ≡ map change_by batch
unfolding batch_spelling
batch_texts pre gate batch bodies rest at =
    let len = to_be_bytes w32 (length (spelling (Batch batch))) in
    let front = batch_front (length batch) in
    let b = 165 ∷ (len ++ front) in
    let more = records bodies ++ rest in
    let is : pre ++ (records (spelling (Batch batch) ∷ bodies) ++ rest) ≡ (pre ++ b) ++ (acts_bytes batch ++ more) =
    ap (λ (l : List ℕ). pre ++ (((165 ∷ l) ++ records bodies) ++ rest)) (sym (append_assoc len front (acts_bytes batch)))
    ∙ ap (λ (l : List ℕ). pre ++ l) (append_assoc (b ++ acts_bytes batch) (records bodies) rest ∙ append_assoc b (acts_bytes batch) more)
    ∙ sym (append_assoc pre b (acts_bytes batch ++ more)) in
    ap (λ (l : List ℕ). map (mapped (bytes_by l)) (placed_acts (gate + 10) batch)) is
    ∙ acts_texts (pre ++ b) (gate + 10) batch (records bodies ++ rest) (omega (arith, at, length-append pre b, length-append len (batch_front (length batch))))

-- the changes of an entry are those with the places, where those of the entries behind it are
entry_texts : (journal : List ℕ) (gate : ℕ) (e : Entry) (h : History)
    → ((doc : DocId) (t : Time) (text : List ℕ) → e ≡ Arrive doc t text → take (length text) (drop (gate + 18) journal) ≡ text)
    → ((batch : List Act) → e ≡ Batch batch → map (mapped (bytes_by journal)) (placed_acts (gate + 10) batch) ≡ map change_by batch)
    → map (mapped (bytes_by journal)) (places (gate + 5 + length (spelling e)) h) ≡ changes h → map (mapped (bytes_by journal)) (places gate (e ∷ h)) ≡ changes (e ∷ h)
entry_texts journal gate (Arrive doc t text) h there these behind = let is = there doc t text refl in cc
entry_texts journal gate (Delete doc t) h there these behind = ap (λ (cs : List (Change (List ℕ))). record { doc = doc; at = t; held = None } ∷ cs) behind
entry_texts journal gate (Planned plan) h there these behind = behind
entry_texts journal gate Format h there these behind = behind
entry_texts journal gate (Batch batch) h there these behind =
    let then = gate + 5 + length (spelling (Batch batch)) in
    map-append (mapped (bytes_by journal)) (placed_acts (gate + 10) batch) (places then h) ∙ (λ i. these batch refl i ++ behind i)

-- so it is of all entries, wherever their records stand in the journal
places_texts : (pre : List ℕ) (gate : ℕ) (h : History) (rest : List ℕ) → gate ≡ length pre → map (mapped (bytes_by (pre ++ (records (bodies_of h) ++ rest)))) (places gate h) ≡ changes h
places_texts pre gate [] rest at = refl
places_texts pre gate (e ∷ h) rest at =
    let then = gate + 5 + length (spelling e) in
    let T : List ℕ → Type 0 = λ journal. map (mapped (bytes_by journal)) (places then h) ≡ changes h in
    entry_texts (pre ++ (records (bodies_of (e ∷ h)) ++ rest)) gate e h
    (λ doc t text is.
    let A : Entry → Type 0 = λ x. take (length text) (drop (gate + 18) (pre ++ (records (bodies_of (x ∷ h)) ++ rest))) ≡ text in
    subst A (sym is) (arrival_text pre gate doc t text (bodies_of h) rest at))
    (λ batch is.
    let A : Entry → Type 0 = λ x. map (mapped (bytes_by (pre ++ (records (bodies_of (x ∷ h)) ++ rest)))) (placed_acts (gate + 10) batch) ≡ map change_by batch in
    subst A (sym is) (batch_texts pre gate batch (bodies_of h) rest at))
    (subst T (behind_record pre (spelling e) (bodies_of h) rest)
    (places_texts (pre ++ record_bytes (spelling e)) then h rest (omega (arith, at, length-append pre (record_bytes (spelling e)), length_record (spelling e)))))

-- so it is in a journal that spells the history's bodies
spelled_texts : (journal : List ℕ) (h : History) → Spells journal (bodies_of h) → map (mapped (bytes_by journal)) (places 16 h) ≡ changes h
spelled_texts journal [] spelled = refl
spelled_texts journal (e ∷ h) (inl short) = absurd (omega (arith, ap length short.1))
spelled_texts journal (e ∷ h) (inr long) =
    let T : List ℕ → Type 0 = λ l. map (mapped (bytes_by l)) (places 16 (e ∷ h)) ≡ changes (e ∷ h) in
    let is : journal ≡ header ++ (records (bodies_of (e ∷ h)) ++ long.gate ∷ long.rest) = long.whole ∙ append_assoc header (records (bodies_of (e ∷ h))) (long.gate ∷ long.rest) in
    subst T (sym is) (places_texts header 16 (e ∷ h) (long.gate ∷ long.rest) (sym length-header))

pub texts_are : (journal : List ℕ) (h : History) (cs : List (Change TextPlace)) → Spells journal (bodies_of h) → ArePlaced 16 h cs → map (mapped (text_in journal)) cs ≡ changes h
texts_are journal h cs spelled placed =
    sym (pairs_texts journal cs) ∙ ap (λ (l : List (Change (ℕ × ℕ))). map (mapped (bytes_by journal)) l) placed ∙ spelled_texts journal h spelled
