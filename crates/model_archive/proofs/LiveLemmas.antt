-- One entry more leaves what lies before the last time as it was: each live plan stays one that may be planned.
use Rattle.std.proofs.Common.{◌≡◌, ℕ, ◌+◌, ◌-◌, ◌<◌, ◌≤◌, Bool, true, false, nat_lt, List, [], ◌∷◌, ◌++◌, length, filter, All, Option, Some, None, refl, ap, sym, subst, ◌∙◌, arith, unwrap_or, append_assoc, sum_by}
use Rattle.std.specs.Option.{option_map, option_and_then}
use Rattle.std.proofs.lemmas.Bool.{ltb-false}
use Rattle.std.proofs.lemmas.List.{append-nil}
use Rattle.std.proofs.lemmas.List.Sums.{sum_by-cons}
use Rattle.std.proofs.lemmas.List.Elements.{All-nil, All-cons, All-append, All-filter, All-weaker}
use Rattle.base_types.specs.declared.ids.DocId.{DocId}
use Rattle.base_types.specs.declared.posting.Posting.{Posting}
use Rattle.base_types.specs.declared.time.Time.{Time}
use Rattle.lists_versions.specs.declared.change.Change.{Change}
use Rattle.lists_versions.specs.declared.refusal.VersionRefusal.TheVariants.{TimeBack}
use Rattle.lists_versions.specs.Changes.{last_time, held_at}
use Rattle.lists_versions.specs.Refusals.{time_back, arrive_refusal, delete_refusal}
use Rattle.lists_versions.specs.Tests.{when}
use Rattle.lists_versions.proofs.Valid.{held_at-later}
use Rattle.lists_versions.proofs.Latest.{last_time-push}
use Rattle.text_words.specs.Terms.{occurrences}
use Rattle.journal_entries.specs.Spelling.{spelling}
use Rattle.journal_entries.specs.Acts.{alone}
use Rattle.journal_entries.specs.declared.act.Act.{Act}
use Rattle.journal_entries.specs.declared.act.Act.TheVariants as batched
use Rattle.journal_entries.specs.declared.entry.Entry.{Entry}
use Rattle.journal_entries.specs.declared.entry.Entry.TheVariants.{Arrive, Delete, Planned, Format, Batch}
use Rattle.journal_entries.specs.declared.plan.PlanEntry.{PlanEntry}
use Rattle.plans_kinds.specs.Plans.{Asks}
use Rattle.model_archive.specs.Refusals.{refusal_of}
use Rattle.model_archive.specs.declared.stored.StoredPlan.{StoredPlan}
use Rattle.model_archive.specs.Histories.{History, changes, singles, entry_refusal, full_words, end_of}
use Rattle.model_archive.specs.Answers.{frequency_at}
use Rattle.model_archive.specs.Planning.{last_second, IsListUpTo}
use Rattle.model_archive.specs.Legal.{MayBePlanned, MayCome, EachMayCome, EachAllowed}
use Rattle.model_archive.specs.Plans.{is_another, with_entry, live_after, live_plans}
use Rattle.model_archive.proofs.HistoryLemmas.{changes-push}
use Rattle.model_archive.proofs.BatchLemmas.{none_found, none_mapped, batch_changes, batch_allowed}

-- a time that isn't back lies at or behind the last one
not_back : (at : Time) (last : Option Time) → option_and_then (λ (l : Time). when (nat_lt at.seconds l.seconds) (TimeBack l)) last ≡ None
    → unwrap_or (option_map (λ (t : Time). t.seconds) last) 0 ≤ at.seconds
not_back at None none = omega arith
not_back at (Some l) none = go (nat_lt at.seconds l.seconds) refl none
  where
    go : (b : Bool) → nat_lt at.seconds l.seconds ≡ b → when b (TimeBack l) ≡ None → l.seconds ≤ at.seconds
    go true same none = absurd cc
    go false same none = ltb-false at.seconds l.seconds same

arrival_later : (h : History) (doc : DocId) (at : Time) (text : List ℕ) → entry_refusal h (Arrive doc at text) ≡ None → last_second h ≤ at.seconds
arrival_later h doc at text allowed =
    let all = none_mapped refusal_of (arrive_refusal doc at (changes h)) (none_found _ (full_words h (Arrive doc at text) ∷ []) allowed).0 in
    not_back at (last_time (changes h)) (none_found (time_back at (changes h)) _ all).0

deletion_later : (h : History) (doc : DocId) (at : Time) → entry_refusal h (Delete doc at) ≡ None → last_second h ≤ at.seconds
deletion_later h doc at allowed =
    not_back at (last_time (changes h)) (none_found (time_back at (changes h)) _ (none_mapped refusal_of (delete_refusal doc at (changes h)) allowed)).0

-- a change at or behind the last time leaves the texts before it, and the last time doesn't fall
pub record IsLater (h next : History) : Type 0 where
  pub last : last_second h ≤ last_second next
  pub same : (word : List ℕ) (doc : DocId) (t : ℕ) → t < last_second h → frequency_at next word doc t ≡ frequency_at h word doc t

with_change : (h next : History) (c : Change (List ℕ)) → changes next ≡ changes h ++ c ∷ [] → last_second h ≤ c.at.seconds → IsLater h next
with_change h next c is later = record {
  last = omega (arith, later, ap (λ (o : Option Time). unwrap_or (option_map (λ (t : Time). t.seconds) o) 0) (ap last_time is ∙ last_time-push (changes h) c));
  same = λ word doc t early.
      ap (λ (o : Option (List ℕ)). unwrap_or (option_map (occurrences word) o) 0)
      (ap (held_at doc t) is ∙ held_at-later doc t (changes h) c (omega (arith, early, later)));
}

-- it is so of any history with the same changes
later_by : (h next other : History) → changes other ≡ changes next → IsLater h next → IsLater h other
later_by h next other is later = record {
  last = omega (arith, later.last, ap (λ (cs : List (Change (List ℕ))). unwrap_or (option_map (λ (t : Time). t.seconds) (last_time cs)) 0) is);
  same = λ word doc t early. ap (λ (cs : List (Change (List ℕ))). unwrap_or (option_map (occurrences word) (held_at doc t cs)) 0) is ∙ later.same word doc t early;
}

later_none : (h : History) → IsLater h h
later_none h = record { last = omega arith; same = λ word doc t early. refl }

later_then : (h mid next : History) → IsLater h mid → IsLater mid next → IsLater h next
later_then h mid next one more = record {
  last = omega (arith, one.last, more.last);
  same = λ word doc t early. more.same word doc t (omega (arith, early, one.last)) ∙ one.same word doc t early;
}

-- an act as an entry of its own
later_act : (h : History) (act : Act) → entry_refusal h (alone act) ≡ None → IsLater h (h ++ alone act ∷ [])
later_act h (batched.Arrive doc at text) allowed = with_change h (h ++ Arrive doc at text ∷ []) (record { doc = doc; at = at; held = Some text }) (changes-push h (Arrive doc at text)) (arrival_later h doc at text allowed)
later_act h (batched.Delete doc at) allowed = with_change h (h ++ Delete doc at ∷ []) (record { doc = doc; at = at; held = None }) (changes-push h (Delete doc at)) (deletion_later h doc at allowed)

later_acts : (h : History) (batch : List Act) → EachAllowed h (singles batch) → IsLater h (h ++ singles batch)
later_acts h [] allowed = subst (IsLater h) (sym (append-nil h)) (later_none h)
later_acts h (act ∷ batch) allowed =
    subst (IsLater h) (append_assoc h (alone act ∷ []) (singles batch))
    (later_then h (h ++ alone act ∷ []) ((h ++ alone act ∷ []) ++ singles batch) (later_act h act allowed.0) (later_acts (h ++ alone act ∷ []) batch allowed.1))

pub later_push : (h : History) (e : Entry) → entry_refusal h e ≡ None → IsLater h (h ++ e ∷ [])
later_push h (Arrive doc at text) allowed = later_act h (batched.Arrive doc at text) allowed
later_push h (Delete doc at) allowed = later_act h (batched.Delete doc at) allowed
later_push h (Planned plan) allowed = later_by h h (h ++ Planned plan ∷ []) (changes-push h (Planned plan) ∙ append-nil (changes h)) (later_none h)
later_push h Format allowed = later_by h h (h ++ Format ∷ []) (changes-push h Format ∙ append-nil (changes h)) (later_none h)
later_push h (Batch batch) allowed = later_by h (h ++ singles batch) (h ++ Batch batch ∷ []) (batch_changes h batch) (later_acts h batch (batch_allowed h batch allowed))

pub allowed_push : (before h : History) (e : Entry) → EachAllowed before h → entry_refusal (before ++ h) e ≡ None → EachAllowed before (h ++ e ∷ [])
allowed_push before [] e allowed next = (let P : History → Type 0 = λ g. entry_refusal g e ≡ None in subst P (append-nil before) next, tt)
allowed_push before (x ∷ h) e allowed next = (
  allowed.0,
  allowed_push (before ++ x ∷ []) h e allowed.1 (let P : History → Type 0 = λ g. entry_refusal g e ≡ None in subst P (sym (append_assoc before (x ∷ []) h)) next),
)

pub come_allowed : (Good : Asks) (before entries : History) → EachMayCome Good before entries → EachAllowed before entries
come_allowed Good before [] each = tt
come_allowed Good before (e ∷ entries) each = (each.0.allowed, come_allowed Good (before ++ e ∷ []) entries each.1)

pub later_all : (before entries : History) → EachAllowed before entries → IsLater before (before ++ entries)
later_all before [] allowed = subst (IsLater before) (sym (append-nil before)) (later_none before)
later_all before (e ∷ entries) allowed =
    subst (IsLater before) (append_assoc before (e ∷ []) entries)
    (later_then before (before ++ e ∷ []) ((before ++ e ∷ []) ++ entries) (later_push before e allowed.0) (later_all (before ++ e ∷ []) entries allowed.1))

pub list_later : (h next : History) (word : List ℕ) (horizon : ℕ) (list : List Posting) → IsLater h next → horizon ≤ last_second h → IsListUpTo h word horizon list → IsListUpTo next word horizon list
list_later h next word horizon list later past is = record {
  ordered = is.ordered;
  coalesced = is.coalesced;
  inside = is.inside;
  same = λ d t low high. is.same d t low high ∙ sym (later.same word (record { 0 = d }) t (omega (arith, high, past)));
}

-- a list up to a time in the past is that of a longer history, and the other way round
pub list_stays : (before entries : History) (word : List ℕ) (horizon : ℕ) (list : List Posting) → EachAllowed before entries → horizon ≤ last_second before
    → IsListUpTo before word horizon list → IsListUpTo (before ++ entries) word horizon list
list_stays before entries word horizon list allowed past is = list_later before (before ++ entries) word horizon list (later_all before entries allowed) past is

pub list_was : (before entries : History) (word : List ℕ) (horizon : ℕ) (list : List Posting) → EachAllowed before entries → horizon ≤ last_second before
    → IsListUpTo (before ++ entries) word horizon list → IsListUpTo before word horizon list
list_was before entries word horizon list allowed past is =
    let later = later_all before entries allowed in
    record {
      ordered = is.ordered;
      coalesced = is.coalesced;
      inside = is.inside;
      same = λ d t low high. is.same d t low high ∙ later.same word (record { 0 = d }) t (omega (arith, high, past));
    }

-- the live plans with one entry more
live_push : (gate at : ℕ) (live : List StoredPlan) (h : History) (e : Entry) → at ≡ gate + sum_by (λ (x : Entry). length (spelling x) + 5) h
    → live_after gate live (h ++ e ∷ []) ≡ with_entry at (live_after gate live h) e
live_push gate at live [] e is = ap (λ (n : ℕ). with_entry n live e) (omega (arith, is))
live_push gate at live (x ∷ h) e is =
    live_push (gate + 5 + length (spelling x)) at (with_entry gate live x) h e (omega (arith, is, sum_by-cons (λ (x : Entry). length (spelling x) + 5) x h))

pub live_plans-push : (h : History) (e : Entry) → live_plans (h ++ e ∷ []) ≡ with_entry (end_of h - 1) (live_plans h) e
live_plans-push h e = live_push 16 (end_of h - 1) [] h e (omega arith)

-- what may be planned may be planned later
module _ (Good : Asks) where
  pub planned_later : (h next : History) (plan : PlanEntry) → IsLater h next → MayBePlanned Good h plan → MayBePlanned Good next plan
  planned_later h next plan later may = record {
    past = omega (arith, may.past, later.last);
    list = may.list;
    list_is = list_later h next plan.word plan.horizon.seconds may.list later may.past may.list_is;
    some = may.some;
    suits = may.suits;
  }

  -- the same plans are live
  with_same : (before : History) (live : List StoredPlan) (e : Entry) → MayCome Good before e → All (λ stored. MayBePlanned Good before stored.plan) live → All (λ stored. MayBePlanned Good (before ++ e ∷ []) stored.plan) live
  with_same before live e may all = All-weaker (λ stored. MayBePlanned Good before stored.plan) (λ stored. MayBePlanned Good (before ++ e ∷ []) stored.plan)
      (λ stored was. planned_later before (before ++ e ∷ []) stored.plan (later_push before e may.allowed) was) live all

  with_one : (before : History) (gate : ℕ) (live : List StoredPlan) (e : Entry) → MayCome Good before e → All (λ stored. MayBePlanned Good before stored.plan) live
      → All (λ stored. MayBePlanned Good (before ++ e ∷ []) stored.plan) (with_entry gate live e)
  with_one before gate live (Arrive doc at text) may all = with_same before live (Arrive doc at text) may all
  with_one before gate live (Delete doc at) may all = with_same before live (Delete doc at) may all
  with_one before gate live Format may all = with_same before live Format may all
  with_one before gate live (Batch batch) may all = with_same before live (Batch batch) may all
  with_one before gate live (Planned plan) may all =
      let next = before ++ Planned plan ∷ [] in
      let later = later_push before (Planned plan) may.allowed in
      let P : StoredPlan → Type 0 = λ stored. MayBePlanned Good next stored.plan in
      let new : StoredPlan = record { gate = gate; plan = plan } in
      All-append P (filter (is_another plan.word) live) (new ∷ [])
      (All-filter (is_another plan.word) P live (All-weaker (λ stored. MayBePlanned Good before stored.plan) P (λ stored was. planned_later before next stored.plan later was) live all))
      (All-cons P new [] (planned_later before next plan later may.planned) (All-nil P))

  with_all : (before h : History) (gate : ℕ) (live : List StoredPlan) → EachMayCome Good before h → All (λ stored. MayBePlanned Good before stored.plan) live
      → All (λ stored. MayBePlanned Good (before ++ h) stored.plan) (live_after gate live h)
  with_all before [] gate live each all =
      let P : History → Type 0 = λ g. All (λ stored. MayBePlanned Good g stored.plan) live in subst P (sym (append-nil before)) all
  with_all before (e ∷ h) gate live each all =
      let P : History → Type 0 = λ g. All (λ stored. MayBePlanned Good g stored.plan) (live_after gate live (e ∷ h)) in
      subst P (append_assoc before (e ∷ []) h) (with_all (before ++ e ∷ []) h (gate + 5 + length (spelling e)) (with_entry gate live e) each.1 (with_one before gate live e each.0 all))

  -- each live plan of a history may be planned after it
  pub live_planned : (h : History) → EachMayCome Good [] h → All (λ stored. MayBePlanned Good h stored.plan) (live_plans h)
  live_planned h each = with_all [] h 16 [] each (All-nil (λ stored. MayBePlanned Good [] stored.plan))
