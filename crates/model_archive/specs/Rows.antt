-- Worked rows, which hold by computation: what the definitions say of small histories.
use Rattle.std.specs.Prelude.{◌≡◌, ℕ, List, [], ◌∷◌, ◌++◌, Some, None, replicate, codes, refl}
use Rattle.std.specs.Fmt.{digits}
use Rattle.std.specs.Str.{is_utf8, chars}
use Rattle.std.specs.Str.Lossy.{utf8_valid_len}
use lib.Utf8.{encode}
use Rattle.std.proofs.Common.{lit<, lit≤}
use Rattle.base_types.specs.declared.ids.DocId.{DocId}
use Rattle.base_types.specs.declared.time.Time.{Time}
use Rattle.journal_entries.specs.Spelling.{spelling}
use Rattle.journal_entries.specs.declared.entry.Entry.TheVariants as entries
use Rattle.journal_entries.specs.declared.place.Layout.TheVariants.{Blocks}
use Rattle.journal_entries.specs.declared.place.Place.{Place}
use Rattle.journal_entries.specs.declared.plan.PlanEntry.{PlanEntry}
use Rattle.journal_entries.specs.PlanSpelling.{plan_spelling}
use Rattle.model_archive.specs.declared.refusal.Refusal.TheVariants as refusals
use Rattle.model_archive.specs.Histories.{History, alive, end_of}
use Rattle.model_archive.specs.Planning.{last_second}
use Rattle.model_archive.specs.Plans.{live_plans, live_gates}
use Rattle.base_commands.specs.declared.command.Command.TheVariants.{Arrive}
use Rattle.base_commands.specs.declared.command.Item.{Item}
use Rattle.base_commands.specs.declared.command.Item.TheVariants as items
use Rattle.base_commands.specs.declared.command.Kind.TheVariants.{Guarantee}
use Rattle.base_commands.specs.declared.text.Text.TheVariants.{Bytes}
use Rattle.model_archive.specs.Steps.{Accepted, Refused, Planned, Verified, Step}
use Rattle.model_archive.specs.Replies.{reply_text}
use Rattle.model_archive.specs.Worlds.{World, world_of}
use Rattle.model_archive.specs.declared.verdict.Verdict.TheVariants.{Sound, Differs, NotLeast, BadText}

abbrev doc : ℕ → DocId
doc n = record { 0 = n }

-- an arrival of this text
abbrev arrival : ℕ → Time → List ℕ → Item
arrival n at text = items.Command (Arrive (doc n) at (Bytes text))

abbrev one_arrival : History
one_arrival = entries.Arrive (doc 7) (record { seconds = 10; before_now = lit< tt }) (codes "red a") ∷ []

abbrev arrived : World
arrived = world_of one_arrival

-- one arrival takes 18 bytes, and the journal ends at 40
spelled : spelling (entries.Arrive (doc 7) (record { seconds = 10; before_now = lit< tt }) (codes "red a"))
    ≡ 1 ∷ 0 ∷ 0 ∷ 0 ∷ 7 ∷ 0 ∷ 0 ∷ 0 ∷ 0 ∷ 0 ∷ 0 ∷ 0 ∷ 10 ∷ 114 ∷ 101 ∷ 100 ∷ 32 ∷ 97 ∷ []
spelled = refl

ends_at_40 : end_of one_arrival ≡ 40
ends_at_40 = refl

-- what arrived is refused when it comes again, and a document that is new may have an earlier version's time but none before the last
same_time_refused : Step arrived (arrival 7 (record { seconds = 10; before_now = lit< tt }) (codes "red a")) (Refused refusals.SameTime) arrived
unfolding is_utf8 chars encode
same_time_refused = ((refl, refl), refl, refl)

time_back_refused : Step arrived (arrival 8 (record { seconds = 5; before_now = lit< tt }) (codes "red")) (Refused (refusals.TimeBack (record { seconds = 10; before_now = lit< tt }))) arrived
unfolding is_utf8 chars encode
time_back_refused = ((refl, refl), refl, refl)

-- bytes that aren't UTF-8 are refused first, at the length of the front that is
bad_text_refused : Step arrived (arrival 9 (record { seconds = 5; before_now = lit< tt }) (97 ∷ 195 ∷ 40 ∷ [])) (Refused (refusals.BadText 1)) arrived
unfolding is_utf8 chars encode utf8_valid_len
bad_text_refused = ((refl, refl), refl, refl)

-- the version is alive from its time on
alive_from_ten : (alive one_arrival 9 ≡ []) × (alive one_arrival 10 ≡ (doc 7, codes "red a") ∷ [])
alive_from_ten = (refl, refl)

-- two replies as text
texts : (reply_text (Accepted 12) ≡ codes "ok 12" ++ 10 ∷ []) × (reply_text (Refused refusals.SameTime) ≡ codes "no 3 SameTime" ++ 10 ∷ [])
unfolding digits
texts = (refl, refl)

-- what a check tells as text: a byte has two digits, and one that is missing has none
verdict_texts : (reply_text (Verified (Sound 1 3)) ≡ codes "sound 1 3" ++ 10 ∷ [])
    × (reply_text (Verified (Differs (codes "v") 0 6 (Some 2) (Some 171))) ≡ codes "differs v 0 6 02 ab" ++ 10 ∷ [])
    × (reply_text (Verified (Differs (codes "v") 2 23 None (Some 240))) ≡ codes "differs v 2 23 -- f0" ++ 10 ∷ [])
    × (reply_text (Verified (NotLeast (codes "v") 5 4)) ≡ codes "notleast v 5 4" ++ 10 ∷ [])
    × (reply_text (Verified (BadText (doc 7) (record { seconds = 10; before_now = lit< tt }))) ≡ codes "badtext 7 10" ++ 10 ∷ [])
unfolding digits
verdict_texts = (refl, refl, refl, refl, refl)

-- document 1 has the word `v` in [10, 40), and document 2 in [20, 30)
abbrev four_changes : History
four_changes =
    entries.Arrive (doc 1) (record { seconds = 10; before_now = lit< tt }) (codes "v")
    ∷ entries.Arrive (doc 2) (record { seconds = 20; before_now = lit< tt }) (codes "v")
    ∷ entries.Delete (doc 2) (record { seconds = 30; before_now = lit< tt })
    ∷ entries.Delete (doc 1) (record { seconds = 40; before_now = lit< tt })
    ∷ []

last_is_40 : last_second four_changes ≡ 40
last_is_40 = refl

-- places of one page each: the first page, and the next one
abbrev page_0 : Place
page_0 = record { extent = record { first = 0; bytes = 48; in_pages = lit≤ tt; numbered = lit< tt; sized = lit< tt }; digest = replicate 32 0 }

abbrev page_1 : Place
page_1 = record { extent = record { first = 1; bytes = 48; in_pages = lit≤ tt; numbered = lit< tt; sized = lit< tt }; digest = replicate 32 0 }

-- a plan of a word for these places, whose last segment ends at 40
abbrev plan : List ℕ → List Place → PlanEntry
plan word places = record {
  word = word;
  layout = Blocks;
  kind = Guarantee;
  fraction = record { over = 2; under = 1; proper = lit≤ tt; at_least_one = lit≤ tt; in_range = lit< tt };
  horizon = record { seconds = 40; before_now = lit< tt };
  cuts = record { seconds = 10; before_now = lit< tt } ∷ [];
  places = places;
}

-- of two plans of one word the second is live; before its gate are the header and the changes (90 bytes), and the first plan (82)
second_is_live : live_plans (four_changes ++ entries.Planned (plan (codes "v") (page_0 ∷ [])) ∷ entries.Planned (plan (codes "v") (page_1 ∷ [])) ∷ [])
    ≡ record { gate = 172; plan = plan (codes "v") (page_1 ∷ []) } ∷ []
unfolding plan_spelling
second_is_live = refl

-- plans of two words are live both, in order
both_are_live : live_plans (four_changes ++ entries.Planned (plan (codes "v") (page_0 ∷ [])) ∷ entries.Planned (plan (codes "w") (page_1 ∷ [])) ∷ [])
    ≡ record { gate = 90; plan = plan (codes "v") (page_0 ∷ []) } ∷ record { gate = 172; plan = plan (codes "w") (page_1 ∷ []) } ∷ []
unfolding plan_spelling
both_are_live = refl

-- each place has the gate of its plan's entry, and a first entry has its gate behind the header
gates : (live_gates (entries.Planned (plan (codes "v") (page_0 ∷ page_1 ∷ [])) ∷ []) ≡ 16 ∷ 16 ∷ [])
    × (live_gates (four_changes ++ entries.Planned (plan (codes "v") (page_0 ∷ [])) ∷ entries.Planned (plan (codes "w") (page_1 ∷ [])) ∷ []) ≡ 90 ∷ 172 ∷ [])
unfolding plan_spelling
gates = (refl, refl)

-- the reply to a plan that is stored, and to a word that has none
plan_texts : (reply_text (Planned (record { length = 5; segments = 3; space = 4; full = 2; horizon = record { seconds = 40; before_now = lit< tt }; cost = None })) ≡ codes "plan 5 segments 3 space 4 full 2 horizon 40" ++ 10 ∷ [])
    × (reply_text (Planned (record { length = 5; segments = 1; space = 2; full = 2; horizon = record { seconds = 40; before_now = lit< tt }; cost = Some 60 })) ≡ codes "plan 5 segments 1 space 2 full 2 horizon 40 cost 60" ++ 10 ∷ [])
    × (reply_text (Refused refusals.NoPlan) ≡ codes "no 14 NoPlan" ++ 10 ∷ [])
unfolding digits
plan_texts = (refl, refl, refl)
