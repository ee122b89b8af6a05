-- Each item is answered: no reply to it is the one that says nothing.
use Rattle.std.proofs.Common.{◌≡◌, ◌⊎◌, refl, ℕ, Bool, true, false, inl, inr, length, List, Option, Some, None, Ok, Err, ap, is_some, nat_lt, subst, sym, ◌∙◌}
use Rattle.std.specs.List.{flat_map}
use Rattle.base_types.specs.declared.fraction.Fraction.{Fraction}
use Rattle.base_types.specs.declared.posting.Posting.{Posting}
use Rattle.base_types.specs.declared.time.Time.{Time}
use Rattle.base_types.specs.declared.tolerance.Tolerance.{Tolerance}
use Rattle.lists_approx.specs.Approximations.{IsLongestFirst}
use Rattle.base_commands.specs.declared.batch.BatchItems.TheVariants as batches
use Rattle.base_commands.specs.declared.command.Command.{Command}
use Rattle.base_commands.specs.declared.command.Command.TheVariants as commands
use Rattle.base_commands.specs.declared.command.Item.{Item}
use Rattle.base_commands.specs.declared.command.Item.TheVariants as items
use Rattle.base_commands.specs.declared.command.Kind.{Kind}
use Rattle.base_commands.specs.declared.command.Kind.TheVariants.{Guarantee, Uniform, Since}
use Rattle.base_commands.specs.declared.count.BestCount.{BestCount}
use Rattle.base_commands.specs.declared.text.Text.TheVariants as texts
use Rattle.text_words.specs.Terms.{one_term}
use Rattle.query_lang.specs.Chains.{asks_for_any}
use Rattle.query_lang.specs.Grammar.{Query}
use Rattle.plans_share.specs.declared.asked.Asking.{Asking}
use Rattle.journal_entries.specs.declared.entry.Entry.{Entry}
use Rattle.journal_entries.specs.declared.entry.Entry.TheVariants as entries
use Rattle.journal_entries.specs.declared.plan.PlanEntry.{PlanEntry}
use Rattle.model_archive.specs.declared.refusal.Refusal.{Refusal}
use Rattle.model_archive.specs.declared.refusal.Refusal.TheVariants as refusals
use Rattle.model_archive.specs.declared.sharing.Share.{Share}
use Rattle.model_archive.specs.Histories.{History}
use Rattle.model_archive.specs.Answers.{IsWordList}
use Rattle.model_archive.specs.Planning.{OfTerm, last_second}
use Rattle.model_archive.specs.Plans.{plan_of}
use Rattle.model_archive.specs.Sharing.{IsShared}
use Rattle.model_archive.specs.Steps.{Reply, Approximated, Refused, RefusedIn, Shared, Silent, Adds, AddsBatch, AddsPlan, Approximates, Bests, BestsBy, Begins, CarriesOut, Cause, Certifies, CertifiesLive, CertifiesPlan, ChoosesPlan, Declines, FindsBy, Idles, IsNoDisjunction, IsReplied, NearsBy, OfIdle, OfStill, Proposes, ProposesPlan, Finishes, Shares, SpansBy, Step, StoresPlan, TakesOn, TopsBy, Works, WorksAt, WorksOn, act_of, arrival_refusal, batch_cause, deletion_refusal, full_journal, in_blocks, mark_refusal, refused_for, spelled_key, stint_pages}
use Rattle.model_archive.specs.Worlds.{Job, World, at_work}
use Rattle.model_archive.proofs.PlanningLemmas.{of_phrase}
use Rattle.model_archive.proofs.SharingLemmas.{of_phrases}
use Rattle.model_archive.proofs.StoringLemmas.{idle_keeps, still_keeps}

-- the reply isn't the one that says nothing
abbrev pub Speaks : Reply → Type 0
Speaks Silent = ⊥
Speaks other = Unit {0}

pub silent_or : (reply : Reply) → (reply ≡ Silent) ⊎ Speaks reply
silent_or Silent = inl refl
silent_or reply = inr tt

pub says : (reply other : Reply) → reply ≡ other → Speaks other → Speaks reply
says reply other is speaks = subst Speaks (sym is) speaks

adds : (h : History) (e : Entry) (refusal : Option Refusal) (reply : Reply) (next : History) → Adds h e refusal reply next → Speaks reply
adds h e None reply next is = says reply _ is.1 tt
adds h e (Some why) reply next is = says reply _ is.1 tt

adds_batch : (h : History) (e : Entry) (cause : Option Cause) (reply : Reply) (next : History) → AddsBatch h e cause reply next → Speaks reply
adds_batch h e None reply next is = says reply _ is.1 tt
adds_batch h e (Some cause) reply next is = go cause.index is.1
  where
    go : (index : Option ℕ) → reply ≡ refused_for cause.why index → Speaks reply
    go None is = says reply _ is tt
    go (Some index) is = says reply _ is tt

replied : (Finds : Query → Reply → Type 0) → ((query : Query) (reply : Reply) → Finds query reply → Speaks reply) → (text : List ℕ) (reply : Reply) → IsReplied Finds text reply → Speaks reply
replied Finds each text reply (Ok query, read, finds) = each query reply finds
replied Finds each text reply (Err place, read, is) = says reply _ is tt

bests : (b : Bool) (h : History) (count : BestCount) (at : Time) (text : List ℕ) (reply : Reply) → Bests b h count at text reply → Speaks reply
bests true h count at text reply is = replied (BestsBy h count at) (λ query reply by. says reply _ by.7 tt) text reply is
bests false h count at text reply is = replied IsNoDisjunction (λ query reply by. says reply _ by tt) text reply is

of_term : (h : History) (reply : Reply) (key : Option (List ℕ)) (GoesOn : List ℕ → Type 0) → ((word : List ℕ) → GoesOn word → Speaks reply) → OfTerm h key (λ why. reply ≡ Refused why) GoesOn → Speaks reply
of_term h reply None GoesOn goes is = says reply _ is tt
of_term h reply (Some word) GoesOn goes (inl unknown) = says reply _ unknown.1 tt
of_term h reply (Some word) GoesOn goes (inr known) = goes word known.1

certifies : (h : History) (plan : Option PlanEntry) (reply : Reply) → CertifiesLive h plan reply → Speaks reply
certifies h None reply is = says reply _ is tt
certifies h (Some plan) reply is = go plan.kind is
  where
    go : (kind : Kind) → CertifiesPlan h plan kind reply → Speaks reply
    go Guarantee is = says reply _ is.2.4 tt
    go Uniform is = says reply _ is tt
    go (Since at) is = says reply _ is tt

adds_plan : (h : History) (plan : PlanEntry) (refusal : Option Refusal) (list : List Posting) (reply : Reply) (next : History) → AddsPlan h plan refusal list reply next → Speaks reply
adds_plan h plan None list reply next is = says reply _ is.1.2 tt
adds_plan h plan (Some why) list reply next is = says reply _ is.1 tt

chooses : (job : Option Job) (h : History) (kind : Kind) (factor : Fraction) (word : List ℕ) (list : List Posting) (reply : Reply) (Refuses : Refusal → Type 0) (GoesOn : PlanEntry → Type 0)
    → ((why : Refusal) → Refuses why → Speaks reply) → ((plan : PlanEntry) → GoesOn plan → Speaks reply) → ChoosesPlan job h kind factor word list Refuses GoesOn → Speaks reply
chooses job h kind factor word list reply Refuses GoesOn refused goes s = elim s.stores [
  | inl full ↦ refused _ full.1
  | inr fits ↦ goes (in_blocks word kind factor s.horizon s.cuts fits.0) fits.3
]

takes_on : (w : World) (plan : PlanEntry) (refusal : Option Refusal) (list : List Posting) (reply : Reply) (next : World) → TakesOn w plan refusal list reply next → Speaks reply
takes_on w plan None list reply next is = says reply _ is.1 tt
takes_on w plan (Some why) list reply next is = says reply _ is.1 tt

-- what is told of a word
pub approximates_speak : (h : History) (word : List ℕ) (tolerance : Tolerance) (reply : Reply) → Approximates h word tolerance reply → Speaks reply
approximates_speak h word tolerance reply is =
    of_term h reply (one_term word) (λ word. (whole short : List Posting) × IsWordList h word whole × IsLongestFirst tolerance whole short × (reply ≡ Approximated short (length whole))) (λ word told. says reply _ told.4 tt) is

pub proposes_speak : (h : History) (word : List ℕ) (factor : Fraction) (reply : Reply) → Proposes h word factor reply → Speaks reply
proposes_speak h word factor reply is =
    of_phrase Guarantee h (Speaks reply) (λ why. reply ≡ Refused why) (λ word list. ProposesPlan factor (last_second h) list reply) (one_term word) (λ why e. says reply _ e tt) (λ word list term is some told. says reply _ told.4 tt) is

pub certifies_speak : (h : History) (word : List ℕ) (reply : Reply) → Certifies h word reply → Speaks reply
certifies_speak h word reply is = of_term h reply (one_term word) (λ word. CertifiesLive h (plan_of h word) reply) (λ word told. certifies h (plan_of h word) reply told) is

pub shares_speak : (asked : List Asking) (h : History) (words : List (List ℕ)) (factor : Fraction) (reply : Reply) → Shares asked h words factor reply → Speaks reply
shares_speak asked h words factor reply is =
    of_phrases h (Speaks reply) (λ number why. reply ≡ RefusedIn why number) (λ number why e. says reply _ e tt) words 1
    (λ words. (shares : List Share) × (unit budget cost : ℕ) × IsShared asked (last_second h) factor words shares unit budget cost × (reply ≡ Shared shares unit budget cost)) (λ words told. says reply _ told.5 tt) is

pub begins_speak : (w : World) (phrase : List ℕ) (factor : Fraction) (reply : Reply) (next : World) → Begins w phrase factor reply next → Speaks reply
begins_speak w phrase factor reply next is =
    let D : Refusal → Type 0 = λ why. Idles w why reply next in
    let A : List Posting → PlanEntry → Type 0 = λ list plan. TakesOn w plan (full_journal w.history (entries.Planned plan)) list reply next in
    let declined : (why : Refusal) → D why → Speaks reply = λ why idles. says reply _ idles.1 tt in
    of_phrase Guarantee w.history (Speaks reply) D (λ word list. OfIdle w.job word D (ChoosesPlan w.job w.history Guarantee factor word list D (A list))) (spelled_key (one_term phrase)) declined
    (λ word list term is some of. idle_keeps (Speaks reply) D (ChoosesPlan w.job w.history Guarantee factor word list D (A list)) declined
    (λ chosen. chooses w.job w.history Guarantee factor word list reply D (A list) declined (λ plan taken. takes_on w plan (full_journal w.history (entries.Planned plan)) list reply next taken) chosen) w.job word of) is

-- a command's reply
pub carries_speak : (asked : List Asking) (job : Option Job) (h : History) (c : Command) (reply : Reply) (next : History) → CarriesOut asked job h c reply next → Speaks reply
carries_speak asked job h (commands.Arrive doc at (texts.Bytes text)) reply next is = adds h (entries.Arrive doc at text) (arrival_refusal h doc at text) reply next is
carries_speak asked job h (commands.Arrive doc at (texts.TooLong bytes)) reply next is = says reply _ is.1 tt
carries_speak asked job h (commands.Delete doc at) reply next is = adds h (entries.Delete doc at) (deletion_refusal h doc at) reply next is
carries_speak asked job h commands.Format reply next is = adds h entries.Format (mark_refusal h) reply next is
carries_speak asked job h (commands.Batch (batches.Items all)) reply next is = adds_batch h (entries.Batch (flat_map act_of all)) (batch_cause h all) reply next is
carries_speak asked job h (commands.Batch (batches.TooLong bytes)) reply next is = says reply _ is.1 tt
carries_speak asked job h (commands.Find at expr) reply next is = replied (FindsBy h at) (λ query reply by. says reply _ by.4 tt) expr reply is.1
carries_speak asked job h (commands.Top count at expr) reply next is = replied (TopsBy h count at) (λ query reply by. says reply _ by.4 tt) expr reply is.1
carries_speak asked job h (commands.Approx word tolerance) reply next is = approximates_speak h word tolerance reply is.1
carries_speak asked job h (commands.Rough tolerance at expr) reply next is = replied (NearsBy h tolerance at) (λ query reply by. says reply _ by.4 tt) expr reply is.1
carries_speak asked job h (commands.Best count at expr) reply next is = bests (asks_for_any expr) h count at expr reply is.1
carries_speak asked job h (commands.Show doc at) reply next is = says reply _ is.1 tt
carries_speak asked job h (commands.Plan word kind factor) reply next is =
    of_phrase kind h (Speaks reply) (λ why. Declines h why reply next) (λ word list. OfStill job word (λ why. Declines h why reply next) (StoresPlan job h kind factor word list reply next)) (spelled_key (one_term word)) (λ why declines. says reply _ declines.1 tt)
    (λ word list term is some of. still_keeps (Speaks reply) (λ why. Declines h why reply next) (StoresPlan job h kind factor word list reply next) (λ why declines. says reply _ declines.1 tt)
    (λ stores. chooses job h kind factor word list reply (λ why. Declines h why reply next) (λ plan. AddsPlan h plan (full_journal h (entries.Planned plan)) list reply next) (λ why declines. says reply _ declines.1 tt)
    (λ plan added. adds_plan h plan (full_journal h (entries.Planned plan)) list reply next added) stores) job word of) is
carries_speak asked job h (commands.Propose word factor) reply next is = proposes_speak h word factor reply is.1
carries_speak asked job h (commands.Between span expr) reply next is = replied (SpansBy h span) (λ query reply by. says reply _ by.4 tt) expr reply is.1
carries_speak asked job h (commands.Certificate word) reply next is = certifies_speak h word reply is.1
carries_speak asked job h commands.Verify reply next is = says reply _ is.1.2 tt
carries_speak asked job h (commands.Share factor words) reply next is = shares_speak asked h words factor.fraction reply is.1
carries_speak asked job h other reply next is = says reply _ is.1 tt

-- an item's
pub step_speaks : (w : World) (item : Item) (reply : Reply) (next : World) → Step w item reply next → Speaks reply
step_speaks w (items.Command (commands.Begin word factor)) reply next is = begins_speak w word factor reply next is
step_speaks w (items.Command c) reply next is = carries_speak w.asked w.job w.history c reply next.history is.0
step_speaks w items.Line reply next is = says reply _ is.1 tt

-- ---- work goes on

-- no item ends it
taken_works : (w : World) (plan : PlanEntry) (refusal : Option Refusal) (list : List Posting) (reply : Reply) (next : World) → TakesOn w plan refusal list reply next → at_work w ≡ true → at_work next ≡ true
taken_works w plan None list reply next is working = ap at_work is.0
taken_works w plan (Some why) list reply next is working = ap at_work is.0 ∙ working

pub begun_works : (w : World) (phrase : List ℕ) (factor : Fraction) (reply : Reply) (next : World) → Begins w phrase factor reply next → at_work w ≡ true → at_work next ≡ true
begun_works w phrase factor reply next is working =
    let D : Refusal → Type 0 = λ why. Idles w why reply next in
    let A : List Posting → PlanEntry → Type 0 = λ list plan. TakesOn w plan (full_journal w.history (entries.Planned plan)) list reply next in
    let declined : (why : Refusal) → D why → at_work next ≡ true = λ why idles. ap at_work idles.0 ∙ working in
    of_phrase Guarantee w.history (at_work next ≡ true) D (λ word list. OfIdle w.job word D (ChoosesPlan w.job w.history Guarantee factor word list D (A list))) (spelled_key (one_term phrase)) declined
    (λ word list term is some of. idle_keeps (at_work next ≡ true) D (ChoosesPlan w.job w.history Guarantee factor word list D (A list)) declined
    (λ s. elim s.stores [
      | inl full ↦ declined _ full.1
      | inr fits ↦ (let plan = in_blocks word Guarantee factor s.horizon s.cuts fits.0 in taken_works w plan (full_journal w.history (entries.Planned plan)) list reply next fits.3 working)
    ]) w.job word of) is

pub step_works : (w : World) (item : Item) (reply : Reply) (next : World) → Step w item reply next → at_work w ≡ true → at_work next ≡ true
step_works w (items.Command (commands.Begin word factor)) reply next is working = begun_works w word factor reply next is working
step_works w (items.Command c) reply next is working = ap is_some is.2 ∙ working
step_works w items.Line reply next is working = ap at_work is.0 ∙ working

-- and what says nothing leaves some to be done
pub silent_works : (old new : World) → Works old Silent new → at_work new ≡ true
silent_works old new works = go old.job works
  where
    last : (job : Job) (refusal : Option Refusal) → Finishes old job refusal Silent new → at_work new ≡ true
    last job None is = absurd cc
    last job (Some why) is = absurd cc

    by : (b : Bool) (job : Job) → WorksOn b old job Silent new → at_work new ≡ true
    by true job is = ap at_work is.0
    by false job is = last job (full_journal old.history (entries.Planned job.plan)) is

    go : (o : Option Job) → WorksAt old o Silent new → at_work new ≡ true
    go None works = absurd works
    go (Some job) works = by (nat_lt stint_pages job.left) job works
