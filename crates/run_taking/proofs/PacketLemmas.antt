-- What comes of a packet: the entry that it has is there or is taken, or how the run ends says why not.
use Rattle.std.proofs.Common.{◌≡◌, ◌⊎◌, ℕ, suc, ◌+◌, ◌-◌, List, [], ◌∷◌, ◌++◌, length, Option, Some, None, Result, Ok, Err, inl, inr, refl, ap, sym, subst, ◌∙◌, arith}
use Rattle.std.proofs.lemmas.List.{length-map}
use Rattle.machine_model.specs.Areas.{Bytes}
use Rattle.machine_model.specs.Calls.{OnlyReads}
use Rattle.machine_model.specs.Images.{MayLeave}
use Rattle.machine_model.specs.States.{DiskState}
use Rattle.machine_model.proofs.MomentLemmas.{goes_on_joins, joined}
use Rattle.journal_bodies.specs.Numbered.{AreIn, NumberedState}
use Rattle.journal_entries.proofs.EntryLemmas.{one_entry}
use Rattle.journal_entries.specs.Spelling.{spelling}
use Rattle.journal_entries.specs.declared.entry.Entry.{Entry}
use Rattle.journal_gates.specs.Heads.{heads_of}
use Rattle.journal_gates.specs.Records.{first_gate}
use Rattle.journal_gates.specs.Windows.{IsView}
use Rattle.journal_gates.proofs.InStepLemmas.{step_spells}
use Rattle.journal_packets.specs.Cases.{IsNewCase}
use Rattle.journal_packets.specs.Packets.{Framed}
use Rattle.journal_packets.specs.declared.case.Case.{Case}
use Rattle.journal_packets.specs.declared.case.Case.TheVariants as cases
use Rattle.model_archive.specs.Histories.{History}
use Rattle.model_archive.specs.Stands.{bodies_of}
use Rattle.archive_hand.specs.Changing.{KeepsBy, LeadsBy}
use Rattle.archive_hand.specs.Jobs.{plain_job}
use Rattle.archive_hand.specs.declared.job.Job.{Job}
use Rattle.archive_hand.specs.States.{ArchiveState, AreInStepBy, CacheStands}
use Rattle.archive_hand.specs.Stored.{StandsBy, Store}
use Rattle.archive_hand.proofs.ByReadsLemmas.{keeps_leads, keeps_nowhere, keeps_reads, reads_by, stocks_none}
use Rattle.archive_hand.proofs.AddLemmas.{bodies_more}
use Rattle.model_follow.specs.Following.{Had, Took, note_text}
use Rattle.model_follow.specs.Taking.{MayBeTaken, SpellsNext}
use Rattle.archive_follow.specs.Taken.{Takes, TakesBody, TakesBy}
use Rattle.archive_follow.specs.declared.error.TakeEntryError.{TakeEntryError}
use Rattle.archive_follow.specs.declared.error.TakeEntryError.TheVariants as takes
use Rattle.run_taking.specs.Serving.{CameOf, ComesOfReading, IsCaseOf, IsFollowing, StoreFollows}
use Rattle.run_taking.specs.declared.ended.Ended.{Ended}
use Rattle.run_taking.specs.declared.ended.Ended.TheVariants as ends

-- ---- which case a packet is

pub new_case : (h : History) (p : Framed) (have : ℕ) (case : Case) → have ≡ length h → IsNewCase have p.number case → IsCaseOf h p case
new_case h p have cases.Had same is = absurd is
new_case h p have (cases.Conflict place kept got) same is = absurd is
new_case h p have cases.Gap same is = omega (arith, same, is)
new_case h p have cases.Next same is = is ∙ ap (λ (n : ℕ). n + 1) same

-- there are as many bodies as entries
count_heads : (gate : ℕ) (bodies : List (List ℕ)) → length (heads_of gate bodies) ≡ length bodies
count_heads gate [] = refl
count_heads gate (body ∷ bodies) = ap suc (count_heads (gate + 5 + length body) bodies)

pub as_many : (journal : List ℕ) (h : History) (numbered : NumberedState) → AreIn journal (bodies_of h) numbered → length numbered.heads ≡ length h
as_many journal h numbered are = ap length are.heads_are ∙ count_heads first_gate (bodies_of h) ∙ length-map h spelling

-- ---- a packet whose entry is there

-- reads of the journal leave an archive in step
pub in_step_read : (old new : DiskState) (a : ArchiveState) (s : Store) → OnlyReads old new → new.bytes_read.pages ≡ old.bytes_read.pages → AreInStepBy old a s → AreInStepBy new a s
in_step_read old new a s reads unread in_step =
    let holds : new.holds ≡ old.holds = ap (λ (d : DiskState). d.holds) reads in
    let t = reads_by s old new a a in_step reads refl (subst (λ (b : Bytes). CacheStands (record new { holds = b }) a) (sym holds) in_step.cached) in
    record {
      stands = in_step.stands;
      asked_are = in_step.asked_are;
      journal = t.journal;
      pages_are = t.pages_are;
      kept_are = in_step.kept_are;
      read_is = unread ∙ in_step.read_is;
      job_is = in_step.job_is;
      live = in_step.live;
      same = t.same;
      cached = t.cached;
    }

-- and one that follows
pub read_on : (s : Store) (old new : DiskState) (archive : ArchiveState) (was numbered : NumberedState) → IsFollowing old archive was s → OnlyReads old new → new.bytes_read.pages ≡ old.bytes_read.pages
    → AreIn old.holds.journal (bodies_of s.history) numbered → IsFollowing new archive numbered s
read_on s old new archive was numbered following reads unread bodies = record {
  in_step = in_step_read old new archive s reads unread following.in_step;
  idle = following.idle;
  bodies = subst (λ (b : Bytes). AreIn b.journal (bodies_of s.history) numbered) (sym (ap (λ (d : DiskState). d.holds) reads)) bodies;
}

pub had_by : (s : Store) (at : ℕ) (p : Framed) (old new : DiskState) (archive : ArchiveState) (was numbered : NumberedState) (page : List ℕ) → IsFollowing old archive was s → OnlyReads old new → new.bytes_read.pages ≡ old.bytes_read.pages
    → AreIn old.holds.journal (bodies_of s.history) numbered → IsCaseOf s.history p cases.Had → page ≡ note_text (Had p.number) → CameOf s at p (Ok tt) old new archive numbered page
had_by s at p old new archive was numbered page following reads unread bodies case page_is = (
  Had p.number,
  s,
  ((refl, case, refl), stocks_none s following.in_step.live),
  keeps_leads s s old new (keeps_reads old new archive s following.in_step reads),
  read_on s old new archive was numbered following reads unread bodies,
  page_is,
)

-- ---- a packet that ends the run, after its entry was to be read

-- its entry couldn't be read
pub unread_by : (s : Store) (at : ℕ) (p : Framed) (end : Ended) (old new : DiskState) (archive : ArchiveState) (was numbered : NumberedState) (page : List ℕ) → IsFollowing old archive was s → OnlyReads old new → ComesOfReading end
    → CameOf s at p (Err end) old new archive numbered page
unread_by s at p ends.Disk old new archive was numbered page following reads comes = inl (keeps_reads old new archive s following.in_step reads)
unread_by s at p ends.Memory old new archive was numbered page following reads comes = (keeps_reads old new archive s following.in_step reads, tt)
unread_by s at p other old new archive was numbered page following reads comes = absurd comes

pub gap_by : (s : Store) (at : ℕ) (p : Framed) (have : ℕ) (old new : DiskState) (archive : ArchiveState) (was numbered : NumberedState) (page : List ℕ) → IsFollowing old archive was s → OnlyReads old new → have ≡ length s.history
    → IsCaseOf s.history p cases.Gap → CameOf s at p (Err (ends.Gap have p.number)) old new archive numbered page
gap_by s at p have old new archive was numbered page following reads same case = (keeps_reads old new archive s following.in_step reads, (same, refl, case))

pub conflict_by : (s : Store) (at : ℕ) (p : Framed) (place : ℕ) (kept got : Option ℕ) (old new : DiskState) (archive : ArchiveState) (was numbered : NumberedState) (page : List ℕ) → IsFollowing old archive was s → OnlyReads old new
    → IsCaseOf s.history p (cases.Conflict place kept got) → CameOf s at p (Err (ends.Conflict p.number place kept got)) old new archive numbered page
conflict_by s at p place kept got old new archive was numbered page following reads case = (keeps_reads old new archive s following.in_step reads, (refl, case))

-- ---- calls in a row

keeps_behind : (s : Store) (old mid new : DiskState) → KeepsBy s old mid → mid.now.beside ≡ old.now.beside → KeepsBy s mid new → KeepsBy s old new
keeps_behind s old mid new early same late = record {
  goes_on = goes_on_joins early.goes_on late.goes_on;
  images = joined (λ image beside. StandsBy s image × (beside ≡ old.now.beside)) early.goes_on early.images late.goes_on (λ image beside left. let is = late.images image beside left in (is.0, is.1 ∙ same));
}

leads_behind : (s next : Store) (old mid new : DiskState) → KeepsBy s old mid → mid.now.beside ≡ old.now.beside → LeadsBy s next mid new → LeadsBy s next old new
leads_behind s next old mid new early same late = record {
  goes_on = goes_on_joins early.goes_on late.goes_on;
  images = joined (λ image beside. (StandsBy s image ⊎ StandsBy next image) × (beside ≡ old.now.beside)) early.goes_on (keeps_leads s next old mid early).images late.goes_on
      (λ image beside left. let is = late.images image beside left in (is.0, is.1 ∙ same));
}

-- what comes of a packet behind reads comes of it
pub came_behind : (s : Store) (at : ℕ) (p : Framed) (result : Result (Unit {0}) Ended) (old mid new : DiskState) (archive archive_now : ArchiveState) (was numbered : NumberedState) (page : List ℕ) → IsFollowing old archive was s → OnlyReads old mid
    → CameOf s at p result mid new archive_now numbered page → CameOf s at p result old new archive_now numbered page
came_behind s at p result old mid new archive archive_now was numbered page following reads came = go result came
  where
    keeps : KeepsBy s old mid
    keeps = keeps_reads old mid archive s following.in_step reads

    same : mid.now.beside ≡ old.now.beside
    same = ap (λ (d : DiskState). d.now.beside) reads

    go : (r : Result (Unit {0}) Ended) → CameOf s at p r mid new archive_now numbered page → CameOf s at p r old new archive_now numbered page
    go (Ok done) (note, next, follows, leads, after, page_is) = (note, next, follows, leads_behind s next old mid new keeps same leads, after, page_is)
    go (Err ends.Disk) (inl late) = inl (keeps_behind s old mid new keeps same late)
    go (Err ends.Disk) (inr (note, next, follows, leads)) = inr (note, next, follows, leads_behind s next old mid new keeps same leads)
    go (Err ends.Memory) (late, is) = (keeps_behind s old mid new keeps same late, is)
    go (Err (ends.Gap have got)) (late, is) = (keeps_behind s old mid new keeps same late, is)
    go (Err (ends.Conflict number place kept got)) (late, is) = (keeps_behind s old mid new keeps same late, is)
    go (Err (ends.Packet place)) (late, is) = (keeps_behind s old mid new keeps same late, is)
    go (Err other) x = absurd x.1

-- ---- a packet whose number comes next

-- what is taken is the packet's entry
followed : (s next : Store) (p : Framed) (old new : DiskState) → Takes s next p.body old new → SpellsNext s.history p.body → p.number ≡ length s.history + 1 → StoreFollows s p (Took p.number) next
followed s next p old new took may counted =
    let (entry, spelled, taken) = may in
    let same : entry ≡ took.entry = one_entry entry took.entry taken.legal.ranges took.ranges (sym spelled ∙ took.spelled) in (
      (refl, counted, (took.entry, took.spelled, subst (λ (e : Entry). MayBeTaken s.history e) same taken, took.next_is)),
      took.stocks,
    )

-- where it was taken the bodies have its bytes behind the others
taken_bodies : (s next : Store) (p : Framed) (old new : DiskState) (archive archive_now : ArchiveState) (was numbered : NumberedState) → MayLeave new.now new.holds → IsFollowing old archive was s → Takes s next p.body old new → AreInStepBy new archive_now next
    → (numbered.heads ≡ heads_of first_gate (bodies_of s.history ++ p.body ∷ [])) → ((bytes : List ℕ) → IsView numbered.window bytes) → AreIn new.holds.journal (bodies_of next.history) numbered
taken_bodies s next p old new archive archive_now was numbered allowed following took in_step heads view = record {
  spelled = step_spells new archive_now.end (bodies_of next.history) in_step.journal new.holds allowed;
  heads_are = heads ∙ ap (heads_of first_gate) (bodies_more s.history took.entry p.body took.spelled ∙ sym (ap bodies_of took.next_is));
  view = view new.holds.journal;
}

-- no plan is being written
none_plain : (job : Option Job) → plain_job job ≡ None → job ≡ None
none_plain None is = refl
none_plain (Some job) is = absurd cc

pub is_idle : (d : DiskState) (archive : ArchiveState) (numbered : NumberedState) (s : Store) → IsFollowing d archive numbered s → archive.job ≡ None
is_idle d archive numbered s following = none_plain archive.job (following.in_step.job_is ∙ following.idle)

-- how a run ends by why an entry wasn't taken
abbrev pub end_of_take : ℕ → TakeEntryError → Ended
end_of_take at takes.NotNext = ends.Packet at
end_of_take at takes.Failed = ends.Disk
end_of_take at takes.Memory = ends.Memory

pub took_by : (s : Store) (at : ℕ) (p : Framed) (n : ℕ) (old new : DiskState) (archive archive_now : ArchiveState) (was numbered : NumberedState) → MayLeave new.now new.holds → IsFollowing old archive was s → p.number ≡ length s.history + 1
    → TakesBody s.history p.body (Ok n) archive_now → TakesBy s p.body (Ok n) old new archive_now → (numbered.heads ≡ heads_of first_gate (bodies_of s.history ++ p.body ∷ [])) → ((bytes : List ℕ) → IsView numbered.window bytes)
    → CameOf s at p (Ok tt) old new archive_now numbered (note_text (Took p.number))
took_by s at p n old new archive archive_now was numbered allowed following counted body (next, took, in_step) heads view = (
  Took p.number,
  next,
  followed s next p old new took (body.allowed (inl refl)) counted,
  took.leads,
  record { in_step = in_step; idle = took.job_is ∙ following.idle; bodies = taken_bodies s next p old new archive archive_now was numbered allowed following took in_step heads view },
  refl,
)

pub untaken_by : (s : Store) (at : ℕ) (p : Framed) (error why : TakeEntryError) (bytes : List ℕ) (old new : DiskState) (archive archive_now : ArchiveState) (was numbered : NumberedState) (page : List ℕ) → IsFollowing old archive was s → p.number ≡ length s.history + 1 → why ≡ error → bytes ≡ p.body
    → TakesBody s.history bytes (Err why) archive_now → TakesBy s bytes (Err why) old new archive_now → (error ≡ takes.NotNext → new ≡ old) → CameOf s at p (Err (end_of_take at error)) old new archive_now numbered page
untaken_by s at p error why bytes old new archive archive_now was numbered page following counted is same body by still =
    let P : TakeEntryError → List ℕ → Type 0 = λ e b. TakesBody s.history b (Err e) archive_now × TakesBy s b (Err e) old new archive_now in
    let both : P error p.body = subst (λ (e : TakeEntryError). P e p.body) is (subst (λ (b : List ℕ). P why b) same (body, by)) in
    go error both.0 both.1 still
  where
    go : (e : TakeEntryError) → TakesBody s.history p.body (Err e) archive_now → TakesBy s p.body (Err e) old new archive_now → (e ≡ takes.NotNext → new ≡ old) → CameOf s at p (Err (end_of_take at e)) old new archive_now numbered page
    go takes.NotNext body by still = (subst (λ (d : DiskState). KeepsBy s old d) (sym (still refl)) (keeps_nowhere old archive s following.in_step), (refl, (counted, (body.refused refl).0)))
    go takes.Failed body (inl keeps) still = inl keeps
    go takes.Failed body (inr (next, took)) still = inr (Took p.number, next, followed s next p old new took (body.allowed (inr refl)) counted, took.leads)
    go takes.Memory body by still = (by, tt)
