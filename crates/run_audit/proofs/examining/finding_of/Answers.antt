use Rattle.std.proofs.Common.{◌≡◌, ◌⊎◌, ◌∙◌, ℕ, ap, sym, subst, [], length, Err, IsErrOf}
use Rattle.std.proofs.lemmas.List.Elements.{All-nil}
use Rattle.std.proofs.lemmas.Option.{MatchOption-at_some, MatchOption-at_none}
use Rattle.std.proofs.lemmas.Result.{IfOk-weaker}
use Rattle.machine_model.specs.Areas.{Bytes}
use Rattle.machine_model.specs.States.{DiskState}
use Rattle.machine_model.specs.declared.area.Area.TheVariants.{Pages}
use Rattle.pages_area.specs.Live.{AreLive, IsInside}
use Rattle.model_archive.specs.declared.stored.StoredPlan.{StoredPlan}
use Rattle.model_archive.specs.Plans.{live_extents}
use Rattle.archive_check.specs.declared.finding.Finding.{Finding}
use Rattle.model_archive.proofs.StandsLemmas.{not_archive_once}
use Rattle.archive_check.specs.Digests.{HasDigests, IsExamined}
use Rattle.archive_check.proofs.SoundLemmas.{new_sound}
use Rattle.run_audit.specs.declared.status.AuditStatus.{AuditStatus}
use Rattle.run_audit.specs.declared.status.AuditStatus.TheVariants.{NotArchive, Disk, Memory}
use Rattle.run_audit.proofs.AuditLemmas.{load_refused, rose_earlier}
use Rattle.run_audit.proofs.examining.finding_of.Goals as goal

pub returns-in-Err-clause-refused : goal.returns-in-Err-clause-refused
returns-in-Err-clause-refused g c = λ tells at refused.
    let P : AuditStatus → Type 0 = λ s. IsErrOf {T = Finding} (Err s) (NotArchive at) ⊎ (IsErrOf {T = Finding} (Err s) Disk ⊎ IsErrOf {T = Finding} (Err s) Memory) in
    subst P (sym c.from.ensures) (load_refused c.in-Err.error at (λ place is. not_archive_once (g.D.Disk.disk c.args.disk.now).holds place at (c.in-Err.ensures.not_archive tells place (ap Err is)) refused))

pub returns-in-Some-clause-only : goal.returns-in-Some-clause-only
returns-in-Some-clause-only g c = g.met.D.Disk.only_joins _ _ _ c.open.ensures.only c.examined.ensures.only

pub returns-in-Some-clause-failed : goal.returns-in-Some-clause-failed
returns-in-Some-clause-failed g c = λ is.
    rose_earlier (g.D.Disk.disk c.args.disk.now).faults (g.D.Disk.disk c.open.new.disk).faults (g.D.Disk.disk c.examined.new.disk).faults
    (g.met.D.Disk.only_faults c.args.disk.now c.open.new.disk c.open.ensures.only) (c.examined.ensures.failed is)

pub returns-in-Some-clause-refused : goal.returns-in-Some-clause-refused
returns-in-Some-clause-refused g c = λ tells at refused. absurd (c.in-Ok.ensures.exact tells at refused)

pub returns-in-Some-clause-found : goal.returns-in-Some-clause-found
returns-in-Some-clause-found g c = λ tells.
    let a = g.D.Disk.disk c.args.disk.now in
    let found = MatchOption-at_some _ _ _ c.in-Some.is (c.in-Ok.ensures.found tells) in
    let same : (g.D.Disk.disk c.open.new.disk).holds ≡ a.holds = ap (λ (d : DiskState). d.holds) c.open.ensures.same in
    let long : (g.D.Disk.disk c.open.new.disk).reach.pages ≡ length a.holds.pages = ap (λ (d : DiskState). d.reach.pages) c.open.ensures.same ∙ sym (g.met.D.Disk.reach_holds c.args.disk.now Pages tells) in
    IfOk-weaker c.examined.result _ _ (λ v is. let E : Bytes → Type 0 = λ b. IsExamined found.0 b v in
    record { loaded = found.0; loadable = found.1.0.loadable; spelled = found.1.1; live = subst (λ (n : ℕ). AreLive (live_extents found.0) n) long found.1.0.live; examined = subst E same is })
    (c.examined.ensures.examined tells found.0 found.1.0)

pub returns-in-None-clause-refused : goal.returns-in-None-clause-refused
returns-in-None-clause-refused g c = λ tells at refused. absurd (c.in-Ok.ensures.exact tells at refused)

pub returns-in-None-clause-found : goal.returns-in-None-clause-found
returns-in-None-clause-found g c = λ tells.
    let holds = (g.D.Disk.disk c.args.disk.now).holds in
    let checked = (new_sound holds).0 in
    record {
      loaded = [];
      loadable = tt;
      spelled = MatchOption-at_none _ _ c.in-None.is (c.in-Ok.ensures.found tells);
      live = (All-nil (IsInside (length holds.pages)), tt);
      examined = (checked.0, checked.1, (checked.2, λ sound. All-nil (λ (s : StoredPlan). HasDigests holds.pages s.plan)));
    }
