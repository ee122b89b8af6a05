-- Pushes, and reads between them, one after another.
use Rattle.std.proofs.Common.{◌≡◌, List, ℕ, [], ◌++◌, refl, ap, sym, subst, ◌∙◌, append_assoc}
use Rattle.std.proofs.lemmas.List.{append-nil}
use Rattle.machine_model.specs.Areas.{Bytes}
use Rattle.machine_model.specs.Calls.{OnlyReads}
use Rattle.machine_model.specs.Images.{MayLeave}
use Rattle.machine_model.specs.Moments.{LeftSince}
use Rattle.machine_model.specs.Pushes.{IsPrefix, IsSameBeside, OnlyShows}
use Rattle.machine_model.specs.States.{DiskState, moment}
use Rattle.machine_model.proofs.MomentLemmas.{allowed_left, goes_on_joins, goes_on_reads, joined, since_now}

pub prefix_join : (s t u : List ℕ) → IsPrefix s t → IsPrefix t u → IsPrefix s u
prefix_join s t u one more = (one.0 ++ more.0, more.1 ∙ ap (λ (l : List ℕ). l ++ more.0) one.1 ∙ append_assoc s one.0 more.0)

pub same_prefix : (s t : List ℕ) → s ≡ t → IsPrefix s t
same_prefix s t same = ([], sym same ∙ sym (append-nil s))

pub shows_join : (a b c : DiskState) (s t u : List ℕ) → OnlyShows a b s t → OnlyShows b c t u → OnlyShows a c s u
shows_join a b c s t u one more =
    let P : Bytes → List ℕ → Type 0 = λ image beside. MayLeave a.now image × IsPrefix s beside × IsPrefix beside u in
    record {
      goes_on = goes_on_joins one.goes_on more.goes_on;
      grows = prefix_join s t u one.grows more.grows;
      since = joined P one.goes_on
          (λ image beside left. let was = one.since image beside left in (was.0, was.1, prefix_join beside t u was.2 more.grows))
          more.goes_on
          (λ image beside left. let was = more.since image beside left in
          ((one.since image b.now.beside (allowed_left b (moment a) image was.0)).0, prefix_join s t beside one.grows was.1, was.2));
    }

-- reads show nothing
pub reads_show : (a b : DiskState) (s : List ℕ) → OnlyReads a b → a.now.beside ≡ s → OnlyShows a b s s
reads_show a b s reads same = record {
  goes_on = goes_on_reads a b reads;
  grows = same_prefix s s refl;
  since = λ image beside left.
      let was = since_now a image beside (subst (λ (d : DiskState). LeftSince d (moment a) image beside) reads left) in
      (was.0, same_prefix s beside (sym (was.1 ∙ same)), same_prefix beside s (was.1 ∙ same));
}

-- reads, and pushes behind them, leave what the disk has
pub reads_hold : (old new : DiskState) → OnlyReads old new → new.holds ≡ old.holds
reads_hold old new reads = ap (λ (d : DiskState). d.holds) reads

pub same_holds : (old mid new : DiskState) → OnlyReads old mid → IsSameBeside mid new → new.holds ≡ old.holds
same_holds old mid new reads same = ap (λ (d : DiskState). d.holds) same.same ∙ reads_hold old mid reads
