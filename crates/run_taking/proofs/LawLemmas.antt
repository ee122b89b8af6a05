-- What holds of a run whose bytes are those of a leader.
use Rattle.std.proofs.Common.{◌≡◌, ℕ, ◌++◌, Bool, List, length, inl, inr, subst}
use Rattle.journal_packets.specs.Packets.{Framed, first}
use Rattle.journal_packets.specs.Streams.{IsStreamOf, stream}
use Rattle.journal_packets.specs.declared.first.First.TheVariants.{Bad}
use Rattle.model_archive.specs.Histories.{History}
use Rattle.model_archive.specs.Standing.{last_state}
use Rattle.model_archive.specs.Stands.{bodies_of}
use Rattle.model_follow.specs.Following.{BeginWith, CannotBeTaken, DiffersAt}
use Rattle.model_follow.specs.Laws.{FollowersOfALeader}
use Rattle.run_taking.specs.Following.{EndsAt}
use Rattle.run_taking.specs.Laws.{RunsKeepToTheLeader}
use Rattle.run_taking.specs.declared.ended.Ended.{Ended}

begin_so : (P Q : Framed → Type 0) (packets : List Framed) → ((p : Framed) → P p → Q p) → BeginWith packets P → BeginWith packets Q
begin_so P Q packets so (p, others, is, holds) = (p, others, is, so p holds)

pub keeps_to_the_leader : FollowersOfALeader → RunsKeepToTheLeader
keeps_to_the_leader law leader history end input input_now output output_now pulls can goes ran to_come streams =
    let h : History = last_state history ran.outcomes in
    let read : IsStreamOf (bodies_of leader) ((stream (ran.carried ++ ran.behind) ++ ran.rest) ++ to_come) =
    subst (λ (l : List ℕ). IsStreamOf (bodies_of leader) (l ++ to_come)) ran.split streams in
    let so = law leader history ran.carried ran.behind ran.rest to_come ran.outcomes can goes ran.proper ran.run read in
    let E : Ended → Type 0 = λ e. EndsAt e h (length (stream ran.carried)) (length ran.pulled) ran.ended ran.behind ran.rest in (
      so.0,
      λ number place kept got is.
          so.1 place kept got (begin_so (λ p. (number ≡ p.number) × DiffersAt h place kept got p) (DiffersAt h place kept got) ran.behind (λ p both. both.1) (subst E is ran.ends)),
      λ at is. elim (subst E is ran.ends) [
        | inl (place, none, bad) ↦ (none, so.3 ran.ended bad, subst (λ (b : Bool). first b ran.rest ≡ Bad) (so.3 ran.ended bad) bad)
        | inr next ↦ absurd (so.2 (begin_so (λ p. (at ≡ length (stream ran.carried)) × CannotBeTaken h p) (CannotBeTaken h) ran.behind (λ p both. both.1) next))
      ],
    )
