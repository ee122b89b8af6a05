-- A call of a reader so far.
use Rattle.std.specs.Prelude.{◌≡◌, ℕ, ◌+◌, ◌<◌, ◌^◌, false, List, ◌++◌, length, All, Result, Err, IfErr}
use Rattle.std.proofs.Common.{arith, ap, sym, ◌∙◌, subst, append_assoc, append-nil}
use Rattle.std.proofs.lemmas.List.Elements.{All-append, All-weaker}
use Rattle.journal_packets.specs.declared.first.First.TheVariants.{More, Bad}
use Rattle.journal_packets.specs.declared.error.PacketError.{PacketError}
use Rattle.journal_packets.specs.declared.error.PacketError.TheVariants as errors
use Rattle.journal_packets.specs.Packets.{first}
use Rattle.journal_packets.specs.Reading.{PacketsState, taken, Holds, IsAwaited, Goes, Answers, IsPullError}

-- where more is wanted, the bytes at the start were no packet unless something was pulled
pub wanted : (Tells : Type 0) (before after : List ℕ) (old new : PacketsState) → Goes Tells before after old new → More ≡ first new.ended new.bytes → (first old.ended old.bytes ≡ More → ⊥) → ⊥
wanted Tells before after old new g more quiet =
    let calm = g.ended_is quiet in
    let same : new.bytes ≡ old.bytes = g.bytes_are ∙ ap (λ l. old.bytes ++ l) calm.0 ∙ append-nil old.bytes in
    quiet (sym (more ∙ ap (first new.ended) same ∙ ap (λ e. first e old.bytes) calm.1))

-- bytes are pulled
pub goes-pull : (Tells : Type 0) (before after last : List ℕ) (old new next : PacketsState) (p : List ℕ) → Goes Tells before after old new → More ≡ first new.ended new.bytes
    → (Tells → after ≡ p ++ last) → next.bytes ≡ new.bytes ++ p → next.passed ≡ new.passed → Goes Tells before last old next
goes-pull Tells before after last old new next p g more gave bytes passed = record {
  pulled = g.pulled ++ p;
  gave = λ tells. g.gave tells ∙ ap (λ l. g.pulled ++ l) (gave tells) ∙ sym (append_assoc g.pulled p last);
  bytes_are = bytes ∙ ap (λ l. l ++ p) g.bytes_are ∙ append_assoc old.bytes g.pulled p;
  passed_is = passed ∙ g.passed_is;
  ended_is = λ quiet. absurd (wanted Tells before after old new g more quiet);
}

-- and this pull was made where no packet was at hand
awaited-one : (Tells : Type 0) (before after : List ℕ) (old new : PacketsState) → Goes Tells before after old new → More ≡ first new.ended new.bytes → new.ended ≡ false
    → Tells → (left : List ℕ) → left ≡ after → IsAwaited old.bytes before left
awaited-one Tells before after old new g more going tells left is =
    (g.pulled, g.gave tells ∙ ap (λ l. g.pulled ++ l) (sym is), sym (more ∙ ap (λ e. first e new.bytes) going ∙ ap (first false) g.bytes_are))

pub awaited-more : (Tells : Type 0) (before after : List ℕ) (old new : PacketsState) → Goes Tells before after old new → More ≡ first new.ended new.bytes → new.ended ≡ false
    → (a b : List (List ℕ)) → (Tells → All (IsAwaited old.bytes before) a) → All (λ left. left ≡ after) b → Tells → All (IsAwaited old.bytes before) (a ++ b)
awaited-more Tells before after old new g more going a b earlier now tells =
    All-append (IsAwaited old.bytes before) a b (earlier tells)
    (All-weaker (λ left. left ≡ after) (IsAwaited old.bytes before) (λ left is. awaited-one Tells before after old new g more going tells left is) b now)

holds : (Tells : Type 0) (before after : List ℕ) (old new : PacketsState) → (g : Goes Tells before after old new) → Holds (old.bytes ++ g.pulled) old.passed new
holds Tells before after old new g = record { bytes_are = g.bytes_are; passed_is = g.passed_is }

pub says-memory : (Tells : Type 0) (before after : List ℕ) (old new : PacketsState) → Goes Tells before after old new → Answers Tells before after old new (Err errors.Memory)
says-memory Tells before after old new g = (g.pulled, g.gave, holds Tells before after old new g)

-- a pull that failed
pub says-failed : (Tells : Type 0) (before after : List ℕ) (old new : PacketsState) (r : Result (Unit {0}) PacketError) (e : PacketError) → Goes Tells before after old new
    → More ≡ first new.ended new.bytes → r ≡ Err e → IfErr r IsPullError → (r ≡ Err errors.Failed → taken new < 2 ^ 40) → (r ≡ Err errors.Budget → taken new ≡ 2 ^ 40)
    → Answers Tells before after old new (Err e)
says-failed Tells before after old new r e g more was why failed spent = go e was
  where
    lacks : first new.ended (old.bytes ++ g.pulled) ≡ More
    lacks = sym (more ∙ ap (first new.ended) g.bytes_are)

    count : old.passed + length (old.bytes ++ g.pulled) ≡ taken new
    count = omega (arith, ap length g.bytes_are, g.passed_is)

    go : (e : PacketError) → r ≡ Err e → Answers Tells before after old new (Err e)
    go (errors.Bad at) was = absurd (subst (λ q. IfErr q IsPullError) was why)
    go errors.Budget was = (g.pulled, g.gave, (lacks, omega (arith, count, spent was), holds Tells before after old new g))
    go errors.Failed was = (g.pulled, g.gave, (lacks, omega (arith, count, failed was), holds Tells before after old new g))
    go errors.Memory was = says-memory Tells before after old new g
