use Rattle.std.proofs.Common.{◌≡◌, ◌++◌, ap, sym, ◌∙◌}
use Rattle.std.proofs.lemmas.Result.{err_from_is_err_and}
use Rattle.journal_packets.specs.declared.first.First.TheVariants.{More}
use Rattle.journal_packets.specs.Packets.{first}
use Rattle.journal_packets.proofs.FirstLemmas.{still-open}
use Rattle.journal_packets.proofs.CallLemmas.{goes-pull, wanted, awaited-more, says-failed}
use Rattle.journal_packets.proofs.packets.Packets.next_packet.Goals as goal

pub rounds-preserved : goal.rounds-preserved
rounds-preserved g c =
    let run = c.rounds.invariant in
    let pull = c.pull.ensures in
    let now = c.rounds.self in
    let more : More ≡ first now.ended now.bytes = sym c.in-More.is ∙ c.front.ensures.value in
    record {
      only = g.met.S.Source.laws.joins _ _ _ run.only pull.only;
      went = goes-pull _ _ _ _ c.args.self.now now c.pull.new.self pull.bytes.0 run.went more pull.bytes.1 pull.bytes.2 pull.passed;
      still = λ quiet. absurd (wanted _ _ _ c.args.self.now now run.went more quiet);
      awaited = (
        run.awaited.0 ++ pull.asked.0,
        g.met.S.Source.laws.pulls_join _ _ _ _ _ run.awaited.1 pull.asked.1,
        awaited-more _ _ _ c.args.self.now now run.went more (still-open now.ended now.bytes more) run.awaited.0 pull.asked.0 run.awaited.2 pull.asked.2,
      );
      end = λ tells first told. pull.end tells told;
    }

pub returns-in_err-pull-in-More-clause-only : goal.returns-in_err-pull-in-More-clause-only
returns-in_err-pull-in-More-clause-only g c = g.met.S.Source.laws.joins _ _ _ c.rounds.invariant.only c.pull.ensures.only

pub returns-in_err-pull-in-More-clause-says : goal.returns-in_err-pull-in-More-clause-says
returns-in_err-pull-in-More-clause-says g c =
    let now = c.rounds.self in
    let pull = c.in_err-pull-in-More.ensures in
    let more : More ≡ first now.ended now.bytes = sym c.in-More.is ∙ c.front.ensures.value in
    let p = err_from_is_err_and c.from_residual-in_err-pull-in-More.result c.from_residual-in_err-pull-in-More.ensures.1 in
    rw (p.1, p.2) (says-failed _ _ _ c.args.self.now c.pull.new.self c.pull.result _
    (goes-pull _ _ _ _ c.args.self.now now c.pull.new.self pull.bytes.0 c.rounds.invariant.went more pull.bytes.1 pull.bytes.2 pull.passed)
    (more ∙ sym (ap (λ h. first h.ended h.bytes) pull.err)) c.in_err-pull-in-More.was c.pull.ensures.why c.pull.ensures.failed c.pull.ensures.spent)

pub returns-in_err-pull-in-More-clause-calm : goal.returns-in_err-pull-in-More-clause-calm
returns-in_err-pull-in-More-clause-calm g c = λ quiet.
    absurd (wanted _ _ _ c.args.self.now c.rounds.self c.rounds.invariant.went (sym c.in-More.is ∙ c.front.ensures.value) quiet)

pub returns-in_err-pull-in-More-clause-awaited : goal.returns-in_err-pull-in-More-clause-awaited
returns-in_err-pull-in-More-clause-awaited g c =
    let run = c.rounds.invariant in
    let now = c.rounds.self in
    let pull = c.pull.ensures in
    let more : More ≡ first now.ended now.bytes = sym c.in-More.is ∙ c.front.ensures.value in (
      run.awaited.0 ++ pull.asked.0,
      g.met.S.Source.laws.pulls_join _ _ _ _ _ run.awaited.1 pull.asked.1,
      awaited-more _ _ _ c.args.self.now now run.went more (still-open now.ended now.bytes more) run.awaited.0 pull.asked.0 run.awaited.2 pull.asked.2,
    )

pub returns-in-Whole-clause-calm : goal.returns-in-Whole-clause-calm
returns-in-Whole-clause-calm g c = λ quiet. (c.rounds.invariant.still quiet, c.in_ok-packet-in-Whole.ensures.ended ∙ (c.rounds.invariant.went.ended_is quiet).1)

pub returns-in-Bad-clause-calm : goal.returns-in-Bad-clause-calm
returns-in-Bad-clause-calm g c = λ quiet. (c.rounds.invariant.still quiet, (c.rounds.invariant.went.ended_is quiet).1)

pub returns-in-End-clause-calm : goal.returns-in-End-clause-calm
returns-in-End-clause-calm g c = λ quiet. (c.rounds.invariant.still quiet, (c.rounds.invariant.went.ended_is quiet).1)
