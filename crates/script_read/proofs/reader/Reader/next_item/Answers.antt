use Rattle.std.proofs.Common.{◌≡◌, ◌+◌, ◌<◌, ◌++◌, [], ap, sym, ◌∙◌, refl, arith}
use Rattle.std.proofs.lemmas.List.Elements.{All-nil}
use Rattle.std.proofs.lemmas.Result.{err_from_is_err_and}
use Rattle.script_read.specs.Reading.{IsAwaited, found}
use Rattle.script_read.specs.declared.first.First.TheVariants.{More}
use Rattle.script_read.proofs.Ranges.{taken-fits}
use Rattle.script_read.proofs.ReaderLemmas.{still-open}
use Rattle.script_read.proofs.CallLemmas.{goes-start, goes-front, goes-piece, goes-pull, goes-skipped, wanted, awaited-more, says-piece, says-none, says-broken, says-failed}
use Rattle.script_read.proofs.reader.Reader.next_item.Goals as goal

pub rounds-init : goal.rounds-init
rounds-init g c = record {
  only = g.met.S.Source.laws.same c.args.source.now;
  went = λ since stands. goes-start _ _ c.args.self.now since stands;
  still = λ since stands quiet. refl;
  awaited = λ since stands. ([], g.met.S.Source.laws.unpulled c.args.source.now, λ tells. All-nil (IsAwaited since (g.S.Source.source c.args.source.now).left));
  further = omega arith;
  end = λ tells first told. first told;
}

pub returns-then-is_some-clause-says : goal.returns-then-is_some-clause-says
returns-then-is_some-clause-says g c = λ since stands.
    let front = c.in_ok-piece.ensures in
    let went = goes-front _ _ _ c.args.self.now c.rounds.self c.front.new.self since [] (c.rounds.invariant.went since stands) front.stands front.passed front.ended in
    let within = rw c.in-Whole.is at front.within in
    says-piece _ _ _ c.args.self.now c.advance.new.self since c.in-Whole.piece (sym c.is_some.ensures ∙ c.if-is_some.true)
    (goes-piece _ _ _ c.args.self.now c.front.new.self c.advance.new.self since c.in-Whole.piece c.in-Whole.n went (sym c.in-Whole.is ∙ front.value) within.0 within.1 c.advance.ensures)

pub returns-then-is_some-clause-fits : goal.returns-then-is_some-clause-fits
returns-then-is_some-clause-fits g c =
    let front = c.in_ok-piece.ensures in
    taken-fits c.front.new.self c.in-Whole.piece c.in-Whole.n front.small (sym c.in-Whole.is ∙ front.value)

pub returns-then-is_some-clause-further : goal.returns-then-is_some-clause-further
returns-then-is_some-clause-further g c =
    let front = c.in_ok-piece.ensures in
    let within = rw c.in-Whole.is at front.within in
    let later : c.args.self.now.passed < c.advance.new.self.passed = omega (arith, c.rounds.invariant.further, front.passed, within.0, ap (λ h. h.passed) c.advance.ensures) in
    λ some. later

pub rounds-preserved-else-is_some-19 : goal.rounds-preserved-else-is_some-19
rounds-preserved-else-is_some-19 g c =
    let run = c.rounds.invariant in
    let front = c.in_ok-piece.ensures in
    let within = rw c.in-Whole.is at front.within in
    record {
      only = run.only;
      went = λ since stands.
          goes-skipped _ _ _ c.args.self.now c.advance.new.self since c.in-Whole.piece (sym c.is_some.ensures ∙ c.if-is_some.false)
          (goes-piece _ _ _ c.args.self.now c.front.new.self c.advance.new.self since c.in-Whole.piece c.in-Whole.n
          (goes-front _ _ _ c.args.self.now c.rounds.self c.front.new.self since [] (run.went since stands) front.stands front.passed front.ended)
          (sym c.in-Whole.is ∙ front.value) within.0 within.1 c.advance.ensures);
      still = run.still;
      awaited = run.awaited;
      further = omega (arith, run.further, front.passed, within.0, ap (λ h. h.passed) c.advance.ensures);
      end = λ tells first told. run.end tells first (sym front.ended ∙ sym (ap (λ h. h.ended) c.advance.ensures) ∙ told);
    }

pub returns-in-Broken-clause-says : goal.returns-in-Broken-clause-says
returns-in-Broken-clause-says g c = λ since stands.
    let front = c.in_ok-piece.ensures in
    let went = goes-front _ _ _ c.args.self.now c.rounds.self c.front.new.self since [] (c.rounds.invariant.went since stands) front.stands front.passed front.ended in
    says-broken _ _ _ c.args.self.now c.front.new.self since c.in-Broken.n _ went (sym c.in-Broken.is ∙ front.value) (ap (λ h. h.passed + c.in-Broken.n) c.self.view_is)

pub returns-in-End-clause-says : goal.returns-in-End-clause-says
returns-in-End-clause-says g c = λ since stands.
    let front = c.in_ok-piece.ensures in
    let went = goes-front _ _ _ c.args.self.now c.rounds.self c.front.new.self since [] (c.rounds.invariant.went since stands) front.stands front.passed front.ended in
    says-none _ _ _ c.args.self.now c.front.new.self since went (sym c.in-End.is ∙ front.value)

pub rounds-preserved : goal.rounds-preserved
rounds-preserved g c =
    let run = c.rounds.invariant in
    let front = c.in_ok-piece.ensures in
    let pull = c.pull.ensures in
    let more : More ≡ found c.front.new.self = sym c.in-More.is ∙ front.value in
    record {
      only = g.met.S.Source.laws.joins _ _ _ run.only pull.only;
      went = λ since stands.
          goes-pull _ _ _ _ c.args.self.now c.front.new.self c.pull.new.self since pull.bytes.0
          (goes-front _ _ _ c.args.self.now c.rounds.self c.front.new.self since [] (run.went since stands) front.stands front.passed front.ended)
          more (still-open c.front.new.self more) pull.bytes.1 pull.bytes.2 pull.passed pull.over;
      still = λ since stands quiet.
          absurd (wanted _ _ _ c.args.self.now c.front.new.self since
          (goes-front _ _ _ c.args.self.now c.rounds.self c.front.new.self since [] (run.went since stands) front.stands front.passed front.ended) more quiet);
      awaited = λ since stands.
          let earlier = run.awaited since stands in (
            earlier.0 ++ pull.asked.0,
            g.met.S.Source.laws.pulls_join _ _ _ _ _ earlier.1 pull.asked.1,
            awaited-more _ _ _ c.args.self.now c.front.new.self since
                (goes-front _ _ _ c.args.self.now c.rounds.self c.front.new.self since [] (run.went since stands) front.stands front.passed front.ended)
                more (still-open c.front.new.self more) earlier.0 pull.asked.0 earlier.2 pull.asked.2,
          );
      further = omega (arith, run.further, front.passed, pull.passed);
      end = λ tells first told. pull.end tells told;
    }

pub returns-in_err-pull-in-More-clause-says : goal.returns-in_err-pull-in-More-clause-says
returns-in_err-pull-in-More-clause-says g c = λ since stands.
    let front = c.in_ok-piece.ensures in
    let pull = c.in_err-pull-in-More.ensures in
    let more : More ≡ found c.front.new.self = sym c.in-More.is ∙ front.value in
    let p = err_from_is_err_and c.from_residual-in_err-pull-in-More.result c.from_residual-in_err-pull-in-More.ensures.1 in
    rw (p.1, p.2) (says-failed _ _ _ c.args.self.now c.pull.new.self since c.pull.result _
    (goes-pull _ _ _ _ c.args.self.now c.front.new.self c.pull.new.self since pull.bytes.0
    (goes-front _ _ _ c.args.self.now c.rounds.self c.front.new.self since [] (c.rounds.invariant.went since stands) front.stands front.passed front.ended)
    more (still-open c.front.new.self more) pull.bytes.1 pull.bytes.2 pull.passed pull.over)
    (more ∙ sym (ap found pull.err)) c.in_err-pull-in-More.was c.pull.ensures.why c.pull.ensures.failed c.pull.ensures.spent)

pub returns-in_err-pull-in-More-clause-calm : goal.returns-in_err-pull-in-More-clause-calm
returns-in_err-pull-in-More-clause-calm g c = λ since stands quiet.
    let front = c.in_ok-piece.ensures in
    absurd (wanted _ _ _ c.args.self.now c.front.new.self since
    (goes-front _ _ _ c.args.self.now c.rounds.self c.front.new.self since [] (c.rounds.invariant.went since stands) front.stands front.passed front.ended)
    (sym c.in-More.is ∙ front.value) quiet)

pub returns-in_err-pull-in-More-clause-awaited : goal.returns-in_err-pull-in-More-clause-awaited
returns-in_err-pull-in-More-clause-awaited g c = λ since stands.
    let front = c.in_ok-piece.ensures in
    let pull = c.pull.ensures in
    let more : More ≡ found c.front.new.self = sym c.in-More.is ∙ front.value in
    let earlier = c.rounds.invariant.awaited since stands in (
      earlier.0 ++ pull.asked.0,
      g.met.S.Source.laws.pulls_join _ _ _ _ _ earlier.1 pull.asked.1,
      awaited-more _ _ _ c.args.self.now c.front.new.self since
          (goes-front _ _ _ c.args.self.now c.rounds.self c.front.new.self since [] (c.rounds.invariant.went since stands) front.stands front.passed front.ended)
          more (still-open c.front.new.self more) earlier.0 pull.asked.0 earlier.2 pull.asked.2,
    )
