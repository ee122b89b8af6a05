use Rattle.std.proofs.Common.{◌≡◌, ◌∷◌, List, Option, IsSome, None, map, All, inl, refl, sym, subst}
use Rattle.std.proofs.lemmas.Result.{err_from_is_err_and}
use Rattle.std.proofs.lemmas.List.Elements.{All-head, All-tail}
use Rattle.base_commands.specs.Documents.{HasDocument}
use Rattle.base_commands.specs.declared.command.Command.{Command}
use Rattle.base_commands.specs.declared.command.Item.TheVariants as items
use Rattle.base_sample.specs.Laws.{MayBeSampled}
use Rattle.base_sample.proofs.LawLemmas.{documents, kinds}
use Rattle.model_archive.specs.declared.verdict.Verdict.{Verdict}
use Rattle.run_sample.specs.Carrying.{ComesToCheck}
use Rattle.run_sample.proofs.FillLemmas.{comes_next, counts_first, counts_next, filled_at, filled_between, filled_whole, goes_next, sample_ends}
use Rattle.run_sample.proofs.filling.fill.Goals as goal

pub commands-init : goal.commands-init
commands-init g c =
    let (seed, count, is) = c.requires.whole in
    let S : List Command → Type 0 = λ l. All MayBeSampled l in
    let D : List Command → Type 0 = λ l. All HasDocument (map items.Command l) in
    let C : List Command → Type 0 = λ l. ComesToCheck l None in
    record {
      live = c.requires.live;
      within = c.requires.within;
      only = g.met.D.Disk.only_same c.args.disk.now;
      sampled = subst S (sym is) (kinds seed count);
      documents = subst D (sym is) (documents seed count);
      comes = subst C (sym is) (inl (sample_ends seed count));
      counts = λ tells h in_step. counts_first h c.args.sample _ c.args.archive.now _ refl in_step;
    }

pub returns-in_err-command-clause-filled : goal.returns-in_err-command-clause-filled
returns-in_err-command-clause-filled g c = λ tells h in_step.
    let counts = c.commands.invariant.counts tells h in_step in
    let p = err_from_is_err_and c.from_residual.result c.from_residual.ensures.1 in
    rw (p.1, p.2) (filled_between h c.args.sample c.commands.rest counts.outcomes _ _ c.commands.archive counts.goes c.commands.invariant.documents)

pub carry_out-requires-clause-sampled : goal.carry_out-requires-clause-sampled
carry_out-requires-clause-sampled g c =
    let S : List Command → Type 0 = λ l. All MayBeSampled l in
    All-head MayBeSampled c.in-Some.command c.next_command.new.self (subst S (rw c.in-Some.is at c.in_ok-command.ensures.given) c.commands.invariant.sampled)

pub returns-in_err-note-clause-filled : goal.returns-in_err-note-clause-filled
returns-in_err-note-clause-filled g c = λ tells h in_step.
    let was = c.commands.invariant in
    let counts = was.counts tells h in_step in
    let next = rw c.in-Some.is at c.in_ok-command.ensures.given in
    let D : List Command → Type 0 = λ l. All HasDocument (map items.Command l) in
    let p = err_from_is_err_and c.from_residual-in_err-note.result c.from_residual-in_err-note.ensures.1 in
    rw (p.1, p.2) (filled_at h c.args.sample c.commands.rest c.next_command.new.self c.in-Some.command c.in_err-note.field-0.0 counts.outcomes _ _ _ c.commands.archive c.carry_out.new.archive counts.goes
    next (c.in_err-note.ensures.outcome tells _ counts.goes.in_step (All-head HasDocument (items.Command c.in-Some.command) (map items.Command c.next_command.new.self) (subst D next was.documents))) (g.met.D.Disk.only_beside _ _ tells was.only) was.documents)

pub returns-in_err-tally-clause-filled : goal.returns-in_err-tally-clause-filled
returns-in_err-tally-clause-filled g c = λ tells h in_step.
    let was = c.commands.invariant in
    let counts = was.counts tells h in_step in
    let next = rw c.in-Some.is at c.in_ok-command.ensures.given in
    let D : List Command → Type 0 = λ l. All HasDocument (map items.Command l) in
    let p = err_from_is_err_and c.from_residual-in_err-tally.result c.from_residual-in_err-tally.ensures.1 in
    rw (p.1, p.2, c.in_err-tally.ensures.full) (filled_between h c.args.sample c.next_command.new.self _ _ _ c.carry_out.new.archive
    (goes_next h c.args.sample c.commands.rest c.next_command.new.self c.in-Some.command c.in_ok-note.note counts.outcomes _ _ _ c.commands.archive c.carry_out.new.archive counts.goes
    next (c.in_ok-note.ensures.outcome tells _ counts.goes.in_step (All-head HasDocument (items.Command c.in-Some.command) (map items.Command c.next_command.new.self) (subst D next was.documents))) (g.met.D.Disk.only_beside _ _ tells was.only))
    (All-tail HasDocument (items.Command c.in-Some.command) (map items.Command c.next_command.new.self) (subst D next was.documents)))

pub commands-preserved : goal.commands-preserved
commands-preserved g c =
    let was = c.commands.invariant in
    let out = c.in_ok-note.ensures in
    let next : c.commands.rest ≡ c.in-Some.command ∷ c.next_command.new.self = rw c.in-Some.is at c.in_ok-command.ensures.given in
    let S : List Command → Type 0 = λ l. All MayBeSampled l in
    let D : List Command → Type 0 = λ l. All HasDocument (map items.Command l) in
    record {
      live = out.live;
      within = out.within;
      only = g.met.D.Disk.only_joins _ _ _ was.only out.only;
      sampled = All-tail MayBeSampled c.in-Some.command c.next_command.new.self (subst S next was.sampled);
      documents = All-tail HasDocument (items.Command c.in-Some.command) (map items.Command c.next_command.new.self) (subst D next was.documents);
      comes = comes_next c.commands.rest c.next_command.new.self c.in-Some.command c.commands.last c.verdict-last.result was.comes next
          (λ is. (let V : Option Verdict → Type 0 = λ v. IsSome v in subst V (sym c.verdict-last.ensures) (out.checked is)));
      counts = λ tells h in_step. (let counts = was.counts tells h in_step in
          counts_next h c.args.sample c.commands.rest c.next_command.new.self c.in-Some.command c.in_ok-note.note c.commands.tally c.in_ok-tally.tally c.commands.last c.verdict-last.result
          _ _ _ c.commands.archive c.carry_out.new.archive counts next (out.outcome tells _ counts.goes.in_step (All-head HasDocument (items.Command c.in-Some.command) (map items.Command c.next_command.new.self) (subst D next was.documents))) (g.met.D.Disk.only_beside _ _ tells was.only)
          (λ replies reply is told. c.in_ok-tally.ensures.counts replies reply is told) c.verdict-last.ensures);
    }

pub returns-clause-filled : goal.returns-clause-filled
returns-clause-filled g c = λ tells h in_step.
    filled_whole h c.args.sample c.commands.rest c.commands.tally c.commands.last c.unwrap.result _ _ c.commands.archive (c.commands.invariant.counts tells h in_step) (rw c.in_default.is at c.in_ok-command.ensures.end).0 c.unwrap.ensures
