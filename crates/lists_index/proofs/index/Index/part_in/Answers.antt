use Rattle.std.proofs.Common.{[], refl, sym}
use Rattle.std.proofs.lemmas.Result.{IfOk-weaker}
use Rattle.lists_tails.specs.Tails.{tail_of}
use Rattle.lists_index.specs.Indexes.{state_of, seen}
use Rattle.lists_index.proofs.Lookups.{list-of, list-none}
use Rattle.lists_index.proofs.index.Index.part_in.Goals as goal

pub returns-in-Some : goal.returns-in-Some
returns-in-Some c = λ changes stands.
    let listed = list-of (seen (state_of c.args.self.now)) changes c.args.word.now c.in-Some.id.number stands (sym c.in-Some.ensures) c.in-Some.id.in_vocabulary in
    IfOk-weaker c.part_in.result _ _ (λ part e. (tail_of (state_of c.args.self.now).tails c.in-Some.id.number, listed, e.0, e.1)) c.part_in.ensures

pub returns-in-None : goal.returns-in-None
returns-in-None c = λ changes stands. ([], list-none (seen (state_of c.args.self.now)) changes c.args.word.now stands (sym c.in-None.ensures), c.new.ensures.items, refl)
