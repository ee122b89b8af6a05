use Rattle.std.proofs.Common.{sym, subst}
use Rattle.std.proofs.lemmas.Result.{IfOk-weaker}
use Rattle.lists_index.specs.Words.{IsWordList}
use Rattle.lists_index.specs.Indexes.{state_of, seen}
use Rattle.lists_index.proofs.Lookups.{list-of, list-none}
use Rattle.lists_index.proofs.index.Index.list.Goals as goal

pub returns-in-Some-clause-list : goal.returns-in-Some-clause-list
returns-in-Some-clause-list c = λ changes stands.
    let listed = list-of (seen (state_of c.args.self.now)) changes c.args.word.now c.in-Some.id.number stands (sym c.in-Some.ensures) c.in-Some.id.in_vocabulary in
    IfOk-weaker c.list.result _ _ (λ list e. subst (IsWordList changes c.args.word.now) (sym e) listed) c.list.ensures.value

pub returns-in-None-clause-list : goal.returns-in-None-clause-list
returns-in-None-clause-list c = λ changes stands. subst (IsWordList changes c.args.word.now) (sym c.new.ensures.items) (list-none (seen (state_of c.args.self.now)) changes c.args.word.now stands (sym c.in-None.ensures))
