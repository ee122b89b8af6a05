use Rattle.std.proofs.Common.{rules, tests, ◌≡◌, IfOk}
use Rattle.std.proofs.lemmas.Result.{IfOk-weaker}
use Rattle.std.proofs.lemmas.Iterator.{items_from_collect, YieldsList-from_slice}
use Rattle.std.proofs.lemmas.Iterator.Consumers.{YieldsList-at, YieldsList-from_copied, YieldsList-from_filter}
use Rattle.lists_postings.specs.Lists.{meets, sublist, IsList}
use Rattle.lists_postings.proofs.Clipping.{sublist_list}
use Rattle.lists_postings.proofs.parts.overlap.Goals as goal

pub returns-clause-ordered : goal.returns-clause-ordered
returns-clause-ordered c =
    let e : IfOk c.collect.result (λ v. v.items ≡ sublist c.args.from c.args.to c.args.list.now) =
    items_from_collect _ c.collect.ensures.ran (YieldsList-from_copied (YieldsList-at c.copied.ensures.source (YieldsList-from_filter _ (meets c.args.from c.args.to) (YieldsList-at c.filter.ensures.source (YieldsList-from_slice c.args.list.now (cc))) c.filter.ensures.closure (λ x r q k. search (rules, tests))))) in
    IfOk-weaker c.collect.result (λ v. v.items ≡ sublist c.args.from c.args.to c.args.list.now) (λ v. IsList c.args.list.now → IsList v.items) (λ v i l. rw i (sublist_list c.args.from c.args.to c.args.list.now l)) e
