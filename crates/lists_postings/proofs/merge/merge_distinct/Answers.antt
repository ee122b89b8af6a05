use Rattle.lists_postings.proofs.Merged.{step-before, step-after, step-same, end-left, end-right}
use Rattle.lists_postings.proofs.merge.merge_distinct.Goals as goal

pub returns-in_default-clause-union : goal.returns-in_default-clause-union
returns-in_default-clause-union c = end-left c.args.one.now c.args.other.now c.postings.merged.items c.extend_from_slice.new.self.items c.postings.left.now c.postings.right.now c.in_default.ensures.cases c.in_ok-extend_from_slice.ensures.items c.postings.invariant

pub returns-in_default-split_first-clause-union : goal.returns-in_default-split_first-clause-union
returns-in_default-split_first-clause-union c = end-right c.args.one.now c.args.other.now c.postings.merged.items c.extend_from_slice-in_default-split_first.new.self.items c.postings.left.now c.postings.right.now c.in_default-split_first.ensures.cases c.in_ok-extend_from_slice-2.ensures.items c.postings.invariant

pub postings-preserved-in-Same : goal.postings-preserved-in-Same
postings-preserved-in-Same c = step-same c.args.one.now c.args.other.now c.postings.merged.items c.push.new.self.items c.postings.left.now c.in-Some.later.now c.postings.right.now c.in-Some-split_first.others.now c.in-Some.p.now c.in-Some-split_first.q.now c.in-Some.ensures.cases.0 c.in-Some-split_first.ensures.cases.0 c.in-Same.ensures c.in_ok-push-in-Same.ensures.items c.postings.invariant

pub postings-preserved-in-Before : goal.postings-preserved-in-Before
postings-preserved-in-Before c = step-before c.args.one.now c.args.other.now c.postings.merged.items c.push-in-Before.new.self.items c.postings.left.now c.in-Some.later.now c.postings.right.now c.in-Some-split_first.others.now c.in-Some.p.now c.in-Some-split_first.q.now c.in-Some.ensures.cases.0 c.in-Some-split_first.ensures.cases.0 c.in-Before.ensures c.in_ok-push-in-Before.ensures.items c.postings.invariant

pub postings-preserved : goal.postings-preserved
postings-preserved c = step-after c.args.one.now c.args.other.now c.postings.merged.items c.push-in-After.new.self.items c.postings.left.now c.in-Some.later.now c.postings.right.now c.in-Some-split_first.others.now c.in-Some.p.now c.in-Some-split_first.q.now c.in-Some.ensures.cases.0 c.in-Some-split_first.ensures.cases.0 c.in-After.ensures c.in_ok-push-in-After.ensures.items c.postings.invariant
