use Rattle.std.proofs.Common.{arith, ap, ℕ, List, ◌≡◌, ◌+◌, ◌-◌, ◌++◌, length, length-append, sym, subst}
use Rattle.std.specs.Prelude.{Vec}
use Rattle.std.proofs.lemmas.Grind.{common_steps}
use Rattle.std.specs.declared.alloc.Global.{Global}
use Rattle.base_types.specs.declared.posting.Posting.{Posting}
use Rattle.lists_postings.specs.Lists.{ComesBefore, IsList}
use Rattle.lists_tails.specs.Turns.{IsTurned}
use Rattle.lists_tails.specs.Blocks.{joined, AreFilled, IsBlockOf}
use Rattle.lists_tails.proofs.Turned.{next-back}
use Rattle.lists_tails.proofs.Located.{turned-first}
use Rattle.lists_tails.proofs.turn.turn_blocks.Goals as goal

-- the block is found in the whole list, where it is found in the later blocks
found : (doc : ℕ) (front : List Posting) (later : List (Vec Posting Global)) (k j : ℕ) → (AreFilled later → IsList (joined later) → IsBlockOf doc later k) → AreFilled later → k ≡ j → IsList (front ++ joined later) → IsBlockOf doc later j
found doc front later k j q f e l = subst (λ z. IsBlockOf doc later z) e (q f (next-back ComesBefore front (joined later) l))

pub returns-then-started-gt0-clause-turned : goal.returns-then-started-gt0-clause-turned
returns-then-started-gt0-clause-turned c =
    c.turn_started.ensures.turned c.args.first.now.items (found c.args.doc.0 c.args.first.now.items c.args.later.now.items c.count_started-started.result (c.count_started-started.result - 1 + 1) (rw c.as_slice.ensures.value at c.count_started-started.ensures.placed) c.requires.filled (omega (arith, c.if-started-gt0.true)))

pub returns-then-block-eq0-clause-turned : goal.returns-then-block-eq0-clause-turned
returns-then-block-eq0-clause-turned c =
    let p : IsList (c.args.first.now.items ++ joined c.args.later.now.items) → IsBlockOf c.args.doc.0 c.args.later.now.items 0 =
    found c.args.doc.0 c.args.first.now.items c.args.later.now.items c.count_started-started.result 0 (rw c.as_slice.ensures.value at c.count_started-started.ensures.placed) c.requires.filled (omega (arith, c.if-started-gt0.false)) in
    let q : IsList (c.roomy_first-block.new.first.items ++ joined c.roomy_first-block.new.later.items) → IsBlockOf c.args.doc.0 c.roomy_first-block.new.later.items 0 =
    λ l. subst (λ z. IsBlockOf c.args.doc.0 c.roomy_first-block.new.later.items z) c.if-block-eq0.true (c.roomy_first-block.ensures.placed (p (subst IsList c.roomy_first-block.ensures.same l))) in
    subst (λ z. IsTurned c.args.doc.0 c.args.at.seconds c.args.old c.args.new z (c.turn_within-then-block-eq0.new.list.items ++ joined c.roomy_first-block.new.later.items)) c.roomy_first-block.ensures.same
    (turned-first c.args.doc.0 c.args.at.seconds c.args.old c.args.new c.roomy_first-block.new.first.items c.turn_within-then-block-eq0.new.list.items c.roomy_first-block.new.later.items c.turn_within-then-block-eq0.ensures.turned (c.roomy_first-block.ensures.filled c.requires.filled) q)

pub returns-else-block-eq0-clause-turned : goal.returns-else-block-eq0-clause-turned
returns-else-block-eq0-clause-turned c =
    let p : IsList (c.args.first.now.items ++ joined c.args.later.now.items) → IsBlockOf c.args.doc.0 c.args.later.now.items 0 =
    found c.args.doc.0 c.args.first.now.items c.args.later.now.items c.count_started-started.result 0 (rw c.as_slice.ensures.value at c.count_started-started.ensures.placed) c.requires.filled (omega (arith, c.if-started-gt0.false)) in
    let one : c.roomy_first-block.result ≡ 1 = omega (arith, c.if-block-eq0.false, c.roomy_first-block.ensures.inside) in
    let q : IsList (c.roomy_first-block.new.first.items ++ joined c.roomy_first-block.new.later.items) → IsBlockOf c.args.doc.0 c.roomy_first-block.new.later.items 1 =
    λ l. subst (λ z. IsBlockOf c.args.doc.0 c.roomy_first-block.new.later.items z) one (c.roomy_first-block.ensures.placed (p (subst IsList c.roomy_first-block.ensures.same l))) in
    subst (λ z. IsTurned c.args.doc.0 c.args.at.seconds c.args.old c.args.new z (c.roomy_first-block.new.first.items ++ joined c.turn_later.new.later.items)) c.roomy_first-block.ensures.same
    (c.turn_later.ensures.turned c.roomy_first-block.new.first.items q)

pub returns-else-block-eq0-clause-leaves : goal.returns-else-block-eq0-clause-leaves
returns-else-block-eq0-clause-leaves c = record {
  filled = c.turn_later.ensures.filled;
  longer = omega (
    arith,
    c.turn_later.ensures.longer,
    ap length c.roomy_first-block.ensures.same,
    length-append c.roomy_first-block.new.first.items (joined c.roomy_first-block.new.later.items),
    length-append c.roomy_first-block.new.first.items (joined c.turn_later.new.later.items),
  );
  room = grind (arith, common_steps);
  none = λ e. absurd (c.if-new-eq0.false e);
  shorter = λ e. absurd (c.if-new-eq0.false e);
}

pub returns-then-new-eq0-clause-turned : goal.returns-then-new-eq0-clause-turned
returns-then-new-eq0-clause-turned c =
    subst (λ z. IsTurned c.args.doc.0 c.args.at.seconds c.args.old z (c.args.first.now.items ++ joined c.args.later.now.items) (c.turn_within.new.list.items ++ joined c.args.later.now.items)) (sym c.if-new-eq0.true)
    (turned-first c.args.doc.0 c.args.at.seconds c.args.old 0 c.args.first.now.items c.turn_within.new.list.items c.args.later.now.items c.turn_within.ensures.turned c.requires.filled
    (found c.args.doc.0 c.args.first.now.items c.args.later.now.items c.count_started-started.result 0 (rw c.as_slice.ensures.value at c.count_started-started.ensures.placed) c.requires.filled (omega (arith, c.if-started-gt0.false))))
