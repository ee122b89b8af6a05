use Rattle.std.proofs.Common.{refl}
use Rattle.query_best.proofs.OpeningLemmas.{bad-block, if-damaged}
use Rattle.query_best.specs.Held.{IsBadBlock, IsBadOf}
use Rattle.query_best.proofs.shelf.ShelfBlocks.open.Goals as goal

pub returns-in-Err-clause-call : goal.returns-in-Err-clause-call
returns-in-Err-clause-call c = record {
  same = refl;
  there = c.requires.block;
  counted = tt;
  failed = c.in-Err.ensures.failed;
  damaged = if-damaged (IsBadBlock c.index.result.now.blocks c.args.block) (IsBadOf c.args.self.now.words.items)
      (bad-block c.args.self.now.words.items c.args.word c.args.block c.index.result.now c.requires.word c.index.ensures c.requires.block) c.in-Err.error c.in-Err.ensures.damaged;
}
