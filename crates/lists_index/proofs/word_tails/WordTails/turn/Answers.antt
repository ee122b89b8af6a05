use Rattle.std.proofs.Common.{◌≡◌, List, ap, subst}
use Rattle.lists_tails.specs.States.{TailState}
use Rattle.lists_tails.specs.Tails.{tail_of}
use Rattle.lists_tails.specs.Turns.{IsTurned}
use Rattle.lists_tails.specs.Weights.{weight_of}
use Rattle.lists_index.specs.Turned.{Turned}
use Rattle.lists_index.proofs.word_tails.WordTails.turn.Goals as goal

pub returns : goal.returns
returns c = record {
  turned = λ w.
      let v : c.self.inside.tails ≡ c.args.self.now.tails = ap {B = List TailState} (λ (t : Turned). t.tails) c.self.view_is in
      subst (λ z. IsTurned c.args.doc.0 c.args.at.seconds (weight_of w c.args.old.now) (weight_of w c.args.new.now) (tail_of z w) (tail_of c.turn.new.self w)) v (c.turn.ensures.turned w);
}
