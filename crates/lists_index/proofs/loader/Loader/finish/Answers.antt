use Rattle.std.proofs.Common.{◌∙◌}
use Rattle.std.proofs.lemmas.List.Sorted.{All-permutation}
use Rattle.lists_tails.specs.declared.document.Turn.{Turn}
use Rattle.lists_tails.specs.Tails.{tail_of}
use Rattle.lists_tails.specs.Weights.{AreWeights, weight_of}
use Rattle.lists_index.specs.Newest.{weights_of}
use Rattle.lists_index.specs.Loads.{loaded}
use Rattle.lists_index.proofs.Loading.{finished}
use Rattle.lists_index.proofs.loader.Loader.finish.Goals as goal

pub newest_of-requires : goal.newest_of-requires
newest_of-requires c = All-permutation (λ (x : Turn). AreWeights x.weights.items) c.args.self.turns.items c.gather.new.turns.items c.gather.ensures.permutation c.requires.1.ascending

pub returns : goal.returns
returns c = λ changes stands.
    finished (loaded c.args.self) (tail_of c.in_ok-tails.tails.tails) (λ d w. weight_of w (weights_of c.in_ok-newest.newest d)) changes c.in_ok-tails.ensures.tails
    (λ w d. c.in_ok-newest.ensures w d ∙ c.gather.ensures.open w d) stands
