use Rattle.std.proofs.Common.{◌+◌, ◌-◌, ◌<◌, List, ℕ, length, take, drop, ◌∙◌, sym, ap, subst}
use Rattle.pages_codec.specs.Frames.{FramesState, block_bytes}
use Rattle.pages_codec.proofs.FrameLemmas.{block_place}
use Rattle.pages_codec.proofs.frames.Frames.block.Goals as goal

pub returns : goal.returns
returns c =
    let within = subst (λ (f : FramesState). c.args.block < length f.heads) (sym c.self.view_is) c.requires in
    let place = block_place c.self.inside.bytes.items c.self.inside.heads.items c.self.inside.starts.items c.args.block c.index-start.result.now c.index-head.result.now c.self.invariant within c.index-start.ensures c.index-head.ensures in
    ap (λ (bytes : List ℕ). take (c.index-start.result.now + 15 + c.index-head.result.now.size - c.index-start.result.now) (drop c.index-start.result.now bytes)) c.deref.ensures.value
    ∙ place.2 ∙ ap (λ (f : FramesState). block_bytes f c.args.block) c.self.view_is
