use Rattle.std.proofs.Common.{◌≡◌, ℕ, List, length, ap, refl, ◌∙◌}
use Rattle.model_archive.specs.Histories.{History}
use Rattle.model_archive.specs.Standing.{last_state}
use Rattle.model_follow.specs.Following.{length_text}
use Rattle.run_taking.specs.declared.ended.Ended.TheVariants.{Done, Sink}
use Rattle.run_taking.proofs.PacketLemmas.{as_many}
use Rattle.run_taking.proofs.ServeLemmas.{closed}
use Rattle.run_taking.proofs.serve.close.Goals as goal

-- the last line is on the page
line_of : (bytes page : List ℕ) (count : ℕ) (h : History) → bytes ≡ page → page ≡ length_text count → count ≡ length h → bytes ≡ length_text (length h)
line_of bytes page count h same is counted = same ∙ is ∙ ap length_text counted

pub returns-in-Ok-clause-closed : goal.returns-in-Ok-clause-closed
returns-in-Ok-clause-closed g c = λ sink_tells disk_tells s began archive held pulls gone.
    let m = g.met.M.Machine in
    let last = c.show.new.sink in
    let (serving, at_end) = gone.closing refl in
    let alone = m.sink_alone c.args.machine.now last c.show.ensures.only in
    let line = line_of c.as_bytes.result.now c.numbered.new.self.bytes c.count.result (last_state s serving.outcomes).history c.as_bytes.ensures c.numbered.ensures (c.count.ensures ∙ as_many _ _ _ serving.following.bodies) in
    closed s Done began _ (g.M.Source.source last) (g.M.Sink.sink last) (g.M.Disk.disk last) archive held c.args.bodies.now pulls c.as_bytes.result.now tt serving at_end line alone.0 (m.shows c.args.machine.now last sink_tells disk_tells c.show.ensures.only) alone.1 (c.show.ensures.front sink_tells)
    (λ is. c.in-Ok.ensures.whole sink_tells)

pub returns-in-Err-clause-closed : goal.returns-in-Err-clause-closed
returns-in-Err-clause-closed g c = λ sink_tells disk_tells s began archive held pulls gone.
    let m = g.met.M.Machine in
    let last = c.show.new.sink in
    let (serving, at_end) = gone.closing refl in
    let alone = m.sink_alone c.args.machine.now last c.show.ensures.only in
    let line = line_of c.as_bytes.result.now c.numbered.new.self.bytes c.count.result (last_state s serving.outcomes).history c.as_bytes.ensures c.numbered.ensures (c.count.ensures ∙ as_many _ _ _ serving.following.bodies) in
    closed s Sink began _ (g.M.Source.source last) (g.M.Sink.sink last) (g.M.Disk.disk last) archive held c.args.bodies.now pulls c.as_bytes.result.now tt serving at_end line alone.0 (m.shows c.args.machine.now last sink_tells disk_tells c.show.ensures.only) alone.1 (c.show.ensures.front sink_tells)
    (λ is. cc)
