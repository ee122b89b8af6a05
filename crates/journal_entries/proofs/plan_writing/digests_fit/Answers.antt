use Rattle.std.proofs.Common.{subst, List, All}
use Rattle.std.proofs.lemmas.List.{take_all}
use Rattle.std.proofs.lemmas.List.Elements.{All-more}
use Rattle.journal_entries.specs.declared.place.Place.{Place}
use Rattle.journal_entries.specs.PlanSpelling.{IsDigest}
use Rattle.journal_entries.proofs.plan_writing.digests_fit.Goals as goal

pub loop-place-preserved : goal.loop-place-preserved
loop-place-preserved c =
    All-more (λ p. IsDigest p.digest) c.args.places.now c.loop-place.place-index c.place-item.result c.loop-place-test.true c.loop-place.invariant
    (subst (λ (p : Place). IsDigest p.digest) c.place-item.is c.digest_fits.ensures)

pub returns : goal.returns
returns c = subst (λ (ps : List Place). All (λ p. IsDigest p.digest) ps) (take_all c.loop-place.place-index c.args.places.now c.loop-place-test.false) c.loop-place.invariant
