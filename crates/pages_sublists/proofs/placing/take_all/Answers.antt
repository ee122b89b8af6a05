use Rattle.std.proofs.Common.{◌++◌, [], take, arith, sym, subst}
use Rattle.pages_area.specs.Taken.{PagesState, HasTaken}
use Rattle.pages_sublists.specs.Preparing.{extents}
use Rattle.pages_sublists.proofs.AtLemmas.{each_more, taken_more, first_fault}
use Rattle.pages_sublists.proofs.placing.take_all.Goals as goal

pub returns-in-Err-clause-refused : goal.returns-in-Err-clause-refused
returns-in-Err-clause-refused c = λ taken has.
    first_fault c.loop-k.pages c.args.places.now c.args.spellings.now c.loop-k.k c.index-places-k.result c.index-spellings-k.result taken c.in-Err.error (omega (arith, c.loop-k-test.true)) c.index-places-k.is
    c.index-spellings-k.is c.loop-k.invariant.each (c.loop-k.invariant.taken taken has) c.in-Err.ensures.refused

pub returns-in-Err-clause-none : goal.returns-in-Err-clause-none
returns-in-Err-clause-none c = λ taken has.
    let P : PagesState → Type 0 = λ s. HasTaken s (extents (take c.loop-k.k c.args.places.now) ++ taken) in
    c.release.ensures.freed [] taken (subst P (sym c.in-Err.ensures.pages) (c.loop-k.invariant.taken taken has))

pub loop-k-preserved : goal.loop-k-preserved
loop-k-preserved c =
    let k = c.loop-k.k in
    record {
      each = each_more c.args.places.now c.args.spellings.now k c.index-places-k.result c.index-spellings-k.result (omega (arith, c.loop-k-test.true)) (omega (arith, c.loop-k-test.true, c.requires.as_many))
          c.index-places-k.is c.index-spellings-k.is c.loop-k.invariant.each c.in-Ok.ensures.suits;
      taken = λ taken has.
          taken_more c.take_place.new.pages c.args.places.now k c.index-places-k.result taken (omega (arith, c.loop-k-test.true)) c.index-places-k.is
          (c.in-Ok.ensures.taken (extents (take k c.args.places.now) ++ taken) (c.loop-k.invariant.taken taken has));
    }
