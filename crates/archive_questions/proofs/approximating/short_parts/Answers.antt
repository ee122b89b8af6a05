use Rattle.std.proofs.Common.{◌+◌, ◌++◌, ◌∷◌, List, [], length, take, ap, sym, subst, ◌∙◌, arith}
use Rattle.std.specs.List.{AllZip}
use Rattle.std.proofs.lemmas.List.{take_all, take_more}
use Rattle.std.proofs.lemmas.Slice.Zip.{AllZip-long}
use Rattle.query_eval.specs.Found.{read_of}
use Rattle.query_eval.specs.declared.part.Part.{Part}
use Rattle.model_archive.specs.Rough.{IsShortPart}
use Rattle.archive_questions.proofs.RoughLemmas.{read_more, short_more}
use Rattle.archive_questions.proofs.approximating.short_parts.Goals as goal

pub loop-part-preserved : goal.loop-part-preserved
loop-part-preserved c =
    let was = c.loop-part.invariant in
    let done = c.in_ok-short.ensures in
    let tolerance = c.args.tolerance in
    let index = c.loop-part.part-index in
    let parts = take index c.args.parts.now in
    let shorts = c.loop-part.shorts.items in
    let part = c.part-item.result in
    let short = c.in_ok-short.short in
    let put = c.in_ok-push.ensures.items in
    let next = take_more c.args.parts.now index part c.loop-part-test.true ∙ ap (λ (p : Part). parts ++ p ∷ []) (sym c.part-item.is) in
    record {
      short =
          subst (λ (l : List Part). AllZip (IsShortPart tolerance) (take (index + 1) c.args.parts.now) l) (sym put)
          (subst (λ (l : List Part). AllZip (IsShortPart tolerance) l (shorts ++ short ∷ [])) (sym next) (short_more tolerance parts shorts part short was.short done.short));
      read = omega (arith, ap read_of put, read_more shorts short, read_more parts part, ap read_of next, was.read, done.read);
    }

pub returns-clause-many : goal.returns-clause-many
returns-clause-many c =
    let index = c.loop-part.part-index in
    AllZip-long (IsShortPart c.args.tolerance) (take index c.args.parts.now) c.loop-part.shorts.items c.loop-part.invariant.short
    ∙ ap length (take_all index c.args.parts.now (omega (arith, c.loop-part-test.false)))
