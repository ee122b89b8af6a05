use Rattle.std.proofs.Common.{ap, ◌∙◌, rules}
use Rattle.std.proofs.lemmas.List.Sorted.{answers_always}
use Rattle.query_eval.specs.Found.{once}
use Rattle.query_eval.proofs.FoundLemmas.{sorted-are}
use Rattle.query_eval.proofs.ranking.rank.Goals as goal

pub returns : goal.returns
returns c =
    sorted-are c.args.rows.now.items c.sort_unstable_by_key.new.self.items c.in_ok-rows.field-0.items c.sort_unstable_by_key.ensures.permutation
    (λ k d a b. c.sort_unstable_by_key.ensures.sorted (λ row. (record { 0 = row.score }, row.doc)) (answers_always _ _ _ (λ f a r g m. search rules)) k d a b)
    (c.in_ok-rows.ensures ∙ ap once c.deref.ensures.value)
