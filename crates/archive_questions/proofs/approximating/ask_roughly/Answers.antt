use Rattle.archive_questions.proofs.AskedLemmas.{after_fetching, after_no_query}
use Rattle.archive_questions.proofs.approximating.ask_roughly.Goals as goal

pub returns-in-Err-clause-after : goal.returns-in-Err-clause-after
returns-in-Err-clause-after g c = after_no_query _ _ _ _ _ _ c.from.result c.in-Err.why _ _ c.as_str.ensures.value c.from.ensures c.in-Err.ensures.bad

pub returns-in-Ok-clause-after : goal.returns-in-Ok-clause-after
returns-in-Ok-clause-after g c =
    let made = c.rough_answer_of.ensures in
    after_fetching _ _ _ _ _ _ c.in-Ok.query c.asked.result c.rough_answer_of.result _ _ _ _ c.as_str.ensures.value c.in-Ok.ensures.query c.asked.ensures made.after made.fetched
