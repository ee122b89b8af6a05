use Rattle.std.proofs.Common.{◌≡◌, ℕ, List, take}
use Rattle.std.specs.List.{filter_map}
use Rattle.base_types.specs.declared.ids.DocId.{DocId}
use Rattle.query_lang.specs.Meaning.{words_of}
use Rattle.query_eval.specs.Found.{row_of}
use Rattle.query_eval.specs.Hits.{Tell}
use Rattle.query_eval.proofs.found.rows_of.Given as goal

abbrev pub invariant-loop-i : goal.invariant-loop-i
invariant-loop-i l = (often : DocId → List ℕ → ℕ) → Tell l.hits (words_of l.query) often → l.rows.items ≡ filter_map (λ doc. row_of l.query (often doc) doc) (take l.i l.alive)
