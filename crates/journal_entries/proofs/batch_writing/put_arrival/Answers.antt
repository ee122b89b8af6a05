use Rattle.std.proofs.Common.{arith, ◌∙◌, ap, ◌++◌, List, ℕ}
use Rattle.journal_entries.proofs.ActLemmas.{arrival_written}
use Rattle.journal_entries.proofs.batch_writing.put_arrival.Goals as goal

pub returns-clause-added : goal.returns-clause-added
returns-clause-added c =
    arrival_written c.args.doc c.args.at c.args.text.now c.args.out.now.items c.put_number.new.out.items c.put_change.new.out.items c.extend_from_slice.new.self.items _ (omega arith)
    c.in_ok-put_number.ensures c.in_ok-put_change.ensures (c.in_ok-extend_from_slice.ensures.items ∙ ap (λ (xs : List ℕ). c.put_change.new.out.items ++ xs) c.as_bytes.ensures.value)
