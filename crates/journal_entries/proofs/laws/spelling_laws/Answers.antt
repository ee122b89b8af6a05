use Rattle.journal_entries.proofs.EntryLemmas.{one_entry, entry_long, entry_short}
use Rattle.journal_entries.proofs.FaultLemmas.{a_fault, one_fault}
use Rattle.base_types.proofs.Bytes.{IsBytes-from_all}
use Rattle.std.specs.Prelude.{refl}
use Rattle.journal_entries.proofs.laws.spelling_laws.Goals as goal

pub returns-clause-one_entry : goal.returns-clause-one_entry
returns-clause-one_entry c = one_entry

pub returns-clause-no_fault : goal.returns-clause-no_fault
returns-clause-no_fault c = λ e fits at fault. fault.misspelled e fits refl

pub returns-clause-a_fault : goal.returns-clause-a_fault
returns-clause-a_fault c = λ bytes fits none. a_fault bytes (IsBytes-from_all bytes fits) none

pub returns-clause-one_fault : goal.returns-clause-one_fault
returns-clause-one_fault c = one_fault

pub returns-clause-in_body : goal.returns-clause-in_body
returns-clause-in_body c = λ bytes at fault. fault.within

pub returns-clause-at_least : goal.returns-clause-at_least
returns-clause-at_least c = entry_long

pub returns-clause-at_most : goal.returns-clause-at_most
returns-clause-at_most c = entry_short
