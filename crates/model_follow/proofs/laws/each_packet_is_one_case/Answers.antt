use Rattle.model_follow.proofs.CaseLemmas.{ends_are_apart, packets_have_cases, steps_are_no_ends, steps_are_one}
use Rattle.model_follow.proofs.laws.each_packet_is_one_case.Goals as goal

pub returns : goal.returns
returns c = record { one = steps_are_one; steps = steps_are_no_ends; ends = ends_are_apart; each = packets_have_cases }
