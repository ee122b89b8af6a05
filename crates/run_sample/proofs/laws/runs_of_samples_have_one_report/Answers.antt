use Rattle.run_sample.proofs.LawLemmas.{one_report, reports}
use Rattle.run_sample.proofs.laws.runs_of_samples_have_one_report.Goals as goal

pub returns : goal.returns
returns c = record { report = reports; one = one_report }
