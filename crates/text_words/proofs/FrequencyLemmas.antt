-- How often one word occurs among runs.
use Rattle.std.proofs.Common.{ℕ, ◌≤◌, List, length, arith, chars}
use Rattle.std.proofs.lemmas.List.Sums.{count_by-le-length}
use Rattle.std.specs.Str.{bytes_eq}
use Rattle.text_words.specs.Terms.{keys_of, runs, times, occurrences}
use Rattle.text_words.proofs.CountLemmas.{length-keys_of}
use Rattle.text_words.proofs.RunLemmas.{length-text_runs}

-- it occurs at most once a run
times-runs : (word : List ℕ) (done : List (List ℕ)) → times word (keys_of done) ≤ length done
times-runs word done = omega (arith, count_by-le-length (bytes_eq word) (keys_of done), length-keys_of done)

pub occurrences-le : (word text : List ℕ) → occurrences word text ≤ length text
occurrences-le word text = omega (arith, times-runs word (runs (chars text)), length-text_runs text)
