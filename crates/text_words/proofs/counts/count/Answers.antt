use Rattle.std.proofs.Common.{◌∙◌, ◌+◌, List, ℕ, sym, ap, rules}
use Rattle.indexmap.specs.IndexMap.{insert_entry}
use Rattle.std.specs.Str.{bytes_eq}
use Rattle.text_words.proofs.CountLemmas.{bump-known, bump-new}
use Rattle.text_words.proofs.counts.count.Goals as goal

pub returns-in-Some : goal.returns-in-Some
returns-in-Some c =
    (c.get_mut.follows.holds (c.in-Some.n.now + 1)).0
    ∙ bump-known bytes_eq c.args.counts.now.entries c.args.key c.in-Some.n.now (sym c.in-Some.ensures.value)

pub returns : goal.returns
returns c = c.in_ok-insert.ensures.entries ∙ ap (λ (l : List (List ℕ × ℕ)). insert_entry bytes_eq l c.args.key 1) (search rules) ∙ bump-new bytes_eq c.args.counts.now.entries c.args.key (sym c.in_default.ensures.value)
