use Rattle.std.proofs.Common.{◌≡◌, ◌++◌, ◌∷◌, [], length, vec_len, option_map, refl, ap, sym, subst, ◌∙◌, arith, rules}
use Rattle.lists_tails.specs.declared.document.Turn.{Turn}
use Rattle.text_words.specs.Words.{with_all}
use Rattle.lists_index.specs.declared.loader.Loader.{Loader}
use Rattle.lists_index.specs.Loads.{loaded}
use Rattle.lists_index.specs.Measuring.{IsMeasured}
use Rattle.lists_index.proofs.Loading.{added}
use Rattle.lists_index.proofs.loader.Loader.add.Goals as goal

pub returns-clause-added : goal.returns-clause-added
returns-clause-added c = λ changes stands early.
    let after : Loader = record { vocabulary = c.number_all.new.vocabulary; places = c.measure.new.places; turns = c.push_reserved.new.self } in
    let x : Turn = record { doc = c.args.doc; at = c.args.at; weights = c.into_items.result } in
    let held = option_map (λ t. t.now) c.args.text in
    let n : vec_len c.args.self.now.turns ≡ length c.args.self.now.turns.items = search rules in
    added c.held_as_changes_come.ensures (loaded c.args.self.now) (loaded after) changes (record { doc = c.args.doc; at = c.args.at; held = held }) x c.in_ok-measured.measured.fresh.items refl refl
    (subst (IsMeasured c.args.self.now.vocabulary.words held c.in_ok-measured.measured.fresh.items) (sym c.into_items.ensures.value) c.in_ok-measured.ensures.measured)
    (c.number_all.ensures ∙ ap (λ ws. with_all ws c.in_ok-measured.measured.fresh.items) c.in_ok-reserve-2.ensures.same)
    (c.push_reserved.ensures.items ∙ ap (λ l. l ++ x ∷ []) c.in_ok-reserve.ensures.items)
    c.into_items.ensures.ascending (omega (arith, n, c.len.ensures, c.if-len-ge-MOST_TURNS.false)) stands early
