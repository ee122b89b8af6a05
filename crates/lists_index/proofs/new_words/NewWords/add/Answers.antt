use Rattle.std.proofs.Common.{◌≡◌, ◌∙◌, ◌++◌, ℕ, List, Err, Option, ap, length, length-append, option_map, refl, sym, subst, arith}
use Rattle.text_words.specs.Words.{with_all}
use Rattle.text_words.specs.declared.vocabulary.NumberError.{NumberError}
use Rattle.lists_index.specs.Indexes.{state_of, IndexState}
use Rattle.lists_index.specs.Measuring.{words_with, IsMeasured, IsParted}
use Rattle.lists_index.proofs.Measured.{longer}
use Rattle.lists_index.proofs.NewWordSteps.{all-are, brings-more, each-once, with-next}
use Rattle.lists_index.proofs.new_words.NewWords.add.Goals as goal

pub returns-in-Err-clause-full : goal.returns-in-Err-clause-full
returns-in-Err-clause-full c = λ full changes coming next stands brings held.
    let words = (state_of c.args.index.now).words in
    let old = c.args.self.now.words.words in
    let count = c.words-words.ensures.count ∙ ap (λ (i : IndexState). length i.words) c.in_ok-weighed.ensures.same in
    let parted = c.in_ok-parted.ensures words _ count c.in_ok-weighed.ensures.known c.in_ok-weighed.ensures.fresh in
    let is = with-next changes coming words old stands.words_are brings next ∙ ap (words_with (words ++ old)) held in
    let is_full : c.in-Err.why ≡ NumberError.Full = (let shown = full in cc) in
    omega (arith, c.in-Err.ensures.full (ap Err is_full), longer parted, length-append words old, count, c.len.ensures.count, ap length is)

pub returns-clause-prepared : goal.returns-clause-prepared
returns-clause-prepared c = λ changes coming stands brings.
    let words = (state_of c.args.index.now).words in
    let old = c.args.self.now.words.words in
    let count = c.words-words.ensures.count ∙ ap (λ (i : IndexState). length i.words) c.in_ok-weighed.ensures.same in
    let held = option_map (λ t. t.now) c.args.text in
    let parted = c.in_ok-parted.ensures words held count c.in_ok-weighed.ensures.known c.in_ok-weighed.ensures.fresh in
    let measured = c.in-Ok.ensures.measured (words ++ old) held (omega (arith, length-append words old, count, c.len.ensures.count)) (each-once changes coming words old stands.words_are brings) parted in
    record { doc_is = refl; measured = subst (λ (ws : List (List ℕ)). IsMeasured ws held c.in-Ok.measured.fresh.items c.in-Ok.measured.weights) (sym (all-are changes coming words old stands.words_are brings)) measured }

pub returns-clause-added : goal.returns-clause-added
returns-clause-added c = λ changes coming next stands brings held.
    let words = (state_of c.args.index.now).words in
    let old = c.args.self.now.words.words in
    let count = c.words-words.ensures.count ∙ ap (λ (i : IndexState). length i.words) c.in_ok-weighed.ensures.same in
    let parted = c.in_ok-parted.ensures words _ count c.in_ok-weighed.ensures.known c.in_ok-weighed.ensures.fresh in
    let parted_next = subst (λ (o : Option (List ℕ)). IsParted (words ++ old) o c.in_ok-parted.parted.known.items c.in_ok-parted.parted.fresh.items c.in_ok-parted.parted.counts.items) (sym held) parted in
    let after : c.number_all.new.vocabulary.words ≡ with_all old c.in_ok-parted.parted.fresh.items =
    c.number_all.ensures ∙ ap (λ (ws : List (List ℕ)). with_all ws c.in_ok-to_vec.field-0.items) c.in-Ok-reserve.ensures.same
    ∙ ap (with_all old) (c.in_ok-to_vec.ensures.items_if_clones_equal (λ x y e. e) ∙ c.deref-2.ensures.value ∙ c.in-Ok.ensures.fresh) in
    let is = brings-more changes coming words old stands.words_are brings next _ _ _ _ parted_next after in
    let size = with-next changes coming words old stands.words_are brings next ∙ ap (words_with (words ++ old)) held in (
      is ∙ ap (λ (ws : List (List ℕ)). ws ++ c.number_all.new.vocabulary.words) stands.words_are,
      omega (arith, c.in-Ok.ensures.fits, longer parted, length-append words old, count, c.len.ensures.count, ap length size),
    )
