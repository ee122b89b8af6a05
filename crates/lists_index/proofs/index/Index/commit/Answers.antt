use Rattle.std.proofs.Common.{◌≡◌, ℕ, ◌==◌, Bool, true, false, cond, List, [], ◌∷◌, ◌++◌, refl, ap, subst, ◌∙◌}
use Rattle.base_types.specs.declared.ids.DocId.{DocId}
use Rattle.lists_tails.specs.declared.weight.Weight.{Weight}
use Rattle.lists_tails.specs.Weights.{weight_of}
use Rattle.lists_index.specs.declared.index.Index.{Index}
use Rattle.lists_index.specs.Indexing.{AreIndexed, ComesLater}
use Rattle.lists_index.specs.Indexes.{state_of, seen}
use Rattle.lists_index.proofs.Steps.{goes_on}
use Rattle.lists_index.proofs.index.Index.commit.Goals as goal

pub returns : goal.returns
returns c = λ changes doc held stands f.
    let after : Index = record { vocabulary = c.number_all.new.vocabulary; places = c.args.self.now.places; tails = c.turn.new.self; newest = c.put.new.self } in
    subst (λ (d : DocId). ComesLater changes (record { doc = d; at = c.args.at; held = held }) → AreIndexed (seen (state_of after)) (changes ++ record { doc = d; at = c.args.at; held = held } ∷ [])) f.doc_is
    (λ early. goes_on c.held_as_changes_come.ensures changes (record { doc = c.args.change.doc; at = c.args.at; held = held }) (λ w. weight_of w c.args.change.weights) (seen (state_of c.args.self.now)) (seen (state_of after)) stands early (record {
      weights_are = f.measured.weights_are;
      words_are = c.number_all.ensures ∙ f.measured.fresh_are;
      turned = λ w. rw (c.weights.ensures.value, c.as_slice.ensures.value) at c.turn.ensures.turned w;
      open_are = λ d w. ap (weight_of w) (c.put.ensures.put d) ∙ either w (d == c.args.change.doc.0) c.args.change.weights _;
    }))
  where
    either : (w : ℕ) (b : Bool) (one other : List Weight) → weight_of w (cond b one other) ≡ cond b (weight_of w one) (weight_of w other)
    either w true one other = refl
    either w false one other = refl
