use Rattle.std.proofs.Common.{rules, ◌≡◌, ◌∙◌, ◌+◌, ◌++◌, ◌∷◌, [], List, ℕ, map, ap, sym}
use Rattle.std.proofs.lemmas.List.{map-append, map-id}
use Rattle.std.proofs.lemmas.Iterator.Consumers.{YieldsList-end}
use Rattle.std.proofs.lemmas.Iterator.Adapters.{YieldsList-from_vec}
use Rattle.lists_index.proofs.Behind.{fresh-known, fresh-more, known-more, known-same, parted-behind}
use Rattle.lists_index.proofs.measure.part_behind.Goals as goal

pub loop-key-preserved-in-Some-find : goal.loop-key-preserved-in-Some-find
loop-key-preserved-in-Some-find c =
    let more = c.args.brought.now.words in
    let same = fresh-known c.in-Some-find.id.number c.in-Some.count c.in-Some.key more c.loop-key.yielded c.in-Some-find.ensures in
    record {
      known = c.in_ok-push-in-Some-find.ensures.items ∙ ap (λ (n : ℕ). c.loop-key.known.items ++ (c.args.words + n, c.in-Some.count) ∷ []) c.number.ensures.value
          ∙ known-more c.args.words c.in-Some-find.id.number c.in-Some.count c.in-Some.key more c.args.weighed.known.items c.loop-key.known.items c.loop-key.yielded c.in-Some-find.ensures c.loop-key.invariant.known;
      keys = c.loop-key.invariant.keys ∙ ap (map (λ e. e.0)) same;
      counts = c.loop-key.invariant.counts ∙ ap (map (λ e. e.1)) same;
    }

pub loop-key-preserved : goal.loop-key-preserved
loop-key-preserved c =
    let more = c.args.brought.now.words in
    let step = fresh-more c.in-Some.count c.in-Some.key more c.loop-key.yielded c.in-None-find.ensures in
    record {
      known = known-same c.args.words c.in-Some.count c.in-Some.key more c.args.weighed.known.items c.loop-key.known.items c.loop-key.yielded c.in-None-find.ensures c.loop-key.invariant.known;
      keys = c.in_ok-push-in-None-find.ensures.items ∙ ap (λ (l : List (List ℕ)). l ++ c.in-Some.key ∷ []) c.loop-key.invariant.keys
          ∙ sym (ap (map (λ e. e.0)) step ∙ map-append (λ (e : List ℕ × ℕ). e.0) _ _);
      counts = c.in_ok-push-in-None-find-2.ensures.items ∙ ap (λ (l : List ℕ). l ++ c.in-Some.count ∷ []) c.loop-key.invariant.counts
          ∙ sym (ap (map (λ e. e.1)) step ∙ map-append (λ (e : List ℕ × ℕ). e.1) _ _);
    }

pub returns : goal.returns
returns c = λ front held is known fresh.
    let end = YieldsList-end (YieldsList-from_vec {s = c.into_iter-key-iterator.result} c.args.weighed.fresh.items c.into_iter-key-iterator.ensures.into_iter_gives.0 (search (rules, c.into_iter-key-iterator.ensures.into_iter_gives.1))) c.loop-key.yielded c.loop-key.key-iterator c.loop-key.yielded_by c.next.result c.next.new.self c.in-None.is c.next.ensures.steps in
    let all : c.loop-key.yielded ≡ c.args.weighed.fresh.items = sym (map-id c.loop-key.yielded) ∙ end.0 in
    parted-behind front c.args.brought.now.words held c.args.words c.args.weighed.known.items c.loop-key.known.items c.loop-key.yielded c.loop-key.keys.items c.loop-key.counts.items is known (all ∙ fresh)
    c.loop-key.invariant.known c.loop-key.invariant.keys c.loop-key.invariant.counts
