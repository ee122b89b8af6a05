use Rattle.std.proofs.Common.{◌≡◌, ◌∙◌, ◌++◌, ◌∷◌, [], List, sym, arith, ap, length}
use Rattle.std.proofs.lemmas.List.{length-append}
use Rattle.base_types.specs.declared.text_place.TextPlace.{TextPlace}
use Rattle.lists_versions.specs.declared.change.Change.{Change}
use Rattle.lists_versions.specs.Newest.{newest_of}
use Rattle.lists_versions.proofs.Comings.{counted-new, counted-known, newest-more}
use Rattle.lists_versions.proofs.coming.Coming.add.Goals as goal

pub returns-in-None-clause-counted : goal.returns-in-None-clause-counted
returns-in-None-clause-counted c =
    let items : c.push_reserved.new.self.items ≡ c.args.self.now.changes.items ++ c.args.change ∷ [] = c.push_reserved.ensures.items ∙ ap (λ (l : List (Change TextPlace)). l ++ c.args.change ∷ []) c.in_ok-reserve.ensures.items in
    record {
      is = counted-new c.args.directory.now.changes c.args.self.now.changes.items c.push_reserved.new.self.items c.args.change c.args.self.now.fresh items (sym c.latest-before.ensures ∙ c.in-None.is) c.requires.is;
      few = omega (arith, c.requires.few, ap length items, length-append c.args.self.now.changes.items (c.args.change ∷ []));
      newest_are = newest-more c.args.change c.args.self.now.changes.items c.push_reserved.new.self.items (newest_of c.args.self.now.newest) (newest_of c.put.new.self) items c.requires.newest_are c.in_ok-put.ensures.put;
    }

pub returns-in-Some-clause-counted : goal.returns-in-Some-clause-counted
returns-in-Some-clause-counted c =
    let items : c.push_reserved.new.self.items ≡ c.args.self.now.changes.items ++ c.args.change ∷ [] = c.push_reserved.ensures.items ∙ ap (λ (l : List (Change TextPlace)). l ++ c.args.change ∷ []) c.in_ok-reserve.ensures.items in
    record {
      is = counted-known c.args.directory.now.changes c.args.self.now.changes.items c.push_reserved.new.self.items c.args.change _ c.args.self.now.fresh items (sym c.latest-before.ensures ∙ c.in-Some.is) c.requires.is;
      few = omega (arith, c.requires.few, ap length items, length-append c.args.self.now.changes.items (c.args.change ∷ []));
      newest_are = newest-more c.args.change c.args.self.now.changes.items c.push_reserved.new.self.items (newest_of c.args.self.now.newest) (newest_of c.put.new.self) items c.requires.newest_are c.in_ok-put.ensures.put;
    }
