use Rattle.std.proofs.Common.{◌≡◌, ◌∙◌, ap, sym, Some, None, nat_eq, length, rules}
use Rattle.std.proofs.lemmas.Bool.{eq-eqb, ne_eqb}
use Rattle.std.specs.Map.{lookup}
use Rattle.std.specs.Option.{option_copied, is_some}
use Rattle.pages_area.specs.Caches.{Kept, after_asking}
use Rattle.pages_area.specs.Inside.{kept_of}
use Rattle.pages_area.proofs.EntryLemmas.{hit-is, among, promoted-first, front-asked, order-asked}
use Rattle.pages_area.proofs.kept.copy_kept.Goals as goal

pub returns-then-len-buf-clause-found : goal.returns-then-len-buf-clause-found
returns-then-len-buf-clause-found c =
    let is : lookup (nat_eq c.args.page) c.args.kept.now.entries ≡ Some c.in-Some.piece.now = sym c.peek.ensures ∙ ap option_copied c.in-Some.is in
    sym (hit-is c.args.page (length c.args.buf.now) _ _ c.requires.order.distinct is
    ∙ ne_eqb (length c.args.buf.now) (length c.in-Some.piece.now.items) (λ same. c.if-len-buf.true (c.len.ensures ∙ c.in-Some.piece.now.ok.0 ∙ sym same)))

pub returns-in-None-clause-found : goal.returns-in-None-clause-found
returns-in-None-clause-found c =
    sym (hit-is c.args.page (length c.args.buf.now) _ None c.requires.order.distinct (sym c.peek.ensures ∙ ap option_copied c.in-None.is))

pub returns : goal.returns
returns c =
    let is : lookup (nat_eq c.args.page) c.args.kept.now.entries ≡ Some c.in-Some.piece.now = sym c.peek.ensures ∙ ap option_copied c.in-Some.is in
    let k : Kept = record { page = c.args.page; bytes = c.copy_from_slice.new.self } in
    let bytes : c.copy_from_slice.new.self ≡ c.in-Some.piece.now.items = c.copy_from_slice.ensures.after ∙ c.deref.ensures.value in
    let asked : kept_of c.promote.new.self.entries ≡ after_asking k (kept_of c.args.kept.now.entries) =
    rw bytes (ap (λ d. kept_of d.entries) c.promote.ensures.entries ∙ promoted-first c.args.page _ _ is ∙ front-asked _ c.args.kept.now c.requires.order (ap is_some is)) in
    record {
      found = c.promote.ensures.value ∙ ap is_some is ∙ sym (hit-is c.args.page (length c.args.buf.now) _ _ c.requires.order.distinct is
          ∙ eq-eqb (length c.args.buf.now) (length c.in-Some.piece.now.items) (sym c.if-len-buf.false ∙ c.len.ensures ∙ c.in-Some.piece.now.ok.0));
      piece = λ yes. rw bytes (among c.args.page _ c.in-Some.piece.now is);
      moved = λ yes. asked;
      order = order-asked c.args.kept.now c.promote.new.self k c.requires.order (ap (λ d. d.cap) c.promote.ensures.entries) asked;
      same = search rules;
    }
