use Rattle.std.proofs.Common.{◌∙◌, sym}
use Rattle.lists_versions.proofs.Comings.{latest-back, latest-front}
use Rattle.lists_versions.proofs.coming.Coming.latest.Goals as goal

pub returns-in-Some : goal.returns-in-Some
returns-in-Some c = sym (latest-back c.args.doc c.args.directory.now.changes c.args.self.now.changes.items c.in-Some.change (sym (c.requires.newest_are c.args.doc) ∙ sym c.in-Some.ensures))

pub returns-in-None : goal.returns-in-None
returns-in-None c = c.latest.ensures ∙ sym (latest-front c.args.doc c.args.directory.now.changes c.args.self.now.changes.items (sym (c.requires.newest_are c.args.doc) ∙ sym c.in-None.ensures))
