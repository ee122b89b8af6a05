use Rattle.std.proofs.Common.{◌∙◌, sym}
use Rattle.std.specs.HashMap.{keys}
use Rattle.std.proofs.lemmas.List.Sorted.{length_permutation}
use Rattle.std.proofs.lemmas.Map.Entries.{length-keys_of}
use Rattle.lists_versions.specs.Changes.{documents}
use Rattle.lists_versions.proofs.directory.Directory.documents.Goals as goal

-- src/directory.rt:87:5
pub returns : goal.returns
returns c = rw (← c.self.view_is) (c.len.ensures.len ∙ sym (length-keys_of c.self.inside.latest.entries) ∙ sym (length_permutation (keys c.self.inside.latest) (documents c.self.inside.log.items) c.self.invariant.each_once))
