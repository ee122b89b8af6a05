use Rattle.pages_codec.specs.Flat.{spelling, list_at}
use Rattle.pages_codec.proofs.LayoutLemmas.{layout_of}
use Rattle.pages_codec.proofs.FlatLemmas.{flat_codec, spelling-length}
use Rattle.pages_codec.proofs.laws.flat_laws.Goals as goal

pub returns-clause-layout : goal.returns-clause-layout
returns-clause-layout c = layout_of spelling list_at flat_codec

pub returns-clause-bytes : goal.returns-clause-bytes
returns-clause-bytes c = spelling-length
