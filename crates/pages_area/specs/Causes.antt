-- Why a page isn't read.
use Rattle.pages_area.specs.declared.error.PageError.{PageError}
use Rattle.pages_area.specs.declared.error.PageError.TheVariants.{Failed, Memory}

-- the first holds where the disk failed, and the second where there was no memory
abbrev pub IsCause : Type 0 → Type 0 → PageError → Type 0
IsCause failed memory Failed = failed
IsCause failed memory Memory = memory
