-- Worked rows, which hold by computation.
use Rattle.std.specs.Prelude.{◌≡◌, [], ◌∷◌, replicate, refl}
use Rattle.pages_area.specs.Caches.{Kept, after_asking, after_asking_within, after_asking_all, missed, missed_by_all}
use Rattle.pages_area.specs.Pieces.{piece_size, pieces, without_run}

-- places of 18, 22 and 18 bytes in the pages 0, 1 and 2
abbrev zero : Kept
zero = record { page = 0; bytes = replicate 18 7 }

abbrev one : Kept
one = record { page = 1; bytes = replicate 22 8 }

abbrev two : Kept
two = record { page = 2; bytes = replicate 18 9 }

-- each has one piece
pub one_piece : pieces 1 (replicate 22 8) ≡ one ∷ []
one_piece = refl

-- asking for page 0, again for page 0 and for page 1 reads 18, 0 and 22 bytes
pub first_is_read : missed zero [] ≡ 18
first_is_read = refl

pub again_is_not : missed zero (after_asking zero []) ≡ 0
again_is_not = refl

pub other_is_read : missed one (after_asking_all (zero ∷ zero ∷ []) []) ≡ 22
other_is_read = refl

pub forty_in_all : missed_by_all (zero ∷ zero ∷ one ∷ []) [] ≡ 40
forty_in_all = refl

-- the page that was used last is first
pub last_is_first : after_asking_all (zero ∷ one ∷ two ∷ zero ∷ []) [] ≡ zero ∷ two ∷ one ∷ []
last_is_first = refl

-- where two pages are kept at most, the one that was used longest ago leaves
pub oldest_leaves : after_asking_within 2 two (one ∷ zero ∷ []) ≡ two ∷ one ∷ []
oldest_leaves = refl

-- a hit lets none go
pub hit_keeps_all : after_asking_within 2 zero (one ∷ zero ∷ []) ≡ zero ∷ one ∷ []
hit_keeps_all = refl

-- a piece of another length is a miss, and takes the place of the old one
abbrev longer : Kept
longer = record { page = 0; bytes = replicate 22 7 }

pub longer_is_read : missed longer (one ∷ zero ∷ []) ≡ 22
longer_is_read = refl

pub longer_is_kept : after_asking longer (one ∷ zero ∷ []) ≡ longer ∷ one ∷ []
longer_is_kept = refl

-- pages that are given back leave
pub given_back : without_run 0 2 (two ∷ one ∷ zero ∷ []) ≡ two ∷ []
given_back = refl

-- 4,097 bytes have a whole page and a piece of one byte
pub whole_page : piece_size 4097 0 ≡ 4096
whole_page = refl

pub last_byte : piece_size 4097 1 ≡ 1
last_byte = refl
