-- The words of a line.
use Rattle.std.specs.Prelude.{ℕ, ◌==◌, Bool, if◌then◌else◌, List, [], ◌∷◌, length, drop}
use Rattle.std.specs.List.{before_first, list_all}

abbrev pub is_space : ℕ → Bool
is_space b = b == 32

-- a line without the spaces at its front
abbrev pub after_spaces : List ℕ → List ℕ
after_spaces [] = []
after_spaces (b ∷ bs) = if is_space b then after_spaces bs else b ∷ bs

-- the first word of a line, without a byte where there is none
abbrev pub word : List ℕ → List ℕ
word line = before_first is_space (after_spaces line)

-- what stands behind the first word of a line
abbrev pub after_word : List ℕ → List ℕ
after_word line = drop (length (word line)) (after_spaces line)

-- no word stands here
abbrev pub is_blank : List ℕ → Bool
is_blank line = list_all is_space line

-- the bytes up to the last that is no space
abbrev pub without_last_spaces : List ℕ → List ℕ
without_last_spaces [] = []
without_last_spaces (b ∷ bs) = if is_blank (b ∷ bs) then [] else b ∷ without_last_spaces bs

-- the words of a line as one text, from the first byte of the first to the last byte of the last
abbrev pub phrase : List ℕ → List ℕ
phrase line = without_last_spaces (after_spaces line)
