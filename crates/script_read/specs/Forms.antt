-- Forms of lines: `document ▸ time ▸ end` is a word that names a document, one that names a time, and no more. A form takes what is made of the
-- values that it reads, as a function of them, and the words that are left of a line; it gives what is made, where the words have the form.
use Prim.Native.String.{String}
use Rattle.std.specs.Prelude.{ℕ, if◌then◌else◌, List, [], ◌∷◌, Option, None, option_map, bytes_eq, codes}
use Rattle.std.specs.Bool.{then_some}
use Rattle.std.specs.Option.{option_or}
use Rattle.script_read.specs.Making.{◌>>=◌}
use Rattle.script_read.specs.Words.{word, after_word, is_blank}

abbrev pub Form : Type 0 → Type 0 → Type 0
Form A B = A → List ℕ → Option B

-- A word that has a value, and then this form.
infixr 20 ◌▸◌
abbrev pub ◌▸◌ : {A B C : Type 0} → (List ℕ → Option A) → Form B C → Form (A → B) C
(read ▸ form) make words = do a ← read (word words); form (make a) (after_word words)

-- This word itself, and then this form.
infixr 20 ◌▹◌
abbrev pub ◌▹◌ : {A B : Type 0} → String → Form A B → Form A B
(name ▹ form) make words = if bytes_eq (word words) (codes name) then form make (after_word words) else None

-- No more words.
abbrev pub end : {A : Type 0} → Form A A
end made words = then_some (is_blank words) made

-- All that is left, where it has a value.
abbrev pub rest : {A B : Type 0} → (List ℕ → Option A) → Form (A → B) B
rest read make words = option_map make (read words)

-- This form, where there is something to be made.
abbrev pub checked : {A B : Type 0} → Form A B → Form (Option A) B
checked form made words = do make ← made; form make words

-- One form or the other.
infixr 10 ◌or◌
abbrev pub ◌or◌ : {A : Type 0} → (List ℕ → Option A) → (List ℕ → Option A) → List ℕ → Option A
(one or other) words = option_or (one words) (other words)

-- The form that stands beside this name in a table.
abbrev pub named : {A : Type 0} → List (String × (List ℕ → Option A)) → List ℕ → List ℕ → Option A
named [] name words = None
named ((n, form) ∷ table) name words = if bytes_eq name (codes n) then form words else named table name words
