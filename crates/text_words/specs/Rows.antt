-- Worked rows, which hold by computation.
use Rattle.std.specs.Prelude.{◌≡◌, [], ◌∷◌, ◌++◌, Some, None, codes, refl}
use Rattle.std.specs.Str.{chars}
use lib.Utf8.{encode}
use Rattle.ucd_category.proofs.Computing.{ucd_category}
use Rattle.unicode_normalization.proofs.Computing.{unicode_normalization}
use Rattle.caseless.proofs.Computing.{caseless}
use Rattle.text_words.specs.Terms.{keys, one_term, occurrences}
use Rattle.text_words.specs.Words.{counted, weights_of}

-- "Straße" and "STRASSE" are one word
pub straße : keys (codes "Stra" ++ 0xC3 ∷ 0x9F ∷ codes "e STRASSE") ≡ codes "strasse" ∷ codes "strasse" ∷ []
unfolding ucd_category caseless unicode_normalization chars encode
straße = refl

-- é in one character and in two are one word
pub e_acute : keys (0xC3 ∷ 0xA9 ∷ 32 ∷ 0x65 ∷ 0xCC ∷ 0x81 ∷ []) ≡ (0x65 ∷ 0xCC ∷ 0x81 ∷ []) ∷ (0x65 ∷ 0xCC ∷ 0x81 ∷ []) ∷ []
unfolding ucd_category caseless unicode_normalization chars encode
e_acute = refl

-- the final sigma, the other and the capital are one word
pub sigma : keys (0xCF ∷ 0x82 ∷ 32 ∷ 0xCF ∷ 0x83 ∷ 32 ∷ 0xCE ∷ 0xA3 ∷ []) ≡ (0xCF ∷ 0x83 ∷ []) ∷ (0xCF ∷ 0x83 ∷ []) ∷ (0xCF ∷ 0x83 ∷ []) ∷ []
unfolding ucd_category caseless unicode_normalization chars encode
sigma = refl

-- the Kelvin sign is a k
pub kelvin : one_term (0xE2 ∷ 0x84 ∷ 0xAA ∷ []) ≡ Some (codes "k")
unfolding ucd_category caseless unicode_normalization chars encode
kelvin = refl

-- a hyphen ends a run, and so "e-mail" is no term by itself
pub e_mail : one_term (codes "e-mail") ≡ None
unfolding ucd_category caseless unicode_normalization chars encode
e_mail = refl

-- words are counted in the order of first occurrence
pub two_words : counted (keys (codes "To be, or not to be")) ≡ (codes "to", 2) ∷ (codes "be", 2) ∷ (codes "or", 1) ∷ (codes "not", 1) ∷ []
unfolding ucd_category caseless unicode_normalization chars encode
two_words = refl

-- and the frequency of a word is its count
pub frequency : occurrences (codes "be") (codes "To be, or not to be") ≡ 2
unfolding ucd_category caseless unicode_normalization chars encode
frequency = refl

-- words with a number come first, and those without get the next ones
pub four_weights : weights_of (codes "be" ∷ codes "or" ∷ []) (counted (keys (codes "To be, or not to be"))) ≡ (0, 2) ∷ (1, 1) ∷ (2, 2) ∷ (3, 1) ∷ []
unfolding ucd_category caseless unicode_normalization chars encode
four_weights = refl
