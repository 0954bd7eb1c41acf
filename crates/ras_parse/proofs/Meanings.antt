-- What signs and words stand for in a table.
use Rattle.std.specs.Prelude.{◌≡◌, Bool as Truth, true, false, List, [], ◌∷◌, ◌++◌, Option, Some, None}
use Rattle.std.proofs.Common.{refl}
use denote.Ref.{Bor}
use Rattle.spec_grammar.specs.Tokens.{Text, is_same, name, word, number, sign}
use Rattle.ras_cells.specs.declared.atom.Atom.{Atom}
use Rattle.std.specs.Prelude.{ℤ}
use Rattle.law_grammar.specs.Readers.{meaning_of}
use Rattle.ras_parse.specs.declared.token.TokenKind.{TokenKind as Code}
use Rattle.ras_parse.specs.declared.token.TokenKind.TheVariants as code
use Rattle.ras_parse.specs.Seen.{kind_seen}
use Rattle.ras_parse.specs.Tables.{word_entries, sign_entries}

module _ {A : Type 0} where
  words-of_sign : (words : List (Bor Text × A)) (b : Text) → meaning_of (word_entries words) (sign b) ≡ None
  words-of_sign [] b = refl
  words-of_sign (e ∷ words) b = words-of_sign words b

  pub meaning-of_sign : (signs words : List (Bor Text × A)) (b : Text)
      → meaning_of (sign_entries signs ++ word_entries words) (sign b) ≡ meaning_of (sign_entries signs) (sign b)
  meaning-of_sign [] words b = words-of_sign words b
  meaning-of_sign (e ∷ signs) words b = at (is_same e.0.now b) (meaning-of_sign signs words b)
    where
      at : (found : Truth) → meaning_of (sign_entries signs ++ word_entries words) (sign b) ≡ meaning_of (sign_entries signs) (sign b)
          → elim found as (λ v. Option A) [ true ↦ Some e.1 | false ↦ meaning_of (sign_entries signs ++ word_entries words) (sign b) ]
          ≡ elim found as (λ v. Option A) [ true ↦ Some e.1 | false ↦ meaning_of (sign_entries signs) (sign b) ]
      at true e' = refl
      at false e' = e'

  pub meaning-of_word : (signs words : List (Bor Text × A)) (b : Text)
      → meaning_of (sign_entries signs ++ word_entries words) (word b) ≡ meaning_of (word_entries words) (word b)
  meaning-of_word [] words b = refl
  meaning-of_word (e ∷ signs) words b = meaning-of_word signs words b

  words-of_name : (words : List (Bor Text × A)) (b : Text) → meaning_of (word_entries words) (name b) ≡ None
  words-of_name [] b = refl
  words-of_name (e ∷ words) b = words-of_name words b

  meaning-of_name : (signs words : List (Bor Text × A)) (b : Text) → meaning_of (sign_entries signs ++ word_entries words) (name b) ≡ None
  meaning-of_name [] words b = words-of_name words b
  meaning-of_name (e ∷ signs) words b = meaning-of_name signs words b

  words-of_number : (words : List (Bor Text × A)) (z : ℤ) (a : Atom) → meaning_of (word_entries words) (number z a) ≡ None
  words-of_number [] z a = refl
  words-of_number (e ∷ words) z a = words-of_number words z a

  meaning-of_number : (signs words : List (Bor Text × A)) (z : ℤ) (a : Atom) → meaning_of (sign_entries signs ++ word_entries words) (number z a) ≡ None
  meaning-of_number [] words z a = words-of_number words z a
  meaning-of_number (e ∷ signs) words z a = meaning-of_number signs words z a

  pub meaning-of_other : (signs words : List (Bor Text × A)) (bytes : Text) (kind : Code) → (kind ≡ code.Sign → ⊥) → (kind ≡ code.Reserved → ⊥)
      → meaning_of (sign_entries signs ++ word_entries words) (kind_seen bytes kind) ≡ None
  meaning-of_other signs words bytes code.Name h k = meaning-of_name signs words bytes
  meaning-of_other signs words bytes code.Reserved h k = absurd (k refl)
  meaning-of_other signs words bytes (code.Number value atom) h k = meaning-of_number signs words value atom
  meaning-of_other signs words bytes code.Sign h k = absurd (h refl)
