-- The numbers that may follow retry.
use Rattle.std.specs.Prelude.{◌≡◌, ℕ, pos, negsuc, nat_le, ◌&&◌, if◌then◌else◌, Bool, true, false, Option, Some, None}
use Rattle.std.proofs.Common.{refl}
use Rattle.ras_cells.specs.declared.atom.Atom.TheVariants as atoms
use Rattle.ras_syntax.specs.declared.limits.TheConstants.{MAX_RETRIES}
use Rattle.spec_grammar.specs.Tokens.{TokenKind, name, word, number, sign, Token}
use Rattle.law_grammar.specs.Reading.{plain_of_kind, if_times, times_of}
use Rattle.ras_parse.specs.SessionWords.{retries_of}

within : (n : ℕ) (b : Bool) → elim b as (λ v. Option ℕ) [ true ↦ Some n | false ↦ None ] ≡ (if b then Some n else None)
within n true = refl
within n false = refl

times-is : (kind : TokenKind) → elim (plain_of_kind kind) as (λ v. Option ℕ) [ Some z ↦ if_times z | None ↦ None ] ≡ retries_of kind
times-is (name text) = refl
times-is (word text) = refl
times-is (sign text) = refl
times-is (number (negsuc n) atoms.Wide) = refl
times-is (number (pos n) atoms.Wide) = within n (nat_le 1 n && nat_le n MAX_RETRIES)
times-is (number (pos n) atoms.Bool) = refl
times-is (number (pos n) atoms.Char) = refl
times-is (number (pos n) atoms.Octet) = refl
times-is (number (pos n) atoms.Short) = refl
times-is (number (pos n) atoms.Ushort) = refl
times-is (number (pos n) atoms.Long) = refl
times-is (number (pos n) atoms.Ulong) = refl
times-is (number (negsuc n) atoms.Bool) = refl
times-is (number (negsuc n) atoms.Char) = refl
times-is (number (negsuc n) atoms.Octet) = refl
times-is (number (negsuc n) atoms.Short) = refl
times-is (number (negsuc n) atoms.Ushort) = refl
times-is (number (negsuc n) atoms.Long) = refl
times-is (number (negsuc n) atoms.Ulong) = refl

pub times_of-is : (t : Token) → times_of t ≡ retries_of t.kind
times_of-is t = times-is t.kind
