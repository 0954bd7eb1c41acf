-- What a parser reads from, and what its functions ensure.
use Rattle.std.specs.Prelude.{◌≡◌, ℕ, suc, ◌+◌, ◌≤◌, Bool as Truth, false, if◌then◌else◌, List, [], ◌∷◌, length, drop, Option, Some, None, option_map, is_some, Result, Ok, Err}
use Rattle.spec_grammar.specs.Tokens.{TokenKind, Token}
use Rattle.law_grammar.specs.Readers.{ReadOutcome, Reader, exactly}
use Rattle.ras_parse.specs.declared.stop.Stop.{Stop}
use Rattle.ras_parse.specs.declared.stop.Stop.TheVariants.{Unexpected}

-- tokens, and how many of them were read
pub record Input : Type 0 where
  pub tokens : List Token
  pub at : ℕ

-- the tokens that are left
abbrev pub left : Input → List Token
left i = drop i.at i.tokens

-- one token further
abbrev pub next : Input → Input
next i = record i { at = i.at + 1 }

-- the first token of a list that has one
abbrev pub first : List Token → Token
first [] = record { kind = TokenKind.word []; from = 0; to = 0 }
first (t ∷ ts) = t

-- the first token passes a test
abbrev pub first_passes : (Token → Truth) → List Token → Truth
first_passes p [] = false
first_passes p (t ∷ ts) = p t

-- where the first token begins
abbrev pub first_place : List Token → Option ℕ
first_place [] = None
first_place (t ∷ ts) = Some t.from

-- what the first token means, and the tokens behind it
unfoldable pub taken : {A : Type 0} → (Token → Option A) → List Token → Option (A × List Token)
taken p [] = None
taken p (t ∷ ts) = option_map (λ x. (x, ts)) (p t)

-- ---- what functions ensure

-- so much is left of the same tokens
pub record Goes (old new : Input) : Type 0 where
  pub same : new.tokens ≡ old.tokens
  pub fewer : length (left new) ≤ length (left old)

-- the next token was read, or none
pub record Steps (took : Truth) (old new : Input) : Type 0 where
  pub same : new.tokens ≡ old.tokens
  pub is : left old ≡ (if took then first (left old) ∷ left new else left new)
  pub fewer : length (left old) ≡ (if took then suc (length (left new)) else length (left new))

-- the next token was read if it is accepted
pub record Accepts (p : Token → Option Token) (old : Input) (is_there : Truth) (new : Input) : Type 0 where
  pub steps : Steps is_there old new
  pub took : taken p (left old) ≡ (if is_there then Some (first (left old), left new) else None)

-- the next token was read if it means something
pub record TakesToken {A : Type 0} (p : Token → Option A) (old : Input) (x : Option A) (new : Input) : Type 0 where
  pub steps : Steps (is_some x) old new
  pub took : taken p (left old) ≡ option_map (λ x. (x, left new)) x

-- the next token was read, else it is wrong
abbrev pub Expects : {A : Type 0} → (Token → Option A) → Input → Result A Stop → Input → Type 0
Expects p old (Ok x) new = Goes old new × (taken p (left old) ≡ Some (x, left new))
Expects p old (Err e) new = e ≡ Unexpected → (left new ≡ left old) × (taken p (left old) ≡ None)

-- the next token was read, else it is not this word or sign
abbrev pub ExpectsKind : TokenKind → Input → Result (Unit {0}) Stop → Input → Type 0
ExpectsKind kind old (Ok done) new = Goes old new × (taken (exactly kind) (left old) ≡ Some (first (left old), left new))
ExpectsKind kind old (Err e) new = (left new ≡ left old) × (taken (exactly kind) (left old) ≡ None)

-- what was read is the outcome, and so is what is left
abbrev pub Gives : {A : Type 0} → ReadOutcome A → Input → Result A Stop → Input → Type 0
Gives outcome old (Ok x) new = Goes old new × (outcome ≡ Ok (x, left new))
Gives outcome old (Err e) new = e ≡ Unexpected → outcome ≡ Err (left new)

-- What the reader reads was read, else what is left begins with the first wrong token. For want of memory any number of
-- tokens may have been read.
pub record Reads {A : Type 0} (reader : Reader A) (old : Input) (result : Result A Stop) (new : Input) : Type 0 where
  pub gives : Gives (reader (left old)) old result new
