-- What reading a text's tokens gives.
use Rattle.std.specs.Prelude.{◌≡◌, ◌<◌, ◌≤◌, List, [], ◌∷◌, ◌++◌, Some, None}
use Rattle.spec_grammar.specs.Tokens.{Text, Token, lexed}
use Rattle.spec_grammar.specs.Weight.{weight_of}
use Rattle.ras_syntax.specs.declared.limits.TheConstants.{MAX_WEIGHT}
use Rattle.ras_parse.specs.declared.fault.ParseFault.{ParseFault}
use Rattle.ras_parse.specs.declared.fault.ParseFault.TheVariants.{Fault, Memory}
use Rattle.ras_parse.specs.declared.reading.Behind.{Behind}
use Rattle.ras_parse.specs.declared.reading.Behind.TheVariants as behind

-- the first fault of a token's own; want of memory may come anywhere
abbrev pub IsOwnFault : Text → ParseFault → Type 0
IsOwnFault text (Fault f) = (lexed text).fault ≡ Some f
IsOwnFault text Memory = Unit {0}

-- the tokens, up to and with the first with which they weigh too much, and what stands behind them
abbrev pub IsFront : Text → List Token → Behind → Type 0
IsFront text ts behind.End = (lexed text ≡ record { tokens = ts; fault = None }) × (weight_of ts ≤ MAX_WEIGHT)
IsFront text ts (behind.Fault f) = (lexed text ≡ record { tokens = ts; fault = Some f }) × (weight_of ts ≤ MAX_WEIGHT)
IsFront text ts (behind.TooHeavy place) =
    (before : List Token) × (t : Token) × (after : List Token) × (ts ≡ before ++ t ∷ []) × ((lexed text).tokens ≡ before ++ t ∷ after)
    × (weight_of before ≤ MAX_WEIGHT) × (MAX_WEIGHT < weight_of ts) × (place ≡ t.from)
