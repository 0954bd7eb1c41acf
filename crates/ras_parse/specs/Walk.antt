-- A text read token by token.
use Rattle.std.specs.Prelude.{ℕ, ◌+◌, ◌-◌, false, [], length, drop, Some, None}
use Rattle.spec_grammar.specs.Tokens.{Text, Found, nothing, good, bad, space_length, after_space, token_at, Lexed, and_then, lexed_from}

-- what a text goes on with from a place on, behind blanks and comments
abbrev pub found_from : Text → ℕ → Found
found_from text at = token_at (at + space_length false (drop at text)) (after_space (drop at text))

-- the tokens of a text from a place on, and the first fault of a token's own
abbrev pub lexed_after : Text → ℕ → Lexed
lexed_after text at = lexed_from (length text - at) at (drop at text)

-- those from what is found on
abbrev pub lexed_with : Text → Found → Lexed
lexed_with text nothing = record { tokens = []; fault = None }
lexed_with text (good t) = and_then t (lexed_after text t.to)
lexed_with text (bad fault) = record { tokens = []; fault = Some fault }
