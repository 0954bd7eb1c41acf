-- Which tokens are a session word, as tests that compute.
use Rattle.std.specs.Prelude.{ℕ, pos, true, false, ◌&&◌, nat_le, if◌then◌else◌, List, [], ◌∷◌, length, Option, Some, None, codes}
use Rattle.ras_cells.specs.declared.atom.Atom.TheVariants.{Wide}
use Rattle.ras_syntax.specs.declared.faults.SyntaxFault.{SyntaxFault}
use Rattle.ras_syntax.specs.declared.statement.Statement.{Statement}
use Rattle.ras_syntax.specs.declared.statement.StatementForm.TheVariants as statements
use Rattle.ras_syntax.specs.declared.statement.Word.{Word}
use Rattle.ras_syntax.specs.declared.statement.Word.TheVariants.{Begin, Commit, Abort}
use Rattle.spec_grammar.specs.Tokens.{Text, TokenKind, number, Token, Lexed}
use Rattle.ras_parse.specs.Seen.{says}

-- the statement that is a session word
abbrev pub word_statement : Text → Word → Statement
word_statement text w = record { form = statements.Word w; length = length text }

abbrev pub word_of_one : TokenKind → Option Word
word_of_one kind =
    if says (codes "begin") kind then Some (Begin 0)
    else if says (codes "commit") kind then Some (Commit false)
    else if says (codes "abort") kind then Some Abort
    else None

abbrev pub word_of_two : TokenKind → TokenKind → Option Word
word_of_two kind other = if says (codes "commit") kind && says (codes "anyway") other then Some (Commit true) else None

-- the number after retry
abbrev pub retries_of : TokenKind → Option ℕ
retries_of (number (pos n) Wide) = if nat_le 1 n && nat_le n 1000 then Some n else None
retries_of other = None

abbrev pub begin_of : Option ℕ → Option Word
begin_of (Some n) = Some (Begin n)
begin_of None = None

abbrev pub word_of_three : TokenKind → TokenKind → TokenKind → Option Word
word_of_three kind other times = if says (codes "begin") kind && says (codes "retry") other then begin_of (retries_of times) else None

abbrev pub word_in : List Token → Option SyntaxFault → Option Word
word_in ts (Some f) = None
word_in [] None = None
word_in (a ∷ []) None = word_of_one a.kind
word_in (a ∷ b ∷ []) None = word_of_two a.kind b.kind
word_in (a ∷ b ∷ c ∷ []) None = word_of_three a.kind b.kind c.kind
word_in (a ∷ b ∷ c ∷ d ∷ ts) None = None

-- the session word that the tokens of a text are
abbrev pub word_of : Lexed → Option Word
word_of l = word_in l.tokens l.fault
