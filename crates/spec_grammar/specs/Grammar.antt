-- The grammar of statements: which lists of tokens are a statement, and of which tree. Each production of the grammar is a
-- relation between a list of tokens and what they mean, and stands above it in the form
--   production := alternative | alternative
-- where words and signs are in quotes, |[ x ]| may be missing, and {{ x }} stands any number of times.
use Prim.Native.String.{String as Literal}
use Rattle.std.specs.Prelude.{◌≡◌, ℕ, zero, suc, ◌≤◌, ℤ, pos, Bool as Truth, true, false, List, [], ◌∷◌, ◌++◌, length, ◌⊎◌, Option, Some, None, codes}
use Rattle.ras_cells.specs.declared.atom.Atom.{Atom}
use Rattle.ras_cells.specs.declared.atom.Atom.TheVariants as atoms
use Rattle.ras_cells.specs.declared.numbers.Op1.TheVariants as one
use Rattle.ras_cells.specs.declared.numbers.Op2.{Op2}
use Rattle.ras_cells.specs.declared.numbers.Op2.TheVariants as two
use Rattle.ras_syntax.specs.declared.span.Span.{Span}
use Rattle.ras_syntax.specs.declared.span.Spanned.{Spanned}
use Rattle.ras_syntax.specs.declared.expr.Expr.{Expr, roll-Expr}
use Rattle.ras_syntax.specs.declared.expr.ExprForm.{ExprForm}
use Rattle.ras_syntax.specs.declared.expr.ExprForm.TheVariants as forms
use Rattle.ras_syntax.specs.declared.expr.Axis.{Axis}
use Rattle.ras_syntax.specs.declared.expr.Axis.TheVariants as axis
use Rattle.ras_syntax.specs.declared.expr.DomainExpr.{DomainExpr}
use Rattle.ras_syntax.specs.declared.expr.DomainExpr.TheVariants as domains
use Rattle.ras_syntax.specs.declared.expr.Part.TheVariants as parts
use Rattle.ras_syntax.specs.declared.expr.FoldOp.{FoldOp}
use Rattle.ras_syntax.specs.declared.expr.FoldOp.TheVariants as folds
use Rattle.ras_syntax.specs.declared.expr.CellsFold.{CellsFold}
use Rattle.ras_syntax.specs.declared.expr.CellsFold.TheVariants as cells
use Rattle.ras_syntax.specs.declared.statement.SourceName.{SourceName}
use Rattle.ras_syntax.specs.declared.statement.StatementForm.{StatementForm}
use Rattle.ras_syntax.specs.declared.statement.StatementForm.TheVariants as statements
use Rattle.ras_syntax.specs.declared.statement.Word.TheVariants as words
use Rattle.spec_grammar.specs.Tokens.{Text, TokenKind, Token}
use Rattle.ras_syntax.specs.declared.limits.TheConstants.{MAX_RETRIES}
use Rattle.ras_cells.specs.declared.TheConstants.{MAX_COMPONENTS}

-- ---- spans

-- the byte after the last token, the given place where there is none
abbrev pub end_of : ℕ → List Token → ℕ
end_of place [] = place
end_of place (t ∷ ts) = end_of t.to ts

-- from the first byte of the first token to the byte after the last one; each production has a token
abbrev pub span_of : List Token → Span
span_of [] = record { from = 0; to = 0 }
span_of (t ∷ ts) = record { from = t.from; to = end_of t.to ts }

-- the tree of a production that these tokens are
abbrev pub tree : List Token → ExprForm → Expr
tree ts form = roll-Expr (record { span = span_of ts; form = form })

-- ---- single tokens

abbrev pub IsWord : Literal → Token → Type 0
IsWord text t = t.kind ≡ TokenKind.word (codes text)

abbrev pub IsSign : Literal → Token → Type 0
IsSign text t = t.kind ≡ TokenKind.sign (codes text)

-- a name with its place
abbrev pub IsName : Token → Spanned → Type 0
IsName t x = (t.kind ≡ TokenKind.name x.name) × (x.span ≡ span_of (t ∷ []))

-- a number without a suffix
abbrev pub IsPlainNumber : Token → ℤ → Type 0
IsPlainNumber t z = t.kind ≡ TokenKind.number z atoms.Wide

-- words and signs with what each stands for
abbrev pub Table : Type 0 → Type 0
Table A = List (TokenKind × A)

-- the token stands in the table, for this
abbrev pub Means : {A : Type 0} → Table A → Token → A → Type 0
Means [] t a = ⊥
Means (entry ∷ table) t a = (t.kind ≡ entry.0) × (a ≡ entry.1) ⊎ Means table t a

abbrev pub w : Literal → TokenKind
w text = TokenKind.word (codes text)

abbrev pub s : Literal → TokenKind
s text = TokenKind.sign (codes text)

-- ---- tables

abbrev pub overlays : Table Op2
overlays = (w "overlay", two.Overlay) ∷ []

abbrev pub eithers : Table Op2
eithers = (w "or", two.Or) ∷ (w "xor", two.Xor) ∷ []

abbrev pub boths : Table Op2
boths = (w "and", two.And) ∷ []

abbrev pub comparisons : Table Op2
comparisons =
    (s "=", two.Eq) ∷ (s "!=", two.Ne) ∷ (s "<", two.Lt) ∷ (s "<=", two.Le) ∷ (s ">", two.Gt) ∷ (s ">=", two.Ge) ∷ []

abbrev pub sums : Table Op2
sums = (s "+", two.Add) ∷ (s "-", two.Sub) ∷ []

abbrev pub products : Table Op2
products = (s "*", two.Mul) ∷ []

-- what is written as a call with two operands
abbrev pub calls : Table Op2
calls = (w "div", two.Div) ∷ (w "mod", two.Mod) ∷ (w "bit", two.Bit) ∷ []

abbrev pub truths : Table Truth
truths = (w "true", true) ∷ (w "false", false) ∷ []

-- op := "+" | "*" | "min" | "max" | "and" | "or"
abbrev pub fold_operators : Table FoldOp
fold_operators =
    (s "+", folds.Plus) ∷ (s "*", folds.Times) ∷ (w "min", folds.Min) ∷ (w "max", folds.Max)
    ∷ (w "and", folds.And) ∷ (w "or", folds.Or) ∷ []

abbrev pub cells_folds : Table CellsFold
cells_folds =
    (w "add_cells", cells.Add) ∷ (w "min_cells", cells.Min) ∷ (w "max_cells", cells.Max)
    ∷ (w "count_cells", cells.Count) ∷ (w "some_cells", cells.AnyTrue) ∷ (w "all_cells", cells.AllTrue) ∷ []

abbrev pub atom_words : Table Atom
atom_words =
    (w "bool", atoms.Bool) ∷ (w "boolean", atoms.Bool) ∷ (w "octet", atoms.Octet) ∷ (w "char", atoms.Char)
    ∷ (w "short", atoms.Short) ∷ (w "ushort", atoms.Ushort) ∷ (w "long", atoms.Long) ∷ (w "ulong", atoms.Ulong)
    ∷ (w "wide", atoms.Wide) ∷ []

-- the words that may follow "unsigned"
abbrev pub unsigned_words : Table Atom
unsigned_words = (w "short", atoms.Ushort) ∷ (w "long", atoms.Ulong) ∷ []

-- ---- what productions are made of

abbrev pub Rel : Type 0 → Type 1
Rel A = List Token → A → Type 0

-- item {{ operator item }}, grouped to the left
pub data IsChain (operators : Table Op2) (IsItem : Rel Expr) : List Token → Expr → Type 0 where
  alone : {ts : List Token} {x : Expr} → IsItem ts x → IsChain operators IsItem ts x
  more : {ts us : List Token} {x y : Expr} (o : Token) (op : Op2)
      → IsChain operators IsItem ts x → Means operators o op → IsItem us y
      → IsChain operators IsItem (ts ++ o ∷ us) (tree (ts ++ o ∷ us) (forms.Binary op x y))

-- item {{ item }}
pub data IsRow {A : Type 0} (IsItem : Rel A) : List Token → List A → Type 0 where
  first : {ts : List Token} {x : A} → IsItem ts x → IsRow IsItem ts (x ∷ [])
  more : {ts us : List Token} {xs : List A} {x : A} → IsRow IsItem ts xs → IsItem us x → IsRow IsItem (ts ++ us) (xs ++ x ∷ [])

-- item {{ "," item }}
pub data IsCommaList {A : Type 0} (IsItem : Rel A) : List Token → List A → Type 0 where
  first : {ts : List Token} {x : A} → IsItem ts x → IsCommaList IsItem ts (x ∷ [])
  more : {ts us : List Token} {xs : List A} {x : A} (c : Token)
      → IsCommaList IsItem ts xs → IsSign "," c → IsItem us x → IsCommaList IsItem (ts ++ c ∷ us) (xs ++ x ∷ [])

-- open item close
pub data IsBetween {A : Type 0} (opening closing : Literal) (IsItem : Rel A) : List Token → A → Type 0 where
  between : {ts : List Token} {x : A} (o c : Token)
      → IsSign opening o → IsItem ts x → IsSign closing c → IsBetween opening closing IsItem (o ∷ ts ++ c ∷ []) x

-- keyword item
pub data IsAfter {A : Type 0} (keyword : Literal) (IsItem : Rel A) : List Token → A → Type 0 where
  after : {ts : List Token} {x : A} (k : Token) → IsWord keyword k → IsItem ts x → IsAfter keyword IsItem (k ∷ ts) x

-- |[ item ]|
pub data IsOptional {A : Type 0} (IsItem : Rel A) : List Token → Option A → Type 0 where
  absent : IsOptional IsItem [] None
  present : {ts : List Token} {x : A} → IsItem ts x → IsOptional IsItem ts (Some x)

-- name
pub data IsNamed : List Token → Spanned → Type 0 where
  named : (n : Token) (x : Spanned) → IsName n x → IsNamed (n ∷ []) x

-- atom := "bool" | "boolean" | "octet" | "char" | "short" | "ushort" | "long" | "ulong" | "wide"
--       | "unsigned" "short" | "unsigned" "long"
pub data IsAtom : List Token → Atom → Type 0 where
  one_word : (t : Token) (a : Atom) → Means atom_words t a → IsAtom (t ∷ []) a
  two_words : (u t : Token) (a : Atom) → IsWord "unsigned" u → Means unsigned_words t a → IsAtom (u ∷ t ∷ []) a

-- source := name |[ "as" name ]|
pub data IsSource : List Token → SourceName → Type 0 where
  source : {ts : List Token} {iterator : Option Spanned} (n : Token) (collection : Spanned)
      → IsName n collection → IsOptional (IsAfter "as" IsNamed) ts iterator
      → IsSource (n ∷ ts) (record { collection = collection; iterator = iterator })

-- ---- expressions

-- the productions that stand inside themselves: expr, negated and signed
pub data Level : Type 0 where
  any : Level
  negation : Level
  signed : Level

-- Each production over E, which says what stands for these three inside it.
module _ (E : Level → Rel Expr) where
  abbrev pub InParentheses : Rel Expr
  InParentheses = IsBetween "(" ")" (E any)

  abbrev pub Exprs : Rel (List Expr)
  Exprs = IsCommaList (E any)

  -- edge := "*" | expr
  pub data IsEdge : List Token → Option Expr → Type 0 where
    own : (t : Token) → IsSign "*" t → IsEdge (t ∷ []) None
    written : {ts : List Token} {x : Expr} → E any ts x → IsEdge ts (Some x)

  -- axis := expr | edge ":" edge
  pub data IsAxis : List Token → Axis → Type 0 where
    at : {ts : List Token} {x : Expr} → E any ts x → IsAxis ts (axis.At x)
    trim : {ts us : List Token} {lo hi : Option Expr} (c : Token)
        → IsEdge ts lo → IsSign ":" c → IsEdge us hi → IsAxis (ts ++ c ∷ us) (axis.Trim lo hi)

  -- index := "[" axis {{ "," axis }} "]"
  abbrev pub IsIndex : Rel (List Axis)
  IsIndex = IsBetween "[" "]" (IsCommaList IsAxis)

  -- expr ":" expr
  pub data IsBounds : List Token → Expr × Expr → Type 0 where
    bounds : {ts us : List Token} {lo hi : Expr} (c : Token)
        → E any ts lo → IsSign ":" c → E any us hi → IsBounds (ts ++ c ∷ us) (lo, hi)

  -- domain := "[" expr ":" expr {{ "," expr ":" expr }} "]" | "sdom" "(" expr ")"
  pub data IsDomain : List Token → DomainExpr → Type 0 where
    literal : {ts : List Token} {pairs : List (Expr × Expr)}
        → IsBetween "[" "]" (IsCommaList IsBounds) ts pairs → IsDomain ts (domains.Literal pairs)
    -- the tree has the whole expression sdom(e), with its place
    of_array : {ts : List Token} {x : Expr} (k : Token) → IsWord "sdom" k → InParentheses ts x
        → IsDomain (k ∷ ts) (domains.Sdom (tree (k ∷ ts) (forms.Sdom x)))

  -- "when" expr "then" expr
  pub data IsArm : List Token → Expr × Expr → Type 0 where
    arm : {ts us : List Token} {c x : Expr} (when then' : Token)
        → IsWord "when" when → E any ts c → IsWord "then" then' → E any us x → IsArm (when ∷ ts ++ then' ∷ us) (c, x)

  -- primary := number | "true" | "false" | name | "(" expr ")"
  --     | |[ "struct" ]| "{" expr {{ "," expr }} "}"
  --     | "case" "when" expr "then" expr {{ "when" expr "then" expr }} "else" expr "end"
  --     | ("div" | "mod" | "bit") "(" expr "," expr ")" | "abs" "(" expr ")"
  --     | ("add_cells" | "min_cells" | "max_cells" | "count_cells" | "some_cells" | "all_cells") "(" expr ")"
  --     | "shift" "(" expr "," "[" expr {{ "," expr }} "]" ")"
  --     | "extend" "(" expr "," domain ")" | "sdom" "(" expr ")" | "oid" "(" name ")"
  pub data IsPrimary : List Token → Expr → Type 0 where
    number : (t : Token) (z : ℤ) (a : Atom) → t.kind ≡ TokenKind.number z a → IsPrimary (t ∷ []) (tree (t ∷ []) (forms.Number z a))
    truth : (t : Token) (b : Truth) → Means truths t b → IsPrimary (t ∷ []) (tree (t ∷ []) (forms.Bool b))
    name : (t : Token) (text : Text) → t.kind ≡ TokenKind.name text → IsPrimary (t ∷ []) (tree (t ∷ []) (forms.Name text))
    -- the parentheses belong to the span of what stands round them
    parentheses : {ts : List Token} {x : Expr} → InParentheses ts x → IsPrimary ts x
    -- braces hold 1 to 8 expressions
    braces : {ts : List Token} {xs : List Expr} → IsBetween "{" "}" Exprs ts xs → length xs ≤ MAX_COMPONENTS
        → IsPrimary ts (tree ts (forms.Build xs))
    struct : {ts : List Token} {xs : List Expr} (k : Token) → IsWord "struct" k → IsBetween "{" "}" Exprs ts xs → length xs ≤ MAX_COMPONENTS
        → IsPrimary (k ∷ ts) (tree (k ∷ ts) (forms.Build xs))
    choice : {ts us : List Token} {arms : List (Expr × Expr)} {x : Expr} (k e n : Token)
        → IsWord "case" k → IsRow IsArm ts arms → IsWord "else" e → E any us x → IsWord "end" n
        → IsPrimary (k ∷ ts ++ e ∷ us ++ n ∷ []) (tree (k ∷ ts ++ e ∷ us ++ n ∷ []) (forms.Case arms x))
    call : {ts us : List Token} {x y : Expr} (f o c p : Token) (op : Op2)
        → Means calls f op → IsSign "(" o → E any ts x → IsSign "," c → E any us y → IsSign ")" p
        → IsPrimary (f ∷ o ∷ ts ++ c ∷ us ++ p ∷ []) (tree (f ∷ o ∷ ts ++ c ∷ us ++ p ∷ []) (forms.Binary op x y))
    abs : {ts : List Token} {x : Expr} (f : Token) → IsWord "abs" f → InParentheses ts x
        → IsPrimary (f ∷ ts) (tree (f ∷ ts) (forms.Unary one.Abs x))
    folded : {ts : List Token} {x : Expr} (f : Token) (fold : CellsFold) → Means cells_folds f fold → InParentheses ts x
        → IsPrimary (f ∷ ts) (tree (f ∷ ts) (forms.Cells fold x))
    shift : {ts us : List Token} {x : Expr} {offsets : List Expr} (f o c p : Token)
        → IsWord "shift" f → IsSign "(" o → E any ts x → IsSign "," c → IsBetween "[" "]" Exprs us offsets → IsSign ")" p
        → IsPrimary (f ∷ o ∷ ts ++ c ∷ us ++ p ∷ []) (tree (f ∷ o ∷ ts ++ c ∷ us ++ p ∷ []) (forms.Shift x offsets))
    extend : {ts us : List Token} {x : Expr} {d : DomainExpr} (f o c p : Token)
        → IsWord "extend" f → IsSign "(" o → E any ts x → IsSign "," c → IsDomain us d → IsSign ")" p
        → IsPrimary (f ∷ o ∷ ts ++ c ∷ us ++ p ∷ []) (tree (f ∷ o ∷ ts ++ c ∷ us ++ p ∷ []) (forms.Extend x d))
    sdom : {ts : List Token} {x : Expr} (f : Token) → IsWord "sdom" f → InParentheses ts x
        → IsPrimary (f ∷ ts) (tree (f ∷ ts) (forms.Sdom x))
    oid : {ts : List Token} {a : Spanned} (f : Token) → IsWord "oid" f → IsBetween "(" ")" IsNamed ts a
        → IsPrimary (f ∷ ts) (tree (f ∷ ts) (forms.Oid a))

  -- part := primary {{ index | "." name | "." number }}, grouped to the left; the number has no suffix
  pub data IsPart : List Token → Expr → Type 0 where
    alone : {ts : List Token} {x : Expr} → IsPrimary ts x → IsPart ts x
    indexed : {ts us : List Token} {x : Expr} {axes : List Axis} → IsPart ts x → IsIndex us axes
        → IsPart (ts ++ us) (tree (ts ++ us) (forms.Index x axes))
    named : {ts : List Token} {x : Expr} (d n : Token) (text : Text)
        → IsPart ts x → IsSign "." d → n.kind ≡ TokenKind.name text
        → IsPart (ts ++ d ∷ n ∷ []) (tree (ts ++ d ∷ n ∷ []) (forms.Part x (parts.Named text)))
    numbered : {ts : List Token} {x : Expr} (d n : Token) (z : ℤ)
        → IsPart ts x → IsSign "." d → IsPlainNumber n z
        → IsPart (ts ++ d ∷ n ∷ []) (tree (ts ++ d ∷ n ∷ []) (forms.Part x (parts.Numbered z)))

  -- signed := "-" signed | "(" atom ")" signed | part
  pub data IsSigned : List Token → Expr → Type 0 where
    minus : {ts : List Token} {x : Expr} (m : Token) → IsSign "-" m → E signed ts x
        → IsSigned (m ∷ ts) (tree (m ∷ ts) (forms.Unary one.Neg x))
    cast : {ts us : List Token} {a : Atom} {x : Expr} → IsBetween "(" ")" IsAtom ts a → E signed us x
        → IsSigned (ts ++ us) (tree (ts ++ us) (forms.Cast a x))
    part : {ts : List Token} {x : Expr} → IsPart ts x → IsSigned ts x

  -- product := signed {{ "*" signed }}
  abbrev pub IsProduct : Rel Expr
  IsProduct = IsChain products IsSigned

  -- sum := product {{ ("+" | "-") product }}
  abbrev pub IsSum : Rel Expr
  IsSum = IsChain sums IsProduct

  -- compared := sum |[ ("=" | "!=" | "<" | "<=" | ">" | ">=") sum ]|
  pub data IsCompared : List Token → Expr → Type 0 where
    alone : {ts : List Token} {x : Expr} → IsSum ts x → IsCompared ts x
    compared : {ts us : List Token} {x y : Expr} (o : Token) (op : Op2) → IsSum ts x → Means comparisons o op → IsSum us y
        → IsCompared (ts ++ o ∷ us) (tree (ts ++ o ∷ us) (forms.Binary op x y))

  -- negated := "not" negated | compared
  pub data IsNegated : List Token → Expr → Type 0 where
    negated : {ts : List Token} {x : Expr} (k : Token) → IsWord "not" k → E negation ts x
        → IsNegated (k ∷ ts) (tree (k ∷ ts) (forms.Unary one.Not x))
    plain : {ts : List Token} {x : Expr} → IsCompared ts x → IsNegated ts x

  -- both := negated {{ "and" negated }}
  abbrev pub IsBoth : Rel Expr
  IsBoth = IsChain boths IsNegated

  -- either := both {{ ("or" | "xor") both }}
  abbrev pub IsEither : Rel Expr
  IsEither = IsChain eithers IsBoth

  -- overlaid := either {{ "overlay" either }}
  abbrev pub IsOverlaid : Rel Expr
  IsOverlaid = IsChain overlays IsEither

  -- expr := "marray" name "in" domain "values" expr
  --     | "condense" op "over" name "in" domain |[ "where" expr ]| "using" expr
  --     | "concat" expr "with" expr {{ "with" expr }} "along" number
  --     | overlaid
  -- the number has no suffix
  pub data IsWhole : List Token → Expr → Type 0 where
    marray : {ts us : List Token} {d : DomainExpr} {e : Expr} (m n i v : Token) (x : Spanned)
        → IsWord "marray" m → IsName n x → IsWord "in" i → IsDomain ts d → IsWord "values" v → E any us e
        → IsWhole (m ∷ n ∷ i ∷ ts ++ v ∷ us) (tree (m ∷ n ∷ i ∷ ts ++ v ∷ us) (forms.Marray x d e))
    condense : {ts us vs : List Token} {d : DomainExpr} {cond : Option Expr} {e : Expr} (k f o n i u : Token) (op : FoldOp) (x : Spanned)
        → IsWord "condense" k → Means fold_operators f op → IsWord "over" o → IsName n x → IsWord "in" i → IsDomain ts d
        → IsOptional (IsAfter "where" (E any)) us cond → IsWord "using" u → E any vs e
        → IsWhole (k ∷ f ∷ o ∷ n ∷ i ∷ ts ++ us ++ u ∷ vs) (tree (k ∷ f ∷ o ∷ n ∷ i ∷ ts ++ us ++ u ∷ vs) (forms.Condense op x d cond e))
    concat : {ts us : List Token} {x : Expr} {xs : List Expr} (k a n : Token) (z : ℤ)
        → IsWord "concat" k → E any ts x → IsRow (IsAfter "with" (E any)) us xs → IsWord "along" a → IsPlainNumber n z
        → IsWhole (k ∷ ts ++ us ++ a ∷ n ∷ []) (tree (k ∷ ts ++ us ++ a ∷ n ∷ []) (forms.Concat (x ∷ xs) z))
    overlaid : {ts : List Token} {x : Expr} → IsOverlaid ts x → IsWhole ts x

  abbrev pub IsLevel : Level → Rel Expr
  IsLevel any = IsWhole
  IsLevel negation = IsNegated
  IsLevel signed = IsSigned

  -- statement := select | insert | delete | update | create | drop | word
  -- select := "select" expr |[ "from" source {{ "," source }} |[ "where" expr ]| ]|
  -- insert := "insert" "into" name "values" expr
  -- delete := "delete" "from" name |[ "as" name ]| |[ "where" expr ]|
  -- update := "update" name |[ "as" name ]| "set" name |[ index ]| "assign" expr |[ "where" expr ]|
  -- create := "create" "collection" name name
  -- drop := "drop" "collection" name
  -- word := "begin" |[ "retry" number ]| | "commit" |[ "anyway" ]| | "abort"
  -- the number after "retry" is 1 to 1000 and has no suffix
  pub data IsForm : List Token → StatementForm → Type 0 where
    select : {ts : List Token} {e : Expr} (k : Token) → IsWord "select" k → E any ts e
        → IsForm (k ∷ ts) (statements.Select e [] None)
    select_from : {ts us vs : List Token} {e : Expr} {sources : List SourceName} {cond : Option Expr} (k f : Token)
        → IsWord "select" k → E any ts e → IsWord "from" f → IsCommaList IsSource us sources → IsOptional (IsAfter "where" (E any)) vs cond
        → IsForm (k ∷ ts ++ f ∷ us ++ vs) (statements.Select e sources cond)
    insert : {ts : List Token} {e : Expr} (k i n v : Token) (x : Spanned)
        → IsWord "insert" k → IsWord "into" i → IsName n x → IsWord "values" v → E any ts e
        → IsForm (k ∷ i ∷ n ∷ v ∷ ts) (statements.Insert x e)
    delete : {ts us : List Token} {from : SourceName} {cond : Option Expr} (k f : Token)
        → IsWord "delete" k → IsWord "from" f → IsSource ts from → IsOptional (IsAfter "where" (E any)) us cond
        → IsForm (k ∷ f ∷ ts ++ us) (statements.Delete from cond)
    -- the target is the name after "set" with its index
    update : {ts us vs ws : List Token} {of : SourceName} {axes : Option (List Axis)} {e : Expr} {cond : Option Expr}
        (k s' n a : Token) (x : Spanned)
        → IsWord "update" k → IsSource ts of → IsWord "set" s' → IsName n x → IsOptional IsIndex us axes → IsWord "assign" a
        → E any vs e → IsOptional (IsAfter "where" (E any)) ws cond
        → IsForm (k ∷ ts ++ s' ∷ n ∷ us ++ a ∷ vs ++ ws) (statements.Update of x axes (span_of (n ∷ us)) e cond)
    create : (k c n t : Token) (x y : Spanned) → IsWord "create" k → IsWord "collection" c → IsName n x → IsName t y
        → IsForm (k ∷ c ∷ n ∷ t ∷ []) (statements.Create x y)
    drop : (k c n : Token) (x : Spanned) → IsWord "drop" k → IsWord "collection" c → IsName n x
        → IsForm (k ∷ c ∷ n ∷ []) (statements.Drop x)
    begin : (k : Token) → IsWord "begin" k → IsForm (k ∷ []) (statements.Word (words.Begin 0))
    begin_retry : (k r n : Token) (times : ℕ) → IsWord "begin" k → IsWord "retry" r → IsPlainNumber n (pos times) → 1 ≤ times → times ≤ MAX_RETRIES
        → IsForm (k ∷ r ∷ n ∷ []) (statements.Word (words.Begin times))
    commit : (k : Token) → IsWord "commit" k → IsForm (k ∷ []) (statements.Word (words.Commit false))
    commit_anyway : (k a : Token) → IsWord "commit" k → IsWord "anyway" a → IsForm (k ∷ a ∷ []) (statements.Word (words.Commit true))
    abort : (k : Token) → IsWord "abort" k → IsForm (k ∷ []) (statements.Word words.Abort)

-- ---- the whole grammar

-- the three productions, nested less deep than a number
abbrev pub Nested : ℕ → Level → Rel Expr
Nested zero level ts x = ⊥
Nested (suc n) level ts x = IsLevel (Nested n) level ts x

-- the same, nested to any depth; what stands inside a production is again of the whole grammar, which the laws show
abbrev pub IsAt : Level → Rel Expr
IsAt level ts x = (n : ℕ) × Nested n level ts x

-- the tokens are an expression of this tree
abbrev pub IsExpr : Rel Expr
IsExpr = IsAt any

-- the tokens are a statement of this form
abbrev pub IsStatement : Rel StatementForm
IsStatement = IsForm IsAt
