-- The functions that read each production of the grammar. They compute what a parser computes that goes down the productions
-- and looks at the next token alone, and what it tells the first wrong token by. Each stands below its production. Those that
-- stand in one another more than once are shut, so that what speaks of them stays small.
use Rattle.std.specs.Prelude.{ℕ, zero, suc, nat_lt, nat_le, ◌&&◌, ℤ, pos, negsuc, Bool as Truth, true, false, List, [], ◌∷◌, ◌++◌, length, Option, Some, None, Result, Ok, Err}
use Rattle.ras_cells.specs.declared.atom.Atom.{Atom}
use Rattle.ras_cells.specs.declared.atom.Atom.TheVariants.{Bool, Char, Octet, Short, Ushort, Long, Ulong, Wide}
use Rattle.ras_cells.specs.declared.numbers.Op1.TheVariants as one
use Rattle.ras_cells.specs.declared.numbers.Op2.{Op2}
use Rattle.ras_syntax.specs.declared.span.Span.{Span}
use Rattle.ras_syntax.specs.declared.span.Spanned.{Spanned}
use Rattle.ras_syntax.specs.declared.expr.Expr.{Expr}
use Rattle.ras_syntax.specs.declared.expr.ExprForm.{ExprForm}
use Rattle.ras_syntax.specs.declared.expr.ExprForm.TheVariants as forms
use Rattle.ras_syntax.specs.declared.expr.Axis.{Axis}
use Rattle.ras_syntax.specs.declared.expr.Axis.TheVariants as axis
use Rattle.ras_syntax.specs.declared.expr.DomainExpr.{DomainExpr}
use Rattle.ras_syntax.specs.declared.expr.DomainExpr.TheVariants as domains
use Rattle.ras_syntax.specs.declared.expr.Part.TheVariants as parts
use Rattle.ras_syntax.specs.declared.statement.SourceName.{SourceName}
use Rattle.ras_syntax.specs.declared.statement.StatementForm.{StatementForm}
use Rattle.ras_syntax.specs.declared.statement.StatementForm.TheVariants as statements
use Rattle.ras_syntax.specs.declared.statement.Word.TheVariants as words
use Rattle.spec_grammar.specs.Tokens.{Text, TokenKind, name, word, number, sign, Token}
use Rattle.spec_grammar.specs.Grammar.{span_of, tree, Table, w, s, overlays, eithers, boths, comparisons, sums, products, calls, truths, fold_operators, cells_folds, atom_words, unsigned_words, Level, any, negation, signed}
use Rattle.law_grammar.specs.Readers.{Reader, same_kind, exactly, meant, give, bind, mapped, accept_or, accept, expect, choose, with_tokens, spanned_after, with_span, loop_after, loop}
use Rattle.ras_syntax.specs.declared.limits.TheConstants.{MAX_RETRIES}
use Rattle.ras_cells.specs.declared.TheConstants.{MAX_COMPONENTS}

-- ---- names and numbers

abbrev pub name_of_kind : TokenKind → Option Text
name_of_kind (name text) = Some text
name_of_kind (word text) = None
name_of_kind (number z a) = None
name_of_kind (sign text) = None

abbrev pub name_of : Token → Option Text
name_of t = name_of_kind t.kind

-- a name with its place
abbrev pub placed_name : Token → Option Spanned
placed_name t = elim (name_of_kind t.kind) [ Some text ↦ Some (record { name = text; span = span_of (t ∷ []) }) | None ↦ None ]

abbrev pub number_of_kind : TokenKind → Option (ℤ × Atom)
number_of_kind (name text) = None
number_of_kind (word text) = None
number_of_kind (number z a) = Some (z, a)
number_of_kind (sign text) = None

abbrev pub number_of : Token → Option (ℤ × Atom)
number_of t = number_of_kind t.kind

abbrev pub if_wide : ℤ → Atom → Option ℤ
if_wide z Bool = None
if_wide z Char = None
if_wide z Octet = None
if_wide z Short = None
if_wide z Ushort = None
if_wide z Long = None
if_wide z Ulong = None
if_wide z Wide = Some z

-- a number without a suffix
abbrev pub plain_of_kind : TokenKind → Option ℤ
plain_of_kind (name text) = None
plain_of_kind (word text) = None
plain_of_kind (number z a) = if_wide z a
plain_of_kind (sign text) = None

abbrev pub plain_number_of : Token → Option ℤ
plain_number_of t = plain_of_kind t.kind

-- how often a begin is retried: 1 to 1000 times
abbrev pub if_times : ℤ → Option ℕ
if_times (pos n) = elim (nat_le 1 n && nat_le n MAX_RETRIES) [ true ↦ Some n | false ↦ None ]
if_times (negsuc n) = None

abbrev pub times_of : Token → Option ℕ
times_of t = elim (plain_of_kind t.kind) [ Some z ↦ if_times z | None ↦ None ]

-- ---- what productions are made of

-- item close
abbrev pub closed_read : {A : Type 0} → TokenKind → Reader A → Reader A
closed_read closing item = bind item (λ x. expect closing (give x))

-- open item close
abbrev pub between_read : {A : Type 0} → TokenKind → TokenKind → Reader A → Reader A
between_read opening closing item = expect opening (closed_read closing item)

-- |[ keyword item ]|
abbrev pub optional_after : {A : Type 0} → TokenKind → Reader A → Reader (Option A)
optional_after keyword item = accept_or (exactly keyword) (λ k. mapped (λ x. Some x) item) (give None)

-- item {{ "," item }}, with a comma only where a list of so many items has room for another
abbrev pub if_room : {A : Type 0} → (ℕ → Truth) → List A → Token → Option Token
if_room room xs t = elim (room (length xs)) [ true ↦ exactly (s ",") t | false ↦ None ]

abbrev pub with_item : {A B : Type 0} → Reader A → List A → B → Reader (List Token → List A)
with_item item xs t = mapped (λ x ts. xs ++ x ∷ []) item

abbrev pub comma_list : {A : Type 0} → (ℕ → Truth) → Reader A → Reader (List A)
comma_list room item = loop (mapped (λ x. x ∷ []) item) (if_room room) (with_item item)

abbrev pub any_count : ℕ → Truth
any_count n = true

abbrev pub may_grow : ℕ → Truth
may_grow n = nat_lt n MAX_COMPONENTS

-- keyword item {{ keyword item }}
abbrev pub row_read : {A : Type 0} → TokenKind → Reader A → Reader (List A)
row_read keyword item = loop (expect keyword (mapped (λ x. x ∷ []) item)) (λ xs. exactly keyword) (with_item item)

-- item {{ operator item }}, grouped to the left
abbrev pub with_operand : Reader Expr → Expr → Op2 → Reader (List Token → Expr)
with_operand item x op = mapped (λ y ts. tree ts (forms.Binary op x y)) item

abbrev pub chain_read : Table Op2 → Reader Expr → Reader Expr
chain_read operators item = loop item (λ x. meant operators) (with_operand item)

-- source := name |[ "as" name ]|
abbrev pub named_read : Reader Spanned
named_read = accept placed_name (λ x. give x)

abbrev pub source_read : Reader SourceName
source_read = accept placed_name (λ x. mapped (λ iterator. record { collection = x; iterator = iterator }) (optional_after (w "as") named_read))

-- atom := "bool" | "boolean" | "octet" | "char" | "short" | "ushort" | "long" | "ulong" | "wide"
--       | "unsigned" "short" | "unsigned" "long"
abbrev pub atom_read : Reader Atom
atom_read = accept_or (meant atom_words) (λ a. give a) (expect (w "unsigned") (accept (meant unsigned_words) (λ a. give a)))

-- the words that begin an atom
abbrev pub begins_atom : Token → Truth
begins_atom t = elim (meant atom_words t) [ Some a ↦ true | None ↦ same_kind (w "unsigned") t.kind ]

-- ---- expressions

-- what follows a part: [ is told from .
abbrev pub part_signs : Table Truth
part_signs = (s "[", true) ∷ (s ".", false) ∷ []

-- a name or a number without a suffix, behind the point
abbrev pub part_rest : Expr → Reader (List Token → Expr)
part_rest x = accept_or name_of (λ text. give (λ ts. tree ts (forms.Part x (parts.Named text))))
    (accept plain_number_of (λ z. give (λ ts. tree ts (forms.Part x (parts.Numbered z)))))

-- each production over E, which reads the three that stand inside themselves
module _ (E : Level → Reader Expr) where
  abbrev pub parentheses_read : Reader Expr
  parentheses_read = between_read (s "(") (s ")") (E any)

  abbrev pub exprs : Reader (List Expr)
  exprs = comma_list any_count (E any)

  -- edge := "*" | expr
  abbrev pub edge_read : Reader (Option Expr)
  edge_read = accept_or (exactly (s "*")) (λ t. give None) (mapped (λ x. Some x) (E any))

  -- axis := expr | edge ":" edge
  abbrev pub trim_to : Option Expr → Reader Axis
  trim_to lo = mapped (λ hi. axis.Trim lo hi) edge_read

  abbrev pub axis_read : Reader Axis
  axis_read = accept_or (exactly (s "*")) (λ t. expect (s ":") (trim_to None))
      (bind (E any) (λ x. accept_or (exactly (s ":")) (λ c. trim_to (Some x)) (give (axis.At x))))

  -- index := "[" axis {{ "," axis }} "]"
  abbrev pub index_rest : Reader (List Axis)
  index_rest = closed_read (s "]") (comma_list any_count axis_read)

  -- expr ":" expr
  abbrev pub bounds_read : Reader (Expr × Expr)
  bounds_read = bind (E any) (λ lo. expect (s ":") (mapped (λ hi. (lo, hi)) (E any)))

  -- domain := "[" expr ":" expr {{ "," expr ":" expr }} "]" | "sdom" "(" expr ")"
  abbrev pub domain_read : Reader DomainExpr
  domain_read = accept_or (exactly (s "[")) (λ o. mapped domains.Literal (closed_read (s "]") (comma_list any_count bounds_read)))
      (accept (exactly (w "sdom")) (λ k. mapped domains.Sdom (spanned_after (k ∷ []) (mapped forms.Sdom parentheses_read))))

  -- "when" expr "then" expr, from its second token on
  abbrev pub arm_rest : Reader (Expr × Expr)
  arm_rest = bind (E any) (λ c. expect (w "then") (mapped (λ x. (c, x)) (E any)))

  -- braces hold 1 to 8 expressions
  abbrev pub braces_rest : Reader ExprForm
  braces_rest = mapped forms.Build (closed_read (s "}") (comma_list may_grow (E any)))

  abbrev pub choice_rest : Reader ExprForm
  choice_rest = bind (row_read (w "when") arm_rest) (λ arms. expect (w "else") (mapped (λ x. forms.Case arms x) (closed_read (w "end") (E any))))

  abbrev pub call_rest : Op2 → Reader ExprForm
  call_rest op = expect (s "(") (bind (E any) (λ x. expect (s ",") (mapped (λ y. forms.Binary op x y) (closed_read (s ")") (E any)))))

  abbrev pub shift_rest : Reader ExprForm
  shift_rest = expect (s "(") (bind (E any) (λ x. expect (s ",") (mapped (λ offsets. forms.Shift x offsets)
      (closed_read (s ")") (between_read (s "[") (s "]") exprs)))))

  abbrev pub extend_rest : Reader ExprForm
  extend_rest = expect (s "(") (bind (E any) (λ x. expect (s ",") (mapped (λ d. forms.Extend x d) (closed_read (s ")") domain_read))))

  -- primary := number | "true" | "false" | name | "(" expr ")"
  --     | |[ "struct" ]| "{" expr {{ "," expr }} "}"
  --     | "case" "when" expr "then" expr {{ "when" expr "then" expr }} "else" expr "end"
  --     | ("div" | "mod" | "bit") "(" expr "," expr ")" | "abs" "(" expr ")"
  --     | ("add_cells" | "min_cells" | "max_cells" | "count_cells" | "some_cells" | "all_cells") "(" expr ")"
  --     | "shift" "(" expr "," "[" expr {{ "," expr }} "]" ")"
  --     | "extend" "(" expr "," domain ")" | "sdom" "(" expr ")" | "oid" "(" name ")"
  -- but the one in parentheses, which begins as a cast does
  unfoldable pub function_form : Reader ExprForm
  function_form =
      accept_or (meant calls) call_rest
      (accept_or (exactly (w "abs")) (λ k. mapped (λ x. forms.Unary one.Abs x) parentheses_read)
      (accept_or (meant cells_folds) (λ fold. mapped (λ x. forms.Cells fold x) parentheses_read)
      (accept_or (exactly (w "shift")) (λ k. shift_rest)
      (accept_or (exactly (w "extend")) (λ k. extend_rest)
      (accept_or (exactly (w "sdom")) (λ k. mapped forms.Sdom parentheses_read)
      (accept (exactly (w "oid")) (λ k. mapped forms.Oid (between_read (s "(") (s ")") named_read))))))))

  unfoldable pub primary_form : Reader ExprForm
  primary_form =
      accept_or number_of (λ n. give (forms.Number n.0 n.1))
      (accept_or (meant truths) (λ b. give (forms.Bool b))
      (accept_or name_of (λ text. give (forms.Name text))
      (accept_or (exactly (s "{")) (λ o. braces_rest)
      (accept_or (exactly (w "struct")) (λ k. expect (s "{") braces_rest)
      (accept_or (exactly (w "case")) (λ k. choice_rest) function_form)))))

  -- part := primary {{ index | "." name | "." number }}, grouped to the left; the number has no suffix
  abbrev pub with_part : Expr → Truth → Reader (List Token → Expr)
  with_part x true = mapped (λ axes ts. tree ts (forms.Index x axes)) index_rest
  with_part x false = part_rest x

  abbrev pub part_after : List Token → Reader Expr → Reader Expr
  part_after already first = loop_after already first (λ x. meant part_signs) with_part

  -- signed := "-" signed | "(" atom ")" signed | part
  abbrev pub cast_rest : Reader ExprForm
  cast_rest = bind (closed_read (s ")") atom_read) (λ a. mapped (λ x. forms.Cast a x) (E signed))

  unfoldable pub signed_read : Reader Expr
  signed_read =
      accept_or (exactly (s "-")) (λ m. spanned_after (m ∷ []) (mapped (λ x. forms.Unary one.Neg x) (E signed)))
      (accept_or (exactly (s "(")) (λ o. choose begins_atom (spanned_after (o ∷ []) cast_rest) (part_after (o ∷ []) (closed_read (s ")") (E any))))
      (part_after [] (with_span primary_form)))

  -- product := signed {{ "*" signed }}
  unfoldable pub product_read : Reader Expr
  product_read = chain_read products signed_read

  -- sum := product {{ ("+" | "-") product }}
  unfoldable pub sum_read : Reader Expr
  sum_read = chain_read sums product_read

  -- compared := sum |[ ("=" | "!=" | "<" | "<=" | ">" | ">=") sum ]|
  unfoldable pub compared_read : Reader Expr
  compared_read = with_tokens (bind sum_read (λ x. accept_or (meant comparisons) (with_operand sum_read x) (give (λ ts. x))))

  -- negated := "not" negated | compared
  unfoldable pub negated_read : Reader Expr
  negated_read = accept_or (exactly (w "not")) (λ k. spanned_after (k ∷ []) (mapped (λ x. forms.Unary one.Not x) (E negation))) compared_read

  -- both := negated {{ "and" negated }}
  unfoldable pub both_read : Reader Expr
  both_read = chain_read boths negated_read

  -- either := both {{ ("or" | "xor") both }}
  unfoldable pub either_read : Reader Expr
  either_read = chain_read eithers both_read

  -- overlaid := either {{ "overlay" either }}
  unfoldable pub overlaid_read : Reader Expr
  overlaid_read = chain_read overlays either_read

  -- expr := "marray" name "in" domain "values" expr
  --     | "condense" op "over" name "in" domain |[ "where" expr ]| "using" expr
  --     | "concat" expr "with" expr {{ "with" expr }} "along" number
  --     | overlaid
  -- the number has no suffix
  abbrev pub marray_rest : Reader ExprForm
  marray_rest = accept placed_name (λ x. expect (w "in") (bind domain_read (λ d. expect (w "values") (mapped (λ e. forms.Marray x d e) (E any)))))

  abbrev pub condense_rest : Reader ExprForm
  condense_rest = accept (meant fold_operators) (λ op. expect (w "over") (accept placed_name (λ x. expect (w "in") (bind domain_read (λ d.
      bind (optional_after (w "where") (E any)) (λ cond. expect (w "using") (mapped (λ e. forms.Condense op x d cond e) (E any))))))))

  abbrev pub concat_rest : Reader ExprForm
  concat_rest = bind (E any) (λ x. bind (row_read (w "with") (E any)) (λ xs. expect (w "along") (accept plain_number_of (λ z. give (forms.Concat (x ∷ xs) z)))))

  unfoldable pub whole_read : Reader Expr
  whole_read =
      accept_or (exactly (w "marray")) (λ k. spanned_after (k ∷ []) marray_rest)
      (accept_or (exactly (w "condense")) (λ k. spanned_after (k ∷ []) condense_rest)
      (accept_or (exactly (w "concat")) (λ k. spanned_after (k ∷ []) concat_rest) overlaid_read))

  abbrev pub level_read : Level → Reader Expr
  level_read any = whole_read
  level_read negation = negated_read
  level_read signed = signed_read

  -- ---- statements

  -- |[ "where" expr ]|
  abbrev pub condition : Reader (Option Expr)
  condition = optional_after (w "where") (E any)

  -- select := "select" expr |[ "from" source {{ "," source }} |[ "where" expr ]| ]|
  abbrev pub select_rest : Reader StatementForm
  select_rest = bind (E any) (λ e. accept_or (exactly (w "from"))
      (λ f. bind (comma_list any_count source_read) (λ sources. mapped (λ cond. statements.Select e sources cond) condition))
      (give (statements.Select e [] None)))

  -- insert := "insert" "into" name "values" expr
  abbrev pub insert_rest : Reader StatementForm
  insert_rest = expect (w "into") (accept placed_name (λ x. expect (w "values") (mapped (λ e. statements.Insert x e) (E any))))

  -- delete := "delete" "from" name |[ "as" name ]| |[ "where" expr ]|
  abbrev pub delete_rest : Reader StatementForm
  delete_rest = expect (w "from") (bind source_read (λ of. mapped (λ cond. statements.Delete of cond) condition))

  -- update := "update" name |[ "as" name ]| "set" name |[ index ]| "assign" expr |[ "where" expr ]|
  -- the target is the name after "set" with its index
  abbrev pub target : Reader (Spanned × Option (List Axis) × Span)
  target = with_tokens (accept placed_name (λ x. mapped (λ axes ts. (x, axes, span_of ts)) (optional_after (s "[") index_rest)))

  abbrev pub update_rest : Reader StatementForm
  update_rest = bind source_read (λ of. expect (w "set") (bind target (λ to. expect (w "assign") (bind (E any) (λ e.
      mapped (λ cond. statements.Update of to.0 to.1 to.2 e cond) condition)))))

  -- create := "create" "collection" name name
  abbrev pub create_rest : Reader StatementForm
  create_rest = expect (w "collection") (accept placed_name (λ x. accept placed_name (λ y. give (statements.Create x y))))

  -- drop := "drop" "collection" name
  abbrev pub drop_rest : Reader StatementForm
  drop_rest = expect (w "collection") (accept placed_name (λ x. give (statements.Drop x)))

  -- word := "begin" |[ "retry" number ]| | "commit" |[ "anyway" ]| | "abort"
  -- the number after "retry" is 1 to 1000 and has no suffix
  abbrev pub begin_rest : Reader StatementForm
  begin_rest = accept_or (exactly (w "retry")) (λ r. accept times_of (λ times. give (statements.Word (words.Begin times))))
      (give (statements.Word (words.Begin 0)))

  abbrev pub commit_rest : Reader StatementForm
  commit_rest = accept_or (exactly (w "anyway")) (λ a. give (statements.Word (words.Commit true))) (give (statements.Word (words.Commit false)))

  -- statement := select | insert | delete | update | create | drop | word
  abbrev pub form_read : Reader StatementForm
  form_read =
      accept_or (exactly (w "select")) (λ k. select_rest)
      (accept_or (exactly (w "insert")) (λ k. insert_rest)
      (accept_or (exactly (w "delete")) (λ k. delete_rest)
      (accept_or (exactly (w "update")) (λ k. update_rest)
      (accept_or (exactly (w "create")) (λ k. create_rest)
      (accept_or (exactly (w "drop")) (λ k. drop_rest)
      (accept_or (exactly (w "begin")) (λ k. begin_rest)
      (accept_or (exactly (w "commit")) (λ k. commit_rest)
      (accept (exactly (w "abort")) (λ k. give (statements.Word words.Abort))))))))))

-- ---- the whole grammar

-- the three productions, nested less deep than a number
unfoldable pub reads : ℕ → Level → Reader Expr
reads zero level s = Err s
reads (suc n) level s = level_read (reads n) level s

-- each production takes a token before it stands inside itself, so no list is nested deeper than it is long
unfoldable pub read_at : Level → Reader Expr
read_at level s = reads (suc (length s)) level s

-- a statement, and tokens that may go on
abbrev pub read_form : Reader StatementForm
read_form = form_read read_at

-- a statement that has all the tokens
unfoldable pub read_statement : List Token → Result StatementForm (List Token)
read_statement ts = elim (read_form ts) [
  | Ok p ↦ elim p.1 [ [] ↦ Ok p.0 | t ∷ rest ↦ Err (t ∷ rest) ]
  | Err rest ↦ Err rest
]
