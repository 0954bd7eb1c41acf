-- The trees of worked statements before and after their check, over a small catalog.
use Rattle.std.specs.Prelude.{ℕ, true, pos, List, [], ◌∷◌, Some, Result, Ok, Err, codes}
use Rattle.ras_cells.specs.declared.atom.Atom.TheVariants as atoms
use Rattle.ras_cells.specs.declared.cell.CellType.{CellType}
use Rattle.ras_cells.specs.declared.cell.CellType.TheVariants as cells
use Rattle.ras_syntax.specs.declared.span.Span.{Span}
use Rattle.ras_syntax.specs.declared.span.Spanned.{Spanned}
use Rattle.ras_syntax.specs.declared.types.SetType.{SetType}
use Rattle.ras_syntax.specs.declared.expr.Expr.{Expr, roll-Expr}
use Rattle.ras_syntax.specs.declared.expr.ExprForm.{ExprForm}
use Rattle.ras_syntax.specs.declared.expr.ExprForm.TheVariants as form
use Rattle.ras_syntax.specs.declared.expr.Axis.{Axis}
use Rattle.ras_syntax.specs.declared.expr.Axis.TheVariants as axis
use Rattle.ras_syntax.specs.declared.expr.Part.TheVariants as part
use Rattle.ras_syntax.specs.declared.statement.SourceName.{SourceName}
use Rattle.ras_syntax.specs.declared.statement.StatementForm.{StatementForm}
use Rattle.ras_syntax.specs.declared.faults.CheckFault.{CheckFault}
use Rattle.ras_syntax.specs.declared.typed.Kind.{Kind}
use Rattle.ras_syntax.specs.declared.typed.Kind.TheVariants as kind
use Rattle.ras_syntax.specs.declared.typed.Checked.{Checked}
use Rattle.ras_syntax.specs.declared.typed.CheckedForm.{CheckedForm}
use Rattle.ras_syntax.specs.declared.typed.CheckedSource.{CheckedSource}
use Rattle.ras_syntax.specs.declared.typed.TypedExpr.{TypedExpr, roll-TypedExpr}
use Rattle.ras_syntax.specs.declared.typed.TypedForm.{TypedForm}
use Rattle.ras_syntax.specs.declared.typed.TypedForm.TheVariants as typed
use Rattle.ras_syntax.specs.declared.typed.TypedAxis.{TypedAxis}
use Rattle.ras_syntax.specs.declared.typed.TypedAxis.TheVariants as taxis
use Rattle.spec_expressions.specs.Check.{CheckMisfit}
use Rattle.spec_statements.specs.CheckStatement.{Catalog, checked_statement}
use Rattle.spec_expressions.specs.Worked.{a_, R_, any_bound, set_type_named, rgb_set, rgb, wide_kind}

-- ---- small words for trees

abbrev pub span_from : ℕ → ℕ → Span
span_from from to = record { from = from; to = to }

abbrev pub expr_from : ℕ → ℕ → ExprForm → Expr
expr_from from to form = roll-Expr (record { span = span_from from to; form = form })

abbrev pub number_from : ℕ → ℕ → ℕ → Expr
number_from from to n = expr_from from to (form.Number (pos n) atoms.Wide)

abbrev pub true_from : ℕ → ℕ → Expr
true_from from to = expr_from from to (form.Bool true)

-- a name of one letter
abbrev pub name_from : ℕ → List ℕ → Expr
name_from from x = expr_from from (ℕ.suc from) (form.Name x)

abbrev pub letter : ℕ → List ℕ → Spanned
letter from x = record { name = x; span = span_from from (ℕ.suc from) }

abbrev pub word : ℕ → ℕ → List ℕ → Spanned
word from to x = record { name = x; span = span_from from to }

-- a source with its iterator, both of one letter
abbrev pub source : ℕ → List ℕ → ℕ → List ℕ → SourceName
source from c to a = record { collection = letter from c; iterator = Some (letter to a) }

abbrev pub b_ : List ℕ
b_ = codes "b"

abbrev pub p_ : List ℕ
p_ = codes "p"

abbrev pub G_ : List ℕ
G_ = codes "G"

abbrev pub H_ : List ℕ
H_ = codes "H"

abbrev pub N_ : List ℕ
N_ = codes "N"

-- 0:1 of which the first digit stands here
abbrev pub zero_to_one : ℕ → Expr × Expr
zero_to_one from = (number_from from (ℕ.suc from) 0, number_from (ℕ.suc (ℕ.suc from)) (ℕ.suc (ℕ.suc (ℕ.suc from))) 1)

-- ---- the same of checked trees

abbrev pub typed_from : ℕ → ℕ → Kind → TypedForm → TypedExpr
typed_from from to kind form = roll-TypedExpr (record { span = span_from from to; kind = kind; form = form })

abbrev pub char_array : ℕ → Kind
char_array axes = kind.Array (cells.Atom atoms.Char) axes

abbrev pub tnumber : ℕ → ℕ → ℕ → TypedExpr
tnumber from to n = typed_from from to wide_kind (typed.Number (pos n) atoms.Wide)

abbrev pub rgb_array : Kind
rgb_array = kind.Array rgb 1

abbrev pub wides : CellType
wides = cells.Composite (record { items = atoms.Wide ∷ atoms.Wide ∷ atoms.Wide ∷ [] })

abbrev pub zero_to_one_trim : ℕ → Axis
zero_to_one_trim from = axis.Trim (Some (zero_to_one from).0) (Some (zero_to_one from).1)

abbrev pub ttrim : ℕ → TypedAxis
ttrim from = taxis.Trim (Some (tnumber from (ℕ.suc from) 0)) (Some (tnumber (ℕ.suc (ℕ.suc from)) (ℕ.suc (ℕ.suc (ℕ.suc from))) 1))

-- ---- the types and collections

abbrev pub grey_set : SetType
grey_set = set_type_named (codes "GreySet") (cells.Atom atoms.Char) [] (any_bound ∷ any_bound ∷ [])

abbrev pub nil_set : SetType
nil_set = set_type_named (codes "NilSet") (cells.Atom atoms.Char) [] (any_bound ∷ [])

abbrev pub catalog : Catalog
catalog = record { types = grey_set ∷ nil_set ∷ rgb_set ∷ []; collections = (G_, 0) ∷ (N_, 1) ∷ (R_, 2) ∷ [] }

abbrev pub check_of : ℕ → StatementForm → Result Checked CheckMisfit
check_of size form = checked_statement catalog (record { form = form; length = size })

abbrev pub fault_from : ℕ → ℕ → CheckFault → Result Checked CheckMisfit
fault_from from to why = Err (span_from from to, why)

abbrev pub fine : ℕ → CheckedForm → Result Checked CheckMisfit
fine size form = Ok (record { form = form; length = size })

abbrev pub grey_source : CheckedSource
grey_source = record { collection = G_; iterator = a_; of = grey_set }

abbrev pub nil_source : CheckedSource
nil_source = record { collection = N_; iterator = a_; of = nil_set }

abbrev pub nil_source_as_b : CheckedSource
nil_source_as_b = record { collection = N_; iterator = b_; of = nil_set }

-- 0:0 of which the first digit stands here
abbrev pub zero_to_zero : ℕ → Expr × Expr
zero_to_zero from = (number_from from (ℕ.suc from) 0, number_from (ℕ.suc (ℕ.suc from)) (ℕ.suc (ℕ.suc (ℕ.suc from))) 0)

-- sdom(a)[0] with the name of a bound, as a text has it from its byte 7 on
abbrev pub bound_of_a : List ℕ → TypedExpr
bound_of_a bound =
    typed_from 7 20 wide_kind (typed.Part (typed_from 7 17 (kind.Domain 1)
    (typed.Index (typed_from 7 14 (kind.Domain 2) (typed.Sdom (typed_from 12 13 (char_array 2) (typed.Iterator a_ 0)))) (taxis.At (tnumber 15 16 0) ∷ []))) (part.Named bound))
