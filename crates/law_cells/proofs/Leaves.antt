-- The cells of forms that have no cells of parts are of their kind.
use Rattle.std.proofs.Common.{◌≡◌, ℕ, ℤ, Bool, List, [], ◌∷◌, length, refl, sym, subst}
use Rattle.std.specs.Prelude.{Some, Result, Ok, slice_get}
use Rattle.ras_cells.specs.declared.atom.Atom.{Atom}
use Rattle.ras_cells.specs.declared.cell.Cell.{Cell}
use Rattle.ras_cells.specs.declared.cell.Cell.TheVariants.{Null}
use Rattle.ras_cells.specs.declared.cell.CellType.TheVariants as types
use Rattle.ras_cells.specs.declared.cell.CellFault.{CellFault}
use Rattle.ras_cells.specs.Atoms.{IsInRange}
use Rattle.ras_cells.specs.Cells.{single}
use Rattle.ras_cells.specs.Laws.{IsCellOf}
use Rattle.ras_syntax.specs.declared.span.Span.{Span}
use Rattle.ras_syntax.specs.declared.typed.CheckedSource.{CheckedSource}
use Rattle.ras_syntax.specs.declared.typed.Kind.{Kind}
use Rattle.ras_syntax.specs.declared.typed.Kind.TheVariants as kinds
use Rattle.spec_expressions.specs.Tree.{NameOf, Tree, node, truth, number, iterator, variable, coordinate, domain_of, interval_of, oid}
use Rattle.spec_expressions.specs.Check.{iterator_kind}
use Rattle.spec_expressions.specs.Kinds.{bool_type, wide_type}
use Rattle.spec_expressions.specs.Eval.{Environment}
use Rattle.spec_expressions.specs.Fits.{AreMembersOf, IsCellOfKind}
use Rattle.law_shapes.proofs.Outcomes.{same_ok}
use Rattle.law_cells.proofs.Types.{truth-typed}
use Rattle.law_cells.proofs.Scopes.{AreSmall, coordinate-typed, iterator-typed, oid-typed}
use Rattle.law_cells.proofs.Forms.{IsTyped, to_array, to_scalar}

-- ---- literals and names

pub truth_form-typed : (scope : Environment) (span : Span) (kind : Kind) (b : Bool) → kind ≡ kinds.Scalar bool_type → IsTyped scope (node span kind (truth b))
truth_form-typed scope span kind b rule shape p c shaped at is = to_scalar bool_type kind c rule (truth-typed b c is)

pub number-typed : (scope : Environment) (span : Span) (kind : Kind) (z : ℤ) (atom : Atom) → IsInRange atom z → kind ≡ kinds.Scalar (types.Atom atom)
    → IsTyped scope (node span kind (number z atom))
number-typed scope span kind z atom within rule shape p c shaped at is =
    to_scalar (types.Atom atom) kind c rule (subst (IsCellOf (atom ∷ [])) (same_ok (single z) c is) (within, tt))

pub iterator_form-typed : (sources : List CheckedSource) (scope : Environment) (span : Span) (kind : Kind) (place : ℕ) (source : CheckedSource)
    → AreMembersOf sources scope.row → slice_get sources place ≡ Some source → kind ≡ iterator_kind source → IsTyped scope (node span kind (iterator place))
iterator_form-typed sources scope span kind place source members found rule shape p c shaped at is =
    to_array source.of.cell (length source.of.bounds.items) kind c rule (iterator-typed sources scope.row place source p c members found is)

pub coordinate_form-typed : (scope : Environment) (span : Span) (kind : Kind) (x : NameOf) (k : ℤ) → AreSmall scope.variables → kind ≡ kinds.Scalar wide_type
    → IsTyped scope (node span kind (coordinate x k))
coordinate_form-typed scope span kind x k small rule shape p c shaped at is =
    to_scalar wide_type kind c rule (coordinate-typed x k scope.variables c small is)

pub oid_form-typed : (sources : List CheckedSource) (scope : Environment) (span : Span) (kind : Kind) (a : NameOf) → AreMembersOf sources scope.row
    → kind ≡ kinds.Scalar wide_type → IsTyped scope (node span kind (oid a))
oid_form-typed sources scope span kind a members rule shape p c shaped at is =
    to_scalar wide_type kind c rule (oid-typed sources scope.row a c members is)

-- ---- what has no cells

-- a null, of a kind of which only null is a cell
null-typed : (kind only_null : Kind) (c : Cell) → kind ≡ only_null → IsCellOfKind only_null Null → (let r : Result Cell CellFault = Ok Null in r ≡ Ok c) → IsCellOfKind kind c
null-typed kind only_null c rule null is =
    subst (λ k. IsCellOfKind k c) (sym rule) (subst (IsCellOfKind only_null) (same_ok Null c is) null)

pub variable-typed : (scope : Environment) (span : Span) (kind : Kind) (x : NameOf) (n : ℕ) → kind ≡ kinds.Point n → IsTyped scope (node span kind (variable x))
variable-typed scope span kind x n rule shape p c shaped at is = null-typed kind (kinds.Point n) c rule refl is

pub domain_of-typed : (scope : Environment) (span : Span) (kind : Kind) (e : Tree) (n : ℕ) → kind ≡ kinds.Domain n → IsTyped scope (node span kind (domain_of e))
domain_of-typed scope span kind e n rule shape p c shaped at is = null-typed kind (kinds.Domain n) c rule refl is

pub interval_of-typed : (scope : Environment) (span : Span) (kind : Kind) (e : Tree) (k : ℤ) → kind ≡ kinds.Domain 1 → IsTyped scope (node span kind (interval_of e k))
interval_of-typed scope span kind e k rule shape p c shaped at is = null-typed kind (kinds.Domain 1) c rule refl is
