-- Which forms have cells, and what the others are.
use Rattle.std.proofs.Common.{◌≡◌, Bool, true, false, List, [], ◌∷◌, ◌++◌, refl, sym, subst}
use Rattle.std.specs.Prelude.{ℕ, ◌==◌, ℤ, Option, Ok, if◌then◌else◌}
use Rattle.ras_cells.specs.declared.cell.CellType.{CellType}
use Rattle.ras_syntax.specs.declared.typed.Kind.{Kind}
use Rattle.ras_syntax.specs.declared.typed.Kind.TheVariants as kinds
use Rattle.ras_syntax.specs.declared.typed.CheckedSource.{CheckedSource}
use Rattle.spec_expressions.specs.Tree.{NameOf, Tree, Form, Axes, truth, number, iterator, variable, coordinate, unary, cast, binary, index, at_point, component, choice, composite, marray, condense, folded, shift, extend, concat, domain_of, interval_of, bound_of, oid}
use Rattle.spec_expressions.specs.Kinds.{type1_of, cast_type, type_of_both, choice_type, composite_type, atoms_of_all, on_cells, common_kind, operands_kind, scalar_kind, axes_of_arrays}
use Rattle.spec_expressions.specs.Check.{concat_kind, cut_kind, kept_of, with_cell}
use Rattle.spec_expressions.specs.WellTyped.{Variables, IsVariable, HasKind, kind_in, kinds_in, firsts_in, seconds_in}
use Rattle.law_shapes.proofs.Rules.{ruled-ok, induced-ok}
use Rattle.law_shapes.proofs.FittingArrays.{one_cell-ok, concat-kinds}

-- a scalar or an array
abbrev pub has_cells : Kind → Bool
has_cells (kinds.Scalar cell) = true
has_cells (kinds.Array cell axes) = true
has_cells other = false

-- no form that an index or a part reads in its own way
abbrev pub is_plain : Form → Bool
is_plain (variable x) = false
is_plain (domain_of e) = false
is_plain (interval_of e k) = false
is_plain other = true

-- rules give kinds with cells
spread-cells : (cell : CellType) (ns : List ℕ) → has_cells (operands_kind cell ns) ≡ true
spread-cells cell [] = refl
spread-cells cell (n ∷ ns) = refl

induced-cells : (given : Option CellType) (ks : List Kind) (kind : Kind) → common_kind given ks ≡ Ok kind → has_cells kind ≡ true
induced-cells given ks kind is =
    let rule = induced-ok given ks kind is in subst (λ k. has_cells k ≡ true) rule.3 (spread-cells rule.0 (axes_of_arrays ks))

one_cell-cells : (given : Option CellType) (kind : Kind) → scalar_kind given ≡ Ok kind → has_cells kind ≡ true
one_cell-cells given kind is = subst (λ k. has_cells k ≡ true) (sym (one_cell-ok given kind is).2) refl

chosen-cells : (zero : Bool) (cell : CellType) (n : ℕ) → has_cells (if zero then kinds.Scalar cell else kinds.Array cell n) ≡ true
chosen-cells true cell n = refl
chosen-cells false cell n = refl

cut-cells : (cell : CellType) (n : ℕ) (axes : Axes) (kind : Kind) → cut_kind cell n axes ≡ Ok kind → has_cells kind ≡ true
cut-cells cell n axes kind is =
    let parts = ruled-ok _ _ _ _ _ is in subst (λ k. has_cells k ≡ true) parts.3 (chosen-cells (kept_of axes == 0) cell (kept_of axes))

with_cell-cells : (cell : CellType) (kind : Kind) → has_cells (with_cell cell kind) ≡ true
with_cell-cells cell (kinds.Scalar old) = refl
with_cell-cells cell (kinds.Array old axes) = refl
with_cell-cells cell (kinds.Domain axes) = refl
with_cell-cells cell (kinds.Point axes) = refl

concat-cells : (along : ℤ) (ks : List Kind) (kind : Kind) → concat_kind along ks ≡ Ok kind → has_cells kind ≡ true
concat-cells along ks kind is = subst (λ k. has_cells k ≡ true) (sym (concat-kinds along ks kind is).kind_is) refl

-- a form is a variable, a domain, one axis of a domain, or has cells
pub data View (variables : Variables) : Kind → Form → Type 0 where
  cells : {kind : Kind} {f : Form} → has_cells kind ≡ true → is_plain f ≡ true → View variables kind f
  a_variable : (x : NameOf) (n : ℕ) → IsVariable variables x n → View variables (kinds.Point n) (variable x)
  a_domain : (n : ℕ) (e : Tree) → View variables (kinds.Domain n) (domain_of e)
  an_interval : (e : Tree) (k : ℤ) → View variables (kinds.Domain 1) (interval_of e k)

module _ (sources : List CheckedSource) (variables : Variables) where
  by_cells : {kind : Kind} {f : Form} (of : Kind) → has_cells of ≡ true → is_plain f ≡ true → kind ≡ of → View variables kind f
  by_cells of has plain is = View.cells (subst (λ k. has_cells k ≡ true) (sym is) has) plain

  pub view : (kind : Kind) (f : Form) → HasKind sources variables kind f → View variables kind f
  view kind (truth b) h = by_cells _ refl refl h
  view kind (number z atom) h = by_cells _ refl refl h.1
  view kind (iterator place) h = by_cells _ refl refl h.2
  view kind (variable x) h = subst (λ k. View variables k (variable x)) (sym h.2) (View.a_variable x h.0 h.1)
  view kind (coordinate x k) h = by_cells _ refl refl h.3
  view kind (unary op e) h = View.cells (induced-cells (on_cells (type1_of op) (kind_in e)) (kind_in e ∷ []) kind h.1) refl
  view kind (cast atom e) h = View.cells (induced-cells (on_cells (cast_type atom) (kind_in e)) (kind_in e ∷ []) kind h.1) refl
  view kind (binary op a b) h = View.cells (induced-cells (type_of_both op (kind_in a) (kind_in b)) (kind_in a ∷ kind_in b ∷ []) kind h.2) refl
  view kind (index e axes) h = View.cells (cut-cells h.0 h.1 axes kind h.5) refl
  view kind (at_point e x) h = by_cells _ refl refl h.5
  view kind (component e k) h = by_cells _ (with_cell-cells h.0 (kind_in e)) refl h.3
  view kind (choice arms other) h =
      let branches : List Kind = seconds_in arms ++ kind_in other ∷ [] in
      View.cells (induced-cells (choice_type (firsts_in arms) branches) (firsts_in arms ++ branches) kind h.2) refl
  view kind (composite es) h = View.cells (induced-cells (composite_type (atoms_of_all (kinds_in es))) (kinds_in es) kind h.1) refl
  view kind (marray x domain e) h = by_cells _ refl refl h.5
  view kind (condense op x domain condition e) h = by_cells _ refl refl h.6
  view kind (folded f e) h = View.cells (one_cell-cells _ _ h.1) refl
  view kind (shift e offsets) h = by_cells _ refl refl h.8
  view kind (extend e domain) h = by_cells _ refl refl h.7
  view kind (concat parts along) h = View.cells (concat-cells along (kinds_in parts) kind h.1) refl
  view kind (domain_of e) h = subst (λ k. View variables k (domain_of e)) (sym h.4) (View.a_domain h.1 e)
  view kind (interval_of e k) h = subst (λ l. View variables l (interval_of e k)) (sym h.5) (View.an_interval e k)
  view kind (bound_of side e k) h = by_cells _ refl refl h.5
  view kind (oid a) h = by_cells _ refl refl h.2
