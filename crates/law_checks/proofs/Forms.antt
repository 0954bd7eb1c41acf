-- For each form: where the parts are well typed, and the rule gives a kind, the form is of that kind.
use Rattle.std.proofs.Common.{◌≡◌, Bool, true, false, List, [], ◌∷◌, ◌++◌, map, refl, sym, ap, subst, ◌∙◌, arith}
use Rattle.std.specs.Prelude.{ℕ, suc, ◌+◌, ℤ, IsTrue, Option, Some, None, Result, Ok, Err, slice_get, if◌then◌else◌}
use Rattle.std.specs.Map.{lookup}
use Rattle.std.proofs.lemmas.Bool.{eqb-true}
use Rattle.ras_cells.specs.Outcomes.{◌>>=◌}
use Rattle.ras_cells.specs.Atoms.{is_in_range}
use Rattle.ras_cells.specs.declared.atom.Atom.{Atom}
use Rattle.ras_cells.specs.declared.cell.CellType.{CellType}
use Rattle.ras_cells.specs.declared.cell.CellType.TheVariants as types
use Rattle.ras_cells.specs.declared.numbers.Op1.{Op1}
use Rattle.ras_cells.specs.declared.numbers.Op2.{Op2}
use Rattle.ras_cells.proofs.Ranges.{IsInRange-is_in_range}
use Rattle.ras_syntax.specs.declared.expr.CellsFold.{CellsFold}
use Rattle.ras_syntax.specs.declared.span.Span.{Span}
use Rattle.ras_syntax.specs.declared.span.Spanned.{Spanned}
use Rattle.ras_syntax.specs.declared.typed.Kind.{Kind}
use Rattle.ras_syntax.specs.declared.typed.Kind.TheVariants as kinds
use Rattle.ras_syntax.specs.declared.typed.CheckedSource.{CheckedSource}
use Rattle.ras_syntax.specs.declared.typed.TypedExpr.{TypedExpr}
use Rattle.ras_syntax.specs.declared.typed.TypedForm.TheVariants as typed
use Rattle.spec_expressions.specs.Tree.{NameOf, is_same_name, tree_of, truth, number, variable, iterator, unary, cast, binary, choice, composite, folded, shift, concat, domain_of, oid}
use Rattle.spec_expressions.specs.Kinds.{bool_type, wide_type, unary_kind, cast_kind, binary_kind, composite_kind, folded_kind, array_cell, axes_of_kind}
use Rattle.spec_expressions.specs.Names.{source_from}
use Rattle.spec_expressions.specs.Check.{CheckMisfit, iterator_kind, kind_of, kinds_of, typed_of, placed_at, checked_name, oid_kind, choice_kind, shift_kind, concat_kind, sdom_kind}
use Rattle.spec_expressions.specs.WellTyped.{Variables, IsWellTyped, HasKind}
use Rattle.spec_statements.proofs.CheckedForms.{tree_bool_is, tree_number_is, tree_variable_is, tree_iterator_is, tree_unary_is, tree_cast_is, tree_binary_is, tree_case_is, tree_build_is, tree_cells_is, tree_shift_is, tree_concat_is, tree_sdom_is, tree_oid_is}
use Rattle.law_shapes.proofs.Rules.{ruled-ok}
use Rattle.law_checks.proofs.Parts.{IsTyped, AreTyped, ArePairsTyped, trees_in, pairs_in, kind_in-tree_of, kinds_in-trees, count_trees-trees, firsts_in-pairs, seconds_in-pairs, number_trees, static_trees, made-typed}

-- ---- names

-- the source that was found stands at its place
record IsFound (sources : List CheckedSource) (from : ℕ) (found : ℕ × CheckedSource) : Type 0 where
  after : ℕ
  place : found.0 ≡ from + after
  there : slice_get sources after ≡ Some found.1

first_or_later : (same : Bool) (source : CheckedSource) (sources : List CheckedSource) (from : ℕ) (later : Option (ℕ × CheckedSource)) (found : ℕ × CheckedSource)
    → (later ≡ Some found → IsFound sources (suc from) found) → (if same then Some (from, source) else later) ≡ Some found → IsFound (source ∷ sources) from found
first_or_later true source sources from later found further is =
    let e : (from, source) ≡ found = cc in
    record { after = 0; place = let h : from ≡ found.0 = ap (λ p. p.0) e in omega arith; there = ap (λ p. Some p.1) e }
first_or_later false source sources from later found further is =
    let h = further is in record { after = suc h.after; place = let e = h.place in omega arith; there = h.there }

found-at : (a : NameOf) (sources : List CheckedSource) (from : ℕ) (found : ℕ × CheckedSource) → source_from from a sources ≡ Some found → IsFound sources from found
found-at a [] from found is = absurd cc
found-at a (source ∷ sources) from found is =
    first_or_later (is_same_name a source.iterator) source sources from (source_from (suc from) a sources) found (found-at a sources (suc from) found) is

-- an array's cells
pub array_kind : (kind : Kind) (cell : CellType) → array_cell kind ≡ Some cell → kind ≡ kinds.Array cell (axes_of_kind kind)
array_kind (kinds.Scalar other) cell is = absurd cc
array_kind (kinds.Array other axes) cell is = let e : other ≡ cell = cc in ap (λ c. kinds.Array c axes) e
array_kind (kinds.Domain axes) cell is = absurd cc
array_kind (kinds.Point axes) cell is = absurd cc

module _ (sources : List CheckedSource) (variables : Variables) (s : Span) (x : TypedExpr) where
  pub bool-typed : (b : Bool) → typed_of s (typed.Bool b) (Ok (kinds.Scalar bool_type)) ≡ Ok x → IsWellTyped sources variables (tree_of x)
  bool-typed b is = made-typed sources variables s (typed.Bool b) (truth b) (Ok (kinds.Scalar bool_type)) x (tree_bool_is b) is (λ kind rule. cc)

  pub number-typed : (z : ℤ) (atom : Atom) → IsTrue (is_in_range atom z) → typed_of s (typed.Number z atom) (Ok (kinds.Scalar (types.Atom atom))) ≡ Ok x
      → IsWellTyped sources variables (tree_of x)
  number-typed z atom fits is = made-typed sources variables s (typed.Number z atom) (number z atom) (Ok (kinds.Scalar (types.Atom atom))) x (tree_number_is z atom) is
      (λ kind rule. ((IsInRange-is_in_range atom z).0 fits, cc))

  pub named-typed : (name : NameOf) (axes : Option ℕ) (source : Option (ℕ × CheckedSource)) → lookup (is_same_name name) variables ≡ axes → source_from 0 name sources ≡ source
      → checked_name s name axes source ≡ Ok x → IsWellTyped sources variables (tree_of x)
  named-typed name (Some axes) source declared from is = made-typed sources variables s (typed.Variable name) (variable name) (Ok (kinds.Point axes)) x (tree_variable_is name) is
      (λ kind rule. (axes, declared, cc))
  named-typed name None (Some found) declared from is =
      made-typed sources variables s (typed.Iterator name found.0) (iterator found.0) (Ok (iterator_kind found.1)) x (tree_iterator_is name found.0) is
      (λ kind rule. let h = found-at name sources 0 found from in
      let e : h.after ≡ found.0 = let p = h.place in omega arith in
      (found.1, subst (λ place. slice_get sources place ≡ Some found.1) e h.there, cc))
  named-typed name None None declared from is = absurd cc

  pub unary-typed : (op : Op1) (e : Result TypedExpr CheckMisfit)
      → (do
        y ← e
        typed_of s (typed.Unary op y) (unary_kind op (kind_of y))) ≡ Ok x
      → IsTyped sources variables e → IsWellTyped sources variables (tree_of x)
  unary-typed op (Ok y) is e = made-typed sources variables s (typed.Unary op y) (unary op (tree_of y)) _ x (tree_unary_is op y) is
      (λ kind rule. (e y refl, rw (kind_in-tree_of y) rule))
  unary-typed op (Err fault) is e = absurd cc

  pub cast-typed : (to : Atom) (e : Result TypedExpr CheckMisfit)
      → (do
        y ← e
        typed_of s (typed.Cast to y) (cast_kind to (kind_of y))) ≡ Ok x
      → IsTyped sources variables e → IsWellTyped sources variables (tree_of x)
  cast-typed to (Ok y) is e = made-typed sources variables s (typed.Cast to y) (cast to (tree_of y)) _ x (tree_cast_is to y) is
      (λ kind rule. (e y refl, rw (kind_in-tree_of y) rule))
  cast-typed to (Err fault) is e = absurd cc

  pub binary-typed : (op : Op2) (a b : Result TypedExpr CheckMisfit)
      → (do
        y ← a
        z ← b
        typed_of s (typed.Binary op y z) (binary_kind op (kind_of y) (kind_of z))) ≡ Ok x
      → IsTyped sources variables a → IsTyped sources variables b → IsWellTyped sources variables (tree_of x)
  binary-typed op (Ok y) (Ok z) is a b = made-typed sources variables s (typed.Binary op y z) (binary op (tree_of y) (tree_of z)) _ x (tree_binary_is op y z) is
      (λ kind rule. (a y refl, b z refl, rw (kind_in-tree_of y, kind_in-tree_of z) rule))
  binary-typed op (Ok y) (Err fault) is a b = absurd cc
  binary-typed op (Err fault) b is ha hb = absurd cc

  pub choice-typed : (arms : Result (List (TypedExpr × TypedExpr)) CheckMisfit) (other : Result TypedExpr CheckMisfit)
      → (do
        ys ← arms
        y ← other
        typed_of s (typed.Case ys y) (choice_kind (map (λ arm. kind_of arm.0) ys) (map (λ arm. kind_of arm.1) ys ++ kind_of y ∷ []))) ≡ Ok x
      → ArePairsTyped sources variables arms → IsTyped sources variables other → IsWellTyped sources variables (tree_of x)
  choice-typed (Ok ys) (Ok y) is arms other = made-typed sources variables s (typed.Case ys y) (choice (pairs_in ys) (tree_of y)) _ x (tree_case_is ys y) is
      (λ kind rule. (arms ys refl, other y refl, rw (firsts_in-pairs ys, seconds_in-pairs ys, kind_in-tree_of y) rule))
  choice-typed (Ok ys) (Err fault) is arms other = absurd cc
  choice-typed (Err fault) other is a b = absurd cc

  pub composite-typed : (es : Result (List TypedExpr) CheckMisfit)
      → (do
        ys ← es
        typed_of s (typed.Build ys) (composite_kind (kinds_of ys))) ≡ Ok x
      → AreTyped sources variables es → IsWellTyped sources variables (tree_of x)
  composite-typed (Ok ys) is es = made-typed sources variables s (typed.Build ys) (composite (trees_in ys)) _ x (tree_build_is ys) is
      (λ kind rule. (es ys refl, rw (kinds_in-trees ys) rule))
  composite-typed (Err fault) is es = absurd cc

  pub folded-typed : (f : CellsFold) (e : Result TypedExpr CheckMisfit)
      → (do
        y ← e
        typed_of s (typed.Cells f y) (folded_kind f (kind_of y))) ≡ Ok x
      → IsTyped sources variables e → IsWellTyped sources variables (tree_of x)
  folded-typed f (Ok y) is e = made-typed sources variables s (typed.Cells f y) (folded f (tree_of y)) _ x (tree_cells_is f y) is
      (λ kind rule. (e y refl, rw (kind_in-tree_of y) rule))
  folded-typed f (Err fault) is e = absurd cc

  pub concat-typed : (along : ℤ) (es : Result (List TypedExpr) CheckMisfit)
      → (do
        ys ← es
        typed_of s (typed.Concat ys along) (concat_kind along (kinds_of ys))) ≡ Ok x
      → AreTyped sources variables es → IsWellTyped sources variables (tree_of x)
  concat-typed along (Ok ys) is es = made-typed sources variables s (typed.Concat ys along) (concat (trees_in ys) along) _ x (tree_concat_is ys along) is
      (λ kind rule. (es ys refl, rw (kinds_in-trees ys) rule))
  concat-typed along (Err fault) is es = absurd cc

  -- the offsets are static numbers, one for each axis
  shift-kind : (y : TypedExpr) (ys : List TypedExpr) (kind old : Kind) → kind_of y ≡ old → shift_kind old ys ≡ Ok kind
      → IsWellTyped sources variables (tree_of y) → AreTyped sources variables (Ok ys) → HasKind sources variables kind (shift (tree_of y) (trees_in ys))
  shift-kind y ys kind (kinds.Array cell axes) old rule e es =
      let parts = ruled-ok _ _ _ _ _ rule in
      (cell, axes, e, es ys refl, kind_in-tree_of y ∙ old, count_trees-trees ys ∙ eqb-true _ _ parts.1, number_trees ys parts.0, static_trees ys parts.2, sym parts.3)
  shift-kind y ys kind (kinds.Scalar cell) old rule e es = absurd cc
  shift-kind y ys kind (kinds.Domain axes) old rule e es = absurd cc
  shift-kind y ys kind (kinds.Point axes) old rule e es = absurd cc

  pub shift-typed : (e : Result TypedExpr CheckMisfit) (offsets : Result (List TypedExpr) CheckMisfit)
      → (do
        y ← e
        ys ← offsets
        typed_of s (typed.Shift y ys) (shift_kind (kind_of y) ys)) ≡ Ok x
      → IsTyped sources variables e → AreTyped sources variables offsets → IsWellTyped sources variables (tree_of x)
  shift-typed (Ok y) (Ok ys) is e es = made-typed sources variables s (typed.Shift y ys) (shift (tree_of y) (trees_in ys)) _ x (tree_shift_is y ys) is
      (λ kind rule. shift-kind y ys kind (kind_of y) refl rule (e y refl) es)
  shift-typed (Ok y) (Err fault) is e es = absurd cc
  shift-typed (Err fault) offsets is e es = absurd cc

  domain-kind : (y : TypedExpr) (kind old : Kind) → kind_of y ≡ old → sdom_kind old ≡ Ok kind → IsWellTyped sources variables (tree_of y)
      → HasKind sources variables kind (domain_of (tree_of y))
  domain-kind y kind (kinds.Array cell axes) old rule e = (cell, axes, e, kind_in-tree_of y ∙ old, cc)
  domain-kind y kind (kinds.Scalar cell) old rule e = absurd cc
  domain-kind y kind (kinds.Domain axes) old rule e = absurd cc
  domain-kind y kind (kinds.Point axes) old rule e = absurd cc

  pub domain_of-typed : (e : Result TypedExpr CheckMisfit)
      → (do
        y ← e
        typed_of s (typed.Sdom y) (sdom_kind (kind_of y))) ≡ Ok x
      → IsTyped sources variables e → IsWellTyped sources variables (tree_of x)
  domain_of-typed (Ok y) is e = made-typed sources variables s (typed.Sdom y) (domain_of (tree_of y)) _ x (tree_sdom_is y) is
      (λ kind rule. domain-kind y kind (kind_of y) refl rule (e y refl))
  domain_of-typed (Err fault) is e = absurd cc

  pub oid-typed : (a : Spanned) (axes : Option ℕ) (source : Option (ℕ × CheckedSource)) → source_from 0 a.name sources ≡ source
      → (do
        kind ← placed_at a.span (oid_kind axes source)
        typed_of s (typed.Oid a) (Ok kind)) ≡ Ok x
      → IsWellTyped sources variables (tree_of x)
  oid-typed a None (Some found) from is = made-typed sources variables s (typed.Oid a) (oid a.name) (Ok (kinds.Scalar wide_type)) x (tree_oid_is a) is
      (λ kind rule. (found, from, cc))
  oid-typed a None None from is = absurd cc
  oid-typed a (Some axes) source from is = absurd cc
