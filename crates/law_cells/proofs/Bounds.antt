-- A number lies in the interval that is found for its expression.
use Rattle.std.proofs.Common.{◌≡◌, ℕ, ℤ, Bool, true, false, IsTrue, List, [], ◌∷◌, refl, sym, ap, ◌∙◌, subst, arith, ◌+ℤ◌, ◌-ℤ◌, ◌*ℤ◌}
use Rattle.std.specs.Prelude.{neg_ℤ, ◌&&◌, Option, Some, None, Result, Ok, slice_get, unsigned_abs}
use Rattle.std.specs.Map.{lookup}
use Rattle.std.proofs.lemmas.Int.{ints}
use Rattle.std.proofs.lemmas.Bool.{and_parts}
use Rattle.arrayvec.specs.ArrayVec.{ArrayVec}
use Rattle.ras_cells.specs.declared.atom.Atom.{Atom}
use Rattle.ras_cells.specs.declared.atom.Atom.TheVariants as atoms
use Rattle.ras_cells.specs.declared.cell.Cell.{Cell}
use Rattle.ras_cells.specs.declared.cell.Cell.TheVariants.{Null, Value}
use Rattle.ras_cells.specs.declared.cell.CellFault.{CellFault}
use Rattle.ras_cells.specs.declared.cell.CellFault.TheVariants.{Overflow}
use Rattle.ras_cells.specs.declared.cell.CellType.{CellType}
use Rattle.ras_cells.specs.declared.cell.CellType.TheVariants as types
use Rattle.ras_cells.specs.declared.numbers.Op1.TheVariants as one
use Rattle.ras_cells.specs.declared.numbers.Op2.{Op2}
use Rattle.ras_cells.specs.declared.numbers.Op2.TheVariants as two
use Rattle.ras_cells.specs.Atoms.{IsInRange, is_in_range}
use Rattle.ras_cells.specs.Cells.{applied1, on_numbers, only, single}
use Rattle.ras_cells.specs.Numbers.{as_wide}
use Rattle.ras_cells.specs.Outcomes.{◌>>=◌}
use Rattle.ras_cells.proofs.Ranges.{IsInRange-is_in_range}
use Rattle.ras_cells.proofs.Results.{kept, in_range-only}
use Rattle.ras_domain.specs.declared.region.Interval.{Interval}
use Rattle.ras_syntax.specs.declared.span.Span.{Span}
use Rattle.ras_syntax.specs.declared.typed.CheckedSource.{CheckedSource}
use Rattle.ras_syntax.specs.declared.typed.Kind.{Kind}
use Rattle.ras_syntax.specs.declared.typed.Kind.TheVariants as kinds
use Rattle.spec_expressions.specs.Eval.{Environment, cell_at, coordinate_of, domains_in, optional_number}
use Rattle.spec_expressions.specs.Fits.{AreMembersOf, IsBoundedBy, IsCellOfKind, IsPointOf, LieWithin}
use Rattle.spec_expressions.specs.Kinds.{all_equal, axes_of_arrays, both_numbers, common_kind, is_number, is_scalar_number, on_both, some_where, operands_kind, unary_kind, wide_type}
use Rattle.spec_expressions.specs.Reach.{Boxes, bound_joined, difference_interval, negated_interval, number_alone, number_bound, product_interval, range_of_kind, sum_interval}
use Rattle.spec_expressions.specs.Shape.{Shape, shape_of, static_form}
use Rattle.spec_expressions.specs.Tree.{Form, NameOf, Side, Tree, is_same_name, node, number, coordinate, unary, binary, bound_of}
use Rattle.spec_expressions.specs.WellTyped.{HasKind, IsWellTyped, Variables, kind_in}
use Rattle.law_shapes.proofs.Outcomes.{bind_ok, same_ok}
use Rattle.law_shapes.proofs.Operands.{IsPointOf-part}
use Rattle.law_shapes.proofs.Parts.{binary-parts}
use Rattle.law_shapes.proofs.Rules.{ruled-ok}
use Rattle.law_cells.proofs.Scopes.{small-within}
use Rattle.law_cells.proofs.Intervals.{Joins, coordinate-bounds, difference-joins, joined-bounds, negated-bounds, sum-joins}
use Rattle.law_cells.proofs.Products.{product-bounded}
use Rattle.law_cells.proofs.Forms.{IsTyped}
use Rattle.law_cells.proofs.CellKinds.{form-typed}

abbrev Numbers : Type 0
Numbers = ArrayVec ℤ

-- ---- numbers of cells

value_is : (z : ℤ) (numbers : Numbers) → (let r : Result Cell CellFault = Ok (single z) in r ≡ Ok (Value numbers)) → z ≡ only numbers.items
value_is z numbers is =
    let P : Cell → ℤ = λ c. elim c [ Null ↦ z | Value found ↦ only found.items ] in ap P (same_ok (single z) (Value numbers) is)

-- an exact number that is of 64 bits
wide_is : (z : ℤ) (numbers : Numbers) → (as_wide z >>= λ n. Ok (single n)) ≡ Ok (Value numbers) → (z ≡ only numbers.items) × IsInRange atoms.Wide z
wide_is z numbers is =
    let number = bind_ok (as_wide z) (λ n. Ok (single n)) (Value numbers) is in
    let tested = kept (is_in_range atoms.Wide z) z number.0 Overflow number.1 in
    (tested.1 ∙ value_is number.0 numbers number.2, (IsInRange-is_in_range atoms.Wide z).0 tested.0)

bounded-same : (o : Option Interval) (x y : ℤ) → x ≡ y → IsBoundedBy o x → IsBoundedBy o y
bounded-same o x y same bounded = subst (IsBoundedBy o) same bounded

alone : (z : ℤ) → IsBoundedBy (number_alone (Ok z)) z
alone z = (omega (arith, ints), omega (arith, ints))

-- the negative of a bounded number
negative-bounded : (o : Option Interval) (x : Cell) (numbers : Numbers) → ((a : Numbers) → x ≡ Value a → IsBoundedBy o (only a.items))
    → applied1 one.Neg x ≡ Ok (Value numbers) → IsBoundedBy (negated_interval o) (only numbers.items)
negative-bounded o Null numbers each is = absurd cc
negative-bounded o (Value a) numbers each is =
    let exact = wide_is (neg_ℤ (only a.items)) numbers is in
    bounded-same (negated_interval o) (neg_ℤ (only a.items)) (only numbers.items) exact.0 (negated-bounds o (only a.items) (each a refl) exact.1)

-- an operation on two bounded numbers, whose result is of 64 bits
operation-bounded : (join : Interval → Interval → Interval) (f : ℤ → ℤ → ℤ) (a b : Option Interval) (x y : Cell) (numbers : Numbers) → Joins join f
    → ((m : Numbers) → x ≡ Value m → IsBoundedBy a (only m.items)) → ((n : Numbers) → y ≡ Value n → IsBoundedBy b (only n.items))
    → on_numbers (λ v w. as_wide (f v w)) x y ≡ Ok (Value numbers) → IsBoundedBy (bound_joined join a b) (only numbers.items)
operation-bounded join f a b Null y numbers joins left right is = absurd cc
operation-bounded join f a b (Value m) Null numbers joins left right is = absurd cc
operation-bounded join f a b (Value m) (Value n) numbers joins left right is =
    let exact = wide_is (f (only m.items) (only n.items)) numbers is in
    bounded-same (bound_joined join a b) (f (only m.items) (only n.items)) (only numbers.items) exact.0
    (joined-bounds join f a b (only m.items) (only n.items) joins (left m refl) (right n refl) exact.1)

-- ---- scalar operands

-- an array among the operands makes an array
array-among : (o : Option CellType) (operands : List Kind) (kind : Kind) (n : ℕ) (ns : List ℕ) → axes_of_arrays operands ≡ n ∷ ns → common_kind o operands ≡ Ok kind
    → is_scalar_number kind ≡ true → ⊥
array-among None operands kind n ns axes rule scalar = absurd cc
array-among (Some t) operands kind n ns axes rule scalar =
    let made = ruled-ok true (all_equal (axes_of_arrays operands)) true (operands_kind t (axes_of_arrays operands)) kind rule in
    let array : kinds.Array t n ≡ kind = ap (operands_kind t) (sym axes) ∙ made.3 in
    let no : is_scalar_number (kinds.Array t n) ≡ true = subst (λ k. is_scalar_number k ≡ true) (sym array) scalar in
    absurd cc

given-type : (holds : Bool) (t : CellType) (operands : List Kind) (kind : Kind) → common_kind (some_where holds t) operands ≡ Ok kind → holds ≡ true
given-type true t operands kind rule = refl
given-type false t operands kind rule = absurd cc

scalar-operand : (a kind : Kind) → unary_kind one.Neg a ≡ Ok kind → is_scalar_number kind ≡ true → is_scalar_number a ≡ true
scalar-operand (kinds.Scalar s) kind rule scalar = given-type (is_number s) wide_type (kinds.Scalar s ∷ []) kind rule
scalar-operand (kinds.Array s n) kind rule scalar =
    absurd (array-among (some_where (is_number s) wide_type) (kinds.Array s n ∷ []) kind n [] refl rule scalar)
scalar-operand (kinds.Domain n) kind rule scalar = absurd cc
scalar-operand (kinds.Point n) kind rule scalar = absurd cc

abbrev both_wide : Kind → Kind → Option CellType
both_wide a b = on_both (λ s t. both_numbers s t wide_type) a b

scalar-operands : (a b kind : Kind) → common_kind (both_wide a b) (a ∷ b ∷ []) ≡ Ok kind → is_scalar_number kind ≡ true → (is_scalar_number a ≡ true) × (is_scalar_number b ≡ true)
scalar-operands (kinds.Scalar s) (kinds.Scalar t) kind rule scalar =
    and_parts (is_number s) (is_number t) (given-type (is_number s && is_number t) wide_type (kinds.Scalar s ∷ kinds.Scalar t ∷ []) kind rule)
scalar-operands (kinds.Scalar s) (kinds.Array t n) kind rule scalar =
    absurd (array-among (both_numbers s t wide_type) (kinds.Scalar s ∷ kinds.Array t n ∷ []) kind n [] refl rule scalar)
scalar-operands (kinds.Scalar s) (kinds.Domain n) kind rule scalar = absurd cc
scalar-operands (kinds.Scalar s) (kinds.Point n) kind rule scalar = absurd cc
scalar-operands (kinds.Array s n) b kind rule scalar =
    absurd (array-among (both_wide (kinds.Array s n) b) (kinds.Array s n ∷ b ∷ []) kind n (axes_of_arrays (b ∷ [])) refl rule scalar)
scalar-operands (kinds.Domain n) b kind rule scalar = absurd cc
scalar-operands (kinds.Point n) b kind rule scalar = absurd cc

-- ---- forms

-- each number that the scalar expression has lies in its interval
abbrev pub IsBounded : Environment → Boxes → Tree → Type 0
IsBounded scope boxes e =
    (shape : Shape) (p : List ℤ) (numbers : Numbers) → shape_of (domains_in scope) e ≡ Ok shape → IsPointOf shape p → IsTrue (is_scalar_number (kind_in e))
    → cell_at scope e p ≡ Ok (Value numbers) → IsBoundedBy (number_bound (domains_in scope) boxes e) (only numbers.items)

range-bounded : (kind : Kind) (numbers : Numbers) → is_scalar_number kind ≡ true → IsCellOfKind kind (Value numbers) → IsBoundedBy (Some (range_of_kind kind)) (only numbers.items)
range-bounded (kinds.Scalar (types.Atom atom)) numbers scalar h = in_range-only atom numbers.items h
range-bounded (kinds.Scalar (types.Composite as_)) numbers scalar h = absurd cc
range-bounded (kinds.Array t n) numbers scalar h = absurd cc
range-bounded (kinds.Domain n) numbers scalar h = absurd cc
range-bounded (kinds.Point n) numbers scalar h = absurd cc

-- any other form, by its type alone
by_kind : (scope : Environment) (span : Span) (kind : Kind) (form : Form) (shape : Shape) (p : List ℤ) (numbers : Numbers) → IsTyped scope (node span kind form)
    → shape_of (domains_in scope) (node span kind form) ≡ Ok shape → IsPointOf shape p → is_scalar_number kind ≡ true
    → cell_at scope (node span kind form) p ≡ Ok (Value numbers) → IsBoundedBy (Some (range_of_kind kind)) (only numbers.items)
by_kind scope span kind form shape p numbers each shaped at scalar is =
    range-bounded kind numbers scalar (each shape p (Value numbers) shaped at is)

number_form-bounded : (scope : Environment) (boxes : Boxes) (span : Span) (kind : Kind) (z : ℤ) (atom : Atom) → IsBounded scope boxes (node span kind (number z atom))
number_form-bounded scope boxes span kind z atom shape p numbers shaped at scalar is =
    bounded-same (number_alone (Ok z)) z (only numbers.items) (value_is z numbers is) (alone z)

optional-is : (o : Option ℤ) (numbers : Numbers) → optional_number o ≡ Ok (Value numbers) → o ≡ Some (only numbers.items)
optional-is None numbers is = absurd cc
optional-is (Some z) numbers is = ap (λ y. Some y) (value_is z numbers is)

coordinate-is : (o : Option (List ℤ)) (k : ℤ) (numbers : Numbers) → coordinate_of o k ≡ Ok (Value numbers) → (p : List ℤ) × (o ≡ Some p)
    × (slice_get p (unsigned_abs k) ≡ Some (only numbers.items))
coordinate-is None k numbers is = absurd cc
coordinate-is (Some p) k numbers is = (p, refl, optional-is (slice_get p (unsigned_abs k)) numbers is)

coordinate-bounded : (scope : Environment) (boxes : Boxes) (span : Span) (kind : Kind) (x : NameOf) (k : ℤ) → LieWithin boxes scope.variables
    → IsBounded scope boxes (node span kind (coordinate x k))
coordinate-bounded scope boxes span kind x k within shape p numbers shaped at scalar is =
    let point = coordinate-is (lookup (is_same_name x) scope.variables) k numbers is in
    coordinate-bounds x boxes scope.variables point.0 (unsigned_abs k) (only numbers.items) within point.1 point.2

bound_of-bounded : (scope : Environment) (boxes : Boxes) (span : Span) (kind : Kind) (side : Side) (e : Tree) (k : ℤ) → IsBounded scope boxes (node span kind (bound_of side e k))
bound_of-bounded scope boxes span kind side e k shape p numbers shaped at scalar is =
    let z = bind_ok (static_form (domains_in scope) (bound_of side e k)) (λ z. Ok (single z)) (Value numbers) is in
    subst (λ r. IsBoundedBy (number_alone r) (only numbers.items)) (sym z.1)
    (bounded-same (number_alone (Ok z.0)) z.0 (only numbers.items) (value_is z.0 numbers z.2) (alone z.0))

neg-bounded : (scope : Environment) (boxes : Boxes) (span : Span) (kind : Kind) (e : Tree) → IsBounded scope boxes e → unary_kind one.Neg (kind_in e) ≡ Ok kind
    → IsBounded scope boxes (node span kind (unary one.Neg e))
neg-bounded scope boxes span kind e each rule shape p numbers shaped at scalar is =
    let x = bind_ok (cell_at scope e p) (applied1 one.Neg) (Value numbers) is in
    let inner = scalar-operand (kind_in e) kind rule scalar in
    negative-bounded (number_bound (domains_in scope) boxes e) x.0 numbers
    (λ a found. each shape p a shaped at inner (x.1 ∙ ap (λ c. Ok c) found)) x.2

-- sums, differences and products
both-bounded : (scope : Environment) (boxes : Boxes) (span : Span) (kind : Kind) (op : Op2) (a b : Tree) (join : Interval → Interval → Interval) (f : ℤ → ℤ → ℤ)
    (shape : Shape) (p : List ℤ) (numbers : Numbers) → Joins join f → IsBounded scope boxes a → IsBounded scope boxes b
    → common_kind (both_wide (kind_in a) (kind_in b)) (kind_in a ∷ kind_in b ∷ []) ≡ Ok kind → shape_of (domains_in scope) (node span kind (binary op a b)) ≡ Ok shape
    → IsPointOf shape p → is_scalar_number kind ≡ true → (cell_at scope a p >>= λ x. cell_at scope b p >>= λ y. on_numbers (λ v w. as_wide (f v w)) x y) ≡ Ok
    (Value numbers) → IsBoundedBy (bound_joined join (number_bound (domains_in scope) boxes a) (number_bound (domains_in scope) boxes b)) (only numbers.items)
both-bounded scope boxes span kind op a b join f shape p numbers joins left right rule shaped at scalar is =
    let parts = binary-parts (domains_in scope) span kind op a b shape shaped in
    let operands = scalar-operands (kind_in a) (kind_in b) kind rule scalar in
    let x = bind_ok (cell_at scope a p) (λ x. cell_at scope b p >>= λ y. on_numbers (λ v w. as_wide (f v w)) x y) (Value numbers) is in
    let y = bind_ok (cell_at scope b p) (λ y. on_numbers (λ v w. as_wide (f v w)) x.0 y) (Value numbers) x.2 in
    operation-bounded join f (number_bound (domains_in scope) boxes a) (number_bound (domains_in scope) boxes b) x.0 y.0 numbers joins
    (λ m found. left parts.left p m parts.left_is (IsPointOf-part parts.left shape p parts.left_part at) operands.0 (x.1 ∙ ap (λ c. Ok c) found))
    (λ n found. right parts.right p n parts.right_is (IsPointOf-part parts.right shape p parts.right_part at) operands.1 (y.1 ∙ ap (λ c. Ok c) found))
    y.2

-- ---- the recursion

mutual
  tree-bounded : (sources : List CheckedSource) (variables : Variables) (boxes : Boxes) (scope : Environment) (e : Tree) → AreMembersOf sources scope.row
      → LieWithin boxes scope.variables → IsWellTyped sources variables e → IsBounded scope boxes e
  tree-bounded sources variables boxes scope (node span kind form) members within typed = form-bounded sources variables boxes scope span kind form members within typed

  form-bounded : (sources : List CheckedSource) (variables : Variables) (boxes : Boxes) (scope : Environment) (span : Span) (kind : Kind) (form : Form)
      → AreMembersOf sources scope.row → LieWithin boxes scope.variables → HasKind sources variables kind form → IsBounded scope boxes (node span kind form)
  form-bounded sources variables boxes scope span kind (number z atom) members within typed = number_form-bounded scope boxes span kind z atom
  form-bounded sources variables boxes scope span kind (coordinate x k) members within typed = coordinate-bounded scope boxes span kind x k within
  form-bounded sources variables boxes scope span kind (bound_of side e k) members within typed = bound_of-bounded scope boxes span kind side e k
  form-bounded sources variables boxes scope span kind (unary one.Neg e) members within typed =
      neg-bounded scope boxes span kind e (tree-bounded sources variables boxes scope e members within typed.0) typed.1
  form-bounded sources variables boxes scope span kind (binary two.Add a b) members within typed =
      λ shape p numbers. both-bounded scope boxes span kind two.Add a b sum_interval (λ x y. x +ℤ y) shape p numbers sum-joins
      (tree-bounded sources variables boxes scope a members within typed.0) (tree-bounded sources variables boxes scope b members within typed.1) typed.2
  form-bounded sources variables boxes scope span kind (binary two.Sub a b) members within typed =
      λ shape p numbers. both-bounded scope boxes span kind two.Sub a b difference_interval (λ x y. x -ℤ y) shape p numbers difference-joins
      (tree-bounded sources variables boxes scope a members within typed.0) (tree-bounded sources variables boxes scope b members within typed.1) typed.2
  form-bounded sources variables boxes scope span kind (binary two.Mul a b) members within typed =
      λ shape p numbers. both-bounded scope boxes span kind two.Mul a b product_interval (λ x y. x *ℤ y) shape p numbers product-bounded
      (tree-bounded sources variables boxes scope a members within typed.0) (tree-bounded sources variables boxes scope b members within typed.1) typed.2
  form-bounded sources variables boxes scope span kind form members within typed =
      λ shape p numbers. by_kind scope span kind form shape p numbers (form-typed sources variables scope span kind form members (small-within boxes scope.variables within) typed)

pub number-bounded : (sources : List CheckedSource) (variables : Variables) (boxes : Boxes) (scope : Environment) (tree : Tree) (shape : Shape) (p : List ℤ)
    (numbers : ArrayVec ℤ) → IsWellTyped sources variables tree → AreMembersOf sources scope.row → LieWithin boxes scope.variables
    → shape_of (domains_in scope) tree ≡ Ok shape → IsPointOf shape p → IsTrue (is_scalar_number (kind_in tree)) → cell_at scope tree p ≡ Ok (Value numbers)
    → IsBoundedBy (number_bound (domains_in scope) boxes tree) (only numbers.items)
number-bounded sources variables boxes scope tree shape p numbers typed members within shaped at scalar is =
    tree-bounded sources variables boxes scope tree members within typed shape p numbers shaped at scalar is
