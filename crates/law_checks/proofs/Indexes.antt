-- Indexes and parts: x[k], sdom(e)[k], e[x], e[axes], e.k and sdom(e)[k].lo, told apart.
use Rattle.std.proofs.Common.{◌≡◌, Bool, true, false, List, refl, sym, ap, subst, ◌∙◌}
use Rattle.std.specs.Prelude.{ℕ, ◌==◌, ℤ, pos, Option, Some, None, Result, Ok, Err, codes, if◌then◌else◌}
use Rattle.std.proofs.lemmas.Bool.{eqb-true}
use Rattle.ras_cells.specs.Outcomes.{◌>>=◌}
use Rattle.ras_cells.specs.declared.atom.Atom.{Atom}
use Rattle.ras_cells.specs.declared.cell.CellType.{CellType}
use Rattle.ras_syntax.specs.declared.expr.Part.{Part}
use Rattle.ras_syntax.specs.declared.expr.Part.TheVariants.{Named, Numbered}
use Rattle.ras_syntax.specs.declared.faults.CheckFault.{CheckFault}
use Rattle.ras_syntax.specs.declared.faults.CheckFault.TheVariants.{NoComponent}
use Rattle.ras_syntax.specs.declared.span.Span.{Span}
use Rattle.ras_syntax.specs.declared.typed.Kind.{Kind}
use Rattle.ras_syntax.specs.declared.typed.Kind.TheVariants as kinds
use Rattle.ras_syntax.specs.declared.typed.CheckedSource.{CheckedSource}
use Rattle.ras_syntax.specs.declared.typed.TypedExpr.{TypedExpr}
use Rattle.ras_syntax.specs.declared.typed.TypedAxis.{TypedAxis}
use Rattle.ras_syntax.specs.declared.typed.TypedForm.TheVariants as typed
use Rattle.spec_expressions.specs.Tree.{NameOf, Tree, Form, Axes, lower, upper, node, number, variable, index, at_point, component, domain_of, interval_of, bound_of, no_axes, position, trim, tree_of, index_form, part_form, is_same_name}
use Rattle.spec_expressions.specs.Kinds.{wide_type, on_cells}
use Rattle.spec_expressions.specs.Names.{place_among, names_of}
use Rattle.spec_expressions.specs.Check.{CheckMisfit, placed_at, typed_of, tree_of_axes, index_kind, element_kind, cut_kind, on_axis, is_axis, component_type, component_kind, numbered_part, named_part, part_kind, with_cell, is_bound_name}
use Rattle.spec_expressions.specs.WellTyped.{Variables, IsVariable, IsWellTyped, AreWellTypedAxes, HasKind, kind_in}
use Rattle.spec_statements.proofs.CheckedForms.{tree_index_is, tree_part_is}
use Rattle.law_shapes.proofs.Outcomes.{where_ok}
use Rattle.law_shapes.proofs.Rules.{ruled-ok}
use Rattle.law_checks.proofs.Parts.{IsTyped, AreAxesTyped, made-typed}
use Rattle.law_checks.proofs.Views.{is_plain, View, view}

-- ---- an index of an array

-- an index of an expression that is neither a variable nor a domain
abbrev plain_index : Tree → Axes → Form
plain_index e (position (node t l (variable x)) no_axes) = at_point e x
plain_index e axes = index e axes

one_position : (e : Tree) (t : Span) (l : Kind) (f : Form) → is_plain f ≡ true → plain_index e (position (node t l f) no_axes) ≡ index e (position (node t l f) no_axes)
one_position e t l (variable x) plain = absurd cc
one_position e t l other plain = refl

-- more axes after the first one
abbrev some_axes : Axes → Bool
some_axes no_axes = false
some_axes other = true

plain_index-more : (e g : Tree) (axes : Axes) → some_axes axes ≡ true → plain_index e (position g axes) ≡ index e (position g axes)
plain_index-more e g no_axes some = absurd cc
plain_index-more e (node t l (variable x)) (position h axes) some = refl
plain_index-more e (node t l (variable x)) (trim a b axes) some = refl
plain_index-more e (node t l f) axes some = refl

element_kind-more : (cell : CellType) (n : ℕ) (g : Tree) (axes : Axes) → some_axes axes ≡ true → element_kind cell n (position g axes) ≡ cut_kind cell n (position g axes)
element_kind-more cell n g no_axes some = absurd cc
element_kind-more cell n (node t (kinds.Point m) f) (position h axes) some = refl
element_kind-more cell n (node t (kinds.Point m) f) (trim a b axes) some = refl
element_kind-more cell n (node t l f) axes some = refl

index_of-plain : (s : Span) (k : Kind) (f : Form) (axes : Axes) → is_plain f ≡ true → index_form (node s k f) axes ≡ plain_index (node s k f) axes
index_of-plain s k (variable x) axes plain = absurd cc
index_of-plain s k (domain_of e) axes plain = absurd cc
index_of-plain s k f no_axes plain = refl
index_of-plain s k f (trim a b axes) plain = refl
index_of-plain s k f (position e (position g axes)) plain = refl
index_of-plain s k f (position e (trim a b axes)) plain = refl
index_of-plain s k f (position (node t l (variable x)) no_axes) plain = refl
index_of-plain s k f (position (node t l g) no_axes) plain = refl

-- an axis that a literal names
record IsNamed (kind : Kind) (n : ℕ) (axes : Axes) (given : Kind) : Type 0 where
  span : Span
  number_kind : Kind
  place : ℤ
  atom : Atom
  axes_are : axes ≡ position (node span number_kind (number place atom)) no_axes
  there : is_axis place n ≡ true
  given_is : given ≡ kind

on_axis-named : (kind : Kind) (n : ℕ) (axes : Axes) (given : Kind) → on_axis kind n axes ≡ Ok given → IsNamed kind n axes given
on_axis-named kind n (position (node s k (number z atom)) no_axes) given rule =
    let parts = ruled-ok true (is_axis z n) true kind given rule in
    record { span = s; number_kind = k; place = z; atom = atom; axes_are = refl; there = parts.1; given_is = sym parts.3 }
on_axis-named kind n other given rule = absurd cc

module _ (sources : List CheckedSource) (variables : Variables) where
  -- one position: a variable's point or a number
  one-typed : (e : Tree) (cell : CellType) (n : ℕ) (t : Span) (l : Kind) (f : Form) (kind : Kind) → View variables l f → IsWellTyped sources variables e → kind_in e ≡ kinds.Array cell n
      → AreWellTypedAxes sources variables (position (node t l f) no_axes) → element_kind cell n (position (node t l f) no_axes) ≡ Ok kind
      → HasKind sources variables kind (plain_index e (position (node t l f) no_axes))
  one-typed e cell n t (kinds.Scalar c) f kind (View.cells has plain) typed is axes rule =
      subst (HasKind sources variables kind) (sym (one_position e t (kinds.Scalar c) f plain)) (cell, n, typed, axes, is, rule)
  one-typed e cell n t (kinds.Array c m) f kind (View.cells has plain) typed is axes rule =
      subst (HasKind sources variables kind) (sym (one_position e t (kinds.Array c m) f plain)) (cell, n, typed, axes, is, rule)
  one-typed e cell n t (kinds.Domain m) f kind (View.cells has plain) typed is axes rule = absurd cc
  one-typed e cell n t (kinds.Point m) f kind (View.cells has plain) typed is axes rule = absurd cc
  one-typed e cell n t l f kind (View.a_variable x m declared) typed is axes rule =
      let parts = ruled-ok true (m == n) true (kinds.Scalar cell) kind rule in
      (cell, n, typed, subst (IsVariable variables x) (eqb-true m n parts.1) declared, is, sym parts.3)
  one-typed e cell n t l f kind (View.a_domain m d) typed is axes rule = (cell, n, typed, axes, is, rule)
  one-typed e cell n t l f kind (View.an_interval d k) typed is axes rule = (cell, n, typed, axes, is, rule)

  more-typed : (e : Tree) (cell : CellType) (n : ℕ) (g : Tree) (axes : Axes) (kind : Kind) → some_axes axes ≡ true → IsWellTyped sources variables e → kind_in e ≡ kinds.Array cell n
      → AreWellTypedAxes sources variables (position g axes) → element_kind cell n (position g axes) ≡ Ok kind → HasKind sources variables kind (plain_index e (position g axes))
  more-typed e cell n g axes kind some typed is each rule =
      subst (HasKind sources variables kind) (sym (plain_index-more e g axes some)) (cell, n, typed, each, is, sym (element_kind-more cell n g axes some) ∙ rule)

  element-typed : (e : Tree) (cell : CellType) (n : ℕ) (axes : Axes) (kind : Kind) → IsWellTyped sources variables e → kind_in e ≡ kinds.Array cell n
      → AreWellTypedAxes sources variables axes → element_kind cell n axes ≡ Ok kind → HasKind sources variables kind (plain_index e axes)
  element-typed e cell n no_axes kind typed is axes rule = (cell, n, typed, axes, is, rule)
  element-typed e cell n (trim a b rest) kind typed is axes rule = (cell, n, typed, axes, is, rule)
  element-typed e cell n (position g (position h rest)) kind typed is axes rule = more-typed e cell n g (position h rest) kind refl typed is axes rule
  element-typed e cell n (position g (trim a b rest)) kind typed is axes rule = more-typed e cell n g (trim a b rest) kind refl typed is axes rule
  element-typed e cell n (position (node t l f) no_axes) kind typed is axes rule =
      one-typed e cell n t l f kind (view sources variables l f axes.0) typed is axes rule

  index-form : (s : Span) (k : Kind) (f : Form) (axes : Axes) (kind : Kind) → View variables k f → HasKind sources variables k f → AreWellTypedAxes sources variables axes
      → index_kind (node s k f) axes ≡ Ok kind → HasKind sources variables kind (index_form (node s k f) axes)
  index-form s (kinds.Scalar c) f axes kind (View.cells has plain) typed each rule = absurd cc
  index-form s (kinds.Array c n) f axes kind (View.cells has plain) typed each rule =
      subst (HasKind sources variables kind) (sym (index_of-plain s (kinds.Array c n) f axes plain)) (element-typed (node s (kinds.Array c n) f) c n axes kind typed refl each rule)
  index-form s (kinds.Domain m) f axes kind (View.cells has plain) typed each rule = absurd cc
  index-form s (kinds.Point m) f axes kind (View.cells has plain) typed each rule = absurd cc
  index-form s k f axes kind (View.a_variable x n declared) typed each rule =
      let m = on_axis-named (kinds.Scalar wide_type) n axes kind rule in
      subst (λ a. HasKind sources variables kind (index_form (node s (kinds.Point n) (variable x)) a)) (sym m.axes_are) (n, declared, m.there, m.given_is)
  index-form s k f axes kind (View.a_domain n e) typed each rule =
      let m = on_axis-named (kinds.Domain 1) n axes kind rule in
      let same : n ≡ typed.1 = cc (typed.4) in
      subst (λ a. HasKind sources variables kind (index_form (node s (kinds.Domain n) (domain_of e)) a)) (sym m.axes_are)
      (typed.0, typed.1, typed.2, typed.3, subst (λ c. is_axis m.place c ≡ true) same m.there, m.given_is)
  index-form s k f axes kind (View.an_interval e z) typed each rule = absurd cc

  index-kind : (e : Tree) (axes : Axes) (kind : Kind) → IsWellTyped sources variables e → AreWellTypedAxes sources variables axes → index_kind e axes ≡ Ok kind
      → HasKind sources variables kind (index_form e axes)
  index-kind (node s k f) axes kind typed each rule = index-form s k f axes kind (view sources variables k f typed) typed each rule

-- ---- parts

-- what a component by its number is
record IsComponent (kind : Kind) (k : ℤ) (found : Kind × Part) : Type 0 where
  cell : CellType
  is : on_cells (component_type k) kind ≡ Some cell
  kind_is : found.0 ≡ with_cell cell kind
  part_is : found.1 ≡ Numbered k

component-given : (kind : Kind) (k : ℤ) (given : Option CellType) (found : Kind × Part) → on_cells (component_type k) kind ≡ given → component_kind kind k given ≡ Ok found
    → IsComponent kind k found
component-given kind k None found is rule = absurd cc
component-given kind k (Some cell) found is rule =
    let e : (with_cell cell kind, Numbered k) ≡ found = cc in
    record { cell = cell; is = is; kind_is = ap (λ p. p.0) (sym e); part_is = ap (λ p. p.1) (sym e) }

part_of-numbered : (e : Tree) (k : ℤ) → part_form e (Numbered k) ≡ component e k
part_of-numbered (node s kind (interval_of e n)) k = refl
part_of-numbered (node s kind f) k = refl

module _ (sources : List CheckedSource) (variables : Variables) where
  component-typed : (e : Tree) (k : ℤ) (found : Kind × Part) → IsWellTyped sources variables e → numbered_part (kind_in e) k ≡ Ok found
      → HasKind sources variables found.0 (part_form e found.1)
  component-typed e k found typed rule =
      let m = component-given (kind_in e) k (on_cells (component_type k) (kind_in e)) found refl rule in
      subst (λ p. HasKind sources variables found.0 (part_form e p)) (sym m.part_is)
      (subst (HasKind sources variables found.0) (sym (part_of-numbered e k)) (m.cell, typed, m.is, m.kind_is))

  named-typed : (e : Tree) (place : Option ℕ) (found : Kind × Part) → IsWellTyped sources variables e → named_part (kind_in e) place ≡ Ok found
      → HasKind sources variables found.0 (part_form e found.1)
  named-typed e None found typed rule = absurd cc
  named-typed e (Some place) found typed rule = component-typed e (pos place) found typed rule

  bound-named : (low : Bool) (e : Tree) (k : ℤ) (kind l : Kind) → HasKind sources variables l (interval_of e k) → kind ≡ kinds.Scalar wide_type
      → HasKind sources variables kind (if low then bound_of lower e k else bound_of upper e k)
  bound-named true e k kind l h is = (h.0, h.1, h.2, h.3, h.4, is)
  bound-named false e k kind l h is = (h.0, h.1, h.2, h.3, h.4, is)

  bound-typed : (s : Span) (l : Kind) (e : Tree) (k : ℤ) (name : NameOf) (found : Kind × Part) → HasKind sources variables l (interval_of e k)
      → part_kind sources (node s l (interval_of e k)) (Named name) ≡ Ok found → HasKind sources variables found.0 (part_form (node s l (interval_of e k)) found.1)
  bound-typed s l e k name found h rule =
      let known = where_ok (is_bound_name name) NoComponent (Ok (kinds.Scalar wide_type, Named name)) found rule in
      let same : (kinds.Scalar wide_type, Named name) ≡ found = cc (known.1) in
      subst (λ p. HasKind sources variables p.0 (part_form (node s l (interval_of e k)) p.1)) same
      (bound-named (is_same_name name (codes "lo")) e k (kinds.Scalar wide_type) l h refl)

  part-kind : (e : Tree) (part : Part) (found : Kind × Part) → IsWellTyped sources variables e → part_kind sources e part ≡ Ok found
      → HasKind sources variables found.0 (part_form e found.1)
  part-kind (node s l (interval_of e k)) (Named name) found typed rule = bound-typed s l e k name found typed rule
  part-kind (node s l (interval_of e k)) (Numbered z) found typed rule = component-typed (node s l (interval_of e k)) z found typed rule
  part-kind (node s l f) (Named name) found typed rule = named-typed (node s l f) (place_among name (names_of sources (node s l f))) found typed rule
  part-kind (node s l f) (Numbered z) found typed rule = component-typed (node s l f) z found typed rule

-- ---- in an expression

module _ (sources : List CheckedSource) (variables : Variables) (s : Span) (x : TypedExpr) where
  pub index-typed : (e : Result TypedExpr CheckMisfit) (axes : Result (List TypedAxis) CheckMisfit)
      → (do
        y ← e
        ys ← axes
        typed_of s (typed.Index y ys) (index_kind (tree_of y) (tree_of_axes ys))) ≡ Ok x
      → IsTyped sources variables e → AreAxesTyped sources variables axes → IsWellTyped sources variables (tree_of x)
  index-typed (Ok y) (Ok ys) is e axes =
      made-typed sources variables s (typed.Index y ys) (index_form (tree_of y) (tree_of_axes ys)) (index_kind (tree_of y) (tree_of_axes ys)) x (tree_index_is y ys) is
      (λ kind rule. index-kind sources variables (tree_of y) (tree_of_axes ys) kind (e y refl) (axes ys refl) rule)
  index-typed (Ok y) (Err fault) is e axes = absurd cc
  index-typed (Err fault) axes is e typed = absurd cc

  part-found : (y : TypedExpr) (r : Result (Kind × Part) CheckFault)
      → (do
        found ← placed_at s r
        typed_of s (typed.Part y found.1) (Ok found.0)) ≡ Ok x
      → ((found : Kind × Part) → r ≡ Ok found → HasKind sources variables found.0 (part_form (tree_of y) found.1)) → IsWellTyped sources variables (tree_of x)
  part-found y (Ok found) is each =
      made-typed sources variables s (typed.Part y found.1) (part_form (tree_of y) found.1) (Ok found.0) x (tree_part_is y found.1) is
      (λ kind rule. let e : found.0 ≡ kind = cc in subst (λ k. HasKind sources variables k (part_form (tree_of y) found.1)) e (each found refl))
  part-found y (Err fault) is each = absurd cc

  pub part-typed : (part : Part) (e : Result TypedExpr CheckMisfit)
      → (do
        y ← e
        found ← placed_at s (part_kind sources (tree_of y) part)
        typed_of s (typed.Part y found.1) (Ok found.0)) ≡ Ok x
      → IsTyped sources variables e → IsWellTyped sources variables (tree_of x)
  part-typed part (Ok y) is e = part-found y (part_kind sources (tree_of y) part) is (λ found rule. part-kind sources variables (tree_of y) part found (e y refl) rule)
  part-typed part (Err fault) is e = absurd cc
