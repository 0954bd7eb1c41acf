-- The forms with a variable: at a variable's point, marray, condense.
use Rattle.std.proofs.Common.{◌≡◌, ℕ, ℤ, Bool, true, false, cond, List, [], ◌∷◌, ◌++◌, Ok, refl, sym, ap, subst}
use Rattle.std.specs.Prelude.{if◌then◌else◌, All, Option, Some}
use Rattle.std.specs.Map.{lookup}
use Rattle.ras_cells.specs.declared.cell.CellType.{CellType}
use Rattle.ras_cells.specs.declared.cell.Cell.TheVariants.{Null}
use Rattle.ras_cells.specs.Outcomes.{◌>>=◌}
use Rattle.ras_domain.specs.Boxes.{Covers}
use Rattle.ras_domain.specs.Region.{HasSmallBounds, IsIn}
use Rattle.ras_syntax.specs.declared.expr.FoldOp.{FoldOp}
use Rattle.ras_syntax.specs.declared.span.Span.{Span}
use Rattle.ras_syntax.specs.declared.typed.Kind.{Kind}
use Rattle.ras_syntax.specs.declared.typed.Kind.TheVariants as kinds
use Rattle.spec_expressions.specs.Eval.{CellOutcome, Environment, axes_in, box_in, cell_at, holds, where_true, with_point, written_in}
use Rattle.spec_expressions.specs.Fits.{LieWithin}
use Rattle.spec_expressions.specs.Fold.{fold_of}
use Rattle.spec_expressions.specs.Kinds.{fold_type, on_scalar}
use Rattle.spec_expressions.specs.Reach.{Boxes, box_named, box_or_none, condition_reach, reach_of}
use Rattle.spec_expressions.specs.Shape.{Box, array, box_of, shape_of, written_of}
use Rattle.spec_expressions.specs.Tree.{NameOf, Tree, Condition, Domain, node, at_point, marray, condense, always, only_where, is_same_name}
use Rattle.spec_expressions.specs.WellTyped.{IsWellTyped, IsWellTypedCondition, axes_of_domain, kind_in}
use Rattle.law_shapes.proofs.SmallBounds.{Long-IsIn}
use Rattle.law_shapes.proofs.Cuts.{HasShape}
use Rattle.law_shapes.proofs.Parts.{at_point-parts}
use Rattle.law_shapes.proofs.ArrayParts.{HasConditionShape, condense-parts, marray-parts}
use Rattle.law_cells.proofs.ArrayForms.{small-box}
use Rattle.law_cells.proofs.Scopes.{sound-members}
use Rattle.law_reach.specs.Alike.{StoreSame}
use Rattle.law_reach.proofs.Fitting.{shape-fits}
use Rattle.law_reach.proofs.Moved.{cell_in_same, made_same, met_same}
use Rattle.law_reach.proofs.Scalars.{array_shape, scalar_from_bool, scalar_from_type, scalar_same}
use Rattle.law_reach.proofs.Settings.{around_same, Setting, domains_of, domains_same, extended, first_of, second_of, IsAlways, IsConditionAlways, IsSame, store_left, store_right}

-- ---- at the point of a variable

found_step : (t u : Bool) (q r : List ℤ) (axes : Box) (points : Option (List ℤ)) (others : Option Box) → t ≡ u → IsIn q axes
    → (points ≡ Some r → IsIn r (box_or_none others)) → cond t (Some q) points ≡ Some r → IsIn r (box_or_none (cond u (Some axes) others))
found_step true true q r axes points others same within rest is = let e : q ≡ r = cc in subst (λ z. IsIn z axes) e within
found_step false false q r axes points others same within rest is = rest is
found_step true false q r axes points others same within rest is = absurd cc
found_step false true q r axes points others same within rest is = absurd cc

-- a variable's point lies in its box
point_within : (test : NameOf → Bool) (boxes : Boxes) (points : List (NameOf × List ℤ)) (q : List ℤ) → LieWithin boxes points → lookup test points ≡ Some q
    → IsIn q (box_or_none (lookup test boxes))
point_within test [] [] q within is = absurd cc
point_within test [] (y ∷ points) q within is = absurd within
point_within test (x ∷ boxes) [] q within is = absurd within
point_within test (x ∷ boxes) (y ∷ points) q within is =
    found_step (test y.0) (test x.0) y.1 q x.1 (lookup test points) (lookup test boxes) (ap test (sym within.0)) within.1
    (point_within test boxes points q within.3) is

pub at_point_same : (at : Setting) (span : Span) (kind : Kind) (e : Tree) (x : NameOf) → IsSame at e → IsSame at (node span kind (at_point e x))
at_point_same at span kind e x same shape around p shaped lies store within =
    let inner = (at_point-parts (domains_of at) span kind e x shape shaped).0 in
    cell_in_same (box_in (shape_of (domains_of at) e)) _ (cell_at (first_of at) e) (cell_at (second_of at) e) (lookup (is_same_name x) at.points)
    (ap (λ domains. box_in (shape_of domains e)) (sym (domains_same at)))
    (λ q is inside. met_same at e inner.0 (box_named at.boxes x) q same inner.1 (point_within (is_same_name x) at.boxes at.points q at.within is) inside store)

-- ---- marray

pub marray_same : (at : Setting) (span : Span) (kind : Kind) (x : NameOf) (domain : Domain) (e : Tree) (cell : CellType)
    → IsWellTyped at.sources at.variables (node span kind (marray x domain e)) → IsWellTyped at.sources ((x, axes_of_domain domain) ∷ at.variables) e
    → kind_in e ≡ kinds.Scalar cell → kind ≡ kinds.Array cell (axes_of_domain domain) → IsAlways e → IsSame at (node span kind (marray x domain e))
marray_same at span kind x domain e cell typed typed_e is_scalar is_array same shape around p shaped lies store within =
    let inner = (marray-parts (domains_of at) span kind x domain e shape shaped).body in
    let fits = shape-fits at.sources at.variables (first_of at) (node span kind (marray x domain e)) shape typed at.members shaped in
    let axes = array_shape kind cell (axes_of_domain domain) shape is_array fits.0 in
    let covers : Covers axes.0 around = around_same (array axes.0) shape around (sym axes.1) lies in
    let inside : IsIn p axes.0 = covers p within in
    let small : All HasSmallBounds axes.0 = subst (λ s. All HasSmallBounds (box_of s)) axes.1 fits.1 in
    let next : Setting = extended at x (axes_of_domain domain) around p within (Long-IsIn p axes.0 inside small) in
    scalar_same next e cell inner.0 typed_e is_scalar (same next typed_e) inner.1 store

-- ---- condense

where_step : (a b c d : CellOutcome) → a ≡ b → c ≡ d → (a >>= λ x. if holds x then c else Ok Null) ≡ (b >>= λ x. if holds x then d else Ok Null)
where_step a b c d first second = rw (first, second) refl

where_same : (condition : Condition) (at : Setting) (a b : CellOutcome) → IsWellTypedCondition at.sources at.variables condition → IsConditionAlways condition
    → HasConditionShape (domains_of at) condition → StoreSame at.one at.other (condition_reach (domains_of at) at.boxes condition) → a ≡ b
    → where_true (first_of at) condition a ≡ where_true (second_of at) condition b
where_same always at a b typed same shaped store values = values
where_same (only_where c) at a b typed same shaped store values =
    let kind = scalar_from_bool (kind_in c) typed.1 in
    where_step _ _ a b (scalar_same at c kind.0 shaped.0 typed.0 kind.1 (same at typed.0) shaped.1 store) values

-- what is folded at a point
abbrev condensed : Environment → NameOf → Condition → Tree → List ℤ → CellOutcome
condensed scope x condition e q = where_true (with_point x q scope) condition (cell_at (with_point x q scope) e [])

condensed_at : (next : Setting) (condition : Condition) (e : Tree) (of : CellType) → IsWellTypedCondition next.sources next.variables condition
    → IsWellTyped next.sources next.variables e → kind_in e ≡ kinds.Scalar of → IsConditionAlways condition → IsAlways e → HasConditionShape (domains_of next) condition
    → HasShape (domains_of next) e → StoreSame next.one next.other (condition_reach (domains_of next) next.boxes condition)
    → StoreSame next.one next.other (reach_of (domains_of next) next.boxes e [])
    → where_true (first_of next) condition (cell_at (first_of next) e []) ≡ where_true (second_of next) condition (cell_at (second_of next) e [])
condensed_at next condition e of typed_c typed_e is tests same tested inner store_c store_e =
    where_same condition next (cell_at (first_of next) e []) (cell_at (second_of next) e []) typed_c tests tested store_c
    (scalar_same next e of inner.0 typed_e is (same next typed_e) inner.1 store_e)

condensed_same : (at : Setting) (x : NameOf) (n : ℕ) (all : Box) (condition : Condition) (e : Tree) (of : CellType) → All HasSmallBounds all
    → IsWellTypedCondition at.sources ((x, n) ∷ at.variables) condition → IsWellTyped at.sources ((x, n) ∷ at.variables) e → kind_in e ≡ kinds.Scalar of
    → IsConditionAlways condition → IsAlways e → HasConditionShape (domains_of at) condition → HasShape (domains_of at) e
    → StoreSame at.one at.other (condition_reach (domains_of at) ((x, all) ∷ at.boxes) condition ++ reach_of (domains_of at) ((x, all) ∷ at.boxes) e []) → (q : List ℤ)
    → IsIn q all → condensed (first_of at) x condition e q ≡ condensed (second_of at) x condition e q
condensed_same at x n all condition e of fits typed_c typed_e is tests same tested inner store q inside =
    let here = condition_reach (domains_of at) ((x, all) ∷ at.boxes) condition in
    let more = reach_of (domains_of at) ((x, all) ∷ at.boxes) e [] in
    condensed_at (extended at x n all q inside (Long-IsIn q all inside fits)) condition e of typed_c typed_e is tests same tested inner
    (store_left at.one at.other here more store) (store_right at.one at.other here more store)

-- the box that a condense goes over
abbrev box_over : List Box → Domain → Box
box_over domains domain = axes_in (written_in (written_of domains domain))

pub condense_same : (at : Setting) (span : Span) (kind : Kind) (op : FoldOp) (x : NameOf) (domain : Domain) (condition : Condition) (e : Tree) (cell : CellType)
    → IsWellTypedCondition at.sources ((x, axes_of_domain domain) ∷ at.variables) condition → IsWellTyped at.sources ((x, axes_of_domain domain) ∷ at.variables) e
    → on_scalar (fold_type op) (kind_in e) ≡ Some cell → IsConditionAlways condition → IsAlways e → IsSame at (node span kind (condense op x domain condition e))
condense_same at span kind op x domain condition e cell typed_c typed_e is_scalar tests same shape around p shaped lies store within =
    let parts = condense-parts (domains_of at) span kind op x domain condition e shape shaped in
    let of = scalar_from_type (fold_type op) (kind_in e) cell is_scalar in
    let fits = subst (All HasSmallBounds) (sym parts.domain_parts.axes_is)
    (small-box (first_of at) domain (sound-members at.sources at.one at.members) parts.axes parts.domain_parts.is_box) in
    made_same (fold_of op) (condensed (first_of at) x condition e) (condensed (second_of at) x condition e) (box_over (domains_of at) domain) _
    (ap (λ domains. box_over domains domain) (sym (domains_same at)))
    (condensed_same at x (axes_of_domain domain) (box_over (domains_of at) domain) condition e of.0 fits typed_c typed_e of.1 tests same parts.condition_part parts.body store)
