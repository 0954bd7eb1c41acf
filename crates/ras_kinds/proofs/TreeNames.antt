-- The names of components, by the forms of trees.
use Rattle.std.proofs.Common.{◌≡◌, ◌<◌, ◌≤◌, ℕ, ℤ, zero, suc, ◌+◌, Bool, true, false, cond, List, [], ◌∷◌, length, map, subst, refl, sym, ap, ◌∙◌, add-one, arith}
use Rattle.std.specs.Prelude.{if◌then◌else◌, slice_index_or, Option, Some, None, codes, position}
use Rattle.std.specs.List.{position_from}
use Rattle.std.proofs.lemmas.Iterator.Adapters.{position_from-zero}
use Rattle.ras_syntax.specs.declared.expr.Part.{Part}
use Rattle.ras_syntax.specs.declared.expr.Part.TheVariants.{Named, Numbered}
use Rattle.ras_syntax.specs.declared.typed.CheckedSource.{CheckedSource}
use Rattle.ras_syntax.specs.declared.typed.TypedAxis.{TypedAxis}
use Rattle.ras_syntax.specs.declared.typed.TypedAxis.TheOpen.{TypedForm-F}
use Rattle.ras_syntax.specs.declared.typed.TypedExpr.{TypedExpr, out-TypedExpr, fold_out-TypedExpr}
use Rattle.ras_syntax.specs.declared.typed.TypedForm.{TypedForm, fold-TypedForm, fold-roll-TypedForm}
use Rattle.ras_syntax.specs.declared.typed.TypedForm.TheVariants as typed
use Rattle.spec_expressions.specs.Tree.{NameOf, is_same_name, Tree, Trees, Pairs, Form, Axes, Domain, node, number, variable, domain_of, interval_of, bound_of, choice, concat, lower, upper, no_axes, position as at_position, index_form, part_form, trees_of, pairs_of, tree_of, axis_tree_step, domain_tree_step, form_tree_step, expr_tree_step}
use Rattle.spec_expressions.specs.Check.{tree_of_axes}
use Rattle.spec_expressions.specs.Names.{names_from, names_of, form_names, first_names, branch_names, place_among, next_place}
use Rattle.ras_kinds.specs.NamesSeen.{is_name_seen}
use Rattle.ras_kinds.proofs.TreeForms.{index_seen}

-- ---- sources

pub names_at : (place : ℕ) (sources : List CheckedSource) (source : CheckedSource) → place < length sources → source ≡ slice_index_or sources place source
    → names_from place sources ≡ source.of.names
names_at place [] source within is = absurd (omega arith)
names_at zero (one ∷ sources) source within is = ap (λ (s : CheckedSource). s.of.names) (sym is)
names_at (suc place) (one ∷ sources) source within is = names_at place sources source (omega arith) is

pub names_past : (place : ℕ) (sources : List CheckedSource) → length sources ≤ place → names_from place sources ≡ []
names_past place [] past = refl
names_past zero (one ∷ sources) past = absurd (omega arith)
names_past (suc place) (one ∷ sources) past = names_past place sources (omega arith)

-- ---- forms

-- x[k] and sdom(e)[k] have none, and neither have x and sdom(e)
index_names : (sources : List CheckedSource) (e : Tree) (axes : Axes) → form_names sources (index_form e axes) ≡ names_of sources e
index_names sources (node t k (variable x)) (at_position (node u l (number n atom)) no_axes) = refl
index_names sources (node t k (domain_of e)) (at_position (node u l (number n atom)) no_axes) = refl
index_names sources e (at_position (node u l (variable x)) no_axes) = refl
index_names sources e axes = refl

pub names_of_index : (sources : List CheckedSource) (x e : TypedExpr) (axes : List TypedAxis) → (out-TypedExpr x).form ≡ typed.Index e axes
    → names_of sources (tree_of x) ≡ names_of sources (tree_of e)
names_of_index sources x e axes h = ap (names_of sources) (index_seen x e axes h) ∙ index_names sources (tree_of e) (tree_of_axes axes)

pub part_names : (sources : List CheckedSource) (e : Tree) (part : Part) → form_names sources (part_form e part) ≡ []
part_names sources (node t k (interval_of e n)) (Named name) =
    elim (is_same_name name (codes "lo")) as (λ b. form_names sources (if b then bound_of lower e n else bound_of upper e n) ≡ []) [ true ↦ refl | false ↦ refl ]
part_names sources e (Named name) = refl
part_names sources e (Numbered n) = refl

abbrev form_in : TypedForm → Form
form_in = fold-TypedForm (Axes → Axes) Domain Form Tree axis_tree_step domain_tree_step form_tree_step expr_tree_step

opened : (sources : List CheckedSource) (x : TypedExpr) → names_of sources (tree_of x) ≡ form_names sources (form_in (out-TypedExpr x).form)
opened sources x =
    ap (names_of sources) (fold_out-TypedExpr (Axes → Axes) Domain Form Tree axis_tree_step domain_tree_step form_tree_step expr_tree_step x)

-- ---- the branches of a case

abbrev Arm : Type 0
Arm = TypedExpr × TypedExpr

abbrev branches_of : List Arm → Pairs
branches_of arms = pairs_of (map (λ arm. (tree_of arm.0, tree_of arm.1)) arms)

case_is : (arms : List Arm) (other : TypedExpr) → form_in (typed.Case arms other) ≡ choice (branches_of arms) (tree_of other)
case_is arms other =
    ap form_in (sym (typed.rolls-Case arms other))
    ∙ fold-roll-TypedForm (Axes → Axes) Domain Form Tree axis_tree_step domain_tree_step form_tree_step expr_tree_step (TypedForm-F.Case arms other)

case_names : (sources : List CheckedSource) (x : TypedExpr) (shown arms : List Arm) (other : TypedExpr) → (out-TypedExpr x).form ≡ typed.Case arms other
    → shown ≡ arms → names_of sources (tree_of x) ≡ branch_names sources (branches_of shown) (names_of sources (tree_of other))
case_names sources x shown arms other h same =
    opened sources x ∙ ap (form_names sources) (ap form_in h ∙ case_is arms other)
    ∙ ap (λ (as_ : List Arm). branch_names sources (branches_of as_) (names_of sources (tree_of other))) (sym same)

no_branch : (sources : List CheckedSource) (arms : List Arm) (names : List NameOf) → length arms < 1
    → branch_names sources (branches_of arms) names ≡ names
no_branch sources [] names none = refl
no_branch sources (arm ∷ arms) names none = absurd (omega arith)

one_branch : (sources : List CheckedSource) (arms : List Arm) (names : List NameOf) (first : Arm) → 1 ≤ length arms → first ≡ slice_index_or arms 0 first
    → branch_names sources (branches_of arms) names ≡ names_of sources (tree_of first.1)
one_branch sources [] names first some is = absurd (omega arith)
one_branch sources (arm ∷ arms) names first some is = ap (λ (one : Arm). names_of sources (tree_of one.1)) (sym is)

pub names_of_other : (sources : List CheckedSource) (x : TypedExpr) (shown arms : List Arm) (other : TypedExpr)
    → (out-TypedExpr x).form ≡ typed.Case arms other → shown ≡ arms → length shown < 1
    → names_of sources (tree_of x) ≡ names_of sources (tree_of other)
names_of_other sources x shown arms other h same none =
    case_names sources x shown arms other h same ∙ no_branch sources shown (names_of sources (tree_of other)) none

pub names_of_branch : (sources : List CheckedSource) (x : TypedExpr) (shown arms : List Arm) (other : TypedExpr)
    → (out-TypedExpr x).form ≡ typed.Case arms other → shown ≡ arms → (first : Arm) → 1 ≤ length shown → first ≡ slice_index_or shown 0 first
    → names_of sources (tree_of x) ≡ names_of sources (tree_of first.1)
names_of_branch sources x shown arms other h same first some is =
    case_names sources x shown arms other h same ∙ one_branch sources shown (names_of sources (tree_of other)) first some is

-- ---- the parts of a concat

concat_is : (parts : List TypedExpr) (along : ℤ) → form_in (typed.Concat parts along) ≡ concat (trees_of (map tree_of parts)) along
concat_is parts along =
    ap form_in (sym (typed.rolls-Concat parts along))
    ∙ fold-roll-TypedForm (Axes → Axes) Domain Form Tree axis_tree_step domain_tree_step form_tree_step expr_tree_step (TypedForm-F.Concat parts along)

concat_names : (sources : List CheckedSource) (x : TypedExpr) (shown parts : List TypedExpr) (along : ℤ) → (out-TypedExpr x).form ≡ typed.Concat parts along
    → shown ≡ parts → names_of sources (tree_of x) ≡ first_names sources (trees_of (map tree_of shown))
concat_names sources x shown parts along h same =
    opened sources x ∙ ap (form_names sources) (ap form_in h ∙ concat_is parts along)
    ∙ ap (λ (ps : List TypedExpr). first_names sources (trees_of (map tree_of ps))) (sym same)

no_part : (sources : List CheckedSource) (parts : List TypedExpr) → length parts < 1 → first_names sources (trees_of (map tree_of parts)) ≡ []
no_part sources [] none = refl
no_part sources (part ∷ parts) none = absurd (omega arith)

one_part : (sources : List CheckedSource) (parts : List TypedExpr) (first : TypedExpr) → 1 ≤ length parts → first ≡ slice_index_or parts 0 first
    → first_names sources (trees_of (map tree_of parts)) ≡ names_of sources (tree_of first)
one_part sources [] first some is = absurd (omega arith)
one_part sources (part ∷ parts) first some is = ap (λ (one : TypedExpr). names_of sources (tree_of one)) (sym is)

pub names_of_none : (sources : List CheckedSource) (x : TypedExpr) (shown parts : List TypedExpr) (along : ℤ)
    → (out-TypedExpr x).form ≡ typed.Concat parts along → shown ≡ parts → length shown < 1 → names_of sources (tree_of x) ≡ []
names_of_none sources x shown parts along h same none = concat_names sources x shown parts along h same ∙ no_part sources shown none

pub names_of_first : (sources : List CheckedSource) (x : TypedExpr) (shown parts : List TypedExpr) (along : ℤ)
    → (out-TypedExpr x).form ≡ typed.Concat parts along → shown ≡ parts → (first : TypedExpr) → 1 ≤ length shown → first ≡ slice_index_or shown 0 first
    → names_of sources (tree_of x) ≡ names_of sources (tree_of first)
names_of_first sources x shown parts along h same first some is =
    concat_names sources x shown parts along h same ∙ one_part sources shown first some is

-- ---- places of names

shifted : (p : NameOf → Bool) (i : ℕ) (names : List NameOf) → position_from p (i + 1) names ≡ next_place (position_from p i names)
shifted p i [] = refl
shifted p i (name ∷ names) =
    elim (p name) as (λ b. cond b (Some (i + 1)) (position_from p (i + 1 + 1) names) ≡ next_place (cond b (Some i) (position_from p (i + 1) names)))
    [ true ↦ ap Some (add-one i) | false ↦ shifted p (i + 1) names ]

place_from : (name : NameOf) (names : List NameOf) → place_among name names ≡ position_from (is_same_name name) 0 names
place_from name [] = refl
place_from name (other ∷ names) =
    elim (is_same_name name other)
    as (λ b. (if b then Some 0 else next_place (place_among name names)) ≡ cond b (Some 0) (position_from (is_same_name name) (0 + 1) names))
    [ true ↦ refl | false ↦ ap next_place (place_from name names) ∙ sym (shifted (is_same_name name) 0 names) ]

pub place_among_is : (name : NameOf) (names : List NameOf) → place_among name names ≡ position (is_name_seen name) names
unfolding is_name_seen
place_among_is name names = place_from name names ∙ sym (position_from-zero (is_same_name name) names)
