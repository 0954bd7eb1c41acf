-- What the walk collects for an expression, from what it collects for its parts.
use Rattle.std.proofs.Common.{◌≡◌, List, [], ◌++◌, true, false, Option, Some, None, Result, Ok, Err, refl, sym, ap, ◌∙◌, append_assoc}
use Rattle.std.specs.Prelude.{OnOk, codes, if◌then◌else◌}
use Rattle.std.proofs.lemmas.List.{append-nil}
use Rattle.ras_domain.specs.Boxes.{meet_of}
use Rattle.ras_syntax.specs.declared.expr.Part.{Part}
use Rattle.ras_syntax.specs.declared.expr.Part.TheVariants as parts
use Rattle.ras_syntax.specs.declared.typed.TypedExpr.{TypedExpr}
use Rattle.spec_expressions.specs.Eval.{box_in}
use Rattle.spec_expressions.specs.Reach.{Boxes, Reached, form_reach, positions_reach, reach_of}
use Rattle.spec_expressions.specs.Shape.{Box, shape_of}
use Rattle.spec_expressions.specs.Tree.{Axes, Domain, Form, Tree, bound_of, extend, index_form, interval_of, is_same_name, lower, node, part_form, tree_of, upper}
use Rattle.ras_shape.specs.Ways.{is_axis_of_domain}
use Rattle.ras_shape.proofs.TreesSeen.{NodeOf}
use Rattle.ras_reach.specs.declared.forms.PartForm.{PartForm}
use Rattle.ras_reach.specs.declared.forms.PartForm.TheVariants.{Component, Lower, Upper}
use Rattle.ras_reach.specs.Forms.{index_told, part_told}
use Rattle.ras_reach.specs.LookedAt.{extended_box_of, operand_box_of, reached_at}
use Rattle.ras_reach.proofs.LookedAtSeen.{index_reached, within_is}

-- a fact of an answer that is Ok, by another one
pub on_ok : {T E P Q : Type 0} (r : Result T E) → (P → Q) → OnOk r P → OnOk r Q
on_ok (Ok x) step p = step p
on_ok (Err error) step p = tt

-- one part after another
pub in_turn : (old mid new one two : Reached) → mid ≡ old ++ one → new ≡ mid ++ two → new ≡ old ++ (one ++ two)
in_turn old mid new one two first second = second ∙ ap (λ reached. reached ++ two) first ∙ append_assoc old one two

-- what is added is added, however it is called
pub adds_same : {E : Type 0} (old new one two : Reached) (r : Result (Unit {0}) E) → one ≡ two → OnOk r (new ≡ old ++ one) → OnOk r (new ≡ old ++ two)
adds_same old new one two r same found =
    let step : new ≡ old ++ one → new ≡ old ++ two = λ added. added ∙ ap (λ reached. old ++ reached) same in
    on_ok r step found

-- what a part reads, by what the part is
abbrev part_reads : PartForm → Reached → Reached
part_reads Component reached = reached
part_reads Lower reached = []
part_reads Upper reached = []

module _ (domains : List Box) (boxes : Boxes) (around : Box) where
  -- what a form reads, its expression reads
  pub at_form : (x : TypedExpr) (form : Form) (old new : Reached) → NodeOf x form → new ≡ old ++ form_reach domains boxes form around
      → new ≡ old ++ reach_of domains boxes (tree_of x) around
  at_form x form old new is reads = reads ∙ ap (λ t. old ++ reach_of domains boxes t around) (sym is)

  -- a form that reads nothing
  pub at_nothing : (x : TypedExpr) (form : Form) (old : Reached) → NodeOf x form → form_reach domains boxes form around ≡ []
      → old ≡ old ++ reach_of domains boxes (tree_of x) around
  at_nothing x form old is nothing = at_form x form old old is (sym (append-nil old) ∙ ap (λ reached. old ++ reached) (sym nothing))

  -- a form that reads what is added
  pub at_one : {E : Type 0} (x : TypedExpr) (form : Form) (one old new : Reached) (r : Result (Unit {0}) E) → NodeOf x form → form_reach domains boxes form around ≡ one
      → OnOk r (new ≡ old ++ one) → OnOk r (new ≡ old ++ reach_of domains boxes (tree_of x) around)
  at_one x form one old new r is reads found =
      adds_same old new one (reach_of domains boxes (tree_of x) around) r (sym reads ∙ ap (λ t. reach_of domains boxes t around) (sym is)) found

  -- a form that reads what is added, and then something else
  pub at_both : {E : Type 0} (x : TypedExpr) (form : Form) (one two old mid new : Reached) (r : Result (Unit {0}) E) → NodeOf x form
      → form_reach domains boxes form around ≡ one ++ two → mid ≡ old ++ one
      → OnOk r (new ≡ mid ++ two) → OnOk r (new ≡ old ++ reach_of domains boxes (tree_of x) around)
  at_both x form one two old mid new r is reads first found =
      let step : new ≡ mid ++ two → new ≡ old ++ (one ++ two) = in_turn old mid new one two first in
      at_one x form (one ++ two) old new r is reads (on_ok r step found)

  -- ---- indexes and parts

  pub index_in : (whole : Tree) (axes : Axes) (met : Box) → Some met ≡ operand_box_of domains boxes whole axes around (index_told whole axes)
      → form_reach domains boxes (index_form whole axes) around ≡ reach_of domains boxes whole met ++ positions_reach domains boxes axes
  index_in whole axes met is =
      index_reached domains boxes whole axes around ∙ ap (λ o. reached_at o (reach_of domains boxes whole) ++ positions_reach domains boxes axes) (sym is)

  pub index_nowhere : (whole : Tree) (axes : Axes) → None ≡ operand_box_of domains boxes whole axes around (index_told whole axes)
      → form_reach domains boxes (index_form whole axes) around ≡ positions_reach domains boxes axes
  index_nowhere whole axes is =
      index_reached domains boxes whole axes around ∙ ap (λ o. reached_at o (reach_of domains boxes whole) ++ positions_reach domains boxes axes) (sym is)

  part_reached : (whole : Tree) (part : Part)
      → form_reach domains boxes (part_form whole part) around ≡ part_reads (part_told part (is_axis_of_domain whole)) (reach_of domains boxes whole around)
  part_reached (node s k (interval_of e n)) (parts.Named name) =
      elim (is_same_name name (codes "lo")) as (λ b. form_reach domains boxes (if b then bound_of lower e n else bound_of upper e n) around
      ≡ part_reads (if b then Lower else Upper) (reach_of domains boxes (node s k (interval_of e n)) around)) [ true ↦ refl | false ↦ refl ]
  part_reached whole (parts.Named name) = refl
  part_reached whole (parts.Numbered n) = refl

  pub part_as : (whole : Tree) (part : Part) (form : PartForm) → part_told part (is_axis_of_domain whole) ≡ form
      → form_reach domains boxes (part_form whole part) around ≡ part_reads form (reach_of domains boxes whole around)
  part_as whole part form is = part_reached whole part ∙ ap (λ f. part_reads f (reach_of domains boxes whole around)) is

  -- ---- extended arrays

  pub extend_in : (e : Tree) (domain : Domain) (o : Option Box) → o ≡ extended_box_of around (box_in (shape_of domains e))
      → form_reach domains boxes (extend e domain) around ≡ reached_at o (reach_of domains boxes e)
  extend_in e domain o is =
      within_is (Some (meet_of around (box_in (shape_of domains e)))) (reach_of domains boxes e) ∙ ap (λ met. reached_at met (reach_of domains boxes e)) (sym is)
