-- The box of a variable, looked for from the innermost one out.
use Rattle.std.proofs.Common.{◌≡◌, ℕ, ◌+◌, ◌<◌, ◌≤◌, List, [], ◌∷◌, length, map, drop, get_or, Bool, true, false, cond, ◌++◌, append_assoc, Option, Some, None, refl, sym, ap, ◌∙◌}
use Rattle.std.specs.Map.{lookup}
use Rattle.std.proofs.lemmas.List.{at_drop_more, at_drop_all, append-nil, map-append}
use Rattle.spec_expressions.specs.Reach.{box_named, box_or_none}
use Rattle.spec_expressions.specs.Shape.{Box}
use Rattle.spec_expressions.specs.Tree.{NameOf, is_same_name}
use Rattle.ras_reach.specs.declared.variables.Variable.{Variable}
use Rattle.ras_reach.specs.Variables.{variable_box, variable_boxes}

skipped : (b : Bool) (axes : Box) (others : Option Box) → b ≡ false → box_or_none (cond b (Some axes) others) ≡ box_or_none others
skipped true axes others e = cc
skipped false axes others e = refl

taken : (b : Bool) (axes : Box) (others : Option Box) → b ≡ true → box_or_none (cond b (Some axes) others) ≡ axes
taken true axes others e = refl
taken false axes others e = cc

pub named_skips : (variables : List Variable) (name : NameOf) (i : ℕ) (d : Variable) (w : Box) → i < length variables
    → is_same_name name (get_or variables i d).name ≡ false
    → box_named (variable_boxes (drop i variables)) name ≡ w → box_named (variable_boxes (drop (i + 1) variables)) name ≡ w
named_skips variables name i d w within differs so_far =
    sym (skipped (is_same_name name (get_or variables i d).name) (get_or variables i d).axes.items (lookup (is_same_name name) (variable_boxes (drop (i + 1) variables))) differs)
    ∙ sym (at_drop_more (λ rest. box_named (variable_boxes rest) name) variables i d within) ∙ so_far

pub named_found : (variables : List Variable) (name : NameOf) (i : ℕ) (d : Variable) (w : Box) → i < length variables
    → is_same_name name (get_or variables i d).name ≡ true
    → box_named (variable_boxes (drop i variables)) name ≡ w → (get_or variables i d).axes.items ≡ w
named_found variables name i d w within same so_far =
    sym (taken (is_same_name name (get_or variables i d).name) (get_or variables i d).axes.items (lookup (is_same_name name) (variable_boxes (drop (i + 1) variables))) same)
    ∙ sym (at_drop_more (λ rest. box_named (variable_boxes rest) name) variables i d within) ∙ so_far

pub named_none : (variables : List Variable) (name : NameOf) (i : ℕ) (w : Box) → length variables ≤ i → box_named (variable_boxes (drop i variables)) name ≡ w → [] ≡ w
named_none variables name i w over so_far = sym (at_drop_all (λ rest. box_named (variable_boxes rest) name) variables i over) ∙ so_far

pub ruleset named_loops = (named_skips, named_found, named_none)

-- ---- copies

-- one more variable stands at the end
pub variables_more : (all : List Variable) (last : Variable) (seen : NameOf × Box) → variable_box last ≡ seen → variable_boxes (all ++ last ∷ []) ≡ variable_boxes all ++ seen ∷ []
variables_more all last seen is = map-append variable_box all (last ∷ []) ∙ ap (λ one. variable_boxes all ++ one ∷ []) is

pub ruleset copying = (variables_more, append_assoc)
