-- What expressions that are no conjunct on an identifier ask for.
use Rattle.std.proofs.Common.{◌≡◌, ℕ, ℤ, pos, Bool, true, false, List, [], ◌∷◌, ◌++◌, refl, sym, ap, ◌∙◌}
use Rattle.std.specs.Prelude.{not, ◌&&◌, ◌||◌}
use Rattle.std.specs.List.{list_all}
use Rattle.std.specs.Ordering.{int_eq}
use Rattle.ras_cells.specs.declared.numbers.Op2.{Op2}
use Rattle.ras_cells.specs.declared.numbers.Op2.TheVariants as two
use Rattle.ras_syntax.specs.declared.span.Span.{Span}
use Rattle.ras_syntax.specs.declared.typed.Kind.{Kind}
use Rattle.ras_syntax.specs.declared.typed.TypedAxis.{TypedAxis}
use Rattle.ras_syntax.specs.declared.typed.TypedExpr.{TypedExpr, out-TypedExpr}
use Rattle.ras_syntax.specs.declared.typed.TypedForm.TheVariants as typed
use Rattle.spec_expressions.specs.Check.{tree_of_axes}
use Rattle.spec_expressions.specs.Tree.{NameOf, Tree, Form, Axes, node, no_axes, position, index_form, is_same_name, tree_of}
use Rattle.spec_expressions.specs.Tree.{number, variable, coordinate, index, at_point, domain_of, interval_of, binary, oid}
use Rattle.spec_statements.specs.Rows.{asked_by, asked_in, is_asked}
use Rattle.ras_shape.proofs.TreesSeen.{node_Binary, node_Index}
use Rattle.ras_rows.specs.Asked.{is_allowed_by_equation, is_oid_form, is_oid_of, is_other_form, is_other_number}

-- what is the same of all that an index may be
index-any : {B : Type 0} (f : Form → B) (b : B) → ((x : NameOf) (n : ℤ) → f (coordinate x n) ≡ b) → ((e : Tree) (n : ℤ) → f (interval_of e n) ≡ b)
    → ((e : Tree) (x : NameOf) → f (at_point e x) ≡ b) → ((e : Tree) (axes : Axes) → f (index e axes) ≡ b) → (e : Tree) (axes : Axes) → f (index_form e axes) ≡ b
index-any f b p q r s (node t k (variable x)) (position (node u l (number n atom)) no_axes) = p x n
index-any f b p q r s (node t k (domain_of e)) (position (node u l (number n atom)) no_axes) = q e n
index-any f b p q r s e (position (node u l (variable x)) no_axes) = r e x
index-any f b p q r s e axes = s e axes

-- ---- an index asks for nothing

pub oid-index : (iterator : NameOf) (x e : TypedExpr) (axes : List TypedAxis) → (out-TypedExpr x).form ≡ typed.Index e axes → false ≡ is_oid_of iterator (tree_of x)
oid-index iterator x e axes is =
    sym (ap (is_oid_of iterator) (node_Index x e axes is)
    ∙ index-any (is_oid_form iterator) false (λ _ _. refl) (λ _ _. refl) (λ _ _. refl) (λ _ _. refl) (tree_of e) (tree_of_axes axes))

pub number-index : (id : ℕ) (x e : TypedExpr) (axes : List TypedAxis) → (out-TypedExpr x).form ≡ typed.Index e axes → false ≡ is_other_number id (tree_of x)
number-index id x e axes is =
    sym (ap (is_other_number id) (node_Index x e axes is)
    ∙ index-any (is_other_form id) false (λ _ _. refl) (λ _ _. refl) (λ _ _. refl) (λ _ _. refl) (tree_of e) (tree_of_axes axes))

pub asked-index : (iterator : NameOf) (id : ℕ) (x e : TypedExpr) (axes : List TypedAxis) → (out-TypedExpr x).form ≡ typed.Index e axes
    → true ≡ is_asked (asked_by (tree_of x)) iterator id
asked-index iterator id x e axes is =
    sym (ap (λ t. is_asked (asked_by t) iterator id) (node_Index x e axes is)
    ∙ ap (λ asked. is_asked asked iterator id) (index-any asked_in [] (λ _ _. refl) (λ _ _. refl) (λ _ _. refl) (λ _ _. refl) (tree_of e) (tree_of_axes axes)))

-- ---- conjuncts

-- both sides of an `and`
all-append : {X : Type 0} (test : X → Bool) (xs ys : List X) → list_all test (xs ++ ys) ≡ (list_all test xs && list_all test ys)
all-append test [] ys = refl
all-append test (x ∷ xs) ys = at (test x) (all-append test xs ys)
  where
    at : (b : Bool) → list_all test (xs ++ ys) ≡ (list_all test xs && list_all test ys) → (b && list_all test (xs ++ ys)) ≡ ((b && list_all test xs) && list_all test ys)
    at true rest = rest
    at false rest = refl

pub asked-and : (iterator : NameOf) (id : ℕ) (s : Span) (k : Kind) (a b : Tree)
    → is_asked (asked_by (node s k (binary two.And a b))) iterator id ≡ (is_asked (asked_by a) iterator id && is_asked (asked_by b) iterator id)
asked-and iterator id s k a b = all-append _ (asked_by a) (asked_by b)

one-way : (same equal : Bool) → ((not same || equal) && true) ≡ (not (same && not equal) && not (false && false))
one-way true true = refl
one-way true false = refl
one-way false equal = refl

other-way : (same equal : Bool) → ((not same || equal) && true) ≡ (not (false && false) && not (same && not equal))
other-way true true = refl
other-way true false = refl
other-way false equal = refl

no-number : (p : Bool) → true ≡ (not (p && false) && not (false && false))
no-number true = refl
no-number false = refl

number-first : (p : Bool) → true ≡ (not (false && false) && not (p && false))
number-first true = refl
number-first false = refl

two-oids : (p q : Bool) → true ≡ (not (p && false) && not (q && false))
two-oids true true = refl
two-oids true false = refl
two-oids false true = refl
two-oids false false = refl

pub asked-eq : (iterator : NameOf) (id : ℕ) (s : Span) (k : Kind) (a b : Tree)
    → is_asked (asked_by (node s k (binary two.Eq a b))) iterator id ≡ is_allowed_by_equation iterator id a b
asked-eq iterator id s k (node t l (oid a)) (node u m (number n atom)) = one-way (is_same_name a iterator) (int_eq n (pos id))
asked-eq iterator id s k (node t l (number n atom)) (node u m (oid a)) = other-way (is_same_name a iterator) (int_eq n (pos id))
asked-eq iterator id s k (node t l (oid a)) (node u m (oid b)) = two-oids (is_same_name a iterator) (is_same_name b iterator)
asked-eq iterator id s k (node t l (oid a)) b = no-number (is_same_name a iterator)
asked-eq iterator id s k a (node u m (oid b)) = number-first (is_same_name b iterator)
asked-eq iterator id s k a b = refl

pub eq-arm : (iterator : NameOf) (id : ℕ) (x a b left right : TypedExpr) (op : Op2) (result : Bool) → (out-TypedExpr x).form ≡ typed.Binary op a b → op ≡ two.Eq → left ≡ a → right ≡ b
    → result ≡ is_allowed_by_equation iterator id (tree_of left) (tree_of right) → result ≡ is_asked (asked_by (tree_of x)) iterator id
eq-arm iterator id x a b left right op result is equal left_is right_is known =
    known ∙ ap (λ (e : TypedExpr). is_allowed_by_equation iterator id (tree_of e) (tree_of right)) left_is
    ∙ ap (λ (e : TypedExpr). is_allowed_by_equation iterator id (tree_of a) (tree_of e)) right_is
    ∙ sym (ap (λ t. is_asked (asked_by t) iterator id) (node_Binary x op a b is)
    ∙ ap (λ o. is_asked (asked_by (node (out-TypedExpr x).span (out-TypedExpr x).kind (binary o (tree_of a) (tree_of b)))) iterator id) equal
    ∙ asked-eq iterator id (out-TypedExpr x).span (out-TypedExpr x).kind (tree_of a) (tree_of b))

pub ruleset others = (asked-and, asked-eq)
