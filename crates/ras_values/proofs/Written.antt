-- Boxes of written domains, and offsets: they are there where all their parts have values.
use Rattle.std.proofs.Common.{◌≡◌, ℕ, ℤ, List, [], ◌∷◌, ◌++◌, map, Option, Some, None, Result, Ok, Err, Bool, true, false, not}
use Rattle.std.proofs.Common.{refl, sym, ap, ◌∙◌, arith, ◌+◌, ◌<◌, ◌≤◌, drop, get_or, length}
use Rattle.std.specs.Prelude.{if◌then◌else◌, ◌&&◌, int_le, int_lt}
use Rattle.std.specs.List.{list_any}
use Rattle.std.proofs.lemmas.Int.{ints}
use Rattle.std.proofs.lemmas.List.{append-nil, append_assoc, at_drop_all, at_drop_more}
use Rattle.ras_cells.specs.Outcomes.{◌>>=◌}
use Rattle.ras_domain.specs.declared.region.Interval.{Interval}
use Rattle.ras_syntax.specs.declared.typed.TypedAxis.TheOpen.{TypedDomain-F}
use Rattle.ras_syntax.specs.declared.typed.TypedDomain.{TypedDomain, fold-roll-TypedDomain}
use Rattle.ras_syntax.specs.declared.typed.TypedDomain.TheVariants as typed
use Rattle.ras_syntax.specs.declared.typed.TypedExpr.{TypedExpr}
use Rattle.ras_shape.specs.Trees.{domain_looked_at, pairs_seen, trees_seen}
use Rattle.spec_expressions.specs.Tree.{Tree, Trees, Pairs, Axes, Domain, Form, tree_of, no_trees, trees, no_pairs, pairs, bounds, domain_like}
use Rattle.spec_expressions.specs.Tree.{axis_tree_step, domain_tree_step, form_tree_step, expr_tree_step}
use Rattle.spec_expressions.specs.Shape.{Box, Bound, Cut, Shape, ShapeMisfit, between, bounds_of, box_of, broken, cut_of, is_broken, is_empty_cut, is_small}
use Rattle.spec_expressions.specs.Shape.{kept_axes, literal, offsets_of, shape_of, shapes_of, static_of, taken, trim_cut, values_of, with_value, written_of}
use Rattle.spec_expressions.specs.Eval.{axes_in, box_in, numbers_or_none, offsets_in, written_in}
use Rattle.ras_values.specs.Extents.{all_offsets, all_or_none, axis_of_bounds, between_bounds, bounds_between, has_outcome, offset_value, one_and_all, value_if_any}

none-both : {A : Type 0} (x : Option A) → (let r : Option (List A) = one_and_all x None in r) ≡ None
none-both None = refl
none-both (Some x) = refl

-- ---- from pairs of bounds to their values

abbrev all-good : List (Bound × Bound) → Option Box
all-good [] = Some []
all-good (ends ∷ more) = one_and_all (between_bounds ends.0 ends.1) (all-good more)

abbrev good-in : Result (List (Bound × Bound)) ShapeMisfit → Option Box
good-in (Err misfit) = None
good-in (Ok ends) = all-good ends

good-turn : (x y : Result Shape ShapeMisfit) (lo hi : Bound) (r : Result (List (Bound × Bound)) ShapeMisfit)
    → one_and_all (if has_outcome x && has_outcome y then between_bounds lo hi else None) (good-in r) ≡ good-in (x >>= λ u. y >>= λ v. r >>= λ values. Ok ((lo, hi) ∷ values))
good-turn (Ok x) (Ok y) lo hi (Ok ends) = refl
good-turn (Ok x) (Ok y) lo hi (Err m) = none-both (between_bounds lo hi)
good-turn (Ok x) (Err m) lo hi r = refl
good-turn (Err m) y lo hi r = refl

bounds-are : (domains : List Box) (ps : Pairs) → bounds_between domains ps ≡ good-in (bounds_of domains ps)
bounds-are domains no_pairs = refl
bounds-are domains (pairs a b ps) =
    ap (one_and_all (axis_of_bounds domains a b)) (bounds-are domains ps)
    ∙ good-turn (shape_of domains a) (shape_of domains b) (static_of domains a) (static_of domains b) (bounds_of domains ps)

-- ---- from values to the box

abbrev boxed : List Cut → Option Box
boxed cuts = if list_any is_broken cuts then None else if list_any is_empty_cut cuts then None else Some (kept_axes cuts)

le-or-lt : (lo hi : ℤ) → int_le lo hi ≡ not (int_lt hi lo)
le-or-lt lo hi = grind (arith, ints)

boxed-broken : (cuts : List Cut) → boxed (broken ∷ cuts) ≡ None
boxed-broken cuts = refl

boxed-tests : (b e : Bool) (axis : Interval) (axes : Box)
    → (if b then None else if e then None else Some (axis ∷ axes)) ≡ one_and_all (Some axis) (if b then None else if e then None else Some axes)
boxed-tests true e axis axes = refl
boxed-tests false true axis axes = refl
boxed-tests false false axis axes = refl

boxed-empty : (b : Bool) (rest : Option Box) → (let r : Option Box = if b then None else None in r) ≡ None
boxed-empty true rest = refl
boxed-empty false rest = refl

boxed-turn : (lo hi : ℤ) (cuts : List Cut) (empty : Bool) → int_lt hi lo ≡ empty
    → one_and_all (if not empty then Some (record { lo = lo; hi = hi }) else None) (boxed cuts) ≡ boxed (between lo hi ∷ cuts)
boxed-turn lo hi cuts true is = rw is (sym (boxed-empty (list_any is_broken cuts) None))
boxed-turn lo hi cuts false is = rw is (sym (boxed-tests (list_any is_broken cuts) (list_any is_empty_cut cuts) (record { lo = lo; hi = hi }) (kept_axes cuts)))

boxed-small : (lo hi : ℤ) (cuts : List Cut) (a b : Bool) → one_and_all (if a && b && int_le lo hi then Some (record { lo = lo; hi = hi }) else None) (boxed cuts)
    ≡ boxed ((if a && b then between lo hi else broken) ∷ cuts)
boxed-small lo hi cuts true true =
    ap (λ t. one_and_all (if t then Some (record { lo = lo; hi = hi }) else None) (boxed cuts)) (le-or-lt lo hi) ∙ boxed-turn lo hi cuts (int_lt hi lo) refl
boxed-small lo hi cuts true false = refl
boxed-small lo hi cuts false b = refl

boxed-one : (lo hi : Bound) (cuts : List Cut) → one_and_all (between_bounds lo hi) (boxed cuts) ≡ boxed (trim_cut lo hi ∷ cuts)
boxed-one (Ok lo) (Ok hi) cuts = boxed-small lo hi cuts (is_small lo) (is_small hi)
boxed-one (Ok lo) (Err f) cuts = refl
boxed-one (Err f) hi cuts = refl

good-boxed : (ends : List (Bound × Bound)) → all-good ends ≡ boxed (map cut_of ends)
good-boxed [] = refl
good-boxed (e ∷ ends) = ap (one_and_all (between_bounds e.0 e.1)) (good-boxed ends) ∙ boxed-one e.0 e.1 (map cut_of ends)

tests-in : (b e : Bool) (axes : Box) (f g : ShapeMisfit)
    → all_or_none (if b then None else if e then None else Some axes) ≡ axes_in (if b then Err f else if e then Err g else Ok axes)
tests-in true e axes f g = refl
tests-in false true axes f g = refl
tests-in false false axes f g = refl

written-are : (r : Result (List (Bound × Bound)) ShapeMisfit) → all_or_none (good-in r) ≡ axes_in (written_in (r >>= λ values. Ok (literal values)))
written-are (Err m) = refl
written-are (Ok ends) =
    ap all_or_none (good-boxed ends)
    ∙ tests-in (list_any is_broken (map cut_of ends)) (list_any is_empty_cut (map cut_of ends)) (kept_axes (map cut_of ends)) _ _

pub literal_is : (domains : List Box) (ps : Pairs) → all_or_none (bounds_between domains ps) ≡ axes_in (written_in (written_of domains (bounds ps)))
literal_is domains ps = ap all_or_none (bounds-are domains ps) ∙ written-are (bounds_of domains ps)

-- ---- offsets

abbrev values-in : Result (List Bound) ShapeMisfit → Option (List ℤ)
values-in (Err misfit) = None
values-in (Ok values) = values_of values

with-is : (value : Bound) (zs : List Bound) → one_and_all (value_if_any value) (values_of zs) ≡ values_of (value ∷ zs)
with-is (Err f) zs = refl
with-is (Ok z) zs = with-one z (values_of zs)
  where
    with-one : (z : ℤ) (zs : Option (List ℤ)) → one_and_all (Some z) zs ≡ with_value z zs
    with-one z None = refl
    with-one z (Some zs) = refl

offset-turn : (x : Result Shape ShapeMisfit) (value : Bound) (r : Result (List Bound) ShapeMisfit)
    → one_and_all (if has_outcome x then value_if_any value else None) (values-in r) ≡ values-in (x >>= λ u. r >>= λ values. Ok (value ∷ values))
offset-turn (Ok x) value (Ok values) = with-is value values
offset-turn (Ok x) value (Err m) = none-both (value_if_any value)
offset-turn (Err m) value r = refl

offsets-are : (domains : List Box) (es : Trees) → all_offsets domains es ≡ values-in (offsets_of domains es)
offsets-are domains no_trees = refl
offsets-are domains (trees e es) =
    ap (one_and_all (offset_value domains e)) (offsets-are domains es)
    ∙ offset-turn (shape_of domains e) (static_of domains e) (offsets_of domains es)

offsets-in : (r : Result (List Bound) ShapeMisfit) → all_or_none (values-in r) ≡ offsets_in r
offsets-in (Err m) = refl
offsets-in (Ok values) = none-or (values_of values)
  where
    none-or : (zs : Option (List ℤ)) → all_or_none zs ≡ numbers_or_none zs
    none-or None = refl
    none-or (Some zs) = refl

pub offsets_are : (domains : List Box) (es : Trees) → all_or_none (all_offsets domains es) ≡ offsets_in (offsets_of domains es)
offsets_are domains es = ap all_or_none (offsets-are domains es) ∙ offsets-in (offsets_of domains es)

-- ---- lists, an item after another

abbrev pub front_with : {A : Type 0} → List A → Option (List A) → Option (List A)
front_with xs None = None
front_with xs (Some ys) = Some (xs ++ ys)

front-more : {A : Type 0} (xs : List A) (x : A) (r : Option (List A)) → front_with xs (one_and_all (Some x) r) ≡ front_with (xs ++ x ∷ []) r
front-more xs x None = refl
front-more xs x (Some ys) = ap Some (sym (append_assoc xs (x ∷ []) ys))

front-end : {A : Type 0} (xs : List A) → front_with xs (Some []) ≡ Some xs
front-end xs = ap Some (append-nil xs)

pub front_first : {A : Type 0} (xs : List A) (r : Option (List A)) → xs ≡ [] → r ≡ front_with xs r
front_first xs None is = refl
front_first xs (Some ys) is = ap (λ zs. Some (zs ++ ys)) (sym is)

-- what is seen of a list, from what is found of each item
record IsSeen {X A : Type 0} (find : X → Option A) (see : List X → Option (List A)) : Type 0 where
  none : see [] ≡ Some []
  one : (x : X) (xs : List X) → see (x ∷ xs) ≡ one_and_all (find x) (see xs)

-- the items after some are those after one more, and what is found of that one
seen-turn : {X A : Type 0} (find : X → Option A) (see : List X → Option (List A)) → IsSeen find see → (xs : List X) (i : ℕ) (d : X) (before : List A) (o : Option A)
    → i < length xs → d ≡ get_or xs i d → find d ≡ o → see xs ≡ front_with before (see (drop i xs)) → see xs ≡ front_with before (one_and_all o (see (drop (i + 1) xs)))
seen-turn find see seen xs i d before o within is found so_far =
    so_far ∙ at_drop_more (λ rest. front_with before (see rest)) xs i d within ∙ ap (front_with before) (seen.one (get_or xs i d) (drop (i + 1) xs))
    ∙ ap (λ x. front_with before (one_and_all x (see (drop (i + 1) xs)))) (ap find (sym is) ∙ found)

seen-more : {X A : Type 0} (find : X → Option A) (see : List X → Option (List A)) → IsSeen find see → (xs : List X) (i : ℕ) (d : X) (before more : List A) (y : A)
    → i < length xs → d ≡ get_or xs i d → find d ≡ Some y → more ≡ before ++ y ∷ [] → see xs ≡ front_with before (see (drop i xs)) → see xs ≡ front_with more (see (drop (i + 1) xs))
seen-more find see seen xs i d before more y within is found put so_far =
    seen-turn find see seen xs i d before (Some y) within is found so_far ∙ front-more before y (see (drop (i + 1) xs))
    ∙ ap (λ ys. front_with ys (see (drop (i + 1) xs))) (sym put)

seen-stop : {X A : Type 0} (find : X → Option A) (see : List X → Option (List A)) → IsSeen find see → (xs : List X) (i : ℕ) (d : X) (before empty : List A)
    → i < length xs → d ≡ get_or xs i d → find d ≡ None → empty ≡ [] → see xs ≡ front_with before (see (drop i xs)) → empty ≡ all_or_none (see xs)
seen-stop find see seen xs i d before empty within is found nothing so_far =
    nothing ∙ sym (ap all_or_none (seen-turn find see seen xs i d before None within is found so_far))

seen-end : {X A : Type 0} (find : X → Option A) (see : List X → Option (List A)) → IsSeen find see → (xs : List X) (i : ℕ) (before : List A)
    → length xs ≤ i → see xs ≡ front_with before (see (drop i xs)) → before ≡ all_or_none (see xs)
seen-end find see seen xs i before over so_far =
    sym (ap all_or_none (so_far ∙ at_drop_all (λ rest. front_with before (see rest)) xs i over ∙ ap (front_with before) seen.none ∙ front-end before))

-- ---- written bounds, a pair after another

abbrev axis-found : List Box → TypedExpr × TypedExpr → Option Interval
axis-found domains p = axis_of_bounds domains (tree_of p.0) (tree_of p.1)

abbrev all-bounds : List Box → List (TypedExpr × TypedExpr) → Option Box
all-bounds domains ps = bounds_between domains (pairs_seen ps)

bounds-seen : (domains : List Box) → IsSeen (axis-found domains) (all-bounds domains)
bounds-seen domains = record { none = refl; one = λ p ps. refl }

pub bounds_more : (domains : List Box) (ps : List (TypedExpr × TypedExpr)) (i : ℕ) (p : TypedExpr × TypedExpr) (before more : Box) (axis : Interval)
    → i < length ps → p ≡ get_or ps i p → axis_of_bounds domains (tree_of p.0) (tree_of p.1) ≡ Some axis → more ≡ before ++ axis ∷ []
    → bounds_between domains (pairs_seen ps) ≡ front_with before (bounds_between domains (pairs_seen (drop i ps)))
    → bounds_between domains (pairs_seen ps) ≡ front_with more (bounds_between domains (pairs_seen (drop (i + 1) ps)))
bounds_more domains = seen-more (axis-found domains) (all-bounds domains) (bounds-seen domains)

pub bounds_stop : (domains : List Box) (ps : List (TypedExpr × TypedExpr)) (i : ℕ) (p : TypedExpr × TypedExpr) (before empty : Box)
    → i < length ps → p ≡ get_or ps i p → axis_of_bounds domains (tree_of p.0) (tree_of p.1) ≡ None → empty ≡ []
    → bounds_between domains (pairs_seen ps) ≡ front_with before (bounds_between domains (pairs_seen (drop i ps))) → empty ≡ all_or_none (bounds_between domains (pairs_seen ps))
bounds_stop domains = seen-stop (axis-found domains) (all-bounds domains) (bounds-seen domains)

pub bounds_end : (domains : List Box) (ps : List (TypedExpr × TypedExpr)) (i : ℕ) (before : Box) → length ps ≤ i
    → bounds_between domains (pairs_seen ps) ≡ front_with before (bounds_between domains (pairs_seen (drop i ps))) → before ≡ all_or_none (bounds_between domains (pairs_seen ps))
bounds_end domains = seen-end (axis-found domains) (all-bounds domains) (bounds-seen domains)

pub ruleset bound_loops = (front_first, bounds_more, bounds_stop, bounds_end)

-- ---- offsets, one after another

abbrev offset-found : List Box → TypedExpr → Option ℤ
offset-found domains e = offset_value domains (tree_of e)

abbrev offsets-found : List Box → List TypedExpr → Option (List ℤ)
offsets-found domains es = all_offsets domains (trees_seen es)

offsets-seen : (domains : List Box) → IsSeen (offset-found domains) (offsets-found domains)
offsets-seen domains = record { none = refl; one = λ e es. refl }

pub offsets_more : (domains : List Box) (es : List TypedExpr) (i : ℕ) (e : TypedExpr) (before more : List ℤ) (z : ℤ)
    → i < length es → e ≡ get_or es i e → offset_value domains (tree_of e) ≡ Some z → more ≡ before ++ z ∷ []
    → all_offsets domains (trees_seen es) ≡ front_with before (all_offsets domains (trees_seen (drop i es)))
    → all_offsets domains (trees_seen es) ≡ front_with more (all_offsets domains (trees_seen (drop (i + 1) es)))
offsets_more domains = seen-more (offset-found domains) (offsets-found domains) (offsets-seen domains)

pub offsets_stop : (domains : List Box) (es : List TypedExpr) (i : ℕ) (e : TypedExpr) (before empty : List ℤ)
    → i < length es → e ≡ get_or es i e → offset_value domains (tree_of e) ≡ None → empty ≡ []
    → all_offsets domains (trees_seen es) ≡ front_with before (all_offsets domains (trees_seen (drop i es))) → empty ≡ all_or_none (all_offsets domains (trees_seen es))
offsets_stop domains = seen-stop (offset-found domains) (offsets-found domains) (offsets-seen domains)

pub offsets_end : (domains : List Box) (es : List TypedExpr) (i : ℕ) (before : List ℤ) → length es ≤ i
    → all_offsets domains (trees_seen es) ≡ front_with before (all_offsets domains (trees_seen (drop i es))) → before ≡ all_or_none (all_offsets domains (trees_seen es))
offsets_end domains = seen-end (offset-found domains) (offsets-found domains) (offsets-seen domains)

pub ruleset offset_loops = (front_first, offsets_more, offsets_stop, offsets_end)

-- ---- shapes of parts

pub shapes_turn : (x : Result Shape ShapeMisfit) (xs : Result (List Shape) ShapeMisfit) → has_outcome x ≡ true → has_outcome (x >>= λ y. xs >>= λ ys. Ok (y ∷ ys)) ≡ has_outcome xs
shapes_turn (Ok y) (Ok ys) has = refl
shapes_turn (Ok y) (Err m) has = refl
shapes_turn (Err m) xs has = absurd cc

pub shapes_stop : (x : Result Shape ShapeMisfit) (xs : Result (List Shape) ShapeMisfit) → has_outcome x ≡ false → has_outcome (x >>= λ y. xs >>= λ ys. Ok (y ∷ ys)) ≡ false
shapes_stop (Ok y) xs has = absurd cc
shapes_stop (Err m) xs has = refl

-- ---- whether all parts have shapes, a part after another

abbrev has-all : List Box → List TypedExpr → Bool
has-all domains es = has_outcome (shapes_of domains (trees_seen es))

pub have_more : (domains : List Box) (es : List TypedExpr) (i : ℕ) (e : TypedExpr) → i < length es → e ≡ get_or es i e → has_outcome (shape_of domains (tree_of e)) ≡ true
    → has_outcome (shapes_of domains (trees_seen es)) ≡ has_outcome (shapes_of domains (trees_seen (drop i es)))
    → has_outcome (shapes_of domains (trees_seen es)) ≡ has_outcome (shapes_of domains (trees_seen (drop (i + 1) es)))
have_more domains es i e within is has so_far =
    so_far ∙ at_drop_more (has-all domains) es i e within
    ∙ shapes_turn (shape_of domains (tree_of (get_or es i e))) (shapes_of domains (trees_seen (drop (i + 1) es))) (ap (λ x. has_outcome (shape_of domains (tree_of x))) (sym is) ∙ has)

pub have_stop : (domains : List Box) (es : List TypedExpr) (i : ℕ) (e : TypedExpr) → i < length es → e ≡ get_or es i e → has_outcome (shape_of domains (tree_of e)) ≡ false
    → has_outcome (shapes_of domains (trees_seen es)) ≡ has_outcome (shapes_of domains (trees_seen (drop i es))) → false ≡ has_outcome (shapes_of domains (trees_seen es))
have_stop domains es i e within is has so_far =
    sym (so_far ∙ at_drop_more (has-all domains) es i e within
    ∙ shapes_stop (shape_of domains (tree_of (get_or es i e))) (shapes_of domains (trees_seen (drop (i + 1) es))) (ap (λ x. has_outcome (shape_of domains (tree_of x))) (sym is) ∙ has))

pub have_end : (domains : List Box) (es : List TypedExpr) (i : ℕ) → length es ≤ i
    → has_outcome (shapes_of domains (trees_seen es)) ≡ has_outcome (shapes_of domains (trees_seen (drop i es))) → true ≡ has_outcome (shapes_of domains (trees_seen es))
have_end domains es i over so_far = sym (so_far ∙ at_drop_all (has-all domains) es i over)

pub ruleset have_loop = (have_more, have_stop, have_end)

-- ---- the box of a domain, by how it is written

literal-rolls : (d : TypedDomain) (ps : List (TypedExpr × TypedExpr)) → d ≡ typed.Literal ps → domain_looked_at d ≡ bounds (pairs_seen ps)
literal-rolls d ps is =
    ap domain_looked_at (is ∙ sym (typed.rolls-Literal ps))
    ∙ fold-roll-TypedDomain (Axes → Axes) Domain Form Tree axis_tree_step domain_tree_step form_tree_step expr_tree_step (TypedDomain-F.Literal ps)

like-rolls : (d : TypedDomain) (e : TypedExpr) → d ≡ typed.Sdom e → domain_looked_at d ≡ domain_like (tree_of e)
like-rolls d e is =
    ap domain_looked_at (is ∙ sym (typed.rolls-Sdom e))
    ∙ fold-roll-TypedDomain (Axes → Axes) Domain Form Tree axis_tree_step domain_tree_step form_tree_step expr_tree_step (TypedDomain-F.«TypedDomain::Sdom» e)

pub literal_box : (domains : List Box) (d : TypedDomain) (ps : List (TypedExpr × TypedExpr)) → d ≡ typed.Literal ps
    → axes_in (written_in (written_of domains (domain_looked_at d))) ≡ all_or_none (bounds_between domains (pairs_seen ps))
literal_box domains d ps is = ap (λ domain. axes_in (written_in (written_of domains domain))) (literal-rolls d ps is) ∙ sym (literal_is domains (pairs_seen ps))

pub like_box : (domains : List Box) (d : TypedDomain) (e : TypedExpr) → d ≡ typed.Sdom e
    → axes_in (written_in (written_of domains (domain_looked_at d))) ≡ box_in (shape_of domains (tree_of e))
like_box domains d e is = ap (λ domain. axes_in (written_in (written_of domains domain))) (like-rolls d e is) ∙ by_shape (shape_of domains (tree_of e)) where
  by_shape : (r : Result Shape ShapeMisfit) → axes_in (written_in (r >>= λ x. Ok (taken (box_of x)))) ≡ box_in r
  by_shape (Ok shape) = refl
  by_shape (Err misfit) = refl

pub ruleset domain_boxes = (literal_box, like_box)
