-- Loops over lists: what is done, and what the rest of the list gives.
use Rattle.std.proofs.Common.{◌≡◌, ℕ, ℤ, Option, Some, None, ◌+◌, ◌<◌, ◌≤◌, List, [], ◌∷◌, ◌++◌, length, map, drop, get_or, Result, Ok, Err, refl, sym, ap, subst, ◌∙◌, append_assoc}
use Rattle.std.proofs.lemmas.List.{at_drop_more, at_drop_all, append-nil}
use Rattle.ras_cells.specs.declared.cell.CellFault.{CellFault}
use Rattle.ras_cells.specs.Outcomes.{◌>>=◌}
use Rattle.ras_syntax.specs.declared.typed.TypedExpr.{TypedExpr}
use Rattle.ras_syntax.specs.declared.typed.TypedAxis.{TypedAxis}
use Rattle.spec_expressions.specs.Tree.{tree_of}
use Rattle.spec_expressions.specs.Check.{tree_of_axes}
use Rattle.spec_expressions.specs.Shape.{Box, Shape, ShapeMisfit, Bound, Cut as CutOf, with_value, values_of, kept_axes, shape_of, static_of, shapes_of, pair_shapes, offsets_of, bounds_of, cut_of}
use Rattle.spec_expressions.specs.Shape.{cuts_of}
use Rattle.ras_shape.specs.declared.form.ShapeError.{ShapeError}
use Rattle.ras_shape.specs.declared.form.ShapeError.TheVariants.{Fault, Memory}
use Rattle.ras_shape.specs.declared.cuts.Cut.{Cut}
use Rattle.ras_shape.specs.Cuts.{cut_found}
use Rattle.ras_shape.specs.Gives.{StopsAs}
use Rattle.ras_shape.specs.Trees.{trees_seen, pairs_seen, bound_cuts}

-- the axes that are kept, and those of the other cuts
abbrev pub kept_after : Box → List Cut → Box
kept_after done cuts = done ++ kept_axes (map cut_found cuts)

-- ---- outcomes of a list, an item after another

abbrev pub run : {X B : Type 0} → (X → Result (List B) ShapeMisfit) → List X → Result (List B) ShapeMisfit
run f [] = Ok []
run f (x ∷ xs) = do
  ys ← f x
  zs ← run f xs
  Ok (ys ++ zs)

-- what is done, and then the outcomes of the rest
abbrev pub run_after : {X B : Type 0} → (X → Result (List B) ShapeMisfit) → List B → List X → Result (List B) ShapeMisfit
run_after f done xs = run f xs >>= λ zs. Ok (done ++ zs)

pub run_none : {X B : Type 0} (f : X → Result (List B) ShapeMisfit) (xs : List X) → run_after f [] xs ≡ run f xs
run_none f xs = keeps (run f xs) where
  keeps : {B : Type 0} (r : Result (List B) ShapeMisfit) → (r >>= λ zs. Ok ([] ++ zs)) ≡ r
  keeps (Ok zs) = refl
  keeps (Err misfit) = refl

joins : {B : Type 0} (done ys : List B) (r : Result (List B) ShapeMisfit) → ((r >>= λ zs. Ok (ys ++ zs)) >>= λ zs. Ok (done ++ zs)) ≡ (r >>= λ zs. Ok (done ++ ys ++ zs))
joins done ys (Ok zs) = ap (λ all. Ok all) (sym (append_assoc done ys zs))
joins done ys (Err misfit) = refl

run_turn : {X B : Type 0} (f : X → Result (List B) ShapeMisfit) (done ys : List B) (x : X) (xs : List X) → f x ≡ Ok ys → run_after f done (x ∷ xs) ≡ run_after f (done ++ ys) xs
run_turn f done ys x xs is = rw is (joins done ys (run f xs))

-- an item's outcome goes to the end of what is done
pub loop_turn : {X B : Type 0} (f : X → Result (List B) ShapeMisfit) (done ys : List B) (xs : List X) (i : ℕ) (d : X) (w : Result (List B) ShapeMisfit)
    → i < length xs → f (get_or xs i d) ≡ Ok ys → run_after f done (drop i xs) ≡ w → run_after f (done ++ ys) (drop (i + 1) xs) ≡ w
loop_turn f done ys xs i d w within is so_far =
    sym (run_turn f done ys (get_or xs i d) (drop (i + 1) xs) is) ∙ sym (at_drop_more (run_after f done) xs i d within) ∙ so_far

-- its fault is the fault of all
run_stop : {X B : Type 0} (f : X → Result (List B) ShapeMisfit) (done : List B) (x : X) (xs : List X) (error : ShapeError) → StopsAs (f x) error → StopsAs (run_after f done (x ∷ xs)) error
run_stop f done x xs (Fault span fault) is = rw is refl
run_stop f done x xs Memory is = tt

pub loop_stop : {X B : Type 0} (f : X → Result (List B) ShapeMisfit) (done : List B) (xs : List X) (i : ℕ) (d : X) (w : Result (List B) ShapeMisfit) (error : ShapeError)
    → i < length xs → StopsAs (f (get_or xs i d)) error → run_after f done (drop i xs) ≡ w → StopsAs w error
loop_stop f done xs i d w error within is so_far =
    subst (λ r. StopsAs r error) (sym (at_drop_more (run_after f done) xs i d within) ∙ so_far) (run_stop f done (get_or xs i d) (drop (i + 1) xs) error is)

-- at the end all is done
pub loop_end : {X B : Type 0} (f : X → Result (List B) ShapeMisfit) (done : List B) (xs : List X) (i : ℕ) (w : Result (List B) ShapeMisfit) → length xs ≤ i → run_after f done (drop i xs) ≡ w
    → w ≡ Ok done
loop_end f done xs i w over so_far = sym so_far ∙ at_drop_all (run_after f done) xs i over ∙ ap (λ all. Ok all) (append-nil done)

-- ---- the lists of expressions

abbrev pub shape_item : List Box → TypedExpr → Result (List Shape) ShapeMisfit
shape_item domains e = do
  x ← shape_of domains (tree_of e)
  Ok (x ∷ [])

abbrev pub offset_item : List Box → TypedExpr → Result (List Bound) ShapeMisfit
offset_item domains e = do
  x ← shape_of domains (tree_of e)
  Ok (static_of domains (tree_of e) ∷ [])

abbrev pub pair_item : List Box → TypedExpr × TypedExpr → Result (List Shape) ShapeMisfit
pair_item domains p = do
  x ← shape_of domains (tree_of p.0)
  y ← shape_of domains (tree_of p.1)
  Ok (x ∷ y ∷ [])

abbrev pub bound_item : List Box → TypedExpr × TypedExpr → Result (List CutOf) ShapeMisfit
bound_item domains p = do
  x ← shape_of domains (tree_of p.0)
  y ← shape_of domains (tree_of p.1)
  Ok (cut_of (static_of domains (tree_of p.0), static_of domains (tree_of p.1)) ∷ [])

-- one step, whose outcome goes before the others
step : {X B : Type 0} (r : Result X ShapeMisfit) (k : X → List B) (s : Result (List B) ShapeMisfit)
    → ((r >>= λ x. Ok (k x)) >>= λ ys. s >>= λ zs. Ok (ys ++ zs)) ≡ (r >>= λ x. s >>= λ zs. Ok (k x ++ zs))
step (Ok x) k s = refl
step (Err misfit) k s = refl

steps : {X Y B : Type 0} (r : Result X ShapeMisfit) (q : Result Y ShapeMisfit) (k : X → Y → List B) (s : Result (List B) ShapeMisfit)
    → ((r >>= λ x. q >>= λ y. Ok (k x y)) >>= λ ys. s >>= λ zs. Ok (ys ++ zs)) ≡ (r >>= λ x. q >>= λ y. s >>= λ zs. Ok (k x y ++ zs))
steps (Ok x) (Ok y) k s = refl
steps (Ok x) (Err misfit) k s = refl
steps (Err misfit) q k s = refl

pub run-shapes : (domains : List Box) (es : List TypedExpr) → run (shape_item domains) es ≡ shapes_of domains (trees_seen es)
run-shapes domains [] = refl
run-shapes domains (e ∷ es) =
    step (shape_of domains (tree_of e)) (λ x. x ∷ []) (run (shape_item domains) es)
    ∙ ap (λ s. shape_of domains (tree_of e) >>= λ x. s >>= λ zs. Ok (x ∷ zs)) (run-shapes domains es)

pub run-offsets : (domains : List Box) (es : List TypedExpr) → run (offset_item domains) es ≡ offsets_of domains (trees_seen es)
run-offsets domains [] = refl
run-offsets domains (e ∷ es) =
    step (shape_of domains (tree_of e)) (λ x. static_of domains (tree_of e) ∷ []) (run (offset_item domains) es)
    ∙ ap (λ s. shape_of domains (tree_of e) >>= λ x. s >>= λ zs. Ok (static_of domains (tree_of e) ∷ zs)) (run-offsets domains es)

pub run-pairs : (domains : List Box) (ps : List (TypedExpr × TypedExpr)) → run (pair_item domains) ps ≡ pair_shapes domains (pairs_seen ps)
run-pairs domains [] = refl
run-pairs domains (p ∷ ps) =
    steps (shape_of domains (tree_of p.0)) (shape_of domains (tree_of p.1)) (λ x y. x ∷ y ∷ []) (run (pair_item domains) ps)
    ∙ ap (λ s. shape_of domains (tree_of p.0) >>= λ x. shape_of domains (tree_of p.1) >>= λ y. s >>= λ zs. Ok (x ∷ y ∷ zs)) (run-pairs domains ps)

-- the cut of the first bounds, and those of the others
cuts_step : (r q : Result Shape ShapeMisfit) (lo hi : Bound) (s : Result (List (Bound × Bound)) ShapeMisfit)
    → (r >>= λ x. q >>= λ y. (s >>= λ ends. Ok (map cut_of ends)) >>= λ zs. Ok (cut_of (lo, hi) ∷ zs))
    ≡ ((r >>= λ x. q >>= λ y. s >>= λ ends. Ok ((lo, hi) ∷ ends)) >>= λ ends. Ok (map cut_of ends))
cuts_step (Ok x) (Ok y) lo hi (Ok ends) = refl
cuts_step (Ok x) (Ok y) lo hi (Err misfit) = refl
cuts_step (Ok x) (Err misfit) lo hi s = refl
cuts_step (Err misfit) q lo hi s = refl

pub run-bounds : (domains : List Box) (ps : List (TypedExpr × TypedExpr)) → run (bound_item domains) ps ≡ bound_cuts domains (pairs_seen ps)
run-bounds domains [] = refl
run-bounds domains (p ∷ ps) =
    steps (shape_of domains (tree_of p.0)) (shape_of domains (tree_of p.1)) (λ x y. cut_of (static_of domains (tree_of p.0), static_of domains (tree_of p.1)) ∷ []) (run (bound_item domains) ps)
    ∙ ap (λ s. shape_of domains (tree_of p.0) >>= λ x. shape_of domains (tree_of p.1) >>= λ y. s >>= λ zs. Ok (cut_of (static_of domains (tree_of p.0), static_of domains (tree_of p.1)) ∷ zs))
    (run-bounds domains ps)
    ∙ cuts_step (shape_of domains (tree_of p.0)) (shape_of domains (tree_of p.1)) (static_of domains (tree_of p.0)) (static_of domains (tree_of p.1)) (bounds_of domains (pairs_seen ps))

-- ---- the cuts of an index

abbrev pub cuts_after : List Box → List CutOf → List TypedAxis → Box → Result (List CutOf) ShapeMisfit
cuts_after domains done index rest = cuts_of domains (tree_of_axes index) rest >>= λ cuts. Ok (done ++ cuts)

-- ---- the values of offsets

abbrev pub values_after : List ℤ → Option (List ℤ) → Option (List ℤ)
values_after done None = None
values_after done (Some zs) = Some (done ++ zs)

values-join : (done : List ℤ) (z : ℤ) (others : Option (List ℤ)) → values_after done (with_value z others) ≡ values_after (done ++ z ∷ []) others
values-join done z None = refl
values-join done z (Some zs) = ap (λ all. Some all) (sym (append_assoc done (z ∷ []) zs))

-- one more value, and an offset without one
pub values_turn : (done : List ℤ) (offsets : List Bound) (i : ℕ) (d : Bound) (z : ℤ) → i < length offsets → get_or offsets i d ≡ Ok z
    → values_after done (values_of (drop i offsets)) ≡ values_after (done ++ z ∷ []) (values_of (drop (i + 1) offsets))
values_turn done offsets i d z within is =
    at_drop_more (λ rest. values_after done (values_of rest)) offsets i d within ∙ rw is (values-join done z (values_of (drop (i + 1) offsets)))

pub values_stop : (done : List ℤ) (offsets : List Bound) (i : ℕ) (d : Bound) (fault : CellFault) → i < length offsets → get_or offsets i d ≡ Err fault
    → values_after done (values_of (drop i offsets)) ≡ None
values_stop done offsets i d fault within is =
    at_drop_more (λ rest. values_after done (values_of rest)) offsets i d within ∙ rw is refl

pub ruleset offsets = (values_turn, values_stop)
