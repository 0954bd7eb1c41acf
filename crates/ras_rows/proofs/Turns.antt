-- Loops over rows: what is done, and what the other rows give.
use Rattle.std.proofs.Common.{◌≡◌, ℕ, zero, suc, ◌+◌, ◌<◌, ◌≤◌, List, [], ◌∷◌, ◌++◌, length, map, take, drop, get_or, true, Result, Ok, Err, Some, refl, sym, ap, subst, ◌∙◌, arith, append_assoc}
use Rattle.std.specs.List.{slice_get}
use Rattle.std.specs.Option.{option_map}
use Rattle.std.specs.Prelude.{nat_lt, sum}
use Rattle.std.proofs.lemmas.Bool.Decides.{nat_tests}
use Rattle.std.proofs.lemmas.List.{append-nil, drop_all, get_or-map, map-append, length-map, take_all, take_more}
use Rattle.std.proofs.lemmas.List.Sums.{sum_by_more, sum_by-take-le}
use Rattle.std.proofs.lemmas.Option.{slice_get-map}
use Rattle.ras_cells.specs.Outcomes.{◌>>=◌}
use Rattle.ras_rows.specs.declared.stop.Stop.{Stop}
use Rattle.ras_rows.specs.declared.stop.Stop.TheVariants.{Answer, Memory}
use Rattle.ras_rows.specs.declared.plan.Plan.{Plan as PlanMade}
use Rattle.ras_rows.specs.Plans.{plan_seen, rows_listed}
use Rattle.ras_rows.specs.RowsKept.{row_named}
use Rattle.ras_rows.specs.Stops.{IsStop, stop_of}
use Rattle.ras_shape.specs.declared.form.ShapeError.{ShapeError}
use Rattle.ras_shape.specs.declared.form.ShapeError.TheVariants as errors
use Rattle.ras_shape.specs.Gives.{StopsAs}
use Rattle.ras_syntax.specs.declared.typed.CheckedSource.{CheckedSource}
use Rattle.spec_expressions.specs.Eval.{domains_in}
use Rattle.spec_expressions.specs.Shape.{Shape, ShapeMisfit, shape_of}
use Rattle.spec_expressions.specs.Tree.{Tree, only_where}
use Rattle.spec_statements.specs.Phases.{shaped_condition}
use Rattle.spec_statements.specs.Plans.{Plan, misfit_in, plans_of, row_plan}
use Rattle.spec_statements.specs.Reply.{Reply}
use Rattle.spec_statements.specs.Rows.{Row, environment_of}
use Rattle.spec_statements.specs.Statement.{Request}
use Rattle.spec_views.specs.Holdings.{Holdings}

-- what stands at a place is the first of what is left there
drop-at : {X : Type 0} (xs : List X) (k : ℕ) (x : X) → slice_get xs k ≡ Some x → drop k xs ≡ x ∷ drop (suc k) xs
drop-at [] k x is = absurd cc
drop-at (y ∷ ys) zero x is = let same : y ≡ x = cc in ap (λ z. z ∷ ys) same
drop-at (y ∷ ys) (suc k) x is = drop-at ys k x is

take-at : {X : Type 0} (xs : List X) (k : ℕ) (x : X) → slice_get xs k ≡ Some x → take (suc k) xs ≡ take k xs ++ x ∷ []
take-at [] k x is = absurd cc
take-at (y ∷ ys) zero x is = let same : y ≡ x = cc in ap (λ z. z ∷ []) same
take-at (y ∷ ys) (suc k) x is = ap (λ zs. y ∷ zs) (take-at ys k x is)

-- what is done, and then the outcome of the rest
abbrev pub after : {B : Type 0} → List B → Result (List B) Reply → Result (List B) Reply
after done rest = rest >>= λ more. Ok (done ++ more)

after-none : {B : Type 0} (r : Result (List B) Reply) → after [] r ≡ r
after-none (Ok more) = refl
after-none (Err reply) = refl

after-more : {B : Type 0} (done : List B) (x : B) (r : Result (List B) Reply) → after done (r >>= λ more. Ok (x ∷ more)) ≡ after (done ++ x ∷ []) r
after-more done x (Ok more) = ap Ok (sym (append_assoc done (x ∷ []) more))
after-more done x (Err reply) = refl

-- a shape fault is the stop of its row
pub stops-in-row : {B : Type 0} (wanted : Result B ShapeMisfit) (row : ℕ) (error : ShapeError) (stop : Stop) → StopsAs wanted error → stop ≡ stop_of row error → IsStop (misfit_in row wanted) stop
stops-in-row wanted row (errors.Fault span fault) stop is same = rw (same, is) refl
stops-in-row wanted row errors.Memory stop is same = rw same tt

stops-bind : {X B : Type 0} (r : Result X Reply) (k : X → Result B Reply) (stop : Stop) → IsStop r stop → IsStop (r >>= k) stop
stops-bind r k (Answer answer) is = rw is refl
stops-bind r k Memory is = tt

stops-after : {B : Type 0} (done : List B) (r w : Result (List B) Reply) (stop : Stop) → IsStop r stop → after done r ≡ w → IsStop w stop
stops-after done r w (Answer answer) is so_far = sym so_far ∙ ap (after done) is
stops-after done r w Memory is so_far = tt

-- ---- plans

module _ (form : Request) (listed : List (ℕ × Row)) where
  pub plans_start : after [] (plans_of form listed) ≡ plans_of form listed
  plans_start = after-none (plans_of form listed)

  pub plans_turn : (done new : List Plan) (k : ℕ) (row : ℕ × Row) (plan : Plan) → slice_get listed k ≡ Some row → misfit_in row.0 (row_plan form row) ≡ Ok plan
      → new ≡ done ++ plan ∷ [] → after done (plans_of form (drop k listed)) ≡ plans_of form listed → after new (plans_of form (drop (k + 1) listed)) ≡ plans_of form listed
  plans_turn done new k row plan at is new_is so_far =
      let step : k + 1 ≡ suc k = omega arith in
      rw (step, new_is)
      (sym (after-more done plan (plans_of form (drop (suc k) listed)))
      ∙ ap (λ r. after done (r >>= λ p. plans_of form (drop (suc k) listed) >>= λ ps. Ok (p ∷ ps))) (sym is)
      ∙ ap (λ rows. after done (plans_of form rows)) (sym (drop-at listed k row at)) ∙ so_far)

  pub plans_stop : (done : List Plan) (k : ℕ) (row : ℕ × Row) (stop : Stop) → slice_get listed k ≡ Some row → IsStop (misfit_in row.0 (row_plan form row)) stop
      → after done (plans_of form (drop k listed)) ≡ plans_of form listed → IsStop (plans_of form listed) stop
  plans_stop done k row stop at is so_far =
      stops-after done (plans_of form (drop k listed)) (plans_of form listed) stop
      (subst (λ rows. IsStop (plans_of form rows) stop) (sym (drop-at listed k row at))
      (stops-bind (misfit_in row.0 (row_plan form row)) (λ p. plans_of form (drop (suc k) listed) >>= λ ps. Ok (p ∷ ps)) stop is))
      so_far

  pub plans_end : (done : List Plan) (k : ℕ) → length listed ≤ k → after done (plans_of form (drop k listed)) ≡ plans_of form listed → plans_of form listed ≡ Ok done
  plans_end done k end so_far = sym so_far ∙ ap (λ rows. after done (plans_of form rows)) (drop_all k listed end) ∙ ap Ok (append-nil done)

-- the same of the rows that are listed, in the words of the loop
module _ (form : Request) (holdings : Holdings) (sources ss : List CheckedSource) (rows : List (ℕ × List ℕ)) (ss_are : ss ≡ sources) (k number : ℕ) (oids : List ℕ) (row : Row)
    (at : slice_get rows k ≡ Some (number, oids)) (row_is : row ≡ row_named holdings ss oids) where
  here : slice_get (rows_listed holdings sources rows) k ≡ Some (number, row)
  here =
      slice_get-map (λ (r : ℕ × List ℕ). (r.0, row_named holdings sources r.1)) rows k ∙ ap (option_map (λ (r : ℕ × List ℕ). (r.0, row_named holdings sources r.1))) at
      ∙ ap (λ (r : Row). Some (number, r)) (ap (λ (xs : List CheckedSource). row_named holdings xs oids) (sym ss_are) ∙ sym row_is)

  pub listed_turn : (plans new : List PlanMade) (plan : PlanMade) → misfit_in number (row_plan form (number, row)) ≡ Ok (plan_seen plan) → new ≡ plans ++ plan ∷ []
      → after (map plan_seen plans) (plans_of form (drop k (rows_listed holdings sources rows))) ≡ plans_of form (rows_listed holdings sources rows)
      → after (map plan_seen new) (plans_of form (drop (k + 1) (rows_listed holdings sources rows))) ≡ plans_of form (rows_listed holdings sources rows)
  listed_turn plans new plan is new_is so_far =
      plans_turn form (rows_listed holdings sources rows) (map plan_seen plans) (map plan_seen new) k (number, row) (plan_seen plan) here is
      (ap (map plan_seen) new_is ∙ map-append plan_seen plans (plan ∷ [])) so_far

  pub listed_stop : (plans : List PlanMade) (stop : Stop) → IsStop (misfit_in number (row_plan form (number, row))) stop
      → after (map plan_seen plans) (plans_of form (drop k (rows_listed holdings sources rows))) ≡ plans_of form (rows_listed holdings sources rows)
      → IsStop (plans_of form (rows_listed holdings sources rows)) stop
  listed_stop plans stop is so_far = plans_stop form (rows_listed holdings sources rows) (map plan_seen plans) k (number, row) stop here is so_far

pub listed_end : (form : Request) (holdings : Holdings) (sources : List CheckedSource) (rows : List (ℕ × List ℕ)) (plans : List PlanMade) (k : ℕ) → length rows ≤ k
    → after (map plan_seen plans) (plans_of form (drop k (rows_listed holdings sources rows))) ≡ plans_of form (rows_listed holdings sources rows)
    → plans_of form (rows_listed holdings sources rows) ≡ Ok (map plan_seen plans)
listed_end form holdings sources rows plans k end so_far =
    let list : ℕ × List ℕ → ℕ × Row = λ r. (r.0, row_named holdings sources r.1) in
    let long : length (rows_listed holdings sources rows) ≡ length rows = length-map rows list in
    plans_end form (rows_listed holdings sources rows) (map plan_seen plans) k (omega (arith, end, long)) so_far

-- ---- conditions

module _ (c : Tree) (rows : List (ℕ × Row)) where
  abbrev shape_in : ℕ × Row → Result Shape Reply
  shape_in row = misfit_in row.0 (shape_of (domains_in (environment_of row.1)) c)

  abbrev shaped : List (ℕ × Row) → Result (List (ℕ × Row)) Reply
  shaped = shaped_condition (only_where c)

  pub shaped_start : after [] (shaped rows) ≡ shaped rows
  shaped_start = after-none (shaped rows)

  pub shaped_turn : (k : ℕ) (row : ℕ × Row) (shape : Shape) → slice_get rows k ≡ Some row → shape_in row ≡ Ok shape
      → after (take k rows) (shaped (drop k rows)) ≡ shaped rows → after (take (k + 1) rows) (shaped (drop (k + 1) rows)) ≡ shaped rows
  shaped_turn k row shape at is so_far =
      let step : k + 1 ≡ suc k = omega arith in
      rw (step, take-at rows k row at)
      (sym (after-more (take k rows) row (shaped (drop (suc k) rows)))
      ∙ ap (λ r. after (take k rows) (r >>= λ s. shaped (drop (suc k) rows) >>= λ others. Ok (row ∷ others))) (sym is)
      ∙ ap (λ rs. after (take k rows) (shaped rs)) (sym (drop-at rows k row at)) ∙ so_far)

  pub shaped_stop : (k : ℕ) (row : ℕ × Row) (stop : Stop) → slice_get rows k ≡ Some row → IsStop (shape_in row) stop
      → after (take k rows) (shaped (drop k rows)) ≡ shaped rows → IsStop (shaped rows) stop
  shaped_stop k row stop at is so_far =
      stops-after (take k rows) (shaped (drop k rows)) (shaped rows) stop
      (subst (λ rs. IsStop (shaped rs) stop) (sym (drop-at rows k row at))
      (stops-bind (shape_in row) (λ s. shaped (drop (suc k) rows) >>= λ others. Ok (row ∷ others)) stop is))
      so_far

  pub shaped_end : (k : ℕ) → length rows ≤ k → after (take k rows) (shaped (drop k rows)) ≡ shaped rows → shaped rows ≡ Ok rows
  shaped_end k end so_far =
      sym so_far ∙ ap (λ rs. after (take k rows) (shaped rs)) (drop_all k rows end) ∙ ap Ok (append-nil (take k rows) ∙ take_all k rows end)

-- ---- lists that are made item by item

pub mapped-turn : {X Y : Type 0} (f : X → Y) (xs : List X) (i : ℕ) (x : X) (y : Y) (made new : List Y) → i < length xs → x ≡ get_or xs i x → made ≡ take i (map f xs)
    → y ≡ f x → new ≡ made ++ y ∷ [] → new ≡ take (i + 1) (map f xs)
mapped-turn f xs i x y made new within x_is so_far y_is new_is =
    let inside : i < length (map f xs) = omega (arith, within, length-map xs f) in
    let here : get_or (map f xs) i (f x) ≡ f x = get_or-map f xs i x (f x) within ∙ ap f (sym x_is) in
    new_is ∙ ap (λ ys. ys ++ y ∷ []) so_far ∙ ap (λ z. take i (map f xs) ++ z ∷ []) (y_is ∙ sym here) ∙ sym (take_more (map f xs) i (f x) inside)

pub summed-turn : {X : Type 0} (f : X → ℕ) (xs : List X) (i : ℕ) (x : X) (n s : ℕ) → i < length xs → x ≡ get_or xs i x → s ≡ sum (take i (map f xs)) → n ≡ f x
    → s + n ≡ sum (take (i + 1) (map f xs))
summed-turn f xs i x n s within x_is so_far n_is =
    let inside : i < length (map f xs) = omega (arith, within, length-map xs f) in
    let here : get_or (map f xs) i (f x) ≡ f x = get_or-map f xs i x (f x) within ∙ ap f (sym x_is) in
    let more : sum (take (i + 1) (map f xs)) ≡ sum (take i (map f xs)) + get_or (map f xs) i (f x) = sum_by_more (λ (m : ℕ). m) (map f xs) i (f x) inside in
    omega (arith, more, here, so_far, n_is)

pub summed-above : {X : Type 0} (f : X → ℕ) (xs : List X) (i : ℕ) (x : X) (n s most : ℕ) → i < length xs → x ≡ get_or xs i x → s ≡ sum (take i (map f xs)) → n ≡ f x
    → most < s + n → true ≡ nat_lt most (sum (map f xs))
summed-above f xs i x n s most within x_is so_far n_is above =
    let turn = summed-turn f xs i x n s within x_is so_far n_is in
    let front : sum (take (i + 1) (map f xs)) ≤ sum (map f xs) = sum_by-take-le (λ (m : ℕ). m) (map f xs) (i + 1) in
    let below : most < sum (map f xs) = omega (arith, turn, front, above) in
    grind (arith, nat_tests)
