-- Outcomes one after another: what is done, and what is left.
use Rattle.std.proofs.Common.{◌≡◌, ℕ, zero, suc, ◌+◌, ◌<◌, ◌≤◌, List, [], ◌∷◌, ◌++◌, length, map, drop, get_or, Result, Ok, Err, Some, refl, sym, ap, ◌∙◌, arith, append_assoc}
use Rattle.std.specs.List.{slice_get}
use Rattle.std.specs.Option.{option_map}
use Rattle.std.proofs.lemmas.List.{append-nil, drop_all, map-append}
use Rattle.std.proofs.lemmas.Option.{slice_get-map}
use Rattle.ras_cells.specs.Outcomes.{◌>>=◌}
use Rattle.ras_eval.specs.Cells.{each_in_order}
use Rattle.ras_eval.specs.declared.stops.CellStop.{CellStop}
use Rattle.ras_eval.specs.declared.stops.CellStop.TheVariants.{Fault, Memory}
use Rattle.ras_eval.specs.Given.{IsCellStop}
use Rattle.ras_cells.specs.declared.cell.CellFault.{CellFault}
use Rattle.ras_rows.specs.declared.stop.Stop.{Stop}
use Rattle.ras_rows.specs.declared.stop.Stop.TheVariants as stops
use Rattle.ras_rows.specs.Stops.{IsStop}
use Rattle.spec_statements.specs.Reply.{Reply}
use Rattle.std.specs.Prelude.{ℤ}

-- what stands at a place is the first of what is left there
pub drop-at : {X : Type 0} (xs : List X) (k : ℕ) (x : X) → slice_get xs k ≡ Some x → drop k xs ≡ x ∷ drop (suc k) xs
drop-at [] k x is = absurd cc
drop-at (y ∷ ys) zero x is = let same : y ≡ x = cc in ap (λ z. z ∷ ys) same
drop-at (y ∷ ys) (suc k) x is = drop-at ys k x is

pub item-at : {X : Type 0} (xs : List X) (k : ℕ) (x : X) → k < length xs → x ≡ get_or xs k x → slice_get xs k ≡ Some x
item-at [] k x within is = absurd (omega (arith, within))
item-at (y ∷ ys) zero x within is = ap Some (sym is)
item-at (y ∷ ys) (suc k) x within is = item-at ys k x (omega (arith, within)) is

-- what is done, and then the outcome of the rest
abbrev pub after : {Y E : Type 0} → List Y → Result (List Y) E → Result (List Y) E
after done rest = rest >>= λ more. Ok (done ++ more)

pub after-none : {Y E : Type 0} (r : Result (List Y) E) → after [] r ≡ r
after-none (Ok more) = refl
after-none (Err e) = refl

pub after-more : {Y E : Type 0} (done : List Y) (y : Y) (r : Result (List Y) E) → after done (r >>= λ more. Ok (y ∷ more)) ≡ after (done ++ y ∷ []) r
after-more done y (Ok more) = ap Ok (sym (append_assoc done (y ∷ []) more))
after-more done y (Err e) = refl

module _ {X Y E : Type 0} (step : X → Result Y E) (xs : List X) where
  abbrev left : ℕ → Result (List Y) E
  left k = each_in_order step (drop k xs)

  pub each_start : after [] (each_in_order step xs) ≡ each_in_order step xs
  each_start = after-none (each_in_order step xs)

  pub each_turn : (done new : List Y) (k : ℕ) (x : X) (y : Y) → slice_get xs k ≡ Some x → step x ≡ Ok y → new ≡ done ++ y ∷ []
      → after done (each_in_order step (drop k xs)) ≡ each_in_order step xs → after new (each_in_order step (drop (k + 1) xs)) ≡ each_in_order step xs
  each_turn done new k x y at is new_is so_far =
      let one_more : k + 1 ≡ suc k = omega arith in
      rw (one_more, new_is)
      (sym (after-more done y (left (suc k)))
      ∙ ap (λ r. after done (r >>= λ z. left (suc k) >>= λ zs. Ok (z ∷ zs))) (sym is)
      ∙ ap (λ ys. after done (each_in_order step ys)) (sym (drop-at xs k x at)) ∙ so_far)

  pub each_stop : (done : List Y) (k : ℕ) (x : X) (e : E) → slice_get xs k ≡ Some x → step x ≡ Err e
      → after done (each_in_order step (drop k xs)) ≡ each_in_order step xs → each_in_order step xs ≡ Err e
  each_stop done k x e at is so_far =
      sym so_far ∙ ap (λ ys. after done (each_in_order step ys)) (drop-at xs k x at)
      ∙ ap (λ r. after done (r >>= λ z. left (suc k) >>= λ zs. Ok (z ∷ zs))) is

  pub each_end : (done : List Y) (k : ℕ) → length xs ≤ k → after done (each_in_order step (drop k xs)) ≡ each_in_order step xs → each_in_order step xs ≡ Ok done
  each_end done k end so_far = sym so_far ∙ ap (λ ys. after done (each_in_order step ys)) (drop_all k xs end) ∙ ap Ok (append-nil done)

-- a stop of one is a stop of all
pub row_stops : {X Y : Type 0} (step : X → Result Y Reply) (xs : List X) (done : List Y) (k : ℕ) (x : X) (stop : Stop) → slice_get xs k ≡ Some x → IsStop (step x) stop
    → after done (each_in_order step (drop k xs)) ≡ each_in_order step xs → IsStop (each_in_order step xs) stop
row_stops step xs done k x (stops.Answer answer) at is so_far = each_stop step xs done k x _ at is so_far
row_stops step xs done k x stops.Memory at is so_far = tt

pub cell_stops : {X Y : Type 0} (step : X → Result Y (List ℤ × CellFault)) (xs : List X) (done : List Y) (k : ℕ) (x : X) (stop : CellStop) → slice_get xs k ≡ Some x
    → IsCellStop (step x) stop → after done (each_in_order step (drop k xs)) ≡ each_in_order step xs → IsCellStop (each_in_order step xs) stop
cell_stops step xs done k x (Fault point fault) at is so_far = each_stop step xs done k x _ at is so_far
cell_stops step xs done k x Memory at is so_far = tt

-- an item of a slice, as it is seen
pub seen-at : {X Y : Type 0} (seen : X → Y) (xs : List X) (k : ℕ) (x : X) → k < length xs → x ≡ get_or xs k x → slice_get (map seen xs) k ≡ Some (seen x)
seen-at seen xs k x within is = slice_get-map seen xs k ∙ ap (option_map seen) (item-at xs k x within is)

-- one more at the end, as they are seen
pub seen-more : {X Y : Type 0} (seen : X → Y) (old new : List X) (x : X) → new ≡ old ++ x ∷ [] → map seen new ≡ map seen old ++ seen x ∷ []
seen-more seen old new x is = ap (map seen) is ∙ map-append seen old (x ∷ [])
