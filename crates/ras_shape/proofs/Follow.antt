-- From what answers the parts' calls gave to what the definitions say of the whole.
use Rattle.std.proofs.Common.{◌≡◌, Result, Ok, Err, refl}
use Rattle.ras_cells.specs.Outcomes.{◌>>=◌}
use Rattle.spec_expressions.specs.Shape.{ShapeMisfit}
use Rattle.ras_shape.specs.declared.form.ShapeError.{ShapeError}
use Rattle.ras_shape.specs.declared.form.ShapeError.TheVariants.{Fault, Memory}
use Rattle.ras_shape.specs.Gives.{StopsAs, GivesAs, FollowsFrom, fault_told, viewed}

-- a fault of the first step is the fault of both
pub stops_bind : {X B : Type 0} (r : Result X ShapeMisfit) (k : X → Result B ShapeMisfit) (error : ShapeError) → StopsAs r error → StopsAs (r >>= k) error
stops_bind r k (Fault span fault) stop = rw stop refl
stops_bind r k Memory stop = tt

-- where the second step has no fault, the fault of both is the first's
pub stops_first : {X B : Type 0} (r : Result X ShapeMisfit) (k : X → B) (error : ShapeError) → StopsAs (r >>= λ x. Ok (k x)) error → StopsAs r error
stops_first (Ok x) k (Fault span fault) stop = absurd cc
stops_first (Ok x) k Memory stop = tt
stops_first (Err misfit) k (Fault span fault) stop = let same : misfit ≡ (span, fault) = cc in rw same refl
stops_first (Err misfit) k Memory stop = tt

-- what follows from an error is that error
pub first_stop : {A B : Type 0} (view : A → B) (wanted : Result B ShapeMisfit) (error : ShapeError) (got : Result A ShapeError)
    → StopsAs wanted error → FollowsFrom view (Err error) got → GivesAs view wanted got
first_stop view wanted (Fault s f) (Ok a) stop from = absurd cc
first_stop view wanted (Fault s f) (Err (Fault t g)) stop from =
    let first : s ≡ t = cc in
    let second : f ≡ g = cc in
    rw (← first, ← second) stop
first_stop view wanted (Fault s f) (Err Memory) stop from = tt
first_stop view wanted Memory (Ok a) stop from = absurd cc
first_stop view wanted Memory (Err (Fault t g)) stop from = absurd cc
first_stop view wanted Memory (Err Memory) stop from = tt

-- what follows from an outcome of the definitions gives it
pub gives_told : {A B : Type 0} (view : A → B) (wanted : Result B ShapeMisfit) (got : Result A ShapeError) → FollowsFrom view (fault_told wanted) got → GivesAs view wanted got
gives_told view (Ok b) (Ok a) from = let same : b ≡ view a = cc in rw same refl
gives_told view (Ok b) (Err (Fault t g)) from = absurd cc
gives_told view (Ok b) (Err Memory) from = tt
gives_told view (Err misfit) got from = first_stop view (Err misfit) (Fault misfit.0 misfit.1) got refl from

pub told_bind : {X B : Type 0} (r : Result X ShapeMisfit) (k : X → Result B ShapeMisfit) → (fault_told r >>= λ x. fault_told (k x)) ≡ fault_told (r >>= k)
told_bind (Ok x) k = refl
told_bind (Err misfit) k = refl

-- two steps: the first gave what its call answered, and the second follows from that
pub gives_bind : {X Y A B : Type 0} (part : Y → X) (view : A → B) (r : Result X ShapeMisfit) (s : Result Y ShapeError) (k : X → Result B ShapeMisfit)
    (h : X → Result B ShapeError) (got : Result A ShapeError) → GivesAs part r s → FollowsFrom view (viewed part s >>= h) got
    → ((y : Y) → FollowsFrom view (h (part y)) got → GivesAs view (k (part y)) got) → GivesAs view (r >>= k) got
gives_bind part view r (Ok y) k h got is from next = rw is (next y from)
gives_bind part view r (Err error) k h got stop from next = first_stop view (r >>= k) error got (stops_bind r k error stop) from

-- the same, where the second step is one of the definitions
pub gives_step : {X Y A B : Type 0} (part : Y → X) (view : A → B) (r : Result X ShapeMisfit) (s : Result Y ShapeError) (k : X → Result B ShapeMisfit) (got : Result A ShapeError)
    → GivesAs part r s → FollowsFrom view (viewed part s >>= λ x. fault_told (k x)) got → GivesAs view (r >>= k) got
gives_step part view r s k got is from = gives_bind part view r s k (λ x. fault_told (k x)) got is from (λ y. gives_told view (k (part y)) got)
