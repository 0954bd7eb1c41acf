-- How what the code answers stands for what the definitions say. Want of memory stands for nothing: it may come at any call.
use Rattle.std.specs.Prelude.{◌≡◌, ◌<◌, ◌≤◌, length, All, Result, Ok, Err}
use Rattle.ras_domain.specs.declared.TheConstants.{MAX_AXES}
use Rattle.ras_domain.specs.Region.{HasSmallBounds, IsOrdered}
use Rattle.spec_expressions.specs.Shape.{Box, Shape, scalar, array, box, ShapeMisfit}
use Rattle.ras_shape.specs.declared.form.Form.{Form}
use Rattle.ras_shape.specs.declared.form.Form.TheVariants as forms
use Rattle.ras_shape.specs.declared.form.ShapeError.{ShapeError}
use Rattle.ras_shape.specs.declared.form.ShapeError.TheVariants.{Fault, Memory}

abbrev pub shape_of_form : Form → Shape
shape_of_form forms.Scalar = scalar
shape_of_form (forms.Array axes) = array axes
shape_of_form (forms.Domain axes) = box axes

-- the error is the fault that is wanted, or want of memory
abbrev pub StopsAs : {B : Type 0} → Result B ShapeMisfit → ShapeError → Type 0
StopsAs wanted (Fault span fault) = wanted ≡ Err (span, fault)
StopsAs wanted Memory = Unit {0}

-- the answer, seen by a view of it, is the outcome that is wanted, or want of memory
abbrev pub GivesAs : {A B : Type 0} → (A → B) → Result B ShapeMisfit → Result A ShapeError → Type 0
GivesAs view wanted (Ok a) = wanted ≡ Ok (view a)
GivesAs view wanted (Err error) = StopsAs wanted error

abbrev pub GivesShape : Result Shape ShapeMisfit → Result Form ShapeError → Type 0
GivesShape = GivesAs shape_of_form

-- intervals, as they are
abbrev pub GivesBox : Result Box ShapeMisfit → Result Box ShapeError → Type 0
GivesBox = GivesAs (λ axes. axes)

-- ---- what is made of answers

-- an outcome, with its fault as the code's error
abbrev pub fault_told : {B : Type 0} → Result B ShapeMisfit → Result B ShapeError
fault_told (Ok b) = Ok b
fault_told (Err misfit) = Err (Fault misfit.0 misfit.1)

abbrev pub viewed : {A B : Type 0} → (A → B) → Result A ShapeError → Result B ShapeError
viewed view (Ok a) = Ok (view a)
viewed view (Err error) = Err error

abbrev pub IsFault : {B : Type 0} → Result B ShapeError → ShapeError → Type 0
IsFault wanted (Fault span fault) = wanted ≡ Err (Fault span fault)
IsFault wanted Memory = Unit {0}

-- the answer, seen by a view of it, is what follows from other answers, or want of memory
abbrev pub FollowsFrom : {A B : Type 0} → (A → B) → Result B ShapeError → Result A ShapeError → Type 0
FollowsFrom view wanted (Ok a) = wanted ≡ Ok (view a)
FollowsFrom view wanted (Err error) = IsFault wanted error

abbrev pub FollowsAsShape : Result Shape ShapeError → Result Form ShapeError → Type 0
FollowsAsShape = FollowsFrom shape_of_form

abbrev pub shape_seen : Result Form ShapeError → Result Shape ShapeError
shape_seen = viewed shape_of_form

-- ---- boxes that are a region's

-- all that a region has, but for the number of its points
pub record HasRegionAxes (axes : Box) : Type 0 where
  pub some_axes : 0 < length axes
  pub few_axes : length axes ≤ MAX_AXES
  pub small_bounds : All HasSmallBounds axes
  pub ordered : All IsOrdered axes
