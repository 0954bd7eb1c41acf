-- What led to an outcome that is a value.
use Rattle.std.proofs.Common.{◌≡◌, Bool, true, false, Result, Ok, Err, refl}
use Rattle.std.specs.Prelude.{if◌then◌else◌}
use Rattle.ras_cells.specs.Outcomes.{◌>>=◌}

-- both steps gave a value
pub bind_ok : {A B E : Type 0} (r : Result A E) (next : A → Result B E) (b : B) → r >>= next ≡ Ok b → (a : A) × (r ≡ Ok a) × (next a ≡ Ok b)
bind_ok (Ok a) next b is = (a, refl, is)
bind_ok (Err fault) next b is = absurd cc

-- an outcome that is a value is that value
pub same_ok : {A E : Type 0} (a b : A) → (let r : Result A E = Ok a in r ≡ Ok b) → a ≡ b
same_ok a b is = cc

-- no fault was given
pub unless_ok : {A E : Type 0} (b : Bool) (fault : E) (r : Result A E) (a : A) → (if b then Err fault else r) ≡ Ok a → (b ≡ false) × (r ≡ Ok a)
unless_ok true fault r a is = absurd cc
unless_ok false fault r a is = (refl, is)

pub where_ok : {A E : Type 0} (b : Bool) (fault : E) (r : Result A E) (a : A) → (if b then r else Err fault) ≡ Ok a → (b ≡ true) × (r ≡ Ok a)
where_ok true fault r a is = (refl, is)
where_ok false fault r a is = absurd cc
