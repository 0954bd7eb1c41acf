-- What holds of a value, and of one of two.
use Rattle.std.proofs.Common.{◌≡◌, Bool, true, false, if◌then◌else◌, Result, Ok, refl, subst}

-- what holds of a value holds of an equal one
pub ok_keeps : {A E : Type 0} (P : A → Type 0) (a b : A) → (let r : Result A E = Ok a in r ≡ Ok b) → P a → P b
ok_keeps P a b is p = let e : a ≡ b = cc in subst P e p

-- one of two where each has it
pub either_way : {A : Type 0} (P : A → Type 0) (t : Bool) (a b : A) → (t ≡ true → P a) → (t ≡ false → P b) → P (if t then a else b)
either_way P true a b first second = first refl
either_way P false a b first second = second refl
