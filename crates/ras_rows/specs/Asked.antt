-- What the two sides of an equation ask for.
use Rattle.std.specs.Prelude.{ℕ, pos, Bool, false, not, ◌&&◌}
use Rattle.std.specs.Ordering.{int_eq}
use Rattle.spec_expressions.specs.Tree.{NameOf, Tree, Form, is_same_name, node, number, oid}

-- it is the identifier of the array of this iterator
abbrev pub is_oid_form : NameOf → Form → Bool
is_oid_form iterator (oid a) = is_same_name a iterator
is_oid_form iterator other = false

abbrev pub is_oid_of : NameOf → Tree → Bool
is_oid_of iterator (node span kind form) = is_oid_form iterator form

-- it is a number other than this one
abbrev pub is_other_form : ℕ → Form → Bool
is_other_form id (number n atom) = not (int_eq n (pos id))
is_other_form id other = false

abbrev pub is_other_number : ℕ → Tree → Bool
is_other_number id (node span kind form) = is_other_form id form

-- the equation doesn't ask for another identifier of the iterator's array
abbrev pub is_allowed_by_equation : NameOf → ℕ → Tree → Tree → Bool
is_allowed_by_equation iterator id a b =
    not (is_oid_of iterator a && is_other_number id b) && not (is_oid_of iterator b && is_other_number id a)
