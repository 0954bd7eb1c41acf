-- What the arrays of a row, and the points of variables, give.
use Rattle.std.proofs.Common.{◌≡◌, ℕ, zero, suc, ◌≤◌, ℤ, pos, Bool, true, false, List, [], ◌∷◌, map, All, refl, subst, arith}
use Rattle.std.specs.Prelude.{Option, Some, None, Ok, slice_get, unsigned_abs, if◌then◌else◌}
use Rattle.std.specs.Option.{IfSome}
use Rattle.std.specs.Map.{lookup}
use Rattle.std.specs.Ordering.{int_cmp, is_eq}
use Rattle.std.specs.Cmp.Lexicographic.{slice_cmp}
use Rattle.std.proofs.lemmas.Int.{ints}
use Rattle.std.proofs.lemmas.List.Elements.{All-nil, All-cons}
use Rattle.std.proofs.lemmas.Map.Entries.{All-lookup}
use Rattle.ras_cells.specs.declared.atom.Atom.TheVariants as atoms
use Rattle.ras_cells.specs.declared.cell.Cell.{Cell}
use Rattle.ras_cells.specs.declared.cell.Cell.TheVariants.{Null}
use Rattle.ras_cells.specs.Atoms.{IsInRange, AreInRange}
use Rattle.ras_cells.specs.Cells.{single}
use Rattle.ras_cells.specs.Laws.{IsCellOf, IsOfAtom}
use Rattle.ras_cells.specs.Stored.{atoms_of}
use Rattle.ras_cells.proofs.Ranges.{IsInRange-Wide}
use Rattle.ras_syntax.specs.declared.typed.CheckedSource.{CheckedSource}
use Rattle.spec_expressions.specs.Tree.{NameOf, is_same_name}
use Rattle.spec_expressions.specs.Database.{Member, stored_at}
use Rattle.spec_expressions.specs.Kinds.{wide_type}
use Rattle.spec_expressions.specs.Eval.{coordinate_of, member_cell, member_named, oid_of}
use Rattle.spec_expressions.specs.Fits.{AreDomainsOf, AreMembersOf, IsMemberOf, LieWithin, IsSound}
use Rattle.spec_expressions.specs.Reach.{Boxes}
use Rattle.law_shapes.proofs.Outcomes.{same_ok}
use Rattle.law_lists.proofs.Each.{slice_get-All}
use Rattle.law_shapes.proofs.FittingForms.{sound-domains}
use Rattle.law_cells.proofs.Types.{some_same}
use Rattle.law_cells.proofs.Components.{optional-typed, stored_cell-typed}
use Rattle.ras_syntax.specs.declared.limits.TheConstants.{MAX_IDENTIFIER}

-- ---- rows

if_some : {X : Type 0} (P : X → Type 0) (o : Option X) (x : X) → IfSome o P → o ≡ Some x → P x
if_some P None x h is = absurd cc
if_some P (Some y) x h is = subst P (some_same y x is) h

-- the domains of a row's arrays are domains of its sources
pub domains-members : (sources : List CheckedSource) (row : List Member) → AreMembersOf sources row → AreDomainsOf sources (map (λ member. member.array.domain) row)
domains-members [] [] members = tt
domains-members [] (member ∷ row) members = absurd members
domains-members (source ∷ sources) [] members = absurd members
domains-members (source ∷ sources) (member ∷ row) members =
    (members.0.region, members.0.axes, members.0.few_numbers, domains-members sources row members.1)

-- so they are sound
pub sound-members : (sources : List CheckedSource) (row : List Member) → AreMembersOf sources row → All IsSound (map (λ member. member.array.domain) row)
sound-members sources row members = sound-domains sources (map (λ member. member.array.domain) row) (domains-members sources row members)

stored-typed : (source : CheckedSource) (member : Member) (p : List ℤ) (c : Cell) → IsMemberOf source member → member_cell (Some member) p ≡ Ok c → IsCellOf (atoms_of source.of.cell) c
stored-typed source member p c fits is =
    stored_cell-typed source.of.cell member.of.nulls (stored_at member.array p) c
    (λ zs found. if_some (AreInRange (atoms_of source.of.cell)) (stored_at member.array p) zs
    (All-lookup (AreInRange (atoms_of source.of.cell)) (λ q. is_eq (slice_cmp int_cmp p q)) member.array.stored fits.in_range) found)
    is

-- the cells of an iterator's array
pub iterator-typed : (sources : List CheckedSource) (row : List Member) (place : ℕ) (source : CheckedSource) (p : List ℤ) (c : Cell) → AreMembersOf sources row
    → slice_get sources place ≡ Some source → member_cell (slice_get row place) p ≡ Ok c → IsCellOf (atoms_of source.of.cell) c
iterator-typed [] row place source p c members at is = absurd cc
iterator-typed (other ∷ sources) [] place source p c members at is = absurd members
iterator-typed (other ∷ sources) (member ∷ row) zero source p c members at is =
    let same : other ≡ source = some_same other source at in
    stored-typed source member p c (subst (λ s. IsMemberOf s member) same members.0) is
iterator-typed (other ∷ sources) (member ∷ row) (suc place) source p c members at is =
    iterator-typed sources row place source p c members.1 at is

oid-in_range : (n : ℕ) → n ≤ MAX_IDENTIFIER → IsOfAtom atoms.Wide (single (pos n))
oid-in_range n small = ((omega (arith, ints), omega (arith, ints)), tt)

-- what follows from either branch follows
pub either_branch : {X P : Type 0} (b : Bool) (x y z : X) → (if b then x else y) ≡ z → (x ≡ z → P) → (y ≡ z → P) → P
either_branch true x y z is one two = one is
either_branch false x y z is one two = two is

named-small : (sources : List CheckedSource) (row : List Member) (a : NameOf) (member : Member) → AreMembersOf sources row → member_named row a ≡ Some member → member.oid ≤ MAX_IDENTIFIER
named-small [] [] a member members is = absurd cc
named-small [] (other ∷ row) a member members is = absurd members
named-small (source ∷ sources) [] a member members is = absurd members
named-small (source ∷ sources) (other ∷ row) a member members is =
    either_branch (is_same_name a other.iterator) (Some other) (member_named row a) (Some member) is
    (λ found. subst (λ m. m.oid ≤ MAX_IDENTIFIER) (some_same other member found) members.0.small_oid)
    (λ found. named-small sources row a member members.1 found)

-- the identifier of an iterator's array
pub oid-typed : (sources : List CheckedSource) (row : List Member) (a : NameOf) (c : Cell) → AreMembersOf sources row → oid_of (member_named row a) ≡ Ok c → IsOfAtom atoms.Wide c
oid-typed sources row a c members is = of_option (member_named row a) (λ member found. named-small sources row a member members found) is where
  of_option : (o : Option Member) → ((member : Member) → o ≡ Some member → member.oid ≤ MAX_IDENTIFIER) → oid_of o ≡ Ok c → IsOfAtom atoms.Wide c
  of_option None each given = subst (IsOfAtom atoms.Wide) (same_ok Null c given) tt
  of_option (Some member) each given =
      subst (IsOfAtom atoms.Wide) (same_ok (single (pos member.oid)) c given) (oid-in_range member.oid (each member refl))

-- ---- variables

-- the coordinates of each variable have 32 bits
abbrev pub AreSmall : List (NameOf × List ℤ) → Type 0
AreSmall = All (λ x. All (IsInRange atoms.Long) x.1)

-- with one more variable
pub small-more : (x : NameOf) (p : List ℤ) (points : List (NameOf × List ℤ)) → All (IsInRange atoms.Long) p → AreSmall points → AreSmall ((x, p) ∷ points)
small-more x p points near small = All-cons (λ y. All (IsInRange atoms.Long) y.1) (x, p) points near small

pub small-within : (boxes : Boxes) (points : List (NameOf × List ℤ)) → LieWithin boxes points → AreSmall points
small-within [] [] within = All-nil (λ y. All (IsInRange atoms.Long) y.1)
small-within [] (y ∷ points) within = absurd within
small-within (x ∷ boxes) [] within = absurd within
small-within (x ∷ boxes) (y ∷ points) within = small-more y.0 y.1 points within.2 (small-within boxes points within.3)

small-found : (x : NameOf) (points : List (NameOf × List ℤ)) (p : List ℤ) → AreSmall points → lookup (is_same_name x) points ≡ Some p → All (IsInRange atoms.Long) p
small-found x points p small is =
    if_some (All (IsInRange atoms.Long)) (lookup (is_same_name x) points) p (All-lookup (All (IsInRange atoms.Long)) (is_same_name x) points small) is

-- a coordinate of a variable
pub coordinate-typed : (x : NameOf) (k : ℤ) (points : List (NameOf × List ℤ)) (c : Cell) → AreSmall points → coordinate_of (lookup (is_same_name x) points) k ≡ Ok c → IsOfAtom atoms.Wide c
coordinate-typed x k points c small is = of_option (lookup (is_same_name x) points) (λ p found. small-found x points p small found) is where
  of_option : (o : Option (List ℤ)) → ((p : List ℤ) → o ≡ Some p → All (IsInRange atoms.Long) p) → coordinate_of o k ≡ Ok c → IsOfAtom atoms.Wide c
  of_option None each given = subst (IsOfAtom atoms.Wide) (same_ok Null c given) tt
  of_option (Some p) each given =
      optional-typed wide_type (slice_get p (unsigned_abs k)) c
      (λ z there. (IsInRange-Wide atoms.Long z (slice_get-All (IsInRange atoms.Long) p (unsigned_abs k) z (each p refl) there), tt)) given
