-- Ranges of atoms.
use Rattle.std.proofs.Common.{◌≡◌, ◌^◌, ◌-◌, suc, Bool, ℤ, pos, negsuc, ◌≤ℤ◌, List, [], ◌∷◌, length, refl, ap, arith, ◌&&◌, true, false, IsTrue, ◌↔◌}
use Rattle.std.specs.Prelude.{int_le}
use Rattle.std.specs.List.{list_all, zip}
use Rattle.std.proofs.lemmas.Int.{ints}
use Rattle.ras_cells.specs.declared.atom.Atom.{Atom}
use Rattle.ras_cells.specs.declared.atom.Atom.TheVariants as atoms
use Rattle.ras_cells.specs.Atoms.{range_of, IsInRange, is_in_range, AreInRange, are_in_range}

pub list_all-zip : (atoms : List Atom) (zs : List ℤ) → length atoms ≡ length zs → list_all (λ p. is_in_range p.0 p.1) (zip atoms zs) ≡ are_in_range atoms zs
list_all-zip [] [] same = refl
list_all-zip [] (z ∷ zs) same = absurd (omega arith)
list_all-zip (atom ∷ atoms) [] same = absurd (omega arith)
list_all-zip (atom ∷ atoms) (z ∷ zs) same =
    let rest : length atoms ≡ length zs = omega arith in
    ap (λ r. is_in_range atom z && r) (list_all-zip atoms zs rest)

-- z lies between two bounds, as the test says
between : (least greatest z : ℤ) → IsTrue (int_le least z && int_le z greatest) ↔ ((least ≤ℤ z) × (z ≤ℤ greatest))
between least greatest z = (λ h. (grind (arith, ints), grind (arith, ints)), λ h. grind (arith, ints))

pub IsInRange-is_in_range : (atom : Atom) (z : ℤ) → IsTrue (is_in_range atom z) ↔ IsInRange atom z
IsInRange-is_in_range atom z = between (range_of atom).0 (range_of atom).1 z

both : {P Q : Type 0} (a b : Bool) → IsTrue a ↔ P → IsTrue b ↔ Q → IsTrue (a && b) ↔ (P × Q)
both true b p q = (λ h. (p.0 refl, q.0 h), λ h. q.1 h.1)
both false b p q = (λ h. absurd cc, λ h. p.1 h.0)

pub AreInRange-are_in_range : (atoms : List Atom) (zs : List ℤ) → IsTrue (are_in_range atoms zs) ↔ AreInRange atoms zs
AreInRange-are_in_range [] [] = (λ _. tt, λ _. refl)
AreInRange-are_in_range [] (z ∷ zs) = (λ h. absurd cc, λ h. absurd h)
AreInRange-are_in_range (atom ∷ atoms) [] = (λ h. absurd cc, λ h. absurd h)
AreInRange-are_in_range (atom ∷ atoms) (z ∷ zs) =
    both (is_in_range atom z) (are_in_range atoms zs) (IsInRange-is_in_range atom z) (AreInRange-are_in_range atoms zs)

-- each range lies in that of 64 bits
within : (least greatest z : ℤ) → negsuc (2 ^ 63 - 1) ≤ℤ least → greatest ≤ℤ pos (2 ^ 63 - 1) → (least ≤ℤ z) × (z ≤ℤ greatest) → IsInRange atoms.Wide z
within least greatest z low high h = (omega (arith, ints, h.0), omega (arith, ints, h.1))

pub IsInRange-Wide : (atom : Atom) (z : ℤ) → IsInRange atom z → IsInRange atoms.Wide z
IsInRange-Wide atoms.Bool z h = within (pos 0) (pos 1) z (omega (arith, ints)) (omega (arith, ints)) h
IsInRange-Wide atoms.Octet z h = within (negsuc 127) (pos 127) z (omega (arith, ints)) (omega (arith, ints)) h
IsInRange-Wide atoms.Char z h = within (pos 0) (pos 255) z (omega (arith, ints)) (omega (arith, ints)) h
IsInRange-Wide atoms.Short z h = within (negsuc 32767) (pos 32767) z (omega (arith, ints)) (omega (arith, ints)) h
IsInRange-Wide atoms.Ushort z h = within (pos 0) (pos 65535) z (omega (arith, ints)) (omega (arith, ints)) h
IsInRange-Wide atoms.Long z h = within (negsuc 2147483647) (pos 2147483647) z (omega (arith, ints)) (omega (arith, ints)) h
IsInRange-Wide atoms.Ulong z h = within (pos 0) (pos 4294967295) z (omega (arith, ints)) (omega (arith, ints)) h
IsInRange-Wide atoms.Wide z h = h

pub length-AreInRange : (atoms : List Atom) (zs : List ℤ) → AreInRange atoms zs → length zs ≡ length atoms
length-AreInRange [] [] h = refl
length-AreInRange [] (z ∷ zs) h = absurd h
length-AreInRange (atom ∷ atoms) [] h = absurd h
length-AreInRange (atom ∷ atoms) (z ∷ zs) h = ap suc (length-AreInRange atoms zs h.1)
