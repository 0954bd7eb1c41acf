use Rattle.std.proofs.Common.{◌≡◌, ℕ, zero, suc, ◌+◌, ◌<◌, ℤ, List, [], ◌∷◌, length, get_or, take, to_z, of_z, w64, subst, IsTrue, arith, rules}
use Rattle.std.proofs.lemmas.Int.{ints}
use Rattle.ras_cells.specs.Atoms.{AreInRange, IsInRange}
use Rattle.ras_cells.specs.declared.atom.Atom.{Atom}
use Rattle.ras_cells.specs.declared.atom.Atom.TheVariants.{Bool}
use Rattle.ras_tile.specs.Planes.{listed_number}
use Rattle.ras_tile.proofs.tests.fit.Goals as goal

-- one more number in the range of its atom
more : (atoms : List Atom) (numbers : List ℤ) (i : ℕ) (d : Atom) → i < length atoms → i < length numbers
    → AreInRange (take i atoms) (take i numbers) → IsInRange (get_or atoms i d) (listed_number numbers i) → AreInRange (take (suc i) atoms) (take (suc i) numbers)
more [] numbers i d in_atoms in_numbers before here = absurd (omega arith)
more (atom ∷ atoms) [] i d in_atoms in_numbers before here = absurd (omega arith)
more (atom ∷ atoms) (z ∷ numbers) zero d in_atoms in_numbers before here = (here, tt)
more (atom ∷ atoms) (z ∷ numbers) (suc i) d in_atoms in_numbers before here =
    (before.0, more atoms numbers i d (omega arith) (omega arith) before.1 here)

pub loop-i-preserved : goal.loop-i-preserved
loop-i-preserved c =
    let read : to_z w64 (of_z w64 (listed_number c.args.numbers.now c.loop-i.i)) ≡ listed_number c.args.numbers.now c.loop-i.i = omega (arith, ints) in
    let yes : IsTrue c.contains.result = search rules in
    let here : IsInRange (get_or c.args.atoms.now c.loop-i.i Bool) (listed_number c.args.numbers.now c.loop-i.i) =
    subst (IsInRange (get_or c.args.atoms.now c.loop-i.i Bool)) read (c.contains.ensures.range.0 yes) in
    let next : suc c.loop-i.i ≡ c.loop-i.i + 1 = omega arith in
    subst (λ (n : ℕ). AreInRange (take n c.args.atoms.now) (take n c.args.numbers.now)) next
    (more c.args.atoms.now c.args.numbers.now c.loop-i.i Bool (omega arith) (omega arith) c.loop-i.invariant here)
