use Rattle.ras_tile.proofs.Cells.{lent_unsigned, lent_signed}
use Rattle.ras_tile.proofs.plane.Plane.lent.Goals as goal

pub returns-in-U8-clause-numbers : goal.returns-in-U8-clause-numbers
returns-in-U8-clause-numbers c =
    rw c.in-U8.is (λ numbers long same. lent_unsigned numbers c.in-U8.bytes.items c.as_slice.result.now c.as_slice.ensures.value long same)

pub returns-in-I8-clause-numbers : goal.returns-in-I8-clause-numbers
returns-in-I8-clause-numbers c =
    rw c.in-I8.is (λ numbers long same. lent_signed numbers c.in-I8.bytes.items c.as_slice-in-I8.result.now c.as_slice-in-I8.ensures.value long same)

pub returns-in-U16-clause-numbers : goal.returns-in-U16-clause-numbers
returns-in-U16-clause-numbers c =
    rw c.in-U16.is (λ numbers long same. lent_unsigned numbers c.in-U16.shorts.items c.as_slice-in-U16.result.now c.as_slice-in-U16.ensures.value long same)

pub returns-in-I16-clause-numbers : goal.returns-in-I16-clause-numbers
returns-in-I16-clause-numbers c =
    rw c.in-I16.is (λ numbers long same. lent_signed numbers c.in-I16.shorts.items c.as_slice-in-I16.result.now c.as_slice-in-I16.ensures.value long same)

pub returns-in-U32-clause-numbers : goal.returns-in-U32-clause-numbers
returns-in-U32-clause-numbers c =
    rw c.in-U32.is (λ numbers long same. lent_unsigned numbers c.in-U32.longs.items c.as_slice-in-U32.result.now c.as_slice-in-U32.ensures.value long same)

pub returns-in-I32-clause-numbers : goal.returns-in-I32-clause-numbers
returns-in-I32-clause-numbers c =
    rw c.in-I32.is (λ numbers long same. lent_signed numbers c.in-I32.longs.items c.as_slice-in-I32.result.now c.as_slice-in-I32.ensures.value long same)

pub returns-in-Plain-clause-numbers : goal.returns-in-Plain-clause-numbers
returns-in-Plain-clause-numbers c =
    rw c.in-Plain.is (λ numbers long same. lent_signed numbers c.in-Plain.numbers.items c.as_slice-in-Plain.result.now c.as_slice-in-Plain.ensures.value long same)
