use Rattle.std.proofs.Common.{pos}
use Rattle.ras_tile.proofs.Cells.{constant_kept, constant_wide}
use Rattle.ras_tile.proofs.plane.Plane.is_constant.Goals as goal

pub returns-in-U8 : goal.returns-in-U8
returns-in-U8 c =
    rw c.in-U8.is
    (λ n long. constant_kept pos c.in-U8.bytes.items c.as_slice.result.now n c.are_equal.result c.as_slice.ensures.value c.are_equal.ensures long)

pub returns-in-I8 : goal.returns-in-I8
returns-in-I8 c =
    rw c.in-I8.is
    (λ n long. constant_wide c.in-I8.bytes.items c.as_slice-in-I8.result.now n c.are_equal-in-I8.result c.as_slice-in-I8.ensures.value c.are_equal-in-I8.ensures long)

pub returns-in-U16 : goal.returns-in-U16
returns-in-U16 c =
    rw c.in-U16.is
    (λ n long. constant_kept pos c.in-U16.shorts.items c.as_slice-in-U16.result.now n c.are_equal-in-U16.result c.as_slice-in-U16.ensures.value c.are_equal-in-U16.ensures long)

pub returns-in-I16 : goal.returns-in-I16
returns-in-I16 c =
    rw c.in-I16.is
    (λ n long. constant_wide c.in-I16.shorts.items c.as_slice-in-I16.result.now n c.are_equal-in-I16.result c.as_slice-in-I16.ensures.value c.are_equal-in-I16.ensures long)

pub returns-in-U32 : goal.returns-in-U32
returns-in-U32 c =
    rw c.in-U32.is
    (λ n long. constant_kept pos c.in-U32.longs.items c.as_slice-in-U32.result.now n c.are_equal-in-U32.result c.as_slice-in-U32.ensures.value c.are_equal-in-U32.ensures long)

pub returns-in-I32 : goal.returns-in-I32
returns-in-I32 c =
    rw c.in-I32.is
    (λ n long. constant_wide c.in-I32.longs.items c.as_slice-in-I32.result.now n c.are_equal-in-I32.result c.as_slice-in-I32.ensures.value c.are_equal-in-I32.ensures long)

pub returns-in-Plain : goal.returns-in-Plain
returns-in-Plain c =
    rw c.in-Plain.is
    (λ n long. constant_wide c.in-Plain.numbers.items c.as_slice-in-Plain.result.now n c.are_equal-in-Plain.result c.as_slice-in-Plain.ensures.value c.are_equal-in-Plain.ensures long)
