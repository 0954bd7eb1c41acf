-- The text of a generated workload: a setup that makes one array of 16 by 16 cells, and 8 sessions that each
-- change boxes of 2 by 2 of its cells and add them up.
use Rattle.std.specs.Prelude.{ℕ, List, [], ◌∷◌, ◌+◌, ◌-◌, ◌*◌, ◌++◌, codes, decimal, flat_map}
use Rattle.std.specs.List.{concat, range_with_len}
use Rattle.ras_gen.specs.Draws.{draw}

-- the types, and the setup: an array G over [0:15,0:15]
unfoldable pub opening : List ℕ
opening =
    codes "#rasq workload 1\n"
    ++ codes "#types\n"
    ++ codes "type GreySet = char [*:*,*:*] tiles [0:3,0:3];\n"
    ++ codes "#setup\n"
    ++ codes "create collection G GreySet;\n"
    ++ codes "insert into G values marray p in [0:15,0:15] values mod(16*p[0]+p[1],256);\n"

-- two rows and two columns, from these on, as a region is written
unfoldable pub box_text : ℕ → ℕ → List ℕ
box_text row column =
    concat (codes "[" ∷ decimal row ∷ codes ":" ∷ decimal (row + 1) ∷ codes "," ∷ decimal column ∷ codes ":" ∷ decimal (column + 1) ∷ codes "]" ∷ [])

-- a transaction that sets the box of that row and column to a value, and adds its cells up
abbrev pub transaction_text : ℕ → ℕ → ℕ → List ℕ
transaction_text row column value = concat (
    codes "begin retry 8;\n"
    ∷ codes "update G as a set a" ∷ box_text row column ∷ codes " assign marray p in " ∷ box_text row column ∷ codes " values " ∷ decimal value ∷ codes ";\n"
    ∷ codes "select add_cells(a" ∷ box_text row column ∷ codes ") from G as a;\n"
    ∷ codes "commit;\n" ∷ [])

-- the transaction of that place among all of the text, counted from 0. Each takes three draws: its row and
-- its column, below 15 so that the box lies in the array, and then its value, below 256 so that it is a char
abbrev pub transaction_of : ℕ → ℕ → List ℕ
transaction_of seed place =
    transaction_text (draw seed (3 * place + 1) 15) (draw seed (3 * place + 2) 15) (draw seed (3 * place + 3) 256)

-- a session, counted from 1, has as many transactions as the size says
abbrev pub session_of : ℕ → ℕ → ℕ → List ℕ
session_of seed size number =
    codes "#session s" ++ decimal number ++ codes "\n"
    ++ flat_map (transaction_of seed) (range_with_len (size * (number - 1)) size)

-- the whole text
abbrev pub generated_text : ℕ → ℕ → List ℕ
generated_text seed size = opening ++ flat_map (session_of seed size) (range_with_len 1 8) ++ codes "#end\n"
