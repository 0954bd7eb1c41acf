-- Texts of workloads that are worked out by hand, and what they are.
use Rattle.std.specs.Prelude.{ℕ, pos, negsuc, List, [], ◌∷◌, ◌++◌, map, take, replicate, flat_map, Result, Ok, Err, codes, decimal}
use Rattle.std.specs.List.{range_with_len}
use Rattle.ras_cells.specs.declared.atom.Atom.TheVariants.{Char}
use Rattle.ras_cells.specs.declared.cell.CellType.TheVariants as cells
use Rattle.ras_domain.specs.declared.region.Interval.{Interval}
use Rattle.ras_syntax.specs.declared.types.SetType.{SetType}
use Rattle.spec_grammar.specs.Tokens.{Text}
use Rattle.spec_workloads.specs.Answers.{workload_refusal}
use Rattle.spec_workloads.specs.CheckText.{check_text}
use Rattle.spec_workloads.specs.Setup.{WorkloadFaultValue, WorkloadValue, workload_of}
use Rattle.spec_workloads.specs.Outline.{Outline, OutlineFault, bad_heading, no_end, no_outline, outline_of, title}

-- ---- the base workload

abbrev pub base_types_text : Text
base_types_text =
    codes "#types\n"
    ++ codes "type GreySet = char [*:*,*:*] tiles [0:1,0:1];\n"
    ++ codes "type NilSet = char [*:*] tiles [0:1] null [0:0];\n"
    ++ codes "type RgbSet = {red: char, green: char, blue: char} [*:*];\n"

abbrev pub base_setup_text : Text
base_setup_text =
    codes "#setup\n"
    ++ codes "create collection G GreySet;\n"
    ++ codes "insert into G values marray p in [0:3,0:3] values 4*p[0]+p[1];\n"
    ++ codes "create collection N NilSet;\n"
    ++ codes "insert into N values marray p in [0:3] values 0;\n"
    ++ codes "create collection R RgbSet;\n"
    ++ codes "insert into R values marray p in [0:1] values {p[0], 10, 20};\n"

-- with these sessions
abbrev pub base_with : Text → Text
base_with sessions = title ++ codes "\n" ++ base_types_text ++ base_setup_text ++ sessions ++ codes "#end\n"

abbrev pub base_text : Text
base_text = base_with (codes "#session A\nselect a[1:2,0] from G as a;\n")

abbrev pub whole_axis : Interval
whole_axis = record { lo = negsuc 2147483647; hi = pos 2147483647 }

abbrev pub declared_grey : SetType
declared_grey = record {
  name = codes "GreySet";
  cell = cells.Atom Char;
  names = [];
  bounds = record { items = whole_axis ∷ whole_axis ∷ [] };
  extents = record { items = 2 ∷ 2 ∷ [] };
  nulls = record { items = [] };
}

abbrev pub declared_nil : SetType
declared_nil = record {
  name = codes "NilSet";
  cell = cells.Atom Char;
  names = [];
  bounds = record { items = whole_axis ∷ [] };
  extents = record { items = 2 ∷ [] };
  nulls = record { items = (pos 0, pos 0) ∷ [] };
}

-- 4096 coordinates a tile, since its line tells no tiles
abbrev pub declared_rgb : SetType
declared_rgb = record {
  name = codes "RgbSet";
  cell = cells.Composite (record { items = Char ∷ Char ∷ Char ∷ [] });
  names = codes "red" ∷ codes "green" ∷ codes "blue" ∷ [];
  bounds = record { items = whole_axis ∷ [] };
  extents = record { items = 4096 ∷ [] };
  nulls = record { items = [] };
}

abbrev pub base_outline : Outline
base_outline = record {
  types = declared_grey ∷ declared_nil ∷ declared_rgb ∷ [];
  setup =
      codes "create collection G GreySet"
      ∷ codes "insert into G values marray p in [0:3,0:3] values 4*p[0]+p[1]"
      ∷ codes "create collection N NilSet"
      ∷ codes "insert into N values marray p in [0:3] values 0"
      ∷ codes "create collection R RgbSet"
      ∷ codes "insert into R values marray p in [0:1] values {p[0], 10, 20}"
      ∷ [];
  scripts = record { name = codes "A"; statements = codes "select a[1:2,0] from G as a" ∷ [] } ∷ [];
}

-- ---- texts around one part

-- a title, and these bytes from line 2 on
abbrev pub titled_text : Text → Text
titled_text rest = title ++ codes "\n" ++ rest

-- a section of types with this text from line 3 on
abbrev pub types_text : Text → Text
types_text lines = titled_text (codes "#types\n" ++ lines ++ codes "\n#end\n")

-- a type with these cells and bounds and what follows them, from line 3 on
abbrev pub type_text : Text → Text
type_text rest = types_text (codes "type A = " ++ rest ++ codes ";")

-- so many sessions without statements, each with its line
abbrev pub sessions_text : ℕ → Text
sessions_text n = flat_map (λ k. codes "#session s" ++ decimal k ++ codes "\n") (range_with_len 1 n)

-- a setup of so many empty statements, on line 3
abbrev pub empty_statements : ℕ → Text
empty_statements n = titled_text (codes "#setup\n" ++ replicate n 59 ++ codes "\n#end\n")

-- ---- a small workload, cut

abbrev pub small_text : Text
small_text = titled_text (codes "#setup\n;\n#end\n")

-- the outlines of the text's fronts of each length below a number
abbrev pub outlines_of_fronts : Text → ℕ → List (Result (Outline × ℕ) OutlineFault)
outlines_of_fronts text n = map (λ k. outline_of (take k text)) (range_with_len 0 n)

-- The title is whole with 16 bytes, the setup's heading with 23, and the last one with 30. In between each heading that has begun
-- is none
abbrev pub small_outlines : List (Result (Outline × ℕ) OutlineFault)
small_outlines =
    replicate 16 (Err (bad_heading 1)) ++ replicate 2 (Err no_end) ++ replicate 5 (Err (bad_heading 2)) ++ replicate 4 (Err no_end)
    ++ replicate 3 (Err (bad_heading 4)) ++ Ok (record no_outline { setup = [] ∷ [] }, 30) ∷ Ok (record no_outline { setup = [] ∷ [] }, 31) ∷ []

-- ---- workloads

-- the base text's types, a setup of these statements, and these sessions
abbrev pub setup_with : Text → Text → Text
setup_with statements sessions = titled_text (base_types_text ++ codes "#setup\n" ++ statements ++ sessions ++ codes "#end\n")

-- two collections are made, and one of them is dropped
abbrev pub small_setup : Text
small_setup = codes "create collection G GreySet;\ncreate collection N NilSet;\ndrop collection G;\n"

abbrev pub small_workload : WorkloadValue
small_workload = record {
  types = base_outline.types;
  base = (codes "N", record { set_type = 1; next = 1; arrays = [] }) ∷ [];
  scripts = [];
}

-- the text that checks a workload's statements, or refuses it
abbrev pub check_or_refuse : Result (WorkloadValue × ℕ) WorkloadFaultValue → Text
check_or_refuse (Ok found) = check_text found.0
check_or_refuse (Err fault) = workload_refusal fault

abbrev pub checks_of : Text → Text
checks_of text = check_or_refuse (workload_of text)
