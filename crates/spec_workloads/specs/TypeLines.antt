-- Type lines: the grammar of one, as readers of its tokens, and which types may be declared after others.
use Rattle.std.specs.Prelude.{ℕ, zero, suc, ◌-◌, ◌*◌, ◌==◌, nat_le, nat_lt, int_le, int_lt, ℤ, pos, negsuc, neg_ℤ, Bool as Truth, true, false, not, ◌&&◌, if◌then◌else◌, List, [], ◌∷◌, length, map, Option, Some, None, Ok, Err, codes}
use Rattle.std.specs.List.{fold, list_all, list_any}
use Rattle.ras_cells.specs.declared.TheConstants.{MAX_COMPONENTS, MAX_NULLS}
use Rattle.ras_cells.specs.declared.atom.Atom.{Atom}
use Rattle.ras_cells.specs.declared.atom.Atom.TheVariants.{Wide}
use Rattle.ras_cells.specs.declared.cell.CellType.{CellType}
use Rattle.ras_cells.specs.declared.cell.CellType.TheVariants as types
use Rattle.ras_cells.specs.Atoms.{is_in_range}
use Rattle.ras_cells.specs.Stored.{atoms_of}
use Rattle.ras_domain.specs.declared.TheConstants.{MAX_AXES, MAX_TILE_CELLS}
use Rattle.ras_domain.specs.declared.region.Interval.{Interval}
use Rattle.ras_syntax.specs.declared.faults.SyntaxFault.{SyntaxFault}
use Rattle.ras_syntax.specs.declared.limits.TheConstants.{MAX_TYPES}
use Rattle.ras_syntax.specs.declared.types.SetType.{SetType}
use Rattle.spec_grammar.specs.Grammar.{s}
use Rattle.spec_grammar.specs.Tokens.{Lexed, Text, Token, is_one_of, is_same, lexed}
use Rattle.law_grammar.specs.Readers.{ReadOutcome, Reader, accept, accept_or, bind, exactly, expect, give, mapped}
use Rattle.law_grammar.specs.Reading.{any_count, atom_read, between_read, closed_read, comma_list, name_of, number_of}

-- ---- words and numbers

-- the words that are reserved in type lines alone; they are written in small letters
abbrev pub type_words : List Text
type_words = codes "type" ∷ codes "tiles" ∷ codes "null" ∷ []

abbrev pub if_text : Truth → Text → Option Text
if_text true text = Some text
if_text false text = None

-- this word of a type line
abbrev pub type_word : Text → Token → Option Text
type_word text t = elim (name_of t) [ None ↦ None | Some other ↦ if_text (is_same text other) other ]

-- a name that is none of them
abbrev pub free_name : Token → Option Text
free_name t = elim (name_of t) [ None ↦ None | Some text ↦ if_text (not (is_one_of type_words text)) text ]

abbrev pub after_word : {A : Type 0} → Text → Reader A → Reader A
after_word text item = accept (type_word text) (λ t. item)

abbrev pub optional_after_word : {A : Type 0} → Text → Reader A → Reader (Option A)
optional_after_word text item = accept_or (type_word text) (λ t. mapped (λ x. Some x) item) (give None)

-- |[ "-" ]| number
abbrev pub signed_number : Reader ℤ
signed_number = accept_or (exactly (s "-")) (λ m. accept number_of (λ n. give (neg_ℤ n.0))) (accept number_of (λ n. give n.0))

abbrev pub size_of : ℤ → Option ℕ
size_of (pos n) = Some n
size_of (negsuc n) = None

abbrev pub natural : Token → Option ℕ
natural t = elim (number_of t) [ None ↦ None | Some n ↦ size_of n.0 ]

-- 0 without a suffix, in one digit
abbrev pub is_zero_digit : ℤ → Atom → ℕ → Truth
is_zero_digit (pos zero) Wide size = size == 1
is_zero_digit value atom size = false

abbrev pub zero_digit : Token → Option Token
zero_digit t = elim (number_of t) [ None ↦ None | Some n ↦ elim (is_zero_digit n.0 n.1 (t.to - t.from)) [ true ↦ Some t | false ↦ None ] ]

-- "[" item {{ "," item }} "]"
abbrev pub bracketed : {A : Type 0} → Reader A → Reader (List A)
bracketed item = between_read (s "[") (s "]") (comma_list any_count item)

-- ---- the parts of a type line

pub record TypedCells : Type 0 where
  pub cell : CellType
  pub names : List Text

-- cells := atom | "{" name ":" atom {{ "," name ":" atom }} "}"
abbrev pub component : Reader (Text × Atom)
component = accept free_name (λ name. expect (s ":") (mapped (λ atom. (name, atom)) atom_read))

abbrev pub cells_of_components : List (Text × Atom) → TypedCells
cells_of_components components = record { cell = types.Composite (record { items = map (λ c. c.1) components }); names = map (λ c. c.0) components }

abbrev pub cells_read : Reader TypedCells
cells_read = accept_or (exactly (s "{")) (λ o. mapped cells_of_components (closed_read (s "}") (comma_list any_count component)))
    (mapped (λ atom. record { cell = types.Atom atom; names = [] }) atom_read)

-- bound := "*" | |[ "-" ]| number
abbrev pub bound_read : Reader (Option ℤ)
bound_read = accept_or (exactly (s "*")) (λ t. give None) (mapped (λ z. Some z) signed_number)

-- a bound that isn't told is the least or the greatest of 32 bits
abbrev pub or_bound : ℤ → Option ℤ → ℤ
or_bound limit None = limit
or_bound limit (Some z) = z

abbrev pub told_interval : Option ℤ → Option ℤ → Interval
told_interval lo hi = record { lo = or_bound (negsuc 2147483647) lo; hi = or_bound (pos 2147483647) hi }

-- bounds := "[" bound ":" bound {{ "," bound ":" bound }} "]"
abbrev pub intervals_read : Reader (List Interval)
intervals_read = bracketed (bind bound_read (λ lo. expect (s ":") (mapped (λ hi. told_interval lo hi) bound_read)))

-- extents := "[" "0" ":" number {{ "," "0" ":" number }} "]"; a tile takes the coordinates from 0 to the number
abbrev pub extents_read : Reader (List ℕ)
extents_read = bracketed (accept zero_digit (λ z. expect (s ":") (accept natural (λ n. give (suc n)))))

-- nulls := "[" value |[ ":" value ]| {{ "," value |[ ":" value ]| }} "]"; one value is the interval of it alone
abbrev pub nulls_read : Reader (List (ℤ × ℤ))
nulls_read = bracketed (bind signed_number (λ lo. accept_or (exactly (s ":")) (λ c. mapped (λ hi. (lo, hi)) signed_number) (give (lo, lo))))

-- ---- a whole type line

-- the extents of tiles that no line tells, by the number of axes
abbrev pub default_extent : ℕ → ℕ
default_extent axes = if axes == 1 then 4096 else if axes == 2 then 64 else if axes == 3 then 16 else if axes == 4 then 8 else 4

abbrev pub repeated : ℕ → ℕ → List ℕ
repeated zero n = []
repeated (suc k) n = n ∷ repeated k n

abbrev pub extents_for : ℕ → Option (List ℕ) → List ℕ
extents_for axes None = repeated axes (default_extent axes)
extents_for axes (Some extents) = extents

abbrev pub nulls_for : Option (List (ℤ × ℤ)) → List (ℤ × ℤ)
nulls_for None = []
nulls_for (Some nulls) = nulls

abbrev pub declared_type_of : Text → TypedCells → List Interval → Option (List ℕ) → Option (List (ℤ × ℤ)) → SetType
declared_type_of name cells bounds extents nulls = record {
  name = name;
  cell = cells.cell;
  names = cells.names;
  bounds = record { items = bounds };
  extents = record { items = extents_for (length bounds) extents };
  nulls = record { items = nulls_for nulls };
}

-- typeline := "type" name "=" cells bounds |[ "tiles" extents ]| |[ "null" nulls ]|
abbrev pub type_read : Reader SetType
type_read = after_word (codes "type") (accept free_name (λ name. expect (s "=") (bind cells_read (λ cells. bind intervals_read (λ bounds.
    bind (optional_after_word (codes "tiles") extents_read) (λ extents.
    mapped (λ nulls. declared_type_of name cells bounds extents nulls) (optional_after_word (codes "null") nulls_read)))))))

abbrev pub if_whole : ReadOutcome SetType → Option SetType
if_whole (Ok (of, [])) = Some of
if_whole (Ok (of, t ∷ rest)) = None
if_whole (Err rest) = None

abbrev pub unless_faulty : Option SyntaxFault → Option SetType → Option SetType
unless_faulty None found = found
unless_faulty (Some fault) found = None

abbrev pub type_in : Lexed → Option SetType
type_in line = unless_faulty line.fault (if_whole (type_read line.tokens))

-- the type that a line declares, if it has the form
unfoldable pub type_of_line : Text → Option SetType
type_of_line text = type_in (lexed text)

-- ---- which types may be declared

abbrev pub is_small_bound : ℤ → Truth
is_small_bound z = int_le (negsuc 2147483647) z && int_le z (pos 2147483647)

abbrev pub is_bounded_axis : Interval → Truth
is_bounded_axis axis = is_small_bound axis.lo && is_small_bound axis.hi && int_le axis.lo axis.hi

abbrev pub is_one_to : ℕ → ℕ → Truth
is_one_to most n = nat_le 1 n && nat_le n most

-- none of the later ones has a relation to the first, and so on
abbrev pub are_all_apart : {A : Type 0} → (A → A → Truth) → List A → Truth
are_all_apart apart [] = true
are_all_apart apart (x ∷ xs) = list_all (apart x) xs && are_all_apart apart xs

abbrev pub has_components : CellType → List Text → Truth
has_components (types.Atom atom) [] = true
has_components (types.Atom atom) (name ∷ names) = false
has_components (types.Composite atoms) names =
    is_one_to MAX_COMPONENTS (length atoms.items) && (length names == length atoms.items) && are_all_apart (λ a b. not (is_same a b)) names

abbrev pub is_null_set : CellType → List (ℤ × ℤ) → Truth
is_null_set (types.Atom atom) nulls = list_all (λ ends. is_in_range atom ends.0 && is_in_range atom ends.1 && int_le ends.0 ends.1) nulls
is_null_set (types.Composite atoms) [] = true
is_null_set (types.Composite atoms) (ends ∷ nulls) = false

abbrev pub is_wide : Atom → Truth
is_wide Wide = true
is_wide atom = false

abbrev pub is_set_type : SetType → Truth
is_set_type of =
    is_one_to MAX_AXES (length of.bounds.items)
    && list_all is_bounded_axis of.bounds.items
    && (length of.extents.items == length of.bounds.items)
    && list_all (λ extent. nat_le 1 extent) of.extents.items
    && nat_le (fold ◌*◌ 1 of.extents.items) MAX_TILE_CELLS
    && list_all (λ atom. not (is_wide atom)) (atoms_of of.cell)
    && has_components of.cell of.names
    && is_null_set of.cell of.nulls.items
    && nat_le (length of.nulls.items) MAX_NULLS
    && are_all_apart (λ a b. int_lt a.1 b.0) of.nulls.items

-- a type may be declared after others where there are fewer than the most and none of them has its name
abbrev pub may_be_declared : List SetType → SetType → Truth
may_be_declared earlier of =
    nat_lt (length earlier) MAX_TYPES && not (list_any (λ other. is_same other.name of.name) earlier) && is_set_type of
