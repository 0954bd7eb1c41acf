-- Rows by the identifiers of their arrays.
use Rattle.std.proofs.Common.{◌≡◌, ℕ, suc, List, [], ◌∷◌, map, flat_map, Result, Ok, Err, Bool, true, false, refl, subst, ap, ◌∙◌}
use Rattle.std.specs.List.{AllByRecursion}
use Rattle.law_lists.proofs.Each.{each_any, each_flat_map, each_map}
use Rattle.ras_cells.specs.Outcomes.{◌>>=◌}
use Rattle.ras_cells.specs.declared.cell.CellFault.{CellFault}
use Rattle.ras_rows.specs.Plans.{rows_listed}
use Rattle.ras_rows.specs.RowsKept.{row_named}
use Rattle.ras_syntax.specs.declared.typed.CheckedSource.{CheckedSource}
use Rattle.spec_expressions.specs.Database.{Member}
use Rattle.spec_expressions.specs.Tree.{Condition, NameOf}
use Rattle.std.specs.Prelude.{ℤ}
use Rattle.spec_shown.specs.Shown.{identifiers_shown, member_shown, members_shown, rows_shown}
use Rattle.spec_statements.specs.Effects.{row_identifiers}
use Rattle.spec_statements.specs.Rows.{Row, asked_of, combinations, fault_in_row, kept_if, passes, passing_of, sources_of, where_of, with_row_numbers}
use Rattle.spec_statements.specs.Statement.{Request}
use Rattle.spec_views.specs.Holdings.{Holdings}

-- the arrays of a row are those of its identifiers
pub record IsNamed (holdings : Holdings) (sources : List CheckedSource) (row : Row) : Type 0 where
  pub again : row_named holdings sources (row_identifiers row) ≡ row

longer : (holdings : Holdings) (source : CheckedSource) (sources : List CheckedSource) (member : Member) (row : Row) → member_shown holdings source member.oid ≡ member
    → IsNamed holdings sources row → IsNamed holdings (source ∷ sources) (member ∷ row)
longer holdings source sources member row is named = record {
  again = ap (λ m. m ∷ row_named holdings sources (row_identifiers row)) is ∙ ap (λ r. member ∷ r) named.again;
}

each_combination : (holdings : Holdings) (asked : List (NameOf × ℤ)) (sources : List CheckedSource)
    → AllByRecursion (IsNamed holdings sources) (combinations (map (members_shown holdings asked) sources))
each_combination holdings asked [] = (record { again = refl }, tt)
each_combination holdings asked (source ∷ sources) =
    each_flat_map (λ (m : Member). member_shown holdings source m.oid ≡ m) (IsNamed holdings (source ∷ sources))
    (λ (m : Member). map (λ (row : Row). m ∷ row) (combinations (map (members_shown holdings asked) sources)))
    (λ m is. each_map (IsNamed holdings sources) (IsNamed holdings (source ∷ sources)) (λ (row : Row). m ∷ row) (λ row named. longer holdings source sources m row is named)
    (combinations (map (members_shown holdings asked) sources)) (each_combination holdings asked sources))
    (members_shown holdings asked source)
    (each_map (λ (id : ℕ). Unit {0}) (λ (m : Member). member_shown holdings source m.oid ≡ m) (member_shown holdings source) (λ id _. refl)
    (identifiers_shown holdings asked source) (each_any (λ (id : ℕ). Unit {0}) (λ id. tt) (identifiers_shown holdings asked source)))

numbered : (P : Row → Type 0) (k : ℕ) (rows : List Row) → AllByRecursion P rows → AllByRecursion (λ (row : ℕ × Row). P row.1) (with_row_numbers k rows)
numbered P k [] all = tt
numbered P k (row ∷ rows) all = (all.0, numbered P (suc k) rows all.1)

-- what holds of each row holds of those that pass
each_passing : (P : ℕ × Row → Type 0) (condition : Condition) (rows kept : List (ℕ × Row)) → AllByRecursion P rows → passing_of condition rows ≡ Ok kept → AllByRecursion P kept
each_passing P condition [] [] all is = tt
each_passing P condition [] (k ∷ kept) all is = absurd cc
each_passing P condition (row ∷ rows) kept all is =
    at (fault_in_row row.0 (passes condition row.1)) (passing_of condition rows) (each_passing P condition rows) is
  where
    chosen : (b : Bool) (others : List (ℕ × Row)) → AllByRecursion P others → AllByRecursion P (kept_if b row others)
    chosen true others rest = (all.0, rest)
    chosen false others rest = rest

    at : (test : Result Bool (ℕ × CellFault)) (others : Result (List (ℕ × Row)) (ℕ × CellFault))
        → ((more : List (ℕ × Row)) → AllByRecursion P rows → others ≡ Ok more → AllByRecursion P more)
        → (test >>= λ keeps. others >>= λ more. Ok (kept_if keeps row more)) ≡ Ok kept → AllByRecursion P kept
    at (Err fault) others each same = absurd cc
    at (Ok b) (Err fault) each same = absurd cc
    at (Ok b) (Ok more) each same = let kept_is : kept_if b row more ≡ kept = cc in subst (AllByRecursion P) kept_is (chosen b more (each more all.1 refl))

all_named : (holdings : Holdings) (sources : List CheckedSource) (rows : List (ℕ × Row)) → AllByRecursion (λ (row : ℕ × Row). IsNamed holdings sources row.1) rows
    → rows_listed holdings sources (map (λ (row : ℕ × Row). (row.0, row_identifiers row.1)) rows) ≡ rows
all_named holdings sources [] all = refl
all_named holdings sources (row ∷ rows) all =
    ap (λ (r : Row). (row.0, r) ∷ rows_listed holdings sources (map (λ (x : ℕ × Row). (x.0, row_identifiers x.1)) rows)) all.0.again
    ∙ ap (λ (rs : List (ℕ × Row)). row ∷ rs) (all_named holdings sources rows all.1)

pub passing-named : (holdings : Holdings) (request : Request) (condition : Condition) (kept : List (ℕ × Row))
    → passing_of condition (with_row_numbers 1 (rows_shown request holdings)) ≡ Ok kept
    → rows_listed holdings (sources_of request) (map (λ (row : ℕ × Row). (row.0, row_identifiers row.1)) kept) ≡ kept
passing-named holdings request condition kept is =
    all_named holdings (sources_of request) kept
    (each_passing (λ (row : ℕ × Row). IsNamed holdings (sources_of request) row.1) condition (with_row_numbers 1 (rows_shown request holdings)) kept
    (numbered (IsNamed holdings (sources_of request)) 1 (rows_shown request holdings) (each_combination holdings (asked_of (where_of request)) (sources_of request))) is)
