-- The rows that pass over a database with the rows that a view shows are told by their identifiers.
use Rattle.std.proofs.Common.{◌≡◌, ℕ, suc, Bool, true, false, List, [], ◌∷◌, ◌++◌, map, Result, Ok, Err, refl, sym, ap, ◌∙◌, subst}
use Rattle.std.specs.Prelude.{ℤ, length, nat_lt, if◌then◌else◌}
use Rattle.law_shapes.proofs.Outcomes.{bind_ok}
use Rattle.ras_syntax.specs.declared.limits.TheConstants.{MAX_ROWS}
use Rattle.std.specs.List.{AllByRecursion, flat_map}
use Rattle.ras_cells.specs.declared.cell.CellFault.{CellFault}
use Rattle.ras_cells.specs.Outcomes.{◌>>=◌}
use Rattle.ras_rows.specs.Plans.{planned, rows_listed}
use Rattle.ras_rows.specs.RowsKept.{row_named}
use Rattle.ras_syntax.specs.declared.faults.ShapeFault.TheVariants.{TooManyRows}
use Rattle.ras_syntax.specs.declared.typed.CheckedSource.{CheckedSource}
use Rattle.spec_expressions.specs.Database.{Database}
use Rattle.spec_expressions.specs.Tree.{Condition, NameOf}
use Rattle.spec_shown.specs.Shown.{IsShownBy, identifiers_shown, member_shown, members_shown, rows_shown}
use Rattle.spec_statements.specs.Effects.{row_identifiers}
use Rattle.spec_statements.specs.Limits.{limited_locks, limited_rows, whole_text}
use Rattle.spec_statements.specs.Phases.{first_failing, passing_rows, phase_4_list, until_passing}
use Rattle.spec_statements.specs.Reply.{Reply, misfit}
use Rattle.spec_statements.specs.Rows.{Row, asked_of, combinations, fault_in_row, kept_if, passes, passing_of, sources_of, where_of, with_row_numbers}
use Rattle.spec_statements.specs.Statement.{StatementTree}
use Rattle.spec_views.specs.Holdings.{Holdings, passing_by}
use Rattle.law_effects.proofs.Rows.{until_condition_ok, until_domains_ok, until_passing_ok}
use Rattle.ras_reach.specs.Asked.{asked_in_4}
use Rattle.ras_reach.specs.PhaseLists.{asked_of_passing}

module _ (holdings : Holdings) where
  -- the row is that of its identifiers
  pub record IsTold (sources : List CheckedSource) (row : Row) : Type 0 where
    pub same : row_named holdings sources (row_identifiers row) ≡ row

  all-append : {X : Type 0} (P : X → Type 0) (xs ys : List X) → AllByRecursion P xs → AllByRecursion P ys → AllByRecursion P (xs ++ ys)
  all-append P [] ys all more = more
  all-append P (x ∷ xs) ys all more = (all.0, all-append P xs ys all.1 more)

  with-member : (source : CheckedSource) (sources : List CheckedSource) (id : ℕ) (rows : List Row) → AllByRecursion (IsTold sources) rows
      → AllByRecursion (IsTold (source ∷ sources)) (map (λ row. member_shown holdings source id ∷ row) rows)
  with-member source sources id [] all = tt
  with-member source sources id (row ∷ rows) all =
      (record { same = ap (λ (r : Row). member_shown holdings source id ∷ r) all.0.same }, with-member source sources id rows all.1)

  with-members : (source : CheckedSource) (sources : List CheckedSource) (ids : List ℕ) (rows : List Row) → AllByRecursion (IsTold sources) rows
      → AllByRecursion (IsTold (source ∷ sources)) (flat_map (λ member. map (λ row. member ∷ row) rows) (map (member_shown holdings source) ids))
  with-members source sources [] rows all = tt
  with-members source sources (id ∷ ids) rows all =
      all-append (IsTold (source ∷ sources)) (map (λ row. member_shown holdings source id ∷ row) rows) _ (with-member source sources id rows all) (with-members source sources ids rows all)

  told_rows : (asked : List (NameOf × ℤ)) (sources : List CheckedSource) → AllByRecursion (IsTold sources) (combinations (map (members_shown holdings asked) sources))
  told_rows asked [] = (record { same = refl }, tt)
  told_rows asked (source ∷ sources) = with-members source sources (identifiers_shown holdings asked source) (combinations (map (members_shown holdings asked) sources)) (told_rows asked sources)

  module _ (sources : List CheckedSource) where
    abbrev Told : ℕ × Row → Type 0
    Told row = IsTold sources row.1

    told-numbered : (k : ℕ) (rows : List Row) → AllByRecursion (IsTold sources) rows → AllByRecursion Told (with_row_numbers k rows)
    told-numbered k [] all = tt
    told-numbered k (row ∷ rows) all = (all.0, told-numbered (suc k) rows all.1)

    -- rows that are told by their identifiers
    listed : (rows : List (ℕ × Row)) → AllByRecursion Told rows → rows_listed holdings sources (map (λ row. (row.0, row_identifiers row.1)) rows) ≡ rows
    listed [] all = refl
    listed (row ∷ rows) all =
        ap (λ (r : Row). (row.0, r) ∷ rows_listed holdings sources (map (λ row. (row.0, row_identifiers row.1)) rows)) all.0.same
        ∙ ap (λ (rs : List (ℕ × Row)). row ∷ rs) (listed rows all.1)

    kept : (condition : Condition) (rows some : List (ℕ × Row)) → AllByRecursion Told rows → passing_of condition rows ≡ Ok some → AllByRecursion Told some
    kept condition [] some all is = let none : [] ≡ some = cc in subst (AllByRecursion Told) none tt
    kept condition (row ∷ rows) some all is =
        by (fault_in_row row.0 (passes condition row.1)) (passing_of condition rows) (λ others e. kept condition rows others all.1 e) is
      where
        by : (test : Result Bool (ℕ × CellFault)) (rest : Result (List (ℕ × Row)) (ℕ × CellFault)) → ((others : List (ℕ × Row)) → rest ≡ Ok others → AllByRecursion Told others)
            → (test >>= λ keeps. rest >>= λ others. Ok (kept_if keeps row others)) ≡ Ok some → AllByRecursion Told some
        by (Err fault) rest told e = absurd cc
        by (Ok keeps) (Err fault) told e = absurd cc
        by (Ok true) (Ok others) told e = let same : row ∷ others ≡ some = cc in subst (AllByRecursion Told) same (all.0, told others refl)
        by (Ok false) (Ok others) told e = let same : others ≡ some = cc in subst (AllByRecursion Told) same (told others refl)

module _ (tree : StatementTree) (holdings : Holdings) where
  abbrev AreTold : List (ℕ × Row) → Type 0
  AreTold = AllByRecursion (Told holdings (sources_of tree.request))

  rows-told : (all : List Row) (rows : List (ℕ × Row)) → AllByRecursion (IsTold holdings (sources_of tree.request)) all → limited_rows tree all ≡ Ok rows → AreTold rows
  rows-told all rows told is = by (nat_lt MAX_ROWS (length all)) is
    where
      by : (too_many : Bool) → (if too_many then Err (misfit 0 (whole_text tree) TooManyRows) else Ok (with_row_numbers 1 all)) ≡ Ok rows → AreTold rows
      by true e = absurd cc
      by false e = let same : with_row_numbers 1 all ≡ rows = cc in subst AreTold same (told-numbered holdings (sources_of tree.request) 1 all told)

  passing-told : (rows some : List (ℕ × Row)) → AreTold rows → passing_rows (where_of tree.request) rows ≡ Ok some → AreTold some
  passing-told rows some told is = by (passing_of (where_of tree.request) rows) refl is
    where
      by : (r : Result (List (ℕ × Row)) (ℕ × CellFault)) → passing_of (where_of tree.request) rows ≡ r → first_failing r ≡ Ok some → AreTold some
      by (Ok found) e f = let same : found ≡ some = cc in kept holdings (sources_of tree.request) (where_of tree.request) rows some told (e ∙ ap Ok same)
      by (Err fault) e f = absurd cc

  until-told : (database : Database) (rows : List (ℕ × Row)) → IsShownBy holdings tree.request database → until_passing tree database ≡ Ok rows → AreTold rows
  until-told database rows is pass =
      let (shaped, is_shaped, then_1) = until_passing_ok tree database rows pass in
      let (all, asked) = until_domains_ok tree database shaped (until_condition_ok tree database shaped is_shaped) in
      let told : AreTold shaped =
      rows-told (rows_shown tree.request holdings) shaped (told_rows holdings (asked_of (where_of tree.request)) (sources_of tree.request)) (ap (limited_rows tree) (sym is) ∙ all) in
      passing-told shaped rows told then_1

  -- the fourth phase is asked for by the rows that pass
  pub asked_shown : (database : Database) (names : List (ℕ × List ℕ)) → IsShownBy holdings tree.request database → passing_by tree database ≡ Ok names
      → asked_in_4 tree database ≡ asked_of_passing tree (rows_listed holdings (sources_of tree.request) names)
  asked_shown database names is pass =
      let (rows, is_rows, then_1) = bind_ok (until_passing tree database) (λ (rows : List (ℕ × Row)). Ok (map (λ row. (row.0, row_identifiers row.1)) rows)) names pass in
      let same : map (λ (row : ℕ × Row). (row.0, row_identifiers row.1)) rows ≡ names = cc in
      let listed_as : rows_listed holdings (sources_of tree.request) names ≡ rows =
      ap (rows_listed holdings (sources_of tree.request)) (sym same) ∙ listed holdings (sources_of tree.request) rows (until-told database rows is is_rows) in
      ap (λ (r : Result (List (ℕ × Row)) Reply). (r >>= λ some. planned tree some) >>= λ plans. limited_locks tree (phase_4_list tree plans)) is_rows
      ∙ ap (asked_of_passing tree) (sym listed_as)
