-- The rows that a view shows are told by their identifiers, and what the definitions give over a database with these rows.
use Rattle.std.proofs.Common.{◌≡◌, ℕ, suc, Bool, true, false, List, [], ◌∷◌, ◌++◌, map, filter, Result, Ok, Err, refl, sym, ap, ◌∙◌, subst}
use Rattle.std.specs.Prelude.{ℤ, length, nat_lt, if◌then◌else◌}
use Rattle.law_shapes.proofs.Outcomes.{bind_ok}
use Rattle.ras_syntax.specs.declared.limits.TheConstants.{MAX_LOCKS, MAX_ROWS}
use Rattle.std.specs.List.{AllByRecursion, flat_map}
use Rattle.ras_cells.specs.declared.cell.CellFault.{CellFault}
use Rattle.ras_cells.specs.Outcomes.{◌>>=◌}
use Rattle.ras_domain.specs.declared.lock.LockName.TheVariants.{Collection}
use Rattle.ras_eval.specs.Computed.{ComputedValue, computed_of_plans, computed_over}
use Rattle.ras_eval.specs.Passing.{passing_named, passing_over, row_named_of, rows_named_of}
use Rattle.ras_rows.specs.Plans.{planned, rows_listed}
use Rattle.ras_rows.specs.RowsKept.{row_named}
use Rattle.ras_syntax.specs.declared.faults.ShapeFault.TheVariants.{TooManyLocks, TooManyRows}
use Rattle.ras_syntax.specs.declared.typed.CheckedSource.{CheckedSource}
use Rattle.spec_expressions.specs.Database.{Database, Member}
use Rattle.spec_expressions.specs.Eval.{domains_in}
use Rattle.spec_expressions.specs.Shape.{Shape, shape_of}
use Rattle.spec_expressions.specs.Tree.{Condition, NameOf, Tree, always, only_where}
use Rattle.spec_shown.specs.Shown.{IsShownBy, identifiers_held, identifiers_shown, member_shown, members_shown, rows_shown}
use Rattle.spec_statements.specs.Effects.{row_identifiers}
use Rattle.spec_statements.specs.Limits.{limited_locks, limited_plans, limited_rows, whole_text}
use Rattle.spec_statements.specs.Locks.{Lock}
use Rattle.spec_statements.specs.Phases.{first_failing, passing_rows, phase_2_list, phase_3_list, shaped_condition, until_condition, until_domains, until_passing, until_plans, until_rows}
use Rattle.spec_statements.specs.Plans.{Plan, misfit_in, plans_of}
use Rattle.spec_statements.specs.Reply.{Reply, misfit}
use Rattle.spec_statements.specs.Rows.{Row, asked_of, combinations, environment_of, fault_in_row, kept_if, passes, passing_of, rows_of, sources_of, where_of, with_row_numbers}
use Rattle.spec_statements.specs.Statement.{Request, StatementTree}
use Rattle.spec_views.specs.Holdings.{Holdings, passing_by}

-- ---- rows by their identifiers

module _ (holdings : Holdings) where
  -- the row is that of its identifiers
  pub record IsTold (sources : List CheckedSource) (row : Row) : Type 0 where
    pub same : row_named holdings sources (row_identifiers row) ≡ row

  all-append : {X : Type 0} (P : X → Type 0) (xs ys : List X) → AllByRecursion P xs → AllByRecursion P ys → AllByRecursion P (xs ++ ys)
  all-append P [] ys all more = more
  all-append P (x ∷ xs) ys all more = (all.0, all-append P xs ys all.1 more)

  with-member : (source : CheckedSource) (sources : List CheckedSource) (id : ℕ) (rows : List Row) → AllByRecursion (IsTold sources) rows
      → AllByRecursion (IsTold (source ∷ sources)) (map (λ row. member_shown holdings source id ∷ row) rows)
  with-member source sources id [] all = tt
  with-member source sources id (row ∷ rows) all =
      (record { same = ap (λ (r : Row). member_shown holdings source id ∷ r) all.0.same }, with-member source sources id rows all.1)

  with-members : (source : CheckedSource) (sources : List CheckedSource) (ids : List ℕ) (rows : List Row) → AllByRecursion (IsTold sources) rows
      → AllByRecursion (IsTold (source ∷ sources)) (flat_map (λ member. map (λ row. member ∷ row) rows) (map (member_shown holdings source) ids))
  with-members source sources [] rows all = tt
  with-members source sources (id ∷ ids) rows all =
      all-append (IsTold (source ∷ sources)) (map (λ row. member_shown holdings source id ∷ row) rows) _ (with-member source sources id rows all) (with-members source sources ids rows all)

  told_rows : (asked : List (NameOf × ℤ)) (sources : List CheckedSource) → AllByRecursion (IsTold sources) (combinations (map (members_shown holdings asked) sources))
  told_rows asked [] = (record { same = refl }, tt)
  told_rows asked (source ∷ sources) = with-members source sources (identifiers_shown holdings asked source) (combinations (map (members_shown holdings asked) sources)) (told_rows asked sources)

  module _ (sources : List CheckedSource) where
    abbrev Told : ℕ × Row → Type 0
    Told row = IsTold sources row.1

    told-numbered : (k : ℕ) (rows : List Row) → AllByRecursion (IsTold sources) rows → AllByRecursion Told (with_row_numbers k rows)
    told-numbered k [] all = tt
    told-numbered k (row ∷ rows) all = (all.0, told-numbered (suc k) rows all.1)

    -- rows that are told by their identifiers
    listed : (rows : List (ℕ × Row)) → AllByRecursion Told rows → rows_listed holdings sources (rows_named_of rows) ≡ rows
    listed [] all = refl
    listed (row ∷ rows) all =
        ap (λ (r : Row). (row.0, r) ∷ rows_listed holdings sources (rows_named_of rows)) all.0.same ∙ ap (λ (rs : List (ℕ × Row)). row ∷ rs) (listed rows all.1)

    kept : (condition : Condition) (rows some : List (ℕ × Row)) → AllByRecursion Told rows → passing_of condition rows ≡ Ok some → AllByRecursion Told some
    kept condition [] some all is = let none : [] ≡ some = cc in subst (AllByRecursion Told) none tt
    kept condition (row ∷ rows) some all is =
        by (fault_in_row row.0 (passes condition row.1)) (passing_of condition rows) (λ others e. kept condition rows others all.1 e) is
      where
        by : (test : Result Bool (ℕ × CellFault)) (rest : Result (List (ℕ × Row)) (ℕ × CellFault)) → ((others : List (ℕ × Row)) → rest ≡ Ok others → AllByRecursion Told others)
            → (test >>= λ keeps. rest >>= λ others. Ok (kept_if keeps row others)) ≡ Ok some → AllByRecursion Told some
        by (Err fault) rest told e = absurd cc
        by (Ok keeps) (Err fault) told e = absurd cc
        by (Ok true) (Ok others) told e = let same : row ∷ others ≡ some = cc in subst (AllByRecursion Told) same (all.0, told others refl)
        by (Ok false) (Ok others) told e = let same : others ≡ some = cc in subst (AllByRecursion Told) same (told others refl)

-- ---- a database with the rows that are shown

abbrev TooLong : {X : Type 0} → StatementTree → Result X Reply
TooLong tree = Err (misfit 0 (whole_text tree) TooManyLocks)

abbrev Names : Type 0
Names = Result (List (ℕ × List ℕ)) Reply

-- a list that isn't too long changes nothing
short-list : {A B : Type 0} (tree : StatementTree) (too_long : Bool) (locks : List Lock) (next : List Lock → Result A Reply) (more : A → Result B Reply)
    → (((if too_long then Err (misfit 0 (whole_text tree) TooManyLocks) else Ok locks) >>= next) >>= more ≡ Err (misfit 0 (whole_text tree) TooManyLocks) → ⊥)
    → (((if too_long then Err (misfit 0 (whole_text tree) TooManyLocks) else Ok locks) >>= next) >>= more) ≡ (next locks >>= more)
short-list tree true locks next more short = absurd (short refl)
short-list tree false locks next more short = refl

module _ (tree : StatementTree) where
  abbrev condition : Condition
  condition = where_of tree.request

  abbrev named : List (ℕ × Row) → Names
  named rows = Ok (rows_named_of rows)

  abbrev tested : List (ℕ × Row) → Result (List (ℕ × Row)) Reply
  tested rows = limited_locks tree (phase_3_list tree rows) >>= λ asked. passing_rows condition rows

  third : (rows : List (ℕ × Row)) → ((tested rows >>= named) ≡ TooLong tree → ⊥) → (tested rows >>= named) ≡ passing_named condition rows
  third rows short = short-list tree (nat_lt MAX_LOCKS (length (phase_3_list tree rows))) (phase_3_list tree rows) (λ asked. passing_rows condition rows) named short

  second : (shaped : Result (List (ℕ × Row)) Reply) → (((shaped >>= tested) >>= named) ≡ TooLong tree → ⊥) → ((shaped >>= tested) >>= named) ≡ (shaped >>= passing_named condition)
  second (Ok rows) short = third rows short
  second (Err reply) short = refl

  abbrev listed_domains : List (ℕ × Row) → Result (List (ℕ × Row)) Reply
  listed_domains rows = limited_locks tree (phase_2_list tree rows) >>= λ asked. Ok rows

  at-domains : (rows : List (ℕ × Row)) → (((((listed_domains rows) >>= shaped_condition condition) >>= tested) >>= named) ≡ TooLong tree → ⊥)
      → ((((listed_domains rows) >>= shaped_condition condition) >>= tested) >>= named) ≡ (shaped_condition condition rows >>= passing_named condition)
  at-domains rows short = by (nat_lt MAX_LOCKS (length (phase_2_list tree rows))) short
    where
      by : (too_long : Bool)
          → ((((((if too_long then TooLong tree else Ok (phase_2_list tree rows)) >>= λ asked. Ok rows) >>= shaped_condition condition) >>= tested) >>= named) ≡ TooLong tree → ⊥)
          → (((((if too_long then TooLong tree else Ok (phase_2_list tree rows)) >>= λ asked. Ok rows) >>= shaped_condition condition) >>= tested) >>= named)
          ≡ (shaped_condition condition rows >>= passing_named condition)
      by true s = absurd (s refl)
      by false s = second (shaped_condition condition rows) s

  first : (rows : Result (List (ℕ × Row)) Reply) → (((((rows >>= listed_domains) >>= shaped_condition condition) >>= tested) >>= named) ≡ TooLong tree → ⊥)
      → ((((rows >>= listed_domains) >>= shaped_condition condition) >>= tested) >>= named) ≡ (rows >>= λ some. shaped_condition condition some >>= passing_named condition)
  first (Ok rows) short = at-domains rows short
  first (Err reply) short = refl

  -- the rows that pass are those that pass among the rows that are shown, where no list of locks is too long
  pub passing_shown : (holdings : Holdings) (database : Database) → IsShownBy holdings tree.request database → (passing_by tree database ≡ TooLong tree → ⊥)
      → passing_by tree database ≡ passing_over tree (rows_shown tree.request holdings)
  passing_shown holdings database is short =
      first (limited_rows tree (rows_of tree.request database)) short
      ∙ ap (λ (rows : List Row). limited_rows tree rows >>= λ some. shaped_condition condition some >>= passing_named condition) is

  -- ---- the rows that pass are told by their identifiers

  module _ (holdings : Holdings) where
    abbrev AreTold : List (ℕ × Row) → Type 0
    AreTold = AllByRecursion (Told holdings (sources_of tree.request))

    rows-told : (all : List Row) (rows : List (ℕ × Row)) → AllByRecursion (IsTold holdings (sources_of tree.request)) all → limited_rows tree all ≡ Ok rows → AreTold rows
    rows-told all rows told is = by (nat_lt MAX_ROWS (length all)) is
      where
        by : (too_many : Bool) → (if too_many then Err (misfit 0 (whole_text tree) TooManyRows) else Ok (with_row_numbers 1 all)) ≡ Ok rows → AreTold rows
        by true e = absurd cc
        by false e = let same : with_row_numbers 1 all ≡ rows = cc in subst AreTold same (told-numbered holdings (sources_of tree.request) 1 all told)

    domains-same : (rows some : List (ℕ × Row)) → listed_domains rows ≡ Ok some → rows ≡ some
    domains-same rows some is = by (nat_lt MAX_LOCKS (length (phase_2_list tree rows))) is
      where
        by : (too_long : Bool) → ((if too_long then TooLong tree else Ok (phase_2_list tree rows)) >>= λ asked. Ok rows) ≡ Ok some → rows ≡ some
        by true e = cc
        by false e = cc

    shaped-same : (c : Condition) (rows some : List (ℕ × Row)) → shaped_condition c rows ≡ Ok some → rows ≡ some
    shaped-same always rows some is = cc
    shaped-same (only_where c) [] some is = cc
    shaped-same (only_where c) (row ∷ rows) some is =
        by (misfit_in row.0 (shape_of (domains_in (environment_of row.1)) c)) (shaped_condition (only_where c) rows) (λ others e. shaped-same (only_where c) rows others e) is
      where
        by : (shape : Result Shape Reply) (rest : Result (List (ℕ × Row)) Reply) → ((others : List (ℕ × Row)) → rest ≡ Ok others → rows ≡ others)
            → (shape >>= λ s. rest >>= λ others. Ok (row ∷ others)) ≡ Ok some → row ∷ rows ≡ some
        by (Err reply) rest same e = cc
        by (Ok s) (Err reply) same e = cc
        by (Ok s) (Ok others) same e = ap (λ (rs : List (ℕ × Row)). row ∷ rs) (same others refl) ∙ (let all : row ∷ others ≡ some = cc in all)

    passing-told : (rows some : List (ℕ × Row)) → AreTold rows → passing_rows condition rows ≡ Ok some → AreTold some
    passing-told rows some told is = by (passing_of condition rows) refl is
      where
        by : (r : Result (List (ℕ × Row)) (ℕ × CellFault)) → passing_of condition rows ≡ r → first_failing r ≡ Ok some → AreTold some
        by (Ok found) e f = let same : found ≡ some = cc in kept holdings (sources_of tree.request) condition rows some told (e ∙ ap Ok same)
        by (Err fault) e f = absurd cc

    until-told : (database : Database) (rows : List (ℕ × Row)) → IsShownBy holdings tree.request database → until_passing tree database ≡ Ok rows → AreTold rows
    until-told database rows is pass =
        let (shaped, is_shaped, then_1) = bind_ok (until_condition tree database) tested rows pass in
        let (asked, is_asked, then_2) = bind_ok (limited_locks tree (phase_3_list tree shaped)) (λ asked. passing_rows condition shaped) rows then_1 in
        let (found, is_found, then_3) = bind_ok (until_domains tree database) (shaped_condition condition) shaped is_shaped in
        let (all, is_all, then_4) = bind_ok (until_rows tree database) listed_domains found is_found in
        let told : AreTold all =
        rows-told (rows_shown tree.request holdings) all (told_rows holdings (asked_of condition) (sources_of tree.request)) (ap (limited_rows tree) (sym is) ∙ is_all) in
        passing-told shaped rows (subst AreTold (domains-same all found then_4 ∙ shaped-same condition found shaped then_3) told) then_2

    -- what is computed of the rows that pass is what is computed over the database
    pub computed_shown : (database : Database) (names : List (ℕ × List ℕ)) → IsShownBy holdings tree.request database → passing_by tree database ≡ Ok names
        → (until_plans tree database >>= computed_of_plans tree.request) ≡ computed_over tree (rows_listed holdings (sources_of tree.request) names)
    computed_shown database names is pass =
        let (rows, is_rows, then_1) = bind_ok (until_passing tree database) named names pass in
        let same : rows_named_of rows ≡ names = cc in
        let listed_as : rows_listed holdings (sources_of tree.request) names ≡ rows =
        ap (rows_listed holdings (sources_of tree.request)) (sym same) ∙ listed holdings (sources_of tree.request) rows (until-told database rows is is_rows) in
        ap (λ (r : Result (List (ℕ × Row)) Reply). (r >>= λ some. planned tree some) >>= computed_of_plans tree.request) is_rows
        ∙ ap (computed_over tree) (sym listed_as)
