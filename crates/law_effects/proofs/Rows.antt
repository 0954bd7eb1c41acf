-- The rows of a statement, and those that later steps keep.
use Rattle.std.proofs.Common.{◌≡◌, ℕ, ℤ, Bool, true, false, if◌then◌else◌, List, [], ◌∷◌, map, length, nat_lt, Some, Result, Ok, Err, refl, sym, subst}
use Rattle.std.specs.List.{AllByRecursion}
use Rattle.ras_cells.specs.Outcomes.{◌>>=◌}
use Rattle.ras_cells.specs.declared.cell.CellFault.{CellFault}
use Rattle.ras_syntax.specs.declared.typed.CheckedSource.{CheckedSource}
use Rattle.spec_expressions.specs.Tree.{NameOf, Condition, always, only_where}
use Rattle.spec_expressions.specs.Shape.{ShapeMisfit, shape_of}
use Rattle.spec_expressions.specs.Eval.{domains_in}
use Rattle.spec_expressions.specs.Database.{Array, Collection, Database, Member, collection_of}
use Rattle.spec_statements.specs.Statement.{Request, StatementTree}
use Rattle.spec_statements.specs.Locks.{Lock}
use Rattle.spec_statements.specs.Rows.{Row, combinations, is_asked, kept_if, member_of, members_in, members_of, with_row_numbers, passes, passing_of, rows_of, environment_of, where_of, fault_in_row}
use Rattle.spec_statements.specs.Reply.{Reply}
use Rattle.spec_statements.specs.Plans.{Plan, misfit_in, plans_of, row_plan}
use Rattle.spec_statements.specs.Phases.{first_failing, passing_rows, phase_2_list, phase_3_list, phase_4_list, shaped_condition, until_bodies, until_condition, until_domains, until_passing, until_plans, until_rows}
use Rattle.spec_statements.specs.Limits.{limited_locks, limited_reply, is_select}
use Rattle.law_shapes.proofs.Outcomes.{bind_ok, unless_ok}
use Rattle.law_lists.proofs.Each.{each_map, each_filter, each_flat_map}
use Rattle.law_lists.proofs.Choices.{ok_keeps}
use Rattle.ras_syntax.specs.declared.limits.TheConstants.{MAX_LOCKS, MAX_ROWS}

-- ---- rows of one source

-- the row has one member, of which this holds
abbrev pub HasOne : (Member → Type 0) → Row → Type 0
HasOne Q row = (member : Member) × (row ≡ member ∷ []) × Q member

-- one source gives rows of one member
pub each_combination : (Q : Member → Type 0) (members : List Member) → AllByRecursion Q members → AllByRecursion (HasOne Q) (combinations (members ∷ []))
each_combination Q members all =
    each_flat_map Q (HasOne Q) (λ member. map (λ row. member ∷ row) ([] ∷ [])) (λ member q. ((member, refl, q), tt)) members all

-- a member stands for an entry of its collection
pub each_member : (database : Database) (asked : List (NameOf × ℤ)) (source : CheckedSource) (collection : Collection) (P : ℕ × Array → Type 0)
    → collection_of database source.collection ≡ Some collection → AllByRecursion P collection.arrays
    → AllByRecursion (λ member. (member.of ≡ source.of) × P (member.oid, member.array)) (members_of database asked source)
each_member database asked source collection P found all =
    each_map P (λ member. (member.of ≡ source.of) × P (member.oid, member.array)) (member_of source) (λ entry p. (refl, p)) _
    (each_filter P (λ entry. is_asked asked source.iterator entry.0) (members_in (collection_of database source.collection))
    (subst (λ o. AllByRecursion P (members_in o)) (sym found) all))

-- numbers change no row
pub each_numbered : {X : Type 0} (P : X → Type 0) (k : ℕ) (xs : List X) → AllByRecursion P xs → AllByRecursion (λ row. P row.1) (with_row_numbers k xs)
each_numbered P k [] all = tt
each_numbered P k (x ∷ xs) all = (all.0, each_numbered P (ℕ.suc k) xs all.1)

-- ---- the steps before an outcome

shaped_at : (row : ℕ × Row) (rows : List (ℕ × Row)) (c : Condition) → ((kept : List (ℕ × Row)) → shaped_condition c rows ≡ Ok kept → kept ≡ rows)
    → (r : Result (List (ℕ × Row)) Reply) → r ≡ shaped_condition c rows → (kept : List (ℕ × Row)) → (r >>= λ others. Ok (row ∷ others)) ≡ Ok kept → kept ≡ row ∷ rows
shaped_at row rows c later r same kept is =
    let (others, found, last) = bind_ok r (λ others. Ok (row ∷ others)) kept is in
    let e : others ≡ rows = later others (let both : shaped_condition c rows ≡ Ok others = cc in both) in cc

-- a condition that has a shape keeps the rows
shaped_keeps : (condition : Condition) (rows kept : List (ℕ × Row)) → shaped_condition condition rows ≡ Ok kept → kept ≡ rows
shaped_keeps always rows kept is = cc
shaped_keeps (only_where c) [] kept is = cc
shaped_keeps (only_where c) (row ∷ rows) kept is =
    let (shape, has_shape, rest) = bind_ok (misfit_in row.0 (shape_of (domains_in (environment_of row.1)) c)) _ kept is in
    shaped_at row rows (only_where c) (shaped_keeps (only_where c) rows) (shaped_condition (only_where c) rows) refl kept rest

-- what holds of each row holds of each that passes
kept_if-each : (P : ℕ × Row → Type 0) (row : ℕ × Row) (rows : List (ℕ × Row)) (keeps : Bool) → P row → AllByRecursion P rows → AllByRecursion P (kept_if keeps row rows)
kept_if-each P row rows true here rest = (here, rest)
kept_if-each P row rows false here rest = rest

passing_of-each : (P : ℕ × Row → Type 0) (condition : Condition) (rows passing : List (ℕ × Row)) → passing_of condition rows ≡ Ok passing → AllByRecursion P rows → AllByRecursion P passing
passing_of-each P condition [] passing is all = ok_keeps (AllByRecursion P) [] passing is tt
passing_of-each P condition (row ∷ rows) passing is all =
    let (keeps, passed, rest) = bind_ok (fault_in_row row.0 (passes condition row.1)) _ passing is in
    let (others, found, last) = bind_ok (passing_of condition rows) _ passing rest in
    ok_keeps (AllByRecursion P) (kept_if keeps row others) passing last
    (kept_if-each P row others keeps all.0 (passing_of-each P condition rows others found all.1))

failing_ok : (r : Result (List (ℕ × Row)) (ℕ × CellFault)) (rows : List (ℕ × Row)) → first_failing r ≡ Ok rows → r ≡ Ok rows
failing_ok (Ok x) rows is = let e : x ≡ rows = cc in cc
failing_ok (Err fault) rows is = absurd cc

-- what holds of each row holds of each that passes
pub passing-each : (P : ℕ × Row → Type 0) (condition : Condition) (rows passing : List (ℕ × Row)) → passing_rows condition rows ≡ Ok passing → AllByRecursion P rows
    → AllByRecursion P passing
passing-each P condition rows passing is all =
    passing_of-each P condition rows passing (failing_ok (passing_of condition rows) passing is) all

-- a list of locks that isn't too long
pub limited_is : (statement : StatementTree) (asked given : List Lock) → limited_locks statement asked ≡ Ok given → asked ≡ given
limited_is statement asked given is = let e = unless_ok (nat_lt MAX_LOCKS (length asked)) _ _ given is in ok_keeps (λ l. asked ≡ l) asked given e.1 refl

-- what each step has of the one before it
pub until_rows_ok : (statement : StatementTree) (database : Database) (rows : List (ℕ × Row)) → until_rows statement database ≡ Ok rows
    → rows ≡ with_row_numbers 1 (rows_of statement.request database)
until_rows_ok statement database rows is =
    let e = unless_ok (nat_lt MAX_ROWS (length (rows_of statement.request database))) _ _ rows is in
    ok_keeps (λ l. l ≡ with_row_numbers 1 (rows_of statement.request database)) _ rows e.1 refl

pub until_domains_ok : (statement : StatementTree) (database : Database) (rows : List (ℕ × Row)) → until_domains statement database ≡ Ok rows
    → (until_rows statement database ≡ Ok rows) × (limited_locks statement (phase_2_list statement rows) ≡ Ok (phase_2_list statement rows))
until_domains_ok statement database rows is =
    let (found, is_found, rest) = bind_ok (until_rows statement database) _ rows is in
    let (asked, is_asked', last) = bind_ok (limited_locks statement (phase_2_list statement found)) _ rows rest in
    let e = limited_is statement (phase_2_list statement found) asked is_asked' in
    ok_keeps (λ l. (until_rows statement database ≡ Ok l) × (limited_locks statement (phase_2_list statement l) ≡ Ok (phase_2_list statement l))) found rows last
    (is_found, subst (λ l. limited_locks statement (phase_2_list statement found) ≡ Ok l) (sym e) is_asked')

pub until_condition_ok : (statement : StatementTree) (database : Database) (rows : List (ℕ × Row)) → until_condition statement database ≡ Ok rows → until_domains statement database ≡ Ok rows
until_condition_ok statement database rows is =
    let (found, is_found, last) = bind_ok (until_domains statement database) _ rows is in
    subst (λ l. until_domains statement database ≡ Ok l) (sym (shaped_keeps (where_of statement.request) found rows last)) is_found

pub until_passing_ok : (statement : StatementTree) (database : Database) (passing : List (ℕ × Row)) → until_passing statement database ≡ Ok passing
    → (rows : List (ℕ × Row)) × (until_condition statement database ≡ Ok rows) × (passing_rows (where_of statement.request) rows ≡ Ok passing)
until_passing_ok statement database passing is =
    let (rows, is_rows, rest) = bind_ok (until_condition statement database) _ passing is in
    let (asked, is_asked', last) = bind_ok (limited_locks statement (phase_3_list statement rows)) _ passing rest in
    (rows, is_rows, last)

reply_keeps : (statement : StatementTree) (selects : Bool) (plans replied : List Plan)
    → (if selects then limited_reply statement plans else Ok plans) ≡ Ok replied → plans ≡ replied
reply_keeps statement true plans replied is = let e = unless_ok _ _ _ replied is in ok_keeps (λ l. plans ≡ l) plans replied e.1 refl
reply_keeps statement false plans replied is = ok_keeps (λ l. plans ≡ l) plans replied is refl

pub until_plans_ok : (statement : StatementTree) (database : Database) (plans : List Plan) → until_plans statement database ≡ Ok plans
    → (passing : List (ℕ × Row)) × (until_passing statement database ≡ Ok passing) × (plans_of statement.request passing ≡ Ok plans)
until_plans_ok statement database plans is =
    let (passing, is_passing, rest) = bind_ok (until_passing statement database) _ plans is in
    let (made, is_made, last) = bind_ok (plans_of statement.request passing) _ plans rest in
    (passing, is_passing, subst (λ l. plans_of statement.request passing ≡ Ok l) (reply_keeps statement (is_select statement.request) made plans last) is_made)

pub until_bodies_ok : (statement : StatementTree) (database : Database) (plans : List Plan) → until_bodies statement database ≡ Ok plans
    → (until_plans statement database ≡ Ok plans) × (limited_locks statement (phase_4_list statement plans) ≡ Ok (phase_4_list statement plans))
until_bodies_ok statement database plans is =
    let (found, is_found, rest) = bind_ok (until_plans statement database) _ plans is in
    let (asked, is_asked', last) = bind_ok (limited_locks statement (phase_4_list statement found)) _ plans rest in
    let e = limited_is statement (phase_4_list statement found) asked is_asked' in
    ok_keeps (λ l. (until_plans statement database ≡ Ok l) × (limited_locks statement (phase_4_list statement l) ≡ Ok (phase_4_list statement l))) found plans last
    (is_found, subst (λ l. limited_locks statement (phase_4_list statement found) ≡ Ok l) (sym e) is_asked')

-- ---- plans

-- a plan that is made is one of its row
misfit_ok : {X : Type 0} (k : ℕ) (r : Result X ShapeMisfit) (x : X) → misfit_in k r ≡ Ok x → r ≡ Ok x
misfit_ok k (Ok y) x is = let e : y ≡ x = cc in cc
misfit_ok k (Err fault) x is = absurd cc

-- what each row's plan has
pub plans-each : (request : Request) (P : ℕ × Row → Type 0) (Q : Plan → Type 0) → ((row : ℕ × Row) (plan : Plan) → P row → row_plan request row ≡ Ok plan → Q plan)
    → (rows : List (ℕ × Row)) (plans : List Plan) → AllByRecursion P rows → plans_of request rows ≡ Ok plans → AllByRecursion Q plans
plans-each request P Q gives [] plans all is = ok_keeps (AllByRecursion Q) [] plans is tt
plans-each request P Q gives (row ∷ rows) plans all is =
    let (plan, is_plan, rest) = bind_ok (misfit_in row.0 (row_plan request row)) _ plans is in
    let (others, found, last) = bind_ok (plans_of request rows) _ plans rest in
    ok_keeps (AllByRecursion Q) (plan ∷ others) plans last
    (gives row plan all.0 (misfit_ok row.0 (row_plan request row) plan is_plan), plans-each request P Q gives rows others all.1 found)

-- the same from the statement's rows on
pub until_plans-each : (statement : StatementTree) (database : Database) (P : Row → Type 0) (Q : Plan → Type 0)
    → ((row : ℕ × Row) (plan : Plan) → P row.1 → row_plan statement.request row ≡ Ok plan → Q plan)
    → (plans : List Plan) → AllByRecursion P (rows_of statement.request database) → until_plans statement database ≡ Ok plans → AllByRecursion Q plans
until_plans-each statement database P Q gives plans all is =
    let (passing, is_passing, are_plans) = until_plans_ok statement database plans is in
    let (rows, is_rows, pass) = until_passing_ok statement database passing is_passing in
    let (all_rows, asked) = until_domains_ok statement database rows (until_condition_ok statement database rows is_rows) in
    let R : ℕ × Row → Type 0 = λ row. P row.1 in
    plans-each statement.request R Q gives passing plans
    (passing-each R (where_of statement.request) rows passing pass
    (subst (AllByRecursion R) (sym (until_rows_ok statement database rows all_rows)) (each_numbered P 1 (rows_of statement.request database) all)))
    are_plans
