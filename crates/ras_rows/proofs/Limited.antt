-- The rows of a statement, by the identifiers of its arrays.
use Rattle.std.proofs.Common.{◌≡◌, ℕ, ◌+◌, ◌<◌, ◌≤◌, List, [], ◌∷◌, ◌++◌, length, map, min, take, get_or, true, false, Option, Ok, Err, refl, sym, ap, ◌∙◌, arith}
use Rattle.std.specs.Prelude.{nat_lt, option_map}
use Rattle.std.proofs.lemmas.Bool.Decides.{nat_tests}
use Rattle.std.proofs.lemmas.List.{length-map, map-append, take_more}
use Rattle.ras_rows.specs.RowsKept.{AreRowsKept, Oids, members_named, row_count, rows_named}
use Rattle.ras_rows.proofs.Counts.{length-rows}
use Rattle.ras_syntax.specs.declared.faults.ShapeFault.TheVariants.{TooManyRows}
use Rattle.ras_syntax.specs.declared.limits.TheConstants.{MAX_ROWS}
use Rattle.ras_syntax.specs.declared.typed.CheckedSource.{CheckedSource}
use Rattle.ras_syntax.specs.declared.span.Span.{Span}
use Rattle.ras_syntax.specs.declared.typed.TypedExpr.{TypedExpr}
use Rattle.spec_expressions.specs.Tree.{condition_of, tree_of}
use Rattle.spec_shown.specs.Shown.{identifiers_shown, member_shown, members_shown, rows_shown}
use Rattle.spec_statements.specs.Limits.{limited_rows, whole_text}
use Rattle.spec_statements.specs.Reply.{misfit}
use Rattle.spec_statements.specs.Rows.{Row, asked_of, combinations, sources_of, where_of, with_row_numbers}
use Rattle.spec_statements.specs.Statement.{StatementTree}
use Rattle.spec_views.specs.Holdings.{Holdings}

-- the arrays of each source, where the identifiers are those of a function
pub members-same : (holdings : Holdings) (f : CheckedSource → List ℕ) (sources : List CheckedSource) (oids : List Oids) → map (λ (o : Oids). o.items) oids ≡ map f sources
    → members_named holdings sources oids ≡ map (λ (s : CheckedSource). map (member_shown holdings s) (f s)) sources
members-same holdings f [] [] is = refl
members-same holdings f [] (o ∷ oids) is = absurd cc
members-same holdings f (s ∷ sources) [] is = absurd cc
members-same holdings f (s ∷ sources) (o ∷ oids) is =
    let first : o.items ≡ f s = cc in
    let others : map (λ (x : Oids). x.items) oids ≡ map f sources = cc in
    ap (λ ids. map (member_shown holdings s) ids ∷ members_named holdings sources oids) first
    ∙ ap (λ rest. map (member_shown holdings s) (f s) ∷ rest) (members-same holdings f sources oids others)

pub each-source : (f : CheckedSource → List ℕ) (sources : List CheckedSource) (oids : List Oids) → map (λ (o : Oids). o.items) oids ≡ map f sources → length oids ≡ length sources
each-source f sources oids is = sym (length-map oids (λ (o : Oids). o.items)) ∙ ap length is ∙ length-map sources f

-- one source's identifiers more
pub identifiers-turn : (f : CheckedSource → List ℕ) (sources : List CheckedSource) (i : ℕ) (s : CheckedSource) (oids new : List Oids) (o : Oids) → i < length sources → s ≡ get_or sources i s
    → map (λ (x : Oids). x.items) oids ≡ map f (take i sources) → o.items ≡ f s → new ≡ oids ++ o ∷ [] → map (λ (x : Oids). x.items) new ≡ map f (take (i + 1) sources)
identifiers-turn f sources i s oids new o within s_is so_far o_is new_is =
    ap (map (λ (x : Oids). x.items)) new_is ∙ map-append (λ (x : Oids). x.items) oids (o ∷ [])
    ∙ ap (λ xs. xs ++ o.items ∷ []) so_far ∙ ap (λ x. map f (take i sources) ++ x ∷ []) (o_is ∙ ap f s_is)
    ∙ sym (map-append f (take i sources) (get_or sources i s ∷ [])) ∙ ap (map f) (sym (take_more sources i s within))

module _ (statement : StatementTree) (rows : List Row) (count many : ℕ) (counted : length rows ≡ many) (cut : count ≡ min many (MAX_ROWS + 1)) where
  pub too-many : MAX_ROWS < count → limited_rows statement rows ≡ Err (misfit 0 (whole_text statement) TooManyRows)
  too-many more =
      let is : nat_lt MAX_ROWS (length rows) ≡ true = grind (arith, nat_tests) in
      rw is refl

  pub few-rows : count ≤ MAX_ROWS → limited_rows statement rows ≡ Ok (with_row_numbers 1 rows)
  few-rows few =
      let is : nat_lt MAX_ROWS (length rows) ≡ false = grind (arith, nat_tests) in
      rw is refl

  pub counted-whole : count ≤ MAX_ROWS → count ≡ many
  counted-whole few = omega arith

-- ---- the rows of a statement

module _ (statement : StatementTree) (holdings : Holdings) (condition : Option TypedExpr) (sources : List CheckedSource) (oids : List Oids) (count : ℕ)
    (sources_are : sources ≡ sources_of statement.request) (where_is : condition_of (option_map tree_of condition) ≡ where_of statement.request)
    (each : map (λ (o : Oids). o.items) oids ≡ map (identifiers_shown holdings (asked_of (condition_of (option_map tree_of condition)))) sources)
    (cut : count ≡ min (row_count oids) (MAX_ROWS + 1)) where
  shown : rows_shown statement.request holdings ≡ combinations (members_named holdings sources oids)
  shown =
      ap (λ w. combinations (map (members_shown holdings (asked_of w)) (sources_of statement.request))) (sym where_is)
      ∙ ap (λ ss. combinations (map (members_shown holdings (asked_of (condition_of (option_map tree_of condition)))) ss)) (sym sources_are)
      ∙ ap combinations (sym (members-same holdings (identifiers_shown holdings (asked_of (condition_of (option_map tree_of condition)))) sources oids each))

  long : length oids ≡ length sources
  long = each-source (identifiers_shown holdings (asked_of (condition_of (option_map tree_of condition)))) sources oids each

  counted : length (rows_shown statement.request holdings) ≡ row_count oids
  counted = ap length shown ∙ length-rows holdings sources oids long

  pub rows-many : (span : Span) → span ≡ whole_text statement → MAX_ROWS < count → limited_rows statement (rows_shown statement.request holdings) ≡ Err (misfit 0 span TooManyRows)
  rows-many span whole more =
      too-many statement (rows_shown statement.request holdings) count (row_count oids) counted cut more ∙ ap (λ s. Err (misfit 0 s TooManyRows)) (sym whole)

  pub rows-few : count ≤ MAX_ROWS → limited_rows statement (rows_shown statement.request holdings) ≡ Ok (rows_named holdings sources oids)
  rows-few few =
      few-rows statement (rows_shown statement.request holdings) count (row_count oids) counted cut few ∙ ap (λ rows. Ok (with_row_numbers 1 rows)) shown

  pub rows-kept : count ≤ MAX_ROWS → AreRowsKept sources oids count
  rows-kept few = record {
    each_source = long;
    counted = counted-whole statement (rows_shown statement.request holdings) count (row_count oids) counted cut few;
    few = few;
  }
