-- The steps up to a statement's passing rows, over two databases that agree on the lists so far.
use Rattle.std.proofs.Common.{◌≡◌, ℕ, Bool, true, false, if◌then◌else◌, List, [], ◌∷◌, flat_map, length, nat_lt, Contains, Result, Ok, Err, refl, sym, ap, ◌∙◌, subst}
use Rattle.std.specs.List.{AllByRecursion, AllZip}
use Rattle.std.specs.Prelude.{IsTrue}
use Rattle.std.proofs.lemmas.Slice.Zip.{AllZip-long}
use Rattle.ras_cells.specs.declared.cell.CellFault.{CellFault}
use Rattle.ras_cells.specs.Outcomes.{◌>>=◌}
use Rattle.ras_domain.specs.declared.lock.LockName.TheVariants.{Domain}
use Rattle.ras_domain.specs.declared.lock.Mode.TheVariants.{Shared}
use Rattle.ras_domain.specs.Region.{IsIn}
use Rattle.ras_syntax.specs.declared.types.SetType.{SetType}
use Rattle.ras_syntax.specs.declared.typed.Kind.{Kind}
use Rattle.ras_syntax.specs.declared.typed.Kind.TheVariants as kinds
use Rattle.ras_syntax.specs.declared.typed.CheckedSource.{CheckedSource}
use Rattle.spec_expressions.specs.Database.{Database}
use Rattle.spec_expressions.specs.Eval.{box_in, domains_in, holds}
use Rattle.spec_expressions.specs.Fits.{IsAround, IsShapeOf}
use Rattle.spec_expressions.specs.Kinds.{is_scalar_bool}
use Rattle.spec_expressions.specs.Shape.{Box, ShapeMisfit, Shape, scalar, array, box, box_of, shape_of}
use Rattle.spec_expressions.specs.Tree.{Condition, Tree, always, only_where}
use Rattle.spec_expressions.specs.WellTyped.{IsWellTypedCondition, kind_in}
use Rattle.law_shapes.proofs.Agree.{shape-agrees}
use Rattle.law_cells.proofs.Scopes.{domains-members}
use Rattle.spec_statements.specs.Agree.{Agrees}
use Rattle.spec_statements.specs.Reply.{Reply}
use Rattle.spec_statements.specs.Phases.{condition_tiles, domain_locks, first_failing, list_or_none, needs_2, needs_3, passing_rows, phase_2_list, phase_3_list, shaped_condition, until_condition, until_domains, until_passing, until_rows}
use Rattle.spec_statements.specs.Limits.{limited_locks}
use Rattle.spec_statements.specs.Plans.{misfit_in}
use Rattle.spec_statements.specs.Locks.{Lock, lock_list}
use Rattle.spec_statements.specs.ReachLaw.{AreNamedIn, Names}
use Rattle.spec_statements.specs.Rows.{Row, asked_of, with_row_numbers, passes, passing_of, rows_of, environment_of, sources_of, where_of, fault_in_row}
use Rattle.spec_statements.specs.Statement.{StatementTree}
use Rattle.law_lists.proofs.Each.{each_weaker, each_itself}
use Rattle.law_shapes.proofs.ArrayParts.{HasConditionShape}
use Rattle.law_effects.proofs.LockNames.{asked_is_named}
use Rattle.law_reach.specs.Alike.{AreAlike}
use Rattle.law_reach.proofs.Moved.{around_itself}
use Rattle.law_reach.proofs.Reach.{reach-covers}
use Rattle.law_locks.proofs.Pairs.{AreListed, ArePairs, IsOver, left_fits, pairs_alike, rows_pair, zip-numbered, filter_at}
use Rattle.law_locks.proofs.Reading.{domains_same, read_same, read_tiles_same}
use Rattle.law_locks.proofs.Sides.{Alike, Alike-bind, Alike-limited, Alike-same, each_piece, same-Alike, zip-same_flat_map, zip-weaker, zip-with}
use Rattle.ras_syntax.specs.declared.limits.TheConstants.{MAX_ROWS}

-- what is asked for is in a list that covers it
covered_listed : (list asked : List Lock) → AreNamedIn (lock_list asked) list → AreListed list asked
covered_listed list asked covers =
    each_weaker (λ lock. Contains asked lock) (λ lock. Names list lock.0) (λ lock has. covers lock.0 (asked_is_named asked lock.0 lock.1 has)) asked (each_itself asked)

-- the list of a phase that is not too long
list_is : {A : Type 0} (r : Result A Reply) (a : A) (f : A → Result (List Lock) Reply) (asked : List Lock) → r ≡ Ok a → f a ≡ Ok asked → list_or_none (r >>= f) ≡ asked
list_is r a f asked is limited = ap (λ r. list_or_none (r >>= f)) is ∙ ap list_or_none limited

pub phase_listed : {A : Type 0} (list : List Lock) (r : Result A Reply) (a : A) (f : A → Result (List Lock) Reply) (asked : List Lock)
    → AreNamedIn (list_or_none (r >>= f)) list → r ≡ Ok a → f a ≡ Ok (lock_list asked) → AreListed list asked
phase_listed list r a f asked covers is limited =
    covered_listed list asked (subst (λ l. AreNamedIn l list) (list_is r a f (lock_list asked) is limited) covers)

-- lists of two sides that are equal
pub lists_same : {A B : Type 0} (R : A → B → Type 0) (statement : StatementTree) (r : Result A Reply) (s : Result B Reply) (f : A → List Lock) (g : B → List Lock)
    → Alike R r s → ((a : A) (b : B) → R a b → f a ≡ g b)
    → list_or_none (r >>= λ a. limited_locks statement (f a)) ≡ list_or_none (s >>= λ b. limited_locks statement (g b))
lists_same R statement r s f g both same =
    ap list_or_none (same-Alike (r >>= λ a. limited_locks statement (f a)) (s >>= λ b. limited_locks statement (g b))
    (Alike-bind R (λ x y. x ≡ y) r s (λ a. limited_locks statement (f a)) (λ b. limited_locks statement (g b)) both
    (λ a b left right h. Alike-same (λ x y. x ≡ y) (limited_locks statement (f a)) (limited_locks statement (g b)) (ap (limited_locks statement) (same a b h)) (λ x is. refl))))

pub if_alike : {A B E : Type 0} (R : A → B → Type 0) (s t : Bool) (e : E) (a : A) (b : B) → s ≡ t → R a b → Alike R (if s then Err e else Ok a) (if t then Err e else Ok b)
if_alike R true true e a b same both = refl
if_alike R false false e a b same both = both
if_alike R true false e a b same both = absurd cc
if_alike R false true e a b same both = absurd cc

pub misfit_same : {A B : Type 0} (R : A → B → Type 0) (k l : ℕ) (r : Result A ShapeMisfit) (s : Result B ShapeMisfit) → k ≡ l → Alike R r s → Alike R (misfit_in k r) (misfit_in l s)
misfit_same R k l (Ok a) (Ok b) same both = both
misfit_same R k l (Err e) (Err f) same both = let e' : e ≡ f = both in cc
misfit_same R k l (Ok a) (Err f) same both = absurd both
misfit_same R k l (Err e) (Ok b) same both = absurd both

-- ---- conditions

-- a point of every shape that a truth value has
scalar_point : (kind : Kind) (shape : Shape) → IsTrue (is_scalar_bool kind) → IsShapeOf kind shape → IsIn [] (box_of shape)
scalar_point (kinds.Scalar cell) scalar is fits = tt
scalar_point (kinds.Scalar cell) (array axes) is fits = absurd fits
scalar_point (kinds.Scalar cell) (box axes) is fits = absurd fits
scalar_point (kinds.Array cell n) shape is fits = absurd cc
scalar_point (kinds.Domain n) shape is fits = absurd cc
scalar_point (kinds.Point n) shape is fits = absurd cc

module _ (types : List SetType) (one other : Database) where
  -- rows with the same number, of members with the same identifiers
  abbrev IsRowPair : List CheckedSource → ℕ × Row → ℕ × Row → Type 0
  IsRowPair sources a b = (a.0 ≡ b.0) × ArePairs types one other sources a.1 b.1

  -- and the same domains
  abbrev pub IsRowAlike : List CheckedSource → ℕ × Row → ℕ × Row → Type 0
  IsRowAlike sources a b = (a.0 ≡ b.0) × ArePairs types one other sources a.1 b.1 × AreAlike a.1 b.1

  -- and a condition that has a shape
  abbrev IsRowShaped : List CheckedSource → Condition → ℕ × Row → ℕ × Row → Type 0
  IsRowShaped sources condition a b = IsRowAlike sources a b × HasConditionShape (domains_in (environment_of a.1)) condition

  -- ---- the rows

  rows_same : (tree : StatementTree) → AllByRecursion (IsOver types one other) (sources_of tree.request)
      → Alike (AllZip (IsRowPair (sources_of tree.request))) (until_rows tree one) (until_rows tree other)
  rows_same tree over =
      let rows = rows_pair types one other (sources_of tree.request) (asked_of (where_of tree.request)) over in
      if_alike (AllZip (IsRowPair (sources_of tree.request))) (nat_lt MAX_ROWS (length (rows_of tree.request one)))
      (nat_lt MAX_ROWS (length (rows_of tree.request other))) _ (with_row_numbers 1 (rows_of tree.request one)) (with_row_numbers 1 (rows_of tree.request other))
      (ap (nat_lt MAX_ROWS) (sym (AllZip-long (ArePairs types one other (sources_of tree.request)) (rows_of tree.request one) (rows_of tree.request other) rows)))
      (zip-numbered (ArePairs types one other (sources_of tree.request)) 1 (rows_of tree.request one) (rows_of tree.request other) rows)

  domain_locks_same : (sources : List CheckedSource) (k l : ℕ) (r s : Row) → ArePairs types one other sources r s → domain_locks sources (k, r) ≡ domain_locks sources (l, s)
  domain_locks_same [] k l [] [] pairs = refl
  domain_locks_same [] k l [] (b ∷ bs) pairs = absurd pairs
  domain_locks_same [] k l (a ∷ as_) bs pairs = absurd pairs
  domain_locks_same (source ∷ sources) k l [] bs pairs = absurd pairs
  domain_locks_same (source ∷ sources) k l (a ∷ as_) [] pairs = absurd pairs
  domain_locks_same (source ∷ sources) k l (a ∷ as_) (b ∷ bs) pairs =
      λ i. (Domain source.collection (pairs.0.oid i), Shared) ∷ domain_locks_same sources k l as_ bs pairs.1 i

  phase_2_same : (tree : StatementTree) (rows others : List (ℕ × Row)) → AllZip (IsRowPair (sources_of tree.request)) rows others → phase_2_list tree rows ≡ phase_2_list tree others
  phase_2_same tree rows others pairs =
      ap lock_list (zip-same_flat_map (IsRowPair (sources_of tree.request)) (domain_locks (sources_of tree.request)) (domain_locks (sources_of tree.request))
      (λ a b pair. domain_locks_same (sources_of tree.request) a.0 b.0 a.1 b.1 pair.1) rows others pairs)

  pub needs_2_same : (tree : StatementTree) → AllByRecursion (IsOver types one other) (sources_of tree.request) → needs_2 tree one ≡ needs_2 tree other
  needs_2_same tree over =
      lists_same (AllZip (IsRowPair (sources_of tree.request))) tree (until_rows tree one) (until_rows tree other) (phase_2_list tree) (phase_2_list tree)
      (rows_same tree over) (phase_2_same tree)

  -- ---- with their domains

  module _ (list : List Lock) (agrees : Agrees types list one other) where
    domains_alike : (tree : StatementTree) → AllByRecursion (IsOver types one other) (sources_of tree.request) → AreNamedIn (needs_2 tree one) list
        → Alike (AllZip (IsRowAlike (sources_of tree.request))) (until_domains tree one) (until_domains tree other)
    domains_alike tree over covers =
        let sources : List CheckedSource = sources_of tree.request in
        Alike-bind (AllZip (IsRowPair sources)) (AllZip (IsRowAlike sources)) (until_rows tree one) (until_rows tree other) _ _ (rows_same tree over)
        (λ rows others left right pairs. Alike-limited (AllZip (IsRowAlike sources)) tree (phase_2_list tree rows) (phase_2_list tree others) (λ asked. Ok rows)
        (λ asked. Ok others) (phase_2_same tree rows others pairs)
        (λ limited.
        let listed : AreListed list (flat_map (domain_locks sources) rows) = phase_listed list (until_rows tree one) rows
        (λ rows. limited_locks tree (phase_2_list tree rows)) (flat_map (domain_locks sources) rows) covers left limited in
        zip-weaker (λ a b. IsRowPair sources a b × AreListed list (domain_locks sources a)) (IsRowAlike sources)
        (λ a b h. (h.0.0, h.0.1, pairs_alike types one other list sources a.1 b.1 agrees h.1 h.0.1)) rows others
        (zip-with (IsRowPair sources) (λ a. AreListed list (domain_locks sources a)) rows others pairs (each_piece (λ lock. Names list lock.0) (domain_locks sources) rows listed))))

    -- ---- with shapes of the condition

    shape_same : (sources : List CheckedSource) (a b : ℕ × Row) (c : Tree) → IsRowAlike sources a b
        → Alike (λ x y. shape_of (domains_in (environment_of a.1)) c ≡ Ok x) (misfit_in a.0 (shape_of (domains_in (environment_of a.1)) c))
        (misfit_in b.0 (shape_of (domains_in (environment_of b.1)) c))
    shape_same sources a b c alike =
        misfit_same (λ x y. shape_of (domains_in (environment_of a.1)) c ≡ Ok x) a.0 b.0 (shape_of (domains_in (environment_of a.1)) c) (shape_of (domains_in (environment_of b.1)) c) alike.0
        (Alike-same (λ x y. shape_of (domains_in (environment_of a.1)) c ≡ Ok x) (shape_of (domains_in (environment_of a.1)) c)
        (shape_of (domains_in (environment_of b.1)) c) (ap (λ domains. shape_of domains c) (domains_same a.1 b.1 alike.2)) (λ x is. is))

    shaped_same : (sources : List CheckedSource) (condition : Condition) (rows others : List (ℕ × Row)) → AllZip (IsRowAlike sources) rows others
        → Alike (AllZip (IsRowShaped sources condition)) (shaped_condition condition rows) (shaped_condition condition others)
    shaped_same sources always rows others alike = zip-weaker (IsRowAlike sources) (IsRowShaped sources always) (λ a b h. (h, tt)) rows others alike
    shaped_same sources (only_where c) [] [] alike = tt
    shaped_same sources (only_where c) [] (b ∷ bs) alike = absurd alike
    shaped_same sources (only_where c) (a ∷ as_) [] alike = absurd alike
    shaped_same sources (only_where c) (a ∷ as_) (b ∷ bs) alike =
        Alike-bind (λ x y. shape_of (domains_in (environment_of a.1)) c ≡ Ok x) (AllZip (IsRowShaped sources (only_where c)))
        (misfit_in a.0 (shape_of (domains_in (environment_of a.1)) c)) (misfit_in b.0 (shape_of (domains_in (environment_of b.1)) c)) _ _ (shape_same sources a b c alike.0)
        (λ x y left right shaped. Alike-bind (AllZip (IsRowShaped sources (only_where c))) (AllZip (IsRowShaped sources (only_where c)))
        (shaped_condition (only_where c) as_) (shaped_condition (only_where c) bs) _ _ (shaped_same sources (only_where c) as_ bs alike.1)
        (λ xs ys first second rest. ((alike.0, (x, shaped)), rest)))

    condition_same : (tree : StatementTree) → AllByRecursion (IsOver types one other) (sources_of tree.request) → AreNamedIn (needs_2 tree one) list
        → Alike (AllZip (IsRowShaped (sources_of tree.request) (where_of tree.request))) (until_condition tree one) (until_condition tree other)
    condition_same tree over covers =
        Alike-bind (AllZip (IsRowAlike (sources_of tree.request))) (AllZip (IsRowShaped (sources_of tree.request) (where_of tree.request))) (until_domains tree one)
        (until_domains tree other) _ _ (domains_alike tree over covers)
        (λ rows others left right alike. shaped_same (sources_of tree.request) (where_of tree.request) rows others alike)

    condition_tiles_same : (sources : List CheckedSource) (condition : Condition) (a b : ℕ × Row) → IsRowAlike sources a b
        → condition_tiles sources condition a ≡ condition_tiles sources condition b
    condition_tiles_same sources always a b alike = refl
    condition_tiles_same sources (only_where c) a b alike = read_tiles_same sources c a.0 a.1 b.1 alike.2

    phase_3_same : (tree : StatementTree) (rows others : List (ℕ × Row)) → AllZip (IsRowShaped (sources_of tree.request) (where_of tree.request)) rows others
        → phase_3_list tree rows ≡ phase_3_list tree others
    phase_3_same tree rows others shaped =
        ap lock_list (zip-same_flat_map (IsRowShaped (sources_of tree.request) (where_of tree.request))
        (condition_tiles (sources_of tree.request) (where_of tree.request)) (condition_tiles (sources_of tree.request) (where_of tree.request))
        (λ a b h. condition_tiles_same (sources_of tree.request) (where_of tree.request) a b h.0) rows others shaped)

    pub needs_3_same : (tree : StatementTree) → AllByRecursion (IsOver types one other) (sources_of tree.request) → AreNamedIn (needs_2 tree one) list → needs_3 tree one ≡ needs_3 tree other
    needs_3_same tree over covers =
        lists_same (AllZip (IsRowShaped (sources_of tree.request) (where_of tree.request))) tree (until_condition tree one) (until_condition tree other)
        (phase_3_list tree) (phase_3_list tree) (condition_same tree over covers) (phase_3_same tree)

    -- ---- the rows that pass

    -- the condition has the same outcome in both rows
    passes_same : (sources : List CheckedSource) (condition : Condition) (a b : ℕ × Row) → IsWellTypedCondition sources [] condition → IsRowShaped sources condition a b
        → AreListed list (condition_tiles sources condition a) → passes condition a.1 ≡ passes condition b.1
    passes_same sources always a b typed shaped listed = refl
    passes_same sources (only_where c) a b typed shaped listed =
        let around : Box = box_in (shape_of (domains_in (environment_of a.1)) c) in
        let (shape, is) = shaped.1 in
        let members = left_fits types one other sources a.1 b.1 shaped.0.1 in
        let same : around ≡ box_of shape = ap box_in is in
        let point : IsIn [] (box_of shape) =
        scalar_point (kind_in c) shape typed.1 (shape-agrees sources [] (domains_in (environment_of a.1)) c shape typed.0 (domains-members sources a.1 members) is) in
        ap (λ r. r >>= λ x. Ok (holds x))
        (reach-covers sources [] [] (environment_of a.1) (environment_of b.1) c shape around [] typed.0 members shaped.0.2 refl tt is
        (subst (IsAround shape) (sym same) (around_itself shape)) (read_same types one other list agrees sources c a.0 a.1 b.1 shaped.0.1 shaped.0.2 listed)
        (subst (IsIn []) (sym same) point))

    abbrev IsRowTested : List CheckedSource → Condition → ℕ × Row → ℕ × Row → Type 0
    IsRowTested sources condition a b = IsRowAlike sources a b × (passes condition a.1 ≡ passes condition b.1)

    passing_of_same : (sources : List CheckedSource) (condition : Condition) (rows others : List (ℕ × Row)) → AllZip (IsRowTested sources condition) rows others
        → Alike (AllZip (IsRowAlike sources)) (passing_of condition rows) (passing_of condition others)
    passing_of_same sources condition [] [] tested = tt
    passing_of_same sources condition [] (b ∷ bs) tested = absurd tested
    passing_of_same sources condition (a ∷ as_) [] tested = absurd tested
    passing_of_same sources condition (a ∷ as_) (b ∷ bs) tested =
        let same : fault_in_row a.0 (passes condition a.1) ≡ fault_in_row b.0 (passes condition b.1) = λ i. fault_in_row (tested.0.0.0 i) (tested.0.1 i) in
        Alike-bind (λ x y. x ≡ y) (AllZip (IsRowAlike sources)) (fault_in_row a.0 (passes condition a.1)) (fault_in_row b.0 (passes condition b.1)) _ _
        (Alike-same (λ x y. x ≡ y) (fault_in_row a.0 (passes condition a.1)) (fault_in_row b.0 (passes condition b.1)) same (λ x is. refl))
        (λ x y left right keeps. Alike-bind (AllZip (IsRowAlike sources)) (AllZip (IsRowAlike sources)) (passing_of condition as_) (passing_of condition bs) _ _
        (passing_of_same sources condition as_ bs tested.1)
        (λ xs ys first second rest. filter_at (IsRowAlike sources) a b xs ys x y keeps tested.0.0 rest))

    failing_same : (sources : List CheckedSource) (r s : Result (List (ℕ × Row)) (ℕ × CellFault)) → Alike (AllZip (IsRowAlike sources)) r s
        → Alike (AllZip (IsRowAlike sources)) (first_failing r) (first_failing s)
    failing_same sources (Ok rows) (Ok others) both = both
    failing_same sources (Err e) (Err f) both = let same : e ≡ f = both in cc
    failing_same sources (Ok rows) (Err f) both = absurd both
    failing_same sources (Err e) (Ok others) both = absurd both

    pub passing_same : (tree : StatementTree) → AllByRecursion (IsOver types one other) (sources_of tree.request)
        → IsWellTypedCondition (sources_of tree.request) [] (where_of tree.request) → AreNamedIn (needs_2 tree one) list → AreNamedIn (needs_3 tree one) list
        → Alike (AllZip (IsRowAlike (sources_of tree.request))) (until_passing tree one) (until_passing tree other)
    passing_same tree over typed covers more =
        let sources : List CheckedSource = sources_of tree.request in
        let condition : Condition = where_of tree.request in
        Alike-bind (AllZip (IsRowShaped sources condition)) (AllZip (IsRowAlike sources)) (until_condition tree one) (until_condition tree other) _ _ (condition_same tree over covers)
        (λ rows others left right shaped. Alike-limited (AllZip (IsRowAlike sources)) tree (phase_3_list tree rows) (phase_3_list tree others)
        (λ asked. passing_rows condition rows) (λ asked. passing_rows condition others) (phase_3_same tree rows others shaped)
        (λ limited.
        let listed : AreListed list (flat_map (condition_tiles sources condition) rows) = phase_listed list (until_condition tree one) rows
        (λ rows. limited_locks tree (phase_3_list tree rows)) (flat_map (condition_tiles sources condition) rows) more left limited in
        failing_same sources (passing_of condition rows) (passing_of condition others)
        (passing_of_same sources condition rows others
        (zip-weaker (λ a b. IsRowShaped sources condition a b × AreListed list (condition_tiles sources condition a)) (IsRowTested sources condition)
        (λ a b h. (h.0.0, passes_same sources condition a b typed h.0 h.1)) rows others
        (zip-with (IsRowShaped sources condition) (λ a. AreListed list (condition_tiles sources condition a)) rows others shaped
        (each_piece (λ lock. Names list lock.0) (condition_tiles sources condition) rows listed))))))
