-- The plans of passing rows, over two databases that agree on the lists so far.
use Rattle.std.proofs.Common.{◌≡◌, ℕ, Bool, true, false, if◌then◌else◌, List, [], ◌∷◌, ◌++◌, map, flat_map, length, nat_lt, sum, Option, Some, None, Result, Ok, refl, ap, ◌∙◌, subst}
use Rattle.std.specs.List.{AllByRecursion, AllZip}
use Rattle.ras_cells.specs.Outcomes.{◌>>=◌}
use Rattle.ras_cells.specs.Stored.{atoms_of}
use Rattle.ras_domain.specs.declared.lock.Mode.TheVariants.{Exclusive}
use Rattle.ras_domain.specs.declared.lock.LockName.TheVariants as locks
use Rattle.ras_grid.specs.Grid.{places_meeting}
use Rattle.ras_syntax.specs.declared.span.Span.{Span}
use Rattle.ras_syntax.specs.declared.types.SetType.{SetType}
use Rattle.ras_syntax.specs.declared.typed.CheckedSource.{CheckedSource}
use Rattle.spec_expressions.specs.Database.{Database, Member}
use Rattle.spec_expressions.specs.Eval.{box_in, domains_in}
use Rattle.spec_expressions.specs.Reach.{Reached, reach_of}
use Rattle.spec_expressions.specs.Shape.{Box, Cut, ShapeMisfit, Shape, scalar, box_of, cuts_of, kept_axes, shape_of}
use Rattle.ras_domain.specs.Boxes.{is_same_box}
use Rattle.spec_expressions.specs.Tree.{Axes, Condition, Tree}
use Rattle.spec_expressions.specs.WellTyped.{IsWellTyped, IsWellTypedCondition}
use Rattle.spec_statements.specs.Agree.{Agrees}
use Rattle.spec_statements.specs.Plans.{Plan, Writing, allowed_writing, equal_domains, insert_plan, misfit_in, plans_of, read_plan, row_plan, span_in, target_box, update_plan, updated_domain, writing_over, written_plan}
use Rattle.spec_statements.specs.Phases.{changed_tiles, grown_locks, needs_2, needs_3, needs_4, phase_4_list, plan_locks, read_tiles, tile_lock, until_bodies, until_passing, until_plans, write_locks}
use Rattle.spec_statements.specs.Limits.{is_select, limited_locks, limited_reply, reply_cells}
use Rattle.spec_statements.specs.Locks.{Lock, lock_list}
use Rattle.spec_statements.specs.ReachLaw.{AreNamedIn, Names}
use Rattle.spec_statements.specs.Rows.{Row, environment_of, sources_of, where_of}
use Rattle.spec_statements.specs.Statement.{Request, StatementTree, select, insert, delete, update, create, drop}
use Rattle.law_lists.proofs.Each.{split_all}
use Rattle.law_reach.specs.Alike.{AreAlike, StoreSame}
use Rattle.law_locks.specs.Plans.{IsAlikePlan}
use Rattle.law_locks.proofs.Pairs.{AreListed, ArePairs, IsOver}
use Rattle.law_locks.proofs.Reading.{domains_same, read_same, read_tiles_same}
use Rattle.law_locks.proofs.Sides.{Alike, Alike-bind, Alike-both, Alike-limited, each_piece, zip-same_flat_map, zip-same_map, zip-weaker, zip-with}
use Rattle.law_locks.proofs.Steps.{IsRowAlike, if_alike, lists_same, misfit_same, passing_same, phase_listed}
use Rattle.ras_syntax.specs.declared.limits.TheConstants.{MAX_REPLY_CELLS}

-- the expression whose cells are answered or stored
abbrev pub body_in : Request → Option Tree
body_in (select body sources condition) = Some body
body_in (insert into of body) = Some body
body_in (delete source condition) = None
body_in (update source axes target body condition) = Some body
body_in (create name of) = None
body_in (drop name) = None

abbrev pub IsTypedBody : List CheckedSource → Option Tree → Type 0
IsTypedBody sources None = Unit {0}
IsTypedBody sources (Some body) = IsWellTyped sources [] body

abbrev pub HasBodyShape : Option Tree → Row → Shape → Type 0
HasBodyShape None row shape = Unit {0}
HasBodyShape (Some body) row shape = shape_of (domains_in (environment_of row)) body ≡ Ok shape

-- both rows have the same stored numbers where the body reads
abbrev pub IsReadSame : Option Tree → Row → Row → Type 0
IsReadSame None r s = Unit {0}
IsReadSame (Some body) r s = StoreSame r s (reach_of (domains_in (environment_of r)) [] body (box_in (shape_of (domains_in (environment_of r)) body)))

updated_same : (r s : Row) → AreAlike r s → updated_domain r ≡ updated_domain s
updated_same [] [] alike = refl
updated_same [] (b ∷ bs) alike = absurd alike
updated_same (a ∷ as_) [] alike = absurd alike
updated_same (a ∷ as_) (b ∷ bs) alike = alike.0.domain

-- ---- the locks of a plan

grown_same : (collection : List ℕ) (a b : Member) (writing : Writing) → AreAlike (a ∷ []) (b ∷ []) → grown_locks collection a writing ≡ grown_locks collection b writing
grown_same collection a b writing alike = λ i.
    if is_same_box (alike.0.domain i) writing.grown then []
    else (locks.Domain collection (alike.0.oid i), Exclusive)
    ∷ map (tile_lock collection (alike.0.oid i) Exclusive) (changed_tiles (alike.0.of i).extents.items (alike.0.domain i) writing.grown)

write_same : (collection : List ℕ) (r s : Row) (writing : Option Writing) → AreAlike r s → write_locks collection r writing ≡ write_locks collection s writing
write_same collection r s None alike = refl
write_same collection [] [] (Some writing) alike = refl
write_same collection [] (b ∷ bs) (Some writing) alike = absurd alike
write_same collection (a ∷ as_) [] (Some writing) alike = absurd alike
write_same collection (a ∷ as_) (b ∷ bs) (Some writing) alike = λ i.
    map (tile_lock collection (alike.0.oid i) Exclusive) (places_meeting (alike.0.of i).extents.items writing.region)
    ++ grown_same collection a b writing (alike.0, tt) i

plan_locks_same : (request : Request) (a b : Plan) → IsAlikePlan a b → plan_locks request a ≡ plan_locks request b
plan_locks_same (select body sources condition) a b alike = read_tiles_same sources body a.number a.row b.row alike.row
plan_locks_same (insert into of body) a b alike = refl
plan_locks_same (delete source condition) a b alike = refl
plan_locks_same (update source axes target body condition) a b alike =
    let reads : read_tiles (source ∷ []) body (a.number, a.row) ≡ read_tiles (source ∷ []) body (b.number, b.row) = read_tiles_same (source ∷ []) body a.number a.row b.row alike.row in
    let writes : write_locks source.collection a.row a.writing ≡ write_locks source.collection b.row b.writing =
    write_same source.collection a.row b.row a.writing alike.row ∙ ap (write_locks source.collection b.row) alike.writing in
    λ i. reads i ++ writes i
plan_locks_same (create name of) a b alike = refl
plan_locks_same (drop name) a b alike = refl

-- ---- an update's plan by the domains that it looks at

abbrev update_over : SetType → Span → Tree → Option Axes → List Box → Box → ℕ × Row → Result Plan ShapeMisfit
update_over of target body None domains domain row = do
  shape ← shape_of domains body
  written_plan of body [] shape (writing_over domain (box_of shape) (box_of shape)) row
update_over of target body (Some axes) domains domain row = do
  cuts ← cuts_of domains axes domain
  region ← target_box target (length (atoms_of of.cell)) cuts
  shape ← shape_of domains body
  same ← equal_domains (span_in body) (box_of shape) (kept_axes cuts)
  written_plan of body cuts shape (writing_over domain region (box_of shape)) row

update_is : (of : SetType) (target : Span) (body : Tree) (axes : Option Axes) (row : ℕ × Row)
    → update_over of target body axes (domains_in (environment_of row.1)) (updated_domain row.1) row ≡ update_plan of target body axes row
update_is of target body None row = refl
update_is of target body (Some axes) row = refl

module _ (types : List SetType) (one other : Database) where
  -- plans that do the same, of rows with the same identifiers, and a body that has a shape
  pub record IsPlanPair (request : Request) (a b : Plan) : Type 0 where
    pub alike : IsAlikePlan a b
    pub pairs : ArePairs types one other (sources_of request) a.row b.row
    pub shaped : HasBodyShape (body_in request) a.row a.shape

  -- and the same stored numbers where the body reads
  abbrev pub IsBodyPair : Request → Plan → Plan → Type 0
  IsBodyPair request a b = IsPlanPair request a b × IsReadSame (body_in request) a.row b.row

  -- ---- a plan

  planned_pair : (request : Request) (cuts : List Cut) (shape : Shape) (v w : Option Writing) (a b : ℕ × Row) → v ≡ w
      → IsRowAlike types one other (sources_of request) a b → HasBodyShape (body_in request) a.1 shape
      → IsPlanPair request (record { number = a.0; row = a.1; shape = shape; cuts = cuts; writing = v }) (record { number = b.0; row = b.1; shape = shape; cuts = cuts; writing = w })
  planned_pair request cuts shape v w a b same alike shaped = record {
    alike = record { number = alike.0; row = alike.2; shape = refl; cuts = refl; writing = same };
    pairs = alike.1;
    shaped = shaped;
  }

  written_same : (request : Request) (of : SetType) (body : Tree) (cuts : List Cut) (shape : Shape) (writing : Writing) (a b : ℕ × Row)
      → IsRowAlike types one other (sources_of request) a b → HasBodyShape (body_in request) a.1 shape
      → Alike (IsPlanPair request) (written_plan of body cuts shape writing a) (written_plan of body cuts shape writing b)
  written_same request of body cuts shape writing a b alike shaped =
      Alike-both (IsPlanPair request) (allowed_writing of (span_in body) writing) _ _ (λ allowed is. planned_pair request cuts shape (Some allowed) (Some allowed) a b refl alike shaped)

  update_same : (source : CheckedSource) (written axes : Option Axes) (place target : Span) (body : Tree) (condition : Condition) (a b : ℕ × Row)
      → IsRowAlike types one other (source ∷ []) a b
      → Alike (IsPlanPair (update source written place body condition))
      (update_over source.of target body axes (domains_in (environment_of a.1)) (updated_domain a.1) a)
      (update_over source.of target body axes (domains_in (environment_of a.1)) (updated_domain a.1) b)
  update_same source written None place target body condition a b alike =
      let P : Plan → Plan → Type 0 = IsPlanPair (update source written place body condition) in
      Alike-both P (shape_of (domains_in (environment_of a.1)) body) _ _ (λ shape is. written_same (update source written place body condition) source.of body [] shape _ a b alike is)
  update_same source written (Some axes) place target body condition a b alike =
      let P : Plan → Plan → Type 0 = IsPlanPair (update source written place body condition) in
      Alike-both P (cuts_of (domains_in (environment_of a.1)) axes (updated_domain a.1)) _ _ (λ cuts is_1.
      Alike-both P (target_box target (length (atoms_of source.of.cell)) cuts) _ _ (λ region is_2.
      Alike-both P (shape_of (domains_in (environment_of a.1)) body) _ _ (λ shape is_3.
      Alike-both P (equal_domains (span_in body) (box_of shape) (kept_axes cuts)) _ _ (λ same is_4.
      written_same (update source written place body condition) source.of body cuts shape _ a b alike is_3))))

  row_plan_same : (request : Request) (a b : ℕ × Row) → IsRowAlike types one other (sources_of request) a b → Alike (IsPlanPair request) (row_plan request a) (row_plan request b)
  row_plan_same (select body sources condition) a b alike =
      let P : Plan → Plan → Type 0 = IsPlanPair (select body sources condition) in
      subst (λ domains. Alike P (read_plan body a) (shape_of domains body >>= λ shape. Ok
      (record { number = b.0; row = b.1; shape = shape; cuts = []; writing = None }))) (domains_same a.1 b.1 alike.2)
      (Alike-both P (shape_of (domains_in (environment_of a.1)) body) _ _ (λ shape is. planned_pair (select body sources condition) [] shape None None a b refl alike is))
  row_plan_same (insert into of body) a b alike =
      let P : Plan → Plan → Type 0 = IsPlanPair (insert into of body) in
      subst (λ domains. Alike P (insert_plan of body a) (shape_of domains body >>= λ shape. written_plan of body [] shape
      (record { region = box_of shape; grown = box_of shape; body = box_of shape }) b)) (domains_same a.1 b.1 alike.2)
      (Alike-both P (shape_of (domains_in (environment_of a.1)) body) _ _ (λ shape is. written_same (insert into of body) of body [] shape _ a b alike is))
  row_plan_same (delete source condition) a b alike = planned_pair (delete source condition) [] scalar None None a b refl alike tt
  row_plan_same (update source axes target body condition) a b alike =
      let P : Plan → Plan → Type 0 = IsPlanPair (update source axes target body condition) in
      subst (λ r. Alike P r (update_plan source.of target body axes b)) (update_is source.of target body axes a)
      (subst (λ r. Alike P (update_over source.of target body axes (domains_in (environment_of a.1)) (updated_domain a.1) a) r) (update_is source.of target body axes b)
      (subst (λ domains. Alike P (update_over source.of target body axes (domains_in (environment_of a.1)) (updated_domain a.1) a)
      (update_over source.of target body axes domains (updated_domain b.1) b)) (domains_same a.1 b.1 alike.2)
      (subst (λ domain. Alike P (update_over source.of target body axes (domains_in (environment_of a.1)) (updated_domain a.1) a)
      (update_over source.of target body axes (domains_in (environment_of a.1)) domain b)) (updated_same a.1 b.1 alike.2)
      (update_same source axes axes target target body condition a b alike))))
  row_plan_same (create name of) a b alike = planned_pair (create name of) [] scalar None None a b refl alike tt
  row_plan_same (drop name) a b alike = planned_pair (drop name) [] scalar None None a b refl alike tt

  -- ---- all plans

  plans_same : (request : Request) (rows others : List (ℕ × Row)) → AllZip (IsRowAlike types one other (sources_of request)) rows others
      → Alike (AllZip (IsPlanPair request)) (plans_of request rows) (plans_of request others)
  plans_same request [] [] alike = tt
  plans_same request [] (b ∷ bs) alike = absurd alike
  plans_same request (a ∷ as_) [] alike = absurd alike
  plans_same request (a ∷ as_) (b ∷ bs) alike =
      Alike-bind (IsPlanPair request) (AllZip (IsPlanPair request)) (misfit_in a.0 (row_plan request a)) (misfit_in b.0 (row_plan request b)) _ _
      (misfit_same (IsPlanPair request) a.0 b.0 (row_plan request a) (row_plan request b) alike.0.0 (row_plan_same request a b alike.0))
      (λ x y left right pair. Alike-bind (AllZip (IsPlanPair request)) (AllZip (IsPlanPair request)) (plans_of request as_) (plans_of request bs) _ _ (plans_same request as_ bs alike.1)
      (λ xs ys first second rest. (pair, rest)))

  reply_same : (tree : StatementTree) (selects : Bool) (plans others : List Plan) → AllZip (IsPlanPair tree.request) plans others
      → Alike (AllZip (IsPlanPair tree.request)) (if selects then limited_reply tree plans else Ok plans) (if selects then limited_reply tree others else Ok others)
  reply_same tree true plans others pairs =
      if_alike (AllZip (IsPlanPair tree.request)) (nat_lt MAX_REPLY_CELLS (sum (map (λ plan. reply_cells plan.shape) plans)))
      (nat_lt MAX_REPLY_CELLS (sum (map (λ plan. reply_cells plan.shape) others))) _ plans others
      (ap (λ ns. nat_lt MAX_REPLY_CELLS (sum ns)) (zip-same_map (IsPlanPair tree.request) (λ plan. reply_cells plan.shape) (λ plan. reply_cells plan.shape)
      (λ a b pair. ap reply_cells pair.alike.shape) plans others pairs)) pairs
  reply_same tree false plans others pairs = pairs

  phase_4_same : (tree : StatementTree) (plans others : List Plan) → AllZip (IsPlanPair tree.request) plans others → phase_4_list tree plans ≡ phase_4_list tree others
  phase_4_same tree plans others pairs =
      ap lock_list (zip-same_flat_map (IsPlanPair tree.request) (plan_locks tree.request) (plan_locks tree.request)
      (λ a b pair. plan_locks_same tree.request a b pair.alike) plans others pairs)

  module _ (list : List Lock) (agrees : Agrees types list one other) (tree : StatementTree) (over : AllByRecursion (IsOver types one other) (sources_of tree.request))
      (typed : IsWellTypedCondition (sources_of tree.request) [] (where_of tree.request)) (second : AreNamedIn (needs_2 tree one) list) (third : AreNamedIn (needs_3 tree one) list) where
    until_plans_same : Alike (AllZip (IsPlanPair tree.request)) (until_plans tree one) (until_plans tree other)
    until_plans_same =
        Alike-bind (AllZip (IsRowAlike types one other (sources_of tree.request))) (AllZip (IsPlanPair tree.request)) (until_passing tree one)
        (until_passing tree other) _ _ (passing_same types one other list agrees tree over typed second third)
        (λ rows others left right alike. Alike-bind (AllZip (IsPlanPair tree.request)) (AllZip (IsPlanPair tree.request)) (plans_of tree.request rows)
        (plans_of tree.request others) _ _ (plans_same tree.request rows others alike)
        (λ plans more first second pairs. reply_same tree (is_select tree.request) plans more pairs))

    pub needs_4_same : needs_4 tree one ≡ needs_4 tree other
    needs_4_same = lists_same (AllZip (IsPlanPair tree.request)) tree (until_plans tree one) (until_plans tree other) (phase_4_list tree) (phase_4_list tree)
        until_plans_same (phase_4_same tree)

    -- ---- what the bodies read

    reads_none : (r s : Row) (reached : Reached) → ArePairs types one other [] r s → StoreSame r s reached
    reads_none [] [] reached pairs = λ place axes p a b has within left right. absurd cc
    reads_none [] (b ∷ bs) reached pairs = absurd pairs
    reads_none (a ∷ as_) bs reached pairs = absurd pairs

    body_read : (request : Request) (a b : Plan) → IsPlanPair request a b → AreListed list (plan_locks request a) → IsReadSame (body_in request) a.row b.row
    body_read (select body sources condition) a b pair listed = read_same types one other list agrees sources body a.number a.row b.row pair.pairs pair.alike.row listed
    body_read (insert into of body) a b pair listed = reads_none a.row b.row _ pair.pairs
    body_read (delete source condition) a b pair listed = tt
    body_read (update source axes target body condition) a b pair listed =
        read_same types one other list agrees (source ∷ []) body a.number a.row b.row pair.pairs pair.alike.row
        (split_all (λ lock. Names list lock.0) (read_tiles (source ∷ []) body (a.number, a.row)) (write_locks source.collection a.row a.writing) listed).0
    body_read (create name of) a b pair listed = tt
    body_read (drop name) a b pair listed = tt

    pub bodies_same : AreNamedIn (needs_4 tree one) list → Alike (AllZip (IsBodyPair tree.request)) (until_bodies tree one) (until_bodies tree other)
    bodies_same covers =
        Alike-bind (AllZip (IsPlanPair tree.request)) (AllZip (IsBodyPair tree.request)) (until_plans tree one) (until_plans tree other) _ _ until_plans_same
        (λ plans others left right pairs. Alike-limited (AllZip (IsBodyPair tree.request)) tree (phase_4_list tree plans) (phase_4_list tree others) (λ asked. Ok plans)
        (λ asked. Ok others) (phase_4_same tree plans others pairs)
        (λ limited.
        let listed : AreListed list (flat_map (plan_locks tree.request) plans) = phase_listed list (until_plans tree one) plans
        (λ plans. limited_locks tree (phase_4_list tree plans)) (flat_map (plan_locks tree.request) plans) covers left limited in
        zip-weaker (λ a b. IsPlanPair tree.request a b × AreListed list (plan_locks tree.request a)) (IsBodyPair tree.request)
        (λ a b h. (h.0, body_read tree.request a b h.0 h.1)) plans others
        (zip-with (IsPlanPair tree.request) (λ a. AreListed list (plan_locks tree.request a)) plans others pairs
        (each_piece (λ lock. Names list lock.0) (plan_locks tree.request) plans listed))))
