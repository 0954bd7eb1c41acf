-- What a view shows of a statement over one database that it stands for, it shows of it over each.
use Rattle.std.proofs.Common.{◌≡◌, ℕ, zero, suc, ◌<◌, ◌≤◌, ℤ, inl, inr, List, [], ◌∷◌, ◌++◌, map, Contains, Option, Some, None, Result, Ok, false, refl, sym, subst, arith}
use Rattle.std.specs.List.{AllZip}
use Rattle.std.specs.Map.{keys_of}
use Rattle.std.specs.Option.{option_map}
use Rattle.std.specs.Prelude.{IfSome, IsTrue}
use Rattle.std.proofs.lemmas.Bool.{cases_eq, cases_lt}
use Rattle.std.proofs.lemmas.List.Elements.{Contains-append_cases, Contains-append_left, Contains-append_right}
use Rattle.arrayvec.specs.ArrayVec.{ArrayVec}
use Rattle.ras_domain.specs.declared.lock.LockName.{LockName}
use Rattle.ras_domain.specs.declared.lock.LockName.TheVariants.{Collection, Domain, Tile}
use Rattle.ras_syntax.specs.declared.limits.TheConstants.{MAX_IDENTIFIER}
use Rattle.ras_syntax.specs.declared.statement.Statement.{Statement}
use Rattle.ras_syntax.specs.declared.types.SetType.{SetType}
use Rattle.ras_syntax.specs.declared.typed.Checked.{Checked}
use Rattle.ras_syntax.specs.declared.typed.CheckedSource.{CheckedSource}
use Rattle.spec_expressions.specs.Database.{Collection as CollectionOf, Database, collection_of}
use Rattle.ras_syntax.specs.Literals.{statement_numbers_fit}
use Rattle.spec_expressions.specs.SetTypes.{AreTypes}
use Rattle.spec_statements.specs.Agree.{Agrees, collection_seen}
use Rattle.spec_statements.specs.Effects.{row_identifiers}
use Rattle.spec_statements.specs.Locks.{Lock}
use Rattle.spec_statements.specs.Machine.{checked_over, effect_of, first_list, is_too_long, needs_of, reply_of}
use Rattle.spec_statements.specs.Phases.{needs_2, needs_3, until_passing}
use Rattle.spec_statements.specs.ReachLaw.{AreNamedIn, HasParents, IsSetting, Names}
use Rattle.spec_statements.specs.Reply.{Reply}
use Rattle.spec_statements.specs.Rows.{Row, sources_of}
use Rattle.spec_statements.specs.Statement.{StatementTree, statement_tree_of}
use Rattle.spec_statements.specs.Validity.{IsValidFor}
use Rattle.law_effects.proofs.Parents.{parents_named}
use Rattle.law_effects.proofs.Phases.{first_is}
use Rattle.law_reach.specs.Alike.{AreAlike}
use Rattle.law_locks.proofs.Answers.{answers_agree}
use Rattle.law_locks.proofs.Collections.{checked_same}
use Rattle.law_locks.proofs.Lists.{known_here, later_covered, needs_agree}
use Rattle.law_locks.proofs.Sides.{Alike-bind, same-Alike, zip-same_map}
use Rattle.law_locks.proofs.Steps.{IsRowAlike, passing_same}
use Rattle.spec_views.specs.Holdings.{HasSmallNexts, Holdings, IsSeenBy, StandsFor, holding_in, lists_before, passing_by}
use Rattle.law_views.proofs.Standing.{stands-fewer, stands_agree}

-- ---- the lists before a phase

module _ (types : List SetType) (statement : Statement) (database : Database) where
  -- a name of them is one of an earlier phase's list
  pub listed_before : (phase : ℕ) (name : LockName) → Names (lists_before types statement phase database) name
      → (earlier : ℕ) × (earlier < phase) × Names (needs_of types statement earlier database) name
  listed_before zero name named = absurd (omega (arith, named.1.1))
  listed_before (suc phase) name named =
      elim (Contains-append_cases (lists_before types statement phase database) (needs_of types statement phase database) (name, named.0) named.1) [
        | inl before ↦ (let found = listed_before phase name (named.0, before) in (found.0, omega (arith, found.1), found.2))
        | inr here ↦ (phase, omega arith, (named.0, here))
      ]

  -- an earlier phase's list is among them
  pub earlier_listed : (earlier phase : ℕ) → earlier < phase → AreNamedIn (needs_of types statement earlier database) (lists_before types statement phase database)
  earlier_listed earlier zero before name named = absurd (omega arith)
  earlier_listed earlier (suc phase) before name named = elim (cases_eq earlier phase) [
    | inl same ↦ (
      named.0,
      Contains-append_right (lists_before types statement phase database) (needs_of types statement phase database) (name, named.0)
          (subst (λ p. Contains (needs_of types statement p database) (name, named.0)) same named.1),
    )
    | inr differs ↦ (
        let found = earlier_listed earlier phase (omega arith) name named in
        (found.0, Contains-append_left (lists_before types statement phase database) (needs_of types statement phase database) (name, found.0) found.1)
        )
  ]

  -- those of fewer phases are fewer
  pub fewer_lists : (phase : ℕ) → AreNamedIn (lists_before types statement phase database) (lists_before types statement (suc phase) database)
  fewer_lists phase name named =
      (named.0, Contains-append_left (lists_before types statement phase database) (needs_of types statement phase database) (name, named.0) named.1)

  pub before_parents : (phase : ℕ) → HasParents (lists_before types statement phase database)
  before_parents phase = record { domains = domains; tiles = tiles }
    where
      domains : (name : List ℕ) (id : ℕ) → Names (lists_before types statement phase database) (Domain name id)
          → Names (lists_before types statement phase database) (Collection name)
      domains name id named =
          let found = listed_before phase (Domain name id) named in
          let above = (parents_named types statement database found.0).0 name id found.2 in
          earlier_listed above.0 phase (omega (arith, found.1, above.1)) (Collection name) above.2

      tiles : (name : List ℕ) (id : ℕ) (place : ArrayVec ℤ) → Names (lists_before types statement phase database) (Tile name id place)
          → Names (lists_before types statement phase database) (Domain name id)
      tiles name id place named =
          let found = listed_before phase (Tile name id place) named in
          let above = (parents_named types statement database found.0).1 name id place found.2 in
          earlier_listed above.0 phase (omega (arith, found.1, above.1)) (Domain name id) above.2

-- alike rows have the same identifiers
pub identifiers_same : (r s : Row) → AreAlike r s → row_identifiers r ≡ row_identifiers s
identifiers_same [] [] alike = refl
identifiers_same [] (b ∷ bs) alike = absurd alike
identifiers_same (a ∷ as_) [] alike = absurd alike
identifiers_same (a ∷ as_) (b ∷ bs) alike = λ i. alike.0.oid i ∷ identifiers_same as_ bs alike.1 i

-- ---- over two databases

module _ (types : List SetType) (statement : Statement) (view : Holdings) (one other : Database) (setting : IsSetting types statement one) where
  -- another database that has what is held on the first one's lists
  next_needs : (phase : ℕ) → StandsFor types view (lists_before types statement phase one) one → IsValidFor types other
      → StandsFor types view (lists_before types statement phase one) other → needs_of types statement phase one ≡ needs_of types statement phase other
  next_needs phase stands valid also =
      needs_agree types statement one other (lists_before types statement phase one) phase setting valid
      (stands_agree types view (lists_before types statement phase one) one other (before_parents types statement one phase) stands also)
      (λ earlier before. earlier_listed types statement one earlier phase before)

  pub same_before : (phase : ℕ) → IsSeenBy types view statement phase one → IsValidFor types other
      → StandsFor types view (lists_before types statement phase one) other → lists_before types statement phase one ≡ lists_before types statement phase other
  same_before phase seen valid also = up_to phase seen.stands also
    where
      up_to : (phase : ℕ) → StandsFor types view (lists_before types statement phase one) one → StandsFor types view (lists_before types statement phase one) other
          → lists_before types statement phase one ≡ lists_before types statement phase other
      up_to zero stands also = refl
      up_to (suc phase) stands also =
          let fewer : AreNamedIn (lists_before types statement phase one) (lists_before types statement (suc phase) one) = fewer_lists types statement one phase in
          let stood = stands-fewer types view (lists_before types statement phase one) (lists_before types statement (suc phase) one) one fewer stands in
          let also_stood = stands-fewer types view (lists_before types statement phase one) (lists_before types statement (suc phase) one) other fewer also in
          let front = up_to phase stood also_stood in
          let last = next_needs phase stood valid also_stood in
          λ i. front i ++ last i

  -- each database on its own lists
  pub seen_lists : (phase : ℕ) → IsSeenBy types view statement phase one → IsSeenBy types view statement phase other
      → lists_before types statement phase one ≡ lists_before types statement phase other
  seen_lists phase seen also = up_to phase seen.stands also.stands
    where
      up_to : (phase : ℕ) → StandsFor types view (lists_before types statement phase one) one → StandsFor types view (lists_before types statement phase other) other
          → lists_before types statement phase one ≡ lists_before types statement phase other
      up_to zero stands also_stands = refl
      up_to (suc phase) stands also_stands =
          let stood = stands-fewer types view (lists_before types statement phase one) (lists_before types statement (suc phase) one) one (fewer_lists types statement one phase) stands in
          let also_stood = stands-fewer types view (lists_before types statement phase other) (lists_before types statement (suc phase) other) other
          (fewer_lists types statement other phase) also_stands in
          let front = up_to phase stood also_stood in
          let last = next_needs phase stood also.valid (subst (λ l. StandsFor types view l other) (sym front) also_stood) in
          λ i. front i ++ last i

  -- so they agree on the first one's
  pub seen_agree : (phase : ℕ) → IsSeenBy types view statement phase one → IsSeenBy types view statement phase other
      → Agrees types (lists_before types statement phase one) one other
  seen_agree phase seen also =
      stands_agree types view (lists_before types statement phase one) one other (before_parents types statement one phase) seen.stands
      (subst (λ l. StandsFor types view l other) (sym (seen_lists phase seen also)) also.stands)

  pub seen_needs : (phase : ℕ) → IsSeenBy types view statement phase one → IsSeenBy types view statement phase other
      → needs_of types statement phase one ≡ needs_of types statement phase other
  seen_needs phase seen also =
      needs_agree types statement one other (lists_before types statement phase one) phase setting also.valid (seen_agree phase seen also)
      (λ earlier before. earlier_listed types statement one earlier phase before)

  pub seen_answers : IsSeenBy types view statement 5 one → IsSeenBy types view statement 5 other → (reply_of types statement one ≡ reply_of types statement other)
      × Agrees types (lists_before types statement 5 one) (effect_of types statement one) (effect_of types statement other)
  seen_answers seen also =
      answers_agree types statement one other (lists_before types statement 5 one) setting also.valid (seen_agree 5 seen also)
      (λ phase few. earlier_listed types statement one phase 5 (omega arith))

  -- where the later phases ask for nothing, the reply is seen before them
  pub seen_early : (phase : ℕ) → IsSeenBy types view statement phase one → IsSeenBy types view statement phase other
      → ((later : ℕ) → phase ≤ later → later < 5 → needs_of types statement later one ≡ []) → reply_of types statement one ≡ reply_of types statement other
  seen_early phase seen also nothing =
      (answers_agree types statement one other (lists_before types statement phase one) setting also.valid (seen_agree phase seen also) covered).0
    where
      covered : (q : ℕ) → q ≤ 4 → AreNamedIn (needs_of types statement q one) (lists_before types statement phase one)
      covered q few name named = elim (cases_lt q phase) [
        | inl before ↦ earlier_listed types statement one q phase before name named
        | inr later ↦ (let has : Contains [] (name, named.0) = subst (λ l. Contains l (name, named.0)) (nothing q later (omega arith)) named.1 in
            absurd (omega (arith, has.1)))
      ]

  -- the rows that pass
  pub seen_passing : (checked : Checked) → is_too_long (first_list statement) ≡ false → checked_over types statement one ≡ Ok checked
      → IsSeenBy types view statement 4 one → IsSeenBy types view statement 4 other
      → passing_by (statement_tree_of checked) one ≡ passing_by (statement_tree_of checked) other
  seen_passing checked short is seen also =
      let tree : StatementTree = statement_tree_of checked in
      let told : List (ℕ × Row) → Result (List (ℕ × List ℕ)) Reply = λ rows. Ok (map {B = ℕ × List ℕ} (λ row. (row.0, row_identifiers row.1)) rows) in
      let list : List Lock = lists_before types statement 4 one in
      let agrees = seen_agree 4 seen also in
      let first : AreNamedIn (needs_of types statement 1 one) list = earlier_listed types statement one 1 4 (omega arith) in
      let facts = known_here types statement one other list setting also.valid agrees first checked short is in
      let covered = later_covered types statement one other list setting also.valid agrees first in
      same-Alike (passing_by tree one) (passing_by tree other)
      (Alike-bind (AllZip (IsRowAlike types one other (sources_of tree.request))) (λ x y. x ≡ y) (until_passing tree one) (until_passing tree other)
      told told
      (passing_same types one other list agrees tree facts.over facts.condition (covered needs_2 checked short is (earlier_listed types statement one 2 4 (omega arith)))
      (covered needs_3 checked short is (earlier_listed types statement one 3 4 (omega arith))))
      (λ rows others left right alike. rows_told (sources_of tree.request) rows others alike))
    where
      rows_told : (sources : List CheckedSource) (rows others : List (ℕ × Row)) → AllZip (IsRowAlike types one other sources) rows others
          → map {B = ℕ × List ℕ} (λ row. (row.0, row_identifiers row.1)) rows ≡ map {B = ℕ × List ℕ} (λ row. (row.0, row_identifiers row.1)) others
      rows_told sources rows others alike =
          let told : ℕ × Row → ℕ × List ℕ = λ row. (row.0, row_identifiers row.1) in
          zip-same_map (IsRowAlike types one other sources) told told
          (λ a b both. λ i. (both.0 i, identifiers_same a.1 b.1 both.2 i)) rows others alike

-- ---- the check, which no premise on the statement is needed for

pub seen_check : (types : List SetType) (statement : Statement) (view : Holdings) (one other : Database) → is_too_long (first_list statement) ≡ false
    → IsSeenBy types view statement 2 one → IsSeenBy types view statement 2 other → checked_over types statement one ≡ checked_over types statement other
seen_check types statement view one other short seen also =
    checked_same types statement (lists_before types statement 2 one) one other
    (stands_agree types view (lists_before types statement 2 one) one other (before_parents types statement one 2) seen.stands also.stands)
    (subst (λ l. AreNamedIn l (lists_before types statement 2 one)) (first_is types statement one short) (earlier_listed types statement one 1 2 (omega arith)))

-- ---- identifiers

-- where a view has the first phase's collections, what it holds of them tells that their next identifiers are small
pub setting_of_view : (types : List SetType) (statement : Statement) (view : Holdings) (database : Database) (phase : ℕ) → AreTypes types
    → IsTrue (statement_numbers_fit statement.form) → HasSmallNexts view → 2 ≤ phase → IsSeenBy types view statement phase database
    → IsSetting types statement database
setting_of_view types statement view database phase types_fit fits small later seen = record {
  types_fit = types_fit;
  numbers_fit = fits;
  valid = seen.valid;
  small_identifiers = λ name named. shown name (collection_of database name)
      (seen.stands (Collection name) (earlier_listed types statement database 1 phase (omega (arith, later)) (Collection name) named));
}
  where
    shown : (name : List ℕ) (found : Option CollectionOf)
        → view (Collection name) ≡ holding_in (option_map (λ collection. collection_seen collection.set_type collection.next (keys_of collection.arrays)) found)
        → IfSome found (λ collection. collection.next ≤ MAX_IDENTIFIER)
    shown name None held = tt
    shown name (Some collection) held = small name collection.set_type collection.next (keys_of collection.arrays) held
