-- The rows of a checked statement over the database that holdings show are the rows that they show.
use Rattle.std.proofs.Common.{◌≡◌, ℕ, ◌≤◌, ℤ, Bool, true, false, cond, List, [], ◌∷◌, map, filter, slice_get, Contains, Option, Some, None, Ok, option_map, refl, sym, ap, ◌∙◌, subst, arith}
use Rattle.std.specs.List.{AllByRecursion}
use Rattle.std.specs.Map.{keys_of}
use Rattle.ras_domain.specs.declared.lock.LockName.TheVariants.{Collection}
use Rattle.ras_domain.specs.declared.lock.Mode.{Mode}
use Rattle.ras_domain.specs.declared.lock.Mode.TheVariants.{Exclusive, Shared}
use Rattle.ras_syntax.specs.declared.statement.Statement.{Statement}
use Rattle.ras_syntax.specs.declared.types.SetType.{SetType}
use Rattle.ras_syntax.specs.declared.typed.Checked.{Checked}
use Rattle.ras_syntax.specs.declared.typed.CheckedSource.{CheckedSource}
use Rattle.spec_expressions.specs.Database.{Array, Collection as CollectionOf, Database, Member, collection_of}
use Rattle.spec_expressions.specs.Tree.{NameOf}
use Rattle.spec_shown.specs.Shown.{IsShownBy, array_shown, identifiers_held, member_shown, members_shown}
use Rattle.spec_statements.specs.Agree.{collection_seen}
use Rattle.spec_statements.specs.Locks.{Lock}
use Rattle.spec_statements.specs.Machine.{checked_over, first_list, is_too_long, wanted_at_first}
use Rattle.spec_statements.specs.ReachLaw.{Names}
use Rattle.spec_statements.specs.Rows.{asked_of, combinations, is_asked, member_of, members_in, members_of, sources_of, where_of}
use Rattle.spec_statements.specs.Statement.{Request, statement_tree_of, select, insert, delete, update, create, drop}
use Rattle.spec_views.specs.Holdings.{Holdings, IsSeenBy, holding_in, lists_before}
use Rattle.law_lists.proofs.Each.{each_any, each_weaker}
use Rattle.law_effects.proofs.Checked.{IsCheckedOver, statement_checked, type_in}
use Rattle.law_effects.proofs.LockNames.{asked_is_named}
use Rattle.law_effects.proofs.Phases.{first_is}
use Rattle.law_views.proofs.Seen.{earlier_listed}
use Rattle.law_shown.proofs.Databases.{array_over, collection_over, collection_there, database_over}

-- ---- the sources

-- the source's collection is listed, and has the source's set type
abbrev IsListedSource : List SetType → List Lock → Database → CheckedSource → Type 0
IsListedSource types list database source =
    Names list (Collection source.collection) × (type_in types (collection_of database source.collection) ≡ Some source.of)

sources_listed : (types : List SetType) (wanted list : List Lock) (database : Database) (request : Request)
    → ((name : List ℕ) (mode : Mode) → Contains wanted (Collection name, mode) → Names list (Collection name))
    → IsCheckedOver types database wanted request → AllByRecursion (IsListedSource types list database) (sources_of request)
sources_listed types wanted list database (select body sources condition) listed checked =
    each_weaker _ (IsListedSource types list database) (λ source is. (listed source.collection Shared is.0, is.1)) sources checked
sources_listed types wanted list database (insert into of body) listed checked = tt
sources_listed types wanted list database (delete source condition) listed checked = ((listed source.collection Exclusive checked.0, checked.1), tt)
sources_listed types wanted list database (update source axes target body condition) listed checked = ((listed source.collection Shared checked.0, checked.1), tt)
sources_listed types wanted list database (create name of) listed checked = tt
sources_listed types wanted list database (drop name) listed checked = tt

-- ---- the members

-- entries that are chosen by their keys, and keys that are chosen
chosen_same : {X Y Z : Type 0} (test : ℕ → Bool) (made : ℕ × Y → Z) (f : ℕ → X → Y) (g : ℕ → Y) (es : List (ℕ × X)) → AllByRecursion (λ e. f e.0 e.1 ≡ g e.0) es
    → map made (filter (λ (entry : ℕ × Y). test entry.0) (map (λ e. (e.0, f e.0 e.1)) es)) ≡ map (λ id. made (id, g id)) (filter test (keys_of es))
chosen_same test made f g [] all = refl
chosen_same {X = X} {Y = Y} test made f g (e ∷ es) all = at (test e.0) (chosen_same test made f g es all.1)
  where
    others : List (ℕ × Y)
    others = filter (λ (entry : ℕ × Y). test entry.0) (map (λ e. (e.0, f e.0 e.1)) es)

    at : (b : Bool) → map made others ≡ map (λ id. made (id, g id)) (filter test (keys_of es))
        → map made (cond b ((e.0, f e.0 e.1) ∷ others) others) ≡ map (λ id. made (id, g id)) (cond b (e.0 ∷ filter test (keys_of es)) (filter test (keys_of es)))
    at true later = λ i. made (e.0, all.0 i) ∷ later i
    at false later = later

module _ (types : List SetType) (holdings : Holdings) (one : Database) where
  abbrev shown : Database
  shown = database_over types holdings one

  abbrev IsHeldSource : CheckedSource → Type 0
  IsHeldSource source = (type_in types (collection_of one source.collection) ≡ Some source.of)
      × (holdings (Collection source.collection)
      ≡ holding_in (option_map (λ collection. collection_seen collection.set_type collection.next (keys_of collection.arrays)) (collection_of one source.collection)))

  members_same : (asked : List (NameOf × ℤ)) (source : CheckedSource) → IsHeldSource source → members_of shown asked source ≡ members_shown holdings asked source
  members_same asked source is = at (collection_of one source.collection) (collection_there types holdings one source.collection) is.0 is.1
    where
      name : List ℕ
      name = source.collection

      test : ℕ → Bool
      test = is_asked asked source.iterator

      of_found : Option CollectionOf → List Member
      of_found found = map (member_of source) (filter (λ entry. test entry.0) (members_in found))

      of_held : List ℕ → List Member
      of_held ids = map (member_shown holdings source) (filter test ids)

      at : (found : Option CollectionOf) → collection_of shown name ≡ option_map (collection_over types holdings name) found → type_in types found ≡ Some source.of
          → holdings (Collection name) ≡ holding_in (option_map (λ collection. collection_seen collection.set_type collection.next (keys_of collection.arrays)) found)
          → of_found (collection_of shown name) ≡ of_held (identifiers_held (holdings (Collection name)))
      at None there type held = absurd cc
      at (Some collection) there type held =
          let f : ℕ → Array → Array = array_over holdings name (slice_get types collection.set_type) in
          ap of_found there
          ∙ chosen_same test (member_of source) f (array_shown source.of holdings name) collection.arrays
          (each_any (λ entry. f entry.0 entry.1 ≡ array_shown source.of holdings name entry.0) (λ entry. ap (λ t. array_over holdings name t entry.0 entry.1) type) collection.arrays)
          ∙ sym (ap (λ h. of_held (identifiers_held h)) held)

  all_members_same : (asked : List (NameOf × ℤ)) (sources : List CheckedSource) → AllByRecursion IsHeldSource sources
      → map (members_of shown asked) sources ≡ map (members_shown holdings asked) sources
  all_members_same asked [] all = refl
  all_members_same asked (source ∷ sources) all = λ i. members_same asked source all.0 i ∷ all_members_same asked sources all.1 i

  pub rows_same : (request : Request) → AllByRecursion IsHeldSource (sources_of request) → IsShownBy holdings request shown
  rows_same request all = ap combinations (all_members_same (asked_of (where_of request)) (sources_of request) all)

  -- ---- a checked statement

  pub shown_rows : (statement : Statement) (checked : Checked) (phase : ℕ) → is_too_long (first_list statement) ≡ false → checked_over types statement one ≡ Ok checked
      → 2 ≤ phase → IsSeenBy types holdings statement phase one → IsShownBy holdings (statement_tree_of checked).request shown
  shown_rows statement checked phase short is later seen =
      let list : List Lock = lists_before types statement phase one in
      let request : Request = (statement_tree_of checked).request in
      rows_same request
      (each_weaker (IsListedSource types list one) IsHeldSource (λ source here. (here.1, seen.stands (Collection source.collection) here.0)) (sources_of request)
      (sources_listed types (wanted_at_first statement.form) list one request listed (statement_checked types one statement checked is)))
    where
      listed : (name : List ℕ) (mode : Mode) → Contains (wanted_at_first statement.form) (Collection name, mode) → Names (lists_before types statement phase one) (Collection name)
      listed name mode has =
          earlier_listed types statement one 1 phase (omega (arith, later)) (Collection name)
          (subst (λ l. Names l (Collection name)) (sym (first_is types statement one short)) (asked_is_named (wanted_at_first statement.form) (Collection name) mode has))
