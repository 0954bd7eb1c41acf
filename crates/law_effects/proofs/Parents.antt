-- Where a phase names a tile, it or an earlier one names the domain, and where it names a domain, the collection.
use Rattle.std.proofs.Common.{◌≡◌, ◌≤◌, ℕ, zero, suc, false, List, [], ◌∷◌, flat_map, slice_get, Contains, Some, Ok, sym, subst, arith}
use Rattle.std.specs.List.{AllByRecursion, zip}
use Rattle.ras_domain.specs.declared.lock.LockName.{LockName}
use Rattle.ras_domain.specs.declared.lock.LockName.TheVariants.{Collection, Domain, Tile}
use Rattle.ras_domain.specs.declared.lock.Mode.TheVariants.{Shared, Exclusive}
use Rattle.ras_syntax.specs.declared.statement.Statement.{Statement}
use Rattle.ras_syntax.specs.declared.statement.StatementForm.{StatementForm}
use Rattle.ras_syntax.specs.declared.statement.StatementForm.TheVariants as written
use Rattle.ras_syntax.specs.declared.types.SetType.{SetType}
use Rattle.ras_syntax.specs.declared.typed.Checked.{Checked}
use Rattle.ras_syntax.specs.declared.typed.CheckedSource.{CheckedSource}
use Rattle.spec_expressions.specs.Database.{Database, Member}
use Rattle.spec_statements.specs.Phases.{domain_locks, needs_2, needs_3, needs_4}
use Rattle.spec_statements.specs.Locks.{Lock, lock_list}
use Rattle.spec_statements.specs.Machine.{checked_over, first_list, is_too_long, needs_of, read_lock, wanted_at_first}
use Rattle.spec_statements.specs.ReachLaw.{LawOfParents, Names}
use Rattle.spec_statements.specs.Rows.{Row, sources_of}
use Rattle.spec_statements.specs.Statement.{Request, StatementTree, statement_tree_of, select, insert, delete, update, create, drop}
use Rattle.law_lists.proofs.Each.{each_weaker, each_map, each_contained, each_found, each_any}
use Rattle.law_lists.proofs.Choices.{either_way}
use Rattle.law_effects.proofs.Checked.{IsCheckedOver, statement_checked}
use Rattle.law_lists.proofs.Elements.{Contains-flat_map, Contains-here, Contains-map, Contains-there}
use Rattle.law_effects.proofs.LockNames.{asked_is_named, each-lock_list}
use Rattle.law_effects.proofs.Phases.{EachName, OfDomains, OfRows, OfTiles, first_is, later_each, later_is, needs_2-each, needs_2-is, needs_3-each, needs_4-each}

-- ---- the domains of rows

-- a source and a member at one place are zipped
Contains-zip : {X Y : Type 0} (xs : List X) (ys : List Y) (i : ℕ) (x : X) (y : Y) → slice_get xs i ≡ Some x → slice_get ys i ≡ Some y → Contains (zip xs ys) (x, y)
Contains-zip [] ys i x y first second = absurd cc
Contains-zip (a ∷ xs) [] i x y first second = absurd cc
Contains-zip (a ∷ xs) (b ∷ ys) zero x y first second =
    let e : a ≡ x = cc in let f : b ≡ y = cc in subst (λ z. Contains (z ∷ zip xs ys) (x, y)) (λ t. (sym e t, sym f t)) (Contains-here (x, y) (zip xs ys))
Contains-zip (a ∷ xs) (b ∷ ys) (suc i) x y first second =
    Contains-there (x, y) (a, b) (zip xs ys) (Contains-zip xs ys i x y first second)

-- the domain of a member of a row is named with those of all rows
domain_named : (sources : List CheckedSource) (rows : List (ℕ × Row)) (row : ℕ × Row) (i : ℕ) (source : CheckedSource) (member : Member) → Contains rows row
    → slice_get sources i ≡ Some source → slice_get row.1 i ≡ Some member
    → Names (lock_list (flat_map (domain_locks sources) rows)) (Domain source.collection member.oid)
domain_named sources rows row i source member has first second =
    asked_is_named (flat_map (domain_locks sources) rows) (Domain source.collection member.oid) Shared
    (Contains-flat_map (domain_locks sources) rows row (Domain source.collection member.oid, Shared) has
    (Contains-map (λ (x : CheckedSource × Member). let l : Lock = (Domain x.0.collection x.1.oid, Shared) in l) (zip sources row.1) (source, member)
    (Contains-zip sources row.1 i source member first second)))

-- ---- the collections of sources

-- each source's collection is named
abbrev AreNamed : List Lock → List CheckedSource → Type 0
AreNamed list = AllByRecursion (λ source. Names list (Collection source.collection))

-- the collections of checked sources are named at first
sources_named : (types : List SetType) (database : Database) (wanted : List Lock) (request : Request) → IsCheckedOver types database wanted request
    → AllByRecursion (λ source. Names (lock_list wanted) (Collection source.collection)) (sources_of request)
sources_named types database wanted (select body sources condition) checked =
    each_weaker _ (λ source. Names (lock_list wanted) (Collection source.collection)) (λ source h. asked_is_named wanted (Collection source.collection) Shared h.0) sources checked
sources_named types database wanted (insert into of body) checked = tt
sources_named types database wanted (delete source condition) checked = (asked_is_named wanted (Collection source.collection) Exclusive checked.0, tt)
sources_named types database wanted (update source axes target body condition) checked = (asked_is_named wanted (Collection source.collection) Shared checked.0, tt)
sources_named types database wanted (create name of) checked = tt
sources_named types database wanted (drop name) checked = tt

-- ---- the first phase names collections

-- the name is one of a collection
abbrev IsOfCollection : LockName → Type 0
IsOfCollection (Collection name) = Unit {0}
IsOfCollection (Domain name id) = ⊥
IsOfCollection (Tile name id place) = ⊥

-- what is wanted before the check names collections
wanted-collections : (form : StatementForm) → AllByRecursion (λ lock. IsOfCollection lock.0) (wanted_at_first form)
wanted-collections (written.Select body sources condition) =
    each_map (λ source. Unit {0}) (λ lock. IsOfCollection lock.0) read_lock (λ source _. tt) sources (each_any (λ source. Unit {0}) (λ source. tt) sources)
wanted-collections (written.Insert into body) = (tt, tt)
wanted-collections (written.Delete source condition) = (tt, tt)
wanted-collections (written.Update source set axes target body condition) = (tt, tt)
wanted-collections (written.Create name of) = (tt, tt)
wanted-collections (written.Drop name) = (tt, tt)
wanted-collections (written.Word word) = tt

-- ---- every phase

-- the name is listed at this phase or an earlier one
abbrev IsNamedBy : List SetType → Statement → Database → ℕ → LockName → Type 0
IsNamedBy types statement database phase name =
    (earlier : ℕ) × (earlier ≤ phase) × Names (needs_of types statement earlier database) name

-- what is named as its parent is named too
abbrev HasParent : List SetType → Statement → Database → ℕ → LockName → Type 0
HasParent types statement database phase (Collection name) = Unit {0}
HasParent types statement database phase (Domain name id) = IsNamedBy types statement database phase (Collection name)
HasParent types statement database phase (Tile name id place) = IsNamedBy types statement database phase (Domain name id)

-- a collection has none
collection-parent : (types : List SetType) (statement : Statement) (database : Database) (phase : ℕ) (name : LockName) → IsOfCollection name → HasParent types statement database phase name
collection-parent types statement database phase (Collection name) is = tt
collection-parent types statement database phase (Domain name id) is = absurd is
collection-parent types statement database phase (Tile name id place) is = absurd is

-- a name of the first list, or of the second
by_first : (types : List SetType) (statement : Statement) (database : Database) (phase : ℕ) → 1 ≤ phase → is_too_long (first_list statement) ≡ false → (name : LockName)
    → Names (first_list statement) name → IsNamedBy types statement database phase name
by_first types statement database phase late short name named =
    (1, late, subst (λ l. Names l name) (sym (first_is types statement database short)) named)

by_second : (types : List SetType) (statement : Statement) (database : Database) (phase : ℕ) (checked : Checked) → 2 ≤ phase
    → is_too_long (first_list statement) ≡ false → checked_over types statement database ≡ Ok checked → (name : LockName) → Names (needs_2 (statement_tree_of checked) database) name
    → IsNamedBy types statement database phase name
by_second types statement database phase checked late short is name named =
    (2, late, subst (λ l. Names l name) (sym (later_is needs_2 types statement database checked short is)) named)

-- the collections of the sources are in the first list
checked_named : (types : List SetType) (statement : Statement) (database : Database) (checked : Checked) → checked_over types statement database ≡ Ok checked
    → AreNamed (first_list statement) (sources_of (statement_tree_of checked).request)
checked_named types statement database checked is =
    sources_named types database (wanted_at_first statement.form) (statement_tree_of checked).request (statement_checked types database statement checked is)

module _ (types : List SetType) (statement : Statement) (database : Database) (phase : ℕ) (short : is_too_long (first_list statement) ≡ false) (checked : Checked)
    (is : checked_over types statement database ≡ Ok checked) where
  abbrev tree : StatementTree
  tree = statement_tree_of checked

  abbrev Parent : LockName → Type 0
  Parent = HasParent types statement database phase

  -- a domain has its collection named, and a tile its domain
  domain_parent : 1 ≤ phase → (row : Row) → OfDomains Parent (sources_of tree.request) row
  domain_parent late row source member at =
      by_first types statement database phase late short (Collection source.collection)
      (each_found (λ s. Names (first_list statement) (Collection s.collection)) (sources_of tree.request) at.0 source (checked_named types statement database checked is) at.1)

  tile_parent : 2 ≤ phase → OfRows (OfTiles Parent (sources_of tree.request)) tree database
  tile_parent late rows are_rows row has source member place at =
      by_second types statement database phase checked late short is (Domain source.collection member.oid)
      (subst (λ l. Names l (Domain source.collection member.oid)) (needs_2-is tree database rows are_rows) (domain_named (sources_of tree.request) rows row at.0 source member has at.1 at.2))

-- each name of each phase
each_parent : (types : List SetType) (statement : Statement) (database : Database) (phase : ℕ) → EachName (HasParent types statement database phase) (needs_of types statement phase database)
each_parent types statement database zero = tt
each_parent types statement database (suc zero) =
    let Parent : LockName → Type 0 = HasParent types statement database 1 in
    either_way (EachName Parent) (is_too_long (first_list statement)) [] (first_list statement) (λ long. tt) (λ short.
    each-lock_list Parent (wanted_at_first statement.form)
    (each_weaker (λ lock. IsOfCollection lock.0) (λ lock. Parent lock.0) (λ lock is. collection-parent types statement database 1 lock.0 is)
    (wanted_at_first statement.form) (wanted-collections statement.form)))
each_parent types statement database (suc (suc zero)) =
    let Parent : LockName → Type 0 = HasParent types statement database 2 in
    later_each (EachName Parent) needs_2 types statement database tt (λ short checked is.
    needs_2-each Parent (statement_tree_of checked) database (domain_parent types statement database 2 short checked is (omega arith)))
each_parent types statement database (suc (suc (suc zero))) =
    let Parent : LockName → Type 0 = HasParent types statement database 3 in
    later_each (EachName Parent) needs_3 types statement database tt (λ short checked is.
    needs_3-each Parent (statement_tree_of checked) database (tile_parent types statement database 3 short checked is (omega arith)))
each_parent types statement database (suc (suc (suc (suc zero)))) =
    let Parent : LockName → Type 0 = HasParent types statement database 4 in
    later_each (EachName Parent) needs_4 types statement database tt (λ short checked is.
    needs_4-each Parent (statement_tree_of checked) database (tile_parent types statement database 4 short checked is (omega arith))
    (λ rows are_rows row has. domain_parent types statement database 4 short checked is (omega arith) row.1))
each_parent types statement database (suc (suc (suc (suc (suc phase))))) = tt

-- the law
pub parents_named : LawOfParents
parents_named types statement database phase =
    let Parent : LockName → Type 0 = HasParent types statement database phase in
    let list : List Lock = needs_of types statement phase database in
    let each : EachName Parent list = each_parent types statement database phase in (
      λ name id named. each_contained (λ lock. Parent lock.0) list (Domain name id, named.0) each named.1,
      λ name id place named. each_contained (λ lock. Parent lock.0) list (Tile name id place, named.0) each named.1,
    )
