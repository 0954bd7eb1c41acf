-- What a work sees after changes, and what these do.
use Rattle.std.proofs.Common.{◌≡◌, ℕ, Bool, true, false, cond, ◌&&◌, eqb, List, [], ◌∷◌, ◌++◌, map, Option, Some, None, Result, Ok, Err, refl, sym, ap, ◌∙◌, ⊎_elim}
use Rattle.std.specs.BTreeMap.{is_at}
use Rattle.std.specs.Cmp.Lexicographic.{slice_cmp}
use Rattle.std.specs.List.{list_any}
use Rattle.std.specs.Option.{option_map}
use Rattle.std.specs.Ordering.{nat_cmp}
use Rattle.std.specs.Result.{OnErr, OnOk}
use Rattle.std.proofs.lemmas.Bool.{cases_Bool}
use Rattle.ras_domain.specs.declared.lock.LockName.{LockName}
use Rattle.ras_domain.specs.declared.lock.LockName.TheVariants.{Collection, Domain, Tile}
use Rattle.ras_index.specs.Index.{row_major}
use Rattle.ras_store.specs.declared.change.Change.{Change}
use Rattle.ras_store.specs.declared.change.Change.TheVariants.{Collection as CollectionChange, Domain as DomainChange, Tile as TileChange}
use Rattle.ras_store.specs.declared.collection.CollectionInfo.{CollectionInfo}
use Rattle.ras_store.specs.declared.write.Computed.{Computed}
use Rattle.ras_store.specs.Kept.{Kept, changed_by, changed_by_all, collection_kept, is_listed, name_changed, replaced}
use Rattle.ras_store.specs.Piece.{kept_by}
use Rattle.ras_syntax.specs.declared.typed.Checked.{Checked}
use Rattle.spec_statements.specs.Locks.{collection_in}
use Rattle.spec_statements.specs.Reply.{done}
use Rattle.spec_statements.specs.Statement.{statement_tree_of}
use Rattle.spec_views.specs.Holdings.{Holdings, holding_at}
use Rattle.law_work.specs.Replacements.{replaced_by_all}
use Rattle.law_work.specs.Writes.{writes_in}
use Rattle.law_work.specs.Written.{is_written}
use Rattle.law_work.proofs.Effects.{effect-replies, effect-rewrites}
use Rattle.law_work.proofs.Replaced.{all-replaced}
use Rattle.law_work.proofs.WrittenNames.{unwritten-stays, written-same}
use Rattle.ras_work.specs.Copies.{AreCopies, put_by}
use Rattle.ras_work.specs.Made.{AreMade}
use Rattle.ras_work.specs.declared.work.Work.{Work}
use Rattle.ras_work.specs.Works.{IsChangedWork, IsEffect, IsOwnSeen, IsSameWork, work_changes, work_kept}

-- ---- copies

-- an identifier is listed in what is kept
abbrev lists : Option Kept → ℕ → Bool
lists (Some (collection_kept info)) oid = list_any (eqb oid) info.oids
lists other oid = false

-- what is left under a name of the same collection, by what is put
abbrev put_under : LockName → Option Kept → LockName → Option Kept → Option Kept
put_under (Collection n) kept (Collection m) before = kept
put_under (Collection n) kept (Domain m oid) before = cond (lists kept oid) before None
put_under (Collection n) kept (Tile m oid place) before = cond (lists kept oid) before None
put_under (Domain n id) kept (Collection m) before = before
put_under (Domain n id) kept (Domain m oid) before = cond (is_at (nat_cmp id) oid) kept before
put_under (Domain n id) kept (Tile m oid place) before = before
put_under (Tile n id at) kept (Collection m) before = before
put_under (Tile n id at) kept (Domain m oid) before = before
put_under (Tile n id at) kept (Tile m oid place) before = cond (is_at (nat_cmp id) oid && is_at (row_major at.items) place.items) kept before

listed-lists : (info : Option CollectionInfo) (oid : ℕ) → is_listed info oid ≡ lists (option_map collection_kept info) oid
listed-lists None oid = refl
listed-lists (Some info) oid = refl

replaced-put : (change : Change) (name : LockName) (before : Option Kept) → replaced change name before ≡ put_under (name_changed change) (kept_by change) name before
replaced-put (CollectionChange n info) (Collection m) before = refl
replaced-put (CollectionChange n info) (Domain m oid) before = ap (λ b. cond b before None) (listed-lists info oid)
replaced-put (CollectionChange n info) (Tile m oid place) before = ap (λ b. cond b before None) (listed-lists info oid)
replaced-put (DomainChange n id domain) (Collection m) before = refl
replaced-put (DomainChange n id domain) (Domain m oid) before = refl
replaced-put (DomainChange n id domain) (Tile m oid place) before = refl
replaced-put (TileChange n id at tile) (Collection m) before = refl
replaced-put (TileChange n id at tile) (Domain m oid) before = refl
replaced-put (TileChange n id at tile) (Tile m oid place) before = refl

-- under any name
abbrev put_over : LockName × Option Kept → LockName → Option Kept → Option Kept
put_over put name before = cond (is_at (slice_cmp nat_cmp (collection_in put.0)) (collection_in name)) (put_under put.0 put.1 name before) before

changed-put : (change : Change) (name : LockName) (before : Option Kept) → changed_by change name before ≡ put_over (put_by change) name before
changed-put change name before =
    ap (λ x. cond (is_at (slice_cmp nat_cmp (collection_in (name_changed change))) (collection_in name)) x before) (replaced-put change name before)

pub copies-change : (changes copies : List Change) (name : LockName) (before : Option Kept) → AreCopies changes copies → changed_by_all copies name before ≡ changed_by_all changes name before
copies-change [] [] name before same = refl
copies-change [] (c ∷ cs) name before same = absurd (cc)
copies-change (x ∷ xs) [] name before same = absurd (cc)
copies-change (x ∷ xs) (c ∷ cs) name before same =
    let head : put_by c ≡ put_by x = cc in
    let rest : map put_by cs ≡ map put_by xs = cc in
    let one : changed_by c name before ≡ changed_by x name before =
    changed-put c name before ∙ ap (λ (p : LockName × Option Kept). put_over p name before) head ∙ sym (changed-put x name before) in
    ap (changed_by_all cs name) one ∙ copies-change xs cs name (changed_by x name before) rest

-- ---- own writes

pub changed-append : (xs ys : List Change) (name : LockName) (before : Option Kept) → changed_by_all (xs ++ ys) name before ≡ changed_by_all ys name (changed_by_all xs name before)
changed-append [] ys name before = refl
changed-append (x ∷ xs) ys name before = changed-append xs ys name (changed_by x name before)

-- what was written is seen after more changes
pub own-more : (changes more : List Change) (name : LockName) (seen : Option Kept) → changed_by_all changes name seen ≡ seen
    → changed_by_all (changes ++ more) name (changed_by_all more name seen) ≡ changed_by_all more name seen
own-more changes more name seen own =
    changed-append changes more name (changed_by_all more name seen)
    ∙ ⊎_elim
    (λ writes. written-same (λ kept. kept) more name (changed_by_all changes name (changed_by_all more name seen)) seen writes)
    (λ leaves. ap (λ k. changed_by_all more name (changed_by_all changes name k)) (unwritten-stays (λ kept. kept) more name seen leaves) ∙ ap (changed_by_all more name) own)
    (cases_Bool (is_written more name))

-- and after a piece that is put where nothing was written
pub own-piece : (changes : List Change) (name : LockName) (seen put : Option Kept) → changed_by_all changes name seen ≡ seen
    → changed_by_all changes name (cond (is_written changes name) seen put) ≡ cond (is_written changes name) seen put
own-piece changes name seen put own = at (is_written changes name) refl
  where
    at : (b : Bool) → is_written changes name ≡ b → changed_by_all changes name (cond b seen put) ≡ cond b seen put
    at true writes = own
    at false leaves = unwritten-stays (λ kept. kept) changes name put leaves

-- ---- what changes do

pub made-effect : (checked : Checked) (computed : Computed) (holdings : Holdings) (more : List Change) (number : ℕ)
    → AreMade (statement_tree_of checked).request holdings (writes_in computed) more number → IsEffect checked computed holdings more number
made-effect checked computed holdings more number made types statement database are short is seen written = (
  λ name.
      effect-rewrites types statement database checked holdings (writes_in computed) are short is seen written made.sound name
      ∙ ap (λ rs. replaced_by_all rs name (holding_at types name database)) (sym made.replaced)
      ∙ sym (all-replaced more name (holding_at types name database)),
  effect-replies types statement database checked holdings (writes_in computed) are short is seen made.no_select written ∙ ap done (sym made.counted),
)

-- ---- a work

pub on_err : {A E : Type 0} (r : Result A E) (P Q : Type 0) → (P → Q) → OnErr r P → OnErr r Q
on_err (Ok x) P Q gives holds = holds
on_err (Err e) P Q gives holds = gives holds

-- what was written is seen after a piece was taken, or was not
pub taken-own : {A E : Type 0} (r : Result A E) (changes : List Change) (old new put : LockName → Option Kept)
    → OnOk r ((name : LockName) → new name ≡ cond (is_written changes name) (old name) (put name)) → OnErr r ((name : LockName) → new name ≡ old name)
    → ((name : LockName) → changed_by_all changes name (old name) ≡ old name) → (name : LockName) → changed_by_all changes name (new name) ≡ new name
taken-own (Ok x) changes old new put held refused own name =
    ap (changed_by_all changes name) (held name) ∙ own-piece changes name (old name) (put name) (own name) ∙ sym (held name)
taken-own (Err e) changes old new put held refused own name =
    ap (changed_by_all changes name) (refused name) ∙ own name ∙ sym (refused name)

pub applied-own : (old new : Work) (more : List Change) → IsChangedWork old new more → IsOwnSeen old → IsOwnSeen new
applied-own old new more changed own name =
    (λ i. changed_by_all (changed.changes i) name (changed.kept name i)) ∙ own-more (work_changes old) more name (work_kept old name) (own name) ∙ sym (changed.kept name)

pub same-own : (old new : Work) → IsSameWork old new → IsOwnSeen old → IsOwnSeen new
same-own old new same own name = (λ i. changed_by_all (same.changes i) name (same.kept name i)) ∙ own name ∙ sym (same.kept name)
