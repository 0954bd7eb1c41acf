-- What a work holds after a piece was taken into it.
use Rattle.std.proofs.Common.{◌≡◌, ◌⊎◌, inl, inr, Bool, true, false, ◌||◌, List, [], ◌∷◌, map, Contains, Option, None, refl, sym, subst, ◌∙◌}
use Rattle.law_lists.proofs.Elements.{Contains-here, Contains-there}
use Rattle.law_work.proofs.WrittenNames.{unwritten-stays, written-same}
use Rattle.law_work.specs.Written.{is_written}
use Rattle.ras_domain.specs.declared.lock.LockName.{LockName}
use Rattle.ras_domain.specs.declared.lock.LockName.TheVariants.{Collection, Domain, Tile}
use Rattle.ras_setup.specs.Runs.{Takes}
use Rattle.ras_store.specs.declared.change.Change.{Change}
use Rattle.ras_store.specs.declared.piece.Piece.{Piece}
use Rattle.ras_store.specs.Kept.{Kept, changed_by_all}
use Rattle.ras_store.specs.Piece.{collection_entry, domain_entry, is_same_lock_name, piece_kept, piece_over, tile_entry}
use Rattle.ras_store.proofs.Pieces.{is_named, named_there, same-exact}
use Rattle.spec_statements.specs.Locks.{Lock}
use Rattle.spec_statements.specs.ReachLaw.{Names}

-- ---- whether a list names it

named-found : (list : List Lock) (name : LockName) → is_named list name ≡ true → Names list name
named-found [] name is = absurd cc
named-found (lock ∷ list) name is = at (is_same_lock_name lock.0 name) refl is (named-found list name)
  where
    at : (b : Bool) → is_same_lock_name lock.0 name ≡ b → (b || is_named list name) ≡ true → (is_named list name ≡ true → Names list name) → Names (lock ∷ list) name
    at true same is later = (lock.1, subst (λ n. Contains (lock ∷ list) (n, lock.1)) (same-exact lock.0 name same) (Contains-here lock list))
    at false same is later = let found = later is in (found.0, Contains-there (name, found.0) lock list found.1)

pub names_or_not : (list : List Lock) (name : LockName) → Names list name ⊎ (Names list name → ⊥)
names_or_not list name = at (is_named list name) refl
  where
    at : (b : Bool) → is_named list name ≡ b → Names list name ⊎ (Names list name → ⊥)
    at true is = inl (named-found list name is)
    at false is = inr (λ names. absurd (let e : true ≡ (let b : Bool = false in b) = sym (named_there list name names) ∙ is in cc))

-- ---- a piece puts the same whatever was there, or leaves it

entries-either : (changes : List Change) (name : LockName)
    → ((before : Option Kept) → changed_by_all changes name before ≡ changed_by_all changes name None)
    ⊎ ((before : Option Kept) → changed_by_all changes name before ≡ before)
entries-either changes name = at (is_written changes name) refl
  where
    at : (b : Bool) → is_written changes name ≡ b
        → ((before : Option Kept) → changed_by_all changes name before ≡ changed_by_all changes name None)
        ⊎ ((before : Option Kept) → changed_by_all changes name before ≡ before)
    at true is = inl (λ before. written-same (λ kept. kept) changes name before None is)
    at false is = inr (λ before. unwritten-stays (λ kept. kept) changes name before is)

piece-either : (piece : Piece) (name : LockName)
    → ((before : Option Kept) → piece_over piece name before ≡ piece_kept piece name) ⊎ ((before : Option Kept) → piece_over piece name before ≡ before)
piece-either piece (Collection n) = entries-either (map collection_entry piece.collections) (Collection n)
piece-either piece (Domain n oid) = entries-either (map domain_entry piece.domains) (Domain n oid)
piece-either piece (Tile n oid place) = entries-either (map tile_entry piece.tiles) (Tile n oid place)

over-part : (piece : Piece) (name : LockName) (kept old : Option Kept) → piece_kept piece name ≡ kept → (old ≡ None) ⊎ (old ≡ kept) → piece_over piece name old ≡ kept
over-part piece name kept old held part = at (piece-either piece name) part
  where
    at : ((before : Option Kept) → piece_over piece name before ≡ piece_kept piece name) ⊎ ((before : Option Kept) → piece_over piece name before ≡ before)
        → (old ≡ None) ⊎ (old ≡ kept) → piece_over piece name old ≡ kept
    at (inl same) part = same old ∙ held
    at (inr stays) (inl none) = stays old ∙ none ∙ sym (stays None) ∙ held
    at (inr stays) (inr was) = stays old ∙ was

pub takes-of : (piece : Piece) (list : List Lock) (kept old new : LockName → Option Kept)
    → ((name : LockName) → Names list name → piece_kept piece name ≡ kept name)
    → ((name : LockName) (before : Option Kept) → (Names list name → ⊥) → piece_over piece name before ≡ before)
    → ((name : LockName) → new name ≡ piece_over piece name (old name))
    → Takes kept list old new
takes-of piece list kept old new held others is = record {
  held = λ name names part. is name ∙ over-part piece name (kept name) (old name) (held name names) part;
  others = λ name not. is name ∙ others name (old name) not;
}
