-- A work that takes the piece which it is granted.
use Rattle.std.proofs.Common.{◌≡◌, ◌⊎◌, ⊎_elim, ℕ, inl, inr, Bool, true, false, ◌||◌, List, [], ◌∷◌, map, Contains, Option, None, refl, sym, ap, ◌∙◌, subst}
use Rattle.std.specs.Prelude.{IsTrue}
use Rattle.std.specs.Option.{option_map}
use Rattle.std.proofs.lemmas.Bool.{cases_Bool, cond-false, cond-true, false≢true}
use Rattle.std.proofs.lemmas.List.Elements.{Contains-append_left, Contains-append_right}
use Rattle.law_lists.proofs.Elements.{Contains-here, Contains-there}
use Rattle.ras_domain.specs.declared.lock.LockName.{LockName}
use Rattle.ras_domain.specs.declared.lock.LockName.TheVariants.{Collection, Domain, Tile}
use Rattle.ras_store.specs.Databases.{Keeps, holding_kept, holdings_of, rewrites_of}
use Rattle.ras_store.specs.Kept.{Kept}
use Rattle.ras_store.specs.Piece.{collection_entry, domain_entry, is_same_lock_name, piece_kept, piece_over, tile_entry}
use Rattle.ras_store.specs.Store.{store_kept}
use Rattle.ras_syntax.specs.declared.event.Event.TheVariants.{Granted}
use Rattle.ras_store.specs.declared.piece.Piece.{Piece}
use Rattle.ras_store.specs.declared.store.Store.{Store}
use Rattle.ras_store.proofs.Pieces.{is_named, named_there, same-exact}
use Rattle.ras_core.specs.Asking.{IsPieceUnder}
use Rattle.ras_work.specs.Works.{work_changes, work_kept}
use Rattle.ras_work.specs.declared.work.Work.{Work}
use Rattle.spec_histories.specs.History.{History, Programs, answered_statements, committed_database, events_of}
use Rattle.spec_histories.specs.Legal.{IsLegal}
use Rattle.spec_histories.specs.Serializable.{ArePrograms, HasRoom}
use Rattle.spec_statements.specs.Locks.{Lock}
use Rattle.spec_statements.specs.ReachLaw.{Names}
use Rattle.spec_views.specs.Holdings.{Holding}
use Rattle.spec_views.specs.Sessions.{IsWorkOf}
use Rattle.spec_views.specs.Work.{IsWorkOver, TakenPiece, taken_locks}
use Rattle.law_histories.proofs.Legal.{legal_good}
use Rattle.law_views.proofs.Events.{work_granted}
use Rattle.law_work.specs.Written.{is_written}
use Rattle.law_work.proofs.Parts.{view-rewritten}
use Rattle.law_work.proofs.WrittenNames.{by_parts, unwritten-stays, written-same}
use Rattle.ras_session.specs.Replied.{IsPutInto}
use Rattle.ras_session.specs.Tied.{IsHoldingOwn, work_seen}

-- ---- names of a list

named_of : (list : List Lock) (name : LockName) → is_named list name ≡ true → Names list name
named_of [] name is = absurd (false≢true is)
named_of (lock ∷ list) name is = at (is_same_lock_name lock.0 name) refl is (named_of list name)
  where
    at : (b : Bool) → is_same_lock_name lock.0 name ≡ b → (b || is_named list name) ≡ true → (is_named list name ≡ true → Names list name)
        → Names (lock ∷ list) name
    at true same is rest = (lock.1, subst (λ n. Contains (lock ∷ list) (n, lock.1)) (same-exact lock.0 name same) (Contains-here lock list))
    at false same is rest = let later = rest is in (later.0, Contains-there (name, later.0) lock list later.1)

pub named_or_not : (list : List Lock) (name : LockName) → Names list name ⊎ (¬ Names list name)
named_or_not list name = ⊎_elim
    (λ is. inl (named_of list name is))
    (λ is. inr (λ names. false≢true (sym is ∙ named_there list name names)))
    (cases_Bool (is_named list name))

-- ---- pieces

-- a piece leaves what was there, or the same whatever was there
piece_by_parts : (piece : Piece) (name : LockName)
    → ((before : Option Kept) → piece_over piece name before ≡ before) ⊎ ((before : Option Kept) → piece_over piece name before ≡ piece_kept piece name)
piece_by_parts piece (Collection name) = by_parts (λ kept. kept) (map collection_entry piece.collections) (Collection name)
piece_by_parts piece (Domain name oid) = by_parts (λ kept. kept) (map domain_entry piece.domains) (Domain name oid)
piece_by_parts piece (Tile name oid place) = by_parts (λ kept. kept) (map tile_entry piece.tiles) (Tile name oid place)

-- ---- a grant

-- what a store has under a list
abbrev pub taken_of : Store → List Lock → TakenPiece
taken_of store list = record { holdings = holdings_of (store_kept store); list = list }

module _ (programs : Programs) (bound : ℕ) (past : History) (t : ℕ) (pieces : List TakenPiece) (old new : Work) (piece : Piece) (list : List Lock)
    (store : Store) (are : ArePrograms programs bound) (room : HasRoom bound past) (legal : IsLegal programs past)
    (keeps : Keeps programs.types (store_kept store) (committed_database programs past))
    (is : IsWorkOf programs past t (work_seen pieces old)) (holding : IsHoldingOwn pieces old)
    (under : IsPieceUnder store list piece) (put : IsPutInto piece old new) where
  -- what the work makes of what is kept
  abbrev made : LockName → Option Holding
  made name = rewrites_of (work_changes old) name (holdings_of (store_kept store) name)

  over : IsWorkOver programs (answered_statements programs (events_of t past)) (work_seen pieces old) (committed_database programs past)
  over = is.is_work (committed_database programs past) (legal_good programs bound past are room legal).ready.valid is.pieces

  -- which is seen under the names that were taken
  taken_seen : (name : LockName) → Names (taken_locks pieces) name → holdings_of (work_kept old) name ≡ made name
  taken_seen name named = over.stands name named ∙ over.rewrites name ∙ ap (rewrites_of (work_changes old) name) (sym (keeps name))

  -- and those that were written
  written_seen : (name : LockName) → is_written (work_changes old) name ≡ true → holdings_of (work_kept old) name ≡ made name
  written_seen name written =
      sym (ap (option_map holding_kept) (holding.own name))
      ∙ view-rewritten (work_changes old) (work_kept old) name
      ∙ written-same holding_kept (work_changes old) name (holdings_of (work_kept old) name) (holdings_of (store_kept store) name) written

  unwritten_made : (name : LockName) → is_written (work_changes old) name ≡ false → made name ≡ holdings_of (store_kept store) name
  unwritten_made name leaves = unwritten-stays holding_kept (work_changes old) name (holdings_of (store_kept store) name) leaves

  kept_written : (name : LockName) → is_written (work_changes old) name ≡ true → work_kept new name ≡ work_kept old name
  kept_written name written = put.kept name ∙ cond-true _ _ _ written

  kept_unwritten : (name : LockName) → is_written (work_changes old) name ≡ false → work_kept new name ≡ piece_over piece name (work_kept old name)
  kept_unwritten name leaves = put.kept name ∙ cond-false _ _ _ leaves

  -- where nothing is kept under a name of the list, nothing was seen there that wasn't written
  none_before : (name : LockName) → is_written (work_changes old) name ≡ false → holdings_of (store_kept store) name ≡ None
      → holdings_of (work_kept old) name ≡ None
  none_before name leaves none = elim (holding.within name) [
    | inl nothing ↦ ap (option_map holding_kept) nothing
    | inr there ↦ elim there [
      | inl named ↦ taken_seen name named ∙ unwritten_made name leaves ∙ none
      | inr written ↦ absurd (false≢true (sym leaves ∙ written))
    ]
  ]

  listed_kept : (name : LockName) → Names list name → is_written (work_changes old) name ≡ false
      → holdings_of (work_kept new) name ≡ holdings_of (store_kept store) name
  listed_kept name named leaves = ap (option_map holding_kept) (kept_unwritten name leaves) ∙ elim (piece_by_parts piece name) [
    | inl stays ↦ let none : store_kept store name ≡ None = sym (under.held name named) ∙ stays None in
        ap (option_map holding_kept) (stays (work_kept old name))
        ∙ none_before name leaves (ap (option_map holding_kept) none)
        ∙ sym (ap (option_map holding_kept) none)
    | inr same ↦ ap (option_map holding_kept) (same (work_kept old name) ∙ under.held name named)
  ]

  -- under a name of the list what the work makes of what is kept is seen
  listed_seen : (name : LockName) → Names list name → holdings_of (work_kept new) name ≡ made name
  listed_seen name named = ⊎_elim
      (λ written. ap (option_map holding_kept) (kept_written name written) ∙ written_seen name written)
      (λ leaves. listed_kept name named leaves ∙ sym (unwritten_made name leaves))
      (cases_Bool (is_written (work_changes old) name))

  unlisted_kept : (name : LockName) → (¬ Names list name) → work_kept new name ≡ work_kept old name
  unlisted_kept name unlisted = ⊎_elim
      (λ written. kept_written name written)
      (λ leaves. kept_unwritten name leaves ∙ under.others name (work_kept old name) unlisted)
      (cases_Bool (is_written (work_changes old) name))

  -- and under one that was taken before what was seen
  taken_still : (name : LockName) → Names (taken_locks pieces) name → holdings_of (work_kept new) name ≡ holdings_of (work_kept old) name
  taken_still name named = elim (named_or_not list name) [
    | inl listed ↦ listed_seen name listed ∙ sym (taken_seen name named)
    | inr unlisted ↦ ap (option_map holding_kept) (unlisted_kept name unlisted)
  ]

  pub granted_work : (k p : ℕ) → IsWorkOf programs (Granted t k p list ∷ past) t (work_seen (taken_of store list ∷ pieces) new)
  granted_work k p = subst
      (λ changes. IsWorkOf programs (Granted t k p list ∷ past) t
      (record { pieces = taken_of store list ∷ pieces; rewrites = rewrites_of changes; view = holdings_of (work_kept new) }))
      (sym put.changes)
      (work_granted programs past t k p (work_seen pieces old) (taken_of store list) (holdings_of (work_kept new)) is
      (λ name named. keeps name) taken_still listed_seen)

  pub granted_holding : IsHoldingOwn (taken_of store list ∷ pieces) new
  granted_holding = record { own = put.own holding.own; within = within }
    where
      taken : (name : LockName) → Names list name ⊎ Names (taken_locks pieces) name → Names (taken_locks (taken_of store list ∷ pieces)) name
      taken name (inl named) = (named.0, Contains-append_left list (taken_locks pieces) (name, named.0) named.1)
      taken name (inr named) = (named.0, Contains-append_right list (taken_locks pieces) (name, named.0) named.1)

      before : (name : LockName) → work_kept new name ≡ work_kept old name
          → (work_kept old name ≡ None) ⊎ (Names (taken_locks pieces) name ⊎ IsTrue (is_written (work_changes old) name))
          → (work_kept new name ≡ None) ⊎ (Names (taken_locks (taken_of store list ∷ pieces)) name ⊎ IsTrue (is_written (work_changes new) name))
      before name same (inl none) = inl (same ∙ none)
      before name same (inr (inl named)) = inr (inl (taken name (inr named)))
      before name same (inr (inr written)) = inr (inr (ap (λ changes. is_written changes name) put.changes ∙ written))

      within : (name : LockName)
          → (work_kept new name ≡ None) ⊎ (Names (taken_locks (taken_of store list ∷ pieces)) name ⊎ IsTrue (is_written (work_changes new) name))
      within name = elim (named_or_not list name) [
        | inl listed ↦ inr (inl (taken name (inl listed)))
        | inr unlisted ↦ before name (unlisted_kept name unlisted) (holding.within name)
      ]
