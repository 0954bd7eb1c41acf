-- What changes leave under a name: what was there where none of them writes there, and else the same whatever was there.
use Rattle.std.proofs.Common.{◌≡◌, ◌⊎◌, inl, inr, Bool, true, false, cond, not, ◌&&◌, ◌||◌, List, [], ◌∷◌, Option, None, refl, sym, ap, ◌∙◌, ⊎_elim}
use Rattle.std.specs.BTreeMap.{is_at}
use Rattle.std.specs.Cmp.Lexicographic.{slice_cmp}
use Rattle.std.specs.Ordering.{nat_cmp}
use Rattle.std.proofs.lemmas.Bool.{and_parts, cases_Bool}
use Rattle.ras_domain.specs.declared.lock.LockName.{LockName}
use Rattle.ras_domain.specs.declared.lock.LockName.TheVariants.{Collection, Domain, Tile}
use Rattle.ras_store.specs.declared.change.Change.{Change}
use Rattle.ras_store.specs.declared.change.Change.TheVariants.{Collection as CollectionChange, Domain as DomainChange, Tile as TileChange}
use Rattle.ras_store.specs.Kept.{Kept, all_changed_as, changed_as, is_listed, name_changed, replaced_as}
use Rattle.spec_statements.specs.Locks.{collection_in}
use Rattle.law_work.specs.Written.{is_written, is_written_by, writes_under}

module _ {X : Type 0} (seen : Kept → X) where
  -- a test that passes chooses the first, and one that fails the second
  passes : (b : Bool) (x y : Option X) → b ≡ true → cond b x y ≡ x
  passes b x y is = ap (λ t. cond t x y) is

  fails : (b : Bool) (x y : Option X) → b ≡ false → cond b x y ≡ y
  fails b x y is = ap (λ t. cond t x y) is

  unlisted : (b : Bool) (x : Option X) → not b ≡ true → cond b x None ≡ None
  unlisted true x is = absurd (cc)
  unlisted false x is = refl

  listed : (b : Bool) (x : Option X) → not b ≡ false → cond b x None ≡ x
  listed true x is = refl
  listed false x is = absurd (cc)

  under-same : (change : Change) (name : LockName) (x y : Option X) → writes_under change name ≡ true → replaced_as seen change name x ≡ replaced_as seen change name y
  under-same (CollectionChange n info) (Collection m) x y is = refl
  under-same (CollectionChange n info) (Domain m oid) x y is = unlisted (is_listed info oid) x is ∙ sym (unlisted (is_listed info oid) y is)
  under-same (CollectionChange n info) (Tile m oid place) x y is = unlisted (is_listed info oid) x is ∙ sym (unlisted (is_listed info oid) y is)
  under-same (DomainChange n id domain) (Collection m) x y is = absurd (cc)
  under-same (DomainChange n id domain) (Domain m oid) x y is = passes _ _ x is ∙ sym (passes _ _ y is)
  under-same (DomainChange n id domain) (Tile m oid place) x y is = absurd (cc)
  under-same (TileChange n id at tile) (Collection m) x y is = absurd (cc)
  under-same (TileChange n id at tile) (Domain m oid) x y is = absurd (cc)
  under-same (TileChange n id at tile) (Tile m oid place) x y is = passes _ _ x is ∙ sym (passes _ _ y is)

  under-stays : (change : Change) (name : LockName) (x : Option X) → writes_under change name ≡ false → replaced_as seen change name x ≡ x
  under-stays (CollectionChange n info) (Collection m) x is = absurd (cc)
  under-stays (CollectionChange n info) (Domain m oid) x is = listed (is_listed info oid) x is
  under-stays (CollectionChange n info) (Tile m oid place) x is = listed (is_listed info oid) x is
  under-stays (DomainChange n id domain) (Collection m) x is = refl
  under-stays (DomainChange n id domain) (Domain m oid) x is = fails _ _ x is
  under-stays (DomainChange n id domain) (Tile m oid place) x is = refl
  under-stays (TileChange n id at tile) (Collection m) x is = refl
  under-stays (TileChange n id at tile) (Domain m oid) x is = refl
  under-stays (TileChange n id at tile) (Tile m oid place) x is = fails _ _ x is

  one-same : (change : Change) (name : LockName) (x y : Option X) → is_written_by change name ≡ true → changed_as seen change name x ≡ changed_as seen change name y
  one-same change name x y is =
      let parts = and_parts (is_at (slice_cmp nat_cmp (collection_in (name_changed change))) (collection_in name)) (writes_under change name) is in
      passes _ _ x parts.0 ∙ under-same change name x y parts.1 ∙ sym (passes _ _ y parts.0)

  one-stays : (change : Change) (name : LockName) (x : Option X) → is_written_by change name ≡ false → changed_as seen change name x ≡ x
  one-stays change name x is = at (is_at (slice_cmp nat_cmp (collection_in (name_changed change))) (collection_in name)) is
    where
      at : (b : Bool) → (b && writes_under change name) ≡ false → cond b (replaced_as seen change name x) x ≡ x
      at true is = under-stays change name x is
      at false is = refl

  pub written-same : (changes : List Change) (name : LockName) (x y : Option X) → is_written changes name ≡ true → all_changed_as seen changes name x ≡ all_changed_as seen changes name y
  written-same [] name x y is = absurd (cc)
  written-same (change ∷ changes) name x y is = at (is_written_by change name) refl is (λ later. written-same changes name (changed_as seen change name x) (changed_as seen change name y) later)
    where
      at : (b : Bool) → is_written_by change name ≡ b → (b || is_written changes name) ≡ true
          → (is_written changes name ≡ true → all_changed_as seen changes name (changed_as seen change name x) ≡ all_changed_as seen changes name (changed_as seen change name y))
          → all_changed_as seen changes name (changed_as seen change name x) ≡ all_changed_as seen changes name (changed_as seen change name y)
      at true here is rest = ap (all_changed_as seen changes name) (one-same change name x y here)
      at false here is rest = rest is

  pub unwritten-stays : (changes : List Change) (name : LockName) (x : Option X) → is_written changes name ≡ false → all_changed_as seen changes name x ≡ x
  unwritten-stays [] name x is = refl
  unwritten-stays (change ∷ changes) name x is = at (is_written_by change name) refl is (λ later. unwritten-stays changes name (changed_as seen change name x) later)
    where
      at : (b : Bool) → is_written_by change name ≡ b → (b || is_written changes name) ≡ false
          → (is_written changes name ≡ false → all_changed_as seen changes name (changed_as seen change name x) ≡ changed_as seen change name x)
          → all_changed_as seen changes name (changed_as seen change name x) ≡ x
      at true here is rest = absurd (cc)
      at false here is rest = rest is ∙ one-stays change name x here

  pub by_parts : (changes : List Change) (name : LockName)
      → ((x : Option X) → all_changed_as seen changes name x ≡ x) ⊎ ((x : Option X) → all_changed_as seen changes name x ≡ all_changed_as seen changes name None)
  by_parts changes name = ⊎_elim
      (λ is. inr (λ x. written-same changes name x None is))
      (λ is. inl (λ x. unwritten-stays changes name x is))
      (cases_Bool (is_written changes name))
