-- Laws of `Wrote`, `Stopped` and `Writes`: how the parts of a text that are written one after
-- another make one text.
use Rattle.std.proofs.Common.{◌≡◌, ℕ, ◌+◌, ◌-◌, ◌<◌, ◌≤◌, List, [], ◌++◌, Result, Ok, Err, length, get_or, take, drop, sym, ◌∙◌, ap, subst, refl, arith, append_assoc, take-append-drop}
use Rattle.std.proofs.lemmas.List.{drop_more, take_all, drop-drop, length-drop}
use Rattle.std.proofs.lemmas.List.Concat.{flat_map-append}
use Rattle.std.specs.Prelude.{Option, IsErr, flat_map}
use Rattle.std.specs.Io.KnownBytes.{Keeps}
use Rattle.std.proofs.KnownBytes.{Appends-nil, Appends-trans, Appends-kept}
use Rattle.ras_edges.specs.Faults.{Rose}
use Rattle.ras_edges.specs.Sink.{Wrote, Stopped, Writes}

-- the slice from an index on
pub take-rest : (xs : List ℕ) (at : ℕ) → take (length xs - at) (drop at xs) ≡ drop at xs
take-rest xs at = take_all (length xs - at) (drop at xs) (omega (arith, length-drop at xs))

-- a list from an index on is its next n elements and the list from there on
pub drop-parts : (xs : List ℕ) (at n : ℕ) → drop at xs ≡ take n (take (length xs - at) (drop at xs)) ++ drop (at + n) xs
drop-parts xs at n =
    let rest = drop at xs in
    sym (take-append-drop n rest) ∙ ap (λ l. l ++ drop n rest) (ap (take n) (sym (take-rest xs at))) ∙ ap (λ l. take n (take (length xs - at) rest) ++ l) (drop-drop n at xs)

-- a rise stays one when the counting began earlier
pub Rose-earlier : (a b c : ℕ) → a ≤ b → Rose b c → Rose a c
Rose-earlier a b c h r = omega arith

module _ {K : Type 0} {taken : K → Option (List ℕ)} {faults : K → ℕ} where
  -- nothing was written so far
  pub Wrote-none : (s : K) → Wrote taken faults s s []
  Wrote-none s = record { appended = Appends-nil (taken s); faults_stay = omega arith }

  -- one text and then another
  pub Wrote-more : {a b c : K} {xs ys : List ℕ} → Wrote taken faults a b xs → Wrote taken faults b c ys → Wrote taken faults a c (xs ++ ys)
  Wrote-more {a} {b} {c} {xs} {ys} p q = record {
    appended = Appends-trans (taken a) (taken b) (taken c) xs ys p.appended q.appended;
    faults_stay = omega arith;
  }

  -- one text, and then a stop within another
  pub Stopped-later : {a b c : K} {xs ys : List ℕ} → Wrote taken faults a b xs → Stopped taken faults b c ys → Stopped taken faults a c (xs ++ ys)
  Stopped-later {a} {b} {c} {xs} {ys} p q = record {
    front = xs ++ q.front;
    rest = q.rest;
    parts = ap (λ l. xs ++ l) q.parts ∙ sym (append_assoc xs q.front q.rest);
    appended = Appends-trans (taken a) (taken b) (taken c) xs q.front p.appended q.appended;
    faults_stay = omega arith;
    rose = Rose-earlier (faults a) (faults b) (faults c) p.faults_stay q.rose;
  }

  -- who stopped within a text stopped within each longer one
  pub Stopped-longer : {a b : K} {xs : List ℕ} (ys : List ℕ) → Stopped taken faults a b xs → Stopped taken faults a b (xs ++ ys)
  Stopped-longer {a} {b} {xs} ys q = record {
    front = q.front;
    rest = q.rest ++ ys;
    parts = ap (λ l. l ++ ys) q.parts ∙ append_assoc q.front q.rest ys;
    appended = q.appended;
    faults_stay = q.faults_stay;
    rose = q.rose;
  }

  -- a write that failed at the rest of a text
  pub Stopped-at : {a b c : K} {xs : List ℕ} (ys : List ℕ) → Wrote taken faults a b xs → Keeps (taken b) (taken c) → faults b ≤ faults c → Rose (faults b) (faults c)
      → Stopped taken faults a c (xs ++ ys)
  Stopped-at {a} {b} {c} {xs} ys p kept later rose = record {
    front = xs;
    rest = ys;
    parts = refl;
    appended = Appends-kept (taken a) (taken b) (taken c) xs p.appended kept;
    faults_stay = omega (arith, later);
    rose = Rose-earlier (faults a) (faults b) (faults c) p.faults_stay rose;
  }

  -- what is returned where a part failed
  pub Writes-failed : {E : Type 0} {a b : K} {text : List ℕ} (result : Result (Unit {0}) E) → IsErr result → Stopped taken faults a b text → Writes taken faults a b result text
  Writes-failed (Ok u) e q = cc
  Writes-failed (Err e) _ q = q

  -- the part that is written last decides for the whole
  pub Writes-after : {E : Type 0} {a b : K} (c : K) {xs : List ℕ} (ys : List ℕ) (result : Result (Unit {0}) E)
      → Wrote taken faults a b xs → Writes taken faults b c result ys → Writes taken faults a c result (xs ++ ys)
  Writes-after c ys (Ok u) p q = Wrote-more p q
  Writes-after c ys (Err e) p q = Stopped-later p q

-- a loop that writes the text of each element stopped at the one at index i
module _ {K X : Type 0} {taken : K → Option (List ℕ)} {faults : K → ℕ} (f : X → List ℕ) where
  pub Stopped-in : {a b c : K} (xs : List X) (i : ℕ) (d : X) → i < length xs → Wrote taken faults a b (flat_map f (take i xs))
      → Stopped taken faults b c (f (get_or xs i d)) → Stopped taken faults a c (flat_map f xs)
  Stopped-in xs i d h p q =
      let parts : flat_map f xs ≡ flat_map f (take i xs) ++ (f (get_or xs i d) ++ flat_map f (drop (i + 1) xs)) =
      ap (flat_map f) (sym (take-append-drop i xs)) ∙ flat_map-append f (take i xs) (drop i xs) ∙ ap (λ l. flat_map f (take i xs) ++ flat_map f l) (drop_more xs i d h) in
      subst (Stopped taken faults _ _) (sym parts) (Stopped-later p (Stopped-longer (flat_map f (drop (i + 1) xs)) q))

  -- the same, where the element has a name of its own
  pub Stopped-in_item : {a b c : K} (xs : List X) (i : ℕ) (x : X) → i < length xs → x ≡ get_or xs i x → Wrote taken faults a b (flat_map f (take i xs))
      → Stopped taken faults b c (f x) → Stopped taken faults a c (flat_map f xs)
  Stopped-in_item {a} {b} {c} xs i x h e p q = Stopped-in xs i x h p (subst (λ (y : X). Stopped taken faults b c (f y)) e q)
