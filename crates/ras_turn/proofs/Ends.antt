-- The table is made, passes are given out, and at the end they are taken in.
use Rattle.std.proofs.Common.{◌≡◌, ◌≢◌, ℕ, zero, suc, ◌+◌, ◌<◌, ◌≤◌, List, [], ◌∷◌, ◌++◌, map, length, cond, eqb, eq-eqb, ne_eqb, set, sym, refl, ap, ◌∙◌, subst, arith, Bool, Option, Some}
use mathlib.Core.Option.{some, some-injective, some-ne-none}
use mathlib.Core.List.{IsPrefix}
use lib.ListN.{get_elem?}
use Rattle.std.specs.List.{All, HoldsAt}
use Rattle.std.specs.Option.{IsSome}
use Rattle.atomic_table.specs.Table.{State, opening, Final, Seen, Splits, Joins, Enters}
use Rattle.atomic_table.proofs.Lists.{set_else, at_longer}
use Rattle.ras_turn.specs.declared.view.Known.{Known}
use Rattle.ras_turn.specs.declared.view.View.{View}
use Rattle.ras_turn.specs.declared.view.Stage.TheVariants.{Holding}
use Rattle.ras_turn.specs.Entries.{made_by}
use Rattle.ras_turn.specs.Rule.{dealer, idle, collector, spent, known, HoldsTurn, IsTaken, AreTaken, Fits, IsTurned}
use Rattle.ras_turn.proofs.Lists.{each_set, each_snoc, whole, map_back}
use Rattle.ras_turn.proofs.Steps.{others_fit}

-- two seats, one of which holds the turn and the other not
held_elsewhere : {E C : Type 0} (views : List (View E C)) (id j k : ℕ) (v : View E C) → get_elem? views id ≡ some v → ¬ (v.stage ≡ Holding) → HoldsTurn views j k → j ≢ id
held_elsewhere {E} {C} views id j k v at never h same =
    let e : h.view ≡ v = some-injective h.view v (sym h.at ∙ ap (λ (i : ℕ). get_elem? views i) same ∙ at) in never (ap (λ (u : View E C). u.stage) (sym e) ∙ h.stage)

module _ {S E C : Type 0} (entries : S → List (ℕ × E)) (charter : S → C) (n : ℕ) where
  -- the table at the start
  pub opens : (x : S) → entries x ≡ [] → IsTurned entries charter n (charter x) (opening (0 ∷ 0 ∷ []) (Some x ∷ []) (dealer 0 (Some (charter x))))
  opens x empty = record {
    turn = 0;
    log = [];
    seat = λ _. 0;
    dealing = 0;
    next = 0;
    words = refl;
    few = omega arith;
    unmade = λ _ _. refl;
    each = each_snoc (λ j v. Fits [] (charter x) 0 (λ _. 0) 0 0 j v v.stage) [] (dealer 0 (Some (charter x))) (refl, refl, refl) (λ j v e. absurd (some-ne-none v (sym e)));
    free = λ _. (x, refl, empty, refl);
    taken = λ k no. absurd (omega arith);
  }

  pub opens_as : (x start : S) (slots : List (Option S)) → entries x ≡ [] → start ≡ x → slots ≡ Some x ∷ []
      → IsTurned entries charter n (charter start) (opening (0 ∷ 0 ∷ []) slots (dealer 0 (Some (charter start))))
  opens_as x start slots empty is laid =
      subst (λ (u : S × List (Option S)). IsTurned entries charter n (charter u.0) (opening (0 ∷ 0 ∷ []) u.1 (dealer 0 (Some (charter u.0))))) (λ i. (sym is i, sym laid i)) (opens x empty)

  module _ (c : C) where
    -- the dealer gives out the next pass
    pub deals : (id i : ℕ) (ch : Option C) → i < n → Splits (IsTurned entries charter n c) id (dealer i ch) (dealer (i + 1) ch) (idle i [] [] ch)
    deals id i ch near s r at =
        let here = r.each id (dealer i ch) at in
        let is : i ≡ r.next = here.1 in
        let left : View E C = dealer (i + 1) ch in
        let right : View E C = idle i [] [] ch in
        let vs : List (View E C) = set s.views id left in
        let seat : ℕ → ℕ = λ k. cond (eqb k i) (length vs) (r.seat k) in
        let old : (k : ℕ) → k < r.next → seat k ≡ r.seat k = λ k below. ap (λ (b : Bool). cond b (length vs) (r.seat k)) (ne_eqb k i (λ e. omega arith)) in
        let new : seat i ≡ length vs = ap (λ (b : Bool). cond b (length vs) (r.seat i)) (eq-eqb i i refl) in
        record {
          turn = r.turn;
          log = r.log;
          seat = seat;
          dealing = r.dealing;
          next = r.next + 1;
          words = r.words;
          few = omega arith;
          unmade = λ k far. r.unmade k (omega arith);
          each = each_snoc (λ j v. Fits r.log c r.turn seat r.dealing (r.next + 1) j v v.stage) vs right
              (record { seated = new; dealt = omega arith; charter = here.2; own = sym (r.unmade i (omega arith)) }, (λ no. let t = (r.taken i no).0 in omega arith), (r.log, refl))
              (each_set (λ j v. Fits r.log c r.turn seat r.dealing (r.next + 1) j v v.stage) s.views id left (here.0, ap (λ (k : ℕ). k + 1) is, here.2)
              (λ j v other e. others_fit r.log r.log c r.turn r.turn r.seat seat r.dealing r.next (r.next + 1) j
              record {
                seats = λ k sits below. old k below ∙ sits;
                more = omega arith;
                dealer = λ same. absurd (other (same ∙ sym here.0));
                longer = whole r.log;
                owns = λ _ _ _. refl;
                outside = λ _ _ _ no. no;
                inside = λ _ _ _ same. (same, refl);
              } v v.stage (r.each j v e)));
          free = r.free;
          taken = λ k same. let t = r.taken k same in
              let h = t.1 in
              let there : r.seat k ≢ id = held_elsewhere s.views id (r.seat k) k (dealer i ch) at (λ e. (cc)) h in
              let below : k < r.next = t.0 in (
                omega arith,
                record {
                  view = h.view;
                  at = subst (λ (y : ℕ). get_elem? (vs ++ right ∷ []) y ≡ some h.view) (sym (old k below))
                      (at_longer vs (right ∷ []) (r.seat k) h.view (set_else s.views id (r.seat k) left there ∙ h.at));
                  stage = h.stage;
                  number = h.number;
                },
              );
        }

    pub deals_as : (id i : ℕ) (v : View E C) → v ≡ dealer i v.charter → i < n → Splits (IsTurned entries charter n c) id v (dealer (v.number + 1) v.charter) (idle v.number [] [] v.charter)
    deals_as id i v is near = subst (λ (u : View E C). Splits (IsTurned entries charter n c) id u (dealer (u.number + 1) u.charter) (idle u.number [] [] u.charter))
        (sym is) (deals id i v.charter near)

    -- a seat comes that takes the passes in
    pub collects : (slots : ℕ) → Enters (IsTurned entries charter n c) slots 0 (λ _ w. w ≡ collector [])
    collects slots s r wide near = (
      collector [],
      record {
        turn = r.turn;
        log = r.log;
        seat = r.seat;
        dealing = r.dealing;
        next = r.next;
        words = r.words;
        few = r.few;
        unmade = r.unmade;
        each = each_snoc (λ j v. Fits r.log c r.turn r.seat r.dealing r.next j v v.stage) s.views (collector []) tt r.each;
        free = r.free;
        taken = λ k same. let t = r.taken k same in let h = t.1 in
            (t.0, record { view = h.view; at = at_longer s.views (collector [] ∷ []) (r.seat k) h.view h.at; stage = h.stage; number = h.number });
      },
      refl,
    )

    -- a pass is taken in
    gathers : (id other k : ℕ) (ks : List (Known E)) (seen own : List (ℕ × E)) (ch : Option C)
        → Joins (IsTurned entries charter n c) id (collector ks) other (idle k seen own ch) (collector (known (idle k seen own ch) ∷ ks)) spent
    gathers id other k ks seen own ch s r at apart beside =
        let v : View E C = collector ks in
        let w : View E C = idle k seen own ch in
        let both : View E C = collector (known w ∷ ks) in
        let was : get_elem? s.views other ≡ some w = sym (set_else s.views id other both apart) ∙ beside in
        let there = r.each other w was in
        let here : AreTaken r.log r.seat r.next id ks = r.each id v at in
        let p = there.0 in
        let seat : ℕ → ℕ = λ i. cond (eqb i k) id (r.seat i) in
        let old : (i j : ℕ) → j ≢ other → r.seat i ≡ j → seat i ≡ j = λ i j no sits. ap (λ (b : Bool). cond b id (r.seat i)) (ne_eqb i k (λ e. no (sym sits ∙ ap r.seat e ∙ p.seated))) ∙ sits in
        let new : seat k ≡ id = ap (λ (b : Bool). cond b id (r.seat k)) (eq-eqb k k refl) in
        let F : ℕ → View E C → Type 0 = λ j u. Fits r.log c r.turn seat r.dealing r.next j u u.stage in
        let rest : (j : ℕ) (u : View E C) → j ≢ other → get_elem? s.views j ≡ some u → F j u = λ j u no e. others_fit r.log r.log c r.turn r.turn r.seat seat r.dealing r.next r.next j
        record {
          seats = λ i sits _. old i j no sits;
          more = omega arith;
          dealer = λ _. refl;
          longer = whole r.log;
          owns = λ _ _ _. refl;
          outside = λ _ _ _ no. no;
          inside = λ _ _ _ same. (same, refl);
        } u u.stage (r.each j u e) in
        record {
          turn = r.turn;
          log = r.log;
          seat = seat;
          dealing = r.dealing;
          next = r.next;
          words = r.words;
          few = r.few;
          unmade = r.unmade;
          each = each_set F (set s.views id both) other spent tt
              (λ j u no e. each_set (λ i x. i ≢ other → F i x) s.views id both
              (λ _. (record { seated = new; dealt = p.dealt; prefix = there.2; own = p.own }, rest id v (λ e. apart (sym e)) at))
              (λ i x _ e' no'. rest i x no' e') j u e no);
          free = r.free;
          taken = λ i same. let t = r.taken i same in
              let h = t.1 in
              let not_id : r.seat i ≢ id = held_elsewhere s.views id (r.seat i) i v at (λ e. (cc)) h in
              let not_other : r.seat i ≢ other = held_elsewhere s.views other (r.seat i) i w was (λ e. (cc)) h in (
                t.0,
                record {
                  view = h.view;
                  at = subst (λ (y : ℕ). get_elem? (set (set s.views id both) other spent) y ≡ some h.view) (sym (old i (r.seat i) not_other refl))
                      (set_else (set s.views id both) other (r.seat i) spent not_other ∙ set_else s.views id (r.seat i) both not_id ∙ h.at);
                  stage = h.stage;
                  number = h.number;
                },
              );
        }

    pub gathers_as : (id other k : ℕ) (v w : View E C) → v ≡ collector v.joined → w ≡ idle k w.seen w.own w.charter
        → Joins (IsTurned entries charter n c) id v other w (collector (known w ∷ v.joined)) spent
    gathers_as id other k v w one two = subst (λ (u : View E C × View E C). Joins (IsTurned entries charter n c) id u.0 other u.1 (collector (known u.1 ∷ u.0.joined))
        spent) (λ i. (sym one i, sym two i))
        (gathers id other k v.joined w.seen w.own w.charter)

-- passes that were taken in, by what was known of each
module _ {A E : Type 0} (f : A → Known E) (log : List (ℕ × E)) (seat : ℕ → ℕ) (next j : ℕ) where
  pub each_taken : (xs : List A) → AreTaken log seat next j (map f xs) → All (λ (x : A). IsTaken log seat next j (f x)) xs
  each_taken [] are i d near = absurd (omega arith)
  each_taken (x ∷ xs) are zero d near = are.0
  each_taken (x ∷ xs) are (suc i) d near = each_taken xs are.1 i d (omega arith)

  pub seat_taken : (xs : List A) (i k : ℕ) → AreTaken log seat next j (map f xs) → i < length xs → HoldsAt (λ (x : A). (f x).number ≡ k) xs i → seat k ≡ j
  seat_taken [] i k are near at = absurd (omega arith)
  seat_taken (x ∷ xs) zero k are near at = ap seat (sym (at x)) ∙ are.0.seated
  seat_taken (x ∷ xs) (suc i) k are near at = seat_taken xs i k are.1 (omega arith) at

-- what is known of the state once the passes are taken in
pub record IsEnded {A S E C : Type 0} (entries : S → List (ℕ × E)) (charter : S → C) (n : ℕ) (c : C) (f : A → Known E) (xs : List A) (x : S) : Type 0 where
  pub charter_is : charter x ≡ c
  pub own : All (λ (a : A). made_by (f a).number (entries x) ≡ (f a).own) xs
  pub seen : All (λ (a : A). IsPrefix (f a).seen (entries x)) xs
  pub makers : (k : ℕ) → n ≤ k → made_by k (entries x) ≡ []

module _ {A S E C : Type 0} (entries : S → List (ℕ × E)) (charter : S → C) (n : ℕ) (c : C) (f : A → Known E) (xs : List A) where
  turn_free : (s : State (Option S) (View E C)) (r : IsTurned entries charter n c s) (id : ℕ) → get_elem? s.views id ≡ some (collector (map f xs))
      → ((k : ℕ) → k < n → (i : ℕ) × (i < length xs) × HoldsAt (λ (x : A). (f x).number ≡ k) xs i)
      → (t : ℕ) → r.turn ≡ t → r.turn ≡ 0
  turn_free s r id at all zero is = is
  turn_free s r id at all (suc k) is =
      let t = r.taken k (is ∙ omega arith) in
      let few = r.few in
      let below : k < r.next = t.0 in
      let place = all k (omega arith) in
      let sits : r.seat k ≡ id = seat_taken f r.log r.seat r.next id xs place.0 k (r.each id (collector (map f xs)) at) place.1 place.2 in
      absurd (held_elsewhere s.views id (r.seat k) k (collector (map f xs)) at (λ e. (cc)) t.1 sits)

  -- each number has its pass
  abbrev pub Complete : Type 0
  Complete = (k : ℕ) → k < n → (i : ℕ) × (i < length xs) × HoldsAt (λ (x : A). (f x).number ≡ k) xs i

  -- the state that is at home
  pub ends : (s : State (Option S) (View E C)) (r : IsTurned entries charter n c s) (id : ℕ) → get_elem? s.views id ≡ some (collector (map f xs)) → Complete
      → (x : S) × (get_elem? s.homes 0 ≡ some (some (Some x))) × IsEnded entries charter n c f xs x
  ends s r id at all =
      let home = r.free (turn_free s r id at all r.turn refl) in
      let x = home.0 in
      let is : r.log ≡ entries x = sym home.2 in
      let taken = each_taken f r.log r.seat r.next id xs (r.each id (collector (map f xs)) at) in (
        x,
        home.1,
        record {
          charter_is = home.3;
          own = subst (λ (l : List (ℕ × E)). All (λ (a : A). made_by (f a).number l ≡ (f a).own) xs) is (λ i d near. sym (taken i d near).own);
          seen = subst (λ (l : List (ℕ × E)). All (λ (a : A). IsPrefix (f a).seen l) xs) is (λ i d near. (taken i d near).prefix);
          makers = λ k far. let few = r.few in ap (made_by k) (sym is) ∙ r.unmade k (omega arith);
        },
      )

  pub closes : (id : ℕ) (v : View E C) (words : List ℕ) (slots : List (Option S)) → v ≡ collector (map f xs) → Complete → Final (Seen (IsTurned entries charter n c) id v) words slots
      → (x : S) × (get_elem? slots 0 ≡ some (Some x)) × IsEnded entries charter n c f xs x
  closes id v words slots is all end = let s = end.0 in let e = ends s end.1.0 id (end.1.1 ∙ ap some is) all in (e.0, end.4 0 (Some e.0) e.1, e.2)

  pub taken_out : (slots : List (Option S)) (home : Option S) (y : S) → (x : S) × (get_elem? slots 0 ≡ some (Some x)) × IsEnded entries charter n c f xs x
      → get_elem? slots 0 ≡ some home → home ≡ Some y → IsEnded entries charter n c f xs y
  taken_out slots home y e at is = let same : e.0 ≡ y = (cc (e.1, at, is)) in subst (λ (x : S). IsEnded entries charter n c f xs x) same e.2

  pub some_home : (slots : List (Option S)) (home : Option S) → (x : S) × (get_elem? slots 0 ≡ some (Some x)) × IsEnded entries charter n c f xs x → get_elem? slots 0 ≡ some home → IsSome home
  some_home slots home e at = subst (λ (h : Option S). IsSome h) (some-injective (Some e.0) home (sym e.1 ∙ at)) refl

-- a dealer that gave out a pass
pub dealt_view : {E C : Type 0} (v w : View E C) (k : ℕ) → w ≡ dealer (v.number + 1) v.charter → v.number ≡ k → w ≡ dealer (k + 1) w.charter
dealt_view {E} {C} v w k is number = is ∙ (λ i. dealer (number i + 1) (sym (ap (λ (u : View E C). u.charter) is) i))

pub gathered : {E C : Type 0} (ks : List (Known E)) (w : View E C) → w ≡ collector ks → w ≡ collector w.joined
gathered {E} {C} ks w is = is ∙ ap (λ (js : List (Known E)). collector js) (sym (ap (λ (u : View E C). u.joined) is))

-- one more pass, the last that was left, is taken in
pub gathered_one : {A E C : Type 0} (f : A → Known E) (all left left' : List A) (x : A) (js : List (Known E)) (k : Known E) (w : View E C) → map f all ≡ map f left
    ++ js → left ≡ left' ++ x ∷ [] → w ≡ collector (k ∷ js) → k ≡ f x → map f all ≡ map f left' ++ w.joined
gathered_one {A} {E} {C} f all left left' x js k w kept popped is same =
    kept ∙ ap (λ (xs : List A). map f xs ++ js) popped ∙ map_back f left' x js ∙ (λ i. map f left' ++ sym same i ∷ js)
    ∙ ap (λ (ks : List (Known E)). map f left' ++ ks) (sym (ap (λ (u : View E C). u.joined) is))

pub known_as : {E C : Type 0} (v w : View E C) (k : ℕ) → v ≡ w → w.number ≡ k → known v ≡ record { number = k; seen = w.seen; own = w.own }
known_as {E} {C} v w k is number = ap (λ (u : View E C). known u) is ∙ (λ i. record { number = number i; seen = w.seen; own = w.own })
