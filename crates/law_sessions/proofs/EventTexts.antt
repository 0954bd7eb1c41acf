-- The lines of a history determine its events, but for their answers.
use Rattle.std.proofs.Common.{◌≡◌, ◌≢◌, Bool, true, false, ◌&&◌, ◌||◌, ◌==◌, not, List, [], ◌∷◌, ◌++◌, flat_map, map, All, refl, sym, ap, ◌∙◌, arith}
use Rattle.std.specs.Prelude.{IsTrue, codes, decimal}
use Rattle.std.specs.List.{AllByRecursion, join_by, list_all}
use Rattle.std.proofs.lemmas.Bool.{and_parts, false≢true}
use Rattle.std.proofs.lemmas.List.{append_assoc}
use Rattle.std.proofs.lemmas.List.Elements.{recursion_from_All}
use Rattle.ras_domain.specs.declared.lock.LockName.{LockName}
use Rattle.ras_domain.specs.declared.lock.LockName.TheVariants.{Collection, Domain, Tile}
use Rattle.ras_domain.specs.declared.lock.Mode.{Mode}
use Rattle.ras_domain.specs.declared.lock.Mode.TheVariants.{Shared, Exclusive}
use Rattle.ras_syntax.specs.declared.answer.Answer.TheVariants.{Done}
use Rattle.ras_syntax.specs.declared.event.Event.{Event}
use Rattle.ras_syntax.specs.declared.event.Event.TheVariants.{Begun, Granted, Refused, Answered, GaveUp, Committed, Aborted}
use Rattle.spec_grammar.specs.Tokens.{Text, begins_name, continues_name, first_is, in_small_letters, is_one_of, reserved_words}
use Rattle.spec_statements.specs.Locks.{Lock}
use Rattle.spec_workloads.specs.Answers.{point_text_of}
use Rattle.spec_workloads.specs.Outline.{is_name}
use Rattle.spec_sessions.specs.Printable.{EventHasText, LockHasText}
use Rattle.spec_sessions.specs.Report.{event_line, lock_text_of, mode_text_of, name_text_of}
use Rattle.law_lists.proofs.Each.{each_both, each_passes, each_weaker}
use Rattle.law_sessions.specs.Numbers.{HasReportNumbers, IsReportEvent}
use Rattle.law_sessions.proofs.Codes.{IsApart, IsCode, IsWordText, concat-then, head_same, in_word, join-code, number-code, point-code, same-front, tail_same, then_all, word-code}

-- ---- names

pub name-word : (name : Text) → IsTrue (is_name name) → IsWordText name
name-word name is =
    let front = (and_parts (first_is begins_name name && list_all continues_name name) (not (is_one_of reserved_words (in_small_letters name))) is).0 in
    let all = (and_parts (first_is begins_name name) (list_all continues_name name) front).1 in
    each_weaker (λ b. continues_name b ≡ true) (λ b. in_word b ≡ true) (λ b goes. or-left (continues_name b) (b == 45) goes) name (each_passes continues_name name all)
  where
    or-left : (x y : Bool) → x ≡ true → (x || y) ≡ true
    or-left true y is = refl
    or-left false y is = absurd (false≢true is)

-- a word, with the equation first
pub words-code : (xs ys rest more : Text) → xs ++ rest ≡ ys ++ more → IsWordText xs → IsWordText ys → IsApart rest → IsApart more → (xs ≡ ys) × (rest ≡ more)
words-code xs ys rest more is x y apart apart_too = word-code xs ys rest more x y apart apart_too is

pub record IsGoodName (name : LockName) : Type 0 where
  pub has : LockHasText name
  pub numbers : HasReportNumbers name

pub names-code : IsCode name_text_of IsGoodName
names-code (Collection m) (Collection n) rest more is good good_too apart apart_too =
    let e = same-front (codes "collection ") (m ++ rest) (n ++ more) (sym (append_assoc (codes "collection ") m rest) ∙ is ∙ append_assoc (codes "collection ") n more) in
    let w = words-code m n rest more e (name-word m good.has) (name-word n good_too.has) apart apart_too in
    (ap Collection w.0, w.1)
names-code (Domain m a) (Domain n b) rest more is good good_too apart apart_too =
    let e : then_all (codes "domain " ∷ m ∷ codes " " ∷ decimal a ∷ []) rest ≡ then_all (codes "domain " ∷ n ∷ codes " " ∷ decimal b ∷ []) more =
    sym (concat-then (codes "domain " ∷ m ∷ codes " " ∷ decimal a ∷ []) rest) ∙ is ∙ concat-then (codes "domain " ∷ n ∷ codes " " ∷ decimal b ∷ []) more in
    let w = words-code m n (codes " " ++ (decimal a ++ rest)) (codes " " ++ (decimal b ++ more)) (same-front (codes "domain ") _ _ e) (name-word m good.has) (name-word n good_too.has)
    refl refl in
    let i = number-code a b rest more (same-front (codes " ") _ _ w.1) good.numbers good_too.numbers apart apart_too in
    ((λ t. Domain (w.0 t) (i.0 t)), i.1)
names-code (Tile m a p) (Tile n b q) rest more is good good_too apart apart_too =
    let parts = codes "tile " ∷ m ∷ codes " " ∷ decimal a ∷ codes " " ∷ point_text_of p.items ∷ [] in
    let others = codes "tile " ∷ n ∷ codes " " ∷ decimal b ∷ codes " " ∷ point_text_of q.items ∷ [] in
    let e : then_all parts rest ≡ then_all others more = sym (concat-then parts rest) ∙ is ∙ concat-then others more in
    let w = words-code m n (codes " " ++ (decimal a ++ (codes " " ++ (point_text_of p.items ++ rest)))) (codes " " ++ (decimal b ++ (codes " " ++ (point_text_of q.items ++ more))))
    (same-front (codes "tile ") _ _ e) (name-word m good.has) (name-word n good_too.has) refl refl in
    let i = number-code a b (codes " " ++ (point_text_of p.items ++ rest)) (codes " " ++ (point_text_of q.items ++ more)) (same-front (codes " ") _ _ w.1) good.numbers.0
    good_too.numbers.0 refl refl in
    let z = point-code p.items q.items rest more (same-front (codes " ") _ _ i.1) (recursion_from_All _ p.items good.numbers.1) (recursion_from_All _ q.items good_too.numbers.1) in
    ((λ t. Tile (w.0 t) (i.0 t) (record { items = z.0 t })), z.1)
names-code (Collection m) (Domain n b) rest more is good good_too apart apart_too = absurd (omega (arith, head_same is))
names-code (Collection m) (Tile n b q) rest more is good good_too apart apart_too = absurd (omega (arith, head_same is))
names-code (Domain m a) (Collection n) rest more is good good_too apart apart_too = absurd (omega (arith, head_same is))
names-code (Domain m a) (Tile n b q) rest more is good good_too apart apart_too = absurd (omega (arith, head_same is))
names-code (Tile m a p) (Collection n) rest more is good good_too apart apart_too = absurd (omega (arith, head_same is))
names-code (Tile m a p) (Domain n b) rest more is good good_too apart apart_too = absurd (omega (arith, head_same is))

-- ---- locks

abbrev IsGoodLock : Lock → Type 0
IsGoodLock lock = IsGoodName lock.0

mode-same : (m n : Mode) (rest more : Text) → mode_text_of m ++ rest ≡ mode_text_of n ++ more → (m ≡ n) × (rest ≡ more)
mode-same Shared Shared rest more is = (refl, tail_same is)
mode-same Exclusive Exclusive rest more is = (refl, tail_same is)
mode-same Shared Exclusive rest more is = absurd (omega (arith, head_same is))
mode-same Exclusive Shared rest more is = absurd (omega (arith, head_same is))

locks-code : IsCode lock_text_of IsGoodLock
locks-code (x, m) (y, n) rest more is good good_too apart apart_too =
    let parts = mode_text_of m ∷ codes " " ∷ name_text_of x ∷ [] in
    let others = mode_text_of n ∷ codes " " ∷ name_text_of y ∷ [] in
    let e : then_all parts rest ≡ then_all others more = sym (concat-then parts rest) ∙ is ∙ concat-then others more in
    let mode = mode-same m n (codes " " ++ (name_text_of x ++ rest)) (codes " " ++ (name_text_of y ++ more)) e in
    let name = names-code x y rest more (same-front (codes " ") _ _ mode.1) good good_too apart apart_too in
    ((λ t. (name.0 t, mode.0 t)), name.1)

lists-code : (xs ys : List Lock) (rest more : Text) → join_by lock_text_of (codes ", ") xs ++ (10 ∷ rest) ≡ join_by lock_text_of (codes ", ") ys ++ (10 ∷ more) → xs ≢ [] → ys ≢ []
    → AllByRecursion IsGoodLock xs → AllByRecursion IsGoodLock ys → (xs ≡ ys) × (rest ≡ more)
lists-code [] ys rest more is some some_too good good_too = absurd (some refl)
lists-code (x ∷ xs) [] rest more is some some_too good good_too = absurd (some_too refl)
lists-code (x ∷ xs) (y ∷ ys) rest more is some some_too good good_too =
    let both = join-code lock_text_of IsGoodLock locks-code (32 ∷ []) x y xs ys (10 ∷ rest) (10 ∷ more) is good.0 good_too.0 good.1 good_too.1 refl refl refl refl in
    (both.0, tail_same both.1)

good-list : (list : List Lock) → All (λ lock. LockHasText lock.0) list → All (λ lock. HasReportNumbers lock.0) list → AllByRecursion IsGoodLock list
good-list list named numbered =
    each_both (λ lock. LockHasText lock.0) (λ lock. HasReportNumbers lock.0) IsGoodLock (λ lock has numbers. record { has = has; numbers = numbers }) list
    (recursion_from_All (λ lock. LockHasText lock.0) list named) (recursion_from_All (λ lock. HasReportNumbers lock.0) list numbered)

-- ---- events

-- an event without its answer
abbrev pub bare_event : Event → Event
bare_event (Begun t session k) = Begun t session k
bare_event (Granted t k p list) = Granted t k p list
bare_event (Refused t k p name mode holder) = Refused t k p name mode holder
bare_event (Answered t k answer) = Answered t k (Done 0)
bare_event (GaveUp t k) = GaveUp t k
bare_event (Committed t n) = Committed t n
bare_event (Aborted t) = Aborted t

pub record IsGoodEvent (event : Event) : Type 0 where
  pub has : EventHasText event
  pub numbers : IsReportEvent event

events-code : (e f : Event) (rest more : Text) → event_line e ++ rest ≡ event_line f ++ more → IsGoodEvent e → IsGoodEvent f → (bare_event e ≡ bare_event f) × (rest ≡ more)
events-code (Begun t s k) (Begun t' s' k') rest more is good good_too =
    let parts = codes "begun " ∷ decimal t ∷ codes " session " ∷ decimal s ∷ codes " statement " ∷ decimal k ∷ codes "\n" ∷ [] in
    let others = codes "begun " ∷ decimal t' ∷ codes " session " ∷ decimal s' ∷ codes " statement " ∷ decimal k' ∷ codes "\n" ∷ [] in
    let e : then_all parts rest ≡ then_all others more = sym (concat-then parts rest) ∙ is ∙ concat-then others more in
    let s0 : (decimal t ++ (codes " session " ++ (decimal s ++ (codes " statement " ++ (decimal k ++ (codes "\n" ++ rest)))))) ≡ (decimal t' ++
    (codes " session " ++ (decimal s' ++ (codes " statement " ++ (decimal k' ++ (codes "\n" ++ more)))))) = same-front (codes "begun ") _ _ e in
    let n1 = number-code t t' (codes " session " ++ (decimal s ++ (codes " statement " ++ (decimal k ++ (codes "\n" ++ rest))))) (codes " session " ++
    (decimal s' ++ (codes " statement " ++ (decimal k' ++ (codes "\n" ++ more))))) s0 good.numbers.0 good_too.numbers.0 refl refl in
    let s2 : (decimal s ++ (codes " statement " ++ (decimal k ++ (codes "\n" ++ rest)))) ≡ (decimal s' ++ (codes " statement " ++ (decimal k' ++
    (codes "\n" ++ more)))) = same-front (codes " session ") _ _ n1.1 in
    let n3 = number-code s s' (codes " statement " ++ (decimal k ++ (codes "\n" ++ rest))) (codes " statement " ++ (decimal k' ++
    (codes "\n" ++ more))) s2 good.numbers.1 good_too.numbers.1 refl refl in
    let s4 : (decimal k ++ (codes "\n" ++ rest)) ≡ (decimal k' ++ (codes "\n" ++ more)) = same-front (codes " statement ") _ _ n3.1 in
    let n5 = number-code k k' (codes "\n" ++ rest) (codes "\n" ++ more) s4 good.numbers.2 good_too.numbers.2 refl refl in
    let s6 : rest ≡ more = same-front (codes "\n") _ _ n5.1 in
    ((λ j. Begun (n1.0 j) (n3.0 j) (n5.0 j)), s6)
events-code (Granted t k p list) (Granted t' k' p' list') rest more is good good_too =
    let parts = codes "granted " ∷ decimal t ∷ codes " " ∷ decimal k ∷ codes " phase " ∷ decimal p ∷ codes ": " ∷ join_by lock_text_of (codes ", ") list ∷ codes "\n" ∷ [] in
    let others = codes "granted " ∷ decimal t' ∷ codes " " ∷ decimal k' ∷ codes " phase " ∷ decimal p' ∷ codes ": " ∷ join_by lock_text_of (codes ", ") list' ∷ codes "\n" ∷ [] in
    let e : then_all parts rest ≡ then_all others more = sym (concat-then parts rest) ∙ is ∙ concat-then others more in
    let s0 : (decimal t ++ (codes " " ++ (decimal k ++ (codes " phase " ++ (decimal p ++ (codes ": " ++ (join_by lock_text_of (codes ", ") list ++
    (codes "\n" ++ rest)))))))) ≡ (decimal t' ++ (codes " " ++ (decimal k' ++ (codes " phase " ++ (decimal p' ++ (codes ": " ++
    (join_by lock_text_of (codes ", ") list' ++ (codes "\n" ++ more)))))))) = same-front (codes "granted ") _ _ e in
    let n1 = number-code t t' (codes " " ++ (decimal k ++ (codes " phase " ++ (decimal p ++ (codes ": " ++ (join_by lock_text_of (codes ", ") list ++
    (codes "\n" ++ rest))))))) (codes " " ++ (decimal k' ++ (codes " phase " ++ (decimal p' ++ (codes ": " ++ (join_by lock_text_of (codes ", ") list' ++
    (codes "\n" ++ more))))))) s0 good.numbers.0 good_too.numbers.0 refl refl in
    let s2 : (decimal k ++ (codes " phase " ++ (decimal p ++ (codes ": " ++ (join_by lock_text_of (codes ", ") list ++ (codes "\n" ++ rest)))))) ≡ (decimal k' ++
    (codes " phase " ++ (decimal p' ++ (codes ": " ++ (join_by lock_text_of (codes ", ") list' ++ (codes "\n" ++ more)))))) = same-front (codes " ") _ _ n1.1 in
    let n3 = number-code k k' (codes " phase " ++ (decimal p ++ (codes ": " ++ (join_by lock_text_of (codes ", ") list ++
    (codes "\n" ++ rest))))) (codes " phase " ++ (decimal p' ++ (codes ": " ++ (join_by lock_text_of (codes ", ") list' ++
    (codes "\n" ++ more))))) s2 good.numbers.1 good_too.numbers.1 refl refl in
    let s4 : (decimal p ++ (codes ": " ++ (join_by lock_text_of (codes ", ") list ++ (codes "\n" ++ rest)))) ≡ (decimal p' ++ (codes ": " ++
    (join_by lock_text_of (codes ", ") list' ++ (codes "\n" ++ more)))) = same-front (codes " phase ") _ _ n3.1 in
    let n5 = number-code p p' (codes ": " ++ (join_by lock_text_of (codes ", ") list ++ (codes "\n" ++ rest))) (codes ": " ++
    (join_by lock_text_of (codes ", ") list' ++ (codes "\n" ++ more))) s4 good.numbers.2 good_too.numbers.2 refl refl in
    let s6 : (join_by lock_text_of (codes ", ") list ++ (codes "\n" ++ rest)) ≡ (join_by lock_text_of (codes ", ") list' ++ (codes "\n" ++ more)) = same-front (codes ": ") _ _ n5.1 in
    let n7 = lists-code list list' rest more s6 good.has.0 good_too.has.0 (good-list list good.has.1 good.numbers.3) (good-list list' good_too.has.1 good_too.numbers.3) in
    ((λ j. Granted (n1.0 j) (n3.0 j) (n5.0 j) (n7.0 j)), n7.1)
events-code (Refused t k p name mode holder) (Refused t' k' p' name' mode' holder') rest more is good good_too =
    let parts = codes "refused " ∷ decimal t ∷ codes " " ∷ decimal k ∷ codes " phase " ∷ decimal p ∷ codes " " ∷ lock_text_of (name, mode) ∷
    codes " holder " ∷ decimal holder ∷ codes "\n" ∷ [] in
    let others = codes "refused " ∷ decimal t' ∷ codes " " ∷ decimal k' ∷ codes " phase " ∷ decimal p' ∷ codes " " ∷ lock_text_of (name', mode') ∷
    codes " holder " ∷ decimal holder' ∷ codes "\n" ∷ [] in
    let e : then_all parts rest ≡ then_all others more = sym (concat-then parts rest) ∙ is ∙ concat-then others more in
    let s0 : (decimal t ++ (codes " " ++ (decimal k ++ (codes " phase " ++ (decimal p ++ (codes " " ++ (lock_text_of (name, mode) ++ (codes " holder " ++
    (decimal holder ++ (codes "\n" ++ rest)))))))))) ≡ (decimal t' ++ (codes " " ++ (decimal k' ++ (codes " phase " ++ (decimal p' ++ (codes " " ++
    (lock_text_of (name', mode') ++ (codes " holder " ++ (decimal holder' ++ (codes "\n" ++ more)))))))))) = same-front (codes "refused ") _ _ e in
    let n1 = number-code t t' (codes " " ++ (decimal k ++ (codes " phase " ++ (decimal p ++ (codes " " ++ (lock_text_of (name, mode) ++ (codes " holder " ++
    (decimal holder ++ (codes "\n" ++ rest))))))))) (codes " " ++ (decimal k' ++ (codes " phase " ++ (decimal p' ++ (codes " " ++ (lock_text_of (name', mode') ++
    (codes " holder " ++ (decimal holder' ++ (codes "\n" ++ more))))))))) s0 good.numbers.0 good_too.numbers.0 refl refl in
    let s2 : (decimal k ++ (codes " phase " ++ (decimal p ++ (codes " " ++ (lock_text_of (name, mode) ++ (codes " holder " ++ (decimal holder ++
    (codes "\n" ++ rest)))))))) ≡ (decimal k' ++ (codes " phase " ++ (decimal p' ++ (codes " " ++ (lock_text_of (name', mode') ++ (codes " holder " ++
    (decimal holder' ++ (codes "\n" ++ more)))))))) = same-front (codes " ") _ _ n1.1 in
    let n3 = number-code k k' (codes " phase " ++ (decimal p ++ (codes " " ++ (lock_text_of (name, mode) ++ (codes " holder " ++ (decimal holder ++
    (codes "\n" ++ rest))))))) (codes " phase " ++ (decimal p' ++ (codes " " ++ (lock_text_of (name', mode') ++ (codes " holder " ++ (decimal holder' ++
    (codes "\n" ++ more))))))) s2 good.numbers.1 good_too.numbers.1 refl refl in
    let s4 : (decimal p ++ (codes " " ++ (lock_text_of (name, mode) ++ (codes " holder " ++ (decimal holder ++ (codes "\n" ++ rest)))))) ≡ (decimal p' ++
    (codes " " ++ (lock_text_of (name', mode') ++ (codes " holder " ++ (decimal holder' ++ (codes "\n" ++ more)))))) = same-front (codes " phase ") _ _ n3.1 in
    let n5 = number-code p p' (codes " " ++ (lock_text_of (name, mode) ++ (codes " holder " ++ (decimal holder ++ (codes "\n" ++ rest))))) (codes " " ++
    (lock_text_of (name', mode') ++ (codes " holder " ++ (decimal holder' ++ (codes "\n" ++ more))))) s4 good.numbers.2 good_too.numbers.2 refl refl in
    let s6 : (lock_text_of (name, mode) ++ (codes " holder " ++ (decimal holder ++ (codes "\n" ++ rest)))) ≡ (lock_text_of (name', mode') ++ (codes " holder " ++
    (decimal holder' ++ (codes "\n" ++ more)))) = same-front (codes " ") _ _ n5.1 in
    let n7 = locks-code (name, mode) (name', mode') (codes " holder " ++ (decimal holder ++ (codes "\n" ++ rest))) (codes " holder " ++ (decimal holder' ++
    (codes "\n" ++ more))) s6 (record { has = good.has; numbers = good.numbers.3 }) (record { has = good_too.has; numbers = good_too.numbers.3 }) refl refl in
    let s8 : (decimal holder ++ (codes "\n" ++ rest)) ≡ (decimal holder' ++ (codes "\n" ++ more)) = same-front (codes " holder ") _ _ n7.1 in
    let n9 = number-code holder holder' (codes "\n" ++ rest) (codes "\n" ++ more) s8 good.numbers.4 good_too.numbers.4 refl refl in
    let s10 : rest ≡ more = same-front (codes "\n") _ _ n9.1 in
    ((λ j. Refused (n1.0 j) (n3.0 j) (n5.0 j) (n7.0 j).0 (n7.0 j).1 (n9.0 j)), s10)
events-code (Answered t k answer) (Answered t' k' answer') rest more is good good_too =
    let parts = codes "answered " ∷ decimal t ∷ codes " " ∷ decimal k ∷ codes "\n" ∷ [] in
    let others = codes "answered " ∷ decimal t' ∷ codes " " ∷ decimal k' ∷ codes "\n" ∷ [] in
    let e : then_all parts rest ≡ then_all others more = sym (concat-then parts rest) ∙ is ∙ concat-then others more in
    let s0 : (decimal t ++ (codes " " ++ (decimal k ++ (codes "\n" ++ rest)))) ≡ (decimal t' ++ (codes " " ++ (decimal k' ++ (codes "\n" ++ more)))) = same-front (codes "answered ") _ _ e in
    let n1 = number-code t t' (codes " " ++ (decimal k ++ (codes "\n" ++ rest))) (codes " " ++ (decimal k' ++ (codes "\n" ++ more))) s0 good.numbers.0 good_too.numbers.0 refl refl in
    let s2 : (decimal k ++ (codes "\n" ++ rest)) ≡ (decimal k' ++ (codes "\n" ++ more)) = same-front (codes " ") _ _ n1.1 in
    let n3 = number-code k k' (codes "\n" ++ rest) (codes "\n" ++ more) s2 good.numbers.1 good_too.numbers.1 refl refl in
    let s4 : rest ≡ more = same-front (codes "\n") _ _ n3.1 in
    ((λ j. Answered (n1.0 j) (n3.0 j) (Done 0)), s4)
events-code (GaveUp t k) (GaveUp t' k') rest more is good good_too =
    let parts = codes "gave up " ∷ decimal t ∷ codes " " ∷ decimal k ∷ codes "\n" ∷ [] in
    let others = codes "gave up " ∷ decimal t' ∷ codes " " ∷ decimal k' ∷ codes "\n" ∷ [] in
    let e : then_all parts rest ≡ then_all others more = sym (concat-then parts rest) ∙ is ∙ concat-then others more in
    let s0 : (decimal t ++ (codes " " ++ (decimal k ++ (codes "\n" ++ rest)))) ≡ (decimal t' ++ (codes " " ++ (decimal k' ++ (codes "\n" ++ more)))) = same-front (codes "gave up ") _ _ e in
    let n1 = number-code t t' (codes " " ++ (decimal k ++ (codes "\n" ++ rest))) (codes " " ++ (decimal k' ++ (codes "\n" ++ more))) s0 good.numbers.0 good_too.numbers.0 refl refl in
    let s2 : (decimal k ++ (codes "\n" ++ rest)) ≡ (decimal k' ++ (codes "\n" ++ more)) = same-front (codes " ") _ _ n1.1 in
    let n3 = number-code k k' (codes "\n" ++ rest) (codes "\n" ++ more) s2 good.numbers.1 good_too.numbers.1 refl refl in
    let s4 : rest ≡ more = same-front (codes "\n") _ _ n3.1 in
    ((λ j. GaveUp (n1.0 j) (n3.0 j)), s4)
events-code (Committed t n) (Committed t' n') rest more is good good_too =
    let parts = codes "committed " ∷ decimal t ∷ codes " " ∷ decimal n ∷ codes "\n" ∷ [] in
    let others = codes "committed " ∷ decimal t' ∷ codes " " ∷ decimal n' ∷ codes "\n" ∷ [] in
    let e : then_all parts rest ≡ then_all others more = sym (concat-then parts rest) ∙ is ∙ concat-then others more in
    let s0 : (decimal t ++ (codes " " ++ (decimal n ++ (codes "\n" ++ rest)))) ≡ (decimal t' ++ (codes " " ++ (decimal n' ++ (codes "\n" ++ more)))) = same-front (codes "committed ") _ _ e in
    let n1 = number-code t t' (codes " " ++ (decimal n ++ (codes "\n" ++ rest))) (codes " " ++ (decimal n' ++ (codes "\n" ++ more))) s0 good.numbers.0 good_too.numbers.0 refl refl in
    let s2 : (decimal n ++ (codes "\n" ++ rest)) ≡ (decimal n' ++ (codes "\n" ++ more)) = same-front (codes " ") _ _ n1.1 in
    let n3 = number-code n n' (codes "\n" ++ rest) (codes "\n" ++ more) s2 good.numbers.1 good_too.numbers.1 refl refl in
    let s4 : rest ≡ more = same-front (codes "\n") _ _ n3.1 in
    ((λ j. Committed (n1.0 j) (n3.0 j)), s4)
events-code (Aborted t) (Aborted t') rest more is good good_too =
    let parts = codes "aborted " ∷ decimal t ∷ codes "\n" ∷ [] in
    let others = codes "aborted " ∷ decimal t' ∷ codes "\n" ∷ [] in
    let e : then_all parts rest ≡ then_all others more = sym (concat-then parts rest) ∙ is ∙ concat-then others more in
    let s0 : (decimal t ++ (codes "\n" ++ rest)) ≡ (decimal t' ++ (codes "\n" ++ more)) = same-front (codes "aborted ") _ _ e in
    let n1 = number-code t t' (codes "\n" ++ rest) (codes "\n" ++ more) s0 good.numbers good_too.numbers refl refl in
    let s2 : rest ≡ more = same-front (codes "\n") _ _ n1.1 in
    ((λ j. Aborted (n1.0 j)), s2)
events-code (Begun t s k) (Granted t' k' p' list') rest more is good good_too = absurd (omega (arith, head_same is))
events-code (Begun t s k) (Refused t' k' p' name' mode' holder') rest more is good good_too = absurd (omega (arith, head_same is))
events-code (Begun t s k) (Answered t' k' answer') rest more is good good_too = absurd (omega (arith, head_same is))
events-code (Begun t s k) (GaveUp t' k') rest more is good good_too = absurd (omega (arith, head_same is))
events-code (Begun t s k) (Committed t' n') rest more is good good_too = absurd (omega (arith, head_same is))
events-code (Begun t s k) (Aborted t') rest more is good good_too = absurd (omega (arith, head_same is))
events-code (Granted t k p list) (Begun t' s' k') rest more is good good_too = absurd (omega (arith, head_same is))
events-code (Granted t k p list) (Refused t' k' p' name' mode' holder') rest more is good good_too = absurd (omega (arith, head_same is))
events-code (Granted t k p list) (Answered t' k' answer') rest more is good good_too = absurd (omega (arith, head_same is))
events-code (Granted t k p list) (GaveUp t' k') rest more is good good_too = absurd (omega (arith, head_same (tail_same is)))
events-code (Granted t k p list) (Committed t' n') rest more is good good_too = absurd (omega (arith, head_same is))
events-code (Granted t k p list) (Aborted t') rest more is good good_too = absurd (omega (arith, head_same is))
events-code (Refused t k p name mode holder) (Begun t' s' k') rest more is good good_too = absurd (omega (arith, head_same is))
events-code (Refused t k p name mode holder) (Granted t' k' p' list') rest more is good good_too = absurd (omega (arith, head_same is))
events-code (Refused t k p name mode holder) (Answered t' k' answer') rest more is good good_too = absurd (omega (arith, head_same is))
events-code (Refused t k p name mode holder) (GaveUp t' k') rest more is good good_too = absurd (omega (arith, head_same is))
events-code (Refused t k p name mode holder) (Committed t' n') rest more is good good_too = absurd (omega (arith, head_same is))
events-code (Refused t k p name mode holder) (Aborted t') rest more is good good_too = absurd (omega (arith, head_same is))
events-code (Answered t k answer) (Begun t' s' k') rest more is good good_too = absurd (omega (arith, head_same is))
events-code (Answered t k answer) (Granted t' k' p' list') rest more is good good_too = absurd (omega (arith, head_same is))
events-code (Answered t k answer) (Refused t' k' p' name' mode' holder') rest more is good good_too = absurd (omega (arith, head_same is))
events-code (Answered t k answer) (GaveUp t' k') rest more is good good_too = absurd (omega (arith, head_same is))
events-code (Answered t k answer) (Committed t' n') rest more is good good_too = absurd (omega (arith, head_same is))
events-code (Answered t k answer) (Aborted t') rest more is good good_too = absurd (omega (arith, head_same (tail_same is)))
events-code (GaveUp t k) (Begun t' s' k') rest more is good good_too = absurd (omega (arith, head_same is))
events-code (GaveUp t k) (Granted t' k' p' list') rest more is good good_too = absurd (omega (arith, head_same (tail_same is)))
events-code (GaveUp t k) (Refused t' k' p' name' mode' holder') rest more is good good_too = absurd (omega (arith, head_same is))
events-code (GaveUp t k) (Answered t' k' answer') rest more is good good_too = absurd (omega (arith, head_same is))
events-code (GaveUp t k) (Committed t' n') rest more is good good_too = absurd (omega (arith, head_same is))
events-code (GaveUp t k) (Aborted t') rest more is good good_too = absurd (omega (arith, head_same is))
events-code (Committed t n) (Begun t' s' k') rest more is good good_too = absurd (omega (arith, head_same is))
events-code (Committed t n) (Granted t' k' p' list') rest more is good good_too = absurd (omega (arith, head_same is))
events-code (Committed t n) (Refused t' k' p' name' mode' holder') rest more is good good_too = absurd (omega (arith, head_same is))
events-code (Committed t n) (Answered t' k' answer') rest more is good good_too = absurd (omega (arith, head_same is))
events-code (Committed t n) (GaveUp t' k') rest more is good good_too = absurd (omega (arith, head_same is))
events-code (Committed t n) (Aborted t') rest more is good good_too = absurd (omega (arith, head_same is))
events-code (Aborted t) (Begun t' s' k') rest more is good good_too = absurd (omega (arith, head_same is))
events-code (Aborted t) (Granted t' k' p' list') rest more is good good_too = absurd (omega (arith, head_same is))
events-code (Aborted t) (Refused t' k' p' name' mode' holder') rest more is good good_too = absurd (omega (arith, head_same is))
events-code (Aborted t) (Answered t' k' answer') rest more is good good_too = absurd (omega (arith, head_same (tail_same is)))
events-code (Aborted t) (GaveUp t' k') rest more is good good_too = absurd (omega (arith, head_same is))
events-code (Aborted t) (Committed t' n') rest more is good good_too = absurd (omega (arith, head_same is))

-- ---- histories

abbrev IsHeading : Text → Type 0
IsHeading rest = first_is (λ b. b == 35) rest ≡ true

no_heading : (event : Event) (rest : Text) → first_is (λ b. b == 35) (event_line event ++ rest) ≡ false
no_heading (Begun t s k) rest = refl
no_heading (Granted t k p list) rest = refl
no_heading (Refused t k p name mode holder) rest = refl
no_heading (Answered t k answer) rest = refl
no_heading (GaveUp t k) rest = refl
no_heading (Committed t n) rest = refl
no_heading (Aborted t) rest = refl

pub history-code : (events others : List Event) (rest more : Text) → flat_map event_line events ++ rest ≡ flat_map event_line others ++ more → IsHeading rest → IsHeading more
    → AllByRecursion IsGoodEvent events → AllByRecursion IsGoodEvent others → (map bare_event events ≡ map bare_event others) × (rest ≡ more)
history-code [] [] rest more is heading heading_too good good_too = (refl, is)
history-code [] (f ∷ others) rest more is heading heading_too good good_too =
    absurd (false≢true (sym (no_heading f (flat_map event_line others ++ more)) ∙ ap (first_is (λ b. b == 35)) (sym (append_assoc (event_line f)
    (flat_map event_line others) more) ∙ sym is) ∙ heading))
history-code (e ∷ events) [] rest more is heading heading_too good good_too =
    absurd (false≢true (sym (no_heading e (flat_map event_line events ++ rest)) ∙ ap (first_is (λ b. b == 35)) (sym (append_assoc (event_line e)
    (flat_map event_line events) rest) ∙ is) ∙ heading_too))
history-code (e ∷ events) (f ∷ others) rest more is heading heading_too good good_too =
    let here = events-code e f (flat_map event_line events ++ rest) (flat_map event_line others ++ more)
    (sym (append_assoc (event_line e) (flat_map event_line events) rest) ∙ is ∙ append_assoc (event_line f) (flat_map event_line others) more) good.0 good_too.0 in
    let later = history-code events others rest more here.1 heading heading_too good.1 good_too.1 in
    ((λ i. here.0 i ∷ later.0 i), later.1)
