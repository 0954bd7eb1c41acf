-- The lines of sessions in a report determine the answer lines, and what each tells.
use Rattle.std.proofs.Common.{◌≡◌, ℕ, ◌<◌, Bool, true, ◌&&◌, ◌||◌, ◌==◌, List, [], ◌∷◌, ◌++◌, flat_map, length, Option, Some, None, refl, sym, ap, ◌∙◌, arith}
use Rattle.std.specs.Prelude.{codes, decimal, find}
use Rattle.std.specs.List.{AllByRecursion, concat}
use Rattle.std.proofs.lemmas.Bool.{false≢true}
use Rattle.std.proofs.lemmas.Fmt.{decimal_nonempty}
use Rattle.std.proofs.lemmas.List.{append_assoc}
use Rattle.ras_domain.specs.declared.lock.LockName.{LockName}
use Rattle.ras_syntax.specs.declared.event.Event.{Event}
use Rattle.ras_syntax.specs.declared.event.Event.TheVariants.{Begun, Granted, Refused, Answered, GaveUp, Committed, Aborted}
use Rattle.ras_syntax.specs.declared.faults.SyntaxFault.{SyntaxFault}
use Rattle.ras_syntax.specs.declared.faults.SyntaxFault.TheVariants as syntax
use Rattle.ras_syntax.specs.declared.types.Script.{Script}
use Rattle.spec_grammar.specs.Tokens.{Text, is_same}
use Rattle.spec_statements.specs.Reply.{Reply, done, faulty, misfit, reply_of_answer, unchecked, values}
use Rattle.spec_workloads.specs.Answers.{at_place, syntax_text}
use Rattle.spec_sessions.specs.Report.{answers_statement, event_answer_text, line_reply_text, line_text, name_text_of, reply_text_of, session_name}
use Rattle.spec_sessions.specs.Walk.{Line, LineReply, aborted, begun, committed, in_transaction, no_statement, no_transaction, out_of_memory, recorded}
use Rattle.law_lists.proofs.Each.{each_passes}
use Rattle.law_sessions.specs.Numbers.{IsReportNumber, place_of_fault}
use Rattle.law_sessions.proofs.Codes.{IsWordText, concat-then, head_same, in_word, number-code, same-front, short-word, tail_same, then_all}
use Rattle.law_sessions.proofs.EventTexts.{IsGoodName, names-code, words-code}
use Rattle.law_sessions.proofs.ReplyTexts.{IsGoodReply, replies-code}

-- ---- faults of texts

abbrev fault_kind : SyntaxFault → Text
fault_kind (syntax.Unexpected place) = codes "unexpected"
fault_kind (syntax.NumberTooWide place) = codes "number_too_wide"
fault_kind (syntax.TooDeep place) = codes "too_deep"
fault_kind (syntax.UnknownName place) = codes "unknown_name"
fault_kind (syntax.FloatRefused place) = codes "float_refused"

fault_is : (f : SyntaxFault) → syntax_text f ≡ at_place (fault_kind f) (place_of_fault f)
fault_is (syntax.Unexpected place) = refl
fault_is (syntax.NumberTooWide place) = refl
fault_is (syntax.TooDeep place) = refl
fault_is (syntax.UnknownName place) = refl
fault_is (syntax.FloatRefused place) = refl

fault_word : (f : SyntaxFault) → IsWordText (fault_kind f)
fault_word (syntax.Unexpected place) = each_passes in_word (fault_kind (syntax.Unexpected place)) refl
fault_word (syntax.NumberTooWide place) = each_passes in_word (fault_kind (syntax.NumberTooWide place)) refl
fault_word (syntax.TooDeep place) = each_passes in_word (fault_kind (syntax.TooDeep place)) refl
fault_word (syntax.UnknownName place) = each_passes in_word (fault_kind (syntax.UnknownName place)) refl
fault_word (syntax.FloatRefused place) = each_passes in_word (fault_kind (syntax.FloatRefused place)) refl

abbrev fault_named : Text → ℕ → Option SyntaxFault
fault_named text p =
    find (λ fault. is_same (fault_kind fault) text) (syntax.Unexpected p ∷ syntax.NumberTooWide p ∷ syntax.TooDeep p ∷ syntax.UnknownName p ∷ syntax.FloatRefused p ∷ [])

fault-found : (f : SyntaxFault) → fault_named (fault_kind f) (place_of_fault f) ≡ Some f
fault-found (syntax.Unexpected place) = refl
fault-found (syntax.NumberTooWide place) = refl
fault-found (syntax.TooDeep place) = refl
fault-found (syntax.UnknownName place) = refl
fault-found (syntax.FloatRefused place) = refl

some_same : {A : Type 0} {x y : A} → Some x ≡ Some y → x ≡ y
some_same is = cc

faults-code : (f g : SyntaxFault) (rest more : Text) → syntax_text f ++ (10 ∷ rest) ≡ syntax_text g ++ (10 ∷ more) → IsReportNumber (place_of_fault f) → IsReportNumber (place_of_fault g)
    → (f ≡ g) × (rest ≡ more)
faults-code f g rest more is short short_too =
    let e : (codes "syntax " ++ (fault_kind f ++ (codes " at " ++ (decimal (place_of_fault f) ++ (10 ∷ rest))))) ≡ (codes "syntax " ++ (fault_kind g ++ (codes " at " ++
    (decimal (place_of_fault g) ++ (10 ∷ more))))) = sym (grouped f rest) ∙ is ∙ grouped g more in
    let w = words-code (fault_kind f) (fault_kind g) (codes " at " ++ (decimal (place_of_fault f) ++ (10 ∷ rest))) (codes " at " ++ (decimal (place_of_fault g) ++ (10 ∷ more)))
    (same-front (codes "syntax ") _ _ e) (fault_word f) (fault_word g) refl refl in
    let n = number-code (place_of_fault f) (place_of_fault g) (10 ∷ rest) (10 ∷ more) (same-front (codes " at ") _ _ w.1) short short_too refl refl in
    let same : fault_named (fault_kind f) (place_of_fault f) ≡ fault_named (fault_kind g) (place_of_fault g) = λ i. fault_named (w.0 i) (n.0 i) in
    (some_same (sym (fault-found f) ∙ same ∙ fault-found g), tail_same n.1)
  where
    grouped : (f : SyntaxFault) (t : Text) → (syntax_text f ++ (10 ∷ t)) ≡ (codes "syntax " ++ (fault_kind f ++ (codes " at " ++ (decimal (place_of_fault f) ++ (10 ∷ t)))))
    grouped f t =
        ap (λ x. x ++ (10 ∷ t)) (fault_is f)
        ∙ append_assoc ((codes "syntax " ++ fault_kind f) ++ codes " at ") (decimal (place_of_fault f)) (10 ∷ t)
        ∙ append_assoc (codes "syntax " ++ fault_kind f) (codes " at ") (decimal (place_of_fault f) ++ (10 ∷ t))
        ∙ append_assoc (codes "syntax ") (fault_kind f) (codes " at " ++ (decimal (place_of_fault f) ++ (10 ∷ t)))

fault-begins : (f : SyntaxFault) (rest : Text) → (syntax_text f ++ (10 ∷ rest)) ≡ (115 ∷ 121 ∷ ((codes "ntax " ++ fault_kind f ++ codes " at " ++ decimal (place_of_fault f)) ++ (10 ∷ rest)))
fault-begins (syntax.Unexpected place) rest = refl
fault-begins (syntax.NumberTooWide place) rest = refl
fault-begins (syntax.TooDeep place) rest = refl
fault-begins (syntax.UnknownName place) rest = refl
fault-begins (syntax.FloatRefused place) rest = refl

-- ---- what a line tells

pub data Shown : Type 0 where
  a_reply : Reply → Shown
  a_refusal : LockName → ℕ → Text → Shown
  want_of_memory : Shown
  a_fault : SyntaxFault → Shown
  a_begin : Shown
  a_commit : ℕ → Shown
  an_abort : ℕ → Shown
  none_there : Shown
  one_there : Shown
  nothing_told : Shown

abbrev shown_text : Shown → Text
shown_text (a_reply reply) = reply_text_of reply
shown_text (a_refusal lock holder name) = concat (codes "locked " ∷ name_text_of lock ∷ codes " holder " ∷ decimal holder ∷ codes " of " ∷ name ∷ [])
shown_text want_of_memory = codes "memory"
shown_text (a_fault fault) = syntax_text fault
shown_text a_begin = codes "begun"
shown_text (a_commit n) = codes "committed " ++ decimal n
shown_text (an_abort k) = codes "aborted " ++ decimal k
shown_text none_there = codes "no transaction"
shown_text one_there = codes "in transaction"
shown_text nothing_told = []

pub record IsGoodRefusal (lock : LockName) (holder : ℕ) (name : Text) : Type 0 where
  pub lock_good : IsGoodName lock
  pub short : IsReportNumber holder
  pub word_good : IsWordText name

abbrev pub IsGoodShown : Shown → Type 0
IsGoodShown (a_reply reply) = IsGoodReply reply
IsGoodShown (a_refusal lock holder name) = IsGoodRefusal lock holder name
IsGoodShown want_of_memory = Unit {0}
IsGoodShown (a_fault fault) = IsReportNumber (place_of_fault fault)
IsGoodShown a_begin = Unit {0}
IsGoodShown (a_commit n) = IsReportNumber n
IsGoodShown (an_abort k) = IsReportNumber k
IsGoodShown none_there = Unit {0}
IsGoodShown one_there = Unit {0}
IsGoodShown nothing_told = ⊥

-- the first two bytes of a reply
abbrev is_reply_tag : ℕ → ℕ → Bool
is_reply_tag a b = a == 118 || a == 100 || a == 102 || (a == 115 && b == 104) || (a == 99 && b == 104)

reply-tag : (x : Reply) (rest : Text) (a b : ℕ) (more : Text) → reply_text_of x ++ rest ≡ a ∷ b ∷ more → is_reply_tag a b ≡ true
reply-tag (values rows) rest a b more is = sym (let x = head_same is in let y = head_same (tail_same is) in λ i. is_reply_tag (x i) (y i))
reply-tag (done n) rest a b more is = sym (let x = head_same is in let y = head_same (tail_same is) in λ i. is_reply_tag (x i) (y i))
reply-tag (faulty m p f) rest a b more is = sym (let x = head_same is in let y = head_same (tail_same is) in λ i. is_reply_tag (x i) (y i))
reply-tag (misfit m s f) rest a b more is = sym (let x = head_same is in let y = head_same (tail_same is) in λ i. is_reply_tag (x i) (y i))
reply-tag (unchecked s f) rest a b more is = sym (let x = head_same is in let y = head_same (tail_same is) in λ i. is_reply_tag (x i) (y i))

committed-code : (front : Text) (m n : ℕ) (rest more : Text) → (front ++ decimal m) ++ (10 ∷ rest) ≡ (front ++ decimal n) ++ (10 ∷ more) → IsReportNumber m → IsReportNumber n
    → (m ≡ n) × (rest ≡ more)
committed-code front m n rest more is short short_too =
    let e = same-front front (decimal m ++ (10 ∷ rest)) (decimal n ++ (10 ∷ more)) (sym (append_assoc front (decimal m) (10 ∷ rest)) ∙ is ∙ append_assoc front (decimal n) (10 ∷ more)) in
    let both = number-code m n (10 ∷ rest) (10 ∷ more) e short short_too refl refl in
    (both.0, tail_same both.1)

shown-code : (x y : Shown) (rest more : Text) → shown_text x ++ (10 ∷ rest) ≡ shown_text y ++ (10 ∷ more) → IsGoodShown x → IsGoodShown y → (x ≡ y) × (rest ≡ more)
shown-code (a_reply x) (a_reply y) rest more is good good_too = let both = replies-code x y rest more is good good_too in (ap a_reply both.0, both.1)
shown-code (a_refusal x h s) (a_refusal y g t) rest more is good good_too =
    let parts = codes "locked " ∷ name_text_of x ∷ codes " holder " ∷ decimal h ∷ codes " of " ∷ s ∷ [] in
    let others = codes "locked " ∷ name_text_of y ∷ codes " holder " ∷ decimal g ∷ codes " of " ∷ t ∷ [] in
    let e : then_all parts (10 ∷ rest) ≡ then_all others (10 ∷ more) = sym (concat-then parts (10 ∷ rest)) ∙ is ∙ concat-then others (10 ∷ more) in
    let l = names-code x y (codes " holder " ++ (decimal h ++ (codes " of " ++ (s ++ (10 ∷ rest))))) (codes " holder " ++ (decimal g ++ (codes " of " ++ (t ++ (10 ∷ more)))))
    (same-front (codes "locked ") _ _ e) good.lock_good good_too.lock_good refl refl in
    let n = number-code h g (codes " of " ++ (s ++ (10 ∷ rest))) (codes " of " ++ (t ++ (10 ∷ more))) (same-front (codes " holder ") _ _ l.1) good.short good_too.short refl refl in
    let w = words-code s t (10 ∷ rest) (10 ∷ more) (same-front (codes " of ") _ _ n.1) good.word_good good_too.word_good refl refl in
    ((λ i. a_refusal (l.0 i) (n.0 i) (w.0 i)), tail_same w.1)
shown-code want_of_memory want_of_memory rest more is good good_too = (refl, tail_same (same-front (codes "memory") (10 ∷ rest) (10 ∷ more) is))
shown-code (a_fault f) (a_fault g) rest more is good good_too = let both = faults-code f g rest more is good good_too in (ap a_fault both.0, both.1)
shown-code a_begin a_begin rest more is good good_too = (refl, tail_same (same-front (codes "begun") (10 ∷ rest) (10 ∷ more) is))
shown-code (a_commit m) (a_commit n) rest more is good good_too =
    let both = committed-code (codes "committed ") m n rest more is good good_too in (ap a_commit both.0, both.1)
shown-code (an_abort m) (an_abort n) rest more is good good_too =
    let both = committed-code (codes "aborted ") m n rest more is good good_too in (ap an_abort both.0, both.1)
shown-code none_there none_there rest more is good good_too = (refl, tail_same (same-front (codes "no transaction") (10 ∷ rest) (10 ∷ more) is))
shown-code one_there one_there rest more is good good_too = (refl, tail_same (same-front (codes "in transaction") (10 ∷ rest) (10 ∷ more) is))
shown-code nothing_told y rest more is good good_too = absurd good
shown-code (a_reply x) (a_refusal l' h' s') rest more is good good_too = absurd (false≢true (reply-tag x (10 ∷ rest) 108 111 _ is))
shown-code (a_reply x) want_of_memory rest more is good good_too = absurd (false≢true (reply-tag x (10 ∷ rest) 109 101 _ is))
shown-code (a_reply x) (a_fault f') rest more is good good_too = absurd (false≢true (reply-tag x (10 ∷ rest) 115 121 _ (is ∙ fault-begins f' more)))
shown-code (a_reply x) a_begin rest more is good good_too = absurd (false≢true (reply-tag x (10 ∷ rest) 98 101 _ is))
shown-code (a_reply x) (a_commit n') rest more is good good_too = absurd (false≢true (reply-tag x (10 ∷ rest) 99 111 _ is))
shown-code (a_reply x) (an_abort k') rest more is good good_too = absurd (false≢true (reply-tag x (10 ∷ rest) 97 98 _ is))
shown-code (a_reply x) none_there rest more is good good_too = absurd (false≢true (reply-tag x (10 ∷ rest) 110 111 _ is))
shown-code (a_reply x) one_there rest more is good good_too = absurd (false≢true (reply-tag x (10 ∷ rest) 105 110 _ is))
shown-code (a_reply x) nothing_told rest more is good good_too = absurd good_too
shown-code (a_refusal l h s) (a_reply x') rest more is good good_too = absurd (false≢true (reply-tag x' (10 ∷ more) 108 111 _ (sym is)))
shown-code (a_refusal l h s) want_of_memory rest more is good good_too = absurd (omega (arith, head_same is))
shown-code (a_refusal l h s) (a_fault f') rest more is good good_too = absurd (omega (arith, head_same (is ∙ fault-begins f' more)))
shown-code (a_refusal l h s) a_begin rest more is good good_too = absurd (omega (arith, head_same is))
shown-code (a_refusal l h s) (a_commit n') rest more is good good_too = absurd (omega (arith, head_same is))
shown-code (a_refusal l h s) (an_abort k') rest more is good good_too = absurd (omega (arith, head_same is))
shown-code (a_refusal l h s) none_there rest more is good good_too = absurd (omega (arith, head_same is))
shown-code (a_refusal l h s) one_there rest more is good good_too = absurd (omega (arith, head_same is))
shown-code (a_refusal l h s) nothing_told rest more is good good_too = absurd good_too
shown-code want_of_memory (a_reply x') rest more is good good_too = absurd (false≢true (reply-tag x' (10 ∷ more) 109 101 _ (sym is)))
shown-code want_of_memory (a_refusal l' h' s') rest more is good good_too = absurd (omega (arith, head_same is))
shown-code want_of_memory (a_fault f') rest more is good good_too = absurd (omega (arith, head_same (is ∙ fault-begins f' more)))
shown-code want_of_memory a_begin rest more is good good_too = absurd (omega (arith, head_same is))
shown-code want_of_memory (a_commit n') rest more is good good_too = absurd (omega (arith, head_same is))
shown-code want_of_memory (an_abort k') rest more is good good_too = absurd (omega (arith, head_same is))
shown-code want_of_memory none_there rest more is good good_too = absurd (omega (arith, head_same is))
shown-code want_of_memory one_there rest more is good good_too = absurd (omega (arith, head_same is))
shown-code want_of_memory nothing_told rest more is good good_too = absurd good_too
shown-code (a_fault f) (a_reply x') rest more is good good_too = absurd (false≢true (reply-tag x' (10 ∷ more) 115 121 _ (sym is ∙ fault-begins f rest)))
shown-code (a_fault f) (a_refusal l' h' s') rest more is good good_too = absurd (omega (arith, head_same (sym (fault-begins f rest) ∙ is)))
shown-code (a_fault f) want_of_memory rest more is good good_too = absurd (omega (arith, head_same (sym (fault-begins f rest) ∙ is)))
shown-code (a_fault f) a_begin rest more is good good_too = absurd (omega (arith, head_same (sym (fault-begins f rest) ∙ is)))
shown-code (a_fault f) (a_commit n') rest more is good good_too = absurd (omega (arith, head_same (sym (fault-begins f rest) ∙ is)))
shown-code (a_fault f) (an_abort k') rest more is good good_too = absurd (omega (arith, head_same (sym (fault-begins f rest) ∙ is)))
shown-code (a_fault f) none_there rest more is good good_too = absurd (omega (arith, head_same (sym (fault-begins f rest) ∙ is)))
shown-code (a_fault f) one_there rest more is good good_too = absurd (omega (arith, head_same (sym (fault-begins f rest) ∙ is)))
shown-code (a_fault f) nothing_told rest more is good good_too = absurd good_too
shown-code a_begin (a_reply x') rest more is good good_too = absurd (false≢true (reply-tag x' (10 ∷ more) 98 101 _ (sym is)))
shown-code a_begin (a_refusal l' h' s') rest more is good good_too = absurd (omega (arith, head_same is))
shown-code a_begin want_of_memory rest more is good good_too = absurd (omega (arith, head_same is))
shown-code a_begin (a_fault f') rest more is good good_too = absurd (omega (arith, head_same (is ∙ fault-begins f' more)))
shown-code a_begin (a_commit n') rest more is good good_too = absurd (omega (arith, head_same is))
shown-code a_begin (an_abort k') rest more is good good_too = absurd (omega (arith, head_same is))
shown-code a_begin none_there rest more is good good_too = absurd (omega (arith, head_same is))
shown-code a_begin one_there rest more is good good_too = absurd (omega (arith, head_same is))
shown-code a_begin nothing_told rest more is good good_too = absurd good_too
shown-code (a_commit n) (a_reply x') rest more is good good_too = absurd (false≢true (reply-tag x' (10 ∷ more) 99 111 _ (sym is)))
shown-code (a_commit n) (a_refusal l' h' s') rest more is good good_too = absurd (omega (arith, head_same is))
shown-code (a_commit n) want_of_memory rest more is good good_too = absurd (omega (arith, head_same is))
shown-code (a_commit n) (a_fault f') rest more is good good_too = absurd (omega (arith, head_same (is ∙ fault-begins f' more)))
shown-code (a_commit n) a_begin rest more is good good_too = absurd (omega (arith, head_same is))
shown-code (a_commit n) (an_abort k') rest more is good good_too = absurd (omega (arith, head_same is))
shown-code (a_commit n) none_there rest more is good good_too = absurd (omega (arith, head_same is))
shown-code (a_commit n) one_there rest more is good good_too = absurd (omega (arith, head_same is))
shown-code (a_commit n) nothing_told rest more is good good_too = absurd good_too
shown-code (an_abort k) (a_reply x') rest more is good good_too = absurd (false≢true (reply-tag x' (10 ∷ more) 97 98 _ (sym is)))
shown-code (an_abort k) (a_refusal l' h' s') rest more is good good_too = absurd (omega (arith, head_same is))
shown-code (an_abort k) want_of_memory rest more is good good_too = absurd (omega (arith, head_same is))
shown-code (an_abort k) (a_fault f') rest more is good good_too = absurd (omega (arith, head_same (is ∙ fault-begins f' more)))
shown-code (an_abort k) a_begin rest more is good good_too = absurd (omega (arith, head_same is))
shown-code (an_abort k) (a_commit n') rest more is good good_too = absurd (omega (arith, head_same is))
shown-code (an_abort k) none_there rest more is good good_too = absurd (omega (arith, head_same is))
shown-code (an_abort k) one_there rest more is good good_too = absurd (omega (arith, head_same is))
shown-code (an_abort k) nothing_told rest more is good good_too = absurd good_too
shown-code none_there (a_reply x') rest more is good good_too = absurd (false≢true (reply-tag x' (10 ∷ more) 110 111 _ (sym is)))
shown-code none_there (a_refusal l' h' s') rest more is good good_too = absurd (omega (arith, head_same is))
shown-code none_there want_of_memory rest more is good good_too = absurd (omega (arith, head_same is))
shown-code none_there (a_fault f') rest more is good good_too = absurd (omega (arith, head_same (is ∙ fault-begins f' more)))
shown-code none_there a_begin rest more is good good_too = absurd (omega (arith, head_same is))
shown-code none_there (a_commit n') rest more is good good_too = absurd (omega (arith, head_same is))
shown-code none_there (an_abort k') rest more is good good_too = absurd (omega (arith, head_same is))
shown-code none_there one_there rest more is good good_too = absurd (omega (arith, head_same is))
shown-code none_there nothing_told rest more is good good_too = absurd good_too
shown-code one_there (a_reply x') rest more is good good_too = absurd (false≢true (reply-tag x' (10 ∷ more) 105 110 _ (sym is)))
shown-code one_there (a_refusal l' h' s') rest more is good good_too = absurd (omega (arith, head_same is))
shown-code one_there want_of_memory rest more is good good_too = absurd (omega (arith, head_same is))
shown-code one_there (a_fault f') rest more is good good_too = absurd (omega (arith, head_same (is ∙ fault-begins f' more)))
shown-code one_there a_begin rest more is good good_too = absurd (omega (arith, head_same is))
shown-code one_there (a_commit n') rest more is good good_too = absurd (omega (arith, head_same is))
shown-code one_there (an_abort k') rest more is good good_too = absurd (omega (arith, head_same is))
shown-code one_there none_there rest more is good good_too = absurd (omega (arith, head_same is))
shown-code one_there nothing_told rest more is good good_too = absurd good_too

-- ---- lines

abbrev pub shown_event : List Script → List Event → Option Event → Shown
shown_event scripts history (Some (Answered t k answer)) = a_reply (reply_of_answer answer)
shown_event scripts history (Some (Refused t k p lock mode holder)) = a_refusal lock holder (session_name scripts history holder)
shown_event scripts history found = nothing_told

abbrev pub shown_of : List Script → List Event → Line → LineReply → Shown
shown_of scripts history line recorded = shown_event scripts history (find (answers_statement line.transaction line.statement) history)
shown_of scripts history line out_of_memory = want_of_memory
shown_of scripts history line (no_statement fault) = a_fault fault
shown_of scripts history line begun = a_begin
shown_of scripts history line (committed n) = a_commit n
shown_of scripts history line (aborted k) = an_abort k
shown_of scripts history line no_transaction = none_there
shown_of scripts history line in_transaction = one_there

event-shown : (scripts : List Script) (history : List Event) (found : Option Event) → event_answer_text scripts history found ≡ shown_text (shown_event scripts history found)
event-shown scripts history None = refl
event-shown scripts history (Some (Begun t i k)) = refl
event-shown scripts history (Some (Granted t k p list)) = refl
event-shown scripts history (Some (Refused t k p lock mode holder)) = refl
event-shown scripts history (Some (Answered t k answer)) = refl
event-shown scripts history (Some (GaveUp t k)) = refl
event-shown scripts history (Some (Committed t n)) = refl
event-shown scripts history (Some (Aborted t)) = refl

reply-shown : (scripts : List Script) (history : List Event) (line : Line) (reply : LineReply)
    → line_reply_text scripts history line reply ≡ shown_text (shown_of scripts history line reply)
reply-shown scripts history line recorded = event-shown scripts history (find (answers_statement line.transaction line.statement) history)
reply-shown scripts history line out_of_memory = refl
reply-shown scripts history line (no_statement fault) = refl
reply-shown scripts history line begun = refl
reply-shown scripts history line (committed n) = refl
reply-shown scripts history line (aborted k) = refl
reply-shown scripts history line no_transaction = refl
reply-shown scripts history line in_transaction = refl

abbrev back : Shown → LineReply
back (a_reply reply) = recorded
back (a_refusal lock holder name) = recorded
back want_of_memory = out_of_memory
back (a_fault fault) = no_statement fault
back a_begin = begun
back (a_commit n) = committed n
back (an_abort k) = aborted k
back none_there = no_transaction
back one_there = in_transaction
back nothing_told = recorded

event-back : (scripts : List Script) (history : List Event) (found : Option Event) → back (shown_event scripts history found) ≡ recorded
event-back scripts history None = refl
event-back scripts history (Some (Begun t i k)) = refl
event-back scripts history (Some (Granted t k p list)) = refl
event-back scripts history (Some (Refused t k p lock mode holder)) = refl
event-back scripts history (Some (Answered t k answer)) = refl
event-back scripts history (Some (GaveUp t k)) = refl
event-back scripts history (Some (Committed t n)) = refl
event-back scripts history (Some (Aborted t)) = refl

back-is : (scripts : List Script) (history : List Event) (line : Line) (reply : LineReply) → back (shown_of scripts history line reply) ≡ reply
back-is scripts history line recorded = event-back scripts history (find (answers_statement line.transaction line.statement) history)
back-is scripts history line out_of_memory = refl
back-is scripts history line (no_statement fault) = refl
back-is scripts history line begun = refl
back-is scripts history line (committed n) = refl
back-is scripts history line (aborted k) = refl
back-is scripts history line no_transaction = refl
back-is scripts history line in_transaction = refl

abbrev pub shown_line : List Script → List Event → Line → Shown
shown_line scripts history line = shown_of scripts history line line.reply

pub record IsGoodLine (scripts : List Script) (history : List Event) (line : Line) : Type 0 where
  pub statement_short : IsReportNumber line.statement
  pub transaction_short : IsReportNumber line.transaction
  pub told_good : IsGoodShown (shown_line scripts history line)

line-same : (l m : Line) → l.statement ≡ m.statement → l.transaction ≡ m.transaction → l.reply ≡ m.reply → l ≡ m
line-same l m s t r = λ i. record { statement = s i; transaction = t i; reply = r i }

module _ (scripts : List Script) (one other : List Event) where
  lines-code : (l m : Line) (rest more : Text) → line_text scripts one l ++ rest ≡ line_text scripts other m ++ more → IsGoodLine scripts one l → IsGoodLine scripts other m
      → (l ≡ m) × (shown_line scripts one l ≡ shown_line scripts other m) × (rest ≡ more)
  lines-code l m rest more is good good_too =
      let x : Shown = shown_line scripts one l in
      let y : Shown = shown_line scripts other m in
      let p : Text = line_reply_text scripts one l l.reply in
      let q : Text = line_reply_text scripts other m m.reply in
      let parts = decimal l.statement ∷ codes " " ∷ decimal l.transaction ∷ codes " " ∷ p ∷ codes "\n" ∷ [] in
      let others = decimal m.statement ∷ codes " " ∷ decimal m.transaction ∷ codes " " ∷ q ∷ codes "\n" ∷ [] in
      let e : then_all parts rest ≡ then_all others more = sym (concat-then parts rest) ∙ is ∙ concat-then others more in
      let s = number-code l.statement m.statement (codes " " ++ (decimal l.transaction ++ (codes " " ++ (p ++ (10 ∷ rest)))))
      (codes " " ++ (decimal m.transaction ++ (codes " " ++ (q ++ (10 ∷ more))))) e good.statement_short good_too.statement_short refl refl in
      let t = number-code l.transaction m.transaction (codes " " ++ (p ++ (10 ∷ rest))) (codes " " ++ (q ++ (10 ∷ more))) (same-front (codes " ") _ _ s.1) good.transaction_short
      good_too.transaction_short refl refl in
      let f : (p ++ (10 ∷ rest)) ≡ (q ++ (10 ∷ more)) = same-front (codes " ") _ _ t.1 in
      let g : (shown_text x ++ (10 ∷ rest)) ≡ (shown_text y ++ (10 ∷ more)) =
      ap (λ a. a ++ (10 ∷ rest)) (sym (reply-shown scripts one l l.reply)) ∙ f ∙ ap (λ a. a ++ (10 ∷ more)) (reply-shown scripts other m m.reply) in
      let both = shown-code x y rest more g good.told_good good_too.told_good in
      let r : l.reply ≡ m.reply = sym (back-is scripts one l l.reply) ∙ ap back both.0 ∙ back-is scripts other m m.reply in
      (line-same l m s.0 t.0 r, both.0, both.1)

  -- a line begins with a digit
  begins-apart : (n : ℕ) (rest : Text) (more : Text) → IsReportNumber n → decimal n ++ rest ≡ 35 ∷ more → ⊥
  begins-apart n rest more short is = at (decimal n) (short-word n short) (decimal_nonempty n (omega (arith, short))) is
    where
      at : (ds : Text) → IsWordText ds → 0 < length ds → ds ++ rest ≡ 35 ∷ more → ⊥
      at [] all some is = omega (arith, some)
      at (d ∷ ds) all some is = false≢true (sym (ap in_word (head_same is)) ∙ all.0)

  first-apart : (history : List Event) (l : Line) (rest more : Text) → IsReportNumber l.statement → line_text scripts history l ++ rest ≡ 35 ∷ more → ⊥
  first-apart history l rest more short is =
      let parts = codes " " ∷ decimal l.transaction ∷ codes " " ∷ line_reply_text scripts history l l.reply ∷ codes "\n" ∷ [] in
      begins-apart l.statement (then_all parts rest) more short (sym (concat-then (decimal l.statement ∷ parts) rest) ∙ is)

  -- the lines of a session, up to the next heading
  pub all-lines-code : (ls ms : List Line) (rest more : Text) → flat_map (line_text scripts one) ls ++ (35 ∷ rest) ≡ flat_map (line_text scripts other) ms ++ (35 ∷ more)
      → AllByRecursion (IsGoodLine scripts one) ls → AllByRecursion (IsGoodLine scripts other) ms
      → (ls ≡ ms) × AllByRecursion (λ l. shown_line scripts one l ≡ shown_line scripts other l) ls × (rest ≡ more)
  all-lines-code [] [] rest more is good good_too = (refl, tt, tail_same is)
  all-lines-code [] (m ∷ ms) rest more is good good_too =
      absurd (first-apart other m _ rest good_too.0.statement_short (sym (append_assoc (line_text scripts other m) (flat_map (line_text scripts other) ms) (35 ∷ more)) ∙ sym is))
  all-lines-code (l ∷ ls) [] rest more is good good_too =
      absurd (first-apart one l _ more good.0.statement_short (sym (append_assoc (line_text scripts one l) (flat_map (line_text scripts one) ls) (35 ∷ rest)) ∙ is))
  all-lines-code (l ∷ ls) (m ∷ ms) rest more is good good_too =
      let here = lines-code l m (flat_map (line_text scripts one) ls ++ (35 ∷ rest)) (flat_map (line_text scripts other) ms ++ (35 ∷ more))
      (sym (append_assoc (line_text scripts one l) (flat_map (line_text scripts one) ls) (35 ∷ rest)) ∙ is
      ∙ append_assoc (line_text scripts other m) (flat_map (line_text scripts other) ms) (35 ∷ more)) good.0 good_too.0 in
      let later = all-lines-code ls ms rest more here.2 good.1 good_too.1 in (
        (λ i. here.0 i ∷ later.0 i),
        (here.1 ∙ ap (shown_line scripts other) (sym here.0), later.1),
        later.2,
      )
