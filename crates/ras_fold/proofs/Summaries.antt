-- What the calls do to a summary, over plain values.
use Rattle.std.proofs.Common.{◌≡◌, ℕ, ◌+◌, ℤ, List, [], ◌∷◌, ◌++◌, length, Option, Some, None, Result, sym, ap, ◌∙◌, arith, length-append}
use Rattle.ras_cells.specs.declared.cell.Cell.{Cell}
use Rattle.ras_cells.specs.declared.cell.CellFault.{CellFault}
use Rattle.ras_syntax.specs.declared.expr.FoldOp.{FoldOp}
use Rattle.ras_fold.specs.Closed.{closed_from}
use Rattle.ras_fold.specs.Kept.{IsKeptOf, joined, number_kept}
use Rattle.ras_fold.specs.Summary.{Placed, SummaryValue, summary_of, least_fault, earlier_of, closed_of, fault_or_fold}
use Rattle.ras_fold.proofs.Faults.{least_fault-append}
use Rattle.ras_fold.proofs.Folded.{closed_from-number_kept}
use Rattle.ras_fold.proofs.Joining.{number_kept-append}

abbrev pub value : FoldOp → ℕ → Option ℤ → Option Placed → SummaryValue
value op count kept fault = record { op = op; count = count; kept = kept; fault = fault }

same_value : (o op : FoldOp) (m n : ℕ) (k l : Option ℤ) (f g : Option Placed) → o ≡ op → m ≡ n → k ≡ l → f ≡ g → value o m k f ≡ value op n l g
same_value o op m n k l f g a b c d = λ i. value (a i) (b i) (c i) (d i)

pub value_joined : (o p : FoldOp) (n m : ℕ) (k l r : Option ℤ) (f g h : Option Placed) (op : FoldOp) (zs ys : List ℤ) (faults others : List Placed)
    → value o n k f ≡ summary_of op zs faults → value p m l g ≡ summary_of op ys others
    → r ≡ joined o k l → h ≡ earlier_of f g
    → value o (n + m) r h ≡ summary_of op (zs ++ ys) (faults ++ others)
value_joined o p n m k l r f g h op zs ys faults others first second kept fault =
    let op_is : o ≡ op = ap (λ v. v.op) first in
    let count : n ≡ length zs = ap (λ v. v.count) first in
    let count_too : m ≡ length ys = ap (λ v. v.count) second in
    let k_is : k ≡ number_kept op zs = ap (λ v. v.kept) first in
    let l_is : l ≡ number_kept op ys = ap (λ v. v.kept) second in
    let f_is : f ≡ least_fault faults = ap (λ v. v.fault) first in
    let g_is : g ≡ least_fault others = ap (λ v. v.fault) second in
    same_value o op (n + m) _ r _ h _ op_is (omega (arith, length-append zs ys))
    (kept ∙ (λ i. joined (op_is i) (k_is i) (l_is i)) ∙ sym (number_kept-append op zs ys))
    (fault ∙ (λ i. earlier_of (f_is i) (g_is i)) ∙ sym (least_fault-append faults others))

pub value_with_numbers : (o : FoldOp) (n m : ℕ) (k l : Option ℤ) (f : Option Placed) (op : FoldOp) (zs more : List ℤ) (faults : List Placed)
    → value o n k f ≡ summary_of op zs faults → m ≡ n + length more → l ≡ joined o k (number_kept o more)
    → value o m l f ≡ summary_of op (zs ++ more) faults
value_with_numbers o n m k l f op zs more faults e count kept =
    let op_is : o ≡ op = ap (λ v. v.op) e in
    let kept_is : k ≡ number_kept op zs = ap (λ v. v.kept) e in
    let count_is : n ≡ length zs = ap (λ v. v.count) e in
    same_value o op _ _ _ _ f _ op_is (omega (arith, length-append zs more))
    (kept ∙ (λ i. joined (op_is i) (kept_is i) (number_kept (op_is i) more)) ∙ sym (number_kept-append op zs more))
    (ap (λ v. v.fault) e)

pub value_with_fault : (o : FoldOp) (n : ℕ) (k : Option ℤ) (f g : Option Placed) (op : FoldOp) (zs : List ℤ) (faults : List Placed) (fault : Placed)
    → value o n k f ≡ summary_of op zs faults → g ≡ earlier_of f (Some fault)
    → value o n k g ≡ summary_of op zs (faults ++ fault ∷ [])
value_with_fault o n k f g op zs faults fault e later =
    let fault_is : f ≡ least_fault faults = ap (λ v. v.fault) e in
    same_value o op n _ k _ g _ (ap (λ v. v.op) e) (ap (λ v. v.count) e) (ap (λ v. v.kept) e)
    (later ∙ ap (λ h. earlier_of h (Some fault)) fault_is ∙ sym (least_fault-append faults (fault ∷ [])))

pub value_closed : (o : FoldOp) (n : ℕ) (k : Option ℤ) (f : Option Placed) (result : Result Cell CellFault) (op : FoldOp) (zs : List ℤ) (faults : List Placed)
    → value o n k f ≡ summary_of op zs faults → IsKeptOf o n k → f ≡ None → result ≡ closed_from o k → result ≡ closed_of op zs faults
value_closed o n k f result op zs faults e bounded none closed =
    let op_is : o ≡ op = ap (λ v. v.op) e in
    let kept_is : k ≡ number_kept op zs = ap (λ v. v.kept) e in
    let fault_is : least_fault faults ≡ None = sym (ap (λ v. v.fault) e) ∙ none in
    let bounds : IsKeptOf op n (number_kept op zs) = rw (← kept_is, ← op_is) bounded in
    closed ∙ (λ i. closed_from (op_is i) (kept_is i)) ∙ closed_from-number_kept op n zs bounds ∙ ap (λ g. fault_or_fold g op zs) (sym fault_is)
