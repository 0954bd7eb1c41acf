-- Derivations of whole statements.
use Rattle.std.specs.Prelude.{pos, true, List, [], ◌∷◌, Some, None, codes}
use Rattle.std.proofs.Common.{refl, inl, inr, arith}
use Rattle.ras_cells.specs.declared.atom.Atom.TheVariants as atoms
use Rattle.ras_cells.specs.declared.numbers.Op1.TheVariants as one
use Rattle.ras_cells.specs.declared.numbers.Op2.TheVariants as two
use Rattle.ras_syntax.specs.declared.expr.Expr.{Expr}
use Rattle.ras_syntax.specs.declared.expr.ExprForm.TheVariants as forms
use Rattle.ras_syntax.specs.declared.expr.Axis.TheVariants as axis
use Rattle.ras_syntax.specs.declared.expr.DomainExpr.TheVariants as domains
use Rattle.ras_syntax.specs.declared.expr.Part.TheVariants as parts
use Rattle.ras_syntax.specs.declared.statement.StatementForm.TheVariants as statements
use Rattle.spec_grammar.specs.Tokens.{TokenKind, Token, lexed}
use Rattle.spec_grammar.specs.Grammar.{w, s, Level, any, negation, signed, IsChain, IsRow, IsCommaList, IsBetween, IsAfter, IsOptional, IsNamed, IsAtom, IsSource, IsEdge, IsAxis, IsBounds, IsDomain, IsArm, IsPrimary, IsPart, IsSigned, IsCompared, IsNegated, IsWhole, IsLevel, IsForm, IsAt, IsStatement}
use Rattle.spec_grammar.specs.Worked.{token_from, span_in_text, spanned, expr_in}
use Rattle.spec_grammar.proofs.Nesting.{IsLevel-IsAt}

up : (level : Level) (ts : List Token) (x : Expr) → IsLevel IsAt level ts x → IsAt level ts x
up level ts x = (IsLevel-IsAt level ts x).0

abbrev inserted_0 : Token
inserted_0 = token_from (w "insert") 0 6

abbrev inserted_1 : Token
inserted_1 = token_from (w "into") 7 11

abbrev inserted_2 : Token
inserted_2 = token_from (TokenKind.name (codes "G")) 12 13

abbrev inserted_3 : Token
inserted_3 = token_from (w "values") 14 20

abbrev inserted_4 : Token
inserted_4 = token_from (w "marray") 21 27

abbrev inserted_5 : Token
inserted_5 = token_from (TokenKind.name (codes "p")) 28 29

abbrev inserted_6 : Token
inserted_6 = token_from (w "in") 30 32

abbrev inserted_7 : Token
inserted_7 = token_from (s "[") 33 34

abbrev inserted_8 : Token
inserted_8 = token_from (TokenKind.number (pos 0) atoms.Wide) 34 35

abbrev inserted_9 : Token
inserted_9 = token_from (s ":") 35 36

abbrev inserted_10 : Token
inserted_10 = token_from (TokenKind.number (pos 15) atoms.Wide) 36 38

abbrev inserted_11 : Token
inserted_11 = token_from (s "]") 38 39

abbrev inserted_12 : Token
inserted_12 = token_from (w "values") 40 46

abbrev inserted_13 : Token
inserted_13 = token_from (w "mod") 47 50

abbrev inserted_14 : Token
inserted_14 = token_from (s "(") 50 51

abbrev inserted_15 : Token
inserted_15 = token_from (TokenKind.name (codes "p")) 51 52

abbrev inserted_16 : Token
inserted_16 = token_from (s "[") 52 53

abbrev inserted_17 : Token
inserted_17 = token_from (TokenKind.number (pos 0) atoms.Wide) 53 54

abbrev inserted_18 : Token
inserted_18 = token_from (s "]") 54 55

abbrev inserted_19 : Token
inserted_19 = token_from (s ",") 55 56

abbrev inserted_20 : Token
inserted_20 = token_from (TokenKind.number (pos 256) atoms.Wide) 56 59

abbrev inserted_21 : Token
inserted_21 = token_from (s ")") 59 60

pub inserted : IsStatement (lexed (codes "insert into G values marray p in [0:15] values mod(p[0],256)")).tokens
    (statements.Insert (spanned (codes "G") 12 13) (expr_in 21 60
    (forms.Marray (spanned (codes "p") 28 29) (domains.Literal
    (((expr_in 34 35 (forms.Number (pos 0) atoms.Wide)), (expr_in 36 38 (forms.Number (pos 15) atoms.Wide))) ∷ []))
    (expr_in 47 60 (forms.Binary two.Mod (expr_in 51 55 (forms.Index (expr_in 51 52 (forms.Name (codes "p")))
    ((axis.At (expr_in 53 54 (forms.Number (pos 0) atoms.Wide))) ∷ []))) (expr_in 56 59 (forms.Number (pos 256) atoms.Wide)))))))
inserted =
    IsForm.insert inserted_0 inserted_1 inserted_2 inserted_3 (spanned (codes "G") 12 13) refl refl (refl, refl) refl
    (up any _ _ (IsWhole.marray {ts = (inserted_7 ∷ inserted_8 ∷ inserted_9 ∷ inserted_10 ∷ inserted_11 ∷ [])}
    {us = (inserted_13 ∷ inserted_14 ∷ inserted_15 ∷ inserted_16 ∷ inserted_17 ∷ inserted_18 ∷ inserted_19 ∷ inserted_20 ∷ inserted_21 ∷ [])} inserted_4 inserted_5
    inserted_6 inserted_12 (spanned (codes "p") 28 29) refl (refl, refl) refl
    (IsDomain.literal (IsBetween.between {ts = (inserted_8 ∷ inserted_9 ∷ inserted_10 ∷ [])} inserted_7 inserted_11 refl
    (IsCommaList.first (IsBounds.bounds {ts = (inserted_8 ∷ [])} {us = (inserted_10 ∷ [])} inserted_9
    (up any _ _ (IsWhole.overlaid (IsChain.alone (IsChain.alone
    (IsChain.alone (IsNegated.plain (IsCompared.alone (IsChain.alone
    (IsChain.alone (IsSigned.part (IsPart.alone (IsPrimary.number inserted_8 (pos 0) atoms.Wide refl)))))))))))) refl
    (up any _ _ (IsWhole.overlaid (IsChain.alone (IsChain.alone
    (IsChain.alone (IsNegated.plain (IsCompared.alone (IsChain.alone
    (IsChain.alone (IsSigned.part (IsPart.alone (IsPrimary.number inserted_10 (pos 15) atoms.Wide refl)))))))))))))) refl)) refl
    (up any _ _ (IsWhole.overlaid (IsChain.alone (IsChain.alone
    (IsChain.alone (IsNegated.plain (IsCompared.alone (IsChain.alone
    (IsChain.alone (IsSigned.part (IsPart.alone (IsPrimary.call {ts = (inserted_15 ∷ inserted_16 ∷ inserted_17 ∷ inserted_18 ∷ [])} {us = (inserted_20 ∷ [])}
    inserted_13 inserted_14 inserted_19 inserted_21 two.Mod (inr (inl (refl, refl))) refl
    (up any _ _ (IsWhole.overlaid (IsChain.alone (IsChain.alone
    (IsChain.alone (IsNegated.plain (IsCompared.alone (IsChain.alone
    (IsChain.alone (IsSigned.part (IsPart.indexed {ts = (inserted_15 ∷ [])} {us = (inserted_16 ∷ inserted_17 ∷ inserted_18 ∷ [])}
    (IsPart.alone (IsPrimary.name inserted_15 (codes "p") refl))
    (IsBetween.between {ts = (inserted_17 ∷ [])} inserted_16 inserted_18 refl
    (IsCommaList.first (IsAxis.at (up any _ _ (IsWhole.overlaid
    (IsChain.alone (IsChain.alone (IsChain.alone (IsNegated.plain
    (IsCompared.alone (IsChain.alone (IsChain.alone (IsSigned.part (IsPart.alone (IsPrimary.number inserted_17 (pos 0) atoms.Wide refl)))))))))))))) refl))))))))))))
    refl (up any _ _ (IsWhole.overlaid (IsChain.alone (IsChain.alone
    (IsChain.alone (IsNegated.plain (IsCompared.alone (IsChain.alone
    (IsChain.alone (IsSigned.part (IsPart.alone (IsPrimary.number inserted_20 (pos 256) atoms.Wide refl)))))))))))) refl))))))))))))))

abbrev updated_0 : Token
updated_0 = token_from (w "update") 0 6

abbrev updated_1 : Token
updated_1 = token_from (TokenKind.name (codes "G")) 7 8

abbrev updated_2 : Token
updated_2 = token_from (w "as") 9 11

abbrev updated_3 : Token
updated_3 = token_from (TokenKind.name (codes "a")) 12 13

abbrev updated_4 : Token
updated_4 = token_from (w "set") 14 17

abbrev updated_5 : Token
updated_5 = token_from (TokenKind.name (codes "a")) 18 19

abbrev updated_6 : Token
updated_6 = token_from (s "[") 19 20

abbrev updated_7 : Token
updated_7 = token_from (TokenKind.number (pos 0) atoms.Wide) 20 21

abbrev updated_8 : Token
updated_8 = token_from (s ",") 21 22

abbrev updated_9 : Token
updated_9 = token_from (TokenKind.number (pos 1) atoms.Wide) 22 23

abbrev updated_10 : Token
updated_10 = token_from (s ":") 23 24

abbrev updated_11 : Token
updated_11 = token_from (s "*") 24 25

abbrev updated_12 : Token
updated_12 = token_from (s "]") 25 26

abbrev updated_13 : Token
updated_13 = token_from (w "assign") 27 33

abbrev updated_14 : Token
updated_14 = token_from (s "{") 34 35

abbrev updated_15 : Token
updated_15 = token_from (TokenKind.number (pos 1) atoms.Wide) 35 36

abbrev updated_16 : Token
updated_16 = token_from (s ",") 36 37

abbrev updated_17 : Token
updated_17 = token_from (TokenKind.name (codes "a")) 38 39

abbrev updated_18 : Token
updated_18 = token_from (s ".") 39 40

abbrev updated_19 : Token
updated_19 = token_from (TokenKind.name (codes "r")) 40 41

abbrev updated_20 : Token
updated_20 = token_from (s "}") 41 42

abbrev updated_21 : Token
updated_21 = token_from (w "where") 43 48

abbrev updated_22 : Token
updated_22 = token_from (w "oid") 49 52

abbrev updated_23 : Token
updated_23 = token_from (s "(") 52 53

abbrev updated_24 : Token
updated_24 = token_from (TokenKind.name (codes "a")) 53 54

abbrev updated_25 : Token
updated_25 = token_from (s ")") 54 55

abbrev updated_26 : Token
updated_26 = token_from (s "=") 56 57

abbrev updated_27 : Token
updated_27 = token_from (TokenKind.number (pos 2) atoms.Wide) 58 59

pub updated : IsStatement (lexed (codes "update G as a set a[0,1:*] assign {1, a.r} where oid(a) = 2")).tokens
    (statements.Update (record { collection = (spanned (codes "G") 7 8); iterator = (Some (spanned (codes "a") 12 13)) }) (spanned (codes "a") 18 19)
    (Some ((axis.At (expr_in 20 21 (forms.Number (pos 0) atoms.Wide))) ∷ (axis.Trim (Some (expr_in 22 23 (forms.Number (pos 1) atoms.Wide))) None) ∷ []))
    (span_in_text 18 26) (expr_in 34 42 (forms.Build ((expr_in 35 36 (forms.Number (pos 1) atoms.Wide)) ∷ (expr_in 38 41
    (forms.Part (expr_in 38 39 (forms.Name (codes "a"))) (parts.Named (codes "r")))) ∷ [])))
    (Some (expr_in 49 59 (forms.Binary two.Eq (expr_in 49 55 (forms.Oid (spanned (codes "a") 53 54))) (expr_in 58 59 (forms.Number (pos 2) atoms.Wide))))))
updated =
    IsForm.update {ts = (updated_1 ∷ updated_2 ∷ updated_3 ∷ [])} {us = (updated_6 ∷ updated_7 ∷ updated_8 ∷ updated_9 ∷ updated_10 ∷ updated_11 ∷ updated_12 ∷ [])}
    {vs = (updated_14 ∷ updated_15 ∷ updated_16 ∷ updated_17 ∷ updated_18 ∷ updated_19 ∷ updated_20 ∷ [])}
    {ws = (updated_21 ∷ updated_22 ∷ updated_23 ∷ updated_24 ∷ updated_25 ∷ updated_26 ∷ updated_27 ∷ [])} updated_0 updated_4 updated_5 updated_13
    (spanned (codes "a") 18 19) refl (IsSource.source updated_1 (spanned (codes "G") 7 8) (refl, refl)
    (IsOptional.present (IsAfter.after updated_2 refl (IsNamed.named updated_3 (spanned (codes "a") 12 13) (refl, refl))))) refl (refl, refl)
    (IsOptional.present (IsBetween.between {ts = (updated_7 ∷ updated_8 ∷ updated_9 ∷ updated_10 ∷ updated_11 ∷ [])} updated_6 updated_12 refl
    (IsCommaList.more {ts = (updated_7 ∷ [])} {us = (updated_9 ∷ updated_10 ∷ updated_11 ∷ [])}
    {xs = ((axis.At (expr_in 20 21 (forms.Number (pos 0) atoms.Wide))) ∷ [])} updated_8
    (IsCommaList.first (IsAxis.at (up any _ _ (IsWhole.overlaid
    (IsChain.alone (IsChain.alone (IsChain.alone (IsNegated.plain
    (IsCompared.alone (IsChain.alone (IsChain.alone (IsSigned.part (IsPart.alone (IsPrimary.number updated_7 (pos 0) atoms.Wide refl)))))))))))))) refl
    (IsAxis.trim {ts = (updated_9 ∷ [])} {us = (updated_11 ∷ [])} updated_10
    (IsEdge.written (up any _ _ (IsWhole.overlaid (IsChain.alone
    (IsChain.alone (IsChain.alone (IsNegated.plain (IsCompared.alone
    (IsChain.alone (IsChain.alone (IsSigned.part (IsPart.alone (IsPrimary.number updated_9 (pos 1) atoms.Wide refl))))))))))))) refl (IsEdge.own updated_11 refl)))
    refl)) refl (up any _ _ (IsWhole.overlaid (IsChain.alone
    (IsChain.alone (IsChain.alone (IsNegated.plain (IsCompared.alone
    (IsChain.alone (IsChain.alone (IsSigned.part (IsPart.alone
    (IsPrimary.braces (IsBetween.between {ts = (updated_15 ∷ updated_16 ∷ updated_17 ∷ updated_18 ∷ updated_19 ∷ [])} updated_14 updated_20 refl
    (IsCommaList.more {ts = (updated_15 ∷ [])} {us = (updated_17 ∷ updated_18 ∷ updated_19 ∷ [])} {xs = ((expr_in 35 36 (forms.Number (pos 1) atoms.Wide)) ∷ [])}
    updated_16 (IsCommaList.first (up any _ _ (IsWhole.overlaid
    (IsChain.alone (IsChain.alone (IsChain.alone (IsNegated.plain
    (IsCompared.alone (IsChain.alone (IsChain.alone (IsSigned.part (IsPart.alone (IsPrimary.number updated_15 (pos 1) atoms.Wide refl))))))))))))) refl
    (up any _ _ (IsWhole.overlaid (IsChain.alone (IsChain.alone
    (IsChain.alone (IsNegated.plain (IsCompared.alone (IsChain.alone
    (IsChain.alone (IsSigned.part (IsPart.named {ts = (updated_17 ∷ [])} updated_18 updated_19 (codes "r") (IsPart.alone (IsPrimary.name updated_17 (codes "a") refl))
    refl refl)))))))))))) refl) (omega arith))))))))))))) (IsOptional.present
    (IsAfter.after updated_21 refl (up any _ _ (IsWhole.overlaid
    (IsChain.alone (IsChain.alone (IsChain.alone (IsNegated.plain
    (IsCompared.compared {ts = (updated_22 ∷ updated_23 ∷ updated_24 ∷ updated_25 ∷ [])} {us = (updated_27 ∷ [])} updated_26 two.Eq
    (IsChain.alone (IsChain.alone (IsSigned.part (IsPart.alone
    (IsPrimary.oid updated_22 refl (IsBetween.between {ts = (updated_24 ∷ [])} updated_23 updated_25 refl
    (IsNamed.named updated_24 (spanned (codes "a") 53 54) (refl, refl)) refl)))))) (inl (refl, refl))
    (IsChain.alone (IsChain.alone (IsSigned.part (IsPart.alone (IsPrimary.number updated_27 (pos 2) atoms.Wide refl))))))))))))))

abbrev selected_0 : Token
selected_0 = token_from (w "select") 0 6

abbrev selected_1 : Token
selected_1 = token_from (w "case") 7 11

abbrev selected_2 : Token
selected_2 = token_from (w "when") 12 16

abbrev selected_3 : Token
selected_3 = token_from (TokenKind.name (codes "a")) 17 18

abbrev selected_4 : Token
selected_4 = token_from (s ".") 18 19

abbrev selected_5 : Token
selected_5 = token_from (TokenKind.number (pos 1) atoms.Wide) 19 20

abbrev selected_6 : Token
selected_6 = token_from (s "<") 21 22

abbrev selected_7 : Token
selected_7 = token_from (TokenKind.number (pos 2) atoms.Wide) 23 24

abbrev selected_8 : Token
selected_8 = token_from (w "then") 25 29

abbrev selected_9 : Token
selected_9 = token_from (s "(") 30 31

abbrev selected_10 : Token
selected_10 = token_from (w "octet") 31 36

abbrev selected_11 : Token
selected_11 = token_from (s ")") 36 37

abbrev selected_12 : Token
selected_12 = token_from (TokenKind.number (pos 1) atoms.Wide) 38 39

abbrev selected_13 : Token
selected_13 = token_from (w "else") 40 44

abbrev selected_14 : Token
selected_14 = token_from (s "-") 45 46

abbrev selected_15 : Token
selected_15 = token_from (TokenKind.number (pos 2) atoms.Wide) 46 47

abbrev selected_16 : Token
selected_16 = token_from (w "end") 48 51

abbrev selected_17 : Token
selected_17 = token_from (w "from") 52 56

abbrev selected_18 : Token
selected_18 = token_from (TokenKind.name (codes "A")) 57 58

abbrev selected_19 : Token
selected_19 = token_from (w "as") 59 61

abbrev selected_20 : Token
selected_20 = token_from (TokenKind.name (codes "a")) 62 63

abbrev selected_21 : Token
selected_21 = token_from (s ",") 63 64

abbrev selected_22 : Token
selected_22 = token_from (TokenKind.name (codes "B")) 65 66

abbrev selected_23 : Token
selected_23 = token_from (w "where") 67 72

abbrev selected_24 : Token
selected_24 = token_from (w "not") 73 76

abbrev selected_25 : Token
selected_25 = token_from (w "true") 77 81

pub selected : IsStatement (lexed (codes "select case when a.1 < 2 then (octet) 1 else -2 end from A as a, B where not true")).tokens
    (statements.Select (expr_in 7 51 (forms.Case ((
      (expr_in 17 24
          (forms.Binary two.Lt (expr_in 17 20 (forms.Part (expr_in 17 18 (forms.Name (codes "a"))) (parts.Numbered (pos 1))))
          (expr_in 23 24 (forms.Number (pos 2) atoms.Wide)))),
      (expr_in 30 39 (forms.Cast atoms.Octet (expr_in 38 39 (forms.Number (pos 1) atoms.Wide)))),
    ) ∷ [])
    (expr_in 45 47 (forms.Unary one.Neg (expr_in 46 47 (forms.Number (pos 2) atoms.Wide))))))
    ((record { collection = (spanned (codes "A") 57 58); iterator = (Some (spanned (codes "a") 62 63)) }) ∷ (record
    { collection = (spanned (codes "B") 65 66); iterator = None }) ∷ []) (Some (expr_in 73 81 (forms.Unary one.Not (expr_in 77 81 (forms.Bool true))))))
selected = IsForm.select_from {ts = (selected_1 ∷ selected_2 ∷ selected_3 ∷ selected_4 ∷ selected_5 ∷ selected_6 ∷ selected_7 ∷ selected_8 ∷
    selected_9 ∷ selected_10 ∷ selected_11 ∷ selected_12 ∷ selected_13 ∷ selected_14 ∷ selected_15 ∷ selected_16 ∷ [])} {us = (selected_18 ∷
    selected_19 ∷ selected_20 ∷ selected_21 ∷ selected_22 ∷ [])} {vs = (selected_23 ∷ selected_24 ∷ selected_25 ∷ [])} selected_0 selected_17 refl (up
    any _ _ (IsWhole.overlaid (IsChain.alone (IsChain.alone (IsChain.alone (IsNegated.plain (IsCompared.alone (IsChain.alone (IsChain.alone
    (IsSigned.part (IsPart.alone (IsPrimary.choice {ts = (selected_2 ∷ selected_3 ∷ selected_4 ∷ selected_5 ∷ selected_6 ∷ selected_7 ∷ selected_8 ∷
    selected_9 ∷ selected_10 ∷ selected_11 ∷ selected_12 ∷ [])} {us = (selected_14 ∷ selected_15 ∷ [])} selected_1 selected_13 selected_16 refl
    (IsRow.first (IsArm.arm {ts = (selected_3 ∷ selected_4 ∷ selected_5 ∷ selected_6 ∷ selected_7 ∷ [])} {us = (selected_9 ∷ selected_10 ∷ selected_11 ∷
    selected_12 ∷ [])} selected_2 selected_8 refl (up any _ _ (IsWhole.overlaid (IsChain.alone (IsChain.alone (IsChain.alone (IsNegated.plain
    (IsCompared.compared {ts = (selected_3 ∷ selected_4 ∷ selected_5 ∷ [])} {us = (selected_7 ∷ [])} selected_6 two.Lt (IsChain.alone (IsChain.alone
    (IsSigned.part (IsPart.numbered {ts = (selected_3 ∷ [])} selected_4 selected_5 (pos 1) (IsPart.alone (IsPrimary.name selected_3 (codes "a") refl))
    refl refl)))) (inr (inr (inl (refl, refl)))) (IsChain.alone (IsChain.alone (IsSigned.part (IsPart.alone (IsPrimary.number selected_7 (pos 2)
    atoms.Wide refl)))))))))))) refl (up any _ _ (IsWhole.overlaid (IsChain.alone (IsChain.alone (IsChain.alone (IsNegated.plain (IsCompared.alone
    (IsChain.alone (IsChain.alone (IsSigned.cast {ts = (selected_9 ∷ selected_10 ∷ selected_11 ∷ [])} {us = (selected_12 ∷ [])} (IsBetween.between {ts = (selected_10 ∷
    [])} selected_9 selected_11 refl (IsAtom.one_word selected_10 atoms.Octet (inr (inr (inl (refl, refl))))) refl) (up signed _ _ (IsSigned.part
    (IsPart.alone (IsPrimary.number selected_12 (pos 1) atoms.Wide refl)))))))))))))))) refl (up any _ _ (IsWhole.overlaid (IsChain.alone
    (IsChain.alone (IsChain.alone (IsNegated.plain (IsCompared.alone (IsChain.alone (IsChain.alone (IsSigned.minus selected_14 refl (up signed _ _
    (IsSigned.part (IsPart.alone (IsPrimary.number selected_15 (pos 2) atoms.Wide refl)))))))))))))) refl)))))))))))) refl (IsCommaList.more {ts = (selected_18 ∷
    selected_19 ∷ selected_20 ∷ [])} {us = (selected_22 ∷ [])} {xs = ((record {
      collection = (spanned (codes "A") 57 58);
      iterator = (Some (spanned
          (codes "a") 62 63));
    }) ∷ [])} selected_21 (IsCommaList.first (IsSource.source selected_18 (spanned (codes "A") 57 58) (refl, refl)
    (IsOptional.present (IsAfter.after selected_19 refl (IsNamed.named selected_20 (spanned (codes "a") 62 63) (refl, refl)))))) refl (IsSource.source
    selected_22 (spanned (codes "B") 65 66) (refl, refl) IsOptional.absent)) (IsOptional.present (IsAfter.after selected_23 refl (up any _ _
    (IsWhole.overlaid (IsChain.alone (IsChain.alone (IsChain.alone (IsNegated.negated selected_24 refl (up negation _ _ (IsNegated.plain
    (IsCompared.alone (IsChain.alone (IsChain.alone (IsSigned.part (IsPart.alone (IsPrimary.truth selected_25 true (inl (refl, refl))))))))))))))))))
