use Rattle.std.proofs.Common.{◌≡◌, List, Option, None, IfOk, sym, ap, subst, ◌∙◌}
use Rattle.ras_syntax.specs.declared.faults.SyntaxFault.{SyntaxFault}
use Rattle.ras_syntax.specs.declared.types.SetType.{SetType}
use Rattle.spec_grammar.specs.Tokens.{Text, lexed}
use Rattle.spec_workloads.specs.TypeLines.{if_whole, type_in, type_of_line, type_read, unless_faulty}
use Rattle.ras_parse.specs.declared.fault.ParseFault.{ParseFault}
use Rattle.ras_parse.specs.declared.fault.ParseFault.TheVariants.{Fault}
use Rattle.ras_parse.specs.declared.token.Token.{Token}
use Rattle.ras_parse.specs.Reading.{IsOwnFault}
use Rattle.ras_parse.specs.Seen.{tokens_in}
use Rattle.ras_workload.proofs.type_lines.draft_of.Goals as goal

pub returns-in-Ok : goal.returns-in-Ok
unfolding type_of_line
returns-in-Ok c =
    let line = c.args.line.now in
    let told = ap type_in c.in-Ok.ensures.tokens ∙ ap (λ (ts : List Token). if_whole (type_read (tokens_in line ts))) (sym c.deref.ensures.value) in
    subst (λ (of : Option SetType). IfOk c.draft_in.result (λ found. found ≡ of)) (sym told) c.draft_in.ensures

-- a fault of a token's own leaves no type
faulty_line : (line : Text) (found : ParseFault) (fault : SyntaxFault) → found ≡ Fault fault → IsOwnFault line found → type_of_line line ≡ None
unfolding type_of_line
faulty_line line found fault is own =
    ap (λ (fault : Option SyntaxFault). unless_faulty fault (if_whole (type_read (lexed line).tokens))) (subst (IsOwnFault line) is own)

pub returns-in-Err-Fault : goal.returns-in-Err-Fault
returns-in-Err-Fault c = sym (faulty_line c.args.line.now _ _ c.in-Err-Fault.field-0-is c.in-Err-Fault.ensures.fault)
