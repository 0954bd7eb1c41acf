-- How faults are written: in answers of statements, and in lines that refuse a text.
use Rattle.std.specs.Prelude.{ℕ, ℤ, List, [], ◌∷◌, ◌++◌, codes, decimal}
use Rattle.std.specs.Fmt.{signed_decimal}
use Rattle.std.specs.List.{concat, join_by}
use Rattle.ras_cells.specs.declared.cell.CellFault.{CellFault}
use Rattle.ras_cells.specs.declared.cell.CellFault.TheVariants as cell
use Rattle.ras_syntax.specs.declared.faults.CheckFault.{CheckFault}
use Rattle.ras_syntax.specs.declared.faults.CheckFault.TheVariants as check
use Rattle.ras_syntax.specs.declared.faults.ShapeFault.{ShapeFault}
use Rattle.ras_syntax.specs.declared.faults.ShapeFault.TheVariants as shape
use Rattle.ras_syntax.specs.declared.faults.SyntaxFault.{SyntaxFault}
use Rattle.ras_syntax.specs.declared.faults.SyntaxFault.TheVariants as syntax
use Rattle.ras_syntax.specs.declared.span.Span.{Span}
use Rattle.spec_grammar.specs.Tokens.{Text}
use Rattle.spec_statements.specs.Reply.{Reply, values, done, faulty, misfit, unchecked}
use Rattle.spec_workloads.specs.Outline.{OutlineFault, bad_heading, bad_type, too_many_sessions, too_many_statements, no_end}
use Rattle.spec_workloads.specs.Setup.{SetupFault, unread, a_word, replied, WorkloadFaultValue, no_outline, setup_failed}

-- ---- words of faults

abbrev pub cell_fault_word : CellFault → Text
cell_fault_word cell.Overflow = codes "overflow"
cell_fault_word cell.DivideByZero = codes "divide_by_zero"
cell_fault_word cell.CastRange = codes "cast_range"
cell_fault_word cell.IndexOut = codes "index_out"
cell_fault_word cell.NullStore = codes "null_store"

abbrev pub shape_fault_word : ShapeFault → Text
shape_fault_word shape.Outside = codes "outside"
shape_fault_word shape.DomainsDiffer = codes "domains_differ"
shape_fault_word shape.ExtentsDiffer = codes "extents_differ"
shape_fault_word shape.EmptyDomain = codes "empty_domain"
shape_fault_word shape.BoundOut = codes "bound_out"
shape_fault_word shape.ArrayTooLarge = codes "array_too_large"
shape_fault_word shape.ReplyTooLarge = codes "reply_too_large"
shape_fault_word shape.TooManyTiles = codes "too_many_tiles"
shape_fault_word shape.TooManyRows = codes "too_many_rows"
shape_fault_word shape.TooManyLocks = codes "too_many_locks"

abbrev pub check_fault_word : CheckFault → Text
check_fault_word check.NoCollection = codes "no_collection"
check_fault_word check.CollectionExists = codes "collection_exists"
check_fault_word check.NoType = codes "no_type"
check_fault_word check.NoIterator = codes "no_iterator"
check_fault_word check.DoubleName = codes "double_name"
check_fault_word check.NoComponent = codes "no_component"
check_fault_word check.TypeMismatch = codes "type_mismatch"
check_fault_word check.DimensionMismatch = codes "dimension_mismatch"
check_fault_word check.VariableDomain = codes "variable_domain"

abbrev pub at_place : Text → ℕ → Text
at_place kind place = codes "syntax " ++ kind ++ codes " at " ++ decimal place

-- ---- answers

abbrev pub syntax_text : SyntaxFault → Text
syntax_text (syntax.Unexpected place) = at_place (codes "unexpected") place
syntax_text (syntax.NumberTooWide place) = at_place (codes "number_too_wide") place
syntax_text (syntax.TooDeep place) = at_place (codes "too_deep") place
syntax_text (syntax.UnknownName place) = at_place (codes "unknown_name") place
syntax_text (syntax.FloatRefused place) = at_place (codes "float_refused") place

abbrev pub span_text : Span → Text
span_text span = concat (codes "span " ∷ decimal span.from ∷ codes ":" ∷ decimal span.to ∷ [])

abbrev pub check_text_of : Span → CheckFault → Text
check_text_of span fault = concat (codes "check " ∷ check_fault_word fault ∷ codes " " ∷ span_text span ∷ [])

abbrev pub shape_text_of : ℕ → Span → ShapeFault → Text
shape_text_of row span fault = concat (codes "shape " ∷ shape_fault_word fault ∷ codes " row " ∷ decimal row ∷ codes " " ∷ span_text span ∷ [])

abbrev pub point_text_of : List ℤ → Text
point_text_of point = codes "[" ++ join_by signed_decimal (codes ",") point ++ codes "]"

abbrev pub fault_text_of : ℕ → List ℤ → CellFault → Text
fault_text_of row point fault = concat (codes "fault " ∷ cell_fault_word fault ∷ codes " row " ∷ decimal row ∷ codes " at " ∷ point_text_of point ∷ [])

-- of a reply that refuses a setup; there values are told by a word alone
abbrev pub reply_text : Reply → Text
reply_text (values rows) = codes "value"
reply_text (done n) = codes "done " ++ decimal n
reply_text (faulty row point fault) = fault_text_of row point fault
reply_text (misfit row span fault) = shape_text_of row span fault
reply_text (unchecked span fault) = check_text_of span fault

-- ---- lines that refuse a text

abbrev pub setup_fault_text : SetupFault → Text
setup_fault_text (unread fault) = syntax_text fault
setup_fault_text a_word = codes "word"
setup_fault_text (replied reply) = reply_text reply

abbrev pub at_line : Text → ℕ → Text
at_line what line = concat (codes "refused " ∷ what ∷ codes " line " ∷ decimal line ∷ codes "\n" ∷ [])

abbrev pub outline_refusal : OutlineFault → Text
outline_refusal (bad_heading line) = at_line (codes "heading") line
outline_refusal (bad_type line) = at_line (codes "type") line
outline_refusal (too_many_sessions line) = at_line (codes "sessions") line
outline_refusal (too_many_statements line) = at_line (codes "statements") line
outline_refusal no_end = codes "refused no end\n"

abbrev pub workload_refusal : WorkloadFaultValue → Text
workload_refusal (no_outline fault) = outline_refusal fault
workload_refusal (setup_failed k fault) = concat (codes "refused setup statement " ∷ decimal k ∷ codes " " ∷ setup_fault_text fault ∷ codes "\n" ∷ [])
