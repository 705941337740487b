-- The tokens of a whole canonical text.
use Rattle.std.proofs.Common.{◌≡◌, ℕ, zero, suc, ◌*◌, ◌≤◌, List, [], ◌++◌, ◌⊎◌, inl, inr, decimal, refl, arith}
use Rattle.std.specs.Prelude.{codes}
use Rattle.std.specs.List.{flat_map, AllByRecursion}
use Rattle.std.proofs.Math.Nat.{le-mul_of_pos_right, mul_comm}
use Rattle.scald_base.specs.Time.{Header, IsHeader}
use Rattle.scald_lex.specs.Piece.{greatest_number}
use Rattle.assertion_syntax.specs.Name.{name_text}
use Rattle.drawing_tree.specs.declared.drawing.CaseEntry.{CaseEntry}
use Rattle.drawing_tree.specs.declared.drawing.CaseStmt.{CaseStmt}
use Rattle.drawing_tree.specs.Tree.{Assignment, Formal, Macro, Drawing}
use Rattle.drawing_tree.specs.ExpressionText.{sum_text}
use Rattle.drawing_tree.specs.Canonical.{quoted, range_text, assignment_text, params_text, inputs_text, outputs_text, line, pair_text, header_lines, constant_line, formal_text, macro_head, macro_lines, body_lines, entry_text, case_lines, listed_text, canonical}
use Rattle.drawing_grammar.specs.declared.edition.Edition.{Edition}
use Rattle.drawing_grammar.proofs.Cutting.{Bare, Spells, Closes, closed, nothing_closes, before, before_closed, then_, then_closed}
use Rattle.drawing_grammar.proofs.Leaves.{word_spells, number_spells, name_closes}
use Rattle.drawing_grammar.proofs.NameBytes.{base_holds, name_holds}
use Rattle.drawing_grammar.proofs.Literals.{semicolon_closes, colon_closes, less_closes, index_end_closes, scald_closes, clock_closes, by_closes, wire_closes, pskew_closes, cskew_closes, const_closes, wide_equals_closes, macro_closes, drawing_closes, case_closes}
use Rattle.drawing_grammar.proofs.SpelledExpression.{sum_spells}
use Rattle.drawing_grammar.proofs.SpelledLists.{all_map, Each, listed_spells, each_closes}
use Rattle.drawing_grammar.proofs.SpelledConnection.{range_closes, assignment_spells, params_close, params_stop}
use Rattle.drawing_grammar.proofs.SpelledStatement.{line_closes, ins_close, ins_break, outs_close, body_closes}
use Rattle.drawing_grammar.proofs.CanonicalTokens.{word, number, name, semicolon, colon, less, greater, equals, sum_tokens, range_tokens, assignment_tokens, params_tokens, inputs_tokens, outputs_tokens, pair_tokens, header_tokens, constant_tokens, formal_tokens, macro_tokens, body_tokens, entry_tokens, case_tokens, listed_tokens, drawing_tokens}
use Rattle.drawing_grammar.proofs.Drawable.{IsDrawnAssignment, IsDrawnFormal, IsDrawnMacro, IsDrawnEntry, IsDrawnCase, written_in, IsDrawnDrawing}

-- ---- the header

-- a line of a text and the semicolon after it
ended : (s : List ℕ) (ts : List Bare) → Spells s ts → Closes (line [] (s ++ codes ";")) (ts ++ semicolon)
ended s ts is =
    line_closes [] (s ++ codes ";") (ts ++ semicolon) nothing_closes
    (closed (s ++ codes ";") (ts ++ semicolon) (then_closed s (codes ";") ts semicolon is semicolon_closes refl))

-- two numbers after a word
pair_spells : (front : List ℕ) (first : List Bare) (a b : ℕ) → Closes front first → a ≤ greatest_number → b ≤ greatest_number → Spells (front ++ pair_text a b) (first ++ pair_tokens a b)
pair_spells front first a b f h k =
    before front (pair_text a b) first (pair_tokens a b) f
    (before (decimal a ++ codes ":") (decimal b) (number a ++ colon) (number b)
    (then_closed (decimal a) (codes ":") (number a) colon (number_spells a h) colon_closes refl) (number_spells b k))

clock_spells : (units ticks : ℕ) → units ≤ greatest_number → ticks ≤ greatest_number → Spells (codes "CLOCK "
    ++ decimal units ++ codes " x " ++ decimal ticks) (word (codes "CLOCK") ++ number units ++ word (codes "x") ++ number ticks)
clock_spells units ticks h k =
    before (codes "CLOCK " ++ decimal units ++ codes " x ") (decimal ticks) (word (codes "CLOCK") ++ number units ++ word (codes "x")) (number ticks)
    (then_closed (codes "CLOCK " ++ decimal units) (codes " x ") (word (codes "CLOCK") ++ number units) (word (codes "x"))
    (before (codes "CLOCK ") (decimal units) (word (codes "CLOCK")) (number units) clock_closes (number_spells units h)) by_closes refl)
    (number_spells ticks k)

-- a factor of a number that is not 0 is no greater
factor : (a b : ℕ) → 2 ≤ a * b → a * b ≤ 4096 → a ≤ 4096
factor a zero h k = absurd (let e : a * zero ≡ 0 = omega arith in omega arith)
factor a (suc b) h k = let l : a ≤ a * suc b = le-mul_of_pos_right a (omega arith) in omega arith

other_factor : (a b : ℕ) → 2 ≤ a * b → a * b ≤ 4096 → b ≤ 4096
other_factor a b h k = let e : a * b ≡ b * a = mul_comm a b in factor b a (rw (← e) h) (rw (← e) k)

header_closes : (version : ℕ) (h : Header) → version ≤ greatest_number → IsHeader h → Closes (header_lines version h) (header_tokens version h)
unfolding header_lines
header_closes version h v is =
    let units = factor h.units h.ticks is.shortest is.longest in
    let ticks = other_factor h.units h.ticks is.shortest is.longest in
    let scald = line [] (codes "SCALD " ++ decimal version ++ codes ";") in
    let clock = line [] (codes "CLOCK " ++ decimal h.units ++ codes " x " ++ decimal h.ticks ++ codes ";") in
    let wire = line [] (codes "WIRE " ++ pair_text h.wire.min h.wire.max ++ codes ";") in
    let pskew = line [] (codes "PSKEW " ++ pair_text h.pskew.0 h.pskew.1 ++ codes ";") in
    let cskew = line [] (codes "CSKEW " ++ pair_text h.cskew.0 h.cskew.1 ++ codes ";") in
    let scalds = word (codes "SCALD") ++ number version ++ semicolon in
    let clocks = word (codes "CLOCK") ++ number h.units ++ word (codes "x") ++ number h.ticks ++ semicolon in
    let wires = word (codes "WIRE") ++ pair_tokens h.wire.min h.wire.max ++ semicolon in
    let pskews = word (codes "PSKEW") ++ pair_tokens h.pskew.0 h.pskew.1 ++ semicolon in
    let cskews = word (codes "CSKEW") ++ pair_tokens h.cskew.0 h.cskew.1 ++ semicolon in
    before_closed (scald ++ clock ++ wire ++ pskew) cskew (scalds ++ clocks ++ wires ++ pskews) cskews
    (before_closed (scald ++ clock ++ wire) pskew (scalds ++ clocks ++ wires) pskews
    (before_closed (scald ++ clock) wire (scalds ++ clocks) wires
    (before_closed scald clock scalds clocks
    (ended (codes "SCALD " ++ decimal version) (word (codes "SCALD") ++ number version)
    (before (codes "SCALD ") (decimal version) (word (codes "SCALD")) (number version) scald_closes (number_spells version v)))
    (ended (codes "CLOCK " ++ decimal h.units ++ codes " x " ++ decimal h.ticks) (word (codes "CLOCK") ++ number h.units ++ word (codes "x") ++ number h.ticks)
    (clock_spells h.units h.ticks (omega arith) (omega arith))))
    (ended (codes "WIRE " ++ pair_text h.wire.min h.wire.max) (word (codes "WIRE") ++ pair_tokens h.wire.min h.wire.max)
    (pair_spells (codes "WIRE ") (word (codes "WIRE")) h.wire.min h.wire.max wire_closes (omega (arith, is.wire.ordered, is.wire.bounded)) (omega (arith, is.wire.bounded)))))
    (ended (codes "PSKEW " ++ pair_text h.pskew.0 h.pskew.1) (word (codes "PSKEW") ++ pair_tokens h.pskew.0 h.pskew.1)
    (pair_spells (codes "PSKEW ") (word (codes "PSKEW")) h.pskew.0 h.pskew.1 pskew_closes (omega (arith, is.pskew.early)) (omega (arith, is.pskew.late)))))
    (ended (codes "CSKEW " ++ pair_text h.cskew.0 h.cskew.1) (word (codes "CSKEW") ++ pair_tokens h.cskew.0 h.cskew.1)
    (pair_spells (codes "CSKEW ") (word (codes "CSKEW")) h.cskew.0 h.cskew.1 cskew_closes (omega (arith, is.cskew.early)) (omega (arith, is.cskew.late))))

version_fits : (n : ℕ) → (n ≡ 1) ⊎ (n ≡ 2) → n ≤ greatest_number
version_fits n (inl e) = omega arith
version_fits n (inr e) = omega arith

-- ---- constants

constant_closes : (c : Assignment) → IsDrawnAssignment c → Closes (constant_line c) (constant_tokens c)
unfolding constant_line
constant_closes c is =
    let named = codes "CONST " ++ c.name in
    let named_words = word (codes "CONST") ++ word c.name in
    ended (named ++ codes " = " ++ sum_text c.value) (named_words ++ equals ++ sum_tokens c.value)
    (before (named ++ codes " = ") (sum_text c.value) (named_words ++ equals) (sum_tokens c.value)
    (then_closed named (codes " = ") named_words equals
    (before (codes "CONST ") c.name (word (codes "CONST")) (word c.name) const_closes (word_spells c.name is.name.is_word)) wide_equals_closes refl)
    (sum_spells c.value is.value))

-- ---- macros

formal_spells : (f : Formal) → IsDrawnFormal f → Spells (formal_text f) (formal_tokens f)
formal_spells f is =
    closed (formal_text f) (formal_tokens f)
    (before_closed (quoted f.base) (range_text f.range) (name f.base) (range_tokens f.range)
    (name_closes f.base (base_holds f.base is.base)) (range_closes f.range is.range))

formals_spell : (fs : List Formal) → AllByRecursion IsDrawnFormal fs → Each formal_text formal_tokens fs
formals_spell fs is = all_map IsDrawnFormal (λ f. Spells (formal_text f) (formal_tokens f)) formal_spells fs is

abbrev macro_head_tokens : Macro → List Bare
macro_head_tokens m = word (codes "MACRO") ++ word m.name ++ params_tokens m.params ++ inputs_tokens formal_tokens m.ins ++ outputs_tokens formal_tokens m.outs ++ semicolon

head_closes : (v : Edition) (m : Macro) → IsDrawnMacro v m → Closes (macro_head m) (macro_head_tokens m)
unfolding macro_head
head_closes v m is =
    let named = codes "MACRO " ++ m.name in
    let ins = inputs_text formal_text m.ins in
    let outs = outputs_text formal_text m.outs in
    let first = word (codes "MACRO") ++ word m.name in
    let params = all_map IsDrawnAssignment (λ a. Spells (assignment_text a) (assignment_tokens a)) assignment_spells m.params is.params in
    before_closed (named ++ params_text m.params ++ ins ++ outs) (codes ";") (first ++ params_tokens m.params ++ inputs_tokens formal_tokens m.ins ++ outputs_tokens formal_tokens m.outs) semicolon
    (before_closed (named ++ params_text m.params ++ ins) outs (first ++ params_tokens m.params ++ inputs_tokens formal_tokens m.ins) (outputs_tokens formal_tokens m.outs)
    (then_closed (named ++ params_text m.params) ins (first ++ params_tokens m.params) (inputs_tokens formal_tokens m.ins)
    (then_ named (params_text m.params) first (params_tokens m.params)
    (before (codes "MACRO ") m.name (word (codes "MACRO")) (word m.name) macro_closes (word_spells m.name is.name.is_word))
    (closed (params_text m.params) (params_tokens m.params) (params_close m.params params)) (params_stop m.params))
    (ins_close formal_text formal_tokens m.ins (formals_spell m.ins is.ins)) (ins_break formal_text m.ins))
    (outs_close formal_text formal_tokens m.outs (formals_spell m.outs is.outs))) semicolon_closes

macro_lines_close : (v : Edition) (m : Macro) → IsDrawnMacro v m → Closes (macro_lines m) (macro_tokens m)
unfolding macro_lines
macro_lines_close v m is =
    before_closed (line [] (macro_head m)) (body_lines m.body) (macro_head_tokens m) (body_tokens m.body)
    (line_closes [] (macro_head m) (macro_head_tokens m) nothing_closes (closed (macro_head m) (macro_head_tokens m) (head_closes v m is))) (body_closes v m.body is.body)

-- ---- cases

entry_spells : (e : CaseEntry) → IsDrawnEntry e → Spells (entry_text e) (entry_tokens e)
entry_spells e is =
    let named = quoted (name_text e.name) in
    let first = name (name_text e.name) in
    before (named ++ codes "<" ++ decimal e.bit ++ codes ">=") (decimal e.value) (first ++ less ++ number e.bit ++ (greater ++ equals)) (number e.value)
    (then_closed (named ++ codes "<" ++ decimal e.bit) (codes ">=") (first ++ less ++ number e.bit) (greater ++ equals)
    (before (named ++ codes "<") (decimal e.bit) (first ++ less) (number e.bit)
    (before_closed named (codes "<") first less (name_closes (name_text e.name) (name_holds e.name is.name)) less_closes)
    (number_spells e.bit (omega (arith, is.bit)))) index_end_closes refl)
    (number_spells e.value (omega (arith, is.value)))

case_lines_close : (c : CaseStmt) → IsDrawnCase c → Closes (case_lines c) (case_tokens c)
case_lines_close c is =
    ended (codes "CASE " ++ listed_text entry_text c.entries) (word (codes "CASE") ++ listed_tokens entry_tokens c.entries)
    (before (codes "CASE ") (listed_text entry_text c.entries) (word (codes "CASE")) (listed_tokens entry_tokens c.entries) case_closes
    (listed_spells entry_text entry_tokens c.entries (all_map IsDrawnEntry (λ e. Spells (entry_text e) (entry_tokens e)) entry_spells c.entries is.entries)))

-- ---- the whole text

pub canonical_closes : (d : Drawing) → IsDrawnDrawing d → Closes (canonical d) (drawing_tokens d)
canonical_closes d is =
    let v = written_in d in
    let header = header_lines d.version d.header in
    let consts = flat_map constant_line d.consts in
    let macros = flat_map macro_lines d.macros in
    let title = line [] (codes "DRAWING " ++ d.name ++ codes ";") in
    let body = body_lines d.body in
    let headers = header_tokens d.version d.header in
    let const_words = flat_map constant_tokens d.consts in
    let macro_words = flat_map macro_tokens d.macros in
    let titles = word (codes "DRAWING") ++ word d.name ++ semicolon in
    before_closed (header ++ consts ++ macros ++ title ++ body) (flat_map case_lines d.cases) (headers ++ const_words ++ macro_words ++ titles ++ body_tokens d.body) (flat_map case_tokens d.cases)
    (before_closed (header ++ consts ++ macros ++ title) body (headers ++ const_words ++ macro_words ++ titles) (body_tokens d.body)
    (before_closed (header ++ consts ++ macros) title (headers ++ const_words ++ macro_words) titles
    (before_closed (header ++ consts) macros (headers ++ const_words) macro_words
    (before_closed header consts headers const_words (header_closes d.version d.header (version_fits d.version is.version) is.header)
    (each_closes constant_line constant_tokens d.consts (all_map IsDrawnAssignment (λ c. Closes (constant_line c) (constant_tokens c)) constant_closes d.consts is.consts)))
    (each_closes macro_lines macro_tokens d.macros (all_map (IsDrawnMacro v) (λ m. Closes (macro_lines m) (macro_tokens m)) (macro_lines_close v) d.macros is.macros)))
    (ended (codes "DRAWING " ++ d.name) (word (codes "DRAWING") ++ word d.name)
    (before (codes "DRAWING ") d.name (word (codes "DRAWING")) (word d.name) drawing_closes (word_spells d.name is.name.is_word))))
    (body_closes v d.body is.body))
    (each_closes case_lines case_tokens d.cases (all_map IsDrawnCase (λ c. Closes (case_lines c) (case_tokens c)) case_lines_close d.cases is.cases))
