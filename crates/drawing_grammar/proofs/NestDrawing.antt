-- A drawing whose canonical text is read is shallow.
use Rattle.std.proofs.Common.{◌≡◌, ℕ, List, [], ◌∷◌, ◌++◌, None, refl}
use Rattle.std.specs.Prelude.{codes}
use Rattle.std.specs.List.{AllByRecursion, flat_map}
use Rattle.scald_base.specs.Time.{Header}
use Rattle.drawing_tree.specs.Tree as tree
use Rattle.drawing_grammar.specs.declared.edition.Edition.{Edition}
use Rattle.drawing_grammar.specs.declared.edition.Edition.TheVariants.{First, Second}
use Rattle.drawing_grammar.specs.declared.terminal.Keyword.TheVariants.{By}
use Rattle.drawing_grammar.specs.declared.terminal.Terminal.TheVariants as token
use Rattle.drawing_grammar.specs.CanonicalDraws.{IsShallowAssignment, IsShallowMacro, IsShallowDrawing}
use Rattle.drawing_grammar.specs.Draws.{whole}
use Rattle.drawing_grammar.specs.Lexeme.{word_terminal, symbol_terminal}
use Rattle.drawing_grammar.specs.Grammar.{Need, mark, item, keyword, fresh, part, group}
use Rattle.drawing_grammar.specs.Grammar as g
use Rattle.drawing_grammar.specs.Sketch.{no_constants}
use Rattle.drawing_grammar.specs.Machine.{choice}
use Rattle.drawing_grammar.proofs.Cutting.{Bare}
use Rattle.drawing_grammar.proofs.Leaves as leaf
use Rattle.drawing_grammar.proofs.CanonicalTokens.{semicolon, sum_tokens, constant_tokens, inputs_tokens, outputs_tokens, params_tokens, formal_tokens, body_tokens, header_tokens, macro_tokens, case_tokens, drawing_tokens, end_of_text}
use Rattle.drawing_grammar.proofs.Drawable.{IsDrawnAssignment, IsDrawnMacro, written_in, IsDrawnDrawing}
use Rattle.drawing_grammar.proofs.LeftOver.{LeftOver, first_of, take_mark, take_item, take_keyword, take_choice, pass_group, into_leading, into_choice}
use Rattle.drawing_grammar.proofs.Matching.{free_word}
use Rattle.drawing_grammar.proofs.NestRange.{Held, shift, bound}
use Rattle.drawing_grammar.proofs.NestParameters.{params_held, formals_held, formal_outputs_held}
use Rattle.drawing_grammar.proofs.PhraseSteps.{bare_symbol}
use Rattle.drawing_grammar.proofs.NestStatement.{bare_word, after_inputs, body_held}

-- ---- macros

macro_held : (v : Edition) (m : tree.Macro) → IsDrawnMacro v m → (more : List Bare) (rest : List Need) →
    LeftOver (macro_tokens m ++ more) (part (g.Macro v) 0 ∷ rest) → Held (IsShallowMacro m) more rest
unfolding symbol_terminal word_terminal
macro_held v m is more rest b =
    let begin = bare_word (codes "MACRO") in
    let params = params_tokens m.params in
    let ins = inputs_tokens formal_tokens m.ins in
    let outs = outputs_tokens formal_tokens m.outs in
    let body = body_tokens m.body in
    let named = begin ∷ bare_word m.name ∷ [] in
    let end = bare_symbol 59 ∷ (body ++ more) in
    let top : List Need = part (g.Macro v) 0 ∷ rest in
    let x0 = shift (named ++ params ++ ins ++ outs ++ semicolon) body more top b in
    let x1 = shift (named ++ params ++ ins ++ outs) semicolon (body ++ more) top x0 in
    let x2 = shift (named ++ params ++ ins) outs end top x1 in
    let x3 = shift (named ++ params) ins (outs ++ end) top x2 in
    let tail = params ++ (ins ++ (outs ++ end)) in
    let behind : List Need = mark token.Semicolon ∷ group (g.Statements v) 0 ∷ mark token.End ∷ mark
    token.Semicolon ∷ rest in
    let heads : List Need = mark token.OpenParenthesis ∷ group g.Formals 0 ∷ mark token.CloseParenthesis ∷
    part g.FormalOutputs 0 ∷ behind in
    let o = take_choice g.macro 0 begin (bare_word m.name ∷ tail) rest refl x3 in
    let x4 = take_item (bare_word m.name) tail token.Word (part g.Parameters 0 ∷ heads)
    (free_word m.name is.name.is_free) o.left in
    let one = params_held m.params is.params (ins ++ (outs ++ end)) heads
    (after_inputs formal_tokens g.Parameters m.ins (outs ++ end) refl) x4 in
    let two = formals_held m.ins is.ins (outs ++ end) (part g.FormalOutputs 0 ∷ behind) one.left in
    let three = formal_outputs_held m.outs is.outs end behind refl two.left in
    let x5 = take_mark (bare_symbol 59) (body ++ more) token.Semicolon
    (group (g.Statements v) 0 ∷ mark token.End ∷ mark token.Semicolon ∷ rest) refl three.left in
    let four = body_held v m.body is.body more rest x5 in
    record {
      holds = record {
        params = one.holds;
        ins = two.holds;
        outs = three.holds;
        body =
            four.holds;
      };
      left = four.left;
    }

macros_held : (v : Edition) (ms : List tree.Macro) → AllByRecursion (IsDrawnMacro v) ms →
    (more : List Bare) (rest : List Need) → choice (g.Macro v) (first_of more) ≡ None →
    LeftOver (flat_map macro_tokens ms ++ more) (group (g.Macros v) 0 ∷ rest) →
    Held (AllByRecursion IsShallowMacro ms) more rest
unfolding word_terminal
macros_held v [] is more rest none b = record {
  holds = tt;
  left =
      pass_group (g.Macros v) 0 (record { macros = []; heads = [] }) more rest none refl b;
}
macros_held v (m ∷ ms) is more rest none b =
    let tail = flat_map macro_tokens ms ++ more in
    let x = shift (macro_tokens m) (flat_map macro_tokens ms) more (group (g.Macros v) 0 ∷ rest) b in
    let i = into_leading (g.Macros v) 0 (macro_tokens m ++ tail) rest refl refl x in
    let one = macro_held v m is.0 tail (group (g.Macros v) 0 ∷ rest) i in
    let two = macros_held v ms is.1 more rest none one.left in
    record { holds = (one.holds, two.holds); left = two.left }

-- ---- the whole drawing

-- what a text needs after its header
abbrev behind_header : Edition → List Need
behind_header v = g.constants v (g.from_macros v)

-- the word SCALD
take_scald : (v : Edition) (bs : List Bare) → LeftOver (bare_word (codes "SCALD") ∷ bs) (whole v) →
    LeftOver bs (item token.Number ∷ mark token.Semicolon ∷ item token.Clock ∷ item token.Number ∷ keyword By ∷ item
    token.Number ∷ mark token.Semicolon ∷ part g.WireBounds 0 ∷ part g.PrecisionSkew 0 ∷ part g.ClockSkew 0 ∷ behind_header v)
unfolding word_terminal
take_scald First bs b = (take_choice (g.text {v = First}) 0 (bare_word (codes "SCALD")) bs [] refl b).left
take_scald Second bs b = (take_choice (g.text {v = Second}) 0 (bare_word (codes "SCALD")) bs [] refl b).left

-- two numbers after the first token of a statement of the header
pair_held : (a b : ℕ) (more : List Bare) (rest : List Need) →
    LeftOver (leaf.number a ∷ bare_symbol 58 ∷ leaf.number b ∷ bare_symbol 59 ∷ more)
    (g.bounds [] ++ rest) → LeftOver more rest
unfolding symbol_terminal
pair_held a b more rest x =
    let x1 = take_item (leaf.number a) (bare_symbol 58 ∷ leaf.number b ∷ bare_symbol 59 ∷ more)
    token.Number (mark token.Colon ∷ item token.Number ∷ mark token.Semicolon ∷ rest) refl x in
    let x2 = take_mark (bare_symbol 58) (leaf.number b ∷ bare_symbol 59 ∷ more) token.Colon
    (item token.Number ∷ mark token.Semicolon ∷ rest) refl x1 in
    let x3 = take_item (leaf.number b) (bare_symbol 59 ∷ more) token.Number (mark token.Semicolon ∷ rest)
    refl x2 in
    take_mark (bare_symbol 59) more token.Semicolon rest refl x3

header_held : (v : Edition) (version : ℕ) (h : Header) (more : List Bare) →
    LeftOver (header_tokens version h ++ more) (whole v) → LeftOver more (behind_header v)
unfolding symbol_terminal word_terminal
header_held v version h more x =
    let cskew = bare_word (codes "CSKEW") ∷ leaf.number h.cskew.0 ∷ bare_symbol 58 ∷ leaf.number
    h.cskew.1 ∷ bare_symbol 59 ∷ more in
    let pskew = bare_word (codes "PSKEW") ∷ leaf.number h.pskew.0 ∷ bare_symbol 58 ∷ leaf.number
    h.pskew.1 ∷ bare_symbol 59 ∷ cskew in
    let wire = bare_word (codes "WIRE") ∷ leaf.number h.wire.min ∷ bare_symbol 58 ∷ leaf.number
    h.wire.max ∷ bare_symbol 59 ∷ pskew in
    let end_clock = bare_symbol 59 ∷ wire in
    let ticks = leaf.number h.ticks ∷ end_clock in
    let by = bare_word (codes "x") ∷ ticks in
    let units = leaf.number h.units ∷ by in
    let clock = bare_word (codes "CLOCK") ∷ units in
    let skews : List Need = part g.PrecisionSkew 0 ∷ part g.ClockSkew 0 ∷ behind_header v in
    let after_clock : List Need = part g.WireBounds 0 ∷ skews in
    let o = take_scald v (leaf.number version ∷ bare_symbol 59 ∷ clock) x in
    let x1 = take_item (leaf.number version) (bare_symbol 59 ∷ clock) token.Number
    (mark token.Semicolon ∷ item token.Clock ∷ item token.Number ∷ keyword By ∷ item token.Number ∷ mark
    token.Semicolon ∷ after_clock) refl o in
    let x2 = take_mark (bare_symbol 59) clock token.Semicolon
    (item token.Clock ∷ item token.Number ∷ keyword By ∷ item token.Number ∷ mark token.Semicolon ∷
    after_clock) refl x1 in
    let x3 = take_item (bare_word (codes "CLOCK")) units token.Clock
    (item token.Number ∷ keyword By ∷ item token.Number ∷ mark token.Semicolon ∷ after_clock) refl x2 in
    let x4 = take_item (leaf.number h.units) by token.Number
    (keyword By ∷ item token.Number ∷ mark token.Semicolon ∷ after_clock) refl x3 in
    let x5 = take_keyword (bare_word (codes "x")) ticks By
    (item token.Number ∷ mark token.Semicolon ∷ after_clock) refl refl x4 in
    let x6 = take_item (leaf.number h.ticks) end_clock token.Number (mark token.Semicolon ∷ after_clock)
    refl x5 in
    let x7 = take_mark (bare_symbol 59) wire token.Semicolon after_clock refl x6 in
    let a = pair_held h.wire.min h.wire.max pskew skews (take_choice g.wire_bounds 0
    (bare_word (codes "WIRE")) (leaf.number h.wire.min ∷ bare_symbol 58 ∷ leaf.number h.wire.max
    ∷ bare_symbol 59 ∷ pskew) skews refl x7).left in
    let b = pair_held h.pskew.0 h.pskew.1 cskew (part g.ClockSkew 0 ∷ behind_header v)
    (take_choice g.precision_skew 0 (bare_word (codes "PSKEW"))
    (leaf.number h.pskew.0 ∷ bare_symbol 58 ∷ leaf.number h.pskew.1 ∷ bare_symbol 59 ∷ cskew)
    (part g.ClockSkew 0 ∷ behind_header v) refl a).left in
    pair_held h.cskew.0 h.cskew.1 more (behind_header v) (take_choice g.clock_skew 0
    (bare_word (codes "CSKEW")) (leaf.number h.cskew.0 ∷ bare_symbol 58 ∷ leaf.number h.cskew.1
    ∷ bare_symbol 59 ∷ more) (behind_header v) refl b).left

-- ---- constants

constant_held : (c : tree.Assignment) → IsDrawnAssignment c → (more : List Bare) (rest : List Need) →
    LeftOver (constant_tokens c ++ more) (part g.Constant 0 ∷ rest) → Held (IsShallowAssignment c) more rest
unfolding symbol_terminal word_terminal
constant_held c is more rest b =
    let begin = bare_word (codes "CONST") in
    let named = begin ∷ bare_word c.name ∷ bare_symbol 61 ∷ [] in
    let end = bare_symbol 59 ∷ more in
    let top : List Need = part g.Constant 0 ∷ rest in
    let x0 = shift (named ++ sum_tokens c.value) semicolon more top b in
    let x1 = shift named (sum_tokens c.value) end top x0 in
    let needs : List Need = fresh ∷ group g.Sum 0 ∷ mark token.Semicolon ∷ rest in
    let o = take_choice g.constant 0 begin (bare_word c.name ∷ bare_symbol 61 ∷ (sum_tokens c.value ++ end)) rest (refl, refl) x1 in
    let x2 = take_item (bare_word c.name) (bare_symbol 61 ∷ (sum_tokens c.value ++ end)) token.Word (mark token.Equals ∷ needs)
    (free_word c.name is.name.is_free) o.left in
    let x3 = take_mark (bare_symbol 61) (sum_tokens c.value ++ end) token.Equals needs refl x2 in
    let one = bound c.value is.value end (mark token.Semicolon ∷ rest) refl refl x3 in
    record { holds = one.holds; left = take_mark (bare_symbol 59) more token.Semicolon rest refl one.left }

constants_held : (cs : List tree.Assignment) → AllByRecursion IsDrawnAssignment cs → (more : List Bare) (rest : List Need) →
    choice g.Constant (first_of more) ≡ None → LeftOver (flat_map constant_tokens cs ++ more) (group g.Constants 0 ∷ rest) →
    Held (AllByRecursion IsShallowAssignment cs) more rest
unfolding word_terminal
constants_held [] is more rest none b = record {
  holds = tt;
  left = pass_group g.Constants 0 no_constants more rest none refl b;
}
constants_held (c ∷ cs) is more rest none b =
    let tail = flat_map constant_tokens cs ++ more in
    let needs : List Need = group g.Constants 0 ∷ rest in
    let x = shift (constant_tokens c) (flat_map constant_tokens cs) more needs b in
    let i = into_choice g.Constants 0 g.constant (bare_word (codes "CONST"))
    (bare_word c.name ∷ bare_symbol 61 ∷ ((sum_tokens c.value ++ semicolon) ++ tail)) rest (refl, refl) x in
    let one = constant_held c is.0 tail needs i in
    let two = constants_held cs is.1 more rest none one.left in
    record { holds = (one.holds, two.holds); left = two.left }

-- those of a text of a version
text_constants_held : (v : Edition) (cs : List tree.Assignment) → AllByRecursion IsDrawnAssignment cs → (v ≡ First → cs ≡ []) →
    (more : List Bare) (rest : List Need) → choice g.Constant (first_of more) ≡ None →
    LeftOver (flat_map constant_tokens cs ++ more) (g.constants v rest) → Held (AllByRecursion IsShallowAssignment cs) more rest
text_constants_held First [] is none more rest e b = record { holds = tt; left = b }
text_constants_held First (c ∷ cs) is none more rest e b = let k = none refl in absurd cc
text_constants_held Second cs is none more rest e b = constants_held cs is more rest e b

-- What stands after the constants begins none.
no_constant_there : (ms : List tree.Macro) (more : List Bare) → choice g.Constant (first_of more) ≡ None →
    choice g.Constant (first_of (flat_map macro_tokens ms ++ more)) ≡ None
unfolding word_terminal
no_constant_there [] more e = e
no_constant_there (m ∷ ms) more e = refl

pub drawing_held : (d : tree.Drawing) → IsDrawnDrawing d →
    LeftOver (drawing_tokens d ++ end_of_text) (whole (written_in d)) → IsShallowDrawing d
unfolding symbol_terminal word_terminal
drawing_held d is b =
    let v = written_in d in
    let all = whole v in
    let header = header_tokens d.version d.header in
    let consts = flat_map constant_tokens d.consts in
    let macros = flat_map macro_tokens d.macros in
    let title = bare_word (codes "DRAWING") ∷ bare_word d.name ∷ bare_symbol 59 ∷ [] in
    let body = body_tokens d.body in
    let cases = flat_map case_tokens d.cases in
    let end = cases ++ end_of_text in
    let titled = title ++ (body ++ end) in
    let x0 = shift (header ++ consts ++ macros ++ title ++ body) cases end_of_text all b in
    let x1 = shift (header ++ consts ++ macros ++ title) body end all x0 in
    let x2 = shift (header ++ consts ++ macros) title (body ++ end) all x1 in
    let x3 = shift (header ++ consts) macros titled all x2 in
    let x4 = shift header consts (macros ++ titled) all x3 in
    let x5 = header_held v d.version d.header (consts ++ (macros ++ titled)) x4 in
    let first = text_constants_held v d.consts is.consts is.no_consts (macros ++ titled) (g.from_macros v)
    (no_constant_there d.macros titled refl) x5 in
    let rest : List Need = group (g.Statements v) 0 ∷ mark token.End ∷ mark token.Semicolon ∷ group g.Cases 0
    ∷ mark token.EndOfText ∷ [] in
    let one = macros_held v d.macros is.macros titled
    (mark token.Drawing ∷ item token.Word ∷ mark token.Semicolon ∷ rest) refl first.left in
    let x6 = take_mark (bare_word (codes "DRAWING")) (bare_word d.name ∷ bare_symbol 59 ∷
    (body ++ end)) token.Drawing (item token.Word ∷ mark token.Semicolon ∷ rest) refl one.left in
    let x7 = take_item (bare_word d.name) (bare_symbol 59 ∷ (body ++ end)) token.Word
    (mark token.Semicolon ∷ rest) (free_word d.name is.name.is_free) x6 in
    let x8 = take_mark (bare_symbol 59) (body ++ end) token.Semicolon rest refl x7 in
    let two = body_held v d.body is.body end (group g.Cases 0 ∷ mark token.EndOfText ∷ []) x8 in
    record { consts = first.holds; macros = one.holds; body = two.holds }
