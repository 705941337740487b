-- Statements of a canonical text that is read are shallow.
use Rattle.std.proofs.Common.{◌≡◌, ℕ, suc, true, List, [], ◌∷◌, ◌++◌, Option, Some, None, refl, ap, subst, ◌∙◌, arith, append_assoc}
use Rattle.std.specs.Prelude.{codes, IfSome, is_some}
use Rattle.scald_base.specs.declared.refusal.Place.{Place}
use Rattle.drawing_tree.specs.Expression.{Expression}
use Rattle.assertion_syntax.specs.Name.{name_text}
use Rattle.drawing_tree.specs.Tree as tree
use Rattle.drawing_tree.specs.WellFormed.{IsFreeWord}
use Rattle.drawing_grammar.specs.declared.edition.Edition.{Edition}
use Rattle.drawing_grammar.specs.declared.edition.Edition.TheVariants.{Second}
use Rattle.drawing_grammar.specs.declared.terminal.Keyword.TheVariants.{To, Do}
use Rattle.drawing_grammar.specs.declared.terminal.Terminal.{Terminal}
use Rattle.drawing_grammar.specs.declared.terminal.Terminal.TheVariants as token
use Rattle.drawing_grammar.specs.CanonicalDraws.{IsShallow, IsShallowTest, IsShallowUse, IsShallowWire, IsShallowStatement, AreShallow, IsShallowOtherwise}
use Rattle.drawing_grammar.specs.Lexeme.{word_terminal, symbol_terminal}
use Rattle.drawing_grammar.specs.Grammar.{Need, mark, item, keyword, fresh, part, group}
use Rattle.drawing_grammar.specs.Grammar as g
use Rattle.drawing_grammar.specs.Machine.{choice}
use Rattle.drawing_grammar.specs.Sketch.{no_delays}
use Rattle.drawing_grammar.proofs.Cutting.{Bare}
use Rattle.drawing_grammar.proofs.Leaves as leaf
use Rattle.drawing_grammar.proofs.CanonicalTokens.{word, for_tokens, semicolon, colon, close_bracket, condition_tokens, sum_tokens, bounds_tokens, range_tokens, connection_tokens, inputs_tokens, outputs_tokens, params_tokens, fall_tokens, delay_tokens, use_tokens, wire_tokens, end_tokens, statement_tokens, statements_tokens, else_tokens, body_tokens}
use Rattle.drawing_grammar.proofs.Drawable.{IsDrawn, IsDrawnUse, IsDrawnWire, IsDrawnStatement, AreDrawn, IsDrawnOtherwise}
use Rattle.drawing_grammar.proofs.LeftOver.{LeftOver, first_of, take_mark, take_item, take_keyword, take_choice, pass_part, pass_fresh, pass_group, into_group, into_leading}
use Rattle.drawing_grammar.proofs.Matching.{free_word}
use Rattle.drawing_grammar.proofs.NestForms.{forms}
use Rattle.drawing_grammar.proofs.NestRange.{Held, shift, bound, bounds_held, no_range_first, range_held}
use Rattle.drawing_grammar.proofs.NestConnection.{inputs_held, outputs_held}
use Rattle.drawing_grammar.proofs.NestParameters.{params_held}
use Rattle.drawing_grammar.proofs.PhraseSteps.{bare_symbol}

abbrev pub bare_word : List ℕ → Bare
bare_word text = leaf.word text

-- ---- uses and wires

fall_factors : (fall : Option (Expression × Expression)) (more : List Bare) →
    choice g.Factors (first_of (fall_tokens fall ++ (bare_symbol 93 ∷ more))) ≡ None
unfolding symbol_terminal
fall_factors None more = refl
fall_factors (Some f) more = refl

fall_terms : (fall : Option (Expression × Expression)) (more : List Bare) →
    choice g.Terms (first_of (fall_tokens fall ++ (bare_symbol 93 ∷ more))) ≡ None
unfolding symbol_terminal
fall_terms None more = refl
fall_terms (Some f) more = refl

fall_held : (fall : Option (Expression × Expression)) →
    IfSome fall (λ f. IsDrawn f.0 × IsDrawn f.1) → (more : List Bare) (rest : List Need) →
    LeftOver (fall_tokens fall ++ (bare_symbol 93 ∷ more)) (part g.Fall 0 ∷ rest) →
    Held (IfSome fall (λ f. IsShallow f.0 × IsShallow f.1)) (bare_symbol 93 ∷ more) rest
unfolding symbol_terminal
fall_held None is more rest b = record {
  holds = tt;
  left =
      pass_part g.Fall 0 None (bare_symbol 93 ∷ more) rest refl refl b;
}
fall_held (Some f) is more rest b =
    let end = bare_symbol 93 ∷ more in
    let o = take_choice g.fall 0 (bare_symbol 44) (bounds_tokens f.0 f.1 ++ end) rest refl b in
    let r = bounds_held f.0 f.1 is.0 is.1 end rest refl refl o.left in
    record { holds = r.holds; left = r.left }

delay_held : (delay fall : Option (Expression × Expression)) →
    tree.EachDelay IsDrawn delay fall → (more : List Bare) (rest : List Need) →
    choice g.Delay (first_of more) ≡ None → LeftOver (delay_tokens delay fall ++ more)
    (part g.Delay 0 ∷ rest) → Held (tree.EachDelay IsShallow delay fall) more rest
unfolding symbol_terminal
delay_held None fall is more rest none b = record {
  holds = tt;
  left =
      pass_part g.Delay 0 no_delays more rest none refl b;
}
delay_held (Some d) fall is more rest none b =
    let inner = bounds_tokens d.0 d.1 in
    let behind = fall_tokens fall in
    let end = bare_symbol 93 ∷ more in
    let later : List Need = part g.Fall 0 ∷ mark token.CloseBracket ∷ rest in
    let needs : List Need = fresh ∷ group g.Sum 0 ∷ mark token.Colon ∷ fresh ∷ group g.Sum 0 ∷ later in
    let o = take_choice g.delay 0 (bare_symbol 91) (((inner ++ behind) ++ close_bracket) ++ more) rest
    refl b in
    let x = shift inner behind end needs (shift (inner ++ behind) close_bracket more needs o.left) in
    let one = bounds_held d.0 d.1 is.0.0 is.0.1 (behind ++ end) later (fall_factors fall more)
    (fall_terms fall more) x in
    let two = fall_held fall is.1 more (mark token.CloseBracket ∷ rest) one.left in
    record {
      holds = (one.holds, two.holds);
      left = take_mark (bare_symbol 93) more token.CloseBracket rest refl
          two.left;
    }

-- what may stand first after the kind of a use
after_params : (p : g.Part) (xs : List tree.Assignment) (more : List Bare) →
    choice p token.OpenBrace ≡ None → choice p (first_of more) ≡ None →
    choice p (first_of (params_tokens xs ++ more)) ≡ None
unfolding symbol_terminal
after_params p [] more e f = f
after_params p (a ∷ xs) more e f = e

pub after_inputs : {A : Type 0} (tokens : A → List Bare) (p : g.Part) (xs : List A) (more : List Bare) →
    choice p token.OpenParenthesis ≡ None → choice p (first_of (inputs_tokens tokens xs ++ more))
    ≡ None
unfolding symbol_terminal
after_inputs tokens p xs more e = e

use_held : (v : Edition) (u : tree.UseStatement) → IsDrawnUse u → (n : ℕ) (more : List Bare) (rest : List Need) →
    LeftOver (use_tokens u ++ more) (part (g.Statement v) n ∷ rest) → Held (IsShallowUse u) more rest
unfolding symbol_terminal
use_held v u is n more rest b =
    let delay = delay_tokens u.delay u.fall in
    let params = params_tokens u.params in
    let ins = inputs_tokens connection_tokens u.ins in
    let outs = outputs_tokens connection_tokens u.outs in
    let end = bare_symbol 59 ∷ more in
    let kinded = bare_word u.label ∷ bare_symbol 58 ∷ bare_word u.kind ∷ [] in
    let top : List Need = part (g.Statement v) n ∷ rest in
    let x0 = shift (kinded ++ delay ++ params ++ ins ++ outs) semicolon more top b in
    let x1 = shift (kinded ++ delay ++ params ++ ins) outs end top x0 in
    let x2 = shift (kinded ++ delay ++ params) ins (outs ++ end) top x1 in
    let x3 = shift (kinded ++ delay) params (ins ++ (outs ++ end)) top x2 in
    let tail = params ++ (ins ++ (outs ++ end)) in
    let details : List Need = part g.Delay 0 ∷ part g.Parameters 0 ∷ mark token.OpenParenthesis ∷ group
    g.Conns 0 ∷ mark token.CloseParenthesis ∷ part g.Outputs 0 ∷ mark token.Semicolon ∷ rest in
    let o = take_choice g.use_ n (bare_word u.label) (bare_symbol 58 ∷ bare_word u.kind ∷
    (delay ++ tail)) rest (free_word u.label is.label.is_free, refl) x3 in
    let x4 = take_mark (bare_symbol 58) (bare_word u.kind ∷ (delay ++ tail)) token.Colon
    (item token.Word ∷ details) refl o.left in
    let x5 = take_item (bare_word u.kind) (delay ++ tail) token.Word details
    (free_word u.kind is.kind.is_free) x4 in
    let later : List Need = mark token.OpenParenthesis ∷ group g.Conns 0 ∷ mark token.CloseParenthesis ∷
    part g.Outputs 0 ∷ mark token.Semicolon ∷ rest in
    let one = delay_held u.delay u.fall is.delays tail (part g.Parameters 0 ∷ later)
    (after_params g.Delay u.params (ins ++ (outs ++ end)) refl
    (after_inputs connection_tokens g.Delay u.ins (outs ++ end) refl)) x5 in
    let two = params_held u.params is.params (ins ++ (outs ++ end)) later
    (after_inputs connection_tokens g.Parameters u.ins (outs ++ end) refl) one.left in
    let three = inputs_held u.ins is.ins (outs ++ end) (part g.Outputs 0 ∷ mark token.Semicolon ∷ rest)
    two.left in
    let four = outputs_held u.outs is.outs end (mark token.Semicolon ∷ rest) refl three.left in
    record {
      holds = record {
        delays = one.holds;
        params = two.holds;
        ins = three.holds;
        outs =
            four.holds;
      };
      left = take_mark (bare_symbol 59) more token.Semicolon rest refl four.left;
    }

-- Bounds begin no range.
no_range_bound : (a b : Expression) → IsDrawn a → (more : List Bare) →
    choice g.Range (first_of (bounds_tokens a b ++ more)) ≡ None
no_range_bound a b is more =
    ap (λ (ts : List Bare). choice g.Range (first_of ts))
    (append_assoc (sum_tokens a ++ colon) (sum_tokens b) more
    ∙ append_assoc (sum_tokens a) colon (sum_tokens b ++ more))
    ∙ no_range_first a is (colon ++ (sum_tokens b ++ more))

wire_held : (v : Edition) (w : tree.WireStatement) → IsDrawnWire w → (n : ℕ) (more : List Bare)
    (rest : List Need) → LeftOver (wire_tokens w ++ more) (part (g.Statement v) n ∷ rest) →
    Held (IsShallowWire w) more rest
unfolding symbol_terminal word_terminal
wire_held v w is n more rest b =
    let begin = bare_word (codes "WIRE") in
    let named = leaf.name (name_text w.name) in
    let range = range_tokens w.range in
    let inner = bounds_tokens w.min w.max in
    let end = bare_symbol 59 ∷ more in
    let top : List Need = part (g.Statement v) n ∷ rest in
    let bounded : List Need = fresh ∷ group g.Sum 0 ∷ mark token.Colon ∷ fresh ∷ group g.Sum 0 ∷ mark
    token.Semicolon ∷ rest in
    let x0 = shift (begin ∷ named ∷ range ++ inner) semicolon more top b in
    let x1 = shift (begin ∷ named ∷ range) inner end top x0 in
    let o = take_choice g.wire n begin (named ∷ (range ++ (inner ++ end))) rest refl x1 in
    let x2 = take_item named (range ++ (inner ++ end)) token.Name (part g.Range 0 ∷ bounded) refl
    o.left in
    let one = range_held w.range is.range (inner ++ end) bounded
    (no_range_bound w.min w.max is.min end) x2 in
    let two = bounds_held w.min w.max is.min is.max end (mark token.Semicolon ∷ rest) refl refl
    one.left in
    record {
      holds = record { range = one.holds; min = two.holds.0; max = two.holds.1 };
      left = take_mark (bare_symbol 59) more token.Semicolon rest refl two.left;
    }

-- ---- statements

free_label : (u : tree.UseStatement) → IsDrawnUse u → word_terminal u.label ≡ token.Word
free_label u is = free_word u.label is.label.is_free

-- What stands after the statements of an IF begins none.
ends_statements : (v : Edition) (o : tree.Otherwise) (more : List Bare) →
    choice (g.Statement v) (first_of more) ≡ None →
    choice (g.Statement v) (first_of (else_tokens o ++ more)) ≡ None
unfolding else_tokens word_terminal
ends_statements v tree.no_else more none = none
ends_statements v (tree.else_ ss) more none = refl

-- A statement begins with a token by which it is known.
statement_starts : (v : Edition) (s : tree.Statement) → IsDrawnStatement v s → (more : List Bare) →
    is_some (choice (g.Statement v) (first_of (statement_tokens s ++ more))) ≡ true
unfolding statement_tokens word_terminal
statement_starts v (tree.Use u) is more = ap (λ (l : Terminal). is_some (choice (g.Statement v) l))
    (free_label u is)
statement_starts v (tree.Wire w) is more = refl
statement_starts v (tree.If test ss other place) is more = refl
statement_starts v (tree.For var first last ss place) is more = refl

end_held : (more : List Bare) (rest : List Need) → LeftOver (end_tokens ++ more)
    (mark token.End ∷ mark token.Semicolon ∷ rest) → LeftOver more rest
unfolding symbol_terminal word_terminal
end_held more rest b = take_mark (bare_symbol 59) more token.Semicolon rest refl
    (take_mark (bare_word (codes "END")) (bare_symbol 59 ∷ more) token.End (mark token.Semicolon ∷ rest)
    refl b)

condition_held : (x : Expression) → IsDrawn x → (more : List Bare) (rest : List Need) →
    LeftOver (condition_tokens x ++ (bare_word (codes "THEN") ∷ more))
    (fresh ∷ group g.Expr 0 ∷ mark token.Then ∷ rest) → Held (IsShallowTest x) more rest
unfolding word_terminal
condition_held x is more rest b =
    let end = bare_word (codes "THEN") ∷ more in
    let ts = condition_tokens x ++ end in
    let i = into_group g.Expr 0 ts (mark token.Then ∷ rest) refl
    (pass_fresh ts (group g.Expr 0 ∷ mark token.Then ∷ rest) b) in
    let r = (forms x is).whole.reads 0 (omega arith) end (mark token.Then ∷ rest)
    (record { factors = refl; terms = refl; comparison = refl }) i in
    let nests = r.nests in
    record {
      holds = omega arith;
      left = take_mark (bare_word (codes "THEN")) more token.Then rest refl
          r.left;
    }

-- a FOR, if its statements are held so
for_held : (var : List ℕ) (first last : Expression) (ss : tree.Statements) (place : Place) → IsFreeWord var →
    IsDrawn first → IsDrawn last →
    ((n : ℕ) (more : List Bare) (rest : List Need) → choice (g.Statement Second) (first_of more) ≡ None →
    LeftOver (statements_tokens ss ++ more) (group (g.Statements Second) n ∷ rest) → Held (AreShallow ss) more rest) →
    (n : ℕ) (more : List Bare) (rest : List Need) →
    LeftOver (statement_tokens (tree.For var first last ss place) ++ more) (part (g.Statement Second) n ∷ rest) →
    Held (IsShallowStatement (tree.For var first last ss place)) more rest
unfolding statement_tokens word_terminal symbol_terminal
for_held var first last ss place free low high held n more rest b =
    let begin = bare_word (codes "FOR") in
    let inside = statements_tokens ss in
    let end = end_tokens ++ more in
    let named = begin ∷ bare_word var ∷ bare_symbol 61 ∷ [] in
    let behind = bare_word (codes "DO") ∷ (inside ++ end) in
    let highs = sum_tokens last ++ behind in
    let to = bare_word (codes "TO") ∷ highs in
    let top : List Need = part (g.Statement Second) n ∷ rest in
    let x0 = shift (for_tokens var first last ++ inside) end_tokens more top b in
    let x1 = shift (for_tokens var first last) inside end top x0 in
    let x2 = shift (((named ++ sum_tokens first) ++ word (codes "TO")) ++ sum_tokens last) (word (codes "DO"))
    (inside ++ end) top x1 in
    let x3 = shift ((named ++ sum_tokens first) ++ word (codes "TO")) (sum_tokens last) behind top x2 in
    let x4 = shift (named ++ sum_tokens first) (word (codes "TO")) highs top x3 in
    let x5 = shift named (sum_tokens first) to top x4 in
    let after : List Need = mark token.End ∷ mark token.Semicolon ∷ rest in
    let body : List Need = group (g.Statements Second) (suc n) ∷ after in
    let second : List Need = fresh ∷ group g.Sum 0 ∷ keyword Do ∷ body in
    let one_needs : List Need = fresh ∷ group g.Sum 0 ∷ keyword To ∷ second in
    let o = take_choice g.for_ n begin (bare_word var ∷ bare_symbol 61 ∷ (sum_tokens first ++ to)) rest
    ((refl, refl), free_word var free.is_free) x5 in
    let x6 = take_item (bare_word var) (bare_symbol 61 ∷ (sum_tokens first ++ to)) token.Word (mark token.Equals ∷ one_needs)
    (free_word var free.is_free) o.left in
    let x7 = take_mark (bare_symbol 61) (sum_tokens first ++ to) token.Equals one_needs refl x6 in
    let one = bound first low to (keyword To ∷ second) refl refl x7 in
    let x8 = take_keyword (bare_word (codes "TO")) highs To second refl refl one.left in
    let two = bound last high behind (keyword Do ∷ body) refl refl x8 in
    let x9 = take_keyword (bare_word (codes "DO")) (inside ++ end) Do body refl refl two.left in
    let three = held (suc n) end after refl x9 in
    record { holds = (one.holds, two.holds, three.holds); left = end_held more rest three.left }

mutual
  unfolding statement_tokens statements_tokens else_tokens word_terminal symbol_terminal

  statement_held : (v : Edition) (s : tree.Statement) → IsDrawnStatement v s →
      (n : ℕ) (more : List Bare) (rest : List Need) → LeftOver (statement_tokens s ++ more)
      (part (g.Statement v) n ∷ rest) → Held (IsShallowStatement s) more rest
  statement_held v (tree.Use u) is n more rest b = let r = use_held v u is n more rest b in
      record { holds = r.holds; left = r.left }
  statement_held v (tree.Wire w) is n more rest b = let r = wire_held v w is n more rest b in
      record { holds = r.holds; left = r.left }
  statement_held v (tree.If test ss other place) is n more rest b =
      let begin = bare_word (codes "IF") in
      let condition = condition_tokens test in
      let behind_then = statements_tokens ss in
      let behind_else = else_tokens other in
      let end = end_tokens ++ more in
      let then_ = bare_word (codes "THEN") ∷ (behind_then ++ (behind_else ++ end)) in
      let top : List Need = part (g.Statement v) n ∷ rest in
      let x0 = shift (((begin ∷ condition) ++ word (codes "THEN")) ++ behind_then ++ behind_else)
      end_tokens more top b in
      let x1 = shift (((begin ∷ condition) ++ word (codes "THEN")) ++ behind_then) behind_else end
      top x0 in
      let x2 = shift ((begin ∷ condition) ++ word (codes "THEN")) behind_then (behind_else ++ end)
      top x1 in
      let x3 = shift (begin ∷ condition) (word (codes "THEN")) (behind_then ++ (behind_else ++ end))
      top x2 in
      let body : List Need = group (g.Statements v) (suc n) ∷ part (g.Otherwise v) (suc n) ∷ mark token.End ∷
      mark token.Semicolon ∷ rest in
      let o = take_choice g.if_ n begin (condition ++ then_) rest refl x3 in
      let one = condition_held test is.0 (behind_then ++ (behind_else ++ end)) body o.left in
      let two = statements_held v ss is.1 (suc n) (behind_else ++ end)
      (part (g.Otherwise v) (suc n) ∷ mark token.End ∷ mark token.Semicolon ∷ rest)
      (ends_statements v other end refl) one.left in
      let three = otherwise_held v other is.2 (suc n) more (mark token.End ∷ mark token.Semicolon ∷ rest)
      two.left in
      record { holds = (one.holds, two.holds, three.holds); left = end_held more rest three.left }
  statement_held v (tree.For var first last ss place) is n more rest b =
      let L : Edition → Type 0 = λ e. LeftOver (statement_tokens (tree.For var first last ss place) ++ more)
      (part (g.Statement e) n ∷ rest) in
      let D : Edition → Type 0 = λ e. AreDrawn e ss in
      let drawn : AreDrawn Second ss = subst D is.0 is.4 in
      for_held var first last ss place is.1 is.2 is.3 (λ m after needs none c. statements_held Second ss drawn m after needs none c)
      n more rest (subst L is.0 b)

  statements_held : (v : Edition) (ss : tree.Statements) → AreDrawn v ss →
      (n : ℕ) (more : List Bare) (rest : List Need) → choice (g.Statement v) (first_of more) ≡ None →
      LeftOver (statements_tokens ss ++ more) (group (g.Statements v) n ∷ rest) →
      Held (AreShallow ss) more rest
  statements_held v tree.nil is n more rest none b = record {
    holds = tt;
    left =
        pass_group (g.Statements v) n tree.nil more rest none refl b;
  }
  statements_held v (tree.cons s ss) is n more rest none b =
      let tail = statements_tokens ss ++ more in
      let x = shift (statement_tokens s) (statements_tokens ss) more (group (g.Statements v) n ∷ rest)
      b in
      let i = into_leading (g.Statements v) n (statement_tokens s ++ tail) rest refl
      (statement_starts v s is.0 tail) x in
      let one = statement_held v s is.0 n tail (group (g.Statements v) n ∷ rest) i in
      let two = statements_held v ss is.1 n more rest none one.left in
      record { holds = (one.holds, two.holds); left = two.left }

  otherwise_held : (v : Edition) (o : tree.Otherwise) → IsDrawnOtherwise v o →
      (n : ℕ) (more : List Bare) (rest : List Need) → LeftOver
      (else_tokens o ++ (end_tokens ++ more)) (part (g.Otherwise v) n ∷ rest) →
      Held (IsShallowOtherwise o) (end_tokens ++ more) rest
  otherwise_held v tree.no_else is n more rest b = record {
    holds = tt;
    left =
        pass_part (g.Otherwise v) n tree.no_else (end_tokens ++ more) rest refl refl b;
  }
  otherwise_held v (tree.else_ ss) is n more rest b =
      let o = take_choice g.else_ n (bare_word (codes "ELSE"))
      (statements_tokens ss ++ (end_tokens ++ more)) rest refl b in
      let r = statements_held v ss is n (end_tokens ++ more) rest refl o.left in
      record { holds = r.holds; left = r.left }

pub body_held : (v : Edition) (ss : tree.Statements) → AreDrawn v ss → (more : List Bare) (rest : List Need) →
    LeftOver (body_tokens ss ++ more) (group (g.Statements v) 0 ∷ mark token.End ∷ mark token.Semicolon ∷
    rest) → Held (AreShallow ss) more rest
unfolding word_terminal
body_held v ss is more rest b =
    let needs : List Need = group (g.Statements v) 0 ∷ mark token.End ∷ mark token.Semicolon ∷ rest in
    let r = statements_held v ss is 0 (end_tokens ++ more) (mark token.End ∷ mark token.Semicolon ∷ rest)
    refl (shift (statements_tokens ss) end_tokens more needs b) in
    record { holds = r.holds; left = end_held more rest r.left }
