-- The phrase of a whole canonical text.
use Rattle.std.proofs.Common.{◌≡◌, ℕ, pos, List, [], ◌∷◌, ◌++◌, map, refl, sym, ap, subst, ◌∙◌, arith, append_assoc}
use Rattle.std.specs.Prelude.{codes}
use Rattle.std.specs.List.{flat_map, AllByRecursion}
use Rattle.scald_lex.specs.declared.token.TokenKind.TheVariants.{End}
use Rattle.drawing_tree.specs.Tree as tree
use Rattle.drawing_tree.specs.Places.{unplaced_statements, unplaced_macro, unplaced_case}
use Rattle.drawing_tree.specs.WellFormed.{IsFreeWord}
use Rattle.drawing_grammar.specs.declared.edition.Edition.{Edition}
use Rattle.drawing_grammar.specs.declared.edition.Edition.TheVariants.{First, Second}
use Rattle.drawing_grammar.specs.declared.terminal.Terminal.TheVariants as is
use Rattle.drawing_grammar.specs.Lexeme.{Lexeme, terminal, symbol_terminal, word_terminal, number_of}
use Rattle.drawing_grammar.specs.Grammar.{Need, mark, item, group, constants, from_macros, Statements, Cases}
use Rattle.drawing_grammar.specs.Grammar as g
use Rattle.drawing_grammar.specs.Sketch.{Sketch, Values, number_pair, constants_of, behind_constants}
use Rattle.drawing_grammar.specs.Written.{Written, nothing, marked, token, chosen, spelling, values}
use Rattle.drawing_grammar.specs.Draws.{whole}
use Rattle.drawing_grammar.proofs.Leaves as leaf
use Rattle.drawing_grammar.proofs.CanonicalTokens.{word, semicolon, macro_tokens, body_tokens, case_tokens, drawing_tokens, end_of_text}
use Rattle.drawing_grammar.proofs.Drawable.{IsDrawnCase}
use Rattle.drawing_grammar.proofs.Matching.{bare, Are, single, terminal_is, text_is, word_is_free}
use Rattle.drawing_grammar.proofs.DrawingParts.{drawing_parts}
use Rattle.drawing_grammar.proofs.PhraseSteps.{Fits, bare_symbol}
use Rattle.drawing_grammar.proofs.PhraseStatement.{AreShort}
use Rattle.drawing_grammar.proofs.PhraseMacro.{IsShortMacro, AreMacros, body_built, macros_built}
use Rattle.drawing_grammar.proofs.PhraseParameters.{IsShortAssignment}
use Rattle.drawing_grammar.proofs.PhraseConstant.{constants_of_text}
use Rattle.drawing_grammar.proofs.PhraseHeader.{next, none_left, IsPair, header_needs, header_built}
use Rattle.drawing_grammar.proofs.PhraseCase.{AreCases, cases_built}

-- ---- the whole text

pub record IsShortDrawing (v : Edition) (d : tree.Drawing) : Type 0 where
  pub name : IsFreeWord d.name
  pub consts : AllByRecursion IsShortAssignment d.consts
  pub no_consts : v ≡ First → d.consts ≡ []
  pub macros : AllByRecursion (IsShortMacro v) d.macros
  pub body : AreShort v 0 d.body
  pub cases : AllByRecursion IsDrawnCase d.cases

-- The text stands for this drawing, places aside.
pub record IsAgain (d : tree.Drawing) (s : Sketch) : Type 0 where
  pub version : s.header.version ≡ pos d.version
  pub units : s.header.clock.first ≡ pos d.header.units
  pub ticks : s.header.clock.second ≡ pos d.header.ticks
  pub wire : IsPair d.header.wire.min d.header.wire.max s.header.wire
  pub pskew : IsPair d.header.pskew.0 d.header.pskew.1 s.header.pskew
  pub cskew : IsPair d.header.cskew.0 d.header.cskew.1 s.header.cskew
  pub consts : s.consts.constants ≡ d.consts
  pub macros : AreMacros d.macros s.macros
  pub name : s.name ≡ d.name
  pub body : unplaced_statements s.body ≡ unplaced_statements d.body
  pub cases : AreCases d.cases s.cases

-- a text of this version
pub record TextBuilt (v : Edition) (d : tree.Drawing) (ts : List Lexeme) : Type 0 where
  pub written : Written (whole v)
  pub spelled : spelling written ≡ ts
  pub again : IsAgain d (values written).0
  pub fits : Fits written 0

record Title (name : List ℕ) (ts : List Lexeme) : Type 0 where
  begin : Lexeme
  named : Lexeme
  end : Lexeme
  whole : ts ≡ begin ∷ named ∷ end ∷ []
  is_begin : bare begin ≡ leaf.word (codes "DRAWING")
  is_named : bare named ≡ leaf.word name
  is_end : bare end ≡ bare_symbol 59

three_joined : (ts r0 r1 r2 : List Lexeme) (t0 t1 t2 : Lexeme) → ts ≡ t0 ∷ r0 → r0 ≡ t1 ∷ r1 → r1 ≡ t2 ∷ r2 → r2 ≡ [] → ts ≡ t0 ∷ t1 ∷ t2 ∷ []
three_joined ts r0 r1 r2 t0 t1 t2 a b c d = rw (a, b, c, d) refl

title : (name : List ℕ) (ts : List Lexeme) → Are ts (word (codes "DRAWING") ++ word name ++ semicolon) → Title name ts
title name ts are =
    let n0 = next ts (leaf.word (codes "DRAWING")) (leaf.word name ∷ bare_symbol 59 ∷ []) are in
    let n1 = next n0.rest (leaf.word name) (bare_symbol 59 ∷ []) n0.behind in
    let n2 = next n1.rest (bare_symbol 59) [] n1.behind in
    record {
      begin = n0.token;
      named = n1.token;
      end = n2.token;
      whole = three_joined ts n0.rest n1.rest n2.rest n0.token n1.token n2.token n0.whole n1.whole n2.whole (none_left n2.rest n2.behind);
      is_begin = n0.is;
      is_named = n1.is;
      is_end = n2.is;
    }

-- ---- from the macros on

abbrev end_needs : List Need
end_needs = mark is.EndOfText ∷ []

abbrev cases_needs : List Need
cases_needs = group Cases 0 ∷ end_needs

abbrev title_needs : Edition → List Need
title_needs v = mark is.Drawing ∷ item is.Word ∷ mark is.Semicolon ∷ group (Statements v) 0 ∷ mark is.End ∷ mark is.Semicolon ∷ cases_needs

record RestBuilt (v : Edition) (d : tree.Drawing) (macros : List Lexeme) (k n s : Lexeme) (body cases : List Lexeme) (z : Lexeme) : Type 0 where
  written : Written (from_macros v)
  spelled : spelling written ≡ macros ++ k ∷ n ∷ s ∷ (body ++ (cases ++ z ∷ []))
  is_macros : AreMacros d.macros (values written).0
  is_name : (values written).1.0.text ≡ d.name
  is_body : unplaced_statements (values written).1.1.0 ≡ unplaced_statements d.body
  is_cases : map unplaced_case (values written).1.1.1.0 ≡ map unplaced_case d.cases
  fits : (a : ℕ) → Fits written a

rest_built : (v : Edition) (d : tree.Drawing) → IsShortDrawing v d → (macros_are body_are cases_are : List Lexeme) (z : Lexeme)
    (name_are : List Lexeme) (t : Title d.name name_are) → Are macros_are (flat_map macro_tokens d.macros) →
    Are body_are (body_tokens d.body) → Are cases_are (flat_map case_tokens d.cases) → terminal z ≡ is.EndOfText →
    RestBuilt v d macros_are t.begin t.named t.end body_are cases_are z
unfolding symbol_terminal word_terminal
rest_built v d short macros_are body_are cases_are z name_are t a b c ends =
    let cases = cases_built d.cases short.cases cases_are c end_needs (marked z ends nothing) in
    let body = body_built v d.body short.body body_are b cases_needs cases.written in
    let t_begin : terminal t.begin ≡ is.Drawing = terminal_is t.begin (leaf.word (codes "DRAWING")) t.is_begin in
    let t_named : terminal t.named ≡ is.Word = word_is_free t.named d.name t.is_named short.name in
    let t_end : terminal t.end ≡ is.Semicolon = terminal_is t.end (bare_symbol 59) t.is_end in
    let titled : Written (title_needs v) = marked t.begin t_begin (token t.named t_named (marked t.end t_end body.written)) in
    let macros = macros_built v d.macros short.macros macros_are a (title_needs v) titled in
    let e1 : (values macros.written).1 ≡ values titled = macros.others in
    let e2 : (values macros.written).1.1.1 ≡ values cases.written = ap (λ (y : Values (title_needs v)). y.1.1) e1 ∙ body.others in
    record {
      written = macros.written;
      spelled = macros.spelled ∙ ap (λ (us : List Lexeme). macros_are ++ t.begin ∷ t.named ∷ t.end ∷ us)
          (body.spelled ∙ ap (λ (us : List Lexeme). body_are ++ us) cases.spelled);
      is_macros = macros.stands;
      is_name = ap (λ (y : Values (title_needs v)). y.0.text) e1 ∙ text_is t.named (leaf.word d.name) t.is_named;
      is_body = ap (λ (y : Values (title_needs v)). unplaced_statements y.1.0) e1 ∙ body.stands;
      is_cases = ap (λ (y : Values cases_needs). map unplaced_case y.0) e2 ∙ cases.stands;
      fits = λ i. macros.fits (λ l. (omega arith, (omega arith, (omega arith, body.fits (λ m. cases.fits (λ n. (omega arith, tt)) m) l)))) i;
    }

-- ---- the whole text

text_spelled : (ts z0 end z1 cases z2 body z3 title z4 macros header consts : List Lexeme) (k n s z : Lexeme) →
    ts ≡ z0 ++ end → z0 ≡ z1 ++ cases → z1 ≡ z2 ++ body → z2 ≡ z3 ++ title → z3 ≡ z4 ++ macros → z4 ≡ header ++ consts →
    title ≡ k ∷ n ∷ s ∷ [] → end ≡ z ∷ [] → header ++ (consts ++ (macros ++ k ∷ n ∷ s ∷ (body ++ (cases ++ z ∷ [])))) ≡ ts
text_spelled ts z0 end z1 cases z2 body z3 title z4 macros header consts k n s z a b c d e f h i =
    rw (a, b, c, d, e, f, h, i)
    (sym (append_assoc (header ++ consts ++ macros ++ k ∷ n ∷ s ∷ [] ++ body) cases (z ∷ [])
    ∙ (append_assoc (header ++ consts ++ macros ++ k ∷ n ∷ s ∷ []) body (cases ++ z ∷ [])
    ∙ (append_assoc (header ++ consts ++ macros) (k ∷ n ∷ s ∷ []) (body ++ (cases ++ z ∷ []))
    ∙ (append_assoc (header ++ consts) macros (k ∷ n ∷ s ∷ (body ++ (cases ++ z ∷ [])))
    ∙ append_assoc header consts (macros ++ k ∷ n ∷ s ∷ (body ++ (cases ++ z ∷ []))))))))

-- what is written, by the version: a text of version 1 has no place for constants
text_written : (v : Edition) (t : Lexeme) → terminal t ≡ is.Scald → Written (header_needs (constants v (from_macros v))) → Written (whole v)
text_written First t e w = chosen (g.text {v = First}) t e w
text_written Second t e w = chosen (g.text {v = Second}) t e w

text_spells : (v : Edition) (t : Lexeme) (e : terminal t ≡ is.Scald) (w : Written (header_needs (constants v (from_macros v)))) →
    spelling (text_written v t e w) ≡ t ∷ spelling w
unfolding text_written
text_spells First t e w = refl
text_spells Second t e w = refl

text_fits : (v : Edition) (t : Lexeme) (e : terminal t ≡ is.Scald) (w : Written (header_needs (constants v (from_macros v)))) →
    Fits w 0 → Fits (text_written v t e w) 0
unfolding text_written
text_fits First t e w f = (omega arith, f)
text_fits Second t e w f = (omega arith, f)

-- the sketch of these values
abbrev sketch_by : (v : Edition) → Lexeme → Values (header_needs (constants v (from_macros v))) → Sketch
sketch_by v t x =
    let consts = constants_of v (from_macros v) x.1.1.1.1.1.1.1 in
    let behind_consts = behind_constants v (from_macros v) x.1.1.1.1.1.1.1 in
    record {
      header = record {
        version = number_of x.0;
        place = t.place;
        clock = number_pair x.1.0 x.1.1.0 x.1.1.1.0;
        wire = x.1.1.1.1.0;
        pskew = x.1.1.1.1.1.0;
        cskew = x.1.1.1.1.1.1.0;
      };
      consts = consts;
      macros = behind_consts.0;
      name = behind_consts.1.0.text;
      body = behind_consts.1.1.0;
      cases = behind_consts.1.1.1.0;
    }

text_values : (v : Edition) (t : Lexeme) (e : terminal t ≡ is.Scald) (w : Written (header_needs (constants v (from_macros v)))) →
    (values (text_written v t e w)).0 ≡ sketch_by v t (values w)
unfolding text_written
text_values First t e w = refl
text_values Second t e w = refl

pub text_built : (v : Edition) (d : tree.Drawing) → IsShortDrawing v d → (ts : List Lexeme) → Are ts (drawing_tokens d ++ end_of_text) → TextBuilt v d ts
unfolding symbol_terminal word_terminal
text_built v d short ts are =
    let cut = drawing_parts d ts are in
    let a0 = cut.end in
    let a1 = cut.cases in
    let a2 = cut.body in
    let a3 = cut.title in
    let a4 = cut.macros in
    let a5 = cut.consts in
    let t = title d.name a3.second a3.back in
    let z = single a0.second (record { kind = End; text = [] }) a0.back in
    let ends : terminal z.token ≡ is.EndOfText = terminal_is z.token (record { kind = End; text = [] }) z.is in
    let rest = rest_built v d short a4.second a2.second a1.second z.token a3.second t a4.back a2.back a1.back ends in
    let consts = constants_of_text v d.consts short.consts short.no_consts a5.second a5.back (from_macros v) rest.written in
    let header = header_built d a5.first a5.front (constants v (from_macros v)) consts.written in
    let w = header.written in
    let n = from_macros v in
    let e1 : (values w).1.1.1.1.1.1.1 ≡ values consts.written = header.others in
    let e2 : behind_constants v n (values w).1.1.1.1.1.1.1 ≡ values rest.written =
    ap (λ (y : Values (constants v n)). behind_constants v n y) e1 ∙ consts.others in
    let A : Sketch → Type 0 = λ s. IsAgain d s in
    record {
      written = text_written v header.begin header.is_begin w;
      spelled = text_spells v header.begin header.is_begin w
          ∙ (header.spelled ∙ (ap (λ (us : List Lexeme). a5.first ++ us) (consts.spelled ∙ ap (λ (us : List Lexeme). a5.second ++ us) rest.spelled)
          ∙ text_spelled ts a0.first a0.second a1.first a1.second a2.first a2.second a3.first a3.second a4.first a4.second a5.first a5.second
          t.begin t.named t.end z.token a0.whole a1.whole a2.whole a3.whole a4.whole a5.whole t.whole z.whole));
      again = subst A (sym (text_values v header.begin header.is_begin w)) (record {
        version = header.version;
        units = header.units;
        ticks = header.ticks;
        wire = header.wire;
        pskew = header.pskew;
        cskew = header.cskew;
        consts = ap (λ (y : Values (constants v n)). (constants_of v n y).constants) e1 ∙ consts.stands;
        macros = ap (λ (y : Values n). map unplaced_macro y.0.macros) e2 ∙ rest.is_macros;
        name = ap (λ (y : Values n). y.1.0.text) e2 ∙ rest.is_name;
        body = ap (λ (y : Values n). unplaced_statements y.1.1.0) e2 ∙ rest.is_body;
        cases = ap (λ (y : Values n). map unplaced_case y.1.1.1.0) e2 ∙ rest.is_cases;
      });
      fits = text_fits v header.begin header.is_begin w (header.fits (λ a. consts.fits rest.fits a) 0);
    }
