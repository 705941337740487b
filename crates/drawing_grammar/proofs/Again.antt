-- The canonical text of a drawing draws it.
use Rattle.std.proofs.Common.{◌≡◌, ℕ, false, List, [], ◌∷◌, ◌++◌, ◌⊎◌, length, map, refl, sym, ap, ◌∙◌, subst}
use Rattle.std.specs.Prelude.{Ok}
use Rattle.scald_base.specs.Time.{Header, IsHeader}
use Rattle.scald_base.specs.declared.refusal.Place.{Place}
use Rattle.scald_lex.specs.declared.token.Token as lex
use Rattle.scald_lex.specs.Tokens.{AreTokens}
use Rattle.drawing_tree.specs.Tree as tree
use Rattle.drawing_tree.specs.WellFormed.{IsGoodName}
use Rattle.drawing_tree.specs.Places.{nowhere, unplaced_macro, unplaced_statements, unplaced_case, SameButPlaces}
use Rattle.drawing_tree.specs.Canonical.{canonical}
use Rattle.drawing_grammar.specs.declared.edition.Edition.{Edition}
use Rattle.drawing_grammar.specs.Edition.{edition_by, edition_of}
use Rattle.drawing_grammar.specs.Lexeme.{Lexeme, lexemes}
use Rattle.drawing_grammar.specs.Header.{natural, header_of, judged}
use Rattle.drawing_grammar.specs.Names.{Naming, names, names_from, AreGood}
use Rattle.drawing_grammar.specs.DoubleNames.{IsDistinct}
use Rattle.drawing_grammar.specs.Sketch.{Sketch}
use Rattle.drawing_grammar.specs.Written.{Written, spelling, weights, values, Within}
use Rattle.drawing_grammar.specs.Draws.{whole}
use Rattle.drawing_grammar.specs.Drawing.{drawing_of_sketch, declared_by}
use Rattle.drawing_grammar.specs.CanonicalDraws.{TextDraws, IsShallowDrawing, DrawsAgain, CanonicalDraws}
use Rattle.drawing_grammar.proofs.Cutting.{Bare}
use Rattle.drawing_grammar.proofs.CanonicalTokens.{drawing_tokens, end_of_text}
use Rattle.drawing_grammar.proofs.CanonicalText.{bare_at, canonical_has}
use Rattle.drawing_grammar.proofs.Drawable.{written_in, IsDrawnDrawing}
use Rattle.drawing_grammar.proofs.Heads.{names_of_text}
use Rattle.drawing_grammar.proofs.Formed.{judged_ok, sketch_proper, sketch_drawn}
use Rattle.drawing_grammar.proofs.Matching.{bare, Are}
use Rattle.drawing_grammar.proofs.Modest.{IsModestSketch, sketch_modest}
use Rattle.drawing_grammar.proofs.ProperTrees.{IsSketchOf}
use Rattle.drawing_grammar.proofs.Short.{drawing_short}
use Rattle.drawing_grammar.proofs.PhraseText.{IsShortDrawing, TextBuilt, text_built}
use Rattle.drawing_grammar.proofs.SameHeader.{header_may_be, judged_again, header_again}
use Rattle.drawing_grammar.proofs.Version.{named_version}
use Rattle.drawing_grammar.proofs.SameDeclared.{distinct_again}
use Rattle.drawing_grammar.proofs.SameNamesText.{text_names}

-- ---- tokens with and without their places

pub are_bare : (text : List ℕ) (tokens : List lex.Token) → map bare (lexemes text tokens) ≡ map (bare_at text) tokens
are_bare text [] = refl
are_bare text (t ∷ ts) = ap (λ (bs : List Bare). bare_at text t ∷ bs) (are_bare text ts)

-- the names of a text are those of its tokens
pub names_spelled : (v : Edition) (w : Written (whole v)) (ts : List Lexeme) → spelling w ≡ ts → names w ≡ names_from false ts
names_spelled v w ts e = names_of_text v w ∙ ap (λ (xs : List Lexeme). names_from false xs) e

unplaced_alike : (xs ys : List Place) → length xs ≡ length ys → map (λ place. nowhere) xs ≡ map (λ place. nowhere) ys
unplaced_alike [] [] e = refl
unplaced_alike [] (y ∷ ys) e = absurd cc
unplaced_alike (x ∷ xs) [] e = absurd cc
unplaced_alike (x ∷ xs) (y ∷ ys) e =
    let k : length xs ≡ length ys = cc in ap (λ (ps : List Place). nowhere ∷ ps) (unplaced_alike xs ys k)

drawing_same : (d e : tree.Drawing) → e.version ≡ d.version → e.header ≡ d.header → e.consts ≡ d.consts →
    map (λ place. nowhere) e.const_places ≡ map (λ place. nowhere) d.const_places → map unplaced_macro e.macros ≡ map unplaced_macro d.macros →
    e.name ≡ d.name → unplaced_statements e.body ≡ unplaced_statements d.body →
    map unplaced_case e.cases ≡ map unplaced_case d.cases → SameButPlaces d e
drawing_same d e a b i j c f g h = rw (a, b, i, j, c, f, g, h) refl

-- ---- the law of one text

-- what is known of a text that draws
record Known (v : Edition) (h : Header) (s : Sketch) : Type 0 where
  header : header_of s.header ≡ h
  version : (natural s.header.version ≡ 1) ⊎ (natural s.header.version ≡ 2)
  may_be : IsHeader h
  proper : IsSketchOf (λ n. IsGoodName h n) v s
  distinct : IsDistinct (declared_by s)

drawn_again : (v : Edition) (h : Header) (s : Sketch) → Known v h s → (text : List ℕ) (tokens : List lex.Token) → AreTokens text tokens →
    TextBuilt (edition_of (lexemes text tokens)) (drawing_of_sketch s) (lexemes text tokens) →
    AreGood h (names_from false (lexemes text tokens)) → (e : tree.Drawing) → e ≡ drawing_of_sketch s → DrawsAgain text e
drawn_again v h s known text tokens are built good e is =
    let ts = lexemes text tokens in
    let edition = edition_of ts in
    let d = drawing_of_sketch s in
    let w = built.written in
    let again = built.again in
    let found : Sketch = (values w).0 in
    let same : header_of found.header ≡ d.header = header_again found.header d.header (subst IsHeader (sym known.header) known.may_be) again.units again.ticks again.wire again.pskew again.cskew in
    let judged_so : judged found.header ≡ Ok d.header = judged_again found.header d.version d.header
    (subst IsHeader (sym known.header) known.may_be) known.version again.version again.units again.ticks again.wire again.pskew again.cskew in
    let to_h : h ≡ header_of found.header = sym (same ∙ known.header) in
    let N : List Naming → Type 0 = λ ns. AreGood h ns in
    let named : AreGood h (names w) = subst N (sym (names_spelled edition w ts built.spelled)) good in
    let H : Header → Type 0 = λ x. AreGood x (names w) in
    let W : List Lexeme → Type 0 = λ xs. Within xs (weights w 0) in
    let proper : IsSketchOf (λ n. IsGoodName h n) edition found = sketch_proper edition h text tokens w are built.spelled good in
    let D : tree.Drawing → Type 0 = λ x. DrawsAgain text x in
    subst D (sym is) (record {
      drawing = drawing_of_sketch found;
      draws = record {
        tokens = tokens;
        are = are;
        draws = record {
          written = w;
          text = record { spelled = built.spelled; within = subst W built.spelled built.fits };
          header = judged_so ∙ ap (λ (x : Header). Ok x) (sym same);
          names = subst H to_h named;
          distinct = distinct_again s.consts found.consts s.macros.macros found.macros.macros s.macros.heads found.macros.heads
              s.body found.body known.proper.consts proper.consts known.proper.macros.heads proper.macros.heads
              again.consts again.macros again.body known.distinct;
          stands = refl;
        };
      };
      same = drawing_same d (drawing_of_sketch found) (ap natural again.version) same again.consts
          (unplaced_alike found.consts.places s.consts.places (proper.consts.places
          ∙ (ap (λ (cs : List tree.Assignment). length cs) again.consts ∙ sym known.proper.consts.places))) again.macros again.name again.body again.cases;
    })

-- what holds of what a text stands for, if it draws
pub record IsDrawnSketch (h : Header) (s : Sketch) : Type 0 where
  pub header : judged s.header ≡ Ok h
  pub proper : IsSketchOf (λ n. IsGoodName h n) (edition_by s.header.version) s
  pub distinct : IsDistinct (declared_by s)
  pub modest : IsModestSketch s

pub drawn_sketch : (text : List ℕ) (d : tree.Drawing) (x : TextDraws text d) → IsDrawnSketch d.header (values x.draws.written).0
drawn_sketch text d x =
    let ts = lexemes text x.tokens in
    let draws = x.draws in
    let w = draws.written in
    let h = d.header in
    let v = edition_of ts in
    let N : List Naming → Type 0 = λ ns. AreGood h ns in
    let good : AreGood h (names_from false ts) = subst N (names_spelled v w ts draws.text.spelled) draws.names in
    let S : Edition → Type 0 = λ e. IsSketchOf (λ n. IsGoodName h n) e (values w).0 in
    let W : List Lexeme → Type 0 = λ xs. Within xs (weights w 0) in
    record {
      header = draws.header;
      proper = subst S (named_version v w ts draws.text.spelled) (sketch_proper v h text x.tokens w x.are draws.text.spelled good);
      distinct = draws.distinct;
      modest = sketch_modest v w (subst W (sym draws.text.spelled) draws.text.within);
    }

-- The canonical text of the drawing draws it, if that does not nest too deep.
pub sketch_draws : (h : Header) (s : Sketch) → IsDrawnSketch h s → (d : tree.Drawing) → drawing_of_sketch s ≡ d → IsShallowDrawing d → DrawsAgain (canonical d) d
sketch_draws h s is d stands shallow =
    let v = edition_by s.header.version in
    let said = judged_ok s.header h is.header in
    let may_be : IsHeader h = header_may_be s.header h is.header in
    let known : Known v h s = record { header = said.0; version = said.1; may_be = may_be; proper = is.proper; distinct = is.distinct } in
    let drawn : IsDrawnDrawing (drawing_of_sketch s) = sketch_drawn h s may_be is.header is.proper in
    let again_in = written_in (drawing_of_sketch s) in
    let short : IsShortDrawing again_in (drawing_of_sketch s) = drawing_short s drawn (subst IsShallowDrawing (sym stands) shallow) is.modest in
    let has = canonical_has d (subst IsDrawnDrawing stands drawn) in
    let us = lexemes (canonical d) has.tokens in
    let B : tree.Drawing → Type 0 = λ y. Are us (drawing_tokens y ++ end_of_text) in
    let bares : Are us (drawing_tokens (drawing_of_sketch s) ++ end_of_text) = subst B (sym stands) (are_bare (canonical d) has.tokens ∙ has.bare) in
    let built = text_built again_in (drawing_of_sketch s) short us bares in
    let edition : again_in ≡ edition_of us =
    ap edition_by (sym built.again.version) ∙ sym (named_version again_in built.written us built.spelled) in
    let T : Edition → Type 0 = λ e. TextBuilt e (drawing_of_sketch s) us in
    drawn_again v h s known (canonical d) has.tokens has.are (subst T edition built)
    (text_names v h (drawing_of_sketch s) is.proper.name is.proper.consts.constants is.proper.macros.macros is.proper.body is.proper.cases us bares) d (sym stands)

pub law : CanonicalDraws
law text d x shallow = sketch_draws d.header (values x.draws.written).0 (drawn_sketch text d x) d x.draws.stands shallow
