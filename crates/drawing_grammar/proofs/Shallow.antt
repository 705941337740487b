-- A drawing whose canonical text draws one is shallow.
use Rattle.std.proofs.Common.{ℕ, false, List, ◌++◌, map, ap, ◌∙◌, subst}
use Rattle.scald_base.specs.Time.{IsHeader}
use Rattle.scald_lex.specs.declared.token.Token as lex
use Rattle.scald_lex.proofs.Unique.{one_list}
use Rattle.drawing_tree.specs.Tree as tree
use Rattle.drawing_tree.specs.WellFormed.{IsGoodName}
use Rattle.drawing_tree.specs.Canonical.{canonical}
use Rattle.drawing_grammar.specs.CanonicalDraws.{TextDraws}
use Rattle.drawing_grammar.specs.Draws.{whole}
use Rattle.drawing_grammar.specs.declared.edition.Edition.{Edition}
use Rattle.drawing_grammar.specs.Edition.{edition_of}
use Rattle.drawing_grammar.specs.Lexeme.{lexemes}
use Rattle.drawing_grammar.specs.Names.{Naming, names_from, AreGood}
use Rattle.drawing_grammar.specs.Sketch.{Sketch}
use Rattle.drawing_grammar.specs.TextLaws.{ShallowWhereDrawn}
use Rattle.drawing_grammar.specs.Written.{values}
use Rattle.drawing_grammar.proofs.Again.{are_bare, names_spelled}
use Rattle.drawing_grammar.proofs.CanonicalText.{bare_at, canonical_has}
use Rattle.drawing_grammar.proofs.Drawable.{IsDrawnDrawing}
use Rattle.drawing_grammar.proofs.Formed.{sketch_proper, sketch_drawn}
use Rattle.drawing_grammar.proofs.NestDrawing.{drawing_held}
use Rattle.drawing_grammar.proofs.Places.{complete}
use Rattle.drawing_grammar.proofs.ProperTrees.{IsSketchOf}
use Rattle.drawing_grammar.proofs.SameHeader.{header_may_be}
use Rattle.drawing_grammar.proofs.CanonicalTokens.{drawing_tokens, end_of_text}
use Rattle.drawing_grammar.proofs.LeftOver.{LeftOver}
use Rattle.drawing_grammar.proofs.Matching.{Are}
use Rattle.drawing_grammar.proofs.Version.{named_version, bare_version}
use Rattle.drawing_grammar.proofs.Whole.{chained_whole}

drawn_by : (text : List ℕ) (d : tree.Drawing) → TextDraws text d → IsDrawnDrawing d
drawn_by text d x =
    let ts = lexemes text x.tokens in
    let draws = x.draws in
    let w = draws.written in
    let s : Sketch = (values w).0 in
    let h = d.header in
    let v = edition_of ts in
    let S : Edition → Type 0 = λ e. IsSketchOf (λ n. IsGoodName h n) e s in
    let N : List Naming → Type 0 = λ ns. AreGood h ns in
    let good : AreGood h (names_from false ts) = subst N (names_spelled (edition_of ts) w ts draws.text.spelled)
    draws.names in
    let may_be : IsHeader h = header_may_be s.header h draws.header in
    let proper : IsSketchOf (λ n. IsGoodName h n) v s = sketch_proper v h text x.tokens w x.are
    draws.text.spelled good in
    subst IsDrawnDrawing draws.stands (sketch_drawn h s may_be draws.header
    (subst S (named_version v w ts draws.text.spelled) proper))

pub shallow_where_drawn : ShallowWhereDrawn
shallow_where_drawn text d e x y =
    let drawn = drawn_by text d x in
    let has = canonical_has d drawn in
    let same = one_list (canonical d) y.tokens has.tokens y.are has.are in
    let w = y.draws.written in
    let ts = lexemes (canonical d) y.tokens in
    let v = edition_of ts in
    let bares = drawing_tokens d ++ end_of_text in
    let are : Are ts bares =
    are_bare (canonical d) y.tokens ∙ (ap (λ (us : List lex.Token). map
    (bare_at (canonical d)) us) same ∙ has.bare) in
    let L : Edition → Type 0 = λ i. LeftOver bares (whole i) in
    drawing_held d drawn (subst L (bare_version d ts are) (record {
      tokens = ts;
      are = are;
      count = 0;
      values = values w;
      read = complete ts (whole v) 0 w (chained_whole v) y.draws.text.spelled y.draws.text.within;
    }))
