-- The version that a text names is the one by which it is written.
use Rattle.std.proofs.Common.{◌≡◌, List, [], ◌∷◌, ◌++◌, refl, sym, ap, ◌∙◌}
use Rattle.drawing_tree.specs.Tree as tree
use Rattle.drawing_grammar.specs.declared.edition.Edition.{Edition}
use Rattle.drawing_grammar.specs.declared.edition.Edition.TheVariants.{First, Second}
use Rattle.drawing_grammar.specs.Lexeme.{Lexeme}
use Rattle.drawing_grammar.specs.Edition.{edition_by, edition_of}
use Rattle.drawing_grammar.specs.Grammar as g
use Rattle.drawing_grammar.specs.Written.{Written, token, chosen, left_out, spelling, values}
use Rattle.drawing_grammar.specs.Draws.{whole}
use Rattle.drawing_grammar.proofs.Leaves as leaf
use Rattle.drawing_grammar.proofs.CanonicalTokens.{drawing_tokens, end_of_text}
use Rattle.drawing_grammar.proofs.Drawable.{written_in}
use Rattle.drawing_grammar.proofs.Matching.{bare, Are}
use Rattle.drawing_grammar.proofs.PhraseCase.{number_is}

spelled_version : (v : Edition) (w : Written (whole v)) → edition_of (spelling w) ≡ edition_by (values w).0.header.version
spelled_version First (chosen g.text t e (token u f w)) = refl
spelled_version Second (chosen g.text t e (token u f w)) = refl
spelled_version v (left_out o e w) = absurd cc

pub named_version : (v : Edition) (w : Written (whole v)) (ts : List Lexeme) → spelling w ≡ ts →
    edition_of ts ≡ edition_by (values w).0.header.version
named_version v w ts e = ap edition_of (sym e) ∙ spelled_version v w

-- So does the canonical text of a drawing, whose first two tokens are SCALD and the number.
pub bare_version : (d : tree.Drawing) (ts : List Lexeme) → Are ts (drawing_tokens d ++ end_of_text) → edition_of ts ≡ written_in d
bare_version d [] e = absurd cc
bare_version d (t ∷ []) e = absurd cc
bare_version d (t ∷ u ∷ ts) e =
    let is : bare u ≡ leaf.number d.version = cc in ap edition_by (number_is u d.version is)
