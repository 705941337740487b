-- Which drawing the tokens of a text draw, or why they draw none: the grammar comes first, then the
-- header, the names and the double names.
use Rattle.std.specs.Prelude.{◌≡◌, List, Ok, Err, ⊤}
use Rattle.scald_base.specs.Time.{Header}
use Rattle.scald_base.specs.declared.refusal.Refusal.{Refusal}
use Rattle.scald_base.specs.declared.refusal.Stop.{Stop}
use Rattle.scald_base.specs.declared.refusal.Stop.TheVariants.{Refused, NoMemory}
use Rattle.drawing_tree.specs.Tree as tree
use Rattle.drawing_grammar.specs.Lexeme.{Lexeme}
use Rattle.drawing_grammar.specs.Edition.{edition_of}
use Rattle.drawing_grammar.specs.Header.{natural, header_of, judged}
use Rattle.drawing_grammar.specs.Names.{names, AreGood, IsBadName}
use Rattle.drawing_grammar.specs.DoubleNames.{Declaration, declared, IsDistinct, IsDoubleName}
use Rattle.drawing_grammar.specs.Sketch.{Sketch}
use Rattle.drawing_grammar.specs.Written.{Written, spelling, weights, values, Within}
use Rattle.drawing_grammar.specs.Draws.{whole, IsRefused}

-- the drawing of a text whose numbers and names are well
abbrev pub drawing_of_sketch : Sketch → tree.Drawing
drawing_of_sketch s = record {
  version = natural s.header.version;
  header = header_of s.header;
  consts = s.consts.constants;
  const_places = s.consts.places;
  macros = s.macros.macros;
  name = s.name;
  body = s.body;
  cases = s.cases;
}

-- what it declares
abbrev pub declared_by : Sketch → List Declaration
declared_by s =
    declared s.consts.constants s.consts.name_places s.macros.macros s.macros.heads s.body

-- what is written by the version that the tokens name
abbrev pub WrittenBy : List Lexeme → Type 0
WrittenBy ts = Written (whole (edition_of ts))

-- what is written, within the limits
pub record IsText (ts : List Lexeme) (w : WrittenBy ts) : Type 0 where
  pub spelled : spelling w ≡ ts
  pub within : Within ts (weights w 0)

-- The tokens are a text whose header and names are good and that declares nothing twice, and this
-- is its drawing.
pub record Draws (ts : List Lexeme) (d : tree.Drawing) : Type 0 where
  pub written : WrittenBy ts
  pub text : IsText ts written
  pub header : judged (values written).0.header ≡ Ok d.header
  pub names : AreGood d.header (names written)
  pub distinct : IsDistinct (declared_by (values written).0)
  pub stands : drawing_of_sketch (values written).0 ≡ d

-- The first of these that is refused.
pub data IsWrong (ts : List Lexeme) (r : Refusal) : Type 0 where
  grammar : IsRefused ts r → IsWrong ts r
  header : (w : WrittenBy ts) → IsText ts w → judged (values w).0.header ≡ Err r → IsWrong ts r
  name : (w : WrittenBy ts) (h : Header) → IsText ts w → judged (values w).0.header ≡ Ok h →
      IsBadName h (names w) r → IsWrong ts r
  double : (w : WrittenBy ts) (h : Header) → IsText ts w → judged (values w).0.header ≡ Ok h →
      AreGood h (names w) → IsDoubleName (declared_by (values w).0) r → IsWrong ts r

abbrev pub IsWrongStop : List Lexeme → Stop → Type 0
IsWrongStop ts (Refused r) = IsWrong ts r
IsWrongStop ts NoMemory = ⊤
