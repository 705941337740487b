-- From what is read to what is drawn.
use Rattle.std.proofs.Common.{◌≡◌, List, false, sym, ap, ◌∙◌, subst}
use Rattle.std.specs.Prelude.{Ok, Err}
use Rattle.scald_base.specs.Time.{Header}
use Rattle.scald_base.specs.declared.refusal.Refusal.{Refusal}
use Rattle.scald_base.specs.declared.refusal.Stop.{Stop}
use Rattle.scald_base.specs.declared.refusal.Stop.TheVariants.{Refused, NoMemory}
use Rattle.drawing_tree.specs.Tree as tree
use Rattle.drawing_grammar.specs.Lexeme.{Lexeme}
use Rattle.drawing_grammar.specs.Edition.{edition_of}
use Rattle.drawing_grammar.specs.Header.{natural, judged}
use Rattle.drawing_grammar.specs.Names.{Naming, names, names_from, AreGood, IsBadName, IsNameStop}
use Rattle.drawing_grammar.specs.DoubleNames.{IsDistinct, IsDoubleName, IsDoubleStop}
use Rattle.drawing_grammar.specs.Sketch.{Sketch}
use Rattle.drawing_grammar.specs.Draws.{IsStop}
use Rattle.drawing_grammar.specs.Draws.{Reads}
use Rattle.drawing_grammar.specs.Drawing.{drawing_of_sketch, declared_by, IsText, Draws, IsWrong, grammar, header, name, double, IsWrongStop}
use Rattle.drawing_grammar.proofs.Heads.{names_of_text}
use Rattle.drawing_grammar.proofs.Formed.{judged_ok}

text_of : (ts : List Lexeme) (s : Sketch) (r : Reads ts s) → IsText ts r.written
text_of ts s r = record { spelled = r.spelled; within = r.within }

-- the names of what is written are those of its tokens
names_are : (ts : List Lexeme) (s : Sketch) (r : Reads ts s) → names_from false ts ≡ names r.written
names_are ts s r = sym (names_of_text (edition_of ts) r.written ∙ ap (λ (xs : List Lexeme). names_from false xs) r.spelled)

pub stop_of_grammar : (ts : List Lexeme) (s : Stop) → IsStop ts s → IsWrongStop ts s
stop_of_grammar ts (Refused r) found = grammar found
stop_of_grammar ts NoMemory found = tt

pub header_wrong : (ts : List Lexeme) (s : Sketch) (r : Refusal) → Reads ts s → judged s.header ≡ Err r → IsWrong ts r
header_wrong ts s r reads e = header reads.written (text_of ts s reads) (ap (λ (x : Sketch). judged x.header) reads.stands ∙ e)

pub name_wrong : (ts : List Lexeme) (s : Sketch) (h : Header) (stop : Stop) → Reads ts s → judged s.header ≡ Ok h → IsNameStop h (names_from false ts) stop → IsWrongStop ts stop
name_wrong ts s h NoMemory reads e found = tt
name_wrong ts s h (Refused r) reads e found =
    let F : List Naming → Type 0 = λ ns. IsBadName h ns r in
    name reads.written h (text_of ts s reads) (ap (λ (x : Sketch). judged x.header) reads.stands ∙ e) (subst F (names_are ts s reads) found)

good_names : (ts : List Lexeme) (s : Sketch) (h : Header) (reads : Reads ts s) → AreGood h (names_from false ts) → AreGood h (names reads.written)
good_names ts s h reads good = let F : List Naming → Type 0 = λ ns. AreGood h ns in subst F (names_are ts s reads) good

pub double_wrong : (ts : List Lexeme) (s : Sketch) (h : Header) (stop : Stop) → Reads ts s →
    judged s.header ≡ Ok h → AreGood h (names_from false ts) → IsDoubleStop (declared_by s) stop → IsWrongStop ts stop
double_wrong ts s h NoMemory reads e good found = tt
double_wrong ts s h (Refused r) reads e good found =
    let F : Sketch → Type 0 = λ x. IsDoubleName (declared_by x) r in
    double reads.written h (text_of ts s reads) (ap (λ (x : Sketch). judged x.header) reads.stands ∙ e) (good_names ts s h reads good) (subst F (sym reads.stands) found)

-- all is good: the drawing has the header that was judged, and the version that is written
pub draws_it : (ts : List Lexeme) (s : Sketch) (h : Header) (d : tree.Drawing) → Reads ts s → judged s.header ≡ Ok h →
    AreGood h (names_from false ts) → IsDistinct (declared_by s) →
    d ≡ record {
      version = natural s.header.version;
      header = h;
      consts = s.consts.constants;
      const_places = s.consts.places;
      macros = s.macros.macros;
      name = s.name;
      body = s.body;
      cases = s.cases;
    } → Draws ts d
draws_it ts s h d reads e good distinct is =
    let said = judged_ok s.header h e in
    let F : Sketch → Type 0 = λ x. IsDistinct (declared_by x) in
    let one : drawing_of_sketch s ≡ d = let p = said.0 in cc in
    let D : tree.Drawing → Type 0 = λ x. Draws ts x in
    subst D (sym is) (record {
      written = reads.written;
      text = text_of ts s reads;
      header = ap (λ (x : Sketch). judged x.header) reads.stands ∙ e;
      names = good_names ts s h reads good;
      distinct = subst F (sym reads.stands) distinct;
      stands = ap drawing_of_sketch reads.stands ∙ (one ∙ is);
    })
