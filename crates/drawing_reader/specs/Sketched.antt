-- What reading a text answers, against the grammar.
use Rattle.std.specs.Prelude.{◌≡◌, List, ◌∷◌, ◌++◌, map, Contains, Result, Ok, Err, ◌⊎◌, ⊤}
use Rattle.scald_base.specs.declared.refusal.Refusal.{Refusal}
use Rattle.scald_base.specs.declared.refusal.Stop.{Stop}
use Rattle.scald_base.specs.declared.refusal.Stop.TheVariants as stop
use Rattle.drawing_tree.specs.declared.drawing.Drawing as tree
use Rattle.drawing_tree.specs.Tree.{Drawing as Drawn, assignment_of, macro_of, statements_of, drawing_of}
use Rattle.drawing_reader.specs.declared.reader.Sketch as written
use Rattle.drawing_reader.specs.declared.constants.Constants.{Constants as WrittenConstants}
use Rattle.drawing_grammar.specs.declared.edition.Edition.{Edition}
use Rattle.drawing_grammar.specs.declared.edition.Edition.TheVariants.{First, Second}
use Rattle.drawing_grammar.specs.Edition.{edition_of}
use Rattle.drawing_grammar.specs.Lexeme.{Lexeme}
use Rattle.drawing_grammar.specs.declared.header.WrittenHeader.{WrittenHeader}
use Rattle.drawing_grammar.specs.Grammar.{Need, part, constants, from_macros, Text}
use Rattle.drawing_grammar.specs.Sketch.{Sketch, PlacedConstants, Values, sketch_from, front, behind, behind_constants}
use Rattle.drawing_grammar.specs.Sketch.{constants_of as placed_constants}
use Rattle.drawing_grammar.specs.Draws.{whole}
use Rattle.drawing_grammar.specs.Laws.{places_of}
use Rattle.drawing_grammar.specs.Machine.{Complete, verdict, Says}

abbrev pub constants_of : WrittenConstants → PlacedConstants
constants_of x = record {
  constants = map assignment_of x.consts;
  places = x.places;
  name_places = x.name_places;
}

abbrev pub sketch_of : written.Sketch → Sketch
sketch_of x = record {
  header = x.header;
  consts = constants_of x.constants;
  macros = record { macros = map macro_of x.macros; heads = x.heads };
  name = x.name;
  body = statements_of x.body.items;
  cases = x.cases;
}

-- what a text needs after its header, and what that stands for with the header
abbrev pub behind_header : Edition → List Need → List Need
behind_header e rest = constants e (from_macros e) ++ rest

abbrev pub headed : (e : Edition) (rest : List Need) → WrittenHeader →
    Values (behind_header e rest) → Values (part (Text e) 0 ∷ rest)
headed e rest header v =
    let inner = front (constants e (from_macros e)) rest v in (
      sketch_from e header (placed_constants e (from_macros e) inner)
          (behind_constants e (from_macros e) inner),
      behind (constants e (from_macros e)) rest v,
    )

-- the values of constants that were read, and of what follows them
abbrev pub with_constants : (e : Edition) (needs rest : List Need) → PlacedConstants →
    Values (needs ++ rest) → Values (constants e needs ++ rest)
with_constants First needs rest x v = v
with_constants Second needs rest x v = (x, v)

-- The answer is this, unless memory ran out.
abbrev pub GivesSketch : Sketch → Result written.Sketch Stop → Type 0
GivesSketch s (Ok found) = sketch_of found ≡ s
GivesSketch s (Err e) = e ≡ stop.NoMemory

-- The answer is the value of this drawing, unless memory ran out.
abbrev pub GivesDrawing : Drawn → Result tree.Drawing Stop → Type 0
GivesDrawing d (Ok found) = drawing_of found ≡ d
GivesDrawing d (Err e) = e ≡ stop.NoMemory

-- The answer is this refusal, unless memory ran out.
abbrev pub GivesRefusal : {A : Type 0} → Refusal → Result A Stop → Type 0
GivesRefusal r (Ok found) = ⊥
GivesRefusal r (Err e) = (e ≡ stop.Refused r) ⊎ (e ≡ stop.NoMemory)

-- A refusal has the place of one of these tokens.
abbrev pub IsStopAt : List Lexeme → Stop → Type 0
IsStopAt ts (stop.Refused r) = Contains (places_of ts) r.place
IsStopAt ts stop.NoMemory = ⊤

-- The answer is what the tokens say.
abbrev pub Answers : Result written.Sketch Stop → List Lexeme → Type 0
Answers (Ok found) ts = verdict ts (whole (edition_of ts)) 0 ≡ Complete (sketch_of found, tt)
Answers (Err e) ts = Says (verdict ts (whole (edition_of ts)) 0) e
