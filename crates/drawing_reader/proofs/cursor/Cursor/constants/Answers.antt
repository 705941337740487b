use Rattle.std.proofs.Common.{◌≡◌, ◌++◌, refl}
use Rattle.drawing_grammar.specs.Sketch.{no_constants}
use Rattle.drawing_reader.specs.Reader.{ahead}
use Rattle.drawing_reader.specs.Sketched.{constants_of}
use Rattle.drawing_grammar.proofs.Moves.{stays}
use Rattle.drawing_reader.proofs.Sketches.{none_first}
use Rattle.drawing_reader.proofs.cursor.Cursor.constants.Goals as goal

pub returns-in-First : goal.returns-in-First
returns-in-First c = rw (c.in-First.is, c.new-consts.ensures, c.new-places.ensures, c.new-name_places.ensures) (record {
  reads = λ needs rest. stays (ahead c.args.self.now (needs ++ rest));
  none = λ e. refl;
})

pub returns-in-Second : goal.returns-in-Second
returns-in-Second c = rw c.in-Second.is (record {
  reads = λ needs rest. c.some_constants.ensures.reads (needs ++ rest);
  none = none_first (λ x. constants_of x ≡ no_constants) _;
})
