use Rattle.std.proofs.Common.{sym, refl}
use Rattle.drawing_reader.specs.Sketched.{sketch_of}
use Rattle.drawing_grammar.proofs.Drawn.{stop_of_grammar, header_wrong, name_wrong, double_wrong, draws_it}
use Rattle.drawing_grammar.proofs.Formed.{judged_ok}
use Rattle.drawing_reader.proofs.Slices.{wrong_of_few, good_of_few, double_of_slices, distinct_of_slices}
use Rattle.drawing_reader.proofs.drawing.judged_drawing.Goals as goal

pub returns-in-Err-read_sketch-clause-refused : goal.returns-in-Err-read_sketch-clause-refused
returns-in-Err-read_sketch-clause-refused c = stop_of_grammar _ _ c.in-Err-read_sketch.ensures.refused

pub returns-in-Err-judged_header-clause-refused : goal.returns-in-Err-judged_header-clause-refused
returns-in-Err-judged_header-clause-refused c = header_wrong _ (sketch_of c.in-Ok-read_sketch.sketch) _ c.in-Ok-read_sketch.ensures.found (sym c.in-Err-judged_header.ensures)

pub returns-in-Err-judged_names-clause-refused : goal.returns-in-Err-judged_names-clause-refused
returns-in-Err-judged_names-clause-refused c =
    name_wrong _ (sketch_of c.in-Ok-read_sketch.sketch) _ _ c.in-Ok-read_sketch.ensures.found (sym c.in-Ok-judged_header.ensures)
    (wrong_of_few _ _ _ _ _ _ _ c.as_slice-2.ensures c.as_slice.ensures c.in-Ok.ensures c.in-Err-judged_names.ensures)

pub returns-in-Err-distinct_names-clause-refused : goal.returns-in-Err-distinct_names-clause-refused
returns-in-Err-distinct_names-clause-refused c =
    double_wrong _ (sketch_of c.in-Ok-read_sketch.sketch) _ _ c.in-Ok-read_sketch.ensures.found (sym c.in-Ok-judged_header.ensures)
    (good_of_few _ _ _ _ _ _ c.as_slice-2.ensures c.as_slice.ensures c.in-Ok.ensures c.in_default.ensures)
    (double_of_slices _ _ _ _ _ _ _ _ c.as_slice-3.ensures c.as_slice-4.ensures.value c.in-Err-distinct_names.ensures)

pub returns-clause-drawn : goal.returns-clause-drawn
returns-clause-drawn c =
    let said = judged_ok (sketch_of c.in-Ok-read_sketch.sketch).header _ (sym c.in-Ok-judged_header.ensures) in
    draws_it _ (sketch_of c.in-Ok-read_sketch.sketch) _ _ c.in-Ok-read_sketch.ensures.found (sym c.in-Ok-judged_header.ensures)
    (good_of_few _ _ _ _ _ _ c.as_slice-2.ensures c.as_slice.ensures c.in-Ok.ensures c.in_default.ensures)
    (distinct_of_slices _ _ _ _ _ _ _ c.as_slice-3.ensures c.as_slice-4.ensures.value c.in_default-distinct_names.ensures) (rw (c.version_of.ensures said.1) refl)
