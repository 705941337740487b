-- Answers that are none: each clause on other answers refuses them.
use Rattle.std.proofs.Common.{Ok, Err, [], arith}
use Rattle.scald_base.specs.declared.refusal.Refusal.{Refusal}
use Rattle.scald_base.specs.declared.refusal.Stop.TheVariants.{Refused}
use Rattle.drawing_tree.specs.declared.drawing.Drawing as code
use Rattle.drawing_tree.specs.Tree.{Drawing}
use Rattle.drawing_reader.specs.Sketched.{GivesDrawing, GivesRefusal, IsStopAt}

refused_for_a_drawing : (d : Drawing) (r : Refusal) → GivesDrawing d (Err (Refused r)) → ⊥
refused_for_a_drawing d r h = cc

drawing_for_a_refusal : (found : code.Drawing) (r : Refusal) → GivesRefusal r (Ok found) → ⊥
drawing_for_a_refusal found r h = h

-- A refusal stands at a token.
refused_at_no_token : (r : Refusal) → IsStopAt [] (Refused r) → ⊥
refused_at_no_token r h = let below = h.1 in omega arith
