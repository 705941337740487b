-- Each refusal of a text has a place of the text.
use Rattle.scald_lex.specs.Place.{IsPlaceOf}
use Rattle.drawing_grammar.proofs.TextLaws.{refused_at_bytes, drawn_at_bytes}
use Rattle.macro_expander.proofs.Standing.{stop_at, cases_at}
use Rattle.timing_analysis.specs.Drawn.{undrawn, unexpanded, wrong_cases}
use Rattle.timing_analysis.specs.CircuitLaws.{RefusalsArePlaced}

pub refusals_are_placed : RefusalsArePlaced
refusals_are_placed text r (undrawn refused) = refused_at_bytes text r refused
refusals_are_placed text r (unexpanded d drawn stop) =
    stop_at (IsPlaceOf text) d r (drawn_at_bytes text d drawn) stop
refusals_are_placed text r (wrong_cases d c draws e) =
    cases_at (IsPlaceOf text) draws.circuit.state d r (drawn_at_bytes text d draws.drawn) e
