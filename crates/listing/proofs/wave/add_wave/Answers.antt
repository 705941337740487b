use Rattle.std.proofs.Common.{◌∙◌, ◌∷◌, [], refl}
use Rattle.std.proofs.lemmas.List.{get_or_default}
use Rattle.scald_base.proofs.Device.{at_err}
use Rattle.skew_algebra.specs.Wave.{skewed}
use Rattle.fixpoint_engine.specs.Waves.{waves_of}
use Rattle.listing.specs.Piece.{piece_text}
use Rattle.listing.specs.Run.{runs_text}
use Rattle.listing.specs.Wave.{wave_line}
use Rattle.listing.proofs.Parts.{three_first, three_second, three_ok, three_err}
use Rattle.listing.proofs.Waves.{before_runs, line_of}
use Rattle.listing.proofs.wave.add_wave.Goals as goal

pub returns-in_err-add_pieces-clause-err : goal.returns-in_err-add_pieces-clause-err
returns-in_err-add_pieces-clause-err g c =
    let found = c.at-found.result.now in
    at_err c.from_residual.result
    (three_first c.args.out.now c.add_pieces.new.out (before_runs (piece_text c.net_piece.result) c.from.result) (runs_text found.cells) (10 ∷ [])
    (wave_line c.args.c.now (waves_of c.args.waves.now) c.args.net)
    (line_of c.args.c.now c.args.waves.now c.args.net found (piece_text c.net_piece.result) c.from.result found.cells
    c.requires (c.at-found.ensures ∙ get_or_default c.args.waves.now c.args.net (skewed [] 0) found c.requires) c.net_piece.ensures (c.from.ensures ∙ c.skew.ensures) refl)
    c.in_err-add_pieces.ensures.err)

pub returns-in_err-add_runs-clause-err : goal.returns-in_err-add_runs-clause-err
returns-in_err-add_runs-clause-err g c =
    let found = c.at-found.result.now in
    let cells = g.W.CyclicWave.cells c.wave.result.now in
    at_err c.from_residual-in_err-add_runs.result
    (three_second c.args.out.now c.add_pieces.new.out c.add_runs.new.out (before_runs (piece_text c.net_piece.result) c.from.result) (runs_text cells) (10 ∷ [])
    (wave_line c.args.c.now (waves_of c.args.waves.now) c.args.net)
    (line_of c.args.c.now c.args.waves.now c.args.net found (piece_text c.net_piece.result) c.from.result cells
    c.requires (c.at-found.ensures ∙ get_or_default c.args.waves.now c.args.net (skewed [] 0) found c.requires) c.net_piece.ensures (c.from.ensures ∙ c.skew.ensures) c.wave.ensures)
    c.in_ok-add_pieces.ensures.ok c.in_err-add_runs.ensures.err)

pub returns-clause-ok : goal.returns-clause-ok
returns-clause-ok g c =
    let found = c.at-found.result.now in
    let cells = g.W.CyclicWave.cells c.wave.result.now in
    three_ok c.add_line.result c.args.out.now c.add_pieces.new.out c.add_runs.new.out c.add_line.new.out (before_runs (piece_text c.net_piece.result) c.from.result) (runs_text cells) (10 ∷ [])
    (wave_line c.args.c.now (waves_of c.args.waves.now) c.args.net)
    (line_of c.args.c.now c.args.waves.now c.args.net found (piece_text c.net_piece.result) c.from.result cells
    c.requires (c.at-found.ensures ∙ get_or_default c.args.waves.now c.args.net (skewed [] 0) found c.requires) c.net_piece.ensures (c.from.ensures ∙ c.skew.ensures) c.wave.ensures)
    c.in_ok-add_pieces.ensures.ok c.in_ok-add_runs.ensures.ok c.add_line.ensures.ok

pub returns-clause-err : goal.returns-clause-err
returns-clause-err g c =
    let found = c.at-found.result.now in
    let cells = g.W.CyclicWave.cells c.wave.result.now in
    three_err c.add_line.result c.args.out.now c.add_pieces.new.out c.add_runs.new.out c.add_line.new.out (before_runs (piece_text c.net_piece.result) c.from.result) (runs_text cells) (10 ∷ [])
    (wave_line c.args.c.now (waves_of c.args.waves.now) c.args.net)
    (line_of c.args.c.now c.args.waves.now c.args.net found (piece_text c.net_piece.result) c.from.result cells
    c.requires (c.at-found.ensures ∙ get_or_default c.args.waves.now c.args.net (skewed [] 0) found c.requires) c.net_piece.ensures (c.from.ensures ∙ c.skew.ensures) c.wave.ensures)
    c.in_ok-add_pieces.ensures.ok c.in_ok-add_runs.ensures.ok c.add_line.ensures.err
