use Rattle.std.proofs.Common.{ap, sym, true, Err}
use Rattle.program_call.specs.Call.{failed, no_room, past, unrecognised}
use Rattle.program_call.specs.Program.{are_reading}
use Rattle.draw_report.specs.Words.{asking, asking_in, under_of}
use Rattle.draw_report.proofs.call.asked.Goals as goal

pub returns-in-Err-clause-ended : goal.returns-in-Err-clause-ended
returns-in-Err-clause-ended g c =
    unrecognised c.in-Err.i
    (ap (asking_in (under_of c.args.words.now)) (sym c.in-Err.ensures.is))

pub returns-in-Err-TooLong-clause-ended : goal.returns-in-Err-TooLong-clause-ended
returns-in-Err-TooLong-clause-ended g c =
    past (ap (λ r. are_reading (λ a. true) (asking_in (under_of c.args.words.now) r))
    (sym c.in-Ok.ensures.is))
    (c.in-Err-TooLong.ensures.too_long (ap Err c.in-Err-TooLong.field-0-is))

pub returns-in-Err-ReadFault-clause-ended : goal.returns-in-Err-ReadFault-clause-ended
returns-in-Err-ReadFault-clause-ended g c =
    failed (ap (λ r. are_reading (λ a. true) (asking_in (under_of c.args.words.now) r))
    (sym c.in-Ok.ensures.is))
    (c.in-Err-ReadFault.ensures.fault (ap Err c.in-Err-ReadFault.field-0-is))

pub returns-in-Err-NoMemory-clause-ended : goal.returns-in-Err-NoMemory-clause-ended
returns-in-Err-NoMemory-clause-ended g c =
    no_room (asking (under_of c.args.words.now) c.in-Ok.request)
    (ap (asking_in (under_of c.args.words.now)) (sym c.in-Ok.ensures.is))
