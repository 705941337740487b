use Rattle.std.proofs.Common.{◌∙◌, ap, refl, sym, subst, Err}
use Rattle.scald_base.specs.Device.{ReadsPast}
use Rattle.program_call.specs.Call.{unrecognised, past, failed, no_room}
use Rattle.program_call.specs.Program.{are_reading}
use Rattle.program_call.proofs.call.asked.Goals as goal

pub returns-in-Err-clause-ended : goal.returns-in-Err-clause-ended
returns-in-Err-clause-ended g c = unrecognised c.in-Err.i (sym c.in-Err.ensures.is)

pub returns-in-Err-TooLong-clause-ended : goal.returns-in-Err-TooLong-clause-ended
returns-in-Err-TooLong-clause-ended g c =
    let m = g.P.Program.meaning in
    past (sym (ap (are_reading m.reads) c.in-Ok.ensures.is) ∙ c.in-Err-TooLong.ensures.asked refl)
    (subst (λ read. ReadsPast (g.S.Source.left c.args.source.now)
    (g.S.Source.left c.text_for.new.source) (m.most_bytes read)) c.in-Ok.ensures.is
    (c.in-Err-TooLong.ensures.too_long (ap Err c.in-Err-TooLong.field-0-is)))

pub returns-in-Err-ReadFault-clause-ended : goal.returns-in-Err-ReadFault-clause-ended
returns-in-Err-ReadFault-clause-ended g c =
    failed (sym (ap (are_reading g.P.Program.meaning.reads) c.in-Ok.ensures.is)
    ∙ c.in-Err-ReadFault.ensures.asked refl)
    (c.in-Err-ReadFault.ensures.fault (ap Err c.in-Err-ReadFault.field-0-is))

pub returns-in-Err-NoMemory-clause-ended : goal.returns-in-Err-NoMemory-clause-ended
returns-in-Err-NoMemory-clause-ended g c = no_room c.in-Ok.command (sym c.in-Ok.ensures.is)
