use Rattle.std.proofs.Common.{◌≡◌, refl, subst}
use Rattle.scald_base.specs.declared.call_end.CallEnd.TheVariants.{ReadFault}
use Rattle.program_call.specs.Call.{devices, nothing_more}
use Rattle.program_call.proofs.Calling.{ended_asking, ended_making, ended_writing, replied_whole}
use Rattle.draw_report.specs.Answer.{Draws, draw_program}
use Rattle.draw_report.specs.Words.{asking, under_of}
use Rattle.draw_report.proofs.Lawful.{draw_program_lawful}
use Rattle.draw_report.proofs.call.draw_main.Goals as goal

pub returns-in-Err : goal.returns-in-Err
returns-in-Err g c =
    let d = devices g.S.Source.left g.S.Source.faults g.K.Sink.taken g.K.Sink.faults in
    ended_asking draw_program draw_program_lawful nothing_more c.args.words.now d
    c.args.source.now c.asked.new.source
    c.args.sink.now c.args.sink.now c.in-Err.end c.ended.result c.ended.ensures
    c.in-Err.ensures.ended c.in-Err.ensures.unread
    c.in-Err.ensures.front
    (λ other. c.in-Err.ensures.steady
    (λ e. other (let same : c.in-Err.end ≡ ReadFault = cc in same))) refl

pub returns-in-Err-draw : goal.returns-in-Err-draw
returns-in-Err-draw g c =
    let d = devices g.S.Source.left g.S.Source.faults g.K.Sink.taken g.K.Sink.faults in
    let asked = c.in-Ok.ensures in
    ended_making draw_program draw_program_lawful nothing_more c.args.words.now d
    c.args.source.now c.asked.new.source
    c.args.sink.now c.args.sink.now (asking (under_of c.args.words.now) c.in-Ok.asked.0)
    c.in-Ok.asked.1 asked.form (λ reads. asked.all) asked.short
    asked.unread asked.front
    (asked.steady (λ e. absurd (cc e))) c.ended-in-Err-draw.result c.ended-in-Err-draw.ensures
    refl

pub returns-in-Ok-write_to : goal.returns-in-Ok-write_to
returns-in-Ok-write_to g c =
    let d = devices g.S.Source.left g.S.Source.faults g.K.Sink.taken g.K.Sink.faults in
    let asked = c.in-Ok.ensures in
    let reply = c.in-Ok-draw.reply in
    replied_whole draw_program draw_program_lawful nothing_more c.args.words.now d
    c.args.source.now c.asked.new.source
    c.args.sink.now c.write_to.new.sink (asking (under_of c.args.words.now) c.in-Ok.asked.0)
    c.in-Ok.asked.1 asked.form (λ reads. asked.all)
    asked.short asked.unread asked.front
    (asked.steady (λ e. absurd (cc e))) c.as_slice.result.now reply.outcome
    reply.bytes reply.bytes
    c.as_slice.ensures
    (subst (λ under. Draws (asking under c.in-Ok.asked.0) c.as_slice.result.now reply.outcome
    reply.bytes) c.under_of.ensures c.in-Ok-draw.ensures)
    refl tt
    c.in-Ok-write_to.ensures.ok
    c.in-Ok-write_to.ensures.faults.steady

pub returns : goal.returns
returns g c =
    let d = devices g.S.Source.left g.S.Source.faults g.K.Sink.taken g.K.Sink.faults in
    let asked = c.in-Ok.ensures in
    let reply = c.in-Ok-draw.reply in
    ended_writing draw_program draw_program_lawful nothing_more c.args.words.now d
    c.args.source.now c.asked.new.source
    c.args.sink.now c.write_to.new.sink (asking (under_of c.args.words.now) c.in-Ok.asked.0)
    c.in-Ok.asked.1 asked.form (λ reads. asked.all)
    asked.short asked.unread asked.front
    (asked.steady (λ e. absurd (cc e))) c.as_slice.result.now reply.outcome
    reply.bytes reply.bytes
    c.as_slice.ensures
    (subst (λ under. Draws (asking under c.in-Ok.asked.0) c.as_slice.result.now reply.outcome
    reply.bytes) c.under_of.ensures c.in-Ok-draw.ensures)
    refl c.ended-in-Err-write_to.result
    c.ended-in-Err-write_to.ensures c.in-Err-write_to.ensures.err
    c.in-Err-write_to.ensures.faults.failed
