use Rattle.std.proofs.Common.{◌≡◌, refl}
use Rattle.scald_base.specs.declared.call_end.CallEnd.TheVariants.{ReadFault}
use Rattle.program_call.specs.Call.{devices}
use Rattle.program_call.proofs.Calling.{ended_asking, ended_making, ended_writing, replied_whole}
use Rattle.program_call.proofs.call.main_call.Goals as goal

pub returns-in-Err : goal.returns-in-Err
returns-in-Err g c =
    let d = devices g.S.Source.left g.S.Source.faults g.K.Sink.taken g.K.Sink.faults in
    ended_asking g.P.Program.meaning c.laws.ensures g.P.Program.promised c.args.words.now d
    c.args.source.now c.asked.new.source
    c.args.sink.now c.args.sink.now c.in-Err.end c.ended.result c.ended.ensures
    c.in-Err.ensures.ended c.in-Err.ensures.unread
    c.in-Err.ensures.front
    (λ other. c.in-Err.ensures.steady
    (λ e. other (let same : c.in-Err.end ≡ ReadFault = cc in same))) refl

pub returns-in-Err-reply : goal.returns-in-Err-reply
returns-in-Err-reply g c =
    let d = devices g.S.Source.left g.S.Source.faults g.K.Sink.taken g.K.Sink.faults in
    let asked = c.in-Ok.ensures in
    ended_making g.P.Program.meaning c.laws.ensures g.P.Program.promised c.args.words.now d
    c.args.source.now c.asked.new.source
    c.args.sink.now c.args.sink.now c.in-Ok.asked.0 c.in-Ok.asked.1 asked.form asked.all asked.short
    asked.unread asked.front
    (asked.steady (λ e. absurd (cc e))) c.ended-in-Err-reply.result c.ended-in-Err-reply.ensures
    refl

pub returns-in-Ok-write_to : goal.returns-in-Ok-write_to
returns-in-Ok-write_to g c =
    let d = devices g.S.Source.left g.S.Source.faults g.K.Sink.taken g.K.Sink.faults in
    let asked = c.in-Ok.ensures in
    replied_whole g.P.Program.meaning c.laws.ensures g.P.Program.promised c.args.words.now d
    c.args.source.now c.asked.new.source
    c.args.sink.now c.write_to.new.sink c.in-Ok.asked.0 c.in-Ok.asked.1 asked.form asked.all
    asked.short asked.unread asked.front
    (asked.steady (λ e. absurd (cc e))) c.as_slice.result.now c.in-Ok-reply.reply.outcome
    c.in-Ok-reply.reply.bytes c.in-Ok-reply.reply.bytes
    c.as_slice.ensures c.in-Ok-reply.ensures.is refl c.in-Ok-reply.ensures.promised
    c.in-Ok-write_to.ensures.ok
    c.in-Ok-write_to.ensures.faults.steady

pub returns : goal.returns
returns g c =
    let d = devices g.S.Source.left g.S.Source.faults g.K.Sink.taken g.K.Sink.faults in
    let asked = c.in-Ok.ensures in
    ended_writing g.P.Program.meaning c.laws.ensures g.P.Program.promised c.args.words.now d
    c.args.source.now c.asked.new.source
    c.args.sink.now c.write_to.new.sink c.in-Ok.asked.0 c.in-Ok.asked.1 asked.form asked.all
    asked.short asked.unread asked.front
    (asked.steady (λ e. absurd (cc e))) c.as_slice.result.now c.in-Ok-reply.reply.outcome
    c.in-Ok-reply.reply.bytes c.in-Ok-reply.reply.bytes
    c.as_slice.ensures c.in-Ok-reply.ensures.is refl c.ended-in-Err-write_to.result
    c.ended-in-Err-write_to.ensures c.in-Err-write_to.ensures.err
    c.in-Err-write_to.ensures.faults.failed
