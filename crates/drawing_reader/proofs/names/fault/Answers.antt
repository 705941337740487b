use Rattle.std.proofs.Common.{subst}
use Rattle.assertion_syntax.specs.declared.fitting.NameFault.{NameFault}
use Rattle.assertion_syntax.specs.Faults.{IsFaultOf}
use Rattle.drawing_grammar.specs.Names.{no_formal, no_interval, overlapping}
use Rattle.drawing_reader.proofs.names.fault.Goals as goal

pub returns-then-not-may_stand : goal.returns-then-not-may_stand
returns-then-not-may_stand c = no_formal (λ h. let k = c.may_stand.ensures.1 h in let t = c.if-not-may_stand.true in cc)

pub returns-in-Err-BadName : goal.returns-in-Err-BadName
returns-in-Err-BadName c =
    let F : NameFault → Type 0 = λ e. IsFaultOf c.args.header.now c.args.name.now.spec e in
    no_interval (subst F c.in-Err-BadName.field-0-is c.in-Err-BadName.ensures)

pub returns-in-Err-EdgesOverlap : goal.returns-in-Err-EdgesOverlap
returns-in-Err-EdgesOverlap c =
    let F : NameFault → Type 0 = λ e. IsFaultOf c.args.header.now c.args.name.now.spec e in
    let found = subst F c.in-Err-EdgesOverlap.field-0-is c.in-Err-EdgesOverlap.ensures in
    overlapping (c.may_stand.ensures.0 c.if-not-may_stand.false) found.0 found.1
