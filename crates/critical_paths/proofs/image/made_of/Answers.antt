use Rattle.std.proofs.Common.{refl, ◌∙◌}
use Rattle.step_values.specs.StepSet.{in_set}
use Rattle.element_kinds.specs.declared.kind.Kind.TheVariants.{And, Or, Xor, Mux4, Mux8, Reg, RegRs, Latch, LatchRs}
use Rattle.critical_paths.specs.Views.{choosing}
use Rattle.critical_paths.proofs.Making.{at_kind, at_size, met_and, met_or, met_xor}
use Rattle.critical_paths.proofs.image.made_of.Goals as goal

pub returns-in-And : goal.returns-in-And
returns-in-And c =
    let h = c.args.choice in
    let sets = choosing h.values.now h.pin h.step.before h.step.after in
    at_kind c.args.kind And sets (in_set c.met.result) c.in-And.is
    (λ b b'. c.met.ensures b b' ∙ met_and sets b b')

pub returns-in-Or : goal.returns-in-Or
returns-in-Or c =
    let h = c.args.choice in
    let sets = choosing h.values.now h.pin h.step.before h.step.after in
    at_kind c.args.kind Or sets (in_set c.met-in-Or.result) c.in-Or.is
    (λ b b'. c.met-in-Or.ensures b b' ∙ met_or sets b b')

pub returns-in-Xor : goal.returns-in-Xor
returns-in-Xor c =
    let h = c.args.choice in
    let sets = choosing h.values.now h.pin h.step.before h.step.after in
    at_kind c.args.kind Xor sets (in_set c.met-in-Xor.result) c.in-Xor.is
    (λ b b'. c.met-in-Xor.ensures b b' ∙ met_xor sets b b')

pub returns-in-Mux4 : goal.returns-in-Mux4
returns-in-Mux4 c =
    let h = c.args.choice in
    at_size c.args.kind Mux4 h.values.now h.pin h.step.before h.step.after 6
    (in_set c.of_four.result) c.in-Mux4.is c.requires refl c.of_four.ensures

pub returns-in-Mux8 : goal.returns-in-Mux8
returns-in-Mux8 c =
    let h = c.args.choice in
    at_size c.args.kind Mux8 h.values.now h.pin h.step.before h.step.after 11
    (in_set c.of_eight.result) c.in-Mux8.is c.requires refl c.of_eight.ensures

pub returns-in-Reg : goal.returns-in-Reg
returns-in-Reg c =
    let h = c.args.choice in
    at_size c.args.kind Reg h.values.now h.pin h.step.before h.step.after 2
    (in_set c.reg.result) c.in-Reg.is c.requires refl c.reg.ensures

pub returns-in-RegRs : goal.returns-in-RegRs
returns-in-RegRs c =
    let h = c.args.choice in
    at_size c.args.kind RegRs h.values.now h.pin h.step.before h.step.after 4
    (in_set c.reg_rs.result) c.in-RegRs.is c.requires refl c.reg_rs.ensures

pub returns-in-Latch : goal.returns-in-Latch
returns-in-Latch c =
    let h = c.args.choice in
    at_size c.args.kind Latch h.values.now h.pin h.step.before h.step.after 2
    (in_set c.latch.result) c.in-Latch.is c.requires refl c.latch.ensures

pub returns-in-LatchRs : goal.returns-in-LatchRs
returns-in-LatchRs c =
    let h = c.args.choice in
    at_size c.args.kind LatchRs h.values.now h.pin h.step.before h.step.after 4
    (in_set c.latch_rs.result) c.in-LatchRs.is c.requires refl c.latch_rs.ensures
