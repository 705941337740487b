use Rattle.std.proofs.Common.{◌≡◌, length, rules, sym}
use Rattle.std.proofs.lemmas.Result.{on_ok_weaker}
use Rattle.run_clauses.specs.World.{fact_holds}
use Rattle.run_clauses.proofs.GateFacts.{is_and, is_buffer, is_mux2, is_mux4, is_mux8, is_or, is_parity}
use Rattle.run_clauses.proofs.gates.explain_own.Goals as goal

pub returns-in-Buf : goal.returns-in-Buf
returns-in-Buf c =
    let i = c.in-Some.i.now in
    on_ok_weaker c.add_buffer.result
    (λ adds values x printed w is before.
    adds (fact_holds c.args.c.now w)
    (is_buffer c.args.c.now w is.cut.is_run c.args.instance i (sym c.in-Some.ensures) c.args.tick
    c.in-Ok.pins
    c.in-Buf.is) before)
    c.add_buffer.ensures

pub returns-in-And : goal.returns-in-And
returns-in-And c =
    let i = c.in-Some.i.now in
    let counted : c.in-Ok.pins ≡ length i.pins = search rules in
    on_ok_weaker c.add_all.result
    (λ adds values x printed w is before.
    adds (fact_holds c.args.c.now w)
    (is_and c.args.c.now w is.cut.is_run c.args.instance i (sym c.in-Some.ensures) c.args.tick
    c.in-Ok.pins counted
    c.in-And.is) before)
    c.add_all.ensures

pub returns-in-Or : goal.returns-in-Or
returns-in-Or c =
    let i = c.in-Some.i.now in
    let counted : c.in-Ok.pins ≡ length i.pins = search rules in
    on_ok_weaker c.add_all-in-Or.result
    (λ adds values x printed w is before.
    adds (fact_holds c.args.c.now w)
    (is_or c.args.c.now w is.cut.is_run c.args.instance i (sym c.in-Some.ensures) c.args.tick
    c.in-Ok.pins counted
    c.in-Or.is) before)
    c.add_all-in-Or.ensures

pub returns-in-Xor : goal.returns-in-Xor
returns-in-Xor c =
    let i = c.in-Some.i.now in
    let counted : c.in-Ok.pins ≡ length i.pins = search rules in
    on_ok_weaker c.add_parity.result
    (λ adds values x printed w is before.
    adds (fact_holds c.args.c.now w)
    (is_parity c.args.c.now w is.cut.is_run c.args.instance i (sym c.in-Some.ensures) c.args.tick
    c.in-Ok.pins counted
    c.in-Xor.is) before)
    c.add_parity.ensures

pub returns-in-Mux2 : goal.returns-in-Mux2
returns-in-Mux2 c =
    let i = c.in-Some.i.now in
    let counted : c.in-Ok.pins ≡ length i.pins = search rules in
    on_ok_weaker c.add_choice.result
    (λ adds values x printed w is before.
    adds (fact_holds c.args.c.now w)
    (is_mux2 c.args.c.now w is.cut.is_run c.args.instance i (sym c.in-Some.ensures) c.args.tick
    c.in-Ok.pins counted
    c.in-Mux2.is) before)
    c.add_choice.ensures

pub returns-in-Mux4 : goal.returns-in-Mux4
returns-in-Mux4 c =
    let i = c.in-Some.i.now in
    let counted : c.in-Ok.pins ≡ length i.pins = search rules in
    on_ok_weaker c.add_choice-in-Mux4.result
    (λ adds values x printed w is before.
    adds (fact_holds c.args.c.now w)
    (is_mux4 c.args.c.now w is.cut.is_run c.args.instance i (sym c.in-Some.ensures) c.args.tick
    c.in-Ok.pins counted
    c.in-Mux4.is) before)
    c.add_choice-in-Mux4.ensures

pub returns-in-Mux8 : goal.returns-in-Mux8
returns-in-Mux8 c =
    let i = c.in-Some.i.now in
    let counted : c.in-Ok.pins ≡ length i.pins = search rules in
    on_ok_weaker c.add_choice-in-Mux8.result
    (λ adds values x printed w is before.
    adds (fact_holds c.args.c.now w)
    (is_mux8 c.args.c.now w is.cut.is_run c.args.instance i (sym c.in-Some.ensures) c.args.tick
    c.in-Ok.pins counted
    c.in-Mux8.is) before)
    c.add_choice-in-Mux8.ensures
