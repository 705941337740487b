use Rattle.std.proofs.Common.{◌∙◌, ap, sym, arith, get_or}
use Rattle.scald_base.specs.declared.refusal.Place.{Place}
use Rattle.scald_lex.specs.Place.{next_place}
use Rattle.scald_lex.proofs.Places.{place_next, place_near}
use Rattle.netlist_import.proofs.offset.place_behind.Goals as goal

pub loop-byte-preserved : goal.loop-byte-preserved
loop-byte-preserved c =
    let front = c.args.front.now in
    let i = c.loop-byte.byte-index in
    c.place_behind_byte-place.ensures ∙ ap (λ (p : Place). next_place p (get_or front i 0))
    c.loop-byte.invariant ∙ sym (place_next front i c.loop-byte-test.true)

pub place_behind_byte-place-requires-clause-line : goal.place_behind_byte-place-requires-clause-line
place_behind_byte-place-requires-clause-line c =
    let here = ap (λ (p : Place). p.line) c.loop-byte.invariant in
    let near = (place_near c.args.front.now c.loop-byte.byte-index (omega arith)).line in
    omega arith

pub place_behind_byte-place-requires-clause-col : goal.place_behind_byte-place-requires-clause-col
place_behind_byte-place-requires-clause-col c =
    let here = ap (λ (p : Place). p.col) c.loop-byte.invariant in
    let near = (place_near c.args.front.now c.loop-byte.byte-index (omega arith)).col in
    omega arith
