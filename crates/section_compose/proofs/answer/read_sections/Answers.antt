use Rattle.std.proofs.Common.{◌+◌, ◌<◌, ◌≤◌, length, get_or, refl, sym, subst, arith}
use Rattle.std.proofs.lemmas.List.Elements.{All-push}
use Rattle.std.proofs.lemmas.List.{get_or_default}
use Rattle.scald_base.specs.Time.{period}
use Rattle.section_compose.specs.declared.cut.Piece.{Piece}
use Rattle.section_compose.specs.declared.section.Section.{Section}
use Rattle.section_compose.specs.Drawn.{DrawsSection, IsSectionRefused}
use Rattle.section_compose.specs.Reading.{AreTimed}
use Rattle.section_compose.proofs.Read.{drawn_all, drawn_more, refused_at}
use Rattle.section_compose.proofs.answer.read_sections.Goals as goal

abbrev nowhere : Piece
nowhere = record { from = 0; to = 0 }

pub loop-s-preserved : goal.loop-s-preserved
loop-s-preserved c =
    let text = c.args.text.now in
    let pieces = c.args.pieces.now in
    let p = get_or pieces c.loop-s.s nowhere in
    let is = get_or_default pieces c.loop-s.s nowhere p c.loop-s-test.true in
    let x = c.in-Ok.section in
    record {
      drawn = drawn_more text pieces c.loop-s.s p c.loop-s.sections c.push.new.self x c.loop-s-test.true is c.loop-s.invariant.drawn
          (subst (λ bytes. DrawsSection bytes x) c.section_text.ensures c.in-Ok.ensures.drawn) c.in_ok-push-in-Ok.ensures.ok;
      timed = subst AreTimed (sym c.in_ok-push-in-Ok.ensures.ok)
          (All-push (λ (s : Section). 0 < period s.circuit.header) c.loop-s.sections x c.loop-s.invariant.timed c.in-Ok.ensures.timed);
    }

pub returns-clause-drawn : goal.returns-clause-drawn
returns-clause-drawn c =
    let past : length c.args.pieces.now ≤ c.loop-s.s = omega arith in
    drawn_all c.args.text.now c.args.pieces.now c.loop-s.s c.loop-s.sections past c.loop-s.invariant.drawn

pub returns-in-Err-Refused-clause-refused : goal.returns-in-Err-Refused-clause-refused
returns-in-Err-Refused-clause-refused c =
    let text = c.args.text.now in
    let pieces = c.args.pieces.now in
    let s = c.loop-s.s in
    let why = c.in-Err-Refused.refusal in
    let p = get_or pieces s nowhere in
    let is = get_or_default pieces s nowhere p c.loop-s-test.true in
    refused_at text pieces s (s + 1) p c.loop-s.sections why _ refl c.in-Err-Refused.refusal-is c.loop-s-test.true is c.loop-s.invariant.drawn
    (subst (λ bytes. IsSectionRefused bytes why) c.section_text.ensures (c.in-Err-Refused.ensures.refused why c.in-Err-Refused.field-0-is))
