use Rattle.std.proofs.Common.{◌∙◌, List, length, map, subst, sym}
use Rattle.std.proofs.lemmas.List.{length-map}
use Rattle.section_compose.specs.Pieces.{piece_of}
use Rattle.std.specs.Prelude.{IfOk}
use Rattle.std.specs.List.{AllZip}
use Rattle.std.proofs.lemmas.Slice.Zip.{AllZip-long}
use Rattle.section_compose.specs.declared.section.Section.{Section}
use Rattle.section_compose.specs.declared.cut.Piece.{Piece}
use Rattle.section_compose.specs.Drawn.{DrawsSection}
use Rattle.section_compose.specs.declared.answer.End.TheVariants.{Refused as Refused_in}
use Rattle.section_compose.specs.declared.outcome.SectionsOutcome.TheVariants.{Clean, Refused}
use Rattle.section_compose.specs.Answer.{AreEnough, Concluded, Joined}
use Rattle.section_compose.specs.Promise.{NeverBreaksJoined}
use Rattle.section_compose.specs.Reading.{IsRefusedIn}
use Rattle.section_compose.proofs.Answered.{drawn_so, has_sections, never_so, refused_as, refused_so, wrong_count}
use Rattle.section_compose.proofs.Promised.{replied_clean}
use Rattle.section_compose.proofs.answer.answer.Goals as goal

pub returns-then-is_wrong-clause-is : goal.returns-then-is_wrong-clause-is
returns-then-is_wrong-clause-is c =
    let text = c.args.text.now in
    let pieces = c.in_ok-pieces.pieces in
    wrong_count text (map (piece_of text) pieces) c.in_ok-pieces.ensures.are c.len-count.result c.bad_count.result.outcome c.bad_count.result.bytes
    (c.len-count.ensures ∙ sym (length-map pieces (piece_of text))) c.if-is_wrong.ensures c.bad_count.ensures.outcome c.bad_count.ensures.bytes

pub returns-then-is_wrong-clause-clean : goal.returns-then-is_wrong-clause-clean
returns-then-is_wrong-clause-clean c clean = let is = c.bad_count.ensures.outcome in absurd (cc (is, clean))

pub returns-in-Err-Refused-clause-is : goal.returns-in-Err-Refused-clause-is
returns-in-Err-Refused-clause-is c =
    let text = c.args.text.now in
    let texts = map (piece_of text) c.in_ok-pieces.pieces in
    let end = c.in-Err-Refused in
    let enough : AreEnough (length texts) =
    subst AreEnough (c.len-count.ensures ∙ sym (length-map c.in_ok-pieces.pieces (piece_of text))) c.if-is_wrong.ensures in
    let refused : IsRefusedIn texts (Refused_in end.section end.refusal) =
    subst (IsRefusedIn texts) end.field-0-is
    (subst (λ (pieces : List Piece). IsRefusedIn (map (piece_of text) pieces) end.field-0) c.as_slice.ensures end.ensures.refused) in
    refused_as c.refused.result (λ reply. reply.outcome) (λ reply. reply.bytes) end.section _ end.refusal _ (Joined text) end.section-is end.refusal-is
    c.refused.ensures.outcome c.refused.ensures.bytes
    (refused_so text texts c.in_ok-pieces.ensures.are end.section end.refusal enough refused)

pub returns-in-Err-Refused-clause-clean : goal.returns-in-Err-Refused-clause-clean
returns-in-Err-Refused-clause-clean c =
    never_so c.refused.result (λ reply. reply.outcome) (Refused _ _) Clean (NeverBreaksJoined c.args.text.now) c.refused.ensures.outcome (λ same. cc)

pub joined-requires : goal.joined-requires
joined-requires c =
    let text = c.args.text.now in
    let texts = map (piece_of text) c.in_ok-pieces.pieces in
    let sections = c.in-Ok.sections in
    let enough : AreEnough (length texts) =
    subst AreEnough (c.len-count.ensures ∙ sym (length-map c.in_ok-pieces.pieces (piece_of text))) c.if-is_wrong.ensures in
    let drawn : AllZip DrawsSection texts sections =
    subst (λ (pieces : List Piece). AllZip DrawsSection (map (piece_of text) pieces) sections) c.as_slice.ensures c.in-Ok.ensures.drawn in
    subst (λ (xs : List Section). AreEnough (length xs)) (sym c.as_slice-in-Ok.ensures)
    (subst AreEnough (sym (AllZip-long DrawsSection texts sections drawn)) enough)

pub returns-in-Ok-clause-is : goal.returns-in-Ok-clause-is
returns-in-Ok-clause-is c =
    let text = c.args.text.now in
    let texts = map (piece_of text) c.in_ok-pieces.pieces in
    let sections = c.in-Ok.sections in
    let enough : AreEnough (length texts) =
    subst AreEnough (c.len-count.ensures ∙ sym (length-map c.in_ok-pieces.pieces (piece_of text))) c.if-is_wrong.ensures in
    let drawn : AllZip DrawsSection texts sections =
    subst (λ (pieces : List Piece). AllZip DrawsSection (map (piece_of text) pieces) sections) c.as_slice.ensures c.in-Ok.ensures.drawn in
    drawn_so text texts c.in_ok-pieces.ensures.are c.joined.result (λ reply. reply.outcome) (λ reply. reply.bytes) sections
    (has_sections text texts c.in_ok-pieces.ensures.are sections enough drawn)
    (subst (λ (xs : List Section). IfOk c.joined.result (λ reply. Concluded xs reply.outcome reply.bytes)) c.as_slice-in-Ok.ensures c.joined.ensures)

pub returns-in-Ok-clause-clean : goal.returns-in-Ok-clause-clean
returns-in-Ok-clause-clean c =
    let text = c.args.text.now in
    let texts = map (piece_of text) c.in_ok-pieces.pieces in
    let sections = c.in-Ok.sections in
    let enough : AreEnough (length texts) =
    subst AreEnough (c.len-count.ensures ∙ sym (length-map c.in_ok-pieces.pieces (piece_of text))) c.if-is_wrong.ensures in
    let drawn : AllZip DrawsSection texts sections =
    subst (λ (pieces : List Piece). AllZip DrawsSection (map (piece_of text) pieces) sections) c.as_slice.ensures c.in-Ok.ensures.drawn in
    replied_clean c.joined.result (λ reply. reply.outcome) (λ reply. reply.bytes) text sections
    (has_sections text texts c.in_ok-pieces.ensures.are sections enough drawn) c.in-Ok.ensures.timed
    (subst (λ (xs : List Section). IfOk c.joined.result (λ reply. Concluded xs reply.outcome reply.bytes)) c.as_slice-in-Ok.ensures c.joined.ensures)
