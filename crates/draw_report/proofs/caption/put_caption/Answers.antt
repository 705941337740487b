use Rattle.std.proofs.Common.{◌≡◌, ℕ, suc, ◌+◌, ◌*◌, ◌^◌, ◌<◌, ◌≤◌, List, [], ◌∷◌, ◌++◌, length, get_or, take, append_assoc, append-nil, arith, sym, ap, subst, ◌∙◌}
use Rattle.std.proofs.lemmas.List.{length-take-le, take_all, take_more}
use Rattle.std.proofs.lemmas.List.Elements.{All-get_or}
use Rattle.draw_report.specs.declared.paper.Paper.{Paper}
use Rattle.draw_report.specs.Paper.{Adds}
use Rattle.draw_report.specs.Element.{all_written}
use Rattle.draw_report.specs.Caption.{caption_nodes, line_nodes}
use Rattle.draw_report.proofs.Texts.{adds_same, adds_two, nodes_append}
use Rattle.draw_report.proofs.caption.put_caption.Goals as goal

lines_apart : (y : ℕ) (a b : List (List ℕ)) →
    caption_nodes y (a ++ b) ≡ caption_nodes y a ++ caption_nodes (y + 165 * length a) b
lines_apart y [] b = let e : y ≡ y + 165 * 0 = omega arith in ap (λ (n : ℕ). caption_nodes n b) e
lines_apart y (line ∷ a) b =
    let e : y + 165 + 165 * length a ≡ y + 165 * suc (length a) = omega arith in
    ap (λ l. line_nodes (y + 165) line ++ l) (lines_apart (y + 165) a b)
    ∙ sym (append_assoc (line_nodes (y + 165) line) (caption_nodes (y + 165) a)
    (caption_nodes (y + 165 + 165 * length a) b))
    ∙ ap (λ (n : ℕ). (line_nodes (y + 165) line ++ caption_nodes (y + 165) a) ++ caption_nodes n b)
    e

next_line : (top : ℕ) (lines : List (List ℕ)) (i y : ℕ) (line : List ℕ) → i < length lines →
    line ≡ get_or lines i line → y ≡ top + 165 * (i + 1) →
    caption_nodes top (take (i + 1) lines) ≡ caption_nodes top (take i lines) ++ line_nodes y line
next_line top lines i y line within is height =
    let long = length-take-le i lines (omega (arith, within)) in
    let e : top + 165 * length (take i lines) + 165 ≡ y = omega (arith, long, height) in
    ap (caption_nodes top) (take_more lines i line within)
    ∙ lines_apart top (take i lines) (get_or lines i line ∷ [])
    ∙ ap (λ l. caption_nodes top (take i lines) ++ l)
    (append-nil (line_nodes (top + 165 * length (take i lines) + 165) (get_or lines i line)))
    ∙ ap (λ (n : ℕ). caption_nodes top (take i lines) ++ line_nodes n (get_or lines i line)) e
    ∙ ap (λ (l : List ℕ). caption_nodes top (take i lines) ++ line_nodes y l) (sym is)

adds_line : (top : ℕ) (lines : List (List ℕ)) (i y : ℕ) (line : List ℕ)
    (old between new : Paper) → i < length lines → line ≡ get_or lines i line →
    y ≡ top + 165 * (i + 1) → Adds old between (all_written (caption_nodes top (take i lines))) →
    Adds between new (all_written (line_nodes y line)) →
    Adds old new (all_written (caption_nodes top (take (i + 1) lines)))
adds_line top lines i y line old between new within is height a b =
    adds_same old new
    (all_written (caption_nodes top (take i lines)) ++ all_written (line_nodes y line))
    (all_written (caption_nodes top (take (i + 1) lines)))
    (sym (ap all_written (next_line top lines i y line within is height)
    ∙ nodes_append (caption_nodes top (take i lines)) (line_nodes y line)))
    (adds_two old between new (all_written (caption_nodes top (take i lines)))
    (all_written (line_nodes y line)) a b)

pub overflow_add-y : goal.overflow_add-y
overflow_add-y c =
    let height = c.loop-line.invariant.height in
    let inside = c.loop-line-test.true in
    let few = c.requires.few in
    let near = c.requires.near in
    omega (arith, height, inside, few, near)

pub put_line-requires : goal.put_line-requires
put_line-requires c =
    subst (λ (line : List ℕ). length line ≤ 2 ^ 32) (sym (c.as_slice.ensures ∙ c.line-item.is))
    (All-get_or (λ (line : List ℕ). length line ≤ 2 ^ 32) c.args.lines.now c.loop-line.line-index
    _ c.loop-line-test.true c.requires.short)

pub loop-line-preserved : goal.loop-line-preserved
loop-line-preserved c =
    let height : c.loop-line.y + 165 ≡ c.args.top + 165 * (c.loop-line.line-index + 1) =
    omega arith in
    record {
      height = height;
      text = adds_line c.args.top c.args.lines.now c.loop-line.line-index (c.loop-line.y + 165)
          c.as_slice.result.now c.args.out.now c.loop-line.out c.put_line.new.out
          c.loop-line-test.true (c.as_slice.ensures ∙ c.line-item.is
          ∙ ap (get_or c.args.lines.now c.loop-line.line-index) (sym c.as_slice.ensures)) height
          c.loop-line.invariant.text c.put_line.ensures;
    }

pub returns : goal.returns
returns c =
    adds_same c.args.out.now c.loop-line.out
    (all_written (caption_nodes c.args.top (take c.loop-line.line-index c.args.lines.now)))
    (all_written (caption_nodes c.args.top c.args.lines.now))
    (ap (λ (ls : List (List ℕ)). all_written (caption_nodes c.args.top ls))
    (take_all c.loop-line.line-index c.args.lines.now c.loop-line-test.false))
    c.loop-line.invariant.text
