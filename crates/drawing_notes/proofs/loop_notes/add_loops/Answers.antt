use Rattle.std.proofs.Common.{◌≡◌, ◌<◌, ◌+◌, ℕ, Bool, true, List, [], ◌∷◌, length, codes, decimal, sym, ap, subst, ◌∙◌, arith}
use Rattle.std.specs.List.{flat_map, range_with_len}
use Rattle.std.proofs.lemmas.List.{get_or_read, length-set}
use Rattle.flat_circuit.specs.Name.{net_at}
use Rattle.flat_circuit.proofs.Numbered.{order_long}
use Rattle.fixpoint_engine.specs.Settled.{marked_in}
use Rattle.listing.specs.Names.{net_text}
use Rattle.listing.specs.Text.{line}
use Rattle.drawing_notes.specs.Loops.{loop_at, loop_line}
use Rattle.drawing_notes.specs.Parts.{nets_on, part_at, together}
use Rattle.drawing_omissions.specs.Lines.{Lines, Adds}
use Rattle.drawing_omissions.proofs.Adding.{adds_none, adds_number, adds_numbers}
use Rattle.drawing_notes.proofs.Telling.{loop_again, loop_first, loop_none, tells_again, tells_first, tells_none}
use Rattle.drawing_notes.proofs.loop_notes.add_loops.Goals as goal
use Rattle.drawing_notes.proofs.loop_notes.add_loops.Goals.{in-Some+then-not-has+in_ok-add, in-Some+else-not-has, in_default}

pub loop-place-preserved : goal.loop-place-preserved
unfolding loop_line
loop-place-preserved c =
    let circuit = c.args.c.now in
    let parts = c.args.parts.now in
    let place = c.loop-place.place in
    let long = order_long circuit.nets circuit.order c.known.ensures.by_name in
    let within : place < length circuit.order = omega (arith, long, c.net_count-place-end.ensures, c.loop-place-test.true) in
    elim c.match-part_at.branch [
      | in-Some+then-not-has+in_ok-add w ↦
          let root = w.in-Some.root in
          let part = ap (part_at parts) (sym c.net_at-net.ensures) ∙ sym c.part_at.ensures ∙ w.in-Some.is in
          let unnoted = sym (c.loop-place.invariant.noted root) ∙ sym w.has.ensures ∙ w.if-not-has.true in
          let inside = c.requires.inside (net_at circuit.order place) root part in
          let below : root < length c.in_ok-sizes.sizes.items = omega (arith, inside, c.in_ok-sizes.ensures.long, c.requires.each_net) in
          let name = w.net_piece.ensures ∙ ap (net_text circuit) c.net_at-net.ensures in
          let size = w.from.ensures ∙ get_or_read c.in_ok-sizes.sizes.items root w.index.result.now below w.index.ensures 0
          ∙ c.in_ok-sizes.ensures.are root below ∙ ap (λ n. nets_on n parts root) c.requires.each_net in
          let told_so = ap (λ (t : List ℕ). line (codes "NOTE LOOP " ∷ t ∷ codes " NETS " ∷ decimal w.from.result ∷ []) ∷ []) name
          ∙ ap (λ n. line (codes "NOTE LOOP " ∷ net_text circuit (net_at circuit.order place) ∷ codes " NETS " ∷ decimal n ∷ []) ∷ []) size
          ∙ sym (loop_first circuit parts place root part unnoted) in
          record {
            each_net = ap length (w.noted-is ∙ w.add.ensures) ∙ length-set c.loop-place.noted root true ∙ c.loop-place.invariant.each_net;
            adds = subst (λ (t : Lines). Adds c.args.notes.now t
                (flat_map (loop_at circuit (together parts)) (range_with_len 0 (place + 1))))
                (sym w.notes-is)
                (adds_number (loop_at circuit (together parts)) place c.args.notes.now c.loop-place.notes w.add-then-not-has.new.self c.loop-place.invariant.adds
                (subst (Adds c.loop-place.notes w.add-then-not-has.new.self) told_so w.in_ok-add.ensures));
            noted = tells_first circuit.order parts place within c.loop-place.noted c.match-part_at.noted root part
                (let each = c.loop-place.invariant.each_net in omega (arith, inside, each)) (w.noted-is ∙ w.add.ensures) c.loop-place.invariant.noted;
          }
      | in-Some+else-not-has w ↦
          let root = w.in-Some.root in
          let part = ap (part_at parts) (sym c.net_at-net.ensures) ∙ sym c.part_at.ensures ∙ w.in-Some.is in
          let marked = sym w.has.ensures ∙ w.if-not-has.false in
          let again = loop_again circuit parts place root part (sym (c.loop-place.invariant.noted root) ∙ marked) in
          record {
            each_net = ap length w.noted-is ∙ c.loop-place.invariant.each_net;
            adds = subst (λ (t : Lines). Adds c.args.notes.now t
                (flat_map (loop_at circuit (together parts)) (range_with_len 0 (place + 1))))
                (sym w.notes-is)
                (adds_number (loop_at circuit (together parts)) place c.args.notes.now c.loop-place.notes c.loop-place.notes c.loop-place.invariant.adds
                (subst (Adds c.loop-place.notes c.loop-place.notes) (sym again) (adds_none c.loop-place.notes)));
            noted = λ r. ap (λ (ms : List Bool). marked_in ms r) w.noted-is
                ∙ tells_again circuit.order parts place within c.loop-place.noted root part marked c.loop-place.invariant.noted r;
          }
      | in_default w ↦
          let none = ap (part_at parts) (sym c.net_at-net.ensures) ∙ sym c.part_at.ensures ∙ w.in_default.is in
          record {
            each_net = ap length w.noted-is ∙ c.loop-place.invariant.each_net;
            adds = subst (λ (t : Lines). Adds c.args.notes.now t
                (flat_map (loop_at circuit (together parts)) (range_with_len 0 (place + 1))))
                (sym w.notes-is)
                (adds_number (loop_at circuit (together parts)) place c.args.notes.now c.loop-place.notes c.loop-place.notes c.loop-place.invariant.adds
                (subst (Adds c.loop-place.notes c.loop-place.notes) (sym (loop_none circuit parts place none)) (adds_none c.loop-place.notes)));
            noted = λ r. ap (λ (ms : List Bool). marked_in ms r) w.noted-is
                ∙ tells_none circuit.order parts place within c.loop-place.noted none c.loop-place.invariant.noted r;
          }
    ]

pub returns : goal.returns
returns c =
    let long = order_long c.args.c.now.nets c.args.c.now.order c.known.ensures.by_name in
    let whole : c.loop-place.place ≡ length c.args.c.now.order =
    omega (arith, long, c.loop-place-test.false, c.loop-place.auto.place-end, c.net_count-place-end.ensures) in
    adds_numbers (loop_at c.args.c.now (together c.args.parts.now)) c.loop-place.place (length c.args.c.now.order) c.args.notes.now c.loop-place.notes whole
    c.loop-place.invariant.adds
