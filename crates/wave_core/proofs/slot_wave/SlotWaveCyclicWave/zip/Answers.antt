use Rattle.std.proofs.Common.{◌≡◌, ◌<◌, ◌+◌, ◌++◌, [], ◌∷◌, length, take, get_or, arith, rules, ap, ◌∙◌, sym, subst}
use Rattle.std.specs.List.{AllZip, zip}
use Rattle.std.proofs.lemmas.List.{take_all}
use Rattle.wave_core.proofs.Slots.{related_push, length_related, length_zip, zip_at, period_length}
use Rattle.wave_core.proofs.slot_wave.SlotWaveCyclicWave.zip.Goals as goal

pub loop-slot-preserved : goal.loop-slot-preserved
loop-slot-preserved g c =
    let xs = c.args.self.now.cells.items in
    let ys = c.args.other.now.cells.items in
    let x = c.cell-item.result in
    let y = c.index.result.now in
    let pushed : c.push.new.self.items ≡ c.loop-slot.cells.items ++ c.f.result ∷ [] = search rules in
    let below : c.loop-slot.slot < length xs = omega arith in
    let below' : c.loop-slot.slot < length ys = omega arith in
    let is : x ≡ get_or xs c.loop-slot.slot x = search rules in
    let long : length (zip xs ys) ≡ length xs = length_zip xs ys c.requires.periods in
    subst (λ l. AllZip (λ p d. g.F.Fn.post c.args.f (p.0, (p.1, tt)) d) (take (c.loop-slot.slot + 1) (zip xs ys)) l) (sym pushed)
    (related_push (λ p d. g.F.Fn.post c.args.f (p.0, (p.1, tt)) d) (zip xs ys) c.loop-slot.cells.items c.loop-slot.slot (x, y) c.f.result
    (omega arith) (zip_at xs ys c.loop-slot.slot x y below below' is c.index.ensures) (search rules) c.loop-slot.invariant)

pub invariant_of-result : goal.invariant_of-result
invariant_of-result g c =
    let xs = c.args.self.now.cells.items in
    let ys = c.args.other.now.cells.items in
    let long : length (zip xs ys) ≡ length xs = length_zip xs ys c.requires.periods in
    let all : take c.loop-slot.slot (zip xs ys) ≡ zip xs ys = take_all c.loop-slot.slot (zip xs ys) (omega arith) in
    let n : length c.loop-slot.cells.items ≡ length xs =
    length_related (λ p d. g.F.Fn.post c.args.f (p.0, (p.1, tt)) d) (take c.loop-slot.slot (zip xs ys)) c.loop-slot.cells.items c.loop-slot.invariant
    ∙ ap length all ∙ long in
    record { sized = period_length c.loop-slot.cells.items (length xs) n c.args.self.now.sized }

pub returns : goal.returns
returns g c =
    let xs = c.args.self.now.cells.items in
    let ys = c.args.other.now.cells.items in
    let long : length (zip xs ys) ≡ length xs = length_zip xs ys c.requires.periods in
    let all : take c.loop-slot.slot (zip xs ys) ≡ zip xs ys = take_all c.loop-slot.slot (zip xs ys) (omega arith) in
    subst (λ l. AllZip (λ p d. g.F.Fn.post c.args.f (p.0, (p.1, tt)) d) l c.loop-slot.cells.items) all c.loop-slot.invariant
