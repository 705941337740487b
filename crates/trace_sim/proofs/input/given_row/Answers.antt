use Rattle.std.proofs.Common.{arith, ◌≡◌, ◌-◌, ◌+◌, ◌++◌, ◌∷◌, [], ◌∙◌, Bool, List, Some, ap, map, sym}
use Rattle.std.specs.List.{range_with_len}
use Rattle.std.proofs.lemmas.List.FromFn.{map-range_with_len_more}
use Rattle.trace_sim.specs.Input.{bits_in, given_in}
use Rattle.trace_sim.proofs.input.given_row.Goals as goal

pub loop-t-preserved : goal.loop-t-preserved
loop-t-preserved c =
    let signal = given_in c.args.h.now c.args.value (Some c.args.net.now) c.args.by (bits_in c.args.free.now) in
    let back : c.loop-t.t ≡ c.loop-t.t + 1 - 1 = omega arith in
    record {
      row =
          c.in_ok-push.ensures.ok
          ∙ ap (λ (bits : List Bool). bits ++ c.given_bit-before.result ∷ []) c.loop-t.invariant.row
          ∙ ap (λ (b : Bool). map signal (range_with_len 0 c.loop-t.t) ++ b ∷ []) c.given_bit-before.ensures
          ∙ sym (map-range_with_len_more signal 0 c.loop-t.t c.loop-t.t (omega arith));
      before = λ some. c.given_bit-before.ensures ∙ ap signal back;
    }
