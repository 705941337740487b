-- All notes, from those of each kind.
use Rattle.std.proofs.Common.{◌≡◌, ℕ, Bool, List, [], ◌++◌, length, ap, sym, subst, ◌∙◌, arith, append_assoc, slice_get, Option}
use Rattle.std.specs.List.{concat}
use Rattle.scald_base.specs.declared.outcome.Outcome.{Outcome}
use Rattle.flat_circuit.specs.Circuit.{Circuit}
use Rattle.fixpoint_engine.specs.Settled.{marked_in}
use Rattle.fixpoint_engine.specs.Waves.{Waves}
use Rattle.timing_analysis.specs.Case.{Case}
use Rattle.listing.specs.Head.{period_line}
use Rattle.program_call.specs.Answer.{verdict_of}
use Rattle.drawing_notes.specs.declared.cases.SoFar.{SoFar}
use Rattle.drawing_notes.specs.declared.reply.Kept.{Kept}
use Rattle.drawing_notes.specs.Arrivals.{arrival_at}
use Rattle.drawing_notes.specs.Common.{common, common_of, common_ticks, skew_at}
use Rattle.drawing_notes.specs.Drawn.{drawn_notes}
use Rattle.drawing_notes.specs.Idle.{idle}
use Rattle.drawing_notes.specs.Late.{late}
use Rattle.drawing_omissions.specs.Lines.{Lines, Adds}
use Rattle.drawing_notes.specs.Loops.{loops}
use Rattle.drawing_notes.specs.Parts.{together}
use Rattle.drawing_notes.specs.Report.{AreNotes, count_line, notes, path_notes, single_notes}
use Rattle.drawing_notes.specs.SoFar.{AreLaunches, HoldsOf, looped_in, ways_of}
use Rattle.drawing_notes.specs.Unchecked.{unchecked}
use Rattle.drawing_notes.specs.Unclocked.{unclocked}
use Rattle.drawing_notes.specs.Unknown.{unknown}
use Rattle.drawing_notes.specs.Unmarked.{first_at, first_of, unmarked, unmarked_by}
use Rattle.drawing_notes.specs.Unread.{unread}
use Rattle.drawing_notes.specs.Ways.{AreWays, Ways}
use Rattle.drawing_omissions.proofs.Adding.{adds_both}
use Rattle.drawing_notes.proofs.Deciding.{launched_in, launched_tells}
use Rattle.drawing_notes.proofs.Numbers.{same_lines}

module _ (c : Circuit) (so_far : SoFar) where
  -- the kinds that are about instances and nets, one after the other
  pub single_added : (t0 t1 t2 t3 t4 t5 : Lines) → ((cases : List Case) → HoldsOf so_far c cases → Adds t0 t1 (unclocked c cases)) → Adds t1 t2 (idle c) →
      Adds t2 t3 (unchecked c) → Adds t3 t4 (unmarked_by c (first_at so_far.gates.firsts.items)) → Adds t4 t5 (unread c) →
      (cases : List Case) (launched : Waves → ℕ → ℕ → Bool) → HoldsOf so_far c cases → Adds t0 t5 (single_notes (ways_of so_far launched) c cases)
  single_added t0 t1 t2 t3 t4 t5 a b d e f cases launched holds =
      let place : ℕ → Option ℕ = λ k. first_of (marked_in so_far.gates.clocks) (marked_in so_far.gates.timed) cases (slice_get c.instances k) in
      let firsts : first_at so_far.gates.firsts.items ≡ place = λ i k. holds.gates.firsts k i in
      let lines = unmarked c (marked_in so_far.gates.clocks) (marked_in so_far.gates.timed) cases in
      adds_both (unclocked c cases) _ t0 t1 t5 (a cases holds)
      (adds_both (idle c) _ t1 t2 t5 b (adds_both (unchecked c) (lines ++ unread c) t2 t3 t5 d
      (adds_both lines (unread c) t3 t4 t5 (subst (λ (at : ℕ → Option ℕ). Adds t3 t4 (unmarked_by c at)) firsts e) f)))

  -- those that are about paths
  pub paths_added : (t0 t1 t2 t3 t4 : Lines) → Adds t0 t1 (late c (arrival_at so_far.paths.latest.items)) → Adds t1 t2 (loops c (together so_far.paths.parts.items)) →
      ((lines : List (List ℕ)) → Adds (record { bytes = []; count = 0 }) so_far.unknown lines → Adds t2 t3 lines) →
      Adds t3 t4 (common c (skew_at so_far.paths.ticks.items)) →
      (cases : List Case) (launched : Waves → ℕ → ℕ → Bool) → HoldsOf so_far c cases → AreLaunches so_far c launched →
      Adds t0 t4 (path_notes (ways_of so_far launched) c cases)
  paths_added t0 t1 t2 t3 t4 a b d e cases launched holds tells =
      adds_both (late c (arrival_at so_far.paths.latest.items)) _ t0 t1 t4 a
      (adds_both (loops c (together so_far.paths.parts.items)) _ t1 t2 t4 b
      (adds_both (unknown c cases) (common c (common_ticks c launched cases)) t2 t3 t4 (d (unknown c cases) holds.unknown_notes)
      (subst (Adds t3 t4) (same_lines (λ k n. common_of c k n (slice_get c.instances k)) (skew_at so_far.paths.ticks.items) (common_ticks c launched cases) (length c.instances)
      (holds.paths.ticks launched tells)) e)))

  -- the period's line before all notes, and the last line after them
  pub reported : (kept : Kept) (t0 t1 t2 t3 : Lines) (o : Outcome) (bytes : List ℕ) →
      t0 ≡ record { bytes = period_line kept.version c; count = 0 } →
      ((cases : List Case) (launched : Waves → ℕ → ℕ → Bool) → HoldsOf so_far c cases → Adds t0 t1 (single_notes (ways_of so_far launched) c cases)) →
      Adds t1 t2 (drawn_notes c kept) →
      ((cases : List Case) (launched : Waves → ℕ → ℕ → Bool) → HoldsOf so_far c cases → AreLaunches so_far c launched →
      Adds t2 t3 (path_notes (ways_of so_far launched) c cases)) →
      o ≡ verdict_of t3.count → bytes ≡ t3.bytes ++ count_line t3.count →
      (base : ℕ) (cases : List Case) → HoldsOf so_far c cases → AreNotes kept c base cases o bytes
  reported kept t0 t1 t2 t3 o bytes is single names paths outcome text base cases holds =
      record {
        ways = ways;
        are = are;
        outcome = outcome ∙ ap verdict_of count;
        text =
            let found = notes ways kept c cases in
            text ∙ ap (λ n. t3.bytes ++ count_line n) count
            ∙ ap (λ (l : List ℕ). l ++ count_line (length found))
            (all.bytes ∙ ap (λ (t : Lines). t.bytes ++ concat found) is)
            ∙ append_assoc (period_line kept.version c) (concat found) (count_line (length found));
      }
    where
      launched : Waves → ℕ → ℕ → Bool
      launched ws = launched_in c (looped_in so_far.paths) ws

      tells : AreLaunches so_far c launched
      tells ws = launched_tells c (looped_in so_far.paths) ws

      ways : Ways
      ways = ways_of so_far launched

      are : AreWays c cases ways
      are = record {
        loops = holds.paths.loops;
        arrivals = holds.paths.arrivals;
        launches = tells;
        clocks = holds.gates.clocks;
        timed = holds.gates.timed;
      }

      all : Adds t0 t3 (notes ways kept c cases)
      all = adds_both (single_notes ways c cases) _ t0 t1 t3 (single cases launched holds)
          (adds_both (drawn_notes c kept) (path_notes ways c cases) t1 t2 t3 names (paths cases launched holds tells))

      count : t3.count ≡ length (notes ways kept c cases)
      count =
          let none : t0.count ≡ 0 = ap (λ (t : Lines). t.count) is in
          let total = all.count in
          omega (arith, none, total)
