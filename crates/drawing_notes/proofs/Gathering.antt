-- What the cases tell, one after another.
use Rattle.std.proofs.Common.{◌≡◌, ℕ, ◌*◌, Bool, false, List, [], ◌∷◌, ◌++◌, length, replicate, sym, ap, subst, ◌∙◌, append-nil, Option, None}
use Rattle.std.specs.List.{filter}
use Rattle.std.proofs.lemmas.List.{length-replicate}
use Rattle.std.proofs.lemmas.List.Concat.{flat_map-append}
use Rattle.step_values.specs.declared.value.Value.{Value}
use Rattle.skew_algebra.specs.Wave.{Wave}
use Rattle.flat_circuit.specs.Circuit.{Circuit}
use Rattle.fixpoint_engine.specs.Settled.{marked_in}
use Rattle.fixpoint_engine.specs.Waves.{Waves, waves_of}
use Rattle.timing_analysis.specs.Case.{Case}
use Rattle.drawing_omissions.specs.Lines.{Lines, Adds}
use Rattle.drawing_omissions.proofs.Adding.{adds_both, adds_none}
use Rattle.drawing_omissions.proofs.Written.{same_at}
use Rattle.drawing_notes.specs.declared.cases.SoFar.{SoFar}
use Rattle.drawing_notes.specs.declared.case_gates.CaseGates.{CaseGates}
use Rattle.drawing_notes.specs.declared.case_paths.CasePaths.{CasePaths}
use Rattle.drawing_notes.specs.declared.launched.Arrival.{Arrival}
use Rattle.drawing_notes.specs.Arrivals.{AreRaisedBy, arrival_at}
use Rattle.drawing_notes.specs.Common.{AreRaisedTicks, skew_at}
use Rattle.drawing_notes.specs.Parts.{AreInside, together}
use Rattle.drawing_notes.specs.Paths.{TellsArrivals, TellsLaunches, TellsLoops, is_looped}
use Rattle.drawing_notes.specs.SoFar.{HoldGates, HoldPaths, HoldsOf, IsOrder, looped_in}
use Rattle.drawing_notes.specs.Unclocked.{AreActs}
use Rattle.drawing_notes.specs.Unknown.{has_unknown, unknown, unknown_at, unknown_in}
use Rattle.drawing_notes.specs.Unmarked.{AreFirst, TellsClocks, TellsTimed}
use Rattle.drawing_notes.proofs.Firsts.{no_first}
use Rattle.drawing_notes.proofs.Raising.{arrivals_case, no_case, none_small, small_case, ticks_case}

-- ---- paths

pub paths_begin : (c : Circuit) (p : CasePaths) → length p.parts.items ≡ length c.nets → AreInside (length c.nets) p.parts.items →
    TellsLoops c (together p.parts.items) → IsOrder c (looped_in p) p.order.items → p.latest.items ≡ replicate (length c.nets) None →
    p.ticks.items ≡ replicate (length c.instances) 0 → HoldPaths c [] p
paths_begin c p each inside loops order latest ticks = record {
  each_part = each;
  inside = inside;
  loops = loops;
  order = order;
  each_net = ap length latest ∙ length-replicate (length c.nets) None;
  arrivals = no_case c (looped_in p) (length c.nets) p.latest.items latest;
  small = none_small (131070 * length c.nets) (length c.nets) p.latest.items latest;
  each_instance = ap length ticks ∙ length-replicate (length c.instances) 0;
  ticks = λ launched tells k exists. ap (λ (xs : List ℕ). skew_at xs k) ticks ∙ same_at 0 (length c.instances) k;
}

-- by one case more, where loops and order stay
pub paths_more : (c : Circuit) (cases : List Case) (one : Case) (ws : Waves) (old new : CasePaths) (latest : List (Option Arrival)) (ticks : List ℕ) →
    one.waves ≡ ws → new.parts ≡ old.parts → new.order ≡ old.order → new.latest.items ≡ latest → new.ticks.items ≡ ticks →
    AreRaisedBy c (looped_in old) ws old.latest.items latest →
    ((launched : ℕ → ℕ → Bool) → TellsLaunches c (looped_in old) ws launched → AreRaisedTicks c ws launched old.ticks.items ticks) →
    (length ticks ≡ length old.ticks.items) → HoldPaths c cases old → HoldPaths c (cases ++ one ∷ []) new
paths_more c cases one ws old new latest ticks waves parts_are order_are latest_are ticks_are raised more long holds = record {
  each_part = ap length same_parts ∙ holds.each_part;
  inside = subst (AreInside (length c.nets)) (sym same_parts) holds.inside;
  loops = subst (λ (ps : List (Option ℕ)). TellsLoops c (together ps)) (sym same_parts) holds.loops;
  order =
      subst (λ (looped : ℕ → Bool). IsOrder c looped new.order.items) (sym same_looped)
      (subst (IsOrder c (looped_in old)) (sym (ap (λ v. v.items) order_are)) holds.order);
  each_net = ap length latest_are ∙ raised.0 ∙ holds.each_net;
  arrivals =
      subst (λ (looped : ℕ → Bool). TellsArrivals c looped (cases ++ one ∷ []) (arrival_at new.latest.items)) (sym same_looped)
      (arrivals_case c (looped_in old) cases one ws old.latest.items new.latest.items waves now_raised holds.arrivals);
  small = small_case c (looped_in old) ws old.latest.items new.latest.items now_raised holds.small;
  each_instance = ap length ticks_are ∙ long ∙ holds.each_instance;
  ticks = λ launched tells k exists.
      let tells_old : (w : Waves) → TellsLaunches c (looped_in old) w (launched w) = λ w. subst (λ (looped : ℕ → Bool). TellsLaunches c looped w (launched w)) same_looped (tells w) in
      ap (λ (xs : List ℕ). skew_at xs k) ticks_are
      ∙ ticks_case c launched cases one ws old.ticks.items ticks waves (more (launched ws) (tells_old ws)) (holds.ticks launched tells_old) k exists;
}
  where
    same_parts : new.parts.items ≡ old.parts.items
    same_parts = ap (λ v. v.items) parts_are

    same_looped : looped_in new ≡ looped_in old
    same_looped = ap (λ (ps : List (Option ℕ)). is_looped (together ps)) same_parts

    now_raised : AreRaisedBy c (looped_in old) ws old.latest.items new.latest.items
    now_raised = subst (AreRaisedBy c (looped_in old) ws old.latest.items) (sym latest_are) raised

-- ---- gates

pub gates_begin : (c : Circuit) (g : CaseGates) → TellsClocks c (marked_in g.clocks) → TellsTimed c (marked_in g.timed) →
    g.firsts.items ≡ replicate (length c.instances) None → HoldGates c [] g
gates_begin c g clocks timed firsts = record {
  clocks = clocks;
  timed = timed;
  each_instance = ap length firsts ∙ length-replicate (length c.instances) None;
  firsts = no_first c (marked_in g.clocks) (marked_in g.timed) (length c.instances) g.firsts.items firsts;
}

pub gates_more : (c : Circuit) (cases : List Case) (one : Case) (old new : CaseGates) (firsts : List (Option ℕ)) → new.clocks ≡ old.clocks → new.timed ≡ old.timed →
    new.firsts.items ≡ firsts → length firsts ≡ length c.instances →
    (AreFirst c (marked_in old.clocks) (marked_in old.timed) cases old.firsts.items → AreFirst c (marked_in old.clocks) (marked_in old.timed) (cases ++ one ∷ []) firsts) →
    HoldGates c cases old → HoldGates c (cases ++ one ∷ []) new
gates_more c cases one old new firsts clocks_are timed_are firsts_are long more holds = record {
  clocks = subst (λ (set : List Bool). TellsClocks c (marked_in set)) (sym clocks_are) holds.clocks;
  timed = subst (λ (set : List Bool). TellsTimed c (marked_in set)) (sym timed_are) holds.timed;
  each_instance = ap length firsts_are ∙ long;
  firsts =
      subst (λ (set : List Bool). AreFirst c (marked_in set) (marked_in new.timed) (cases ++ one ∷ []) new.firsts.items) (sym clocks_are)
      (subst (λ (set : List Bool). AreFirst c (marked_in old.clocks) (marked_in set) (cases ++ one ∷ []) new.firsts.items) (sym timed_are)
      (subst (AreFirst c (marked_in old.clocks) (marked_in old.timed) (cases ++ one ∷ [])) (sym firsts_are) (more holds.firsts)));
}

-- ---- all of it

abbrev nothing : Lines
nothing = record { bytes = []; count = 0 }

pub begin_holds : (c : Circuit) (s : SoFar) → s.acts.items ≡ replicate (length c.instances) false → s.unknown ≡ nothing → HoldGates c [] s.gates → HoldPaths c [] s.paths →
    HoldsOf s c []
begin_holds c s acts none gates paths = record {
  each_instance = ap length acts ∙ length-replicate (length c.instances) false;
  acts = λ k exists. ap (λ (ms : List Bool). marked_in ms k) acts ∙ same_at false (length c.instances) k;
  unknown_notes = subst (λ (t : Lines). Adds nothing t []) (sym none) (adds_none nothing);
  gates = gates;
  paths = paths;
}

module _ (c : Circuit) (ws : List (Wave Value)) (number : ℕ) (cases : List Case) (one : Case) (numbered : one.listed.number ≡ number)
    (waves : one.waves ≡ waves_of ws) where
  lines_of : unknown_at c one ≡ unknown_in c number (filter (has_unknown (waves_of ws)) c.order)
  lines_of = λ k. unknown_in c (numbered k) (filter (has_unknown (waves k)) c.order)

  lines_more : unknown c (cases ++ one ∷ []) ≡ unknown c cases ++ unknown_in c number (filter (has_unknown (waves_of ws)) c.order)
  lines_more =
      flat_map-append (unknown_at c) cases (one ∷ [])
      ∙ ap (λ (l : List (List ℕ)). unknown c cases ++ l) (append-nil (unknown_at c one) ∙ lines_of)

  pub case_more : (old new : SoFar) (marks : List Bool) → new.acts.items ≡ marks → length marks ≡ length c.instances →
      ((cs : List Case) (o : Case) → o.waves ≡ waves_of ws → AreActs c cs old.acts.items → AreActs c (cs ++ o ∷ []) marks) →
      Adds old.unknown new.unknown (unknown_in c number (filter (has_unknown (waves_of ws)) c.order)) →
      ((cs : List Case) (o : Case) → o.waves ≡ waves_of ws → HoldGates c cs old.gates → HoldGates c (cs ++ o ∷ []) new.gates) →
      ((cs : List Case) (o : Case) → o.waves ≡ waves_of ws → HoldPaths c cs old.paths → HoldPaths c (cs ++ o ∷ []) new.paths) →
      HoldsOf old c cases → HoldsOf new c (cases ++ one ∷ [])
  case_more old new marks marks_are long acts adds gates paths holds = record {
    each_instance = ap length marks_are ∙ long;
    acts = subst (AreActs c (cases ++ one ∷ [])) (sym marks_are) (acts cases one waves holds.acts);
    unknown_notes =
        subst (Adds nothing new.unknown) (sym lines_more)
        (adds_both (unknown c cases) (unknown_in c number (filter (has_unknown (waves_of ws)) c.order)) nothing old.unknown new.unknown
        holds.unknown_notes adds);
    gates = gates cases one waves holds.gates;
    paths = paths cases one waves holds.paths;
  }
