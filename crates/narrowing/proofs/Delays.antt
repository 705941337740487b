-- What is asked of one instance in a run, where its bounds are narrower and the run's delays are within them.
use Rattle.std.proofs.Common.{◌≡◌, ℕ, ◌≤◌, Bool, true, false, List, refl, sym, subst, Option, Some, None, if◌then◌else◌}
use Rattle.std.specs.List.{All}
use Rattle.scald_base.specs.Signal.{Signal}
use Rattle.scald_base.specs.Time.{Bounds}
use Rattle.element_kinds.specs.declared.kind.Kind.{Kind}
use Rattle.element_kinds.specs.declared.form.Form.{Form}
use Rattle.element_kinds.specs.declared.form.Form.TheVariants.{Gate, Change, Register, Latch as Enabled, Checker}
use Rattle.element_kinds.specs.Kinds.{form_of, may_split}
use Rattle.element_kinds.specs.Equation.{EquationOf, named_by}
use Rattle.flat_circuit.specs.declared.instance.Instance.{Instance}
use Rattle.flat_circuit.specs.declared.split.Split.{Split}
use Rattle.flat_circuit.specs.Split.{two_delays}
use Rattle.flat_circuit.specs.Circuit.{Circuit}
use Rattle.flat_circuit.specs.Run.{Choice, DelayFitsForm, DelaysFit, IsRunAt, Obeys, Run, Within}
use Rattle.narrowing.specs.Narrowed.{with_split}
use Rattle.narrowing.specs.Part.{HasDelay}

-- ---- one delay

fits_form : (f : Form) (d : Bounds) (n : ℕ) → HasDelay f → Within d n → DelayFitsForm f d n
fits_form Gate d n has within = within
fits_form Change d n has within = absurd has
fits_form (Register forced) d n has within = within
fits_form (Enabled forced) d n has within = within
fits_form (Checker check) d n has within = absurd has

-- bounds are in no equation but that of a change function
same_equation : (f : Form) (kind : Kind) (d e : Bounds) (n : ℕ) (signals : List Signal) (output : Signal) (t : ℕ) →
    HasDelay f → EquationOf f kind d n signals output t → EquationOf f kind e n signals output t
same_equation Gate kind d e n signals output t has holds = holds
same_equation Change kind d e n signals output t has holds = absurd has
same_equation (Register forced) kind d e n signals output t has holds = holds
same_equation (Enabled forced) kind d e n signals output t has holds = holds
same_equation (Checker check) kind d e n signals output t has holds = absurd has

same_named : (f : Form) (d e : Bounds) (n : ℕ) (wires : List ℕ) (t : ℕ) → HasDelay f →
    All (λ back. back ≤ t) (named_by f e n wires) → All (λ back. back ≤ t) (named_by f d n wires)
same_named Gate d e n wires t has asked = asked
same_named Change d e n wires t has asked = absurd has
same_named (Register forced) d e n wires t has asked = asked
same_named (Enabled forced) d e n wires t has asked = asked
same_named (Checker check) d e n wires t has asked = absurd has

one_obeys : (ticks : ℕ) (kind : Kind) (d e : Bounds) (split : Option Split) (choice : Choice) (signals : List Signal)
    (output : Signal) → split ≡ None → HasDelay (form_of kind) → Obeys ticks kind d split choice signals output →
    Obeys ticks kind e split choice signals output
one_obeys ticks kind d e None choice signals output one has obeys = λ t less asked.
    same_equation (form_of kind) kind d e choice.delay signals output t has
    (obeys t less (same_named (form_of kind) d e choice.delay choice.wires t has asked))
one_obeys ticks kind d e (Some s) choice signals output one has obeys = cc

one_fits : (kind : Kind) (d : Bounds) (split : Option Split) (choice : Choice) → split ≡ None → HasDelay (form_of kind) →
    Within d choice.delay → DelaysFit kind d split choice
one_fits kind d None choice one has within = fits_form (form_of kind) d choice.delay has within
one_fits kind d (Some s) choice one has within = cc

-- no two delays, whether the kind may have them or not
none_anyway : (may : Bool) (split : Option Split) → split ≡ None → (if may then split else None) ≡ None
none_anyway true split none = none
none_anyway false split none = refl

pub one_narrowed : (c : Circuit) (run : Run) (j : Instance) (choice : Choice) (d : Bounds) → HasDelay (form_of j.kind) →
    j.split ≡ None → Within d choice.delay → IsRunAt c run j choice →
    IsRunAt c run (record j { delay = d }) choice
one_narrowed c run j choice d has one within at =
    let none = none_anyway (may_split j.kind) j.split one in
    record {
      delay = one_fits j.kind d (two_delays j.kind j.split) choice none has within;
      wires = at.wires;
      obeys = one_obeys _ j.kind j.delay d (two_delays j.kind j.split) choice _ _ none has at.obeys;
    }

-- ---- two delays

some_then : (may : Bool) (split : Option Split) (s : Split) → may ≡ true → split ≡ Some s →
    (if may then split else None) ≡ Some s
some_then true split s may some = some
some_then false split s may some = cc

two_obey : (ticks : ℕ) (kind : Kind) (d e : Bounds) (old new : Option Split) (s r : Split) (choice : Choice)
    (signals : List Signal) (output : Signal) → old ≡ Some s → new ≡ Some r →
    Obeys ticks kind d old choice signals output → Obeys ticks kind e new choice signals output
two_obey ticks kind d e None new s r choice signals output was is obeys = cc
two_obey ticks kind d e (Some o) None s r choice signals output was is obeys = cc
two_obey ticks kind d e (Some o) (Some n) s r choice signals output was is obeys = obeys

two_fit : (kind : Kind) (d : Bounds) (split : Option Split) (s : Split) (choice : Choice) → split ≡ Some s →
    Within s.rise choice.rise → Within s.fall choice.fall → DelaysFit kind d split choice
two_fit kind d None s choice is rise fall = cc
two_fit kind d (Some o) s choice is rise fall =
    let same : o ≡ s = cc in subst (λ (x : Split). Within x.rise choice.rise × Within x.fall choice.fall) (sym same) (rise, fall)

-- within both bounds
pub both_within : (kind : Kind) (d : Bounds) (split : Option Split) (s : Split) (choice : Choice) → split ≡ Some s →
    DelaysFit kind d split choice → Within s.rise choice.rise × Within s.fall choice.fall
both_within kind d None s choice is fit = cc
both_within kind d (Some o) s choice is fit =
    let same : o ≡ s = cc in subst (λ (x : Split). Within x.rise choice.rise × Within x.fall choice.fall) same fit

pub two_narrowed : (c : Circuit) (run : Run) (j : Instance) (choice : Choice) (s r : Split) → may_split j.kind ≡ true →
    j.split ≡ Some s → Within r.rise choice.rise → Within r.fall choice.fall → IsRunAt c run j choice →
    IsRunAt c run (with_split j r) choice
two_narrowed c run j choice s r may two rise fall at =
    let was = some_then (may_split j.kind) j.split s may two in
    let is = some_then (may_split j.kind) (Some r) r may refl in
    record {
      delay = two_fit j.kind (with_split j r).delay (two_delays j.kind (Some r)) r choice is rise fall;
      wires = at.wires;
      obeys = two_obey _ j.kind j.delay (with_split j r).delay (two_delays j.kind j.split)
          (two_delays j.kind (Some r)) s r choice _ _ was is at.obeys;
    }

pub was_within : (c : Circuit) (run : Run) (j : Instance) (choice : Choice) (s : Split) → may_split j.kind ≡ true →
    j.split ≡ Some s → IsRunAt c run j choice → Within s.rise choice.rise × Within s.fall choice.fall
was_within c run j choice s may two at =
    both_within j.kind j.delay (two_delays j.kind j.split) s choice
    (some_then (may_split j.kind) j.split s may two) at.delay
