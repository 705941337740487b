-- Parts of runs are runs, and so is a run with another bit that no equation names.
use Rattle.std.proofs.Common.{◌≡◌, ◌≢◌, ℕ, zero, suc, ◌+◌, ◌-◌, ◌<◌, ◌≤◌, min, Bool, true, false, List, [], ◌∷◌, length, map, take, drop, set, get_or, refl, sym, ap, subst, ◌∙◌, arith, ⊎_elim, true≢false, All, Option, Some, None, length-take, length-drop, length-set}
use Rattle.std.proofs.lemmas.Bool.{cases_eq, cases_lt}
use Rattle.std.proofs.lemmas.List.{get_or-take, get_or-drop, get_or-set_other, length-map}
use Rattle.std.proofs.lemmas.List.Elements.{All-cons, All-head, All-tail, All-map}
use Rattle.std.proofs.Math.ListN.{get_or-map}
use Rattle.scald_base.specs.Time.{Bounds}
use Rattle.scald_base.specs.Signal.{Signal, turned}
use Rattle.vector_names.specs.declared.bits.Target.{Target}
use Rattle.vector_names.specs.declared.bits.Target.TheVariants.{Net as OnNet, Constant}
use Rattle.element_kinds.specs.declared.kind.Kind.{Kind}
use Rattle.element_kinds.specs.declared.kind.Kind.TheVariants.{Chg, Reg, RegRs, Latch, LatchRs, SetupHold, RiseFall, MinPulse}
use Rattle.flat_circuit.specs.declared.instance.Pin.{Pin}
use Rattle.flat_circuit.specs.declared.instance.Instance.{Instance}
use Rattle.flat_circuit.specs.declared.net.Net.{Net}
use Rattle.element_kinds.specs.Kinds.{has_output}
use Rattle.flat_circuit.specs.Circuit.{Circuit}
use Rattle.element_kinds.specs.Equation.{named_before}
use Rattle.flat_circuit.specs.declared.split.Split.{Split}
use Rattle.flat_circuit.specs.Split.{split_named_before, two_delays}
use Rattle.flat_circuit.specs.Run.{Run, Choice, net_signal, target_signal, pin_signal, pin_signals, out_signal, WiresFit, EquationWith, IsAskedWith, IsRunAt}
use Rattle.flat_circuit.specs.Laws.{front, later_part, FrontsAreRuns, LaterPartsAreRuns, with_bit, looks_back, LeavesFree, UnnamedBitsAreFree}
use Rattle.flat_circuit.proofs.Moved.{Match}
use Rattle.flat_circuit.proofs.MovedSplits.{chosen_moves}

-- ---- what is asked, later

asked_at_later : (m t : ℕ) (named : List ℕ) → All (λ before. before ≤ t) named →
    All (λ before. before ≤ m + t) named
asked_at_later m t named asked k d less =
    let soon : get_or named k d ≤ t = asked k d less in omega arith

asked_later : (kind : Kind) (d : Bounds) (split : Option Split) (choice : Choice) (m t : ℕ) →
    IsAskedWith kind d split choice t → IsAskedWith kind d split choice (m + t)
asked_later kind d None choice m t asked =
    asked_at_later m t (named_before kind d choice.delay choice.wires) asked
asked_later kind d (Some s) choice m t asked =
    asked_at_later m t (split_named_before choice.rise choice.fall choice.wires) asked

-- What looks back is not asked at tick 0. It has no two delays.
not_at_zero : (kind : Kind) (d : Bounds) (split : Option Split) (choice : Choice) (t : ℕ) →
    IsAskedWith kind d (two_delays kind split) choice t → looks_back kind ≡ true → 1 ≤ t
not_at_zero Chg d split choice t asked back = asked 0 0 (omega arith)
not_at_zero Reg d split choice t asked back = asked 0 0 (omega arith)
not_at_zero RegRs d split choice t asked back = asked 0 0 (omega arith)
not_at_zero Latch d split choice t asked back = asked 0 0 (omega arith)
not_at_zero LatchRs d split choice t asked back = asked 0 0 (omega arith)
not_at_zero kind d split choice t asked back = absurd (true≢false (sym back))

-- ---- runs that show the same bits, m ticks later and up to a tick

abbrev Shows : ℕ → ℕ → Run → Run → Type 0
Shows m n run other = (i u : ℕ) → u < n → net_signal other i u ≡ net_signal run i (m + u)

target_shows : (m n : ℕ) (run other : Run) → Shows m n run other → (target : Target) (w u : ℕ) →
    w ≤ u → u < n →
    target_signal other target w u ≡ target_signal run target w (m + u)
target_shows m n run other shows (OnNet i) w u late less =
    let at : m + (u - w) ≡ (m + u) - w = omega arith in
    shows i (u - w) (omega arith) ∙ ap (net_signal run i) at
target_shows m n run other shows (Constant b) w u late less = refl

pins_match : (m n t : ℕ) (run other : Run) → Shows m n run other → t < n →
    (nets : List Net) (ps : List Pin) (ws : List ℕ) →
    WiresFit nets ps ws → Match m t ws (pin_signals run ps ws) (pin_signals other ps ws)
pins_match m n t run other shows less nets [] [] fit = tt
pins_match m n t run other shows less nets [] (w ∷ ws) fit = absurd fit
pins_match m n t run other shows less nets (p ∷ ps) [] fit = absurd fit
pins_match m n t run other shows less nets (p ∷ ps) (w ∷ ws) fit = (
  λ u late soon. ap (turned p.inverted) (target_shows m n run other shows p.target w u late
      (omega arith)),
  pins_match m n t run other shows less nets ps ws fit.1,
)

out_shows : (m n : ℕ) (run other : Run) → Shows m n run other →
    (out : Option Target) (inverted : Bool) (u : ℕ) → u < n →
    out_signal other out inverted u ≡ out_signal run out inverted (m + u)
out_shows m n run other shows None inverted u less = refl
out_shows m n run other shows (Some target) inverted u less =
    ap (turned inverted) (target_shows m n run other shows target 0 u (omega arith) less)

-- an instance of a run is one of a run that shows the same, at most as long
part_at : (m : ℕ) (c : Circuit) (run other : Run) → Shows m other.ticks run other →
    m + other.ticks ≤ run.ticks →
    (i : Instance) (choice : Choice) → IsRunAt c run i choice → IsRunAt c other i choice
part_at m c run other shows short i choice at = record {
  delay = at.delay;
  wires = at.wires;
  obeys = λ t less asked.
      chosen_moves i.kind i.delay (two_delays i.kind i.split) choice m t
      (pin_signals run i.pins choice.wires) (pin_signals other i.pins choice.wires)
      (out_signal run i.out i.out_inverted) (out_signal other i.out i.out_inverted)
      (pins_match m other.ticks t run other shows less c.nets i.pins choice.wires at.wires) asked
      (record {
        now = out_shows m other.ticks run other shows i.out i.out_inverted t less;
        before = λ back.
            let one : 1 ≤ t = not_at_zero i.kind i.delay i.split choice t asked back in
            let at : m + (t - 1) ≡ (m + t) - 1 = omega arith in
            out_shows m other.ticks run other shows i.out i.out_inverted (t - 1) (omega arith)
            ∙ ap (out_signal run i.out i.out_inverted) at;
      })
      (at.obeys (m + t) (omega arith)
      (asked_later i.kind i.delay (two_delays i.kind i.split) choice m t asked));
}

-- ---- fronts and later parts

-- each list of bits is cut to a length
cut_long : (cut : List Bool → List Bool) (n n' : ℕ) (nets : List (List Bool)) →
    ((bits : List Bool) → length bits ≡ n → length (cut bits) ≡ n') →
    All (λ bits. length bits ≡ n) nets → All (λ bits. length bits ≡ n') (map cut nets)
cut_long cut n n' nets each long =
    All-map (λ (bits : List Bool). length bits ≡ n') cut nets
    (λ k d less. each (get_or nets k d) (long k d less))

-- the bits of a net, cut so
net_cut : (cut : List Bool → List Bool) → cut [] ≡ [] → (nets : List (List Bool)) (i : ℕ) →
    get_or (map cut nets) i [] ≡ cut (get_or nets i [])
net_cut cut none nets i = subst (λ (e : List Bool). get_or (map cut nets) i e ≡ cut
    (get_or nets i [])) none (get_or-map cut nets i [])

take_none : (m : ℕ) → take {A = Bool} m [] ≡ []
take_none zero = refl
take_none (suc m) = refl

drop_none : (m : ℕ) → drop {A = Bool} m [] ≡ []
drop_none zero = refl
drop_none (suc m) = refl

front_shows : (m : ℕ) (run : Run) → Shows 0 (min m run.ticks) run (front m run)
front_shows m run i u less =
    let at : u ≡ 0 + u = omega arith in
    ap (λ bits. get_or bits u false) (net_cut (take m) (take_none m) run.bits i)
    ∙ get_or-take m (get_or run.bits i []) u false (omega arith) ∙ ap (net_signal run i) at

pub front_is_run : FrontsAreRuns
front_is_run c run m h = record {
  nets = length-map run.bits (take m) ∙ h.nets;
  long = cut_long (take m) run.ticks (min m run.ticks) run.bits
      (λ bits long. length-take m bits ∙ ap (min m) long) h.long;
  instances = h.instances;
  at = λ k i choice here chosen. part_at 0 c run (front m run) (front_shows m run)
      (omega arith) i choice (h.at k i choice here chosen);
}

later_shows : (m : ℕ) (run : Run) → Shows m (run.ticks - m) run (later_part m run)
later_shows m run i u less =
    ap (λ bits. get_or bits u false) (net_cut (drop m) (drop_none m) run.bits i)
    ∙ get_or-drop m (get_or run.bits i []) u false

pub later_part_is_run : LaterPartsAreRuns
later_part_is_run c run m h = record {
  nets = length-map run.bits (drop m) ∙ h.nets;
  long = cut_long (drop m) run.ticks (run.ticks - m) run.bits
      (λ bits long. length-drop m bits ∙ ap (λ n. n - m) long) h.long;
  instances = h.instances;
  at = λ k i choice here chosen. at k i choice (h.at k i choice here chosen);
}
  where
    at : (k : ℕ) (i : Instance) (choice : Choice) → IsRunAt c run i choice →
        IsRunAt c (later_part m run) i choice
    at k i choice there =
        ⊎_elim (λ (short : m < run.ticks). part_at m c run (later_part m run) (later_shows m run)
        (omega arith) i choice there)
        (λ (past : run.ticks ≤ m). record {
          delay = there.delay;
          wires = there.wires;
          obeys = λ t
              less asked. absurd (omega arith);
        })
        (cases_lt m run.ticks)

-- ---- a run with another bit

-- at another tick the bits of each net are as before
net_elsewhere : (nets : List (List Bool)) (net i t u : ℕ) (b : Bool) → u ≢ t →
    get_or (get_or (set nets net (set (get_or nets net []) t b)) i []) u false ≡ get_or
    (get_or nets i []) u false
net_elsewhere [] net i t u b apart = refl
net_elsewhere (bits ∷ nets) zero zero t u b apart = get_or-set_other bits t u b false apart
net_elsewhere (bits ∷ nets) zero (suc i) t u b apart = refl
net_elsewhere (bits ∷ nets) (suc net) zero t u b apart = refl
net_elsewhere (bits ∷ nets) (suc net) (suc i) t u b apart = net_elsewhere nets net i t u b apart

long_with : (n : ℕ) (nets : List (List Bool)) (net t : ℕ) (b : Bool) →
    All (λ bits. length bits ≡ n) nets →
    All (λ bits. length bits ≡ n) (set nets net (set (get_or nets net []) t b))
long_with n [] net t b long = long
long_with n (bits ∷ nets) zero t b long =
    All-cons (λ (x : List Bool). length x ≡ n) (set bits t b) nets
    (length-set bits t b ∙ All-head (λ (x : List Bool). length x ≡ n) bits nets long)
    (All-tail (λ (x : List Bool). length x ≡ n) bits nets long)
long_with n (bits ∷ nets) (suc net) t b long =
    All-cons (λ (x : List Bool). length x ≡ n) bits (set nets net (set (get_or nets net []) t b))
    (All-head (λ (x : List Bool). length x ≡ n) bits nets long)
    (long_with n nets net t b (All-tail (λ (x : List Bool). length x ≡ n) bits nets long))

checker_equation : (kind : Kind) (d : Bounds) (split : Option Split) (choice : Choice)
    (signals : List Signal) (output : Signal) (t : ℕ) → has_output kind ≡ false →
    EquationWith kind d (two_delays kind split) choice signals output t
checker_equation SetupHold d split choice signals output t none = tt
checker_equation RiseFall d split choice signals output t none = tt
checker_equation MinPulse d split choice signals output t none = tt
checker_equation kind d split choice signals output t none = absurd (true≢false none)

module _ (run : Run) (net t : ℕ) (b : Bool) where
  target_same : (target : Target) → target ≢ OnNet net → (w u : ℕ) →
      target_signal (with_bit run net t b) target w u ≡ target_signal run target w u
  target_same (OnNet i) apart w u =
      ap (λ bits. get_or bits (u - w) false)
      (get_or-set_other run.bits net i (set (get_or run.bits net []) t b) []
      (λ e. apart (ap OnNet e)))
  target_same (Constant c) apart w u = refl

  pins_same : (m : ℕ) (nets : List Net) (ps : List Pin) (ws : List ℕ) → WiresFit nets ps ws →
      All (λ (p : Pin). p.target ≢ OnNet net) ps →
      Match 0 m ws (pin_signals run ps ws) (pin_signals (with_bit run net t b) ps ws)
  pins_same m nets [] [] fit apart = tt
  pins_same m nets [] (w ∷ ws) fit apart = absurd fit
  pins_same m nets (p ∷ ps) [] fit apart = absurd fit
  pins_same m nets (p ∷ ps) (w ∷ ws) fit apart = (
    λ u late soon. let at : u ≡ 0 + u = omega arith in
        ap (turned p.inverted) (target_same p.target
        (All-head (λ (q : Pin). q.target ≢ OnNet net) p ps apart) w u)
        ∙ ap (pin_signal run p w) at,
    pins_same m nets ps ws fit.1 (All-tail (λ (q : Pin). q.target ≢ OnNet net) p ps apart),
  )

  out_same : (out : Option Target) (inverted : Bool) (u : ℕ) → (out ≡ Some (OnNet net) → u ≢ t) →
      out_signal (with_bit run net t b) out inverted u ≡ out_signal run out inverted u
  out_same None inverted u apart = refl
  out_same (Some (Constant c)) inverted u apart = refl
  out_same (Some (OnNet i)) inverted u apart =
      let now : u - 0 ≡ u = omega arith in
      ap (turned inverted) (⊎_elim
      (λ (is : i ≡ net). net_elsewhere run.bits net i t (u - 0) b
      (λ e. apart (ap (λ j. Some (OnNet j)) is) (sym now ∙ e)))
      (λ (other : i ≢ net). ap (λ bits. get_or bits (u - 0) false)
      (get_or-set_other run.bits net i (set (get_or run.bits net []) t b) [] other))
      (cases_eq i net))

  element_same : (c : Circuit) (i : Instance) (choice : Choice) → IsRunAt c run i choice →
      LeavesFree run net t i choice →
      has_output i.kind ≡ true → IsRunAt c (with_bit run net t b) i choice
  element_same c i choice at free output = record {
    delay = at.delay;
    wires = at.wires;
    obeys = λ u less asked.
        let at_u : u ≡ 0 + u = omega arith in
        let x : Signal = out_signal run i.out i.out_inverted in
        chosen_moves i.kind i.delay (two_delays i.kind i.split) choice 0 u
        (pin_signals run i.pins choice.wires)
        (pin_signals (with_bit run net t b) i.pins choice.wires) x
        (out_signal (with_bit run net t b) i.out i.out_inverted)
        (pins_same u c.nets i.pins choice.wires at.wires (free.unread output)) asked
        (record {
          now = out_same i.out i.out_inverted u (λ drives. free.unasked drives u less asked)
              ∙ ap x at_u;
          before = λ back.
              out_same i.out i.out_inverted (u - 1)
              (λ drives. free.unnamed drives back u less asked) ∙ ap (λ v. x (v - 1)) at_u;
        })
        (at.obeys (0 + u) (omega arith)
        (asked_later i.kind i.delay (two_delays i.kind i.split) choice 0 u asked));
  }

  checker_same : (c : Circuit) (i : Instance) (choice : Choice) → IsRunAt c run i choice →
      has_output i.kind ≡ false →
      IsRunAt c (with_bit run net t b) i choice
  checker_same c i choice at none = record {
    delay = at.delay;
    wires = at.wires;
    obeys = λ u less asked. checker_equation i.kind i.delay i.split choice _ _ u none;
  }

  instance_same : (c : Circuit) (i : Instance) (choice : Choice) → IsRunAt c run i choice →
      LeavesFree run net t i choice →
      (output : Bool) → has_output i.kind ≡ output → IsRunAt c (with_bit run net t b) i choice
  instance_same c i choice at free true output = element_same c i choice at free output
  instance_same c i choice at free false output = checker_same c i choice at output

pub unnamed_bits_are_free : UnnamedBitsAreFree
unnamed_bits_are_free c run net t b h free = record {
  nets = length-set run.bits net (set (get_or run.bits net []) t b) ∙ h.nets;
  long = long_with run.ticks run.bits net t b h.long;
  instances = h.instances;
  at = λ k i choice here chosen.
      instance_same run net t b c i choice (h.at k i choice here chosen)
      (free k i choice here chosen) (has_output i.kind) refl;
}
