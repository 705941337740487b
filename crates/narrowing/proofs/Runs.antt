-- A run of a circuit that keeps to parts of a narrowing is a run of the narrowed circuit.
use Rattle.std.proofs.Common.{◌≡◌, ℕ, zero, suc, ◌+◌, ◌==◌, true, List, [], ◌∷◌, length, refl, sym, ap, subst, ◌∙◌, arith, slice_get, Option, Some, None, zero-add}
use Rattle.std.specs.List.{All, AllByRecursion}
use Rattle.std.proofs.lemmas.Bool.{cond_both, eqb-true}
use Rattle.std.proofs.lemmas.List.Elements.{recursion_from_All}
use Rattle.scald_base.specs.Time.{Bounds}
use Rattle.element_kinds.specs.Kinds.{form_of, may_split}
use Rattle.flat_circuit.specs.declared.case.CaseValue.{CaseValue}
use Rattle.flat_circuit.specs.declared.instance.Instance.{Instance}
use Rattle.flat_circuit.specs.declared.split.Split.{Split}
use Rattle.flat_circuit.specs.Circuit.{Circuit}
use Rattle.flat_circuit.specs.Run.{Choice, IsRun, IsRunAt, Run, Within}
use Rattle.narrowing.specs.declared.part.Part.{Part}
use Rattle.narrowing.specs.declared.part.Part.TheVariants.{Constant, Delay, Offset, Rise, Fall}
use Rattle.narrowing.specs.Narrowed.{by_part, by_parts, narrowed, narrowed_from, with_fall, with_rise}
use Rattle.narrowing.specs.Part.{HasDelay, HasOneDelay, HasTwoDelays, KeepsTo, PartFits, Picks, between}
use Rattle.narrowing.proofs.Delays.{one_narrowed, two_narrowed, was_within}
use Rattle.narrowing.proofs.Nets.{narrowed_nets_long, wires_fit}

-- An instance has the kind of another, and two delays exactly where that has.
pub record IsShaped (i j : Instance) : Type 0 where
  pub kind : j.kind ≡ i.kind
  pub one : i.split ≡ None → j.split ≡ None
  pub two : (s : Split) → i.split ≡ Some s → (r : Split) × (j.split ≡ Some r)

pub shaped_itself : (i : Instance) → IsShaped i i
shaped_itself i = record { kind = refl; one = λ e. e; two = λ s e. (s, e) }

-- ---- one part

-- the run obeys an instance that has the shape of another
record Stands (c : Circuit) (run : Run) (i j : Instance) (choice : Choice) : Type 0 where
  at : IsRunAt c run j choice
  shaped : IsShaped i j

by_rise : (c : Circuit) (run : Run) (i j : Instance) (choice : Choice) (d : Bounds) (s : Split) (split : Option Split) →
    may_split i.kind ≡ true → i.split ≡ Some s → j.split ≡ split → Within d choice.rise →
    Stands c run i j choice → Stands c run i (with_rise j split d) choice
by_rise c run i j choice d s None may two is rise st = st
by_rise c run i j choice d s (Some r) may two is rise st =
    let may_too : may_split j.kind ≡ true = ap may_split st.shaped.kind ∙ may in
    let both = was_within c run j choice r may_too is st.at in
    record {
      at = two_narrowed c run j choice r (record { rise = d; fall = r.fall }) may_too is rise both.1 st.at;
      shaped = record {
        kind = st.shaped.kind;
        one = λ none. cc;
        two = λ t e. (record { rise = d; fall = r.fall }, refl);
      };
    }

by_fall : (c : Circuit) (run : Run) (i j : Instance) (choice : Choice) (d : Bounds) (s : Split) (split : Option Split) →
    may_split i.kind ≡ true → i.split ≡ Some s → j.split ≡ split → Within d choice.fall →
    Stands c run i j choice → Stands c run i (with_fall j split d) choice
by_fall c run i j choice d s None may two is fall st = st
by_fall c run i j choice d s (Some r) may two is fall st =
    let may_too : may_split j.kind ≡ true = ap may_split st.shaped.kind ∙ may in
    let both = was_within c run j choice r may_too is st.at in
    record {
      at = two_narrowed c run j choice r (record { rise = r.rise; fall = d }) may_too is both.0 fall st.at;
      shaped = record {
        kind = st.shaped.kind;
        one = λ none. cc;
        two = λ t e. (record { rise = r.rise; fall = d }, refl);
      };
    }

module _ (c : Circuit) (values : List CaseValue) (run : Run) (k : ℕ) (i : Instance) (choice : Choice)
    (here : slice_get c.instances k ≡ Some i) (chosen : slice_get run.choices k ≡ Some choice) where
  -- the instance of a part that is of this number is this one
  same_instance : (q : ℕ) (j : Instance) → (q == k) ≡ true → slice_get c.instances q ≡ Some j → j ≡ i
  same_instance q j is there =
      let moved : slice_get c.instances k ≡ Some j = subst (λ n. slice_get c.instances n ≡ Some j) (eqb-true q k is) there in
      cc

  picked : (q : ℕ) (delay : Choice → ℕ) (d : Bounds) → (q == k) ≡ true → Picks run q delay d → Within d (delay choice)
  picked q delay d is picks =
      picks choice (subst (λ n. slice_get run.choices n ≡ Some choice) (sym (eqb-true q k is)) chosen)

  stands_by : (p : Part) (j : Instance) → PartFits c values p → KeepsTo c run p → Stands c run i j choice →
      Stands c run i (by_part k j p) choice
  stands_by (Constant net one) j fits keeps st = st
  stands_by (Offset net least greatest) j fits keeps st = st
  stands_by (Delay q least greatest) j fits keeps st =
      cond_both (q == k) (record j { delay = between least greatest }) j (λ x. Stands c run i x choice)
      (λ is.
      let same : fits.instance ≡ i = same_instance q fits.instance is fits.there in
      let has = subst (λ x. HasOneDelay x least greatest) same fits.is in
      record {
        at = one_narrowed c run j choice (between least greatest)
            (subst (λ kind. HasDelay (form_of kind)) (sym st.shaped.kind) has.has) (st.shaped.one has.one)
            (picked q (λ (x : Choice). x.delay) (between least greatest) is keeps) st.at;
        shaped = record {
          kind = st.shaped.kind;
          one = st.shaped.one;
          two = st.shaped.two;
        };
      })
      (λ apart. st)
  stands_by (Rise q least greatest) j fits keeps st =
      cond_both (q == k) (with_rise j j.split (between least greatest)) j (λ x. Stands c run i x choice)
      (λ is.
      let same : fits.instance ≡ i = same_instance q fits.instance is fits.there in
      let has = subst (λ x. HasTwoDelays x (λ (s : Split). s.rise) least greatest) same fits.is in
      by_rise c run i j choice (between least greatest) has.split j.split has.may has.two refl
      (picked q (λ (x : Choice). x.rise) (between least greatest) is keeps) st)
      (λ apart. st)
  stands_by (Fall q least greatest) j fits keeps st =
      cond_both (q == k) (with_fall j j.split (between least greatest)) j (λ x. Stands c run i x choice)
      (λ is.
      let same : fits.instance ≡ i = same_instance q fits.instance is fits.there in
      let has = subst (λ x. HasTwoDelays x (λ (s : Split). s.fall) least greatest) same fits.is in
      by_fall c run i j choice (between least greatest) has.split j.split has.may has.two refl
      (picked q (λ (x : Choice). x.fall) (between least greatest) is keeps) st)
      (λ apart. st)

  stands_by_all : (parts : List Part) (j : Instance) → AllByRecursion (PartFits c values) parts →
      AllByRecursion (KeepsTo c run) parts → Stands c run i j choice → Stands c run i (by_parts k j parts) choice
  stands_by_all [] j fit keep st = st
  stands_by_all (p ∷ ps) j fit keep st =
      stands_by_all ps (by_part k j p) fit.1 keep.1 (stands_by p j fit.0 keep.0 st)

  pub obeys_narrowed : (parts : List Part) → All (PartFits c values) parts → All (KeepsTo c run) parts →
      IsRunAt c run i choice → IsRunAt c run (by_parts k i parts) choice
  obeys_narrowed parts fit keep at =
      (stands_by_all parts i (recursion_from_All (PartFits c values) parts fit)
      (recursion_from_All (KeepsTo c run) parts keep) (record { at = at; shaped = shaped_itself i })).at

-- ---- all instances

pub narrowed_length : (parts : List Part) (k : ℕ) (js : List Instance) → length (narrowed_from parts k js) ≡ length js
narrowed_length parts k [] = refl
narrowed_length parts k (j ∷ js) = ap suc (narrowed_length parts (k + 1) js)

-- the instance of a number is the narrowed one of the same number
narrowed_at : (parts : List Part) (from k : ℕ) (js : List Instance) (j : Instance) →
    slice_get (narrowed_from parts from js) k ≡ Some j →
    (i : Instance) × (slice_get js k ≡ Some i) × (j ≡ by_parts (from + k) i parts)
narrowed_at parts from k [] j is = cc
narrowed_at parts from zero (i ∷ js) j is =
    let same : by_parts from i parts ≡ j = cc in
    (i, refl, sym same ∙ ap (λ n. by_parts n i parts) (sym (the_same from)))
  where
    the_same : (n : ℕ) → n + 0 ≡ n
    the_same n = omega arith
narrowed_at parts from (suc k) (i ∷ js) j is =
    let rest = narrowed_at parts (from + 1) k js j is in
    (rest.0, rest.1, rest.2 ∙ ap (λ n. by_parts n rest.0 parts) (next from k))
  where
    next : (n m : ℕ) → n + 1 + m ≡ n + suc m
    next n m = omega arith

-- at one instance a run asks of its circuit the wires of nets alone
again : (c : Circuit) (parts : List Part) (run : Run) (j : Instance) (choice : Choice) → IsRunAt c run j choice →
    IsRunAt (narrowed c parts) run j choice
again c parts run j choice at = record {
  delay = at.delay;
  wires = wires_fit c.header parts c.nets j.pins choice.wires at.wires;
  obeys = at.obeys;
}

pub narrowed_run : (c : Circuit) (values : List CaseValue) (parts : List Part) (run : Run) →
    All (PartFits c values) parts → IsRun c run → All (KeepsTo c run) parts → IsRun (narrowed c parts) run
narrowed_run c values parts run fit is keep = record {
  nets = is.nets ∙ sym (narrowed_nets_long c.header parts 0 c.nets);
  long = is.long;
  instances = is.instances ∙ sym (narrowed_length parts 0 c.instances);
  at = λ k j choice there chosen.
      let from = narrowed_at parts 0 k c.instances j there in
      again c parts run j choice
      (subst (λ x. IsRunAt c run x choice) (sym (from.2 ∙ ap (λ n. by_parts n from.0 parts) (zero-add k)))
      (obeys_narrowed c values run k from.0 choice from.1 chosen parts fit keep (is.at k from.0 choice from.1 chosen)));
}
