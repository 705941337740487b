-- The greatest skews and ticks, and the latest arrivals, in one case after the other.
use Rattle.std.proofs.Common.{◌≡◌, ℕ, ◌+◌, ◌<◌, ◌≤◌, ◌*◌, ◌⊎◌, Bool, true, false, cond, List, [], ◌∷◌, ◌++◌, length, map, replicate, sym, ap, subst, ◌∙◌, arith, inl, inr, refl, Option, Some, None}
use Rattle.std.specs.Prelude.{max}
use Rattle.std.specs.List.{Contains}
use Rattle.std.proofs.lemmas.Bool.{cases_lt}
use Rattle.std.proofs.lemmas.List.{map-append, get_or_past}
use Rattle.std.proofs.lemmas.List.Elements.{Contains-append_left, Contains-push, Contains-push_cases}
use Rattle.step_values.specs.declared.value.Value.{Value}
use Rattle.skew_algebra.specs.Wave.{Wave, skewed}
use Rattle.flat_circuit.specs.Circuit.{Circuit}
use Rattle.fixpoint_engine.specs.Settled.{marked_in}
use Rattle.fixpoint_engine.specs.Waves.{Waves, waves_of}
use Rattle.timing_analysis.specs.Case.{Case}
use Rattle.macro_expander.specs.Primitives.{greatest}
use Rattle.drawing_notes.specs.declared.doubts.Doubt.{Doubt}
use Rattle.drawing_notes.specs.declared.launched.Arrival.{Arrival}
use Rattle.drawing_notes.specs.declared.launched.Edges.{Edges}
use Rattle.drawing_notes.specs.Arrivals.{AreRaisedBy, AreSmall, AreUpTo, EachEdge, IsUpTo, TellsEdges, arrival_at, edges_at, later, no_edges}
use Rattle.drawing_notes.specs.Common.{AreRaised, AreRaisedTicks, common_ticks, skew_at, skew_in, skew_of, ticks_by, ticks_in, ticks_of}
use Rattle.drawing_notes.specs.Doubts.{AreCommon, doubt_at, is_common_by}
use Rattle.drawing_notes.specs.Paths.{AreLatest, Comes, Launches, TellsArrivals}
use Rattle.drawing_notes.proofs.Latest.{latest_of_two}
use Rattle.drawing_notes.proofs.Small.{later_small}
use Rattle.drawing_notes.proofs.Stepped.{SteppedTo}
use Rattle.drawing_omissions.proofs.Written.{same_at}

greatest_push : (ns : List ℕ) (n : ℕ) → greatest (ns ++ n ∷ []) ≡ max (greatest ns) n
greatest_push [] n = omega arith
greatest_push (m ∷ ns) n = let rest = greatest_push ns n in omega (arith, rest)

-- ---- skews

-- a skew, after one case more
abbrev pub raised : List (Wave Value) → ℕ → ℕ → ℕ
raised waves k before = max before (waves_of waves k).skew

pub raised_all : (waves : List (Wave Value)) (old : List ℕ) (n : ℕ) (now : List ℕ) → length old ≡ length waves → length old ≤ n →
    SteppedTo 0 (raised waves) old n now → AreRaised waves old now
raised_all waves old n now fit whole is = record {
  long = is.long;
  are = λ i. elim (cases_lt i n) [
    | inl below ↦ is.before i below
    | inr past ↦
        let none : (waves_of waves i).skew ≡ 0 = ap (λ (w : Wave Value). w.skew) (get_or_past waves i (skewed [] 0) (omega (arith, past, whole, fit))) in
        is.after i past ∙ (omega (arith, none))
  ];
}

-- from none on
pub skews_are : (waves : List (Wave Value)) (n : ℕ) (old new : List ℕ) → old ≡ replicate n 0 → AreRaised waves old new → skew_at new ≡ skew_in (waves_of waves)
skews_are waves n old new none is = λ k i. each i k
  where
    each : (i : ℕ) → skew_at new i ≡ skew_in (waves_of waves) i
    each i = is.are i ∙ ap (λ b. max b (waves_of waves i).skew) (ap (λ (xs : List ℕ). skew_at xs i) none ∙ same_at 0 n i) ∙ omega arith

-- ---- ticks

abbrev pub more_ticks : Circuit → (ℕ → ℕ) → List Bool → ℕ → ℕ → ℕ
more_ticks c skew common k before = max before (ticks_by c skew k (marked_in common k))

by_common : (c : Circuit) (skew : ℕ → ℕ) (launched : ℕ → ℕ → Bool) (k : ℕ) (o : Option Doubt) → doubt_at c skew k ≡ o →
    ticks_by c skew k (is_common_by launched o) ≡ ticks_of skew launched o
by_common c skew launched k None is = refl
by_common c skew launched k (Some d) is = by (launched d.clock d.input)
  where
    by : (b : Bool) → ticks_by c skew k b ≡ cond b (skew d.clock) 0
    by true = ap (λ o. skew_of skew o) is
    by false = refl

pub ticks_all : (c : Circuit) (ws : Waves) (skew : ℕ → ℕ) (launched : ℕ → ℕ → Bool) (common : List Bool) (old now : List ℕ) (n : ℕ) → skew ≡ skew_in ws →
    AreCommon c launched skew common → length c.instances ≤ n → SteppedTo 0 (more_ticks c skew common) old n now → AreRaisedTicks c ws launched old now
ticks_all c ws skew launched common old now n skews are whole is = (
  is.long,
  λ k exists.
      is.before k (omega (arith, exists, whole))
      ∙ ap (λ b. max (skew_at old k) (ticks_by c skew k b)) (are k exists)
      ∙ ap (max (skew_at old k)) (by_common c skew launched k (doubt_at c skew k) refl)
      ∙ ap (λ (s : ℕ → ℕ). max (skew_at old k) (ticks_of s launched (doubt_at c s k))) skews,
)

pub ticks_case : (c : Circuit) (launched : Waves → ℕ → ℕ → Bool) (cases : List Case) (one : Case) (ws : Waves) (old new : List ℕ) → one.waves ≡ ws →
    AreRaisedTicks c ws (launched ws) old new → ((k : ℕ) → k < length c.instances → skew_at old k ≡ common_ticks c launched cases k) →
    (k : ℕ) → k < length c.instances → skew_at new k ≡ common_ticks c launched (cases ++ one ∷ []) k
ticks_case c launched cases one ws old new waves is before k exists =
    let tick : Case → ℕ = λ (case : Case). ticks_in c case.waves (launched case.waves) k in
    is.1 k exists ∙ ap (λ n. max n (ticks_in c ws (launched ws) k)) (before k exists)
    ∙ ap (λ (w : Waves). max (common_ticks c launched cases k) (ticks_in c w (launched w) k)) (sym waves)
    ∙ sym (greatest_push (map tick cases) (tick one))
    ∙ ap greatest (sym (map-append tick cases (one ∷ [])))

-- ---- arrivals

-- the latest at a net, raised to its rise and its fall
abbrev pub with_edges : List Edges → ℕ → Option Arrival → Option Arrival
with_edges edges net before = later before (later (edges_at edges net).rise (edges_at edges net).fall)

later_none : (o : Option Arrival) → o ≡ later o None
later_none None = refl
later_none (Some a) = refl

pub latest_all : (c : Circuit) (looped : ℕ → Bool) (ws : Waves) (edges : List Edges) (old now : List (Option Arrival)) (n : ℕ) → length edges ≡ length c.nets →
    length c.nets ≤ n → TellsEdges c looped ws (edges_at edges) → AreSmall (length c.nets) edges → SteppedTo None (with_edges edges) old n now →
    AreRaisedBy c looped ws old now
latest_all c looped ws edges old now n long whole tells small is = (
  is.long,
  λ net.
      let e = edges_at edges net in
      record {
        more = later e.rise e.fall;
        latest =
            latest_of_two (λ s t. Launches c looped ws s true net t) (λ s t. Launches c looped ws s false net t) (EachEdge c looped ws net) (split net)
            (λ s t launch. (true, launch)) (λ s t launch. (false, launch)) e.rise e.fall (tells net).rises (tells net).falls;
        small = later_small (131070 * length c.nets) e.rise e.fall (small net).0 (small net).1;
        is = here net;
      },
)
  where
    split : (net s t : ℕ) → EachEdge c looped ws net s t → Launches c looped ws s true net t ⊎ Launches c looped ws s false net t
    split net s t each = by each.0 each.1
      where
        by : (b : Bool) → Launches c looped ws s b net t → Launches c looped ws s true net t ⊎ Launches c looped ws s false net t
        by true launch = inl launch
        by false launch = inr launch

    here : (net : ℕ) → arrival_at now net ≡ later (arrival_at old net) (later (edges_at edges net).rise (edges_at edges net).fall)
    here net = elim (cases_lt net n) [
      | inl below ↦ is.before net below
      | inr past ↦
          let none : edges_at edges net ≡ no_edges = get_or_past edges net no_edges (omega (arith, past, whole, long)) in
          is.after net past ∙ later_none (arrival_at old net)
          ∙ ap (λ (e : Edges). later (arrival_at old net) (later e.rise e.fall)) (sym none)
    ]

module _ (c : Circuit) (looped : ℕ → Bool) (cases : List Case) (one : Case) (ws : Waves) (waves : one.waves ≡ ws) (net : ℕ) where
  comes_split : (s t : ℕ) → Comes c looped (cases ++ one ∷ []) net s t → Comes c looped cases net s t ⊎ EachEdge c looped ws net s t
  comes_split s t comes = elim (Contains-push_cases cases one comes.case comes.listed) [
    | inl before ↦ inl (record { case = comes.case; listed = before; rise = comes.rise; launches = comes.launches })
    | inr same ↦
        inr (comes.rise, subst (λ (w : Waves). Launches c looped w s comes.rise net t) (ap (λ (k : Case). k.waves) (sym same) ∙ waves) comes.launches)
  ]

  comes_before : (s t : ℕ) → Comes c looped cases net s t → Comes c looped (cases ++ one ∷ []) net s t
  comes_before s t comes = record { case = comes.case; listed = Contains-append_left cases (one ∷ []) comes.case comes.listed; rise = comes.rise; launches = comes.launches }

  comes_now : (s t : ℕ) → EachEdge c looped ws net s t → Comes c looped (cases ++ one ∷ []) net s t
  comes_now s t each = record {
    case = one;
    listed = Contains-push cases one;
    rise = each.0;
    launches = subst (λ (w : Waves). Launches c looped w s each.0 net t) (sym waves) each.1;
  }

  pub comes_more : (before more : Option Arrival) → AreLatest (Comes c looped cases net) before → AreLatest (EachEdge c looped ws net) more →
      AreLatest (Comes c looped (cases ++ one ∷ []) net) (later before more)
  comes_more = latest_of_two (Comes c looped cases net) (EachEdge c looped ws net) (Comes c looped (cases ++ one ∷ []) net) comes_split comes_before comes_now

pub arrivals_case : (c : Circuit) (looped : ℕ → Bool) (cases : List Case) (one : Case) (ws : Waves) (old new : List (Option Arrival)) → one.waves ≡ ws →
    AreRaisedBy c looped ws old new → TellsArrivals c looped cases (arrival_at old) → TellsArrivals c looped (cases ++ one ∷ []) (arrival_at new)
arrivals_case c looped cases one ws old new waves is before net =
    let raised_ = is.1 net in
    subst (AreLatest (Comes c looped (cases ++ one ∷ []) net)) (sym raised_.is)
    (comes_more c looped cases one ws waves net (arrival_at old net) raised_.more (before net) raised_.latest)

pub small_case : (c : Circuit) (looped : ℕ → Bool) (ws : Waves) (old new : List (Option Arrival)) → AreRaisedBy c looped ws old new →
    AreUpTo (131070 * length c.nets) old → AreUpTo (131070 * length c.nets) new
small_case c looped ws old new is before net =
    let raised_ = is.1 net in
    subst (IsUpTo (131070 * length c.nets)) (sym raised_.is)
    (later_small (131070 * length c.nets) (arrival_at old net) raised_.more (before net) raised_.small)

-- no case has anything
pub no_case : (c : Circuit) (looped : ℕ → Bool) (n : ℕ) (latest : List (Option Arrival)) → latest ≡ replicate n None → TellsArrivals c looped [] (arrival_at latest)
no_case c looped n latest none net =
    subst (AreLatest (Comes c looped [] net)) (sym (ap (λ (xs : List (Option Arrival)). arrival_at xs net) none ∙ same_at None n net))
    (λ s t comes. let below = comes.listed.1 in omega (arith, below))

pub none_small : (most n : ℕ) (latest : List (Option Arrival)) → latest ≡ replicate n None → AreUpTo most latest
none_small most n latest none net =
    subst (IsUpTo most) (sym (ap (λ (xs : List (Option Arrival)). arrival_at xs net) none ∙ same_at None n net)) tt
