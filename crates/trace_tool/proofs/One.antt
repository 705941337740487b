-- There is one verdict: the first stray net, and the first break.
use Rattle.std.proofs.Common.{◌≡◌, ℕ, ◌<◌, ap, sym, subst, inl, inr}
use Rattle.std.specs.Prelude.{◌⊎◌}
use Rattle.std.proofs.lemmas.Bool.{cases_order}
use Rattle.flat_circuit.specs.Name.{net_at}
use Rattle.flat_circuit.specs.Circuit.{Circuit}
use Rattle.flat_circuit.specs.Run.{Run}
use Rattle.fixpoint_engine.specs.Interface.{MeetsInterface}
use Rattle.trace_tool.specs.declared.element.Element.{Element}
use Rattle.trace_tool.specs.declared.element.Element.TheVariants.{Instance as OfInstance, Net as OfNet}
use Rattle.trace_tool.specs.Break.{BreaksBy, BreaksFirst, BreaksNever, Precedes}
use Rattle.trace_tool.specs.Interface.{StraysFirst}
use Rattle.trace_tool.proofs.Soonest.{breaks_by}

-- ---- inputs

pub one_stray : (c : Circuit) (run : Run) (place other : ℕ) → StraysFirst c run place → StraysFirst c run other → place ≡ other
one_stray c run place other f g = elim (cases_order place other) as (λ _. place ≡ other) [
  | inl same ↦ same
  | inr apart ↦ elim apart as (λ _. place ≡ other) [
    | inl before ↦ absurd (g.no_other place before f.at)
    | inr after ↦ absurd (f.no_other other after g.at)
  ]
]

pub not_met : (c : Circuit) (run : Run) (place : ℕ) → StraysFirst c run place → MeetsInterface c run → ⊥
not_met c run place f meets =
    let at = f.at in at.strays (meets (net_at c.order place) at.net at.net_is at.undriven)

-- ---- breaks

-- one of two elements comes first, or they are one
in_turn : (e o : Element) → (e ≡ o) ⊎ (Precedes e o ⊎ Precedes o e)
in_turn (OfInstance j) (OfInstance k) = elim (cases_order j k) as (λ _. (OfInstance j ≡ OfInstance k) ⊎ ((j < k) ⊎ (k < j))) [
  | inl same ↦ inl (ap OfInstance same)
  | inr apart ↦ inr apart
]
in_turn (OfInstance j) (OfNet place) = inr (inl tt)
in_turn (OfNet place) (OfInstance k) = inr (inr tt)
in_turn (OfNet place) (OfNet other) = elim (cases_order place other) as (λ _. (OfNet place ≡ OfNet other) ⊎ ((place < other) ⊎ (other < place))) [
  | inl same ↦ inl (ap OfNet same)
  | inr apart ↦ inr apart
]

pub record AreOne (last t : ℕ) (e o : Element) : Type 0 where
  pub ticks : last ≡ t
  pub elements : e ≡ o

pub one_break : (c : Circuit) (run : Run) (from last t : ℕ) (e o : Element) → BreaksFirst c run from last e →
    BreaksFirst c run from t o → AreOne last t e o
one_break c run from last t e o f g = elim (cases_order last t) as (λ _. AreOne last t e o) [
  | inl same ↦ record { ticks = same; elements = one_element same }
  | inr apart ↦ elim apart as (λ _. AreOne last t e o) [
    | inl sooner ↦ absurd (g.no_sooner e last sooner f.at)
    | inr later ↦ absurd (f.no_sooner o t later g.at)
  ]
]
  where
    one_element : last ≡ t → e ≡ o
    one_element same = elim (in_turn e o) as (λ _. e ≡ o) [
      | inl one ↦ one
      | inr apart ↦ elim apart as (λ _. e ≡ o) [
        | inl before ↦ absurd (g.no_other e before (subst (λ (u : ℕ). BreaksBy c run from u e) same f.at))
        | inr after ↦ absurd (f.no_other o after (subst (λ (u : ℕ). BreaksBy c run from u o) (sym same) g.at))
      ]
    ]

-- what is broken up to a tick is broken
pub not_unbroken : (c : Circuit) (run : Run) (from last : ℕ) (e : Element) → BreaksFirst c run from last e →
    BreaksNever c run from → ⊥
not_unbroken c run from last e f never = never e (breaks_by c run.ticks run.choices run.bits from e last f.at)
