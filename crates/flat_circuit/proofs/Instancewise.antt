-- A run goes by its instances.
use Rattle.std.proofs.Common.{◌≡◌, ℕ, zero, suc, ◌+◌, ◌<◌, ◌⊎◌, inl, inr, List, [], ◌∷◌, ◌++◌, length, refl, sym, ap, subst, ◌∙◌, arith, ⊎_elim, slice_get, Some, length-append}
use Rattle.std.proofs.lemmas.Option.{slice_get_within}
use Rattle.flat_circuit.specs.declared.instance.Instance.{Instance}
use Rattle.flat_circuit.specs.Circuit.{Circuit}
use Rattle.flat_circuit.specs.Run.{Run, Choice, IsRunAt, IsRun}
use Rattle.flat_circuit.specs.Laws.{with_instance, with_choice, RunsGoByInstances}

-- ---- a list with one more at its end

module _ {X : Type 0} (x : X) where
  get_before : (xs : List X) (k : ℕ) (y : X) → slice_get xs k ≡ Some y →
      slice_get (xs ++ x ∷ []) k ≡ Some y
  get_before [] k y here = cc
  get_before (z ∷ zs) zero y here = here
  get_before (z ∷ zs) (suc k) y here = get_before zs k y here

  get_last : (xs : List X) → slice_get (xs ++ x ∷ []) (length xs) ≡ Some x
  get_last [] = refl
  get_last (z ∷ zs) = get_last zs

  get_split : (xs : List X) (k : ℕ) (y : X) → slice_get (xs ++ x ∷ []) k ≡ Some y →
      (slice_get xs k ≡ Some y) ⊎ ((k ≡ length xs) × (x ≡ y))
  get_split [] zero y here = inr (refl, (cc))
  get_split [] (suc k) y here = cc
  get_split (z ∷ zs) zero y here = inl here
  get_split (z ∷ zs) (suc k) y here =
      ⊎_elim (λ (found : slice_get zs k ≡ Some y). inl found)
      (λ (last : (k ≡ length zs) × (x ≡ y)). inr (ap suc last.0, last.1)) (get_split zs k y here)

-- ---- runs

-- what is asked of an instance speaks of nets and bits alone
again : (c : Circuit) (run : Run) (i : Instance) (choice : Choice) (j : Instance) (other : Choice) →
    IsRunAt c run j other → IsRunAt (with_instance c i) (with_choice run choice) j other
again c run i choice j other at =
    record { delay = at.delay; wires = at.wires; obeys = at.obeys }

before : (c : Circuit) (run : Run) (i : Instance) (choice : Choice) (j : Instance) (other : Choice)
    →
    IsRunAt (with_instance c i) (with_choice run choice) j other → IsRunAt c run j other
before c run i choice j other at =
    record { delay = at.delay; wires = at.wires; obeys = at.obeys }

more_at : (c : Circuit) (run : Run) (i : Instance) (choice : Choice) → IsRun c run →
    IsRunAt c run i choice → (k : ℕ) (j : Instance) (other : Choice) →
    slice_get (c.instances ++ i ∷ []) k ≡ Some j →
    slice_get (run.choices ++ choice ∷ []) k ≡ Some other →
    IsRunAt c run j other
more_at c run i choice h at k j other here chosen =
    let same : length run.choices ≡ length c.instances = h.instances in
    ⊎_elim
    (λ (found : slice_get c.instances k ≡ Some j). ⊎_elim
    (λ (taken : slice_get run.choices k ≡ Some other). h.at k j other found taken)
    (λ (last : (k ≡ length run.choices) × (choice ≡ other)).
    let less : k < length c.instances = slice_get_within c.instances k j found in
    let end : k ≡ length run.choices = last.0 in absurd (omega arith))
    (get_split choice run.choices k other chosen))
    (λ (last : (k ≡ length c.instances) × (i ≡ j)). ⊎_elim
    (λ (taken : slice_get run.choices k ≡ Some other).
    let less : k < length run.choices = slice_get_within run.choices k other taken in
    let end : k ≡ length c.instances = last.0 in absurd (omega arith))
    (λ (end : (k ≡ length run.choices) × (choice ≡ other)).
    subst (λ (x : Instance). IsRunAt c run x other) last.1
    (subst (λ (x : Choice). IsRunAt c run i x) end.1 at))
    (get_split choice run.choices k other chosen))
    (get_split i c.instances k j here)

longer : {X : Type 0} (x : X) (xs : List X) → length (xs ++ x ∷ []) ≡ length xs + 1
longer x xs = length-append xs (x ∷ [])

same_length : (c : Circuit) (run : Run) (i : Instance) (choice : Choice) →
    IsRun (with_instance c i) (with_choice run choice) → length run.choices ≡ length c.instances
same_length c run i choice h =
    let longer_choices : length (run.choices ++ choice ∷ []) ≡ length run.choices + 1 =
    longer choice run.choices in
    let longer_instances : length (c.instances ++ i ∷ []) ≡ length c.instances + 1 =
    longer i c.instances in
    let same : length (run.choices ++ choice ∷ []) ≡ length (c.instances ++ i ∷ []) = h.instances in
    omega arith

pub runs_go_by_instances : RunsGoByInstances
runs_go_by_instances = record {
  more = λ c run i choice h at. record {
    nets = h.nets;
    long = h.long;
    instances =
        longer choice run.choices ∙ ap (λ n. n + 1) h.instances ∙ sym (longer i c.instances);
    at =
        λ k j other here chosen. again c run i choice j other
        (more_at c run i choice h at k j other here chosen);
  };
  fewer = λ c run i choice h. (
    record {
      nets = h.nets;
      long = h.long;
      instances = same_length c run i choice h;
      at = λ k j other here chosen. before c run i choice j other
          (h.at k j other (get_before i c.instances k j here)
          (get_before choice run.choices k other chosen));
    },
    before c run i choice i choice (h.at (length c.instances) i choice (get_last i c.instances)
        (subst (λ (n : ℕ). slice_get (run.choices ++ choice ∷ []) n ≡ Some choice)
        (same_length c run i choice h) (get_last choice run.choices))),
  );
}
