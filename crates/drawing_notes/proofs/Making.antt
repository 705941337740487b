-- What makes a net rise and fall, by what is known of its driver.
use Rattle.std.proofs.Common.{◌≡◌, ◌∙◌, ℕ, Bool, true, false, cond, List, sym, ap, refl, slice_get, Option, Some, None}
use Rattle.std.proofs.lemmas.Option.{slice_get_within}
use Rattle.step_values.specs.declared.value.Value.{Value}
use Rattle.skew_algebra.specs.Wave.{Wave}
use Rattle.flat_circuit.specs.declared.instance.Instance.{Instance}
use Rattle.flat_circuit.specs.Circuit.{Circuit, driver, driver_at, instance_in}
use Rattle.fixpoint_engine.specs.Settled.{marked_in}
use Rattle.fixpoint_engine.specs.Waves.{Waves, waves_of}
use Rattle.drawing_notes.specs.declared.launched.Edges.{Edges}
use Rattle.drawing_notes.specs.Arrivals.{both_edges, made_at, made_by, no_edges, passed}
use Rattle.drawing_notes.specs.Passing.{is_passable, keeps_at, keeps_mark}
use Rattle.drawing_notes.specs.Pins.{is_storage, passes}
use Rattle.drawing_notes.specs.Seen.{Sees}

module _ (c : Circuit) (looped : ℕ → Bool) (waves : List (Wave Value)) (within held : List Bool) (edges : ℕ → Edges) (net : ℕ)
    (sees : Sees c looped waves within held) where
  abbrev made : Edges
  made = made_at c looped (waves_of waves) edges net

  pub made_shut : marked_in within net ≡ false → no_edges ≡ made
  made_shut is =
      sym (ap (λ b. cond b (made_by c (waves_of waves) edges (driver_at c.nets net) (driver c net)) no_edges) (sym (sees.nets.are net) ∙ is))

  module _ (inside : marked_in within net ≡ true) where
    by_driver : made ≡ made_by c (waves_of waves) edges (driver_at c.nets net) (driver c net)
    by_driver = ap (λ b. cond b (made_by c (waves_of waves) edges (driver_at c.nets net) (driver c net)) no_edges) (sym (sees.nets.are net) ∙ inside)

    -- by the number of the driver
    abbrev by_number : Option ℕ → Edges
    by_number k = made_by c (waves_of waves) edges k (instance_in c k)

    pub made_undriven : driver_at c.nets net ≡ None → no_edges ≡ made
    made_undriven is = sym (by_driver ∙ ap by_number is)

    module _ (k : ℕ) (driven : driver_at c.nets net ≡ Some k) where
      abbrev by_instance : Option Instance → Edges
      by_instance j = made_by c (waves_of waves) edges (Some k) j

      pub made_lost : slice_get c.instances k ≡ None → no_edges ≡ made
      made_lost is = sym (by_driver ∙ ap by_number driven ∙ ap by_instance is)

      module _ (j : Instance) (at : slice_get c.instances k ≡ Some j) where
        here : made ≡ by_instance (Some j)
        here = by_driver ∙ ap by_number driven ∙ ap by_instance at

        pub made_kept : is_storage j.kind ≡ true → both_edges (λ rise. Some (record { ticks = j.delay.max; storage = k })) ≡ made
        made_kept is =
            sym (here ∙ ap (λ b. cond b (both_edges (λ rise. Some (record { ticks = j.delay.max; storage = k })))
            (cond (passes j.kind) (both_edges (passed c (keeps_mark c (waves_of waves) j) (waves_of waves) edges j)) no_edges)) is)

        module _ (unkept : is_storage j.kind ≡ false) where
          unstored : made ≡ cond (passes j.kind) (both_edges (passed c (keeps_mark c (waves_of waves) j) (waves_of waves) edges j)) no_edges
          unstored =
              here ∙ ap (λ b. cond b (both_edges (λ rise. Some (record { ticks = j.delay.max; storage = k })))
              (cond (passes j.kind) (both_edges (passed c (keeps_mark c (waves_of waves) j) (waves_of waves) edges j)) no_edges)) unkept

          pub made_nothing : passes j.kind ≡ false → no_edges ≡ made
          made_nothing is =
              sym (unstored ∙ ap (λ b. cond b (both_edges (passed c (keeps_mark c (waves_of waves) j) (waves_of waves) edges j)) no_edges) is)

          pub made_passed : passes j.kind ≡ true → both_edges (passed c (marked_in held k) (waves_of waves) edges j) ≡ made
          made_passed is =
              (λ t. both_edges (passed c (keeps t) (waves_of waves) edges j))
              ∙ sym (unstored ∙ ap (λ b. cond b (both_edges (passed c (keeps_mark c (waves_of waves) j) (waves_of waves) edges j)) no_edges) is)
            where
              keeps : marked_in held k ≡ keeps_mark c (waves_of waves) j
              keeps = sees.marks k (slice_get_within c.instances k j at) ∙ ap (keeps_at c (waves_of waves)) at
