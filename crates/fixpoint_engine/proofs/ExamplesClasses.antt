-- Classes of nets, and what goes for all nets of one, worked out on paper.
use Rattle.std.specs.Prelude.{◌≡◌, ℕ, zero, suc, ◌<◌, ◌==◌, Bool, true, false, List, [], ◌∷◌, Some, None}
use Rattle.std.proofs.Common.{◌&&◌, ◌||◌, if◌then◌else◌, refl, sym, ap, ◌∙◌, arith}
use Rattle.std.proofs.lemmas.Bool.{eqb-true, false_from_ne_true}
use Rattle.scald_base.specs.declared.assertion.AssertSpec.TheVariants.{None as Unasserted}
use Rattle.step_values.specs.declared.value.Value.{Value}
use Rattle.step_values.specs.declared.value.Value.TheVariants.{S, C}
use Rattle.skew_algebra.specs.Wave.{Wave, skewed}
use Rattle.flat_circuit.specs.declared.net.Net.{Net}
use Rattle.flat_circuit.specs.Circuit.{Circuit}
use Rattle.flat_circuit.specs.Alike.{class_of}
use Rattle.fixpoint_engine.specs.Same.{same_wave}
use Rattle.fixpoint_engine.specs.Settled.{marked_in}
use Rattle.fixpoint_engine.specs.Work.{is_due}
use Rattle.fixpoint_engine.specs.Classes.{HaveOneWave, AreTogether, GoTogether, is_first, due_classes, class_work_to}
use Rattle.fixpoint_engine.specs.Members.{last_below, members_below, for_class, for_classes}
use Rattle.fixpoint_engine.specs.Worklist.{IsQueue, Adds}

abbrev still : Wave Value
still = skewed (S ∷ S ∷ []) 0

abbrev moving : Wave Value
moving = skewed (S ∷ C ∷ []) 0

-- the nets 0 and 2 are of one class, and the net 1 is of another
abbrev classes : List ℕ
classes = 7 ∷ 3 ∷ 7 ∷ []

abbrev net : Net
net = record { name = []; bit = 0; spec = Unasserted; wire = record { min = 0; max = 0 }; driver = None }

abbrev circuit : Circuit
circuit = record {
  header = record {
    units = 2;
    ticks = 1;
    wire = record { min = 0; max = 0 };
    pskew = (0, 0);
    cskew = (0, 0);
  };
  nets = net ∷ net ∷ net ∷ [];
  instances = [];
  order = [];
}

-- ---- nets of one class

-- whether a net is one that is given
abbrev only : ℕ → ℕ → Bool
only net i = i == net

one_of_two_alone : ¬ AreTogether circuit classes (only 0)
one_of_two_alone together =
    let clash : true ≡ false = together 0 2 (omega arith) (omega arith) refl in
    cc

alone_in_its_class : AreTogether circuit classes (only 1)
alone_in_its_class i j below below' same = by i below ∙ ap (λ (class : ℕ). 3 == class) same ∙ sym (by j below')
  where
    -- the net of class 3 is net 1
    by : (i : ℕ) → i < 3 → only 1 i ≡ (3 == class_of classes i)
    by zero below = refl
    by (suc zero) below = refl
    by (suc (suc zero)) below = refl
    by (suc (suc (suc i))) below = absurd (omega (arith, below))

one_wave_for_all : HaveOneWave circuit classes (λ i. moving)
one_wave_for_all i j below below' same = refl

two_waves_in_a_class : ¬ HaveOneWave circuit classes (λ i. if i == 2 then moving else still)
two_waves_in_a_class one =
    let waves : still ≡ moving = one 0 2 (omega arith) (omega arith) refl in
    let clash : true ≡ false = (λ t. same_wave still (waves t)) in
    cc

-- from round 3 on the net 2 goes its own way
own_way : ¬ GoTogether circuit classes (λ i. true) (λ r i. if (r == 3) && (i == 2) then moving else still)
own_way together =
    let waves : still ≡ moving = together.waves 3 0 2 (omega arith) (omega arith) refl in
    let clash : true ≡ false = (λ t. same_wave still (waves t)) in
    cc

due_alone : ¬ GoTogether circuit classes (only 0) (λ r i. still)
unfolding is_due
due_alone together =
    let clash : true ≡ false = together.due 1 0 2 (omega arith) (omega arith) refl in
    cc

-- ---- what is evaluated for each class

net_0_is_first : is_first classes 0 ≡ true
net_0_is_first = refl

net_1_is_first : is_first classes 1 ≡ true
net_1_is_first = refl

net_2_is_not_first : is_first classes 2 ≡ false
net_2_is_not_first = refl

both_classes_in_round_1 : due_classes circuit classes (λ i. true) (λ r i. still) 1 ≡ 2
unfolding is_due
both_classes_in_round_1 = refl

one_class_in_round_1 : due_classes circuit classes (only 1) (λ r i. still) 1 ≡ 1
unfolding is_due
one_class_in_round_1 = refl

no_work_in_round_0 : class_work_to circuit classes (λ i. true) (λ r i. still) 0 ≡ 0
unfolding class_work_to
no_work_in_round_0 = refl

-- nothing listens, so that no class is due again
work_of_two_rounds : class_work_to circuit classes (λ i. true) (λ r i. still) 2 ≡ 2
unfolding is_due class_work_to
work_of_two_rounds = refl

-- ---- the nets of a class

last_of_its_class : last_below classes 7 3 ≡ Some 2
unfolding last_below
last_of_its_class = refl

last_before_net_2 : last_below classes 7 2 ≡ Some 0
unfolding last_below
last_before_net_2 = refl

none_before_net_1 : last_below classes 3 1 ≡ None
unfolding last_below
none_before_net_1 = refl

from_the_last_to_the_first : members_below classes 7 3 ≡ 2 ∷ 0 ∷ []
unfolding members_below
from_the_last_to_the_first = refl

no_net_of_a_class_that_is_not_there : members_below classes 4 3 ≡ []
unfolding members_below
no_net_of_a_class_that_is_not_there = refl

change_of_both : for_class classes (0, moving) ≡ (2, moving) ∷ (0, moving) ∷ []
unfolding members_below
change_of_both = refl

changes_of_two_classes : for_classes classes ((1, still) ∷ (2, moving) ∷ []) ≡ (1, still) ∷ (2, moving) ∷ (0, moving) ∷ []
unfolding members_below
changes_of_two_classes = refl

-- ---- nets that wait

waits_once : ¬ IsQueue (record { nets = 1 ∷ 1 ∷ []; marks = false ∷ true ∷ [] })
waits_once q =
    let clash : 2 ≡ 1 = q.once in
    omega (arith, clash)

-- net 0 stands in the list without its mark
is_marked : ¬ IsQueue (record { nets = 0 ∷ []; marks = false ∷ true ∷ [] })
is_marked q =
    let clash : false ≡ true = (q.are 0).1 (0, omega arith, refl) in
    cc

adds_a_net : Adds (only 1) (record { nets = []; marks = true ∷ false ∷ [] }) (record { nets = []; marks = true ∷ true ∷ [] })
adds_a_net = record { each_net = refl; marks = each }
  where
    each : (i : ℕ) → marked_in (true ∷ true ∷ []) i ≡ (marked_in (true ∷ false ∷ []) i || only 1 i)
    each zero = refl
    each (suc zero) = refl
    each (suc (suc i)) =
        sym (false_from_ne_true (only 1 (suc (suc i))) (λ is. let one : suc (suc i) ≡ 1 = eqb-true (suc (suc i)) 1 is in omega (arith, one)))

forgets_the_old_ones : ¬ Adds (only 1) (record { nets = []; marks = true ∷ false ∷ [] }) (record { nets = []; marks = false ∷ true ∷ [] })
forgets_the_old_ones adds =
    let clash : false ≡ true = adds.marks 0 in
    cc
