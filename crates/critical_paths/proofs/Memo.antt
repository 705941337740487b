-- What was met stays known as more is met.
use Rattle.std.proofs.Common.{◌≡◌, ℕ, ◌+◌, ◌*◌, ◌<◌, Bool, true, false, ◌||◌, List, [], ◌∷◌, ◌++◌, length, slice_get, refl, sym, ap, subst, ◌∙◌, arith, Some, None, ℤ, pos, ◌+ℤ◌, inl, inr}
use Rattle.std.specs.List.{AllByRecursion}
use Rattle.std.proofs.lemmas.Bool.{or_left}
use Rattle.std.proofs.lemmas.Int.{ints}
use Rattle.critical_paths.specs.declared.direction.Corner.{Corner}
use Rattle.critical_paths.specs.declared.event.Stop.{Stop}
use Rattle.critical_paths.specs.declared.path.Passage.{Passage}
use Rattle.critical_paths.specs.declared.path.Origin.TheVariants.{Level, Earlier}
use Rattle.critical_paths.specs.declared.path.Node.{Node}
use Rattle.critical_paths.specs.declared.path.End.{End as Ending}
use Rattle.critical_paths.specs.declared.path.End.TheVariants.{Edge, Source as AtSource, Loop as InLoop, Nothing as ByNothing}
use Rattle.flat_circuit.specs.Circuit.{Circuit}
use Rattle.fixpoint_engine.specs.Waves.{Waves}
use Rattle.critical_paths.specs.Launch.{ticks_of}
use Rattle.critical_paths.specs.Walk.{origin_of, path_from, path_of_stop, same_stop, stop_count}
use Rattle.critical_paths.specs.Known.{Goes, IsShort, IsStop, IsAge, IsKnown, IsNear, Knows, Tells, are_met, last_on, node_before, path_known, rest_of, ticks_on, known_by}
use Rattle.critical_paths.proofs.Stops.{has_more, met_more, stop_is, stop_self}
use Rattle.critical_paths.proofs.Nodes.{get_more, rest_before, rest_more}
use Rattle.critical_paths.proofs.Trails.{ApartFrom, goes_before, goes_path}
use Rattle.critical_paths.proofs.Few.{few_links}

all_then : {X : Type 0} (P Q : X → Type 0) → ((x : X) → P x → Q x) → (xs : List X) →
    AllByRecursion P xs → AllByRecursion Q xs
all_then P Q then [] all = tt
all_then P Q then (x ∷ xs) all = (then x all.0, all_then P Q then xs all.1)

module _ (c : Circuit) (ws : Waves) where
  -- ---- more nodes, and more that pass

  pub tells_more : (nodes more : List Node) (some others : Stop → Bool) →
      ((q : Stop) → some q ≡ true → others q ≡ true) →
      (s : Stop) (n : Node) → Tells c ws nodes some s n → Tells c ws (nodes ++ more) others s n
  tells_more nodes more some others pass s n tells =
      let same : rest_of (nodes ++ more) n ≡ rest_of nodes n = rest_more nodes more n tells.count in
      record {
        of = tells.of;
        count = tells.count ∙ ap (λ (l : List Node). 1 + length l) (sym same);
        few = tells.few;
        goes = subst (λ (l : List Node). Goes c ws [] n.end n l) (sym same) tells.goes;
        age = subst (λ (l : List Node). IsAge c ws n.end (last_on n l) (ticks_on n l) n.age)
            (sym same) tells.age;
        near = tells.near;
        source = tells.source ∙ ap (λ (l : List Node). (last_on n l).net) (sym same);
        all = subst (λ (l : List Node). AllByRecursion (λ (m : Node). others m.stop ≡ true) (n ∷ l))
            (sym same)
            (all_then (λ (m : Node). some m.stop ≡ true) (λ (m : Node). others m.stop ≡ true)
            (λ m h. pass m.stop h) (n ∷ rest_of nodes n) tells.all);
      }

  pub known_more : (nodes more : List Node) (some others : Stop → Bool) →
      ((q : Stop) → some q ≡ true → others q ≡ true) →
      (s : Stop) (i : ℕ) → IsKnown c ws nodes some s i → IsKnown c ws (nodes ++ more) others s i
  known_more nodes more some others pass s i known =
      record {
        node = known.node;
        is = get_more nodes more i known.node known.is;
        tells = tells_more nodes more some others pass s known.node known.tells;
      }

  -- Nodes that come to the others change nothing of what is known.
  pub knows_more : (nodes more : List Node) (met : List (Stop × ℕ)) → Knows c ws nodes met →
      Knows c ws (nodes ++ more) met
  knows_more nodes more met knows =
      record {
        each = λ s i has. known_more nodes more (are_met met) (are_met met) (λ q h. h) s i
            (knows.each s i has);
      }

  -- one event more
  pub knows_one : (nodes : List Node) (met : List (Stop × ℕ)) (s : Stop) (i : ℕ) →
      Knows c ws nodes met →
      IsKnown c ws nodes (λ q. are_met met q || same_stop q s) s i →
      Knows c ws nodes (met ++ (s, i) ∷ [])
  knows_one nodes met s i knows known =
      record {
        each = λ t j has. elim (has_more met (s, i) t j has) [
          | inl old ↦ subst (λ (l : List Node). IsKnown c ws l (are_met (met ++ (s, i) ∷ [])) t j)
              (nil nodes)
              (known_more nodes [] (are_met met) (are_met (met ++ (s, i) ∷ []))
              (λ q h. met_more met (s, i) q ∙ or_left (are_met met q) (same_stop q s) h) t j
              (knows.each t j old))
          | inr new ↦ here t j new
        ];
      }
    where
      nil : (l : List Node) → l ++ [] ≡ l
      nil [] = refl
      nil (x ∷ l) = ap (λ m. x ∷ m) (nil l)

      own : IsKnown c ws nodes (are_met (met ++ (s, i) ∷ [])) s i
      own = subst (λ (l : List Node). IsKnown c ws l (are_met (met ++ (s, i) ∷ [])) s i) (nil nodes)
          (known_more nodes [] (λ q. are_met met q || same_stop q s) (are_met (met ++ (s, i) ∷ []))
          (λ q h. met_more met (s, i) q ∙ h) s i known)

      here : (t : Stop) (j : ℕ) → ◌≡◌ {A = Stop × ℕ} (s, i) (t, j) →
          IsKnown c ws nodes (are_met (met ++ (s, i) ∷ [])) t j
      here t j new = subst (λ (e : Stop × ℕ). IsKnown c ws nodes (are_met (met ++ (s, i) ∷ [])) e.0
          e.1) new own

  -- ---- what is known is the path

  pub noted_is : (nodes : List Node) (among : Stop → Bool) (s : Stop) (i : ℕ) →
      IsKnown c ws nodes among s i →
      path_known nodes i ≡ Some (path_of_stop c ws s)
  unfolding path_of_stop
  noted_is nodes among s i known =
      let n = known.node in
      let few = known.tells.few in
      let count = known.tells.count in
      let short : length (rest_of nodes n) < stop_count c + 1 = omega (arith, few, count) in
      ap (known_by nodes) known.is
      ∙ ap Some (sym (goes_path c ws (stop_count c + 1) [] n.end n (rest_of nodes n) short
      known.tells.goes)
      ∙ ap (path_from c ws (stop_count c + 1) []) known.tells.of)

  -- ---- an event before one that is known

  apart_from : (among : Stop → Bool) (s : Stop) → among s ≡ false → (n : Node) (rest : List Node) →
      AllByRecursion (λ (m : Node). among m.stop ≡ true) (n ∷ rest) → ApartFrom s n rest
  apart_from among s new n [] all = differs n.stop all.0
    where
      differs : (t : Stop) → among t ≡ true → same_stop t s ≡ false
      differs t passes = by (same_stop t s) refl
        where
          by : (b : Bool) → same_stop t s ≡ b → same_stop t s ≡ false
          by false e = e
          by true e = absurd (cc (new, passes, ap among (stop_is t s e)))
  apart_from among s new n (m ∷ rest) all = (
    differs n.stop all.0,
    apart_from among s new m rest
        all.1,
  )
    where
      differs : (t : Stop) → among t ≡ true → same_stop t s ≡ false
      differs t passes = by (same_stop t s) refl
        where
          by : (b : Bool) → same_stop t s ≡ b → same_stop t s ≡ false
          by false e = e
          by true e = absurd (cc (new, passes, ap among (stop_is t s e)))

  age_before : (end : Ending) (last : Stop) (ticks age more : ℤ) → IsAge c ws end last ticks age →
      IsAge c ws end last (more +ℤ ticks) (age +ℤ more)
  age_before Edge last ticks age more (after, is, sum) = (after, is, omega (arith, ints, sum))
  age_before AtSource last ticks age more (none, sum) = (none, omega (arith, ints, sum))
  age_before InLoop last ticks age more sum = omega (arith, ints, sum)
  age_before ByNothing last ticks age more sum = omega (arith, ints, sum)

  near_before : (count : ℕ) (age more : ℤ) → IsNear (131072 * count) age → IsNear 131072 more →
      IsNear (131072 * (count + 1)) (age +ℤ more)
  near_before count age more near short =
      let low = near.low in
      let high = near.high in
      let below = short.low in
      let above = short.high in
      record { low = omega (arith, ints, low, below); high = omega (arith, ints, high, above) }

  module _ (corner : Corner)
      (within : (s : Stop) (p : Passage) (t : Stop) → IsStop c corner s → origin_of c ws s
      ≡ Earlier p t → IsShort p × IsStop c corner t) where
    pub tells_before : (nodes : List Node) (some among : Stop → Bool) (s y : Stop) (p : Passage)
        (i : ℕ) (m : Node) →
        slice_get nodes i ≡ Some m → IsStop c corner s → origin_of c ws s ≡ Earlier p y →
        IsNear 131072 (ticks_of p) → some s ≡ false → ((q : Stop) → some q ≡ true → among q ≡ true)
        → among s ≡ true →
        Tells c ws nodes some y m → Tells c ws nodes among s (node_before s p i m)
    tells_before nodes some among s y p i m is stop from near new pass own tells =
        let n = node_before s p i m in
        let count = tells.count in
        let rest : rest_of nodes n ≡ m ∷ rest_of nodes m = rest_before nodes n m is refl tells.count
        in
        let at : origin_of c ws s ≡ Earlier p m.stop = from ∙ ap (Earlier p) (sym tells.of) in
        let goes : Goes c ws [] m.end n (m ∷ rest_of nodes m) =
        goes_before c ws m.end n m (rest_of nodes m) p refl at
        (apart_from some s new m (rest_of nodes m) tells.all) tells.goes in
        let few = few_links c corner ws within m.end n (m ∷ rest_of nodes m) stop goes in
        record {
          of = refl;
          count = omega (arith, count, ap length rest);
          few = omega (arith, count, few);
          goes = subst (λ (l : List Node). Goes c ws [] m.end n l) (sym rest) goes;
          age = subst (λ (l : List Node). IsAge c ws m.end (last_on n l) (ticks_on n l) n.age)
              (sym rest)
              (age_before m.end (last_on m (rest_of nodes m)) (ticks_on m (rest_of nodes m)) m.age
              (ticks_of p) tells.age);
          near = near_before m.count m.age (ticks_of p) tells.near near;
          source = tells.source ∙ ap (λ (l : List Node). (last_on n l).net) (sym rest);
          all = subst (λ (l : List Node). AllByRecursion (λ (x : Node). among x.stop ≡ true)
              (n ∷ l)) (sym rest) (
                own,
                all_then (λ (x : Node). some x.stop ≡ true) (λ (x : Node). among x.stop ≡ true)
                    (λ x h. pass x.stop h) (m ∷ rest_of nodes m) tells.all,
              );
        }

  -- an event that no pin makes
  pub tells_level : (s : Stop) (n : Node) →
      n ≡ record {
        stop = s;
        passage = None;
        next = 0;
        count = 1;
        end = ByNothing;
        source = s.net;
        age = pos 0;
      } →
      origin_of c ws s ≡ Level → Tells c ws [] (same_stop s) s n
  tells_level s n is at =
      subst (λ (m : Node). Tells c ws [] (same_stop s) s m) (sym is) record {
        of = refl;
        count = refl;
        few = omega arith;
        goes = (refl, at);
        age = refl;
        near = record { low = omega (arith, ints); high = omega (arith, ints) };
        source = refl;
        all = (stop_self s, tt);
      }
