-- Where a walk ends, and back along its chain, everything that comes to be met is known.
use Rattle.std.proofs.Common.{◌≡◌, ℕ, zero, suc, ◌+◌, ◌^◌, ◌<◌, ◌≤◌, Bool, true, false, ◌||◌, List, [], ◌∷◌, ◌++◌, length, slice_get, refl, sym, ap, subst, ◌∙◌, arith, Some, append_assoc}
use Rattle.std.specs.Option.{option_map}
use Rattle.std.proofs.lemmas.Bool.{or_from, or_left, or_right}
use Rattle.std.proofs.lemmas.Option.{same_Some, slice_get_within}
use Rattle.critical_paths.specs.declared.direction.Corner.{Corner}
use Rattle.critical_paths.specs.declared.event.Stop.{Stop}
use Rattle.critical_paths.specs.declared.path.Passage.{Passage}
use Rattle.critical_paths.specs.declared.path.Origin.TheVariants.{Earlier}
use Rattle.critical_paths.specs.declared.path.Node.{Node}
use Rattle.std.proofs.lemmas.Nat.{mul-le}
use Rattle.scald_base.specs.Time.{period}
use Rattle.flat_circuit.specs.Circuit.{Circuit}
use Rattle.fixpoint_engine.specs.Waves.{Waves}
use Rattle.critical_paths.specs.Launch.{ticks_of}
use Rattle.critical_paths.specs.Walk.{origin_of, same_stop, stop_count}
use Rattle.critical_paths.specs.Known.{IsSmall}
use Rattle.critical_paths.specs.Known.{AreApart, AreNew, AreStops, Grows, Has, IsBegun, IsNear, IsShort, IsShortNode, IsStop, Knows, Leads, Tells, are_met, node_before, stop_after, stop_in}
use Rattle.critical_paths.proofs.Stops.{met_more, stop_self, stop_turned}
use Rattle.critical_paths.proofs.Nodes.{get_end, get_more}
use Rattle.critical_paths.proofs.Memo.{knows_more, knows_one, tells_before, tells_more}

abbrev Entry : Type 0
Entry = Stop × Passage

pub after_all : (chain : List Entry) (t : Stop) → stop_after chain t (length chain) ≡ t
after_all [] t = refl
after_all (e ∷ chain) t = after_all chain t

-- none of a chain is a stop that is not in it
pub none_is : (chain : List Entry) (t : Stop) → are_met chain t ≡ false → (k : ℕ) (e : Entry) →
    slice_get chain k ≡ Some e → same_stop e.0 t ≡ false
none_is [] t none k e at = absurd (cc)
none_is (x ∷ chain) t none zero e at =
    let parts = or_false (same_stop t x.0) (are_met chain t) none in
    ap (λ (y : Entry). same_stop y.0 t) (sym (same_Some x e at)) ∙ stop_turned x.0 t ∙ parts.0
  where
    or_false : (a b : Bool) → (a || b) ≡ false → (a ≡ false) × (b ≡ false)
    or_false false b h = (refl, h)
    or_false true b h = absurd (cc)
none_is (x ∷ chain) t none (suc k) e at = none_is chain t
    (rest (same_stop t x.0) (are_met chain t) none) k e at
  where
    rest : (a b : Bool) → (a || b) ≡ false → b ≡ false
    rest false b h = h
    rest true b h = absurd (cc)

-- one more that was met is none of those that are new and apart from it
pub new_more : (met : List (Stop × ℕ)) (chain : List Entry) (past : ℕ) (t : Stop) (i : ℕ) →
    AreNew met chain past →
    ((k : ℕ) (e : Entry) → k < past → slice_get chain k ≡ Some e → same_stop e.0 t ≡ false) →
    AreNew (met ++ (t, i) ∷ []) chain past
new_more met chain past t i new apart k e less at =
    met_more met (t, i) e.0 ∙ or_from (are_met met e.0) (same_stop e.0 t) (new k e less at)
    (apart k e less at)

has_end : (met : List (Stop × ℕ)) (s : Stop) (i : ℕ) → Has (met ++ (s, i) ∷ []) s i
has_end met s i = (length met, get_end met (s, i))

module _ (c : Circuit) (ws : Waves) where
  pub begin_known : (nodes : List Node) (met : List (Stop × ℕ)) (chain : List Entry) (t : Stop)
      (i : ℕ) → Knows c ws nodes met →
      Has met t i → AreNew met chain (length chain) → IsBegun c ws nodes met chain t
      (i, length chain)
  begin_known nodes met chain t i knows has new =
      record {
        knows = knows;
        has = subst (λ (s : Stop). Has met s i) (sym (after_all chain t)) has;
        within = omega arith;
        new = new;
      }

  pub begin_end : (nodes : List Node) (met : List (Stop × ℕ)) (chain : List Entry) (t : Stop)
      (n : Node) → Knows c ws nodes met →
      are_met chain t ≡ false → Tells c ws [] (same_stop t) t n → AreNew met chain (length chain) →
      IsBegun c ws (nodes ++ n ∷ []) (met ++ (t, length nodes) ∷ []) chain t
      (length nodes, length chain)
  begin_end nodes met chain t n knows fresh tells new =
      begin_known (nodes ++ n ∷ []) (met ++ (t, length nodes) ∷ []) chain t (length nodes)
      (knows_one c ws (nodes ++ n ∷ []) met t (length nodes)
      (knows_more c ws nodes (n ∷ []) met knows) record {
        node = n;
        is = get_end nodes n;
        tells = tells_more c ws [] (nodes ++ n ∷ []) (same_stop t)
            (λ q. are_met met q || same_stop q t)
            (λ q h. or_right (are_met met q) (same_stop q t) (stop_turned q t ∙ h)) t n tells;
      })
      (has_end met t (length nodes))
      (new_more met chain (length chain) t (length nodes) new
      (λ k e less at. none_is chain t fresh k e at))

  pub begin_end_at : (nodes : List Node) (met : List (Stop × ℕ)) (chain : List Entry) (t : Stop)
      (n : Node) → Knows c ws nodes met →
      are_met chain t ≡ false → Tells c ws [] (same_stop t) t n → AreNew met chain (length chain) →
      (new : List Node) (numbered : List (Stop × ℕ)) (number past : ℕ) → new ≡ nodes ++ n ∷ [] →
      numbered ≡ met ++ (n.stop, length nodes) ∷ [] → number ≡ length nodes → past ≡ length chain →
      IsBegun c ws new numbered chain t (number, past)
  begin_end_at nodes met chain t n knows fresh tells none new numbered number past new_is
      numbered_is number_is past_is =
      let own : numbered ≡ met ++ (t, length nodes) ∷ [] = numbered_is
      ∙ ap (λ (s : Stop). met ++ (s, length nodes) ∷ []) tells.of in
      subst (λ (l : List Node). IsBegun c ws l numbered chain t (number, past)) (sym new_is)
      (subst (λ (l : List (Stop × ℕ)). IsBegun c ws (nodes ++ n ∷ []) l chain t (number, past))
      (sym own)
      (subst (λ (k : ℕ). IsBegun c ws (nodes ++ n ∷ []) (met ++ (t, length nodes) ∷ []) chain t
      (k, past)) (sym number_is)
      (subst (λ (k : ℕ). IsBegun c ws (nodes ++ n ∷ []) (met ++ (t, length nodes) ∷ []) chain t
      (length nodes, k)) (sym past_is)
      (begin_end nodes met chain t n knows fresh tells none))))

  -- ---- an event before one that is known

  pub knows_before : (corner : Corner)
      (within : (s : Stop) (p : Passage) (t : Stop) → IsStop c corner s → origin_of c ws s
      ≡ Earlier p t → IsShort p × IsStop c corner t) →
      (nodes : List Node) (met : List (Stop × ℕ)) (s y : Stop) (p : Passage) (i : ℕ) (after : Node)
      → Knows c ws nodes met → Has met y i →
      slice_get nodes i ≡ Some after → IsStop c corner s → origin_of c ws s ≡ Earlier p y →
      IsNear 131072 (ticks_of p) →
      are_met met s ≡ false → Knows c ws (nodes ++ node_before s p i after ∷ [])
      (met ++ (s, length nodes) ∷ [])
  knows_before corner within nodes met s y p i after knows has at stop from near new =
      let n = node_before s p i after in
      let known = knows.each y i has in
      let same : known.node ≡ after = same_Some known.node after (sym known.is ∙ at) in
      let tells : Tells c ws (nodes ++ n ∷ []) (are_met met) y after =
      tells_more c ws nodes (n ∷ []) (are_met met) (are_met met) (λ q h. h) y after
      (subst (λ (m : Node). Tells c ws nodes (are_met met) y m) same known.tells) in
      knows_one c ws (nodes ++ n ∷ []) met s (length nodes)
      (knows_more c ws nodes (n ∷ []) met knows) record {
        node = n;
        is = get_end nodes n;
        tells = tells_before c ws corner within (nodes ++ n ∷ []) (are_met met)
            (λ q. are_met met q || same_stop q s) s y p i after
            (get_more nodes (n ∷ []) i after at) stop from near new
            (λ q h. or_left (are_met met q) (same_stop q s) h)
            (or_right (are_met met s) (same_stop s s) (stop_self s)) tells;
      }

  -- one event of a chain more
  pub begin_more : (corner : Corner)
      (within : (s : Stop) (p : Passage) (u : Stop) → IsStop c corner s → origin_of c ws s
      ≡ Earlier p u → IsShort p × IsStop c corner u) →
      (nodes : List Node) (met : List (Stop × ℕ)) (chain : List Entry) (t : Stop) (i past : ℕ)
      (e : Entry) (after : Node) →
      Leads c ws chain t → AreStops c corner chain → AreApart chain →
      IsBegun c ws nodes met chain t (i, past + 1) →
      slice_get chain past ≡ Some e → slice_get nodes i ≡ Some after →
      IsNear 131072 (ticks_of e.1) →
      IsBegun c ws (nodes ++ node_before e.0 e.1 i after ∷ []) (met ++ (e.0, length nodes) ∷ [])
      chain t (length nodes, past)
  begin_more corner within nodes met chain t i past e after leads stops apart begun at is near =
      let inside = slice_get_within chain past e at in
      record {
        knows = knows_before corner within nodes met e.0 (stop_after chain t (past + 1)) e.1 i after
            begun.knows begun.has is
            (stops past e at).stop (leads.each past e at) near (begun.new past e (omega arith) at);
        has = subst (λ (s : Stop). Has (met ++ (e.0, length nodes) ∷ []) s (length nodes))
            (sym (ap (stop_in t) at))
            (has_end met e.0 (length nodes));
        within = omega (arith, inside);
        new = new_more met chain past e.0 (length nodes)
            (λ k f less is. begun.new k f (omega (arith, less)) is)
            (λ k f less is. apart k past f e less is at);
      }

  pub begin_more_at : (corner : Corner)
      (within : (s : Stop) (p : Passage) (u : Stop) → IsStop c corner s → origin_of c ws s
      ≡ Earlier p u → IsShort p × IsStop c corner u) →
      (nodes : List Node) (met : List (Stop × ℕ)) (chain : List Entry) (t : Stop) (i past : ℕ)
      (e : Entry) →
      Leads c ws chain t → AreStops c corner chain → AreApart chain →
      IsBegun c ws nodes met chain t (i, past + 1) →
      slice_get chain past ≡ Some e → IsNear 131072 (ticks_of e.1) →
      (new : List Node) (numbered : List (Stop × ℕ)) (number : ℕ) →
      option_map (λ (after : Node). nodes ++ node_before e.0 e.1 i after ∷ []) (slice_get nodes i)
      ≡ Some new →
      numbered ≡ met ++ (e.0, length nodes) ∷ [] → number ≡ length nodes →
      IsBegun c ws new numbered chain t (number, past) × Grows nodes new
  begin_more_at corner within nodes met chain t i past e leads stops apart begun at near new
      numbered number new_is numbered_is number_is =
      let known = begun.knows.each (stop_after chain t (past + 1)) i begun.has in
      let n = node_before e.0 e.1 i known.node in
      let made : new ≡ nodes ++ n ∷ [] =
      same_Some new (nodes ++ n ∷ [])
      (sym new_is ∙ ap (option_map (λ (after : Node). nodes ++ node_before e.0 e.1 i after ∷ []))
      known.is) in (
        subst (λ (l : List Node). IsBegun c ws l numbered chain t (number, past)) (sym made)
            (subst (λ (l : List (Stop × ℕ)). IsBegun c ws (nodes ++ n ∷ []) l chain t
            (number, past)) (sym numbered_is)
            (subst (λ (k : ℕ). IsBegun c ws (nodes ++ n ∷ []) (met ++ (e.0, length nodes) ∷ [])
            chain t (k, past)) (sym number_is)
            (begin_more corner within nodes met chain t i past e known.node leads stops apart begun
            at known.is near))),
        record { more = n ∷ []; is = made },
      )

  -- what is known is short enough to go on from
  pub short_node : (nodes : List Node) (met : List (Stop × ℕ)) (y : Stop) (i : ℕ) →
      Knows c ws nodes met → Has met y i →
      stop_count c < 2 ^ 40 → IsShortNode (slice_get nodes i)
  short_node nodes met y i knows has small =
      let known = knows.each y i has in
      let few = known.tells.few in
      subst IsShortNode (sym known.is) (omega (arith, few, small), known.tells.near)

  pub known_within : (nodes : List Node) (met : List (Stop × ℕ)) (y : Stop) (i : ℕ) →
      Knows c ws nodes met → Has met y i → i < length nodes
  known_within nodes met y i knows has = let known = knows.each y i has in
      slice_get_within nodes i known.node known.is

pub grows_then : (a b d : List Node) → Grows a b → Grows b d → Grows a d
grows_then a b d one two =
    record {
      more = one.more ++ two.more;
      is = two.is ∙ ap (λ (l : List Node). l ++ two.more) one.is ∙ append_assoc a one.more two.more;
    }

pub small_circuit : (c : Circuit) (p : ℕ) → p ≡ period c.header → 2 ≤ p → p ≤ 4096 →
    length c.nets ≤ 65536 → IsSmall c
small_circuit c p is some short few = record {
  some = omega (arith, is, some);
  slots = omega (arith, is, short);
  nets = few;
}

-- there are few stops
pub small_stops : (c : Circuit) → IsSmall c → stop_count c < 2 ^ 40
small_stops c small =
    let most = mul-le (period c.header) (length c.nets) 4096 65536 small.slots small.nets in
    omega (arith, most)
