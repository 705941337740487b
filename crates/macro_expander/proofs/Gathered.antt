-- Loops that gather bits and connections, and what stays valid as the circuit grows.
use Rattle.std.proofs.Common.{◌≡◌, ℕ, ◌+◌, ◌<◌, ◌≤◌, Bool, List, [], ◌∷◌, ◌++◌, length, map, get_or, drop, refl, ap, sym, ◌∙◌, subst, arith}
use Rattle.std.specs.List.{All}
use Rattle.std.proofs.lemmas.List.{drop_more, map-append, length-append, length-map, get_or-map}
use Rattle.std.proofs.lemmas.List.Elements.{All-head, All-tail, All-append, All-weaker, All-nil, All-cons, All-get_or, All-map}
use Rattle.scald_base.specs.declared.refusal.Stop.{Stop}
use Rattle.vector_names.specs.declared.bits.Target.{Target}
use Rattle.vector_names.specs.declared.bits.Target.TheVariants.{Net as OnNet, Constant}
use Rattle.vector_names.specs.declared.bits.BitRef.{BitRef}
use Rattle.flat_circuit.specs.Name.{Name}
use Rattle.flat_circuit.specs.Instances.{TargetExists}
use Rattle.macro_expander.specs.declared.expansion.Expansion.{Expansion}
use Rattle.macro_expander.specs.declared.scope.Bound as numbered_bound
use Rattle.macro_expander.specs.declared.scope.Scope as numbered_scope
use Rattle.macro_expander.specs.declared.connection.Joined as numbered_joined
use Rattle.macro_expander.specs.Named.{Bit, State}
use Rattle.macro_expander.specs.Outcome.{Outcome, Gives, Fails, gathered, each}
use Rattle.scald_base.specs.declared.refusal.Place.{Place}
use Rattle.drawing_tree.specs.Tree.{Term}
use Rattle.macro_expander.specs.Terms.{Joined, Scope, turned_bit, item_bits, term_bits}
use Rattle.macro_expander.specs.Numbered.{bit_of, turned_ref, bound_of, scope_of, joined_of, BitExists, BoundExists, ScopeExists, JoinedExists, Grows, Failed, GivesBits, GivesJoined, nets_in, names_in, state_of, Gathered, GatheredJoined, Went, GivesDone}
use Rattle.macro_expander.proofs.Nets.{where_stays, grows_refl, grows_trans}

-- ---- what stays

pub nets_more : (e f : Expansion) → Grows e f → nets_in e ≤ nets_in f
nets_more e f g = rw g.names (omega (arith, length-append (names_in e) g.more))

target_stays : (m n : ℕ) → m ≤ n → (t : Target) → TargetExists m t → TargetExists n t
target_stays m n h (OnNet i) x = omega arith
target_stays m n h (Constant b) x = tt

bit_exists_stays : (m n : ℕ) → m ≤ n → (b : BitRef) → BitExists m b → BitExists n b
bit_exists_stays m n h b x = record { target = target_stays m n h b.target x.target }

pub bits_exist_stay : (m n : ℕ) (bits : List BitRef) → m ≤ n → All (BitExists m) bits → All (BitExists n) bits
bits_exist_stay m n bits h x = All-weaker (BitExists m) (BitExists n) (bit_exists_stays m n h) bits x

bits_map_stay : (names more : List Name) (bits : List BitRef) → All (BitExists (length names)) bits → map (bit_of (names ++ more)) bits ≡ map (bit_of names) bits
bits_map_stay names more [] h = refl
bits_map_stay names more (b ∷ bits) h =
    rw (where_stays names more b.target (All-head (BitExists (length names)) b bits h).target, bits_map_stay names more bits (All-tail (BitExists (length names)) b bits h)) refl

pub bits_stay : (e f : Expansion) (bits : List BitRef) → Grows e f → All (BitExists (nets_in e)) bits → map (bit_of (names_in f)) bits ≡ map (bit_of (names_in e)) bits
bits_stay e f bits g h = rw g.names (bits_map_stay (names_in e) g.more bits h)

pub joined_stays : (e f : Expansion) (cs : List numbered_joined.Joined) → Grows e f → All (JoinedExists (nets_in e)) cs → map (joined_of (names_in f)) cs ≡ map (joined_of (names_in e)) cs
joined_stays e f [] g h = refl
joined_stays e f (c ∷ cs) g h =
    rw (bits_stay e f c.bits g (All-head (JoinedExists (nets_in e)) c cs h).bits, joined_stays e f cs g (All-tail (JoinedExists (nets_in e)) c cs h)) refl

pub joined_exist_stay : (e f : Expansion) (cs : List numbered_joined.Joined) → Grows e f → All (JoinedExists (nets_in e)) cs → All (JoinedExists (nets_in f)) cs
joined_exist_stay e f cs g h =
    All-weaker (JoinedExists (nets_in e)) (JoinedExists (nets_in f)) (λ c x. record { bits = bits_exist_stay (nets_in e) (nets_in f) c.bits (nets_more e f g) x.bits }) cs h

bounds_stay : (e f : Expansion) (bs : List numbered_bound.Bound) → Grows e f → All (BoundExists (nets_in e)) bs → map (bound_of (names_in f)) bs ≡ map (bound_of (names_in e)) bs
bounds_stay e f [] g h = refl
bounds_stay e f (b ∷ bs) g h =
    rw (bits_stay e f b.bits g (All-head (BoundExists (nets_in e)) b bs h).bits, bounds_stay e f bs g (All-tail (BoundExists (nets_in e)) b bs h)) refl

pub scope_stays : (e f : Expansion) (s : numbered_scope.Scope) → Grows e f → ScopeExists (nets_in e) s → scope_of (names_in f) s ≡ scope_of (names_in e) s
scope_stays e f s g h = rw (bounds_stay e f s.formals g h.formals) refl

pub scope_exists_stays : (e f : Expansion) (s : numbered_scope.Scope) → Grows e f → ScopeExists (nets_in e) s → ScopeExists (nets_in f) s
scope_exists_stays e f s g h = record {
  formals = All-weaker (BoundExists (nets_in e)) (BoundExists (nets_in f)) (λ b x. record { bits = bits_exist_stay (nets_in e) (nets_in f) b.bits (nets_more e f g) x.bits }) s.formals h.formals;
}

-- ---- what is left of a loop's items, seen as the definitions see them

pub next_of : {X Y : Type 0} (f : X → Y) (xs : List X) (i : ℕ) (x : X) → i < length xs → x ≡ get_or xs i x → map f (drop i xs) ≡ f x ∷ map f (drop (i + 1) xs)
next_of f xs i x h is = rw (drop_more xs i x h, sym is) refl

pub at_of : {X Y : Type 0} (P : Y → Type 0) (f : X → Y) (xs : List X) (i : ℕ) (x : X) → All P (map f xs) → i < length xs → x ≡ get_or xs i x → P (f x)
at_of P f xs i x all h is =
    let below : i < length (map f xs) = rw (length-map xs f) h in
    subst P (get_or-map f xs i x (f x) h ∙ ap f (sym is)) (All-get_or P (map f xs) i (f x) below all)

-- ---- loops that gather bits

module _ {X : Type 0} (step : X → State → Outcome (List Bit)) (start : Expansion) (want : Outcome (List Bit))
    (rest others : List X) (x : X) (bits : List BitRef) (e : Expansion) (split : rest ≡ x ∷ others) where
  pub gathered_more : (more : List BitRef) (f : Expansion) → GivesBits e f more (step x (state_of e)) → Gathered step start want rest bits e → Gathered step start want others (bits ++ more) f
  gathered_more more f g w =
      let next : gathered step (map (bit_of (names_in f)) (bits ++ more)) others (state_of f) ≡ gathered step (map (bit_of (names_in e)) bits) rest (state_of e) =
      rw (map-append (bit_of (names_in f)) bits more, bits_stay e f bits g.grows w.exist, split, g.is) refl in
      record {
        agrees = next ∙ w.agrees;
        grows = grows_trans start e f w.grows g.grows;
        exist = All-append (BitExists (nets_in f)) bits more (bits_exist_stay (nets_in e) (nets_in f) bits (nets_more e f g.grows) w.exist) g.exist;
      }

  pub gathered_failed : (stop : Stop) → Failed stop (step x (state_of e)) → Gathered step start want rest bits e → Failed stop want
  gathered_failed stop g w = record {
    agrees = λ r s.
        let failed : gathered step (map (bit_of (names_in e)) bits) rest (state_of e) ≡ Fails r.kind r.place = rw (split, g.agrees r s) refl in
        sym w.agrees ∙ failed;
  }

-- ---- loops that gather connections

module _ {X : Type 0} (step : X → State → Outcome (List Joined)) (start : Expansion) (want : Outcome (List Joined))
    (rest others : List X) (x : X) (cs : List numbered_joined.Joined) (e : Expansion) (split : rest ≡ x ∷ others) where
  pub joined_more : (c : numbered_joined.Joined) (f : Expansion) → GivesJoined e f c (step x (state_of e)) →
      GatheredJoined step start want rest cs e → GatheredJoined step start want others (cs ++ c ∷ []) f
  joined_more c f g w =
      let next : gathered step (map (joined_of (names_in f)) (cs ++ c ∷ [])) others (state_of f) ≡ gathered step (map (joined_of (names_in e)) cs) rest (state_of e) =
      rw (map-append (joined_of (names_in f)) cs (c ∷ []), joined_stays e f cs g.grows w.exist, split, g.is) refl in
      record {
        agrees = next ∙ w.agrees;
        grows = grows_trans start e f w.grows g.grows;
        exist = All-append (JoinedExists (nets_in f)) cs (c ∷ []) (joined_exist_stay e f cs g.grows w.exist) (All-cons (JoinedExists (nets_in f)) c [] g.exists (All-nil (JoinedExists (nets_in f))));
      }

  pub joined_failed : (stop : Stop) → Failed stop (step x (state_of e)) → GatheredJoined step start want rest cs e → Failed stop want
  joined_failed stop g w = record {
    agrees = λ r s.
        let failed : gathered step (map (joined_of (names_in e)) cs) rest (state_of e) ≡ Fails r.kind r.place = rw (split, g.agrees r s) refl in
        sym w.agrees ∙ failed;
  }

pub joined_none : {X : Type 0} (step : X → State → Outcome (List Joined)) (e : Expansion) (xs : List X) → GatheredJoined step e (gathered step [] xs (state_of e)) xs [] e
joined_none step e xs = record { agrees = refl; grows = grows_refl e; exist = All-nil (JoinedExists (nets_in e)) }

-- ---- loops that only go on

module _ {X : Type 0} (step : X → State → Outcome (Unit {0})) (start : Expansion) (want : Outcome (Unit {0})) (rest others : List X) (x : X) (e : Expansion) (split : rest ≡ x ∷ others) where
  pub went_more : (f : Expansion) → GivesDone e f (step x (state_of e)) → Went step start want rest e → Went step start want others f
  went_more f g w =
      let next : each step others (state_of f) ≡ each step rest (state_of e) = rw (split, g.is) refl in
      record { agrees = next ∙ w.agrees; grows = grows_trans start e f w.grows g.grows }

  pub went_failed : (stop : Stop) → Failed stop (step x (state_of e)) → Went step start want rest e → Failed stop want
  went_failed stop g w = record {
    agrees = λ r s.
        let failed : each step rest (state_of e) ≡ Fails r.kind r.place = rw (split, g.agrees r s) refl in
        sym w.agrees ∙ failed;
  }

pub went_all : {X : Type 0} (step : X → State → Outcome (Unit {0})) (start : Expansion) (want : Outcome (Unit {0})) (rest : List X) (e : Expansion) →
    rest ≡ [] → Went step start want rest e → GivesDone start e want
went_all step start want rest e none w =
    let done : each step rest (state_of e) ≡ Gives tt (state_of e) = rw none refl in
    record { is = sym w.agrees ∙ done; grows = w.grows }

-- ---- complemented terms

turned_map : (names : List Name) (minus : Bool) (bits : List BitRef) → map (bit_of names) (map (turned_ref minus) bits) ≡ map (turned_bit minus) (map (bit_of names) bits)
turned_map names minus [] = refl
turned_map names minus (b ∷ bits) = ap (λ rest. bit_of names (turned_ref minus b) ∷ rest) (turned_map names minus bits)

turned_exist : (nets : ℕ) (minus : Bool) (bits : List BitRef) → All (BitExists nets) bits → All (BitExists nets) (map (turned_ref minus) bits)
turned_exist nets minus bits h = All-map (BitExists nets) (turned_ref minus) bits
    (All-weaker (BitExists nets) (λ b. BitExists nets (turned_ref minus b)) (λ b x. record { target = x.target }) bits h)

pub turned_term : (e f : Expansion) (s : Scope) (place : Place) (t : Term) (bits turned : List BitRef) → turned ≡ map (turned_ref t.minus) bits →
    GivesBits e f bits (item_bits s t.item place (state_of e)) → GivesBits e f turned (term_bits s place t (state_of e))
unfolding term_bits
turned_term e f s place t bits turned is g = record {
  is = rw (g.is, is) (rw (turned_map (names_in f) t.minus bits) refl);
  grows = g.grows;
  exist = subst (All (BitExists (nets_in f))) (sym is) (turned_exist (nets_in f) t.minus bits g.exist);
}
