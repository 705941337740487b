-- Connections in another order: they mean the same bits, in that order.
use Rattle.std.proofs.Common.{◌≡◌, ◌∙◌, Bool, true, false, if◌then◌else◌, List, [], ◌∷◌, ◌++◌, map, Some, refl, ap, sym, subst, append-nil, append_assoc}
use Rattle.std.specs.Prelude.{⊤}
use Rattle.std.specs.List.{flat_map}
use Rattle.scald_base.specs.declared.refusal.Place.{Place}
use Rattle.scald_base.specs.declared.refusal.RefusalKind.TheVariants.{Width}
use Rattle.drawing_tree.specs.Tree.{Connection}
use Rattle.drawing_tree.specs.Places.{unplaced_connection}
use Rattle.macro_expander.specs.Named.{Bit, State}
use Rattle.macro_expander.specs.Outcome.{Outcome, Gives, Fails, after, gathered}
use Rattle.macro_expander.specs.Terms.{Scope, Joined, has_width, terms_bits, joined, all_joined}
use Rattle.macro_expander.specs.Primitives.{first_reversed}
use Rattle.format_upgrade.proofs.Sights.{Note, Sight}
use Rattle.format_upgrade.proofs.Exchange.{AreAlike, behind, behind_same, all_noted, all_seen, seen_append, exchanged, noted_alike}
use Rattle.format_upgrade.proofs.Noting.{parts_of, noted_parts, noted_both, joined_notes}
use Rattle.format_upgrade.proofs.Following.{GivesAlike, FollowsAs, Follows}

-- ---- each connection with what it means and notes

-- one connection is joined to one list of bits
record IsOne (js : List Joined) : Type 0 where
  pub one : Joined
  pub is : js ≡ one ∷ []

joined_one : (scope : Scope) (at : Place) (c : Connection) (s : State) (js : List Joined) (t : State) → joined scope at c s ≡ Gives js t → IsOne js
unfolding joined
joined_one scope at c s js t h =
    let p = parts_of (terms_bits scope at c.terms s) _ js t h in
    by p.value p.state (has_width p.value) p.rest
  where
    by : (bits : List Bit) (u : State) (b : Bool) → (if b then Gives ((record { bits = bits; hold = c.hold }) ∷ []) u else Fails Width at) ≡ Gives js t → IsOne js
    by bits u true e = let is : (record { bits = bits; hold = c.hold }) ∷ [] ≡ js = cc in record { one = record { bits = bits; hold = c.hold }; is = sym is }
    by bits u false e = absurd (cc)

module _ (scope : Scope) where
  -- wherever the notes are not refused, the connection means this
  record Means (c : Connection) (j : Joined) (notes : List Note) : Type 0 where
    pub does : (at : Place) (u v : State) → all_noted notes u ≡ Some v → joined scope at c u ≡ Gives (j ∷ []) v

  abbrev AllMean : List Connection → List Joined → List (List Note) → Type 0
  AllMean [] [] [] = ⊤
  AllMean (c ∷ cs) (j ∷ js) (n ∷ ns) = Means c j n × AllMean cs js ns
  AllMean _ _ _ = ⊥

  abbrev all_notes : List (List Note) → List Note
  all_notes ns = flat_map (λ n. n) ns

  -- what connections meant, after those so far
  record Meant (before : List Joined) (cs : List Connection) (s : State) (zs : List Joined) (t : State) : Type 0 where
    pub joined : List Joined
    pub notes : List (List Note)
    pub is : zs ≡ before ++ joined
    pub mean : AllMean cs joined notes
    pub noted_is : all_noted (all_notes notes) s ≡ Some t

  meant_so : (at : Place) (before : List Joined) (cs : List Connection) (s : State) (zs : List Joined) (t : State) →
      gathered (joined scope at) before cs s ≡ Gives zs t → Meant before cs s zs t
  meant_so at before [] s zs t h =
      let values : before ≡ zs = cc in
      let states : s ≡ t = cc in
      record { joined = []; notes = []; is = sym values ∙ sym (append-nil before); mean = tt; noted_is = ap Some states }
  meant_so at before (c ∷ cs) s zs t h =
      let p = parts_of (joined scope at c s) _ zs t h in
      let one = joined_one scope at c s p.value p.state p.first in
      let n = joined_notes scope c at s p.value p.state p.first in
      let more = meant_so at (before ++ p.value) cs p.state zs t p.rest in
      record {
        joined = one.one ∷ more.joined;
        notes = n.notes ∷ more.notes;
        is = more.is ∙ ap (λ js. (before ++ js) ++ more.joined) one.is ∙ append_assoc before (one.one ∷ []) more.joined;
        mean = (record { does = λ place u v e. n.does place u v e ∙ ap (λ js. Gives js v) one.is }, more.mean);
        noted_is = noted_both n.notes (all_notes more.notes) s p.state t n.noted_is more.noted_is;
      }

  means_so : (at : Place) (before : List Joined) (cs : List Connection) (js : List Joined) (ns : List (List Note)) (s t : State) → AllMean cs js ns →
      all_noted (all_notes ns) s ≡ Some t → gathered (joined scope at) before cs s ≡ Gives (before ++ js) t
  means_so at before [] [] [] s t m h =
      let states : s ≡ t = cc in
      ap (λ w. Gives before w) states ∙ ap (λ zs. Gives zs t) (sym (append-nil before))
  means_so at before (c ∷ cs) (j ∷ js) (n ∷ ns) s t m h =
      let p = noted_parts n (all_notes ns) s t h in
      ap (λ o. after o (λ more w. gathered (joined scope at) (before ++ more) cs w)) (m.0.does at s p.state p.first)
      ∙ means_so at (before ++ j ∷ []) cs js ns p.state t m.1 p.rest
      ∙ ap (λ zs. Gives zs t) (append_assoc before (j ∷ []) js)
  means_so at before [] [] (n ∷ ns) s t m h = absurd m
  means_so at before [] (j ∷ js) ns s t m h = absurd m
  means_so at before (c ∷ cs) [] ns s t m h = absurd m
  means_so at before (c ∷ cs) (j ∷ js) [] s t m h = absurd m

  -- ---- notes in another order

  first_exchanged : (a b rest : List Note) (v : Sight) → all_seen (a ++ (b ++ rest)) v ≡ all_seen (b ++ (a ++ rest)) v
  first_exchanged a b rest v =
      ap (λ ns. all_seen ns v) (sym (append_assoc a b rest))
      ∙ seen_append (a ++ b) rest v
      ∙ ap (λ o. behind o (λ w. all_seen rest w)) (exchanged a b v)
      ∙ sym (seen_append (b ++ a) rest v)
      ∙ ap (λ ns. all_seen ns v) (append_assoc b a rest)

  under : (a xs ys : List Note) → ((v : Sight) → all_seen xs v ≡ all_seen ys v) → (v : Sight) → all_seen (a ++ xs) v ≡ all_seen (a ++ ys) v
  under a xs ys h v =
      seen_append a xs v ∙ behind_same (all_seen a v) (λ w. all_seen xs w) (λ w. all_seen ys w) h ∙ sym (seen_append a ys v)

  three_exchanged : (a b c rest : List Note) (v : Sight) → all_seen (c ++ (b ++ (a ++ rest))) v ≡ all_seen (a ++ (b ++ (c ++ rest))) v
  three_exchanged a b c rest v =
      first_exchanged c b (a ++ rest) v
      ∙ under b (c ++ (a ++ rest)) (a ++ (c ++ rest)) (λ w. first_exchanged c a rest w) v
      ∙ first_exchanged b a (c ++ rest) v

  -- ---- connections in another order

  module _ (at place : Place) (s t : State) (alike : AreAlike s t) where
    -- what one list of connections meant, another means that makes notes which are seen alike
    turned_by : (ms ns : List (List Note)) (ds : List Connection) (js : List Joined) (u : State) → ((v : Sight) → all_seen (all_notes ns) v ≡ all_seen (all_notes ms) v) →
        all_noted (all_notes ms) s ≡ Some u → AllMean ds js ns → GivesAlike js u (gathered (joined scope place) [] ds t)
    turned_by ms ns ds js u same noted_is mean =
        let n = noted_alike (all_notes ms) (all_notes ns) s t u same alike noted_is in
        record { state = n.state; is = means_so place [] ds js ns t n.state mean n.is; alike = n.alike }

    two_by : (a b : Connection) (rest : List Connection) (js : List Joined) (ns : List (List Note)) (u : State) → AllMean (a ∷ b ∷ rest) js ns →
        all_noted (all_notes ns) s ≡ Some u → GivesAlike (first_reversed 2 js) u (gathered (joined scope place) [] (b ∷ a ∷ rest) t)
    two_by a b rest (i ∷ j ∷ js) (m ∷ n ∷ ns) u mean noted_is =
        turned_by (m ∷ n ∷ ns) (n ∷ m ∷ ns) (b ∷ a ∷ rest) (j ∷ i ∷ js) u (λ v. first_exchanged n m (all_notes ns) v) noted_is (mean.1.0, (mean.0, mean.1.1))
    two_by a b rest [] ns u mean noted_is = absurd mean
    two_by a b rest (i ∷ js) [] u mean noted_is = absurd mean
    two_by a b rest (i ∷ []) (m ∷ ns) u mean noted_is = absurd mean.1
    two_by a b rest (i ∷ j ∷ js) (m ∷ []) u mean noted_is = absurd mean.1

    three_by : (a b c : Connection) (rest : List Connection) (js : List Joined) (ns : List (List Note)) (u : State) → AllMean (a ∷ b ∷ c ∷ rest) js ns →
        all_noted (all_notes ns) s ≡ Some u → GivesAlike (first_reversed 3 js) u (gathered (joined scope place) [] (c ∷ b ∷ a ∷ rest) t)
    three_by a b c rest (i ∷ j ∷ k ∷ js) (l ∷ m ∷ n ∷ ns) u mean noted_is =
        turned_by (l ∷ m ∷ n ∷ ns) (n ∷ m ∷ l ∷ ns) (c ∷ b ∷ a ∷ rest) (k ∷ j ∷ i ∷ js) u (λ v. three_exchanged l m n (all_notes ns) v) noted_is
        (mean.1.1.0, (mean.1.0, (mean.0, mean.1.1.1)))
    three_by a b c rest [] ns u mean noted_is = absurd mean
    three_by a b c rest (i ∷ js) [] u mean noted_is = absurd mean
    three_by a b c rest (i ∷ []) (l ∷ ns) u mean noted_is = absurd mean.1
    three_by a b c rest (i ∷ j ∷ js) (l ∷ []) u mean noted_is = absurd mean.1
    three_by a b c rest (i ∷ j ∷ []) (l ∷ m ∷ ns) u mean noted_is = absurd mean.1.1
    three_by a b c rest (i ∷ j ∷ k ∷ js) (l ∷ m ∷ []) u mean noted_is = absurd mean.1.1

    pub two_turned : (a b : Connection) (rest : List Connection) →
        FollowsAs (λ zs. first_reversed 2 zs) (all_joined scope at (a ∷ b ∷ rest) s) (all_joined scope place (b ∷ a ∷ rest) t)
    unfolding all_joined
    two_turned a b rest = by (gathered (joined scope at) [] (a ∷ b ∷ rest) s) refl
      where
        by : (o : Outcome (List Joined)) → gathered (joined scope at) [] (a ∷ b ∷ rest) s ≡ o →
            FollowsAs (λ zs. first_reversed 2 zs) o (gathered (joined scope place) [] (b ∷ a ∷ rest) t)
        by (Gives js u) e =
            let m = meant_so at [] (a ∷ b ∷ rest) s js u e in
            subst (λ zs. GivesAlike (first_reversed 2 zs) u (gathered (joined scope place) [] (b ∷ a ∷ rest) t)) (sym m.is)
            (two_by a b rest m.joined m.notes u m.mean m.noted_is)
        by (Fails kind where_) e = tt

    pub three_turned : (a b c : Connection) (rest : List Connection) →
        FollowsAs (λ zs. first_reversed 3 zs) (all_joined scope at (a ∷ b ∷ c ∷ rest) s) (all_joined scope place (c ∷ b ∷ a ∷ rest) t)
    unfolding all_joined
    three_turned a b c rest = by (gathered (joined scope at) [] (a ∷ b ∷ c ∷ rest) s) refl
      where
        by : (o : Outcome (List Joined)) → gathered (joined scope at) [] (a ∷ b ∷ c ∷ rest) s ≡ o →
            FollowsAs (λ zs. first_reversed 3 zs) o (gathered (joined scope place) [] (c ∷ b ∷ a ∷ rest) t)
        by (Gives js u) e =
            let m = meant_so at [] (a ∷ b ∷ c ∷ rest) s js u e in
            subst (λ zs. GivesAlike (first_reversed 3 zs) u (gathered (joined scope place) [] (c ∷ b ∷ a ∷ rest) t)) (sym m.is)
            (three_by a b c rest m.joined m.notes u m.mean m.noted_is)
        by (Fails kind where_) e = tt

    -- connections in their own order
    pub joined_follow : (cs : List Connection) → Follows (all_joined scope at cs s) (all_joined scope place cs t)
    unfolding all_joined
    joined_follow cs = by (gathered (joined scope at) [] cs s) refl
      where
        by : (o : Outcome (List Joined)) → gathered (joined scope at) [] cs s ≡ o → Follows o (gathered (joined scope place) [] cs t)
        by (Gives js u) e =
            let m = meant_so at [] cs s js u e in
            subst (λ zs. GivesAlike zs u (gathered (joined scope place) [] cs t)) (sym m.is)
            (turned_by m.notes m.notes cs m.joined u (λ v. refl) m.noted_is m.mean)
        by (Fails kind where_) e = tt

  -- ---- places of connections

  gathered_unplaced : (at : Place) (before : List Joined) (cs : List Connection) (s : State) →
      gathered (joined scope at) before (map unplaced_connection cs) s ≡ gathered (joined scope at) before cs s
  unfolding joined
  gathered_unplaced at before [] s = refl
  gathered_unplaced at before (c ∷ cs) s =
      after_same (joined scope at c s) (λ more w. gathered (joined scope at) (before ++ more) (map unplaced_connection cs) w)
      (λ more w. gathered (joined scope at) (before ++ more) cs w) (λ more w. gathered_unplaced at (before ++ more) cs w)
    where
      after_same : (o : Outcome (List Joined)) (f g : List Joined → State → Outcome (List Joined)) → ((js : List Joined) (w : State) → f js w ≡ g js w) → after o f ≡ after o g
      after_same (Gives js w) f g h = h js w
      after_same (Fails kind place) f g h = refl

  -- if a connection stands is not looked at
  pub joined_unplaced : (at : Place) (cs ds : List Connection) (s : State) → map unplaced_connection ds ≡ map unplaced_connection cs →
      all_joined scope at ds s ≡ all_joined scope at cs s
  unfolding all_joined
  joined_unplaced at cs ds s h =
      sym (gathered_unplaced at [] ds s) ∙ ap (λ xs. gathered (joined scope at) [] xs s) h ∙ gathered_unplaced at [] cs s
