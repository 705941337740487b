-- A chain that is followed link by link, with a mark for each net that was met.
use Rattle.std.proofs.Common.{◌≡◌, ℕ, suc, ◌+◌, ◌-◌, ◌<◌, Bool, true, false, ◌||◌, cond, All, List, [], ◌∷◌, ◌++◌, drop, drop-cons, get_or, length, replicate, refl, sym, ap, subst, ◌∙◌, arith, Option, Some, None}
use Rattle.std.specs.Prelude.{◌==◌}
use Rattle.std.specs.List.{list_any}
use Rattle.std.specs.Option.{option_map}
use Rattle.std.proofs.Math.ListN.{set}
use Rattle.std.proofs.Math.Bool.{or-false}
use Rattle.std.proofs.lemmas.Bool.{or_parts}
use Rattle.std.proofs.lemmas.List.{append_assoc, ext_get_or, length-replicate, length-set}
use Rattle.std.proofs.lemmas.List.Elements.{All-append, All-cons, All-nil}
use Rattle.std.proofs.lemmas.List.Folds.{list_any-append}
use Rattle.flat_circuit.specs.declared.instance.Instance.{Instance}
use Rattle.flat_circuit.specs.Circuit.{Circuit, driver}
use Rattle.fixpoint_engine.specs.Waves.{Waves}
use Rattle.fixpoint_engine.specs.Settled.{marked_in}
use Rattle.fixpoint_engine.proofs.Waiting.{marked_set, unmarked}
use Rattle.fault_chain.specs.declared.chain.Link.{Link}
use Rattle.fault_chain.specs.declared.chain.End.{End}
use Rattle.fault_chain.specs.declared.chain.End.TheVariants.{Repeat, Undriven, Both}
use Rattle.fault_chain.specs.declared.chain.Chain.{Chain}
use Rattle.fault_chain.specs.Chain.{chain_after, chain_from, ending, next_link}
use Rattle.fault_chain.specs.Met.{HasMet}

-- links before a chain
abbrev pub behind : List Link → Chain → Chain
behind links chain = record { links = links ++ chain.links; end = chain.end }

abbrev pub ended : List Link → Link → End → Chain
ended links link end = record { links = links ++ link ∷ []; end = end }

-- after these links, whose nets are marked, the chain goes on from this one
pub record IsFollowed (c : Circuit) (ws : Waves) (first : Link) (links : List Link) (link : Link) (met : List Bool) (left : ℕ) : Type 0 where
  pub seen : List ℕ
  pub rest : chain_from c ws (length c.nets) [] first ≡ behind links (chain_from c ws left seen link)
  pub marks : (i : ℕ) → marked_in met i ≡ list_any (λ net. net == i) seen
  pub nets : (i : ℕ) → list_any (λ net. net == i) seen ≡ list_any (λ (one : Link). one.net == i) links
  pub long : length met ≡ length c.nets
  pub exists : link.net < length c.nets
  pub exist : All (λ (one : Link). one.net < length c.nets) links

pub followed_start : (c : Circuit) (ws : Waves) (first : Link) (met : List Bool) → first.net < length c.nets → met ≡ replicate (length c.nets) false →
    length met ≡ length c.nets → IsFollowed c ws first [] first met (length c.nets)
followed_start c ws first met exists none long = record {
  seen = [];
  rest = refl;
  marks = λ i. ap (λ (marks : List Bool). marked_in marks i) none ∙ unmarked (length c.nets) i;
  nets = λ i. refl;
  long = long;
  exists = exists;
  exist = All-nil (λ (one : Link). one.net < length c.nets);
}

-- before the last of so many nets, one more may be met
pub one_more : (c : Circuit) (ws : Waves) (first : Link) (links : List Link) (link : Link) (met : List Bool) (passed end : ℕ) →
    end ≡ length c.nets → passed < end → IsFollowed c ws first links link met (length c.nets - passed) →
    IsFollowed c ws first links link met (suc (length c.nets - (passed + 1)))
one_more c ws first links link met passed end all below is =
    let next : length c.nets - passed ≡ suc (length c.nets - (passed + 1)) = omega (arith, all, below) in
    subst (IsFollowed c ws first links link met) next is

any_more : (links : List Link) (link : Link) (i : ℕ) →
    list_any (λ (one : Link). one.net == i) (links ++ link ∷ []) ≡ (list_any (λ (one : Link). one.net == i) links || (link.net == i))
any_more links link i =
    list_any-append (λ (one : Link). one.net == i) links (link ∷ [])
    ∙ ap (λ (b : Bool). list_any (λ (one : Link). one.net == i) links || b) (or-false (link.net == i))

or_turned : (a b : Bool) → (a || b) ≡ (b || a)
or_turned true true = refl
or_turned true false = refl
or_turned false true = refl
or_turned false false = refl

set_or : (here was : Bool) → cond here true was ≡ (here || was)
set_or true was = refl
set_or false was = refl

module _ (c : Circuit) (ws : Waves) (first : Link) (links : List Link) (link : Link) (met : List Bool) where
  pub all_exist : (left : ℕ) → IsFollowed c ws first links link met left → All (λ (one : Link). one.net < length c.nets) (links ++ link ∷ [])
  all_exist left is =
      All-append (λ (one : Link). one.net < length c.nets) links (link ∷ []) is.exist
      (All-cons (λ (one : Link). one.net < length c.nets) link [] is.exists (All-nil (λ (one : Link). one.net < length c.nets)))

  -- ---- the marks

  pub has_met : (left : ℕ) → IsFollowed c ws first links link met left → HasMet (length c.nets) (links ++ link ∷ []) met
  has_met left is = record {
    long = is.long;
    others = λ i none.
        let both = or_parts (list_any (λ (one : Link). one.net == i) links) (link.net == i) (sym (any_more links link i) ∙ none) in
        is.marks i ∙ is.nets i ∙ both.0;
  }

  added : (left : ℕ) (is : IsFollowed c ws first links link met left) (i : ℕ) →
      marked_in (set met link.net true) i ≡ ((link.net == i) || list_any (λ net. net == i) is.seen)
  added left is i =
      let long = is.long in
      let exists = is.exists in
      marked_set met link.net i true (omega (arith, long, exists)) ∙ ap (λ (b : Bool). cond (link.net == i) true b) (is.marks i)
      ∙ set_or (link.net == i) (list_any (λ net. net == i) is.seen)

  pub has_met_more : (left : ℕ) (more : List Bool) → more ≡ set met link.net true → IsFollowed c ws first links link met left →
      HasMet (length c.nets) (links ++ link ∷ []) more
  has_met_more left more adds is = record {
    long = ap length adds ∙ length-set met link.net true ∙ is.long;
    others = λ i none.
        let both = or_parts (list_any (λ (one : Link). one.net == i) links) (link.net == i) (sym (any_more links link i) ∙ none) in
        ap (λ (marks : List Bool). marked_in marks i) adds ∙ added left is i ∙ (λ k. both.1 k || (is.nets i ∙ both.0) k);
  }

  -- ---- the ends

  pub ends_last : IsFollowed c ws first links link met 0 → chain_from c ws (length c.nets) [] first ≡ ended links link Repeat
  ends_last is = is.rest

  pub ends_met : (left : ℕ) → IsFollowed c ws first links link met (suc left) → marked_in met link.net ≡ true →
      chain_from c ws (length c.nets) [] first ≡ ended links link Repeat
  ends_met left is marked =
      let rest : Chain = chain_after link (option_map (λ j. option_map (chain_from c ws left (link.net ∷ is.seen)) (next_link c ws j link.slot)) (driver c link.net)) in
      is.rest ∙ ap (λ (b : Bool). behind links (cond b (ending link Repeat) rest)) (sym (is.marks link.net) ∙ marked)

  -- the chain from a link on a net that was not met
  new : (left : ℕ) (is : IsFollowed c ws first links link met (suc left)) → marked_in met link.net ≡ false →
      chain_from c ws (suc left) is.seen link
      ≡ chain_after link (option_map (λ j. option_map (chain_from c ws left (link.net ∷ is.seen)) (next_link c ws j link.slot)) (driver c link.net))
  new left is marked =
      let rest : Chain = chain_after link (option_map (λ j. option_map (chain_from c ws left (link.net ∷ is.seen)) (next_link c ws j link.slot)) (driver c link.net)) in
      ap (λ (b : Bool). cond b (ending link Repeat) rest) (sym (is.marks link.net) ∙ marked)

  pub ends_undriven : (left : ℕ) → IsFollowed c ws first links link met (suc left) → marked_in met link.net ≡ false → driver c link.net ≡ None →
      chain_from c ws (length c.nets) [] first ≡ ended links link Undriven
  ends_undriven left is marked none =
      is.rest ∙ ap (behind links) (new left is marked
      ∙ ap (λ (o : Option Instance). chain_after link (option_map (λ j. option_map (chain_from c ws left (link.net ∷ is.seen)) (next_link c ws j link.slot)) o)) none)

  -- the same from a driver
  from_driver : (left : ℕ) (is : IsFollowed c ws first links link met (suc left)) (j : Instance) (next : Option Link) → marked_in met link.net ≡ false →
      driver c link.net ≡ Some j → next_link c ws j link.slot ≡ next →
      chain_from c ws (length c.nets) [] first ≡ behind links (chain_after link (Some (option_map (chain_from c ws left (link.net ∷ is.seen)) next)))
  from_driver left is j next marked at found =
      is.rest ∙ ap (behind links) (new left is marked
      ∙ ap (λ (o : Option Instance). chain_after link (option_map (λ j. option_map (chain_from c ws left (link.net ∷ is.seen)) (next_link c ws j link.slot)) o)) at
      ∙ ap (λ (o : Option Link). chain_after link (Some (option_map (chain_from c ws left (link.net ∷ is.seen)) o))) found)

  pub ends_both : (left : ℕ) → IsFollowed c ws first links link met (suc left) → (j : Instance) → marked_in met link.net ≡ false → driver c link.net ≡ Some j →
      next_link c ws j link.slot ≡ None → chain_from c ws (length c.nets) [] first ≡ ended links link Both
  ends_both left is j marked at none = from_driver left is j None marked at none

  pub followed_more : (left : ℕ) (j : Instance) (next : Link) (more : List Link) (marks : List Bool) → IsFollowed c ws first links link met (suc left) →
      marked_in met link.net ≡ false → driver c link.net ≡ Some j → next_link c ws j link.slot ≡ Some next → next.net < length c.nets →
      more ≡ links ++ link ∷ [] → marks ≡ set met link.net true → IsFollowed c ws first more next marks left
  followed_more left j next more marks is marked at found exists longer adds = record {
    seen = link.net ∷ is.seen;
    rest =
        let chain : Chain = chain_from c ws left (link.net ∷ is.seen) next in
        from_driver left is j (Some next) marked at found
        ∙ (λ k. record { links = sym (append_assoc links (link ∷ []) chain.links) k; end = chain.end })
        ∙ ap (λ (before : List Link). behind before chain) (sym longer);
    marks = λ i. ap (λ (m : List Bool). marked_in m i) adds ∙ added (suc left) is i;
    nets = λ i.
        ap (λ (b : Bool). (link.net == i) || b) (is.nets i) ∙ or_turned (link.net == i) (list_any (λ (one : Link). one.net == i) links)
        ∙ sym (any_more links link i) ∙ ap (λ (before : List Link). list_any (λ (one : Link). one.net == i) before) (sym longer);
    long = ap length adds ∙ length-set met link.net true ∙ is.long;
    exists = exists;
    exist = subst (λ (before : List Link). All (λ (one : Link). one.net < length c.nets) before) (sym longer) (all_exist (suc left) is);
  }

-- ---- marks that are taken back

-- All nets that are still marked are of the links from a place on.
pub forgotten_more : (met after : List Bool) (links : List Link) (k : ℕ) (link : Link) → k < length links → link ≡ get_or links k link →
    after ≡ set met link.net false → link.net < length met →
    ((i : ℕ) → list_any (λ (one : Link). one.net == i) (drop k links) ≡ false → marked_in met i ≡ false) →
    (i : ℕ) → list_any (λ (one : Link). one.net == i) (drop (k + 1) links) ≡ false → marked_in after i ≡ false
forgotten_more met after links k link below at sets exists others i none =
    ap (λ (marks : List Bool). marked_in marks i) sets ∙ marked_set met link.net i false exists ∙ by (link.net == i) refl
  where
    next : suc k ≡ k + 1
    next = omega arith

    here : drop k links ≡ link ∷ drop (k + 1) links
    here = drop-cons links k link below ∙ (λ t. sym at t ∷ drop (next t) links)

    by : (same : Bool) → (link.net == i) ≡ same → cond same false (marked_in met i) ≡ false
    by true is = refl
    by false is = others i (ap (list_any (λ (one : Link). one.net == i)) here ∙ (λ t. is t || none t))

pub all_forgotten : (n : ℕ) (met : List Bool) → length met ≡ n → ((i : ℕ) → marked_in met i ≡ false) → met ≡ replicate n false
all_forgotten n met long none =
    ext_get_or false met (replicate n false) (long ∙ sym (length-replicate n false)) (λ i below. none i ∙ sym (unmarked n i))
