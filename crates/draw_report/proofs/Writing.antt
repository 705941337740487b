-- The writing of a tree, part by part.
use Rattle.std.proofs.Common.{◌≡◌, ℕ, Bool, true, false, List, [], ◌∷◌, ◌++◌, append_assoc, append-nil, refl, sym, ap, ◌∙◌}
use Rattle.std.specs.Prelude.{codes, if◌then◌else◌}
use Rattle.draw_report.specs.declared.style.TheConstants.{DEFS, STYLE}
use Rattle.draw_report.specs.Defs.{defs}
use Rattle.draw_report.specs.Element.{Break, Element, Kind, Look, Node, Nodes, Text, Word, all_written, attributes_onto, begun, begun_text, cons, ended, ended_text, full, is_nil, nil, node_onto, nodes, nodes_onto, tag_of, keys_of, words_onto, words_text, written}
use Rattle.draw_report.proofs.Texts.{words_rest}

-- ---- what follows a text comes after it

pub attributes_rest : (keys : List (List ℕ)) (values : List (List Word)) (rest : List ℕ) →
    attributes_onto keys values rest ≡ attributes_onto keys values [] ++ rest
attributes_rest [] values rest = refl
attributes_rest (key ∷ keys) [] rest = refl
attributes_rest (key ∷ keys) (value ∷ values) rest =
    ap (λ (l : List ℕ). codes " " ++ (key ++ (codes "=\"" ++ l)))
    (words_rest value (codes "\"" ++ attributes_onto keys values rest)
    ∙ ap (λ (l : List ℕ). words_text value ++ (codes "\"" ++ l)) (attributes_rest keys values rest)
    ∙ sym (append_assoc (words_text value) (codes "\"" ++ attributes_onto keys values []) rest)
    ∙ ap (λ (l : List ℕ). l ++ rest)
    (sym (words_rest value (codes "\"" ++ attributes_onto keys values []))))
    ∙ sym (append_assoc (codes " " ++ key)
    (codes "=\"" ++ words_onto value (codes "\"" ++ attributes_onto keys values [])) rest
    ∙ append_assoc (codes " ") key
    ((codes "=\"" ++ words_onto value (codes "\"" ++ attributes_onto keys values [])) ++ rest))
    ∙ ap (λ (l : List ℕ). l ++ rest)
    (append_assoc (codes " ") key
    (codes "=\"" ++ words_onto value (codes "\"" ++ attributes_onto keys values [])))

pub begun_rest : (k : Kind) (values : List (List Word)) (rest : List ℕ) →
    begun k values rest ≡ begun k values [] ++ rest
begun_rest k values rest =
    ap (λ (l : List ℕ). codes "<" ++ (tag_of k ++ l)) (attributes_rest (keys_of k) values rest)
    ∙ ap (λ (l : List ℕ). codes "<" ++ l)
    (sym (append_assoc (tag_of k) (attributes_onto (keys_of k) values []) rest))

pub ended_rest : (k : Kind) (rest : List ℕ) → ended k rest ≡ ended_text k ++ rest
ended_rest k rest = ap (λ (l : List ℕ). codes "</" ++ l)
    (sym (append_assoc (tag_of k) (codes ">") rest))

-- an element is what stands before its nodes, they, and what stands after them
abbrev inside : (b : Bool) (k : Kind) (whole rest : List ℕ) → List ℕ
inside b k whole rest = if b then codes "/>" ++ rest else codes ">" ++ (whole ++ ended k rest)

inside_rest : (b : Bool) (k : Kind) (whole rest : List ℕ) →
    inside b k whole rest ≡ inside b k whole [] ++ rest
inside_rest true k whole rest = refl
inside_rest false k whole rest =
    ap (λ (l : List ℕ). codes ">" ++ (whole ++ l)) (ended_rest k rest)
    ∙ ap (λ (l : List ℕ). codes ">" ++ l) (sym (append_assoc whole (ended_text k) rest))

mutual
  pub node_rest : (n : Node) (rest : List ℕ) → node_onto n rest ≡ written n ++ rest
  node_rest (Element k values ns) rest =
      ap (λ (l : List ℕ). begun k values (if is_nil ns then codes "/>" ++ rest else codes ">" ++ l))
      (nodes_rest ns (ended k rest))
      ∙ begun_rest k values (inside (is_nil ns) k (nodes_onto ns []) rest)
      ∙ ap (λ (l : List ℕ). begun k values [] ++ l)
      (inside_rest (is_nil ns) k (nodes_onto ns []) rest)
      ∙ sym (append_assoc (begun k values []) (inside (is_nil ns) k (nodes_onto ns []) []) rest)
      ∙ ap (λ (l : List ℕ). l ++ rest)
      (sym (ap (λ (l : List ℕ). begun k values (if is_nil ns then codes "/>" else codes ">" ++ l))
      (nodes_rest ns (ended k []))
      ∙ begun_rest k values (inside (is_nil ns) k (nodes_onto ns []) [])))
  node_rest (Text words) rest = words_rest words rest
  node_rest Look rest = ap (λ (l : List ℕ). l ++ rest) (sym (append-nil STYLE.now))
  node_rest Break rest = refl

  pub nodes_rest : (ns : Nodes) (rest : List ℕ) → nodes_onto ns rest ≡ nodes_onto ns [] ++ rest
  nodes_rest nil rest = refl
  nodes_rest (cons n ns) rest =
      node_rest n (nodes_onto ns rest)
      ∙ ap (λ (l : List ℕ). written n ++ l) (nodes_rest ns rest)
      ∙ sym (append_assoc (written n) (nodes_onto ns []) rest)
      ∙ ap (λ (l : List ℕ). l ++ rest) (sym (node_rest n (nodes_onto ns [])))

-- ---- lists of nodes

pub nodes_written : (ns : List Node) → nodes_onto (nodes ns) [] ≡ all_written ns
nodes_written [] = refl
nodes_written (n ∷ ns) =
    node_rest n (nodes_onto (nodes ns) []) ∙ ap (λ (l : List ℕ). written n ++ l) (nodes_written ns)

-- an element with some nodes, before what follows
pub full_written : (k : Kind) (values : List (List Word)) (n : Node) (ns : List Node)
    (rest : List ℕ) →
    node_onto (full k values (n ∷ ns)) rest
    ≡ begun_text k values ++ (all_written (n ∷ ns) ++ (ended_text k ++ rest))
full_written k values n ns rest =
    ap (λ (l : List ℕ). begun k values (codes ">" ++ l))
    (nodes_rest (nodes (n ∷ ns)) (ended k rest)
    ∙ ap (λ (l : List ℕ). l ++ ended k rest) (nodes_written (n ∷ ns))
    ∙ ap (λ (l : List ℕ). all_written (n ∷ ns) ++ l) (ended_rest k rest))
    ∙ begun_rest k values (codes ">" ++ (all_written (n ∷ ns) ++ (ended_text k ++ rest)))
    ∙ sym (append_assoc (begun k values []) (codes ">")
    (all_written (n ∷ ns) ++ (ended_text k ++ rest)))
    ∙ ap (λ (l : List ℕ). l ++ (all_written (n ∷ ns) ++ (ended_text k ++ rest)))
    (sym (begun_rest k values (codes ">")))

-- the same of a list that has some
pub full_some : (k : Kind) (values : List (List Word)) (ns : List Node) (rest : List ℕ) →
    is_nil (nodes ns) ≡ false →
    node_onto (full k values ns) rest
    ≡ begun_text k values ++ (all_written ns ++ (ended_text k ++ rest))
full_some k values [] rest some = absurd (cc)
full_some k values (n ∷ ns) rest some = full_written k values n ns rest

-- the hatches and the heads of arrows are the constant that the program has
pub defs_written : DEFS.now ≡ written defs
defs_written = refl
