-- A reader of XML reads what is written.
use Rattle.std.proofs.Common.{◌≡◌, ℕ, zero, suc, ◌%◌, ◌/◌, ◌<◌, Bool, true, false, not, List, [], ◌∷◌, ◌++◌, map, append_assoc, refl, arith, sym, ap, subst, ◌∙◌, inl, inr}
use Rattle.std.specs.Prelude.{codes, decimal, ◌&&◌, ◌||◌, ◌==◌, nat_lt}
use Rattle.std.specs.Fmt.{digit_glyph, digits, digits_onto}
use Rattle.std.specs.List.{list_all, list_any}
use Rattle.std.specs.Str.{bytes_eq}
use Rattle.std.proofs.lemmas.Bool.{and_parts, cases_Bool, eqb-true}
use Rattle.std.proofs.lemmas.Bool.Decides.{nat_tests}
use Rattle.draw_report.specs.declared.style.TheConstants.{STYLE}
use Rattle.draw_report.specs.Element.{BarePath, Body, Break, Byte, Chars, Circle, Defs, Element, Group, Head, Heading, Hidden, Html, Kind, Label, Line, Lines, Link, Look, Marker, MovedPath, Node, Nodes, Number, Path, Pattern, ReadsBack, Rect, Section, Style, Svg, Text, Title, Word, WritesDocuments, attributes_of, attributes_onto, begun, cons, ended, escape, escaped, keys_of, legible, legible_word, legible_words, nil, node_onto, nodes_onto, tag_of, tree_of, trees_of, word_text, words_text}
use Rattle.draw_report.specs.Xml.{Bytes, Reads, ReadsAttributes, ReadsText, Tag, Trees, amp, element, empty, entity, gt, is_name, is_named, is_plain, is_plain_text, is_printable, lt, no_attribute, no_text, none, nothing, one_more, plain, quot, text, tree}
use Rattle.draw_report.proofs.Texts.{words_rest}
use Rattle.draw_report.proofs.Writing.{begun_rest, nodes_rest}

-- ---- texts

-- two texts, one after the other
reads_two : (own : ℕ → Bool) (s t a b : List ℕ) → ReadsText own s a → ReadsText own t b →
    ReadsText own (s ++ t) (a ++ b)
reads_two own _ t _ b no_text q = q
reads_two own _ t _ b (plain c s a is p) q =
    plain c (s ++ t) (a ++ b) is (reads_two own s t a b p q)
reads_two own _ t _ b (entity e c s a is p) q =
    subst (λ (l : List ℕ). ReadsText own l (c ∷ (a ++ b))) (sym (append_assoc e s t))
    (entity e c (s ++ t) (a ++ b) is (reads_two own s t a b p q))

-- what is plain in a value may stand in a text too
abbrev Allows : (ℕ → Bool) → Type 0
Allows own = (b : ℕ) → is_plain b ≡ true → own b ≡ true

values_allow : Allows is_plain
values_allow b is = is

texts_allow : Allows is_plain_text
texts_allow b is = rw is refl

module _ (own : ℕ → Bool) (allows : Allows own) where
  -- a byte that is another one
  as_number : (b n : ℕ) → b ≡ n → ReadsText own (escape n) (legible n ∷ []) →
      ReadsText own (escape b) (legible b ∷ [])
  as_number b n same h =
      subst (λ (m : ℕ). ReadsText own (escape m) (legible m ∷ [])) (sym same) h

  escape_read : (b : ℕ) → ReadsText own (escape b) (legible b ∷ [])
  escape_read b =
      elim (cases_Bool (b == 38)) [
        | inl h ↦ as_number b 38 (eqb-true b 38 h) (entity (codes "&amp;") 38 [] [] amp no_text)
        | inr h38 ↦ elim (cases_Bool (b == 60)) [
          | inl h ↦ as_number b 60 (eqb-true b 60 h) (entity (codes "&lt;") 60 [] [] lt no_text)
          | inr h60 ↦ elim (cases_Bool (b == 62)) [
            | inl h ↦ as_number b 62 (eqb-true b 62 h) (entity (codes "&gt;") 62 [] [] gt no_text)
            | inr h62 ↦ elim (cases_Bool (b == 34)) [
              | inl h ↦ as_number b 34 (eqb-true b 34 h)
                  (entity (codes "&quot;") 34 [] [] quot no_text)
              | inr h34 ↦ elim (cases_Bool (is_printable b)) [
                | inl p ↦ rw (h38, h60, h62, h34, p) (plain b [] []
                    (allows b (rw (p, h38, h60, h62, h34) refl)) no_text)
                | inr p ↦ rw (h38, h60, h62, h34, p) (plain 63 [] [] (allows 63 refl) no_text)
              ]
            ]
          ]
        ]
      ]

  escaped_read : (bytes : List ℕ) → ReadsText own (escaped bytes) (map legible bytes)
  escaped_read [] = no_text
  escaped_read (b ∷ bs) =
      reads_two own (escape b) (escaped bs) (legible b ∷ []) (map legible bs) (escape_read b)
      (escaped_read bs)

  -- bytes that may all stand as they are
  pub own_read : (bytes : List ℕ) → list_all own bytes ≡ true → ReadsText own bytes bytes
  own_read [] all = no_text
  own_read (b ∷ bs) all =
      let parts = and_parts (own b) (list_all own bs) all in
      plain b bs bs parts.0 (own_read bs parts.1)

  digit_plain : (n : ℕ) → own (digit_glyph false (n % 10)) ≡ true
  digit_plain n =
      allows (digit_glyph false (n % 10))
      (let low : n % 10 < 10 = omega arith in
      let is : nat_lt (n % 10) 10 ≡ true = grind (arith, nat_tests) in
      rw is (grind (arith, nat_tests)))

  digits_plain : (k n : ℕ) (acc : List ℕ) → list_all own acc ≡ true →
      list_all own (digits_onto k 10 false n acc) ≡ true
  digits_plain zero n acc all = all
  digits_plain (suc k) n acc all =
      elim (cases_Bool (n / 10 == 0)) [
        | inl h ↦ rw h (rw (digit_plain n, all) refl)
        | inr h ↦ rw h (digits_plain k (n / 10) (digit_glyph false (n % 10) ∷ acc)
            (rw (digit_plain n, all) refl))
      ]

  number_read : (n : ℕ) → ReadsText own (decimal n) (decimal n)
  unfolding digits
  number_read n = own_read (decimal n) (digits_plain 64 n [] refl)

  word_read : (w : Word) → ReadsText own (word_text w) (legible_word w)
  word_read (Chars bytes) = escaped_read bytes
  word_read (Byte b) = escape_read b
  word_read (Number n) = number_read n

  pub words_read : (ws : List Word) → ReadsText own (words_text ws) (legible_words ws)
  words_read [] = no_text
  words_read (w ∷ ws) =
      reads_two own (word_text w) (words_text ws) (legible_word w) (legible_words ws) (word_read w)
      (words_read ws)

-- ---- attributes

-- each name is one, and stands once
abbrev are_keys : List (List ℕ) → Bool
are_keys [] = true
are_keys (key ∷ keys) =
    (is_name key && not (list_any (λ (other : List ℕ). bytes_eq other key) keys)) && are_keys keys

kinds_fit : (k : Kind) → (is_name (tag_of k) && are_keys (keys_of k)) ≡ true
kinds_fit Svg = refl
kinds_fit Title = refl
kinds_fit Style = refl
kinds_fit Defs = refl
kinds_fit Pattern = refl
kinds_fit Marker = refl
kinds_fit Rect = refl
kinds_fit Circle = refl
kinds_fit Path = refl
kinds_fit MovedPath = refl
kinds_fit BarePath = refl
kinds_fit Group = refl
kinds_fit Label = refl
kinds_fit Line = refl
kinds_fit Html = refl
kinds_fit Head = refl
kinds_fit Body = refl
kinds_fit Heading = refl
kinds_fit Lines = refl
kinds_fit Section = refl
kinds_fit Link = refl
kinds_fit Hidden = refl

-- the names of attributes are among the keys
not_named : (name : List ℕ) (keys : List (List ℕ)) (values : List (List Word)) →
    not (list_any (λ (other : List ℕ). bytes_eq other name) keys) ≡ true →
    not (list_any (is_named name) (attributes_of keys values)) ≡ true
not_named name [] values h = refl
not_named name (key ∷ keys) [] h = refl
not_named name (key ∷ keys) (value ∷ values) h =
    by (bytes_eq key name) refl h (not_named name keys values)
  where
    by : (b : Bool) → bytes_eq key name ≡ b →
        not (b || list_any (λ (other : List ℕ). bytes_eq other name) keys) ≡ true →
        (not (list_any (λ (other : List ℕ). bytes_eq other name) keys) ≡ true →
        not (list_any (is_named name) (attributes_of keys values)) ≡ true) →
        not (bytes_eq key name || list_any (is_named name) (attributes_of keys values)) ≡ true
    by true e h rest = absurd (cc)
    by false e h rest = rw e (rest h)

pub attributes_read : (keys : List (List ℕ)) (values : List (List Word)) → are_keys keys ≡ true →
    ReadsAttributes (attributes_onto keys values []) (attributes_of keys values)
attributes_read [] values are = no_attribute
attributes_read (key ∷ keys) [] are = no_attribute
attributes_read (key ∷ keys) (value ∷ values) are =
    let parts = and_parts (is_name key && not
    (list_any (λ (other : List ℕ). bytes_eq other key) keys)) (are_keys keys) are in
    let first = and_parts (is_name key) (not (list_any (λ (other : List ℕ). bytes_eq other key)
    keys)) parts.0 in
    subst (λ (l : List ℕ). ReadsAttributes (codes " " ++ (key ++ (codes "=\"" ++ l)))
    (attributes_of (key ∷ keys) (value ∷ values)))
    (sym (words_rest value (codes "\"" ++ attributes_onto keys values [])))
    (one_more key (words_text value) (legible_words value) (attributes_onto keys values [])
    (attributes_of keys values) first.0 (not_named key keys values first.1)
    (words_read is_plain values_allow value) (attributes_read keys values parts.1))

-- ---- nodes

style_plain : list_all is_plain_text STYLE.now ≡ true
style_plain = refl

-- the text of an element, for one tag or two
tag_read : (k : Kind) (values : List (List Word)) (rest : List ℕ) (others : Trees) →
    Reads rest others →
    Reads (begun k values (codes "/>" ++ rest))
    (tree (Tag (tag_of k) (attributes_of (keys_of k) values) none) others)
tag_read k values rest others is =
    let fit = and_parts (is_name (tag_of k)) (are_keys (keys_of k)) (kinds_fit k) in
    subst (λ (l : List ℕ). Reads l (tree (Tag (tag_of k) (attributes_of (keys_of k) values) none)
    others))
    (sym (begun_rest k values (codes "/>" ++ rest)
    ∙ ap (λ (l : List ℕ). codes "<" ++ l)
    (append_assoc (tag_of k) (attributes_onto (keys_of k) values []) (codes "/>" ++ rest))))
    (empty (tag_of k) (attributes_onto (keys_of k) values []) rest
    (attributes_of (keys_of k) values) others fit.0 (attributes_read (keys_of k) values fit.1) is)

tags_read : (k : Kind) (values : List (List Word)) (inside rest : List ℕ) (within others : Trees) →
    Reads inside within → Reads rest others →
    Reads (begun k values (codes ">" ++ (inside ++ ended k rest)))
    (tree (Tag (tag_of k) (attributes_of (keys_of k) values) within) others)
tags_read k values inside rest within others in_is is =
    let fit = and_parts (is_name (tag_of k)) (are_keys (keys_of k)) (kinds_fit k) in
    subst (λ (l : List ℕ). Reads l (tree (Tag (tag_of k) (attributes_of (keys_of k) values) within)
    others))
    (sym (begun_rest k values (codes ">" ++ (inside ++ ended k rest))
    ∙ ap (λ (l : List ℕ). codes "<" ++ l)
    (append_assoc (tag_of k) (attributes_onto (keys_of k) values [])
    (codes ">" ++ (inside ++ ended k rest)))))
    (element (tag_of k) (attributes_onto (keys_of k) values []) inside rest
    (attributes_of (keys_of k) values) within others fit.0
    (attributes_read (keys_of k) values fit.1) in_is is)

element_read : (k : Kind) (values : List (List Word)) (ns : Nodes) (rest : List ℕ)
    (others : Trees) →
    Reads (nodes_onto ns []) (trees_of ns) → Reads rest others →
    Reads (node_onto (Element k values ns) rest) (tree (tree_of (Element k values ns)) others)
element_read k values nil rest others inner is = tag_read k values rest others is
element_read k values (cons n ns) rest others inner is =
    subst (λ (l : List ℕ). Reads (begun k values (codes ">" ++ l))
    (tree (tree_of (Element k values (cons n ns))) others))
    (sym (nodes_rest (cons n ns) (ended k rest)))
    (tags_read k values (nodes_onto (cons n ns) []) rest (trees_of (cons n ns)) others inner is)

mutual
  pub node_read : (n : Node) (rest : List ℕ) (others : Trees) → Reads rest others →
      Reads (node_onto n rest) (tree (tree_of n) others)
  node_read (Element k values ns) rest others is =
      element_read k values ns rest others (nodes_read ns) is
  node_read (Text words) rest others is =
      subst (λ (l : List ℕ). Reads l (tree (Bytes (legible_words words)) others))
      (sym (words_rest words rest))
      (text (words_text words) (legible_words words) rest others
      (words_read is_plain_text texts_allow words) is)
  node_read Look rest others is =
      text STYLE.now STYLE.now rest others (own_read is_plain_text texts_allow STYLE.now
      style_plain) is
  node_read Break rest others is =
      text (10 ∷ []) (10 ∷ []) rest others (plain 10 [] [] refl no_text) is

  pub nodes_read : (ns : Nodes) → Reads (nodes_onto ns []) (trees_of ns)
  nodes_read nil = nothing
  nodes_read (cons n ns) = node_read n (nodes_onto ns []) (trees_of ns) (nodes_read ns)

pub reads_back : ReadsBack
reads_back ns = nodes_read ns

pub writes_documents : WritesDocuments
writes_documents k values ns = record {
  tag = tag_of k;
  attributes = attributes_of (keys_of k) values;
  within = trees_of ns;
  reads = node_read (Element k values ns) (10 ∷ []) (tree (Bytes (10 ∷ [])) none)
      (text (10 ∷ []) (10 ∷ []) [] none (plain 10 [] [] refl no_text) nothing);
}
