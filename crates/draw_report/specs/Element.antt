-- What pictures are made of, and the bytes that are written for it: elements of these kinds, texts,
-- the style and line ends. Whatever the texts are, a reader of XML reads it.
use Rattle.std.specs.Prelude.{ℕ, ◌==◌, Bool, true, false, List, [], ◌∷◌, ◌++◌, codes, decimal, map, if◌then◌else◌}
use Rattle.std.specs.List.{flat_map}
use Rattle.draw_report.specs.declared.style.TheConstants.{STYLE}
use Rattle.draw_report.specs.Xml.{Attribute, Bytes, IsDocument, Reads, Tag, Tree, Trees, is_printable, none, tree}

-- ---- elements, each with its tag and the names of its attributes

pub data Kind : Type 0 where
  Svg : Kind
  Title : Kind
  Style : Kind
  Defs : Kind
  Pattern : Kind
  Marker : Kind
  Rect : Kind
  Circle : Kind
  Path : Kind
  MovedPath : Kind
  BarePath : Kind
  Group : Kind
  Label : Kind
  Line : Kind
  Html : Kind
  Head : Kind
  Body : Kind
  Heading : Kind
  Lines : Kind
  Section : Kind
  Hidden : Kind
  Link : Kind

abbrev pub tag_of : Kind → List ℕ
tag_of Svg = codes "svg"
tag_of Title = codes "title"
tag_of Style = codes "style"
tag_of Defs = codes "defs"
tag_of Pattern = codes "pattern"
tag_of Marker = codes "marker"
tag_of Rect = codes "rect"
tag_of Circle = codes "circle"
tag_of Path = codes "path"
tag_of MovedPath = codes "path"
tag_of BarePath = codes "path"
tag_of Group = codes "g"
tag_of Label = codes "text"
tag_of Line = codes "text"
tag_of Html = codes "html"
tag_of Head = codes "head"
tag_of Body = codes "body"
tag_of Heading = codes "h1"
tag_of Lines = codes "pre"
tag_of Section = codes "section"
tag_of Hidden = codes "svg"
tag_of Link = codes "a"

abbrev pub keys_of : Kind → List (List ℕ)
keys_of Svg = codes "xmlns" ∷ codes "width" ∷ codes "height" ∷ codes "viewBox" ∷ []
keys_of Title = []
keys_of Style = []
keys_of Defs = []
keys_of Pattern = codes "id" ∷ codes "width" ∷ codes "height" ∷ codes "patternUnits" ∷ []
keys_of Marker =
    codes "id" ∷ codes "class" ∷ codes "viewBox" ∷ codes "refX" ∷ codes "refY"
    ∷ codes "markerWidth" ∷ codes "markerHeight" ∷ codes "markerUnits" ∷ codes "orient" ∷ []
keys_of Rect = codes "class" ∷ codes "width" ∷ codes "height" ∷ []
keys_of Circle = codes "class" ∷ codes "cx" ∷ codes "cy" ∷ codes "r" ∷ []
keys_of Path = codes "class" ∷ codes "d" ∷ []
keys_of MovedPath = codes "class" ∷ codes "transform" ∷ codes "d" ∷ []
keys_of BarePath = codes "d" ∷ []
keys_of Group = codes "transform" ∷ []
keys_of Label = codes "class" ∷ codes "x" ∷ codes "y" ∷ []
keys_of Line = codes "x" ∷ codes "y" ∷ []
keys_of Html = codes "xmlns" ∷ []
keys_of Head = []
keys_of Body = []
keys_of Heading = []
keys_of Lines = []
keys_of Section = codes "id" ∷ []
keys_of Hidden = codes "xmlns" ∷ codes "width" ∷ codes "height" ∷ []
keys_of Link = codes "href" ∷ []

-- ---- texts, and values of attributes: numbers, and bytes, escaped where XML gives them a meaning

pub data Word : Type 0 where
  Chars : List ℕ → Word
  Byte : ℕ → Word
  Number : ℕ → Word

-- A byte that XML cannot have is a question mark. No name has such a byte.
abbrev pub escape : ℕ → List ℕ
escape b =
    if b == 38 then codes "&amp;"
    else if b == 60 then codes "&lt;"
    else if b == 62 then codes "&gt;"
    else if b == 34 then codes "&quot;"
    else if is_printable b then b ∷ []
    else codes "?"

abbrev pub escaped : List ℕ → List ℕ
escaped text = flat_map escape text

abbrev pub word_text : Word → List ℕ
word_text (Chars bytes) = escaped bytes
word_text (Byte b) = escape b
word_text (Number n) = decimal n

-- ---- nodes

mutual
  pub data Node : Type 0 where
    Element : Kind → List (List Word) → Nodes → Node
    Text : List Word → Node
    Look : Node
    Break : Node

  pub data Nodes : Type 0 where
    nil : Nodes
    cons : Node → Nodes → Nodes

abbrev pub nodes : List Node → Nodes
nodes [] = nil
nodes (n ∷ ns) = cons n (nodes ns)

-- an element with nothing in it, one with these nodes, and one with a text
abbrev pub empty : Kind → List (List Word) → Node
empty k values = Element k values nil

abbrev pub full : Kind → List (List Word) → List Node → Node
full k values ns = Element k values (nodes ns)

abbrev pub labelled : Kind → List (List Word) → List Word → Node
labelled k values text = Element k values (cons (Text text) nil)

-- ---- writing, each before what follows

abbrev pub words_onto : List Word → List ℕ → List ℕ
words_onto [] rest = rest
words_onto (w ∷ ws) rest = word_text w ++ words_onto ws rest

abbrev pub attributes_onto : List (List ℕ) → List (List Word) → List ℕ → List ℕ
attributes_onto [] values rest = rest
attributes_onto (key ∷ keys) [] rest = rest
attributes_onto (key ∷ keys) (value ∷ values) rest =
    codes " " ++ (key ++ (codes "=\""
    ++ words_onto value (codes "\"" ++ attributes_onto keys values rest)))

abbrev pub begun : Kind → List (List Word) → List ℕ → List ℕ
begun k values rest = codes "<" ++ (tag_of k ++ attributes_onto (keys_of k) values rest)

abbrev pub ended : Kind → List ℕ → List ℕ
ended k rest = codes "</" ++ (tag_of k ++ (codes ">" ++ rest))

abbrev pub is_nil : Nodes → Bool
is_nil nil = true
is_nil (cons n ns) = false

-- an element without content has one tag
abbrev mutual
  pub node_onto : Node → List ℕ → List ℕ
  node_onto (Element k values ns) rest =
      begun k values (if is_nil ns then codes "/>" ++ rest
      else codes ">" ++ nodes_onto ns (ended k rest))
  node_onto (Text words) rest = words_onto words rest
  node_onto Look rest = STYLE.now ++ rest
  node_onto Break rest = 10 ∷ rest

  pub nodes_onto : Nodes → List ℕ → List ℕ
  nodes_onto nil rest = rest
  nodes_onto (cons n ns) rest = node_onto n (nodes_onto ns rest)

abbrev pub words_text : List Word → List ℕ
words_text words = words_onto words []

abbrev pub written : Node → List ℕ
written n = node_onto n []

abbrev pub all_written : List Node → List ℕ
all_written ns = flat_map written ns

-- what stands before and after the nodes of an element that has some
abbrev pub begun_text : Kind → List (List Word) → List ℕ
begun_text k values = begun k values (codes ">")

abbrev pub ended_text : Kind → List ℕ
ended_text k = ended k []

-- ---- what is read

abbrev pub legible : ℕ → ℕ
legible b = if is_printable b then b else 63

abbrev pub legible_word : Word → List ℕ
legible_word (Chars bytes) = map legible bytes
legible_word (Byte b) = legible b ∷ []
legible_word (Number n) = decimal n

abbrev pub legible_words : List Word → List ℕ
legible_words words = flat_map legible_word words

abbrev pub attributes_of : List (List ℕ) → List (List Word) → List Attribute
attributes_of [] values = []
attributes_of (key ∷ keys) [] = []
attributes_of (key ∷ keys) (value ∷ values) =
    record { name = key; value = legible_words value } ∷ attributes_of keys values

abbrev mutual
  pub tree_of : Node → Tree
  tree_of (Element k values ns) = Tag (tag_of k) (attributes_of (keys_of k) values) (trees_of ns)
  tree_of (Text words) = Bytes (legible_words words)
  tree_of Look = Bytes STYLE.now
  tree_of Break = Bytes (10 ∷ [])

  pub trees_of : Nodes → Trees
  trees_of nil = none
  trees_of (cons n ns) = tree (tree_of n) (trees_of ns)

-- ---- laws

-- What is written is read as it was meant.
abbrev pub ReadsBack : Type 0
ReadsBack = (ns : Nodes) → Reads (nodes_onto ns []) (trees_of ns)

-- So an element and the end of its line are a document.
abbrev pub WritesDocuments : Type 0
WritesDocuments =
    (k : Kind) (values : List (List Word)) (ns : Nodes) →
    IsDocument (node_onto (Element k values ns) (10 ∷ []))
