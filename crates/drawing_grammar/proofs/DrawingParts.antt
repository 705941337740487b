-- The tokens of a whole canonical text in those of its parts, from the last part to the first.
use Rattle.std.proofs.Common.{List, ◌++◌}
use Rattle.std.specs.Prelude.{codes}
use Rattle.std.specs.List.{flat_map}
use Rattle.drawing_tree.specs.Tree as tree
use Rattle.drawing_grammar.specs.Lexeme.{Lexeme}
use Rattle.drawing_grammar.proofs.Cutting.{Bare}
use Rattle.drawing_grammar.proofs.CanonicalTokens.{word, semicolon, header_tokens, constant_tokens, macro_tokens, body_tokens, case_tokens, drawing_tokens, end_of_text}
use Rattle.drawing_grammar.proofs.Matching.{Are, Parts, parts}

abbrev pub title_tokens : tree.Drawing → List Bare
title_tokens d = word (codes "DRAWING") ++ word d.name ++ semicolon

abbrev pub through_constants : tree.Drawing → List Bare
through_constants d = header_tokens d.version d.header ++ flat_map constant_tokens d.consts

abbrev pub through_macros : tree.Drawing → List Bare
through_macros d = through_constants d ++ flat_map macro_tokens d.macros

abbrev pub through_title : tree.Drawing → List Bare
through_title d = through_macros d ++ title_tokens d

abbrev pub through_body : tree.Drawing → List Bare
through_body d = through_title d ++ body_tokens d.body

pub record DrawingParts (d : tree.Drawing) (ts : List Lexeme) : Type 0 where
  pub end : Parts ts (drawing_tokens d) end_of_text
  pub cases : Parts end.first (through_body d) (flat_map case_tokens d.cases)
  pub body : Parts cases.first (through_title d) (body_tokens d.body)
  pub title : Parts body.first (through_macros d) (title_tokens d)
  pub macros : Parts title.first (through_constants d) (flat_map macro_tokens d.macros)
  pub consts : Parts macros.first (header_tokens d.version d.header) (flat_map constant_tokens d.consts)

pub drawing_parts : (d : tree.Drawing) (ts : List Lexeme) → Are ts (drawing_tokens d ++ end_of_text) → DrawingParts d ts
drawing_parts d ts are =
    let end = parts ts (drawing_tokens d) end_of_text are in
    let cases = parts end.first (through_body d) (flat_map case_tokens d.cases) end.front in
    let body = parts cases.first (through_title d) (body_tokens d.body) cases.front in
    let title = parts body.first (through_macros d) (title_tokens d) body.front in
    let macros = parts title.first (through_constants d) (flat_map macro_tokens d.macros) title.front in
    let consts = parts macros.first (header_tokens d.version d.header) (flat_map constant_tokens d.consts) macros.front in
    record { end = end; cases = cases; body = body; title = title; macros = macros; consts = consts }
