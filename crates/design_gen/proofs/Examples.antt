-- The drawing of one section, and a later section, written out.
use Rattle.std.specs.Prelude.{◌≡◌, codes}
use Rattle.std.specs.Fmt.{digits}
use Rattle.std.proofs.Common.{refl}
use Rattle.design_gen.specs.Datapath.{head, assertion, change_line, checker_line, register_line, section, datapath}

pub one_section : datapath 1
    ≡ codes "SCALD 1;\nCLOCK 8 x 50;\nWIRE 0:2;\nDRAWING BENCH;\ng1 : CHG [20:60] (\"Q0 .S4-3\"<0:7>) -> (\"D1\"<0:7>);\nc1 : SETUP_HOLD_CHK {SETUP=20, HOLD=5} (\"CK .P2-3\", \"D1\"<0:7>);\nr1 : REG [5:10] (\"CK .P2-3\", \"D1\"<0:7>) -> (\"Q1\"<0:7>);\nEND;\n"
unfolding digits head assertion change_line checker_line register_line datapath
one_section = refl

pub later_section : section 10
    ≡ codes "g10 : CHG [20:60] (\"Q9\"<0:7>) -> (\"D10\"<0:7>);\nc10 : SETUP_HOLD_CHK {SETUP=20, HOLD=5} (\"CK .P2-3\", \"D10\"<0:7>);\nr10 : REG [5:10] (\"CK .P2-3\", \"D10\"<0:7>) -> (\"Q10\"<0:7>);\n"
unfolding digits assertion change_line checker_line register_line
later_section = refl
