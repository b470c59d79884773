-- Worked texts of certificates and what they say (own).
use Rattle.std.specs.Prelude.{◌≡◌, codes, [], ◌∷◌, Ok, Err, pos, negsuc}
use Rattle.sdc_base.specs.Lines.{text_of_lines}
use Rattle.sdc_base.specs.declared.method.Method.TheVariants as method
use Rattle.sdc_base.specs.declared.side.Side.TheVariants.{Above, Below}
use Rattle.certificate.specs.declared.certificate.Certificate.{Certificate}
use Rattle.certificate.specs.declared.faults.CertWhy.TheVariants as why
use Rattle.certificate.specs.Certificates.{certificate_of}
use Rattle.certificate.specs.Texts.{text_of}
use Rattle.certificate.specs.Laws.{without_hidden_cells}

-- a release of which nothing is hidden
abbrev pub ReadsOpenCertificate : Type 0
ReadsOpenCertificate =
    certificate_of (text_of_lines (codes "argus certificate 1" ∷ codes "method MOD" ∷ codes "cells 3"
    ∷ codes "relations 1" ∷ codes "end" ∷ []))
    ≡ Ok (without_hidden_cells method.Modular 3 1)

-- the certificate of a step of a trail, a need, and two complete tables
abbrev pub of_two_tables : Certificate
of_two_tables =
    record {
      method = method.Gh 2;
      cells = 6;
      relations = 3;
      hidden = 1 ∷ 4 ∷ [];
      steps = record { table = 0; parents = 0 ∷ 2 ∷ []; cell = 4; corners = 1 ∷ 4 ∷ [] } ∷ [];
      repairs = [];
      needs = record {
        subject = 1;
        cell = 4;
        side = Above;
        multipliers = record { den = pos 1; by_relation = (0, negsuc 0) ∷ (2, pos 3) ∷ [] };
      } ∷ [];
      worlds =
          record {
            cell = 4;
            side = Above;
            world = record { den = pos 2; moves = record { cell = 4; by = pos 3 } ∷ [] };
          }
          ∷ record {
            cell = 4;
            side = Below;
            world = record {
              den = pos 1;
              moves = record { cell = 1; by = pos 3 } ∷ record { cell = 4; by = negsuc 2 }
                  ∷ [];
            };
          }
          ∷ [];
    }

-- In the first version a complete table has one move for each hidden cell, and one of 0 is no move.
abbrev pub ReadsFirstVersion : Type 0
ReadsFirstVersion =
    certificate_of (text_of_lines (
    codes "argus certificate 1" ∷ codes "method GH 2" ∷ codes "cells 6" ∷ codes "relations 3"
    ∷ codes "hidden 1 4" ∷ codes "step 1 0,2 4 1,4" ∷ codes "need 1 4 above 1 0:-1 2:3"
    ∷ codes "world 4 above 2 0 3" ∷ codes "world 4 below 1 3 -3" ∷ codes "end" ∷ []))
    ≡ Ok of_two_tables

-- In the second it has the cells that move.
abbrev pub ReadsSecondVersion : Type 0
ReadsSecondVersion =
    certificate_of (text_of_lines (
    codes "argus certificate 2" ∷ codes "method GH 2" ∷ codes "cells 6" ∷ codes "relations 3"
    ∷ codes "hidden 1 4" ∷ codes "step 1 0,2 4 1,4" ∷ codes "need 1 4 above 1 0:-1 2:3"
    ∷ codes "world 4 above 2 4:3" ∷ codes "world 4 below 1 1:3 4:-3" ∷ codes "end" ∷ []))
    ≡ Ok of_two_tables

-- That is the text that is written.
abbrev pub WritesSecondVersion : Type 0
WritesSecondVersion =
    text_of of_two_tables ≡ text_of_lines (
    codes "argus certificate 2" ∷ codes "method GH 2" ∷ codes "cells 6" ∷ codes "relations 3"
    ∷ codes "hidden 1 4" ∷ codes "step 1 0,2 4 1,4" ∷ codes "need 1 4 above 1 0:-1 2:3"
    ∷ codes "world 4 above 2 4:3" ∷ codes "world 4 below 1 1:3 4:-3" ∷ codes "end" ∷ [])

-- There is no third version.
abbrev pub FindsVersion : Type 0
FindsVersion =
    certificate_of (text_of_lines (codes "argus certificate 3" ∷ codes "method MOD" ∷ [])) ≡ Err (1, why.Version)

-- In the second version a move of 0 is no number of a move, and cells that move ascend.
abbrev pub FindsMoveOfZero : Type 0
FindsMoveOfZero =
    certificate_of (text_of_lines (codes "argus certificate 2" ∷ codes "method MOD" ∷ codes "cells 6"
    ∷ codes "relations 3"
    ∷ codes "hidden 1 4" ∷ codes "world 4 above 1 4:0 1:3" ∷ [])) ≡ Err (6, why.Number)

abbrev pub FindsOrderOfMoves : Type 0
FindsOrderOfMoves =
    certificate_of (text_of_lines (codes "argus certificate 2" ∷ codes "method MOD" ∷ codes "cells 6"
    ∷ codes "relations 3"
    ∷ codes "hidden 1 4" ∷ codes "world 4 above 1 4:-3 1:3" ∷ [])) ≡ Err (6, why.Order)

-- The tokens of one version are no tokens of the other.
abbrev pub FindsFormOfMoves : Type 0
FindsFormOfMoves =
    certificate_of (text_of_lines (codes "argus certificate 2" ∷ codes "method MOD" ∷ codes "cells 6"
    ∷ codes "relations 3"
    ∷ codes "hidden 1 4" ∷ codes "world 4 above 1 0 3" ∷ [])) ≡ Err (6, why.Shape)

-- Shape stands before Number, and Number before Order, in one line.
abbrev pub FindsShapeFirst : Type 0
FindsShapeFirst =
    certificate_of (text_of_lines (codes "argus certificate 1" ∷ codes "method MOD" ∷ codes "cells 6"
    ∷ codes "relations 3"
    ∷ codes "need x 4 above 1 2:1 0" ∷ [])) ≡ Err (5, why.Shape)

abbrev pub FindsNumberNext : Type 0
FindsNumberNext =
    certificate_of (text_of_lines (codes "argus certificate 1" ∷ codes "method MOD" ∷ codes "cells 6"
    ∷ codes "relations 3"
    ∷ codes "need 1 4 above 1 2:1 0:01" ∷ [])) ≡ Err (5, why.Number)

abbrev pub FindsOrderLast : Type 0
FindsOrderLast =
    certificate_of (text_of_lines (codes "argus certificate 1" ∷ codes "method MOD" ∷ codes "cells 6"
    ∷ codes "relations 3"
    ∷ codes "need 1 4 above 1 2:1 0:1" ∷ [])) ≡ Err (5, why.Order)
