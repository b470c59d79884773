-- Worked texts of metadata and what they say (own).
use Rattle.std.specs.Prelude.{◌≡◌, ℕ, true, false, codes, List, [], ◌∷◌, None, Some, Ok, Err}
use Rattle.sdc_base.specs.Lines.{text_of_lines}
use Rattle.rda_meta.specs.declared.faults.MetaWhy.TheVariants.{Clash}
use Rattle.rda_meta.specs.declared.meta.Variable.{Variable}
use Rattle.rda_meta.specs.declared.meta.Shape.TheVariants as shape
use Rattle.rda_meta.specs.CanonicalMetadata.{entry_of, AreCanonical}
use Rattle.rda_meta.specs.Metadata.{meta_of}

-- a variable of which nothing is said
abbrev pub plain_variable : List ℕ → ℕ → ℕ → Variable
plain_variable name first width =
    record {
      name = name;
      first = first;
      width = width;
      missing = [];
      numeric = false;
      weight = false;
      decimals = 0;
      total = codes "Total";
      codes = None;
      shape = shape.Flat;
    }

-- one variable that spans a table, and a number
abbrev pub FourLines : Type 0
FourLines =
    meta_of (text_of_lines (codes "A 1 1" ∷ codes "<RECODEABLE>" ∷ codes "V 2 3" ∷ codes "<NUMERIC>" ∷ []))
    ≡ Ok (record {
      variables = plain_variable (codes "A") 1 1
          ∷ record (plain_variable (codes "V") 2 3) { numeric = true } ∷ [];
      passed_over = 0;
    })

-- Blanks at both ends, missing codes, levels with zeros at the end, another total, and two keywords that are passed
-- over.
abbrev pub ReadsRealisticMetadata : Type 0
ReadsRealisticMetadata =
    meta_of (text_of_lines (
    codes "Ind 1 2 99" ∷ codes "   <RECODEABLE>" ∷ codes "   <HIERARCHICAL>" ∷ codes "   <HIERLEVELS> 1 1 0 0 0"
    ∷ codes "Reg 3 2" ∷ codes "   <RECODEABLE>" ∷ codes "   <TOTCODE> All"
    ∷ codes "Req 5 1" ∷ codes "   <REQUEST> \"1\" \"2\"" ∷ codes "Hold 6 3" ∷ codes "   <HOLDING>"
    ∷ codes "Turn 9 6 999999 888888" ∷ codes "   <NUMERIC>" ∷ codes "   <DECIMALS> 0" ∷ []))
    ≡ Ok (record {
      variables =
          record (plain_variable (codes "Ind") 1 2) { missing = codes "99" ∷ []; shape = shape.Levels (1 ∷ 1 ∷ []) }
          ∷ record (plain_variable (codes "Reg") 3 2) { total = codes "All" }
          ∷ plain_variable (codes "Req") 5 1
          ∷ plain_variable (codes "Hold") 6 3
          ∷ record (plain_variable (codes "Turn") 9 6)
          { missing = codes "999999" ∷ codes "888888" ∷ []; numeric = true }
          ∷ [];
      passed_over = 2;
    })

-- a name with a blank, a missing code with blanks at its ends, a code list, a hierarchy file with its lead string, and
-- a weight
abbrev pub Files : Type 0
Files =
    meta_of (text_of_lines (
    codes "\"Size class\" 1 2 \" 9 \"" ∷ codes "<hierarchical>" ∷ codes "<HierCodeList> \"size class.hrc\""
    ∷ codes "<HIERLEADSTRING> --" ∷ codes "<CODELIST> size.cdl" ∷ codes "W 17 8" ∷ codes "<WEIGHT>"
    ∷ codes "<DECIMALS> 2" ∷ []))
    ≡ Ok (record {
      variables =
          record (plain_variable (codes "Size class") 1 2) {
            missing = codes "9" ∷ [];
            codes = Some (codes "size.cdl");
            shape = shape.Listed (codes "size class.hrc") (codes "--");
          }
          ∷ record (plain_variable (codes "W") 17 8) { numeric = true; weight = true; decimals = 2 }
          ∷ [];
      passed_over = 0;
    })

-- a fault found at the end is given at the line of its variable
abbrev pub LateClash : Type 0
LateClash =
    meta_of (text_of_lines (codes "A 1 1" ∷ [] ∷ codes "B 2 1" ∷ codes "<hierarchical>" ∷ codes "C 3 1" ∷ []))
    ≡ Err (3, Clash)

-- some metadata have a canonical text
abbrev pub SomeCanonical : Type 0
SomeCanonical = AreCanonical [] (entry_of (plain_variable (codes "A") 1 1) ∷ [])
