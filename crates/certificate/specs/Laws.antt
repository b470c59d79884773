-- Laws of certificates: what is written is read back, and each has one spelling (own).
use Rattle.std.specs.Prelude.{◌≡◌, List, [], ℕ, Ok}
use Rattle.sdc_base.specs.declared.method.Method.{Method}
use Rattle.certificate.specs.declared.certificate.Certificate.{Certificate}
use Rattle.certificate.specs.Certificates.{certificate_of}
use Rattle.certificate.specs.declared.version.Version.{Version}
use Rattle.certificate.specs.Texts.{text_in}
use Rattle.certificate.specs.Spelling.{HasTextIn, IsTextOf, IsWithinTypes}

-- the text of a certificate in a version in which it has one is read as that certificate
abbrev pub IsReadBack : Type 0
IsReadBack =
    (version : Version) (certificate : Certificate) → HasTextIn version certificate → IsWithinTypes certificate
    → certificate_of (text_in version certificate) ≡ Ok certificate

-- Bytes that are read as a certificate are its text in one of the versions, so it has one spelling in each.
abbrev pub HasOneSpelling : Type 0
HasOneSpelling =
    (bytes : List ℕ) (certificate : Certificate) → certificate_of bytes ≡ Ok certificate
    → IsTextOf bytes certificate × IsWithinTypes certificate

-- the certificate of a release of which nothing is hidden
abbrev pub without_hidden_cells : Method → ℕ → ℕ → Certificate
without_hidden_cells method cells relations =
    record {
      method = method;
      cells = cells;
      relations = relations;
      hidden = [];
      steps = [];
      repairs = [];
      needs = [];
      worlds = [];
    }
