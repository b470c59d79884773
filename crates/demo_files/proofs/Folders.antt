-- Four files in a list are a folder.
use Rattle.std.proofs.Common.{◌≡◌, ℕ, List, [], ◌∷◌, Some, None, codes, if◌then◌else◌}
use Rattle.std.specs.Prelude.{Vec}
use Rattle.std.specs.Str.{bytes_eq}
use Rattle.std.specs.declared.alloc.Global.{Global}
use Rattle.office_io.specs.Files.{file_of}
use Rattle.demo_files.specs.DemoFiles.{folder_of}

pub folder-is : (a b c d : List ℕ × Vec ℕ Global) (job metadata regions records : List ℕ) → a.0 ≡ codes "demo.job" → a.1.items ≡ job → b.0 ≡ codes "demo.rda" → b.1.items ≡ metadata
    → c.0 ≡ codes "region.hrc" → c.1.items ≡ regions → d.0 ≡ codes "demo.asc" → d.1.items ≡ records → file_of (a ∷ b ∷ c ∷ d ∷ []) ≡ folder_of job metadata regions records
folder-is a b c d job metadata regions records a_is holds_job b_is holds_metadata c_is holds_regions d_is holds_records =
    λ i name. if bytes_eq (a_is i) name then Some (holds_job i)
    else if bytes_eq (b_is i) name then Some (holds_metadata i)
    else if bytes_eq (c_is i) name then Some (holds_regions i)
    else if bytes_eq (d_is i) name then Some (holds_records i)
    else None
