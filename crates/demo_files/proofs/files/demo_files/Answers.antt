use Rattle.std.proofs.Common.{◌≡◌, ◌∙◌, ◌∷◌, [], ap, rules}
use Rattle.office_io.specs.Files.{file_of}
use Rattle.demo_files.proofs.Folders.{folder-is}
use Rattle.demo_files.proofs.files.demo_files.Goals as goal

pub returns : goal.returns
returns c =
    let items : c.push-4.new.self.items ≡ c.in_ok-file.field-0 ∷ c.in_ok-file-2.field-0 ∷ c.in_ok-file-3.field-0 ∷ (c.in_ok-text_named.field-0, c.in_ok-survey.field-0) ∷ [] = search rules in
    ap file_of items ∙ folder-is c.in_ok-file.field-0 c.in_ok-file-2.field-0 c.in_ok-file-3.field-0 (c.in_ok-text_named.field-0, c.in_ok-survey.field-0) _ _ _ _
    c.in_ok-file.ensures.name c.in_ok-file.ensures.text c.in_ok-file-2.ensures.name c.in_ok-file-2.ensures.text c.in_ok-file-3.ensures.name c.in_ok-file-3.ensures.text c.in_ok-text_named.ensures c.in_ok-survey.ensures
