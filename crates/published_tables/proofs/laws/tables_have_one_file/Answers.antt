use Rattle.published_tables.proofs.OneFile.{one_file}
use Rattle.published_tables.proofs.laws.tables_have_one_file.Goals as goal

pub returns : goal.returns
returns c = one_file c.file_is_one.ensures
