use Rattle.std.proofs.Common.{◌≡◌, length}
use Rattle.std.specs.List.{list_all}
use Rattle.job_lang.specs.Pieces.{pieces}
use Rattle.job_lang.specs.TableTexts.{is_free_part}
use Rattle.job_lang.proofs.table_texts.all_free.Given as goal

abbrev pub invariant-parts : goal.invariant-parts
invariant-parts l = list_all is_free_part l.parts ≡ list_all is_free_part (pieces l.text)

abbrev pub decreases-parts : goal.decreases-parts
decreases-parts l = length l.parts
