-- The worked texts are read as they should be.
use Rattle.std.proofs.Common.{refl, arith}
use Rattle.std.proofs.lemmas.Fmt.{decimal_digit}
use Rattle.certificate.specs.TokenLists.{only_of, token_numbers, term_of, terms_of, first_integer, moves_of, paired_moves_of}
use Rattle.certificate.specs.LineReadings.{hidden_of, step_by, step_of, refutation_by, refutation_of, world_by, world_of, item_of}
use Rattle.certificate.specs.MethodReadings.{passes_of, method_by_base, modular_of, method_of, count_of}
use Rattle.certificate.specs.Certificates.{item_at, items_from, version_at, hidden_at, certificate_of}
use Rattle.certificate.specs.WorkedTexts.{ReadsOpenCertificate, ReadsFirstVersion, ReadsSecondVersion, WritesSecondVersion, FindsVersion, FindsMoveOfZero, FindsOrderOfMoves, FindsFormOfMoves, FindsShapeFirst, FindsNumberNext, FindsOrderLast}

pub open_release : ReadsOpenCertificate
unfolding only_of token_numbers term_of terms_of first_integer moves_of paired_moves_of passes_of method_by_base modular_of method_of count_of hidden_of step_by step_of refutation_by refutation_of world_by world_of item_of item_at items_from version_at hidden_at certificate_of
open_release = refl

pub first_version : ReadsFirstVersion
unfolding only_of token_numbers term_of terms_of first_integer moves_of paired_moves_of passes_of method_by_base modular_of method_of count_of hidden_of step_by step_of refutation_by refutation_of world_by world_of item_of item_at items_from version_at hidden_at certificate_of
first_version = refl

pub second_version : ReadsSecondVersion
unfolding only_of token_numbers term_of terms_of first_integer moves_of paired_moves_of passes_of method_by_base modular_of method_of count_of hidden_of step_by step_of refutation_by refutation_of world_by world_of item_of item_at items_from version_at hidden_at certificate_of
second_version = refl

pub written_version : WritesSecondVersion
written_version =
    rw (decimal_digit 0 (omega arith), decimal_digit 1 (omega arith), decimal_digit 2 (omega arith), decimal_digit 3 (omega arith), decimal_digit 4 (omega arith), decimal_digit 6 (omega arith)) refl

pub other_version : FindsVersion
unfolding only_of token_numbers term_of terms_of first_integer moves_of paired_moves_of passes_of method_by_base modular_of method_of count_of hidden_of step_by step_of refutation_by refutation_of world_by world_of item_of item_at items_from version_at hidden_at certificate_of
other_version = refl

pub zero_move : FindsMoveOfZero
unfolding only_of token_numbers term_of terms_of first_integer moves_of paired_moves_of passes_of method_by_base modular_of method_of count_of hidden_of step_by step_of refutation_by refutation_of world_by world_of item_of item_at items_from version_at hidden_at certificate_of
zero_move = refl

pub moves_order : FindsOrderOfMoves
unfolding only_of token_numbers term_of terms_of first_integer moves_of paired_moves_of passes_of method_by_base modular_of method_of count_of hidden_of step_by step_of refutation_by refutation_of world_by world_of item_of item_at items_from version_at hidden_at certificate_of
moves_order = refl

pub moves_form : FindsFormOfMoves
unfolding only_of token_numbers term_of terms_of first_integer moves_of paired_moves_of passes_of method_by_base modular_of method_of count_of hidden_of step_by step_of refutation_by refutation_of world_by world_of item_of item_at items_from version_at hidden_at certificate_of
moves_form = refl

pub shape_first : FindsShapeFirst
unfolding only_of token_numbers term_of terms_of first_integer moves_of paired_moves_of passes_of method_by_base modular_of method_of count_of hidden_of step_by step_of refutation_by refutation_of world_by world_of item_of item_at items_from version_at hidden_at certificate_of
shape_first = refl

pub number_first : FindsNumberNext
unfolding only_of token_numbers term_of terms_of first_integer moves_of paired_moves_of passes_of method_by_base modular_of method_of count_of hidden_of step_by step_of refutation_by refutation_of world_by world_of item_of item_at items_from version_at hidden_at certificate_of
number_first = refl

pub order_last : FindsOrderLast
unfolding only_of token_numbers term_of terms_of first_integer moves_of paired_moves_of passes_of method_by_base modular_of method_of count_of hidden_of step_by step_of refutation_by refutation_of world_by world_of item_of item_at items_from version_at hidden_at certificate_of
order_last = refl
