-- The worked rows hold.
use Rattle.std.proofs.Common.{refl, arith}
use Rattle.rda_meta.specs.Words.{words_up_to, words}
use Rattle.rda_meta.specs.VariableLines.{name_at, number_at, missing_of, variable_at}
use Rattle.rda_meta.specs.KeywordLines.{keyword_in, setting_in}
use Rattle.rda_meta.specs.Metadata.{keyword_line, variable_line, text_says, lines_say, no_clash, variable_of, meta_of}
use Rattle.rda_meta.specs.Keywords.{keyword_of}
use Rattle.rda_meta.specs.Arguments.{argument_of, decimals_argument, file_argument, lead_argument, code_argument, word_numbers, levels_argument}
use Rattle.rda_meta.proofs.SpelledLines.{decimal_plain, number_spelled}
use Rattle.rda_meta.specs.Rows.{FourLines, ReadsRealisticMetadata, Files, LateClash, SomeCanonical}

pub four_lines : FourLines
unfolding words_up_to words keyword_of argument_of decimals_argument file_argument lead_argument code_argument word_numbers levels_argument name_at number_at missing_of variable_at keyword_in setting_in keyword_line variable_line text_says lines_say no_clash variable_of meta_of
four_lines = refl

pub realistic : ReadsRealisticMetadata
unfolding words_up_to words keyword_of argument_of decimals_argument file_argument lead_argument code_argument word_numbers levels_argument name_at number_at missing_of variable_at keyword_in setting_in keyword_line variable_line text_says lines_say no_clash variable_of meta_of
realistic = refl

pub files : Files
unfolding words_up_to words keyword_of argument_of decimals_argument file_argument lead_argument code_argument word_numbers levels_argument name_at number_at missing_of variable_at keyword_in setting_in keyword_line variable_line text_says lines_say no_clash variable_of meta_of
files = refl

pub late_clash : LateClash
unfolding words_up_to words keyword_of argument_of decimals_argument file_argument lead_argument code_argument word_numbers levels_argument name_at number_at missing_of variable_at keyword_in setting_in keyword_line variable_line text_says lines_say no_clash variable_of meta_of
late_clash = refl

pub some_canonical : SomeCanonical
unfolding argument_of decimals_argument code_argument
some_canonical = (
  record {
    line = refl;
    name = refl;
    name_plain = refl;
    first = (omega arith, omega arith);
    width = (omega arith, omega arith);
    within = omega arith;
    missing_plain = tt;
    missing_trimmed = refl;
    missing_few = omega arith;
    fresh = refl;
    room = omega arith;
  },
  (record { plain = (decimal_plain 0 (omega arith), tt); taken = rw (number_spelled 0 9 0 (omega arith) (omega arith) (omega arith)) refl; kept = refl; first = refl }, (record { plain = (refl, tt); taken = refl; kept = refl; first = refl }, tt)),
  refl,
  tt,
)
