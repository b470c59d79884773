-- The worked jobs hold.
use Rattle.std.proofs.Common.{◌≡◌, ℕ, ◌<◌, ◌^◌, true, List, length, codes, decimal, refl, arith}
use Rattle.std.specs.Prelude.{slice_index_or}
use Rattle.std.specs.Str.{all_ascii_digits}
use Rattle.std.specs.Str.Parse.{digits_value}
use Rattle.std.proofs.lemmas.Fmt.{decimal_digit, decimal-digits_value}
use Rattle.std.proofs.lemmas.Str.Parse.{numerals_by_value, tells_all_ascii_digits}
use Rattle.job_lang.specs.LineTokens.{behind_mark, quoted_at, number_at, digits_at, end_of_tokens, closing_token}
use Rattle.job_lang.specs.Keywords.{keyword_of, word_in}
use Rattle.job_lang.specs.RuleTexts.{rules_in}
use Rattle.job_lang.specs.RuleClauses.{one_number, frequency_clause, clause_in, clauses_in}
use Rattle.job_lang.specs.TableTexts.{names_up_to, quoted_part, table_argument}
use Rattle.job_lang.specs.Arguments.{file_at, only_file, output_argument, depth_argument, argument_of}
use Rattle.job_lang.specs.MethodTexts.{modular_method, rounding_method, method_argument}
use Rattle.job_lang.specs.Statements.{with_table, with_statement, with_said, command_line, text_says, lines_say}
use Rattle.job_lang.specs.MissingCommands.{outputs_from}
use Rattle.job_lang.specs.FilesApart.{no_stray, no_same_name}
use Rattle.job_lang.specs.SpannedDepths.{no_outside}
use Rattle.job_lang.specs.RoundedContributors.{no_rounded_contributors}
use Rattle.job_lang.specs.Jobs.{job_made, closed_job, job_of}
use Rattle.job_lang.specs.Binding.{bound_of}
use Rattle.job_lang.specs.Rows.{EightLines, FullText, FullLines, NameBeforeMissing, RoundedContributorsFirst, OutsideBeforeNames, NumbersBeforeOutside, DepthTwice, DepthFromOneToNine, BindsInAnyOrder, BindsDepths, CodeListMet}

pub eight_lines : EightLines
unfolding behind_mark quoted_at number_at digits_at end_of_tokens closing_token keyword_of word_in one_number frequency_clause clause_in clauses_in rules_in names_up_to quoted_part table_argument file_at only_file output_argument modular_method method_argument argument_of with_table with_statement with_said command_line text_says lines_say no_rounded_contributors no_stray no_outside no_same_name outputs_from job_made closed_job job_of
eight_lines = refl

pub name_before_missing : NameBeforeMissing
unfolding behind_mark quoted_at number_at digits_at end_of_tokens closing_token keyword_of word_in one_number frequency_clause clause_in clauses_in rules_in names_up_to quoted_part table_argument file_at only_file output_argument modular_method method_argument argument_of with_table with_statement with_said command_line text_says lines_say no_rounded_contributors no_stray no_outside no_same_name outputs_from job_made closed_job job_of
name_before_missing = refl

pub rounded_contributors : RoundedContributorsFirst
unfolding behind_mark quoted_at number_at digits_at end_of_tokens closing_token keyword_of word_in one_number file_at only_file output_argument rounding_method method_argument argument_of with_table with_statement with_said command_line text_says lines_say no_rounded_contributors closed_job job_of
rounded_contributors = refl

pub outside_before_names : OutsideBeforeNames
unfolding behind_mark quoted_at number_at digits_at end_of_tokens closing_token keyword_of word_in one_number frequency_clause clause_in clauses_in rules_in names_up_to quoted_part table_argument file_at only_file output_argument depth_argument modular_method method_argument argument_of with_table with_statement with_said command_line text_says lines_say no_rounded_contributors no_stray no_outside no_same_name outputs_from job_made closed_job job_of
outside_before_names = refl

pub numbers_before_outside : NumbersBeforeOutside
unfolding behind_mark quoted_at number_at digits_at end_of_tokens closing_token keyword_of word_in one_number frequency_clause clause_in clauses_in rules_in names_up_to quoted_part table_argument file_at only_file output_argument depth_argument modular_method method_argument argument_of with_table with_statement with_said command_line text_says lines_say no_rounded_contributors no_stray no_outside no_same_name outputs_from job_made closed_job job_of
numbers_before_outside = refl

pub depth_twice : DepthTwice
unfolding behind_mark quoted_at number_at digits_at end_of_tokens closing_token keyword_of word_in one_number frequency_clause clause_in clauses_in rules_in names_up_to quoted_part table_argument file_at only_file output_argument depth_argument modular_method method_argument argument_of with_table with_statement with_said command_line text_says lines_say no_rounded_contributors no_stray no_outside no_same_name outputs_from job_made closed_job job_of
depth_twice = refl

pub depth_range : DepthFromOneToNine
unfolding behind_mark quoted_at number_at digits_at end_of_tokens closing_token keyword_of word_in one_number frequency_clause clause_in clauses_in rules_in names_up_to quoted_part table_argument file_at only_file output_argument depth_argument modular_method method_argument argument_of with_table with_statement with_said command_line text_says lines_say no_rounded_contributors no_stray no_outside no_same_name outputs_from job_made closed_job job_of
depth_range = (refl, refl)

pub bindable : BindsInAnyOrder
unfolding bound_of
bindable = refl

pub binds_depths : BindsDepths
unfolding bound_of
binds_depths = refl

pub code_list_met : CodeListMet
unfolding bound_of
code_list_met = refl

-- the digits of a number
spelled : (digits : List ℕ) → all_ascii_digits digits ≡ true → 0 < length digits → (slice_index_or digits 0 0 ≡ 48 → length digits ≡ 1) → digits_value 10 digits < 2 ^ 64 → decimal (digits_value 10 digits) ≡ digits
spelled digits all some lead small = decimal-digits_value (numerals_by_value (λ ds. all_ascii_digits ds ≡ true) tells_all_ascii_digits) digits all some lead small

pub full_text : FullText
full_text =
    let thirty : decimal 30 ≡ codes "30" = spelled (codes "30") refl (omega arith) (λ h. absurd (omega (arith, h))) (omega arith) in
    let most : decimal 75 ≡ codes "75" = spelled (codes "75") refl (omega arith) (λ h. absurd (omega (arith, h))) (omega arith) in
    let ten : decimal 10 ≡ codes "10" = spelled (codes "10") refl (omega arith) (λ h. absurd (omega (arith, h))) (omega arith) in
    let fifty : decimal 50 ≡ codes "50" = spelled (codes "50") refl (omega arith) (λ h. absurd (omega (arith, h))) (omega arith) in
    rw (thirty, most, ten, fifty, decimal_digit 0 (omega arith), decimal_digit 1 (omega arith), decimal_digit 2 (omega arith), decimal_digit 3 (omega arith), decimal_digit 7 (omega arith)) refl

pub full_lines : FullLines
full_lines = refl
