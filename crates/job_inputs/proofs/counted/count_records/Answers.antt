use Rattle.std.proofs.Common.{◌≤◌, List, length, ap, subst, refl, arith, ◌∙◌}
use Rattle.sdc_base.specs.RuleLevels.{keep_of}
use Rattle.sdc_base.specs.declared.rows.Row.{Row}
use Rattle.tabulate.specs.TabulatedMarks.{AreTabulated}
use Rattle.job_inputs.proofs.Facts.{is-ready}
use Rattle.job_inputs.proofs.counted.count_records.Goals as goal

pub returns : goal.returns
returns c =
    let book = c.in_ok-book.ensures.sound in
    let whole = c.book_with_records-book.ensures in
    let told : AreTabulated c.book_with_records-book.result c.args.inputs.records.rows (keep_of c.args.inputs.described.job.rules.list) c.args.inputs.described.bound.scale =
    subst (λ (rows : List Row). AreTabulated c.book_with_records-book.result rows (keep_of c.args.inputs.described.job.rules.list) c.args.inputs.described.bound.scale) c.as_slice.ensures whole.told in
    let few : length c.as_slice.result.now ≤ 1000000 = omega (arith, ap (λ (rows : List Row). length rows) c.as_slice.ensures, c.requires.records.rows.at_most_1000000) in
    record {
      told = rw (whole.trees, whole.tables) c.in_ok-book.ensures.told;
      sound = (
        record {
          described = refl;
          book = record {
            trees = whole.trees ∙ book.trees_are;
            tables = whole.tables ∙ book.tables_are;
            told = told;
            one_each = whole.one_each;
          };
          rows = refl;
          skipped = refl;
        },
        record {
          sound = c.requires.described;
          book = is-ready c.args.inputs.described c.book_with_records-book.result c.as_slice.result.now whole.told few whole.one_each (whole.tables ∙ book.tables_are);
          told = told;
          at_most_1000000 = c.requires.records.rows.at_most_1000000;
          one_each = whole.one_each;
          fewer_than_2_32 = whole.fewer_than_2_32;
        },
      );
      contents = tt;
    }
