use Rattle.std.proofs.Common.{arith, refl, ◌∙◌}
use Rattle.std.proofs.lemmas.Result.{err_from_is_err_and}
use Rattle.office_io.proofs.Shelves.{only-read-on}
use Rattle.job_inputs.proofs.Causes.{contents-stop, look-ends, cause-on, cause-as, err-as, file-looked, begun-looked, nothing-looked}
use Rattle.job_inputs.proofs.Feeding.{file-refused, file-read, fed-stops}
use Rattle.job_inputs.specs.ReadFiles.{limit}
use Rattle.plain_text.specs.Stops.{why_of}
use Rattle.job_inputs.specs.Reading.{stopped_for}
use Rattle.job_inputs.proofs.microdata_file.read_records.Goals as goal

pub returns-in_err-begin : goal.returns-in_err-begin
returns-in_err-begin g c =
    let p = err_from_is_err_and c.from_residual-in_err-begin.result c.from_residual-in_err-begin.ensures.1 in
    rw (p.1, p.2)
    (record {
      told = λ fs told. c.in_err-begin.ensures.told fs told c.args.layout;
      came_to = λ fs told f is. (c.args.name.now, record { is_file = c.in_err-begin.ensures.which f (err-as c.in_err-begin.field-0.0 _ is); is_name = refl }, c.in_err-begin.ensures.begun.last fs told);
      shelf = begun-looked limit _ _ _ c.in_err-begin.ensures.only_read c.in_err-begin.ensures.begun;
      cause = cause-as c.in_err-begin.field-0.0 _ _ c.in_err-begin.ensures.cause;
      sound = tt;
    })

pub returns-in_err-feed_all : goal.returns-in_err-feed_all
returns-in_err-feed_all g c =
    let p = err_from_is_err_and c.from_residual-in_err-feed_all.result c.from_residual-in_err-feed_all.ensures.1 in
    let e = c.in_err-feed_all.field-0.0 in
    let first = c.in_ok-begin.ensures.only_read in
    let begun = begun-looked limit _ _ _ first c.in_ok-begin.ensures.begun in
    rw (p.1, p.2)
    (record {
      told = λ fs told.
          fed-stops c.args.layout (fs c.args.name.now) (stopped_for e) (c.in_ok-begin.ensures.chosen.held fs told)
          (λ bytes is. c.in_err-feed_all.ensures.told c.args.layout bytes (c.in_ok-begin.ensures.chosen.found fs told ∙ is) c.in_ok-reader.ensures.fed);
      came_to = λ fs told f is. (c.args.name.now, record { is_file = c.in_err-feed_all.ensures.which f (err-as e _ is); is_name = refl }, c.in_err-feed_all.ensures.last ∙ c.in_ok-begin.ensures.begun.last fs told);
      shelf = file-looked limit _ _ (only-read-on _ _ _ first c.in_err-feed_all.ensures.only_read) c.in_err-feed_all.ensures.no_more c.in_err-feed_all.ensures.few_reads c.in_err-feed_all.ensures.each_takes c.in_err-feed_all.ensures.none_behind;
      cause = cause-on e _ _ _ begun c.in_err-feed_all.ensures.cause;
      sound = tt;
    })

pub returns-in_err-records : goal.returns-in_err-records
returns-in_err-records g c =
    let p = err_from_is_err_and c.from_residual-in_err-records.result c.from_residual-in_err-records.ensures.1 in
    let r = c.in_err-records.field-0.0 in
    rw (p.1, p.2)
    (contents-stop _ _ _ r _ _ (file-looked limit _ _ (only-read-on _ _ _ c.in_ok-begin.ensures.only_read c.in_ok-feed_all.ensures.only_read) c.in_ok-feed_all.ensures.no_more c.in_ok-feed_all.ensures.few_reads c.in_ok-feed_all.ensures.each_takes c.in_ok-feed_all.ensures.none_behind) c.in_err-records.ensures.contents
    (λ fs told.
    file-refused (why_of r) c.args.layout (fs c.args.name.now) (c.in_ok-begin.ensures.chosen.held fs told)
    (λ bytes is.
    let whole = c.in_ok-feed_all.ensures.reads_all c.args.layout bytes (c.in_ok-begin.ensures.chosen.found fs told ∙ is) c.in_ok-reader.ensures.fed in
    (whole.1, c.in_err-records.ensures.exact c.args.layout bytes whole.0))))

pub returns : goal.returns
returns g c =
    look-ends _ _ _ _ _ _
    (file-looked limit _ _ (only-read-on _ _ _ c.in_ok-begin.ensures.only_read c.in_ok-feed_all.ensures.only_read) c.in_ok-feed_all.ensures.no_more c.in_ok-feed_all.ensures.few_reads c.in_ok-feed_all.ensures.each_takes c.in_ok-feed_all.ensures.none_behind)
    (nothing-looked limit _)
    (λ fs told.
    file-read c.in_ok-records.records c.args.layout (fs c.args.name.now) (c.in_ok-begin.ensures.chosen.held fs told)
    (λ bytes is.
    let whole = c.in_ok-feed_all.ensures.reads_all c.args.layout bytes (c.in_ok-begin.ensures.chosen.found fs told ∙ is) c.in_ok-reader.ensures.fed in
    (whole.1, c.in_ok-records.ensures.exact c.args.layout bytes whole.0)))
    (let read = c.in_ok-feed_all.ensures.reads_front c.args.layout c.in_ok-reader.ensures.fed in c.in_ok-records.ensures.sound c.args.layout read.0 read.1)
