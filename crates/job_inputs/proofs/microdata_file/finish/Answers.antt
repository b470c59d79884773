use Rattle.job_inputs.proofs.microdata_file.finish.Goals as goal

pub returns-in-Ok-clause-sound : goal.returns-in-Ok-clause-sound
returns-in-Ok-clause-sound c = λ layout bytes read.
    let records = c.in-Ok.records in
    let are = c.in-Ok.ensures.exact layout bytes read in
    record { within = c.read_is_within_limits.ensures layout bytes records are; trees = c.in-Ok.ensures.trees; leaves = c.rows_are_at_leaves.ensures layout bytes records are }
