use Rattle.std.proofs.Common.{ℕ, Bool, false, List, ap, ◌∙◌}
use Rattle.std.specs.Prelude.{slice_get}
use Rattle.std.specs.List.{list_any}
use Rattle.std.specs.Option.{option_map_or}
use Rattle.rda_meta.specs.declared.meta.Variable.{Variable}
use Rattle.published_tables.specs.OutNames.{is_coded_by}
use Rattle.published_tables.proofs.Overwriting.{any_spanning}
use Rattle.published_tables.proofs.out_name.has_codes_in.Goals as goal

pub returns : goal.returns
returns c =
    let test : Variable → Bool = is_coded_by c.args.file.now in
    c.is_of_any.ensures
    ∙ ap (λ (variables : List Variable). list_any (λ (place : ℕ). option_map_or test (slice_get variables place) false) c.as_slice-2.result.now) c.as_slice.ensures
    ∙ ap (λ (places : List ℕ). list_any (λ (place : ℕ). option_map_or test (slice_get c.args.described.now.meta.variables place) false) places) c.as_slice-2.ensures
    ∙ any_spanning test c.args.described.now.meta.variables c.args.described.now.bound.spanning
