-- The text of a listing of the relations between cells (own; the form of its lines is that of release tables).
use Rattle.std.specs.Prelude.{◌≡◌, ℕ, List, [], ◌∷◌, ◌++◌, map, flat_map, codes, decimal, slice_index_or, Result, Ok, Err, IsOkAnd, Vec}
use Rattle.std.specs.declared.alloc.Global.{Global}
use Rattle.sdc_base.specs.Answers.{Fails}
use Rattle.sdc_base.specs.TableText.{line_text}
use Rattle.sdc_base.specs.Trees.{Tree}
use Rattle.sdc_base.specs.declared.dimension.Dimension.{Dimension}
use Rattle.office_io.specs.Files.{Files}
use Rattle.job_inputs.specs.Reading.{stopped_for}
use Rattle.job_inputs.specs.ClassifiedJobs.{SettledInputs, settled_of}
use Rattle.job_inputs.specs.declared.described.DescribedJob.{DescribedJob}
use Rattle.job_inputs.specs.declared.faults.Fault.{Fault}
use Rattle.job_inputs.specs.declared.purpose.Purpose.TheVariants as purpose
use Rattle.job_inputs.specs.declared.stop.InputStop.{InputStop}
use Rattle.cell_listing.specs.Columns.{spaced, variable_names}
use Rattle.cell_listing.specs.ListedRelations.{AreRelationsOf}
use Rattle.cell_listing.specs.declared.listed_relations.ListedRelation.{ListedRelation}

-- the names of the columns
abbrev pub relation_names : List (List ℕ)
relation_names = codes "relation" ∷ codes "total" ∷ codes "variable" ∷ codes "parts" ∷ []

-- what stands in the line of a relation, where the variables have these names: its number, its total's, the name of its
-- variable, and the numbers of its parts
abbrev pub relation_fields : List (List ℕ) → ListedRelation → List (List ℕ)
relation_fields names relation =
    decimal relation.number ∷ decimal relation.total ∷ slice_index_or names relation.variable []
    ∷ spaced (map decimal relation.parts) ∷ []

-- the line of a relation
abbrev pub relation_line : List (List ℕ) → ListedRelation → List ℕ
relation_line names relation = line_text (relation_fields names relation)

-- a listing: the line of the columns' names, and then a line for each relation
abbrev pub relation_text : List (List ℕ) → List ListedRelation → List ℕ
relation_text names relations = line_text relation_names ++ flat_map (relation_line names) relations

-- the text lists the relations between the cells of a job's tables over these trees
pub record IsRelationText (described : DescribedJob) (trees : List Tree) (tables : List (List Dimension)) (text : List ℕ)
    : Type 0 where
  pub relations : List ListedRelation
  pub are : AreRelationsOf trees tables relations
  pub text_is : text ≡ relation_text (variable_names described) relations

-- the text is the listing of the relations between the cells of settled inputs
abbrev pub IsRelationListing : SettledInputs → List ℕ → Type 0
IsRelationListing settled text =
    IsRelationText settled.inputs.described settled.inputs.records.trees settled.inputs.described.bound.tables text

-- the answer is that listing, or the inputs' first fault, want of memory and faults of the shelf aside
abbrev pub AreRelationsListed : Result (Vec ℕ Global) InputStop → Result SettledInputs Fault → Type 0
AreRelationsListed (Ok bytes) meant = IsOkAnd meant (λ settled. IsRelationListing settled bytes.items)
AreRelationsListed (Err stop) meant = Fails (stopped_for stop) meant

-- the same of the inputs of the job of this name, which are read from these files as for a release
abbrev pub ListsRelations : List ℕ → Files → Result (Vec ℕ Global) InputStop → Type 0
ListsRelations name files answer = AreRelationsListed answer (settled_of purpose.Release files name)
