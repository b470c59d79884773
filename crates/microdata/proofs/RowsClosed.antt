-- The places of the rows are those of their codes.
use Rattle.std.proofs.Common.{◌≡◌, ℕ, zero, suc, ◌+◌, Bool, true, false, cond, All, List, [], ◌∷◌, ◌++◌, length, map, filter, slice_get, slice_index_or, None, Some, option_map, is_some, Result, Ok, Err, refl, ap, sym, ◌∙◌, subst, arith, append_assoc, append-nil, inl, inr}
use Rattle.std.specs.List.{AllByRecursion}
use Rattle.std.specs.Option.{unwrap_or}
use Rattle.std.specs.Str.{bytes_eq}
use Rattle.std.proofs.lemmas.List.Elements.{recursion_from_All}
use Rattle.std.proofs.lemmas.Slice.Eq.{bytes_eq-Decides}
use Rattle.sdc_base.specs.Lines.{lines}
use Rattle.sdc_base.proofs.StepLemmas.{bind_ok}
use Rattle.sdc_base.specs.Trees.{Tree, codes, find}
use Rattle.sdc_base.specs.declared.rows.Row.{Row}
use Rattle.code_trees.specs.Among.{IsIn}
use Rattle.code_trees.specs.Children.{first_child}
use Rattle.code_trees.specs.Levels.{boundaries, code_above, tree_of_codes}
use Rattle.code_trees.proofs.Among.{codes-more}
use Rattle.code_trees.proofs.FlatSteps.{codes-flat}
use Rattle.microdata.specs.Closing.{tree_of, places_in, closed_of, tree_place, leaf_of, leaves_of, row_of, rows_of}
use Rattle.microdata.specs.Fields.{field}
use Rattle.microdata.specs.Keeping.{AreSeen}
use Rattle.microdata.specs.Layouts.{measures_of, IsField, IsLayout}
use Rattle.microdata.specs.Meaning.{is_answered, is_unanswered, ArePlacesOf, IsRowOf, AreRowsOf, RowsAreTheirRecords}
use Rattle.microdata.specs.Microdata.{records_of, closed_records}
use Rattle.microdata.specs.OneRecord.{lines_say, no_records}
use Rattle.microdata.specs.declared.closing.ClosedVariable.{ClosedVariable}
use Rattle.microdata.specs.declared.faults.RowWhy.{RowWhy}
use Rattle.microdata.specs.declared.faults.RowWhy.TheVariants.{NotLeaf}
use Rattle.microdata.specs.declared.layout.Field.{Field}
use Rattle.microdata.specs.declared.layout.Layout.{Layout}
use Rattle.microdata.specs.declared.layout.Source.{Source}
use Rattle.microdata.specs.declared.layout.Source.TheVariants as source
use Rattle.microdata.specs.KeptRows.{KeptRow}
use Rattle.microdata.specs.declared.record.Variable.{Variable}
use Rattle.microdata.specs.declared.records.Records.{Records}
use Rattle.microdata.specs.declared.taking.Seen.{Seen}
use Rattle.microdata.specs.SeenCodes.{seen_first}
use Rattle.microdata.specs.declared.record.ReaderProgress.{ReaderProgress}
use Rattle.microdata.proofs.InOrder.{AreInOrder}
use Rattle.microdata.proofs.Kept.{value_of_ok, same-value}
use Rattle.microdata.proofs.RowsMeant.{Stands, code_in, AreNumbersOf, IsKeptOf, AreKeptOf, IsBrought, IsMeantSoFar, lines-meant, get-in}
use Rattle.microdata.proofs.SeenFirst.{first_of, first-sound}

-- ---- a code in its tree

find-some : (tree : Tree) (code : List ℕ) → IsIn code (codes tree) → (place : ℕ) × (find tree code ≡ Some place)
find-some [] code h = absurd h
find-some (node ∷ tree) code h =
    let later = λ (h : IsIn code (codes tree)). find-some tree code h in
    elim (bytes_eq code node.0) as (λ b. bytes_eq code node.0 ≡ b → (place : ℕ) × (cond b (Some 0) (option_map (λ k. k + 1) (find tree code)) ≡ Some place)) [
      | true ↦ λ is. (0, refl)
      | false ↦ λ is. elim h [
        | inl here ↦ absurd (let yes : bytes_eq code node.0 ≡ true = (bytes_eq-Decides code node.0).1 here in cc)
        | inr there ↦ (let found = later there in (found.0 + 1, ap (option_map (λ k. k + 1)) found.1))
      ]
    ] refl

codes-made : (total bounds : List ℕ) (below : List (List ℕ)) (tree : Tree) → codes (tree_of_codes total bounds tree below) ≡ codes tree ++ below
codes-made total bounds [] tree = sym (append-nil (codes tree))
codes-made total bounds (code ∷ below) tree =
    let next : Tree = tree ++ (code, find tree (code_above total bounds code)) ∷ [] in
    codes-made total bounds below next
    ∙ ap (λ (front : List (List ℕ)). front ++ below) (codes-more tree code (find tree (code_above total bounds code)))
    ∙ append_assoc (codes tree) (code ∷ []) below

in-level-tree : (widths total : List ℕ) (seen : Seen) (code : List ℕ) → IsIn code seen.nodes → IsIn code (codes (tree_of (source.Levels widths total) seen))
in-level-tree widths total seen code h = subst (IsIn code) (sym (codes-made total (boundaries 0 widths) seen.nodes ((total, None) ∷ []))) (inr h)

in-flat-tree : (listed : List (List ℕ)) (total : List ℕ) (seen : Seen) (code : List ℕ) → IsIn code (listed ++ seen.nodes) → IsIn code (codes (tree_of (source.Flat listed total) seen))
in-flat-tree listed total seen code h = subst (IsIn code) (sym (codes-flat total (listed ++ seen.nodes))) (inr h)

entry-at : (tree : Tree) (held : List (List ℕ)) (number other : ℕ) (code : List ℕ) → slice_get held number ≡ Some code → slice_index_or (places_in tree held) number other ≡ unwrap_or (find tree code) 0
entry-at tree [] number other code h = cc
entry-at tree (first ∷ held) zero other code h = let same : first ≡ code = cc in ap (λ (code : List ℕ). unwrap_or (find tree code) 0) same
entry-at tree (first ∷ held) (suc number) other code h = entry-at tree held number other code h

found-there : (tree : Tree) (held : List (List ℕ)) (number : ℕ) (code : List ℕ) → slice_get held number ≡ Some code → IsIn code (codes tree) → find tree code ≡ Some (slice_index_or (places_in tree held) number number)
found-there tree held number code at inside =
    let found = find-some tree code inside in
    found.1 ∙ ap Some (sym (entry-at tree held number number code at ∙ ap (λ o. unwrap_or o 0) found.1))

placed : (s : Source) (seen : Seen) (number : ℕ) (code : List ℕ) → AreSeen s seen → Stands s seen number code → find (tree_of s seen) code ≡ Some (slice_index_or (places_in (tree_of s seen) seen.codes) number number)
placed (source.Listed tree) seen number code sound h = rw sound h
placed (source.Levels widths total) seen number code sound h = found-there (tree_of (source.Levels widths total) seen) seen.codes number code h (in-level-tree widths total seen code (sound.among code (get-in seen.codes number code h)))
placed (source.Flat listed total) seen number code sound h = found-there (tree_of (source.Flat listed total) seen) seen.codes number code h (in-flat-tree listed total seen code (sound.back code (get-in seen.codes number code h)))

-- ---- the rows

abbrev pub trees_in : List Variable → List Tree
trees_in variables = map (λ (one : ClosedVariable). one.tree) (map closed_of variables)

abbrev fields_in : List Variable → List Field
fields_in variables = map (λ variable. variable.field) variables

leaf-place : (variable : Variable) (number place : ℕ) → leaf_of (closed_of variable) number ≡ Ok place → tree_place (closed_of variable) number ≡ place
leaf-place variable number place h = by (is_some (first_child (closed_of variable).tree (tree_place (closed_of variable) number))) h
  where
    by : (b : Bool) → cond {A = Result ℕ RowWhy} b (Err NotLeaf) (Ok (tree_place (closed_of variable) number)) ≡ Ok place → tree_place (closed_of variable) number ≡ place
    by true e = cc
    by false e = value_of_ok _ place e

leaves-placed : (variables : List Variable) (line numbers places : List ℕ) → AllByRecursion (λ variable. AreSeen variable.field.source variable.seen) variables → AreNumbersOf variables line numbers
    → leaves_of (map closed_of variables) numbers ≡ Ok places → ArePlacesOf (fields_in variables) (trees_in variables) line places
unfolding leaves_of
leaves-placed [] line [] places sound h said = subst (ArePlacesOf [] [] line) (value_of_ok _ places said) tt
leaves-placed [] line (number ∷ numbers) places sound h said = absurd h
leaves-placed (variable ∷ variables) line [] places sound h said = absurd h
leaves-placed (variable ∷ variables) line (number ∷ numbers) places sound h said =
    let a = bind_ok (leaf_of (closed_of variable) number) _ places said in
    let b = bind_ok (leaves_of (map closed_of variables) numbers) _ places a.2 in
    let here = placed variable.field.source variable.seen number (code_in variable line) sound.0 h.0 ∙ ap Some (leaf-place variable number a.0 a.1) in
    subst (ArePlacesOf (fields_in (variable ∷ variables)) (trees_in (variable ∷ variables)) line) (value_of_ok _ places b.2) (here, leaves-placed variables line numbers b.0 sound.1 h.1 b.1)

row-placed : (layout : Layout) (variables : List Variable) (line : List ℕ) (kept : KeptRow) (row : Row) → fields_in variables ≡ layout.spanning → AllByRecursion (λ variable. AreSeen variable.field.source variable.seen) variables
    → IsKeptOf layout variables line kept → row_of (map closed_of variables) kept ≡ Ok row → IsRowOf layout (trees_in variables) line row
unfolding row_of
row-placed layout variables line kept row fields sound h said =
    let a = bind_ok (leaves_of (map closed_of variables) kept.places) _ row said in
    subst (IsRowOf layout (trees_in variables) line) (value_of_ok _ row a.2) (record {
      places = subst (λ (fields : List Field). ArePlacesOf fields (trees_in variables) line a.0) fields (leaves-placed variables line kept.places a.0 sound h.numbers a.1);
      value = h.value;
      weight = h.weight;
    })

rows-placed : (layout : Layout) (variables : List Variable) (lines : List (List ℕ)) (kept : List KeptRow) (rows : List Row) → fields_in variables ≡ layout.spanning → AllByRecursion (λ variable. AreSeen variable.field.source variable.seen) variables
    → AreKeptOf layout variables lines kept → rows_of (map closed_of variables) kept ≡ Ok rows → AreRowsOf layout (trees_in variables) lines rows
unfolding rows_of
rows-placed layout variables [] [] rows fields sound h said = subst (AreRowsOf layout (trees_in variables) []) (value_of_ok _ rows said) tt
rows-placed layout variables [] (one ∷ kept) rows fields sound h said = absurd h
rows-placed layout variables (line ∷ lines) [] rows fields sound h said = absurd h
rows-placed layout variables (line ∷ lines) (one ∷ kept) rows fields sound h said =
    let a = bind_ok _ _ rows said in
    let b = bind_ok (rows_of (map closed_of variables) kept) _ rows a.2 in
    let here = row-placed layout variables line one a.0 fields sound h.0 (same-value one.number (row_of (map closed_of variables) one) a.0 a.1) in
    subst (AreRowsOf layout (trees_in variables) (line ∷ lines)) (value_of_ok _ rows b.2) (here, rows-placed layout variables lines kept b.0 fields sound h.1 b.1)

fields-first : (fields : List Field) → fields_in (map first_of fields) ≡ fields
fields-first [] = refl
fields-first (field ∷ fields) = ap (λ rest. field ∷ rest) (fields-first fields)

sound-first : (needed : ℕ) (fields : List Field) → All (IsField needed) fields → AllByRecursion (λ variable. AreSeen variable.field.source variable.seen) (map first_of fields)
sound-first needed fields h = each fields (recursion_from_All (IsField needed) fields h)
  where
    each : (fields : List Field) → AllByRecursion (IsField needed) fields → AllByRecursion (λ variable. AreSeen variable.field.source variable.seen) (map first_of fields)
    each [] h = tt
    each (field ∷ fields) h = (first-sound field.source h.0.codes, each fields h.1)

brought-first : (one : Field) → IsBrought [] (first_of one)
brought-first one = record {
  ordered = no-nodes one.source;
  only = λ x h. inl h;
  first = λ x h. h;
  all = λ line h. absurd h;
}
  where
    no-nodes : (s : Source) → AreInOrder (seen_first s).nodes
    no-nodes (source.Listed tree) = tt
    no-nodes (source.Levels widths total) = tt
    no-nodes (source.Flat codes total) = tt

all-brought-first : (fields : List Field) → AllByRecursion (IsBrought []) (map first_of fields)
all-brought-first [] = tt
all-brought-first (field ∷ fields) = (brought-first field, all-brought-first fields)

meant-first : (layout : Layout) → IsLayout layout → IsMeantSoFar layout [] 0 (no_records layout)
meant-first layout fine = record { fields = fields-first layout.spanning; sound = sound-first layout.needed layout.spanning fine.fields; rows = tt; skipped = refl; brought = all-brought-first layout.spanning }

-- what was kept of the records that are read
pub record IsReadFrom (layout : Layout) (bytes : List ℕ) (records : Records) (last : ReaderProgress) : Type 0 where
  pub meant : IsMeantSoFar layout (filter (is_answered layout.response) (lines bytes)) (length (filter (is_unanswered layout.response) (lines bytes))) last
  pub trees : records.trees ≡ trees_in last.variables
  pub rows : AreRowsOf layout records.trees (filter (is_answered layout.response) (lines bytes)) records.rows
  pub skipped : records.skipped ≡ length (filter (is_unanswered layout.response) (lines bytes))

pub read-from : (layout : Layout) (bytes : List ℕ) (records : Records) → IsLayout layout → records_of layout bytes ≡ Ok records → (last : ReaderProgress) × IsReadFrom layout bytes records last
unfolding records_of closed_records
read-from layout bytes records fine h =
    let a = bind_ok (lines_say (measures_of layout) (no_records layout) (lines bytes)) _ records h in
    let b = bind_ok (rows_of (map closed_of a.0.variables) a.0.rows) _ records a.2 in
    let zero_more : 0 + length (filter (is_unanswered layout.response) (lines bytes)) ≡ length (filter (is_unanswered layout.response) (lines bytes)) = omega arith in
    let meant = subst (λ n. IsMeantSoFar layout (filter (is_answered layout.response) (lines bytes)) n a.0) zero_more (lines-meant layout [] 0 (no_records layout) a.0 (lines bytes) (meant-first layout fine) a.1) in (
      a.0,
      subst (λ (records : Records). IsReadFrom layout bytes records a.0) (value_of_ok _ records b.2) (record {
        meant = meant;
        trees = refl;
        rows = rows-placed layout a.0.variables (filter (is_answered layout.response) (lines bytes)) a.0.rows b.0 meant.fields meant.sound meant.rows b.1;
        skipped = meant.skipped;
      }),
    )

pub rows_are_their_records : RowsAreTheirRecords
rows_are_their_records layout bytes records fine h = let read = read-from layout bytes records fine h in (read.1.rows, read.1.skipped)
