-- Records in another order give the same trees.
use Rattle.std.proofs.Common.{◌≡◌, ℕ, true, false, List, [], ◌∷◌, ◌++◌, map, filter, Option, None, Some, Result, Ok, Err, ℤ, pos, refl, ap, sym, ◌∙◌, subst, ◌⊎◌, inl, inr, IsPermutation}
use Rattle.std.specs.List.{AllByRecursion, IsDistinct}
use Rattle.std.specs.Option.{unwrap_or}
use Rattle.std.specs.Str.{bytes_eq}
use Rattle.std.proofs.lemmas.List.Sorted.{IsPermutation-map, IsPermutation-sym, length_permutation}
use Rattle.std.proofs.lemmas.Map.Keys.{IsDistinct-head, IsDistinct-tail}
use Rattle.std.proofs.lemmas.Slice.Eq.{bytes_eq-Decides}
use Rattle.sdc_base.specs.Lines.{lines}
use Rattle.sdc_base.specs.Trees.{Tree, find, flat_tree}
use Rattle.sdc_base.specs.declared.rows.Row.{Row}
use Rattle.code_trees.specs.Among.{IsIn, AreAmong}
use Rattle.code_trees.specs.Levels.{boundaries, tree_of_codes}
use Rattle.microdata.specs.Closing.{tree_of}
use Rattle.microdata.specs.Fields.{field, value_of, weight_of}
use Rattle.microdata.specs.Keeping.{AreSeen, AreLevelCodes, AreFlatCodes}
use Rattle.microdata.specs.Meaning.{is_answered, is_unanswered, ArePlacesOf, IsRowOf, AreRowsOf}
use Rattle.microdata.specs.OtherOrder.{OrderChangesNoTree}
use Rattle.microdata.specs.SeenCodes.{seen_first}
use Rattle.microdata.specs.declared.faults.RowWhy.{RowWhy}
use Rattle.microdata.specs.declared.layout.Field.{Field}
use Rattle.microdata.specs.declared.layout.Layout.{Layout}
use Rattle.microdata.specs.declared.layout.Source.{Source}
use Rattle.microdata.specs.declared.layout.Source.TheVariants as source
use Rattle.microdata.specs.declared.record.Variable.{Variable}
use Rattle.microdata.specs.declared.taking.Seen.{Seen}
use Rattle.microdata.proofs.FlatCodes.{in-either, in-second}
use Rattle.microdata.proofs.InOrder.{same-members, gathered-new, gathered-back}
use Rattle.microdata.proofs.RowsClosed.{trees_in, read-from}
use Rattle.microdata.proofs.RowsMeant.{AreBrought, IsBrought, code_in}
use Rattle.microdata.proofs.Shuffled.{filter-shuffled, in-shuffled}

-- ---- the trees

-- each of these records is one of those
abbrev AreRecordsAmong : List (List ℕ) → List (List ℕ) → Type 0
AreRecordsAmong these those = (line : List ℕ) → IsIn line these → IsIn line those

-- by levels, the nodes are made up by the codes
level-nodes-among : (widths total : List ℕ) (one other : Seen) → AreLevelCodes widths total one → AreLevelCodes widths total other → AreAmong one.codes other.codes → AreAmong one.nodes other.nodes
level-nodes-among widths total one other sound others among x h =
    elim (gathered-back (boundaries 0 widths) one.codes [] x (subst (IsIn x) sound.nodes h)) [
      | inl none ↦ absurd none
      | inr by ↦ subst (IsIn x) (sym others.nodes) (gathered-new (boundaries 0 widths) other.codes [] by.0 x (among by.0 by.1) by.2)
    ]

apart-each : (first x : List ℕ) (codes : List (List ℕ)) → AllByRecursion (λ other. bytes_eq first other ≡ false) codes → IsIn x codes → bytes_eq first x ≡ false
apart-each first x [] all h = absurd h
apart-each first x (code ∷ codes) all h =
    let rest = λ (h : IsIn x codes). apart-each first x codes all.1 h in
    elim h [ inl here ↦ subst (λ (other : List ℕ). bytes_eq first other ≡ false) (sym here) all.0 | inr later ↦ rest later ]

-- a further code isn't a listed one
apart : (listed nodes : List (List ℕ)) (x : List ℕ) → IsDistinct bytes_eq (listed ++ nodes) → IsIn x listed → IsIn x nodes → ⊥
apart [] nodes x distinct h further = h
apart (first ∷ listed) nodes x distinct h further =
    let rest = λ (h : IsIn x listed). apart listed nodes x (IsDistinct-tail bytes_eq first (listed ++ nodes) distinct) h further in
    elim h [
      | inl here ↦
          let no = apart-each first x (listed ++ nodes) (IsDistinct-head bytes_eq first (listed ++ nodes) distinct) (in-second x listed nodes further) in
          let is : bytes_eq first x ≡ true = (bytes_eq-Decides first x).1 (sym here) in
          cc
      | inr later ↦ rest later
    ]

flat-nodes-among : (listed : List (List ℕ)) (total : List ℕ) (one other : Seen) → AreFlatCodes listed total one → AreFlatCodes listed total other → AreAmong one.codes other.codes → AreAmong one.nodes other.nodes
flat-nodes-among listed total one other sound others among x h =
    elim (in-either x listed other.nodes (others.back x (among x (sound.among x (in-second x listed one.nodes h))))) [
      | inl known ↦ absurd (apart listed one.nodes x (IsDistinct-tail bytes_eq total (listed ++ one.nodes) sound.distinct) known h)
      | inr further ↦ further
    ]

codes-among : (s : Source) (one other : Seen) (code : List ℕ → List ℕ) (lines others : List (List ℕ)) → AreRecordsAmong lines others
    → ((x : List ℕ) → IsIn x one.codes → IsIn x (seen_first s).codes ⊎ ((line : List ℕ) × IsIn line lines × (x ≡ code line)))
    → AreAmong (seen_first s).codes other.codes → ((line : List ℕ) → IsIn line others → IsIn (code line) other.codes) → AreAmong one.codes other.codes
codes-among s one other code lines others same only first all x h = elim (only x h) [
  | inl before ↦ first x before
  | inr by ↦ subst (λ (text : List ℕ). IsIn text other.codes) (sym by.2) (all by.0 (same by.0 by.1))
]

-- the tree of a variable
same-tree : (s : Source) (one other : Seen) (code : List ℕ → List ℕ) (lines others : List (List ℕ)) → AreRecordsAmong lines others → AreRecordsAmong others lines → AreSeen s one → AreSeen s other
    → AreBrought s one code lines → AreBrought s other code others → tree_of s one ≡ tree_of s other
same-tree (source.Listed tree) one other code lines others among back sound second brought by = refl
same-tree (source.Levels widths total) one other code lines others among back sound second brought by =
    let there = codes-among (source.Levels widths total) one other code lines others among brought.only by.first by.all in
    let here = codes-among (source.Levels widths total) other one code others lines back by.only brought.first brought.all in
    let same = same-members one.nodes other.nodes brought.ordered by.ordered (level-nodes-among widths total one other sound second there) (level-nodes-among widths total other one second sound here) in
    ap (λ (nodes : List (List ℕ)). tree_of_codes total (boundaries 0 widths) ((total, None) ∷ []) nodes) same
same-tree (source.Flat listed total) one other code lines others among back sound second brought by =
    let there = codes-among (source.Flat listed total) one other code lines others among brought.only by.first by.all in
    let here = codes-among (source.Flat listed total) other one code others lines back by.only brought.first brought.all in
    let same = same-members one.nodes other.nodes brought.ordered by.ordered (flat-nodes-among listed total one other sound second there) (flat-nodes-among listed total other one second sound here) in
    ap (λ (nodes : List (List ℕ)). flat_tree total (listed ++ nodes)) same

one-tree : (one other : Variable) (lines others : List (List ℕ)) → AreRecordsAmong lines others → AreRecordsAmong others lines → one.field ≡ other.field → AreSeen one.field.source one.seen → AreSeen other.field.source other.seen
    → IsBrought lines one → IsBrought others other → tree_of one.field.source one.seen ≡ tree_of other.field.source other.seen
one-tree one other lines others among back same sound second brought by =
    let seen : AreSeen one.field.source other.seen = subst (λ (f : Field). AreSeen f.source other.seen) (sym same) second in
    let codes : AreBrought one.field.source other.seen (λ line. code_in one line) others = subst (λ (f : Field). AreBrought f.source other.seen (λ line. field f.first f.width line) others) (sym same) by in
    same-tree one.field.source one.seen other.seen (λ line. code_in one line) lines others among back sound seen brought codes ∙ ap (λ (f : Field). tree_of f.source other.seen) same

abbrev fields_in : List Variable → List Field
fields_in variables = map (λ variable. variable.field) variables

heads-same : (one other : Field) (ones others : List Field) → ◌≡◌ {A = List Field} (one ∷ ones) (other ∷ others) → (one ≡ other) × (ones ≡ others)
heads-same one other ones others h = (cc, cc)

same-trees : (ones others : List Variable) (lines those : List (List ℕ)) → AreRecordsAmong lines those → AreRecordsAmong those lines → fields_in ones ≡ fields_in others
    → AllByRecursion (λ variable. AreSeen variable.field.source variable.seen) ones → AllByRecursion (λ variable. AreSeen variable.field.source variable.seen) others
    → AllByRecursion (IsBrought lines) ones → AllByRecursion (IsBrought those) others → trees_in ones ≡ trees_in others
same-trees [] [] lines those among back same sound second brought by = refl
same-trees [] (other ∷ others) lines those among back same sound second brought by = cc
same-trees (one ∷ ones) [] lines those among back same sound second brought by = cc
same-trees (one ∷ ones) (other ∷ others) lines those among back same sound second brought by =
    let heads = heads-same one.field other.field (fields_in ones) (fields_in others) same in
    let here = one-tree one other lines those among back heads.0 sound.0 second.0 brought.0 by.0 in
    let rest = same-trees ones others lines those among back heads.1 sound.1 second.1 brought.1 by.1 in
    ap (λ (tree : Tree). tree ∷ trees_in ones) here ∙ ap (λ (trees : List Tree). tree_of other.field.source other.seen ∷ trees) rest

-- ---- the rows

abbrev places_meant : List Field → List Tree → List ℕ → List ℕ
places_meant [] trees line = []
places_meant (one ∷ fields) [] line = []
places_meant (one ∷ fields) (tree ∷ trees) line = unwrap_or (find tree (field one.first one.width line)) 0 ∷ places_meant fields trees line

-- a number that was read
abbrev read_number : Result ℕ RowWhy → ℕ
read_number (Ok n) = n
read_number (Err why) = 0

-- the row of a record
abbrev row_meant : Layout → List Tree → List ℕ → Row
row_meant layout trees line = record { codes = places_meant layout.spanning trees line; value = pos (read_number (value_of layout.response line)); weight = read_number (weight_of layout.weight line) }

place-is : (found : Option ℕ) (place : ℕ) → found ≡ Some place → place ≡ unwrap_or found 0
place-is found place h = rw h refl

number-is : (read : Result ℕ RowWhy) (n : ℕ) → read ≡ Ok n → n ≡ read_number read
number-is read n h = rw h refl

places-are : (fields : List Field) (trees : List Tree) (line places : List ℕ) → ArePlacesOf fields trees line places → places ≡ places_meant fields trees line
places-are [] [] line [] h = refl
places-are [] [] line (place ∷ places) h = absurd h
places-are [] (tree ∷ trees) line [] h = absurd h
places-are [] (tree ∷ trees) line (place ∷ places) h = absurd h
places-are (one ∷ fields) [] line [] h = absurd h
places-are (one ∷ fields) [] line (place ∷ places) h = absurd h
places-are (one ∷ fields) (tree ∷ trees) line [] h = absurd h
places-are (one ∷ fields) (tree ∷ trees) line (place ∷ places) h =
    ap (λ (first : ℕ). first ∷ places) (place-is (find tree (field one.first one.width line)) place h.0)
    ∙ ap (λ (rest : List ℕ). unwrap_or (find tree (field one.first one.width line)) 0 ∷ rest) (places-are fields trees line places h.1)

same-row : (row : Row) (codes : List ℕ) (value : ℤ) (weight : ℕ) → row.codes ≡ codes → row.value ≡ value → row.weight ≡ weight → row ≡ record { codes = codes; value = value; weight = weight }
same-row row codes value weight p q r =
    ap (λ (c : List ℕ). record row { codes = c }) p ∙ ap (λ (v : ℤ). record row { codes = codes; value = v }) q ∙ ap (λ (w : ℕ). record row { codes = codes; value = value; weight = w }) r

row-is : (layout : Layout) (trees : List Tree) (line : List ℕ) (row : Row) → IsRowOf layout trees line row → row ≡ row_meant layout trees line
row-is layout trees line row h =
    same-row row (places_meant layout.spanning trees line) (pos (read_number (value_of layout.response line))) (read_number (weight_of layout.weight line))
    (places-are layout.spanning trees line row.codes h.places)
    (h.value.2 ∙ ap pos (number-is (value_of layout.response line) h.value.0 h.value.1))
    (number-is (weight_of layout.weight line) row.weight h.weight)

rows-are : (layout : Layout) (trees : List Tree) (lines : List (List ℕ)) (rows : List Row) → AreRowsOf layout trees lines rows → rows ≡ map (row_meant layout trees) lines
rows-are layout trees [] [] h = refl
rows-are layout trees [] (row ∷ rows) h = absurd h
rows-are layout trees (line ∷ lines) [] h = absurd h
rows-are layout trees (line ∷ lines) (row ∷ rows) h =
    ap (λ (first : Row). first ∷ rows) (row-is layout trees line row h.0) ∙ ap (λ (rest : List Row). row_meant layout trees line ∷ rest) (rows-are layout trees lines rows h.1)

rows-shuffled : (layout : Layout) (trees : List Tree) (lines others : List (List ℕ)) (rows more : List Row) → IsPermutation lines others → AreRowsOf layout trees lines rows → AreRowsOf layout trees others more → IsPermutation rows more
rows-shuffled layout trees lines others rows more shuffled h g =
    subst (λ (all : List Row). IsPermutation all more) (sym (rows-are layout trees lines rows h))
    (subst (λ (all : List Row). IsPermutation (map (row_meant layout trees) lines) all) (sym (rows-are layout trees others more g)) (IsPermutation-map (row_meant layout trees) lines others shuffled))

pub order_changes_no_tree : OrderChangesNoTree
order_changes_no_tree layout bytes other records others fine shuffled h g =
    let one = read-from layout bytes records fine h in
    let two = read-from layout other others fine g in
    let answered = filter-shuffled (is_answered layout.response) (lines bytes) (lines other) shuffled in
    let back = IsPermutation-sym _ _ answered in
    let same = same-trees two.0.variables one.0.variables (filter (is_answered layout.response) (lines other)) (filter (is_answered layout.response) (lines bytes))
    (λ line inside. in-shuffled _ _ line back inside) (λ line inside. in-shuffled _ _ line answered inside)
    (two.1.meant.fields ∙ sym one.1.meant.fields) two.1.meant.sound one.1.meant.sound two.1.meant.brought one.1.meant.brought in
    let trees : others.trees ≡ records.trees = two.1.trees ∙ same ∙ sym one.1.trees in
    record {
      trees = trees;
      rows = rows-shuffled layout records.trees (filter (is_answered layout.response) (lines bytes)) (filter (is_answered layout.response) (lines other)) records.rows others.rows answered one.1.rows
          (subst (λ (trees : List Tree). AreRowsOf layout trees (filter (is_answered layout.response) (lines other)) others.rows) trees two.1.rows);
      skipped = two.1.skipped ∙ length_permutation _ _ (filter-shuffled (is_unanswered layout.response) (lines bytes) (lines other) shuffled) ∙ sym one.1.skipped;
    }
