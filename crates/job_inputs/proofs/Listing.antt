-- The codes of a list and the tree of a hierarchy, as their files give them.
use Rattle.std.proofs.Common.{◌≡◌, ◌≢◌, inl, inr, ℕ, true, false, List, [], ◌∷◌, Option, Some, Ok, refl, sym, arith, None}
use Rattle.std.specs.List.{AllByRecursion, IsDistinct}
use Rattle.std.specs.Str.{bytes_eq}
use Rattle.std.proofs.lemmas.Slice.Eq.{bytes_eq-Decides}
use Rattle.code_trees.specs.Among.{IsIn}
use Rattle.hierarchy.specs.CodeList.{codes_of}
use Rattle.hierarchy.specs.Laws.{ListGivesItsCodes}
use Rattle.sdc_base.specs.Answers.{Fails}
use Rattle.sdc_base.specs.Steps.{map_fault}
use Rattle.sdc_base.specs.Trees.{Tree}
use Rattle.office_io.specs.Files.{Files}
use Rattle.rda_meta.specs.declared.meta.Shape.{Shape}
use Rattle.rda_meta.specs.declared.meta.Shape.TheVariants as shape
use Rattle.rda_meta.specs.declared.meta.Variable.{Variable}
use Rattle.microdata.specs.declared.layout.Source.TheVariants as source
use Rattle.job_inputs.proofs.Refusing.{fails-on}
use Rattle.job_inputs.specs.CodeSources.{codes_in, tree_in, listed_tree, source_of}
use Rattle.job_inputs.specs.ReadFiles.{bytes_of_file}
use Rattle.job_inputs.specs.ListedCodes.{AreListed}
use Rattle.job_inputs.specs.declared.faults.Fault.{Fault}
use Rattle.job_inputs.specs.declared.faults.Fault.TheVariants as fault
use Rattle.job_inputs.specs.declared.file_ref.FileRef.TheVariants as file

other-bytes : (a b : List ℕ) → b ≢ a → bytes_eq a b ≡ false
other-bytes a b h =
    elim (bytes_eq a b) as (λ t. bytes_eq a b ≡ t → t ≡ false) [
      | true ↦ λ is. absurd (h (sym ((bytes_eq-Decides a b).0 is)))
      | false ↦ λ is. refl
    ] refl

none-is : (total : List ℕ) (kept : List (List ℕ)) → ((code : List ℕ) → IsIn code kept → code ≢ total) → AllByRecursion (λ code. bytes_eq total code ≡ false) kept
none-is total [] h = tt
none-is total (code ∷ kept) h = (other-bytes total code (h code (inl refl)), none-is total kept (λ other is. h other (inr is)))

with-total : (total : List ℕ) (kept : List (List ℕ)) → AllByRecursion (λ code. bytes_eq total code ≡ false) kept → IsDistinct bytes_eq kept → IsDistinct bytes_eq (total ∷ kept)
unfolding IsDistinct
with-total total kept none once = (none, once)

none-twice : IsDistinct {K = List ℕ} bytes_eq []
unfolding IsDistinct
none-twice = tt

-- no codes at all are listed ones
pub none_listed : (total : List ℕ) (codes : List (List ℕ)) → codes ≡ [] → AreListed total codes
none_listed total codes none = rw none (record { distinct = with-total total [] tt none-twice; at_most_5000 = omega arith })

pub are-listed : ListGivesItsCodes → (total bytes : List ℕ) (kept : List (List ℕ)) → codes_of total bytes ≡ Ok kept → AreListed total kept
are-listed law total bytes kept read =
    let are = law total bytes kept read in
    record { distinct = with-total total kept (none-is total kept (λ code is. (are.each code is).2)) are.once; at_most_5000 = are.at_most_5000 }

-- ---- a code list

pub unlisted-is : (files : Files) (place : ℕ) (total : List ℕ) (codes : Option (List ℕ)) → codes ≡ None → codes_in files place total codes ≡ Ok []
unfolding codes_in
unlisted-is files place total codes none = rw none refl

pub list-file-stops : (files : Files) (place : ℕ) (total name : List ℕ) (o : Option Fault) → Fails o (bytes_of_file files name (file.CodeList place)) → Fails o (codes_in files place total (Some name))
unfolding codes_in
list-file-stops files place total name o h = fails-on o (bytes_of_file files name (file.CodeList place)) _ h

pub list-contents-stop : (files : Files) (place : ℕ) (total name bytes : List ℕ) (o : Option Fault) → bytes_of_file files name (file.CodeList place) ≡ Ok bytes → Fails o (map_fault (fault.Tree (file.CodeList place)) (codes_of total bytes)) → Fails o (codes_in files place total (Some name))
unfolding codes_in
list-contents-stop files place total name bytes o read h = rw read h

pub list-is : (files : Files) (place : ℕ) (total name bytes : List ℕ) (kept : List (List ℕ)) → bytes_of_file files name (file.CodeList place) ≡ Ok bytes → map_fault (fault.Tree (file.CodeList place)) (codes_of total bytes) ≡ Ok kept
    → codes_in files place total (Some name) ≡ Ok kept
unfolding codes_in
list-is files place total name bytes kept read h = rw read h

-- ---- a hierarchy

pub tree-file-stops : (files : Files) (place : ℕ) (v : Variable) (name lead : List ℕ) (o : Option Fault) → Fails o (bytes_of_file files name (file.Hierarchy place)) → Fails o (listed_tree files place v name lead)
unfolding listed_tree
tree-file-stops files place v name lead o h = fails-on o (bytes_of_file files name (file.Hierarchy place)) _ h

pub tree-contents-stop : (files : Files) (place : ℕ) (v : Variable) (name lead bytes : List ℕ) (o : Option Fault) → bytes_of_file files name (file.Hierarchy place) ≡ Ok bytes → Fails o (tree_in (file.Hierarchy place) v lead bytes) → Fails o (listed_tree files place v name lead)
unfolding listed_tree
tree-contents-stop files place v name lead bytes o read h = rw read h

pub tree-is : (files : Files) (place : ℕ) (v : Variable) (name lead bytes : List ℕ) (tree : Tree) → bytes_of_file files name (file.Hierarchy place) ≡ Ok bytes → tree_in (file.Hierarchy place) v lead bytes ≡ Ok tree → listed_tree files place v name lead ≡ Ok tree
unfolding listed_tree
tree-is files place v name lead bytes tree read h = rw read h

-- ---- the source of codes that are listed

pub listed-stops : (files : Files) (place : ℕ) (v : Variable) (codes : List (List ℕ)) (name lead : List ℕ) (s : Shape) (o : Option Fault) → s ≡ shape.Listed name lead → Fails o (listed_tree files place v name lead) → Fails o (source_of files place v codes s)
unfolding source_of
listed-stops files place v codes name lead s o is h = rw is (fails-on o (listed_tree files place v name lead) _ h)

pub listed-is : (files : Files) (place : ℕ) (v : Variable) (codes : List (List ℕ)) (name lead : List ℕ) (tree : Tree) (s : Shape) → s ≡ shape.Listed name lead → listed_tree files place v name lead ≡ Ok tree → source_of files place v codes s ≡ Ok (source.Listed tree)
unfolding source_of
listed-is files place v codes name lead tree s is h = rw (is, h) refl
