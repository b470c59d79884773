-- A new code by levels keeps the codes sound.
use Rattle.std.proofs.Common.{◌≡◌, ℕ, ◌+◌, ◌≤◌, nat_lt, Bool, true, false, List, [], ◌∷◌, ◌++◌, length, sum, Option, None, Some, Result, Ok, refl, ap, sym, ◌∙◌, subst, arith, append_assoc, append-nil}
use Rattle.std.specs.List.{list_any}
use Rattle.std.specs.Str.{bytes_eq}
use Rattle.std.proofs.lemmas.Bool.Decides.{nat_tests}
use Rattle.std.proofs.lemmas.List.Elements.{All-append, All-cons, All-nil}
use Rattle.sdc_base.specs.Blanks.{is_blank}
use Rattle.sdc_base.specs.Steps.{◌>>=◌, refuse}
use Rattle.code_trees.specs.Faults.{or_else}
use Rattle.code_trees.specs.Levels.{boundaries, prefixes, with_prefixes, codes_with_prefixes, level_fault, first_level_fault}
use Rattle.code_trees.specs.declared.tree_fault.TreeFault.{TreeFault}
use Rattle.code_trees.proofs.Among.{among-more}
use Rattle.microdata.specs.Keeping.{AreLevelCodes}
use Rattle.microdata.specs.SeenCodes.{with_level_code}
use Rattle.microdata.specs.declared.faults.RowWhy.{RowWhy}
use Rattle.microdata.specs.declared.faults.RowWhy.TheVariants.{UnknownCode, NotLeaf, TooManyCodes}
use Rattle.microdata.specs.declared.taking.Seen.{Seen}

-- a step that didn't refuse, and the next one
pub passed : {A : Type 0} (why : RowWhy) (wrong : Bool) (next : Unit {0} → Result A RowWhy) (y : A) → (refuse why wrong >>= next) ≡ Ok y → (wrong ≡ false) × (next tt ≡ Ok y)
passed why true next y h = cc
passed why false next y h = (refl, h)

pub value_is : (x y : Seen) → ◌≡◌ {A = Result Seen RowWhy} (Ok x) (Ok y) → x ≡ y
value_is x y h = cc

pub gathered-more : (bounds : List ℕ) (codes kept : List (List ℕ)) (code : List ℕ) → codes_with_prefixes bounds kept (codes ++ code ∷ []) ≡ with_prefixes bounds (codes_with_prefixes bounds kept codes) code
gathered-more bounds [] kept code = refl
gathered-more bounds (first ∷ codes) kept code = gathered-more bounds codes (with_prefixes bounds kept first) code

neither : (one other : Option TreeFault) → or_else one other ≡ None → (one ≡ None) × (other ≡ None)
neither None other h = (refl, h)
neither (Some fault) other h = cc

fine-more : (total bounds : List ℕ) (n : ℕ) (earlier kept codes : List (List ℕ)) (code : List ℕ) → first_level_fault total bounds n earlier kept codes ≡ None
    → ((m : ℕ) → level_fault total bounds (earlier ++ codes) (codes_with_prefixes bounds kept codes) code m ≡ None)
    → first_level_fault total bounds n earlier kept (codes ++ code ∷ []) ≡ None
fine-more total bounds n earlier kept [] code h last =
    let here : level_fault total bounds earlier kept code n ≡ None = subst (λ before. level_fault total bounds before kept code n ≡ None) (append-nil earlier) (last n) in
    ap (λ told. or_else told None) here
fine-more total bounds n earlier kept (first ∷ codes) code h last =
    let both = neither (level_fault total bounds earlier kept first n) (first_level_fault total bounds (n + 1) (earlier ++ first ∷ []) (with_prefixes bounds kept first) codes) h in
    let rest = fine-more total bounds (n + 1) (earlier ++ first ∷ []) (with_prefixes bounds kept first) codes code both.1
    (λ m. subst (λ before. level_fault total bounds before (codes_with_prefixes bounds (with_prefixes bounds kept first) codes) code m ≡ None) (sym (append_assoc earlier (first ∷ []) codes)) (last m)) in
    ap (λ told. or_else told (first_level_fault total bounds (n + 1) (earlier ++ first ∷ []) (with_prefixes bounds kept first) (codes ++ code ∷ []))) both.0 ∙ rest

no-fault : (total bounds : List ℕ) (earlier kept : List (List ℕ)) (code : List ℕ) (m : ℕ) → list_any is_blank code ≡ false → list_any (bytes_eq total) (prefixes bounds code) ≡ false → list_any (bytes_eq code) earlier ≡ false
    → nat_lt 5000 (length (with_prefixes bounds kept code)) ≡ false → level_fault total bounds earlier kept code m ≡ None
no-fault total bounds earlier kept code m p q r s = rw (p, q, r, s) refl

not_below : (a b : ℕ) → nat_lt a b ≡ false → b ≤ a
not_below a b h = grind (arith, nat_tests)

-- a code more that has no fault
grown-sound : (widths total : List ℕ) (old : Seen) (code : List ℕ) → list_any (bytes_eq code) old.codes ≡ false → AreLevelCodes widths total old
    → list_any is_blank code ≡ false → nat_lt (sum widths) (length code) ≡ false → list_any (bytes_eq total) (prefixes (boundaries 0 widths) code) ≡ false
    → nat_lt 5000 (length (with_prefixes (boundaries 0 widths) old.nodes code)) ≡ false
    → AreLevelCodes widths total (record { codes = old.codes ++ code ∷ []; nodes = with_prefixes (boundaries 0 widths) old.nodes code })
grown-sound widths total old code new sound plain short apart room =
    let bounds = boundaries 0 widths in
    record {
      nodes = ap (λ nodes. with_prefixes bounds nodes code) sound.nodes ∙ sym (gathered-more bounds old.codes [] code);
      no_level_fault = fine-more total bounds 1 [] [] old.codes code sound.no_level_fault
          (λ m. no-fault total bounds old.codes (codes_with_prefixes bounds [] old.codes) code m plain apart new (subst (λ nodes. nat_lt 5000 (length (with_prefixes bounds nodes code)) ≡ false) sound.nodes room));
      short = All-append (λ code. length code ≤ sum widths) old.codes (code ∷ []) sound.short (All-cons (λ code. length code ≤ sum widths) code [] (not_below _ _ short) (All-nil (λ code. length code ≤ sum widths)));
      among = among-more bounds old.codes old.nodes code sound.among;
      at_most_5000_nodes = not_below 5000 _ room;
    }

pub level-sound : (widths total : List ℕ) (old new : Seen) (code : List ℕ) → list_any (bytes_eq code) old.codes ≡ false → AreLevelCodes widths total old
    → with_level_code widths total old code ≡ Ok new → AreLevelCodes widths total new
unfolding with_level_code
level-sound widths total old new code fresh sound said =
    let a = passed UnknownCode (list_any is_blank code) _ new said in
    let b = passed UnknownCode (nat_lt (sum widths) (length code)) _ new a.1 in
    let c = passed NotLeaf (bytes_eq code total) _ new b.1 in
    let d = passed UnknownCode (list_any (bytes_eq total) (prefixes (boundaries 0 widths) code)) _ new c.1 in
    let e = passed TooManyCodes (nat_lt 5000 (length (with_prefixes (boundaries 0 widths) old.nodes code))) _ new d.1 in
    subst (AreLevelCodes widths total) (value_is _ new e.1) (grown-sound widths total old code fresh sound a.0 b.0 d.0 e.0)
