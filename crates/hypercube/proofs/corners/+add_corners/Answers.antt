use Rattle.std.proofs.Common.{◌≡◌, ◌<◌, ◌+◌, ◌++◌, ◌∷◌, [], ℕ, Bool, false, List, slice_index_or, length, fold, drop, OnOk, ap, sym, ◌∙◌, subst, arith, length-append}
use Rattle.sdc_base.specs.Cubes.{sign_over, with_corner}
use Rattle.sdc_base.specs.declared.cube.Corner.{Corner}
use Rattle.sdc_base.specs.declared.cube.Edge.{Edge}
use Rattle.linked_tables.specs.BookCells.{cell_at}
use Rattle.hypercube.specs.Branches.{number_with_codes, corners_beyond}
use Rattle.hypercube.proofs.CornerLists.{beyond-both}
use Rattle.hypercube.proofs.corners.+add_corners.Goals as goal

pub returns : goal.returns
returns t c =
    let number = number_with_codes (cell_at c.args.layer.now.book.now c.args.layer.now.t) c.args.layer.now.codes.now in
    let place : List ℕ = c.args.place.now in
    let edges = c.args.edges.now in
    let plus = c.args.plus in
    let d : Edge = record { code = 0; other = 0; equal = false } in
    let edge : Edge = slice_index_or edges c.len-k.result d in
    let inside : length place < length edges = omega (arith, c.len-k.ensures.len, c.if-k-edges.false) in
    let own : c.with_code-own.result ≡ place ++ edge.code ∷ [] = c.with_code-own.ensures ∙ ap (λ (p : List ℕ). p ++ edge.code ∷ []) c.as_slice.ensures in
    let other : c.with_code-other.result ≡ place ++ edge.other ∷ [] = c.with_code-other.ensures ∙ ap (λ (p : List ℕ). p ++ edge.other ∷ []) c.as_slice-2.ensures in
    let long : length c.with_code-own.result ≡ length place + 1 = ap (λ (p : List ℕ). length p) own ∙ length-append place (edge.code ∷ []) in
    let longer : length c.with_code-other.result ≡ length place + 1 = ap (λ (p : List ℕ). length p) other ∙ length-append place (edge.other ∷ []) in
    let first : c.add_corners.new.corners.items ≡ fold with_corner c.args.corners.now.items (corners_beyond number (place ++ edge.code ∷ []) plus (drop (length place + 1) edges)) =
    c.in_ok-add_corners.ensures
    ∙ ap (λ (p : List ℕ). fold with_corner c.args.corners.now.items (corners_beyond number p plus (drop (length c.with_code-own.result) edges))) own
    ∙ ap (λ (k : ℕ). fold with_corner c.args.corners.now.items (corners_beyond number (place ++ edge.code ∷ []) plus (drop k edges))) long
    in
    let both =
    ap (λ (p : List ℕ). fold with_corner c.add_corners.new.corners.items (corners_beyond number p c.sign_over.result (drop (length c.with_code-other.result) edges))) other
    ∙ ap (λ (k : ℕ). fold with_corner c.add_corners.new.corners.items (corners_beyond number (place ++ edge.other ∷ []) c.sign_over.result (drop k edges))) longer
    ∙ ap (λ (b : Bool). fold with_corner c.add_corners.new.corners.items (corners_beyond number (place ++ edge.other ∷ []) b (drop (length place + 1) edges))) c.sign_over.ensures
    ∙ ap (λ (corners : List Corner). fold with_corner corners (corners_beyond number (place ++ edge.other ∷ []) (sign_over edge plus) (drop (length place + 1) edges))) first
    ∙ sym (beyond-both number c.args.corners.now.items place plus edges edge d inside (ap (λ (k : ℕ). slice_index_or edges k d) (sym c.len-k.ensures.len)))
    in
    subst (λ (corners : List Corner). OnOk c.add_corners-2.result (c.add_corners-2.new.corners.items ≡ corners)) both c.add_corners-2.ensures
