use Rattle.std.proofs.Common.{◌≡◌, ◌≤◌, [], true, arith, ℕ, None, List, Option, option_map, slice_index_or, drop, length, ap, sym, ◌∙◌, subst}
use Rattle.sdc_base.specs.Records.{Name}
use Rattle.sdc_base.specs.Cubes.{cubes_at, edges_at}
use Rattle.sdc_base.specs.CubeOrder.{Offer, comes_before, first_by}
use Rattle.sdc_base.specs.declared.cube.Cube.{Cube}
use Rattle.sdc_base.specs.declared.cube.Edge.{Edge}
use Rattle.sdc_base.specs.declared.dimension.Dimension.{Dimension}
use Rattle.linked_tables.specs.BookCells.{cell_at, cells as cells_in}
use Rattle.hypercube.specs.Branches.{Setting, begin_at, best_beyond, codes_at, offers_of}
use Rattle.hypercube.specs.LeastCubes.{cubes_in, is_marked, least_cube, price_in}
use Rattle.hypercube.specs.declared.ranking.PricedEdge.{PricedEdge}
use Rattle.hypercube.specs.Ranks.{AreRanked, AreRankings, edge_lists}
use Rattle.hypercube.proofs.EdgeLists.{edges-begin}
use Rattle.hypercube.proofs.Firsts.{least-serves}
use Rattle.hypercube.proofs.Pruning.{as-long}
use Rattle.hypercube.proofs.Rankings.{are-ranked, search-ranked}
use Rattle.hypercube.proofs.search.cheapest.Goals as goal

pub invariant_of-search : goal.invariant_of-search
invariant_of-search g c =
    let lists : List (List Edge) = c.in_ok-lists.lists.items in
    let begun : begin_at c.codes_at-codes.result lists ≡ true =
    ap (λ (codes : List ℕ). begin_at codes lists) c.codes_at-codes.ensures
    ∙ ap (λ (found : List (List Edge)). begin_at (codes_at c.name_of-name.result c.table_of-table.result c.args.subtable.now.parents) found) c.in_ok-lists.ensures.edges
    ∙ edges-begin c.args.book.now.trees c.name_of-name.result c.table_of-table.result c.args.subtable.now.parents
    in
    let long = as-long c.codes_at-codes.result lists begun in
    record {
      costed = c.requires.costed;
      up = c.requires.up;
      down = c.requires.down;
      at_most_8_codes = omega (arith, c.in_ok-lists.ensures.at_most_8, long);
    }

pub better-requires-clause-ranked : goal.better-requires-clause-ranked
better-requires-clause-ranked g c =
    let lists : List (List Edge) = c.as_slice.result.now in
    let setting : Setting = record {
      book = c.args.book.now;
      cells = c.args.cells.now;
      cost = c.args.rule.now;
      table = c.args.subtable.now.table;
      levels = c.args.levels;
      codes = c.codes_at-codes.result;
    } in
    let all : List (List PricedEdge) = c.in_ok-ranked.ranked.items in
    let few : length lists ≤ 8 = subst (λ (found : List (List Edge)). length found ≤ 8) (sym c.as_slice.ensures.value) c.in_ok-lists.ensures.at_most_8 in
    let begun : begin_at setting.codes lists ≡ true =
    ap (λ (codes : List ℕ). begin_at codes lists) c.codes_at-codes.ensures
    ∙ ap (λ (found : List (List Edge)). begin_at (codes_at c.name_of-name.result c.table_of-table.result c.args.subtable.now.parents) found) (c.as_slice.ensures.value ∙ c.in_ok-lists.ensures.edges)
    ∙ edges-begin c.args.book.now.trees c.name_of-name.result c.table_of-table.result c.args.subtable.now.parents
    in
    subst (λ (found : List (List PricedEdge)). AreRanked setting found) (sym c.as_slice-2.ensures.value) (are-ranked setting lists all c.in_ok-ranked.ensures few begun)

pub returns-clause-least : goal.returns-clause-least
returns-clause-least g c =
    let book = c.args.book.now in
    let subtable = c.args.subtable.now in
    let levels = c.args.levels in
    let setting : Setting = record {
      book = book;
      cells = c.args.cells.now;
      cost = c.args.rule.now;
      table = subtable.table;
      levels = levels;
      codes = c.codes_at-codes.result;
    } in
    let all : List (List PricedEdge) = c.in_ok-ranked.ranked.items in
    let name : c.name_of-name.result ≡ slice_index_or (cells_in book) c.args.cell [] = c.name_of-name.ensures in
    let table : c.table_of-table.result ≡ slice_index_or book.tables subtable.table [] = c.table_of-table.ensures in
    let edges : c.as_slice.result.now ≡ edges_at book.trees c.name_of-name.result c.table_of-table.result subtable.parents = c.as_slice.ensures.value ∙ c.in_ok-lists.ensures.edges in
    let are : AreRankings setting 0 (edges_at book.trees c.name_of-name.result c.table_of-table.result subtable.parents) all =
    subst (λ (lists : List (List Edge)). AreRankings setting 0 lists all) edges c.in_ok-ranked.ensures
    in
    let found =
    c.in_ok-best.ensures
    ∙ ap (λ (chosen : List Edge). best_beyond setting None chosen (drop (length chosen) (edge_lists c.as_slice-2.result.now))) c.empty.ensures
    ∙ ap (λ (lists : List (List PricedEdge)). best_beyond setting None [] (edge_lists lists)) c.as_slice-2.ensures.value
    ∙ search-ranked setting book.trees c.name_of-name.result c.table_of-table.result subtable.parents all c.cells.ensures.book c.codes_at-codes.ensures are
    ∙ ap (λ (codes : Name). first_by comes_before (offers_of setting (cubes_at book.trees codes c.table_of-table.result subtable.parents))) name
    ∙ ap (λ (spanned : List Dimension). first_by comes_before (offers_of setting (cubes_at book.trees (slice_index_or (cells_in book) c.args.cell []) spanned subtable.parents))) table
    in
    c.cube_of.ensures ∙ ap (λ (best : Option Offer). option_map (λ (offer : Offer). offer.1) best) found

pub returns-clause-serves : goal.returns-clause-serves
returns-clause-serves g c = λ cube is.
    let book = c.args.book.now in
    let cells = c.args.cells.now in
    let subtable = c.args.subtable.now in
    let whole : option_map (λ (one : Cube). one.corners) c.cube_of.result ≡ least_cube book cells c.args.rule.now subtable c.args.cell c.args.levels = returns-clause-least g c in
    least-serves (cell_at book subtable.table) (is_marked book) (price_in book cells c.args.rule.now) cells c.args.levels (cubes_in book subtable c.args.cell) cube.corners (sym whole ∙ ap (λ (found : Option Cube). option_map (λ (one : Cube). one.corners) found) is)
