-- Kept and spare worlds while cells are tried as shown.
use Rattle.std.proofs.Common.{◌≡◌, ℕ, zero, suc, ◌+◌, ◌<◌, ◌==◌, ◌||◌, ◌&&◌, not, Bool, true, false, List, [], ◌∷◌, ◌++◌, length, take, filter, fold, slice_get, slice_set, All, Some, ℤ, pos, ◌*ℤ◌, ◌≤ℤ◌, int_le, refl, ap, sym, ◌∙◌, subst, arith, if◌then◌else◌}
use Rattle.std.specs.List.{list_any, list_all}
use Rattle.std.specs.Option.{option_map_or}
use Rattle.std.proofs.Math.Seq.{take-length}
use Rattle.std.proofs.lemmas.Bool.Decides.{Decides-eqb}
use Rattle.std.proofs.lemmas.List.{take_more, take_more_set}
use Rattle.std.proofs.lemmas.List.Elements.{All-nil, All-cons, All-head, All-tail, All-append, All-filter, All-get_or, All-take}
use Rattle.std.proofs.lemmas.Option.{slice_get_within, get_or_from_slice_get}
use Rattle.sdc_base.specs.declared.cell.Cell.{Cell}
use Rattle.sdc_base.specs.declared.cell.Kind.TheVariants.{Primary}
use Rattle.sdc_base.specs.declared.side.Side.{Side}
use Rattle.sdc_base.specs.HiddenSets.{is_hidden}
use Rattle.sdc_base.specs.Worlds.{Protects, level, amount_toward}
use Rattle.sdc_base.specs.Forms.{Term}
use Rattle.worlds.specs.declared.multipliers.Multipliers.{Multipliers}
use Rattle.worlds.specs.declared.world.Move.{Move}
use Rattle.worlds.specs.declared.world.World.{World}
use Rattle.worlds.specs.NumberLists.{terms_of, number_given}
use Rattle.worlds.specs.ProtectFaults.{asked_of}
use Rattle.worlds.specs.RefutationFaults.{IsGivenRefutation}
use Rattle.worlds.specs.WorldFaults.{IsGivenWorld}
use Rattle.worlds.proofs.Bounds.{decides_le}
use Rattle.worlds.proofs.RefutationLaws.{no_world}
use Rattle.worlds.proofs.TrueTests.{and_true}
use Rattle.repair.specs.declared.trial.ReusableTable.{ReusableTable}
use Rattle.repair.specs.HidingOrder.{Case, IsOfKind, StandsAt, ProtectsBefore, ProtectsAll, IsFirstUnprotected}
use Rattle.repair.specs.KeptWorlds.{IsServing, AreServed, AreServedBefore}
use Rattle.repair.specs.CellTrials.{fits, serves_beside, IsKept, AreKept, IsReusableTable, AreReusableTables, IsRefuted, offered}
use Rattle.repair.specs.LevelQuestions.{AreGiven}
use Rattle.repair.specs.Repairs.{cell_and_side}
use Rattle.worlds.specs.declared.refuted.Refuted.{Refuted}
use Rattle.repair.proofs.Flags.{by_test, clash}
use Rattle.repair.proofs.Growing.{served_push}
use Rattle.repair.proofs.Order.{asked_primary}
use Rattle.repair.proofs.Repairing.{given_refutes}

-- ---- a world that moves only hidden cells

unmoved_from : (flags : List Bool) (cell : ℕ) (a : ℤ) (moves : List Move) → is_hidden flags cell ≡ false → list_all (λ one. is_hidden flags one.cell) moves ≡ true → fold (λ number (term : Term). if term.0 == cell then term.1 else number) a (terms_of moves) ≡ a
unmoved_from flags cell a [] shown fit = refl
unmoved_from flags cell a (one ∷ moves) shown fit =
    let both : (is_hidden flags one.cell ≡ true) × (list_all (λ (m : Move). is_hidden flags m.cell) moves ≡ true) = and_true (is_hidden flags one.cell) (list_all (λ (m : Move). is_hidden flags m.cell) moves) fit in
    let other : (one.cell == cell) ≡ false =
    by_test (one.cell == cell) ((one.cell == cell) ≡ false) (λ same. clash (is_hidden flags cell) (subst (λ n. is_hidden flags n ≡ true) ((Decides-eqb one.cell cell).0 same) both.0) shown) (λ is. is) in
    ap (λ b. fold (λ number (term : Term). if term.0 == cell then term.1 else number) (if b then one.by else a) (terms_of moves)) other ∙ unmoved_from flags cell a moves shown both.1

-- a world for some hidden set that moves only cells of another is a world for that
pub still_world : (c : Case) (set flags : List Bool) (world : World) → fits flags world ≡ true → IsGivenWorld c.system c.cells set world → IsGivenWorld c.system c.cells flags world
still_world c set flags world fit is = record {
  listed = is.listed;
  is_world = record {
    positive = is.is_world.positive;
    shown_stay = λ k inside shown. unmoved_from flags k (pos 0) world.moves shown fit;
    relations_hold = is.is_world.relations_hold;
    bounds_hold = is.is_world.bounds_hold;
  };
}

pub fitting_serves : (c : Case) (flags : List Bool) (asked : ℕ × Side) (world : World) → fits flags world ≡ true → IsKept c asked world → IsServing c flags asked world
fitting_serves c flags asked world fit kept = record { is_primary = kept.1.is_primary; is_world = still_world c kept.0 flags world fit kept.1.is_world; reaching = kept.1.reaching }

-- ---- kept worlds

-- the world at the place of a question
pub kept_at : (c : Case) (questions : List (ℕ × Side)) (worlds : List World) (place : ℕ) (asked : ℕ × Side) (world : World) → slice_get questions place ≡ Some asked → slice_get worlds place ≡ Some world → AreKept c questions worlds → IsKept c asked world
kept_at c [] worlds place asked world own kept are = absurd cc
kept_at c (q ∷ questions) [] place asked world own kept are = absurd are
kept_at c (q ∷ questions) (w ∷ worlds) zero asked world own kept are =
    let one : q ≡ asked = cc in
    let two : w ≡ world = cc in
    subst (λ (p : ℕ × Side). IsKept c p world) one (subst (λ (v : World). IsKept c q v) two are.0)
kept_at c (q ∷ questions) (w ∷ worlds) (suc place) asked world own kept are = kept_at c questions worlds place asked world own kept are.1

-- a world put in the place of its question
pub kept_set : (c : Case) (questions : List (ℕ × Side)) (worlds : List World) (place : ℕ) (asked : ℕ × Side) (world : World) → slice_get questions place ≡ Some asked → IsKept c asked world → AreKept c questions worlds → AreKept c questions (slice_set worlds place world)
kept_set c [] worlds place asked world own is are = absurd cc
kept_set c (q ∷ questions) [] place asked world own is are = absurd are
kept_set c (q ∷ questions) (w ∷ worlds) zero asked world own is are =
    let one : q ≡ asked = cc in
    (subst (λ (p : ℕ × Side). IsKept c p world) (sym one) is, are.1)
kept_set c (q ∷ questions) (w ∷ worlds) (suc place) asked world own is are = (are.0, kept_set c questions worlds place asked world own is are.1)

pub kept_length : (c : Case) (questions : List (ℕ × Side)) (worlds : List World) → AreKept c questions worlds → length worlds ≡ length questions
kept_length c [] [] are = refl
kept_length c [] (w ∷ worlds) are = absurd are
kept_length c (q ∷ questions) [] are = absurd are
kept_length c (q ∷ questions) (w ∷ worlds) are = omega (arith, kept_length c questions worlds are.1)

-- worlds that serve for one hidden set are kept
pub kept_by : (c : Case) (flags : List Bool) (questions : List (ℕ × Side)) (worlds : List World) → AreServed c flags questions worlds → AreKept c questions worlds
kept_by c flags [] [] are = tt
kept_by c flags [] (w ∷ worlds) are = absurd are
kept_by c flags (q ∷ questions) [] are = absurd are
kept_by c flags (q ∷ questions) (w ∷ worlds) are = ((flags, are.0), kept_by c flags questions worlds are.1)

-- ---- questions that have worlds of their own again

asked_more : (c : Case) (place : ℕ) (asked : ℕ × Side) → StandsAt c.cells asked place → take (place + 1) (asked_of 0 c.cells) ≡ take place (asked_of 0 c.cells) ++ asked ∷ []
asked_more c place asked stands =
    let all : List (ℕ × Side) = asked_of 0 c.cells in
    take_more all place asked (slice_get_within all place asked stands) ∙ ap (λ (q : ℕ × Side). take place all ++ q ∷ []) (get_or_from_slice_get all place asked asked stands)

served_by : (c : Case) (flags : List Bool) (worlds more : List World) (place : ℕ) (asked : ℕ × Side) (world : World) → StandsAt c.cells asked place → more ≡ take place worlds ++ world ∷ [] → IsServing c flags asked world → AreServedBefore c flags place (take place worlds) → AreServedBefore c flags (place + 1) more
served_by c flags worlds more place asked world stands is own served =
    subst (λ (qs : List (ℕ × Side)). AreServed c flags qs more) (sym (asked_more c place asked stands))
    (subst (λ (ws : List World). AreServed c flags (take place (asked_of 0 c.cells) ++ asked ∷ []) ws) (sym is) (served_push c flags (take place (asked_of 0 c.cells)) (take place worlds) asked world served own))

-- one question more, by the world in its place
pub served_next : (c : Case) (flags : List Bool) (worlds : List World) (place : ℕ) (asked : ℕ × Side) (world : World) → StandsAt c.cells asked place → slice_get worlds place ≡ Some world → IsServing c flags asked world → AreServedBefore c flags place (take place worlds) → AreServedBefore c flags (place + 1) (take (place + 1) worlds)
served_next c flags worlds place asked world stands kept own served =
    served_by c flags worlds (take (place + 1) worlds) place asked world stands
    (take_more worlds place world (slice_get_within worlds place world kept) ∙ ap (λ (w : World). take place worlds ++ w ∷ []) (get_or_from_slice_get worlds place world world kept)) own served

-- one question more, by a world that is put in its place
pub served_set : (c : Case) (flags : List Bool) (worlds : List World) (place : ℕ) (asked : ℕ × Side) (world : World) → StandsAt c.cells asked place → place < length worlds → IsServing c flags asked world → AreServedBefore c flags place (take place worlds) → AreServedBefore c flags (place + 1) (take (place + 1) (slice_set worlds place world))
served_set c flags worlds place asked world stands within own served =
    served_by c flags worlds (take (place + 1) (slice_set worlds place world)) place asked world stands (take_more_set worlds place world within) own served

-- all questions
pub served_all : (c : Case) (flags : List Bool) (worlds : List World) (n : ℕ) → n ≡ length (asked_of 0 c.cells) → AreKept c (asked_of 0 c.cells) worlds → AreServedBefore c flags n (take n worlds) → AreServed c flags (asked_of 0 c.cells) worlds
served_all c flags worlds n is are served =
    let all : List (ℕ × Side) = asked_of 0 c.cells in
    let long : n ≡ length worlds = omega (arith, is, kept_length c all worlds are) in
    subst (λ (ws : List World). AreServed c flags all ws) (ap (λ k. take k worlds) long ∙ take-length worlds)
    (subst (λ (qs : List (ℕ × Side)). AreServed c flags qs (take n worlds)) (ap (λ k. take k all) is ∙ take-length all) served)

-- ---- a question that a world at hand serves

protects_beside : (c : Case) (flags : List Bool) (asked : ℕ × Side) (one : Cell) (own : ℕ × Side) (world : World) → slice_get c.cells asked.0 ≡ Some one → IsKept c own world → serves_beside one asked flags world ≡ true → Protects c.system c.cells flags asked.0 asked.1
protects_beside c flags asked one own world found kept test =
    let moves = number_given (terms_of world.moves) in
    let both = and_true (int_le (world.den *ℤ level asked.1 one) (amount_toward asked.1 (moves asked.0))) (fits flags world) test in
    let reach : (world.den *ℤ level asked.1 one) ≤ℤ amount_toward asked.1 (moves asked.0) = (decides_le (world.den *ℤ level asked.1 one) (amount_toward asked.1 (moves asked.0))).0 both.0 in
    let given : IsGivenWorld c.system c.cells flags world = still_world c kept.0 flags world both.1 kept.1.is_world in
    (world.den, moves, one, given.is_world, found, reach)

-- one of the kept worlds serves it
protects_kept : (c : Case) (flags : List Bool) (asked : ℕ × Side) (one : Cell) (questions : List (ℕ × Side)) (worlds : List World) → slice_get c.cells asked.0 ≡ Some one → AreKept c questions worlds → list_any (serves_beside one asked flags) worlds ≡ true → Protects c.system c.cells flags asked.0 asked.1
protects_kept c flags asked one questions [] found are test = absurd cc
protects_kept c flags asked one [] (w ∷ worlds) found are test = absurd are
protects_kept c flags asked one (q ∷ questions) (w ∷ worlds) found are test =
    elim (serves_beside one asked flags w) as (λ b. serves_beside one asked flags w ≡ b → (b || list_any (serves_beside one asked flags) worlds) ≡ true → Protects c.system c.cells flags asked.0 asked.1) [
      | true ↦ λ is more. protects_beside c flags asked one q w found are.0 is
      | false ↦ λ is more. protects_kept c flags asked one questions worlds found are.1 more
    ] refl test

-- one of the reusable tables serves it
protects_spare : (c : Case) (flags : List Bool) (asked : ℕ × Side) (one : Cell) (reusable : List ReusableTable) → slice_get c.cells asked.0 ≡ Some one → AreReusableTables c reusable → list_any (λ spare. serves_beside one asked flags spare.world) reusable ≡ true → Protects c.system c.cells flags asked.0 asked.1
protects_spare c flags asked one [] found are test = absurd cc
protects_spare c flags asked one (s ∷ reusable) found are test =
    let own : IsReusableTable c s = All-head (IsReusableTable c) s reusable are in
    elim (serves_beside one asked flags s.world) as (λ b. serves_beside one asked flags s.world ≡ b → (b || list_any (λ (spare : ReusableTable). serves_beside one asked flags spare.world) reusable) ≡ true → Protects c.system c.cells flags asked.0 asked.1) [
      | true ↦ λ is more. protects_beside c flags asked one own.asked s.world found own.kept is
      | false ↦ λ is more. protects_spare c flags asked one reusable found (All-tail (IsReusableTable c) s reusable are) more
    ] refl test

-- a world at hand, kept or spare, serves it
pub protects_at_hand : (c : Case) (flags : List Bool) (asked : ℕ × Side) (one : Cell) (questions : List (ℕ × Side)) (worlds : List World) (reusable : List ReusableTable) → slice_get c.cells asked.0 ≡ Some one → AreKept c questions worlds → AreReusableTables c reusable → (list_any (serves_beside one asked flags) worlds || list_any (λ spare. serves_beside one asked flags spare.world) reusable) ≡ true → Protects c.system c.cells flags asked.0 asked.1
protects_at_hand c flags asked one questions worlds reusable found kept are test =
    elim (list_any (serves_beside one asked flags) worlds) as (λ b. list_any (serves_beside one asked flags) worlds ≡ b → (b || list_any (λ (spare : ReusableTable). serves_beside one asked flags spare.world) reusable) ≡ true → Protects c.system c.cells flags asked.0 asked.1) [
      | true ↦ λ is more. protects_kept c flags asked one questions worlds found kept is
      | false ↦ λ is more. protects_spare c flags asked one reusable found are more
    ] refl test

-- one question more that the set protects
pub protects_next : (c : Case) (flags : List Bool) (place : ℕ) (asked : ℕ × Side) → StandsAt c.cells asked place → Protects c.system c.cells flags asked.0 asked.1 → ProtectsBefore c flags place → ProtectsBefore c flags (place + 1)
protects_next c flags place asked stands own before =
    let all : List (ℕ × Side) = asked_of 0 c.cells in
    let P : ℕ × Side → Type 0 = λ q. Protects c.system c.cells flags q.0 q.1 in
    subst (All P) (sym (asked_more c place asked stands)) (All-append P (take place all) (asked ∷ []) before (All-cons P asked [] own (All-nil P)))

-- all that is asked
pub protects_all : (c : Case) (flags : List Bool) (n : ℕ) → n ≡ length (asked_of 0 c.cells) → ProtectsBefore c flags n → ProtectsAll c flags
protects_all c flags n is before = subst (All (λ (q : ℕ × Side). Protects c.system c.cells flags q.0 q.1)) (ap (λ k. take k (asked_of 0 c.cells)) is ∙ take-length (asked_of 0 c.cells)) before

-- what is asked before a place is a part of it
pub protects_first : (c : Case) (flags : List Bool) (place : ℕ) → ProtectsAll c flags → ProtectsBefore c flags place
protects_first c flags place all = All-take (λ (q : ℕ × Side). Protects c.system c.cells flags q.0 q.1) place (asked_of 0 c.cells) all

-- so is what is asked before any place
pub protects_before : (c : Case) (flags : List Bool) (n place : ℕ) → n ≡ length (asked_of 0 c.cells) → ProtectsBefore c flags n → ProtectsBefore c flags place
protects_before c flags n place is before = protects_first c flags place (protects_all c flags n is before)

pub protects_at : (c : Case) (flags : List Bool) (n place : ℕ) (asked : ℕ × Side) → n ≡ length (asked_of 0 c.cells) → StandsAt c.cells asked place → ProtectsBefore c flags n → Protects c.system c.cells flags asked.0 asked.1
protects_at c flags n place asked is stands before =
    let P : ℕ × Side → Type 0 = λ q. Protects c.system c.cells flags q.0 q.1 in
    subst P (get_or_from_slice_get (asked_of 0 c.cells) place asked asked stands) (All-get_or P (asked_of 0 c.cells) place asked (slice_get_within (asked_of 0 c.cells) place asked stands) (protects_all c flags n is before))

-- what is refuted isn't protected
pub refuted_unprotected : (c : Case) (flags : List Bool) (place : ℕ) (asked : ℕ × Side) (m : Multipliers) → length c.cells ≡ c.system.cells → StandsAt c.cells asked place → IsGivenRefutation c.system c.cells flags asked.0 asked.1 m → ¬ Protects c.system c.cells flags asked.0 asked.1
refuted_unprotected c flags place asked m one_each stands refutes =
    let primary : IsOfKind c.cells asked.0 Primary = asked_primary c.cells place asked stands in
    let inside : asked.0 < c.system.cells = omega (arith, one_each, slice_get_within c.cells asked.0 primary.cell primary.found) in
    no_world c.system c.cells flags asked.0 asked.1 m one_each inside refutes

-- the question at a place is the first that the set doesn't protect, where multipliers refute it
pub first_refuted : (c : Case) (flags : List Bool) (place : ℕ) (asked : ℕ × Side) (m : Multipliers) → length c.cells ≡ c.system.cells → StandsAt c.cells asked place → ProtectsBefore c flags place → IsGivenRefutation c.system c.cells flags asked.0 asked.1 m → IsFirstUnprotected c flags asked
first_refuted c flags place asked m one_each stands before refutes = record { place = place; stands = stands; before = before; unprotected = refuted_unprotected c flags place asked m one_each stands refutes }

-- what the set protects isn't refuted
pub none_refuted : (c : Case) (flags : List Bool) (n place : ℕ) (asked : ℕ × Side) (m : Multipliers) → length c.cells ≡ c.system.cells → n ≡ length (asked_of 0 c.cells) → StandsAt c.cells asked place → ProtectsBefore c flags n → IsGivenRefutation c.system c.cells flags asked.0 asked.1 m → ⊥
none_refuted c flags n place asked m one_each is stands before refutes = refuted_unprotected c flags place asked m one_each stands refutes (protects_at c flags n place asked is stands before)

-- what is answered for the question at a place makes a need, where the set protects what is asked before
pub refuted_by : (c : Case) (flags : List Bool) (place : ℕ) (asked : ℕ × Side) (need : Refuted) → cell_and_side need ≡ asked → length c.cells ≡ c.system.cells → StandsAt c.cells asked place → ProtectsBefore c flags place → AreGiven c.system c.cells flags asked need.multipliers → IsRefuted c flags need
refuted_by c flags place asked need is one_each stands before given =
    let own : AreGiven c.system c.cells flags (cell_and_side need) need.multipliers = subst (λ (q : ℕ × Side). AreGiven c.system c.cells flags q need.multipliers) (sym is) given in
    let at : StandsAt c.cells (cell_and_side need) place = subst (λ (q : ℕ × Side). StandsAt c.cells q place) (sym is) stands in
    let refutes : IsGivenRefutation c.system c.cells flags need.cell need.side need.multipliers = given_refutes c.system c.cells flags (cell_and_side need) need.multipliers own in
    record {
      cell_primary = asked_primary c.cells place (cell_and_side need) at;
      first = first_refuted c flags place (cell_and_side need) need.multipliers one_each at before refutes;
      refutes = refutes;
      gives = own;
    }

-- ---- spare worlds

pub All-front : {X : Type 0} (P : X → Type 0) (xs : List X) (x : X) → All P (xs ++ x ∷ []) → All P xs
All-front P [] x all = All-nil P
All-front P (y ∷ xs) x all = All-cons P y xs (All-head P y (xs ++ x ∷ []) all) (All-front P xs x (All-tail P y (xs ++ x ∷ []) all))

pub All-last : {X : Type 0} (P : X → Type 0) (xs : List X) (x : X) → All P (xs ++ x ∷ []) → P x
All-last P [] x all = All-head P x [] all
All-last P (y ∷ xs) x all = All-last P xs x (All-tail P y (xs ++ x ∷ []) all)

-- those that are left
pub spares_left : (c : Case) (flags : List Bool) (reusable : List ReusableTable) → AreReusableTables c reusable → AreReusableTables c (filter (λ spare. fits flags spare.world) reusable)
spares_left c flags reusable are = All-filter (λ (spare : ReusableTable). fits flags spare.world) (IsReusableTable c) reusable are

-- a spare more, where there is room
pub spare_kept : (c : Case) (reusable : List ReusableTable) (spare : ReusableTable) (room : Bool) → IsReusableTable c spare → AreReusableTables c reusable → AreReusableTables c (if room then reusable ++ spare ∷ [] else reusable)
spare_kept c reusable spare true is are = All-append (IsReusableTable c) reusable (spare ∷ []) are (All-cons (IsReusableTable c) spare [] is (All-nil (IsReusableTable c)))
spare_kept c reusable spare false is are = are

-- it stands at the place of a kept world
pub spare_within : (c : Case) (worlds : List World) (spare : ReusableTable) → AreKept c (asked_of 0 c.cells) worlds → IsReusableTable c spare → spare.place < length worlds
spare_within c worlds spare kept is = omega (arith, kept_length c (asked_of 0 c.cells) worlds kept, slice_get_within (asked_of 0 c.cells) spare.place is.asked is.stands)

-- it may take its place
pub kept_offered : (c : Case) (flags : List Bool) (worlds : List World) (spare : ReusableTable) → IsReusableTable c spare → AreKept c (asked_of 0 c.cells) worlds → AreKept c (asked_of 0 c.cells) (offered flags worlds spare)
kept_offered c flags worlds spare is kept =
    elim (fits flags spare.world && not (option_map_or (fits flags) (slice_get worlds spare.place) false)) as (λ b. AreKept c (asked_of 0 c.cells) (if b then slice_set worlds spare.place spare.world else worlds)) [
      | true ↦ kept_set c (asked_of 0 c.cells) worlds spare.place is.asked spare.world is.stands is.kept kept
      | false ↦ kept
    ]
