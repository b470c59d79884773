-- Worlds that are answers for sets on the way of a protection.
use Rattle.std.proofs.Common.{◌≡◌, ℕ, zero, suc, ◌+◌, ◌<◌, ◌≤◌, inl, inr, ◌&&◌, not, Bool, true, false, List, [], ◌∷◌, ◌++◌, length, drop, filter, slice_get, slice_set, Some, ap, sym, ◌∙◌, subst, arith, if◌then◌else◌}
use Rattle.std.specs.Option.{option_map_or}
use Rattle.std.proofs.lemmas.List.{append-nil, append_assoc}
use Rattle.std.proofs.lemmas.List.Elements.{All-nil, All-cons, All-append, All-filter, All-weaker}
use Rattle.sdc_base.specs.declared.cell.Cell.{Cell}
use Rattle.sdc_base.specs.declared.cell.Kind.TheVariants.{Free}
use Rattle.sdc_base.specs.declared.side.Side.{Side}
use Rattle.sdc_base.specs.declared.system.System.{System}
use Rattle.sdc_base.specs.HiddenSets.{is_hidden, show}
use Rattle.worlds.specs.declared.refuted.Refuted.{Refuted}
use Rattle.worlds.specs.declared.world.World.{World}
use Rattle.worlds.specs.ProtectFaults.{asked_of}
use Rattle.repair.specs.declared.progress.Progress.{Progress}
use Rattle.repair.specs.declared.task.Task.{Task}
use Rattle.repair.specs.declared.trial.ReusableTable.{ReusableTable}
use Rattle.repair.specs.HidingOrder.{Case, IsOfKind, hide_subjects}
use Rattle.repair.specs.KeptWorlds.{IsRepaired}
use Rattle.repair.specs.LevelQuestions.{IsGiven}
use Rattle.repair.specs.OnTheWay.{IsOfFirst, IsOfTrial, IsOnWay, AreAnswers}
use Rattle.repair.specs.CellTrials.{fits, offered, IsTrialAnswer, AreTrialAnswers}
use Rattle.repair.specs.QuestionSteps.{IsRepairedUpTo}
use Rattle.repair.specs.Tasks.{case_of}
use Rattle.repair.proofs.Repairing.{none_repaired, on_to_next}
use Rattle.repair.proofs.TriedCells.{tried_now, tried_same}

-- ---- answers for some sets

pub given_wider : (Is More : List Bool → Type 0) (system : System) (cells : List Cell) (asked : ℕ × Side) (world : World) → ((set : List Bool) → Is set → More set) → IsGiven Is system cells asked world → IsGiven More system cells asked world
given_wider Is More system cells asked world wider is = record { set = is.set; is_one = wider is.set is.is_one; question = is.question; is_asked = is.is_asked; is_right = is.is_right; is_read = is.is_read }

pub answers_wider : (c : Case) (Is More : List Bool → Type 0) (asked : List (ℕ × Side)) (worlds : List World) → ((set : List Bool) → Is set → More set) → AreAnswers c Is asked worlds → AreAnswers c More asked worlds
answers_wider c Is More asked [] wider are = tt
answers_wider c Is More [] (w ∷ worlds) wider are = absurd are
answers_wider c Is More (q ∷ asked) (w ∷ worlds) wider are = (given_wider Is More c.system c.cells q w wider are.0, answers_wider c Is More asked worlds wider are.1)

-- answers for sets that repairs made are answers for sets on the way
pub answers_first : (c : Case) (planned : List Bool) (repairs : List Refuted) (flags : List Bool) (worlds : List World) → AreAnswers c (IsOfFirst planned repairs) (asked_of 0 c.cells) worlds → AreAnswers c (IsOnWay c planned repairs flags) (asked_of 0 c.cells) worlds
answers_first c planned repairs flags worlds are = answers_wider c (IsOfFirst planned repairs) (IsOnWay c planned repairs flags) (asked_of 0 c.cells) worlds (λ set own. inl own) are

-- an answer more
pub answers_push : (c : Case) (Is : List Bool → Type 0) (asked : List (ℕ × Side)) (worlds : List World) (one : ℕ × Side) (world : World) → slice_get asked (length worlds) ≡ Some one → IsGiven Is c.system c.cells one world → AreAnswers c Is asked worlds → AreAnswers c Is asked (worlds ++ world ∷ [])
answers_push c Is [] [] one world own is are = absurd cc
answers_push c Is [] (w ∷ worlds) one world own is are = absurd are
answers_push c Is (q ∷ asked) [] one world own is are =
    let same : q ≡ one = cc in
    (subst (λ (p : ℕ × Side). IsGiven Is c.system c.cells p world) (sym same) is, tt)
answers_push c Is (q ∷ asked) (w ∷ worlds) one world own is are = (are.0, answers_push c Is asked worlds one world own is are.1)

-- an answer put in its place
pub answers_set : (c : Case) (Is : List Bool → Type 0) (asked : List (ℕ × Side)) (worlds : List World) (place : ℕ) (one : ℕ × Side) (world : World) → slice_get asked place ≡ Some one → IsGiven Is c.system c.cells one world → AreAnswers c Is asked worlds → AreAnswers c Is asked (slice_set worlds place world)
answers_set c Is asked [] place one world own is are = tt
answers_set c Is [] (w ∷ worlds) place one world own is are = absurd are
answers_set c Is (q ∷ asked) (w ∷ worlds) zero one world own is are =
    let same : q ≡ one = cc in
    (subst (λ (p : ℕ × Side). IsGiven Is c.system c.cells p world) (sym same) is, are.1)
answers_set c Is (q ∷ asked) (w ∷ worlds) (suc place) one world own is are = (are.0, answers_set c Is asked worlds place one world own is are.1)

-- what is answered for one of the sets
pub given_by : (c : Case) (Is : List Bool → Type 0) (flags : List Bool) (asked : ℕ × Side) (world : World) → Is flags → IsGiven (λ set. set ≡ flags) c.system c.cells asked world → IsGiven Is c.system c.cells asked world
given_by c Is flags asked world own given = given_wider (λ set. set ≡ flags) Is c.system c.cells asked world (λ set is. subst Is (sym is) own) given

-- ---- sets that repairs made

pub first_whole : (planned flags : List Bool) (repairs : List Refuted) → flags ≡ hide_subjects planned repairs → IsOfFirst planned repairs flags
first_whole planned flags repairs is = record { earlier = repairs; later = []; is_cut = sym (append-nil repairs); set_is = is }

pub first_more : (planned : List Bool) (repairs : List Refuted) (repair : Refuted) (set : List Bool) → IsOfFirst planned repairs set → IsOfFirst planned (repairs ++ repair ∷ []) set
first_more planned repairs repair set is = record {
  earlier = is.earlier;
  later = is.later ++ repair ∷ [];
  is_cut = ap (λ (l : List Refuted). l ++ repair ∷ []) is.is_cut ∙ append_assoc is.earlier is.later (repair ∷ []);
  set_is = is.set_is;
}

pub none_up_to : (task : Task) (progress : Progress World Refuted) → progress.tables ≡ [] → progress.reasons ≡ [] → IsRepairedUpTo task 0 progress.hidden.flags progress
none_up_to task progress no_worlds no_repairs = record {
  is_repaired = subst (λ (r : List Refuted). IsRepaired (case_of task) task.prices.now progress.hidden.flags progress.hidden.flags r 0) (sym no_repairs) (none_repaired (case_of task) task.prices.now progress.hidden.flags);
  answers = subst (AreAnswers (case_of task) (IsOfFirst progress.hidden.flags progress.reasons) (asked_of 0 task.cells.now)) (sym no_worlds) tt;
}

pub up_to_next : (task : Task) (place : ℕ) (planned : List Bool) (progress : Progress World Refuted) → IsRepairedUpTo task place planned progress → IsRepairedUpTo task (place + 1) planned progress
up_to_next task place planned progress is = record {
  is_repaired = on_to_next (case_of task) task.prices.now planned progress.hidden.flags progress.reasons place is.is_repaired;
  answers = is.answers;
}

-- ---- sets with which cells were tried

trial_set : (c : Case) (larger : List Bool) (n : ℕ) (flags : List Bool) (m : ℕ) (v : Bool) → n ≤ m + 1 → (set : List Bool) → IsOfTrial c larger n flags set → IsOfTrial c larger n (slice_set flags m v) set
trial_set c larger n flags m v most set is = record {
  cell = is.cell;
  below = is.below;
  is_free = is.is_free;
  was_open = is.was_open;
  set_is = is.set_is ∙ sym (tried_same flags larger is.cell m v (omega (arith, most, is.below)));
}

trial_later : (c : Case) (larger : List Bool) (n later : ℕ) (flags : List Bool) → n ≤ later → (set : List Bool) → IsOfTrial c larger n flags set → IsOfTrial c larger later flags set
trial_later c larger n later flags least set is = record { cell = is.cell; below = omega (arith, is.below, least); is_free = is.is_free; was_open = is.was_open; set_is = is.set_is }

-- a later cell that is shown or hidden changes no earlier trial
pub trials_set : (c : Case) (larger : List Bool) (n : ℕ) (flags : List Bool) (m : ℕ) (v : Bool) (reusable : List ReusableTable) → n ≤ m + 1 → AreTrialAnswers c larger n flags reusable → AreTrialAnswers c larger n (slice_set flags m v) reusable
trials_set c larger n flags m v reusable most are =
    All-weaker (IsTrialAnswer c larger n flags) (IsTrialAnswer c larger n (slice_set flags m v)) (λ (spare : ReusableTable) is. record {
      asked = is.asked;
      stands = is.stands;
      given = given_wider (IsOfTrial c larger n flags) (IsOfTrial c larger n (slice_set flags m v)) c.system c.cells is.asked spare.world (trial_set c larger n flags m v most) is.given;
    }) reusable are

pub trials_later : (c : Case) (larger : List Bool) (n later : ℕ) (flags : List Bool) (reusable : List ReusableTable) → n ≤ later → AreTrialAnswers c larger n flags reusable → AreTrialAnswers c larger later flags reusable
trials_later c larger n later flags reusable least are =
    All-weaker (IsTrialAnswer c larger n flags) (IsTrialAnswer c larger later flags) (λ (spare : ReusableTable) is. record {
      asked = is.asked;
      stands = is.stands;
      given = given_wider (IsOfTrial c larger n flags) (IsOfTrial c larger later flags) c.system c.cells is.asked spare.world (trial_later c larger n later flags least) is.given;
    }) reusable are

pub trials_more : (c : Case) (larger : List Bool) (n : ℕ) (flags : List Bool) (reusable : List ReusableTable) (spare : ReusableTable) (room : Bool) → IsTrialAnswer c larger n flags spare → AreTrialAnswers c larger n flags reusable → AreTrialAnswers c larger n flags (if room then reusable ++ spare ∷ [] else reusable)
trials_more c larger n flags reusable spare true is are = All-append (IsTrialAnswer c larger n flags) reusable (spare ∷ []) are (All-cons (IsTrialAnswer c larger n flags) spare [] is (All-nil (IsTrialAnswer c larger n flags)))
trials_more c larger n flags reusable spare false is are = are

-- the set with which a cell is being tried
pub trial_now : (c : Case) (larger : List Bool) (n : ℕ) (flags : List Bool) → n < length flags → drop n flags ≡ drop n larger → IsOfKind c.cells n Free → is_hidden larger n ≡ true → IsOfTrial c larger (n + 1) (show flags n) (show flags n)
trial_now c larger n flags inside rest is_free was_open = record {
  cell = n;
  below = omega arith;
  is_free = is_free;
  was_open = was_open;
  set_is = sym (tried_now flags larger n inside rest) ∙ sym (tried_same flags larger n n false (omega arith));
}

-- a spare that takes its place
pub answers_offered : (c : Case) (planned : List Bool) (repairs : List Refuted) (flags : List Bool) (worlds : List World) (spare : ReusableTable) → IsTrialAnswer c (hide_subjects planned repairs) (length c.cells) flags spare → AreAnswers c (IsOnWay c planned repairs flags) (asked_of 0 c.cells) worlds → AreAnswers c (IsOnWay c planned repairs flags) (asked_of 0 c.cells) (offered flags worlds spare)
answers_offered c planned repairs flags worlds spare is are =
    let given : IsGiven (IsOnWay c planned repairs flags) c.system c.cells is.asked spare.world =
    given_wider (IsOfTrial c (hide_subjects planned repairs) (length c.cells) flags) (IsOnWay c planned repairs flags) c.system c.cells is.asked spare.world (λ set own. inr (inl own)) is.given in
    elim (fits flags spare.world && not (option_map_or (fits flags) (slice_get worlds spare.place) false)) as (λ b. AreAnswers c (IsOnWay c planned repairs flags) (asked_of 0 c.cells) (if b then slice_set worlds spare.place spare.world else worlds)) [
      | true ↦ answers_set c (IsOnWay c planned repairs flags) (asked_of 0 c.cells) worlds spare.place is.asked spare.world is.stands given are
      | false ↦ are
    ]

-- while the next cell is being tried, the reusable tables are still answers of trials
pub trials_tried : (c : Case) (larger : List Bool) (n : ℕ) (flags : List Bool) (reusable : List ReusableTable) → AreTrialAnswers c larger n flags reusable → AreTrialAnswers c larger (n + 1) (show flags n) reusable
trials_tried c larger n flags reusable are = trials_set c larger (n + 1) flags n false reusable (omega arith) (trials_later c larger n (n + 1) flags reusable (omega arith) are)

-- those that are left
pub trials_left : (c : Case) (larger : List Bool) (n : ℕ) (flags set : List Bool) (reusable : List ReusableTable) → AreTrialAnswers c larger n flags reusable → AreTrialAnswers c larger n flags (filter (λ spare. fits set spare.world) reusable)
trials_left c larger n flags set reusable are = All-filter (λ (spare : ReusableTable). fits set spare.world) (IsTrialAnswer c larger n flags) reusable are
