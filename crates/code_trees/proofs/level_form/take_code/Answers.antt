use Rattle.std.proofs.Common.{◌≡◌, ◌++◌, ◌∷◌, [], List, None, subst, length-append, ℕ, true, false, nat_lt, Option, is_some, length, ap, sym, refl, ◌∙◌, arith}
use Rattle.std.specs.List.{list_any}
use Rattle.std.specs.Str.{bytes_eq}
use Rattle.sdc_base.specs.Trees.{codes}
use Rattle.code_trees.specs.Levels.{boundaries, with_prefixes}
use Rattle.code_trees.specs.Among.{AreAmong}
use Rattle.code_trees.proofs.Among.{among-more, codes-more}
use Rattle.code_trees.proofs.Gathered.{none-with, level-fault-by, is_over, not_over}
use Rattle.code_trees.proofs.level_form.take_code.Goals as goal

pub returns-then-is_some-clause-told : goal.returns-then-is_some-clause-told
returns-then-is_some-clause-told c =
    level-fault-by c.args.total.now (boundaries 0 c.args.widths.now) c.args.seen.now c.args.kept.now c.args.code.now c.args.number false false true _ (sym c.has_blank.ensures ∙ c.if-has_blank.false) (sym c.begins_with_total.ensures ∙ c.if-begins_with_total.false)
    (ap (λ (o : Option ℕ). is_some o) (sym c.code_place.ensures.place) ∙ sym c.is_some.ensures ∙ c.if-is_some.true) refl

pub returns-then-len-gt-MOST-clause-told : goal.returns-then-len-gt-MOST-clause-told
returns-then-len-gt-MOST-clause-told c =
    let over : nat_lt 5000 (length (with_prefixes (boundaries 0 c.args.widths.now) c.args.kept.now c.args.code.now)) ≡ true = is_over 5000 _ (omega (arith, ap length c.in_ok-add_prefixes.ensures)) in
    level-fault-by c.args.total.now (boundaries 0 c.args.widths.now) c.args.seen.now c.args.kept.now c.args.code.now c.args.number false false false true (sym c.has_blank.ensures ∙ c.if-has_blank.false) (sym c.begins_with_total.ensures ∙ c.if-begins_with_total.false)
    (ap (λ (o : Option ℕ). is_some o) (sym c.code_place.ensures.place) ∙ sym c.is_some.ensures ∙ c.if-is_some.false) over

pub returns-clause-told : goal.returns-clause-told
returns-clause-told c =
    let over : nat_lt 5000 (length (with_prefixes (boundaries 0 c.args.widths.now) c.args.kept.now c.args.code.now)) ≡ false = not_over 5000 _ (omega (arith, ap length c.in_ok-add_prefixes.ensures)) in
    level-fault-by c.args.total.now (boundaries 0 c.args.widths.now) c.args.seen.now c.args.kept.now c.args.code.now c.args.number false false false false (sym c.has_blank.ensures ∙ c.if-has_blank.false) (sym c.begins_with_total.ensures ∙ c.if-begins_with_total.false)
    (ap (λ (o : Option ℕ). is_some o) (sym c.code_place.ensures.place) ∙ sym c.is_some.ensures ∙ c.if-is_some.false) over

pub returns-clause-apart : goal.returns-clause-apart
returns-clause-apart c =
    ap (list_any (bytes_eq c.args.total.now)) c.in_ok-add_prefixes.ensures
    ∙ none-with (bytes_eq c.args.total.now) (boundaries 0 c.args.widths.now) c.args.kept.now c.args.code.now c.requires.apart (sym c.begins_with_total.ensures ∙ c.if-begins_with_total.false)

pub returns-clause-among : goal.returns-clause-among
returns-clause-among c = λ among.
    let seen = ap codes c.in_ok-push.ensures ∙ codes-more c.args.seen.now c.args.code.now None in
    subst (λ (these : List (List ℕ)). AreAmong these c.add_prefixes.new.kept) (sym seen)
    (subst (AreAmong (codes c.args.seen.now ++ c.args.code.now ∷ [])) (sym c.in_ok-add_prefixes.ensures) (among-more (boundaries 0 c.args.widths.now) (codes c.args.seen.now) c.args.kept.now c.args.code.now among))

pub returns-clause-count : goal.returns-clause-count
returns-clause-count c = ap length c.in_ok-push.ensures ∙ length-append c.args.seen.now ((c.args.code.now, None) ∷ [])
