use Rattle.std.proofs.Common.{◌≡◌, ◌==◌, true, false, sym, ◌∙◌, rules, refl}
use Rattle.std.specs.Prelude.{codes}
use Rattle.std.specs.List.{before_first}
use Rattle.std.specs.Str.{bytes_eq}
use Rattle.certificate.proofs.LineSteps.{version_by_head}
use Rattle.certificate.proofs.reader.first_version.Goals as goal

pub returns-then-is_word : goal.returns-then-is_word
returns-then-is_word c =
    let is : bytes_eq (before_first (λ b. b == 10) c.args.bytes.now) (codes "argus certificate 1") ≡ true = rw (← c.cut_at.ensures.front) (sym c.is_word.ensures ∙ c.if-is_word.true) in
    rw (version_by_head c.args.bytes.now (search rules), is) refl

pub returns-then-is_word-2 : goal.returns-then-is_word-2
returns-then-is_word-2 c =
    let other : bytes_eq (before_first (λ b. b == 10) c.args.bytes.now) (codes "argus certificate 1") ≡ false = rw (← c.cut_at.ensures.front) (sym c.is_word.ensures ∙ c.if-is_word.false) in
    let is : bytes_eq (before_first (λ b. b == 10) c.args.bytes.now) (codes "argus certificate 2") ≡ true = rw (← c.cut_at.ensures.front) (sym c.is_word-2.ensures ∙ c.if-is_word-2.true) in
    rw (version_by_head c.args.bytes.now (search rules), other, is) refl

pub returns : goal.returns
returns c =
    let other : bytes_eq (before_first (λ b. b == 10) c.args.bytes.now) (codes "argus certificate 1") ≡ false = rw (← c.cut_at.ensures.front) (sym c.is_word.ensures ∙ c.if-is_word.false) in
    let none : bytes_eq (before_first (λ b. b == 10) c.args.bytes.now) (codes "argus certificate 2") ≡ false = rw (← c.cut_at.ensures.front) (sym c.is_word-2.ensures ∙ c.if-is_word-2.false) in
    rw (version_by_head c.args.bytes.now (search rules), other, none) refl
