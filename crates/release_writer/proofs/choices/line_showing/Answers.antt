use Rattle.std.proofs.Common.{◌≡◌, ◌<◌, ◌∙◌, ℕ, List, length, sym, subst}
use Rattle.release_writer.proofs.ShownText.{shown-some}
use Rattle.release_writer.proofs.choices.line_showing.Goals as goal

pub write_place-requires-clause-number : goal.write_place-requires-clause-number
write_place-requires-clause-number c =
    let text = c.as_slice-2.ensures ∙ c.in_ok-number.ensures.text in
    subst (λ (bytes : List ℕ). 0 < length bytes) (sym text) (shown-some c.args.sheet.now.decimals c.args.value)
